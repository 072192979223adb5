use Prim.Native.Nat.{◌+◌, ◌%◌, ◌≤◌, ◌<◌, ◌^◌}
use native.Mathlib.Omega.{arith}
use native.Mathlib.Nat.{mod-lt}
use mathlib.Core.Path.{◌≡◌, sym, ap, ◌∙◌}
use lib.ListN.{length, get_or}
use Rattle.std.proofs.Common.{rules}
use Rattle.template_rules.specs.Template.{Component, component_of, track_at}
use Rattle.template_rules.specs.declared.GridTemplateComponent.{GridTemplateComponent}
use Rattle.track_rules.specs.Written.{written}
use Rattle.track_rules.specs.Steps.{no_component, written_in}
use Rattle.track_rules.proofs.Words.{template-past, template-get, no-tracks, track_in, first_fits, length-fits}
use Rattle.track_record.proofs.cursor.written_at.Goals as goal

pub returns-in_default : goal.returns-in_default
returns-in_default c =
    let t = c.args.template in
    let u = c.args.at in
    let h : length t.components.now ≤ u.component = search rules in
    c.no_track.ensures ∙ sym (ap (λ (x : Component). written_in x u.offset) (template-past t.components.now t.sizes.minimums.now t.sizes.maximums.now u.component h))

pub returns-then-component-eq0 : goal.returns-then-component-eq0
returns-then-component-eq0 c =
    let t = c.args.template in
    let u = c.args.at in
    let w = get_or t.components.now u.component 0 in
    let h : u.component < length t.components.now = search rules in
    let v : c.in-Some.word.now ≡ w = search rules in
    let e : c.from-component.result ≡ component_of w = c.from-component.ensures ∙ ap component_of v in
    let z : (component_of w).length ≡ 0 = rw (sym e) c.if-component-eq0.true in
    c.no_track-then-component-eq0.ensures
    ∙ sym (ap (λ (y : Component). written_in y u.offset) (template-get t.components.now t.sizes.minimums.now t.sizes.maximums.now u.component no_component h)
    ∙ no-tracks t.sizes.minimums.now t.sizes.maximums.now w u.offset z)

pub overflow_add-place : goal.overflow_add-place
overflow_add-place c =
    let w = c.in-Some.word.now in
    let b : w < 2 ^ 64 = search rules in
    let x = c.from-component.result in
    let e : x ≡ component_of w = c.from-component.ensures in
    let f : x.first < 65536 = rw e (first_fits w) in
    let l : x.length < 65536 = rw e (length-fits w (omega (arith, b))) in
    omega (arith, mod-lt c.args.at.offset {m = x.length} (omega arith))

pub returns : goal.returns
returns c =
    let t = c.args.template in
    let u = c.args.at in
    let w = get_or t.components.now u.component 0 in
    let h : u.component < length t.components.now = search rules in
    let v : c.in-Some.word.now ≡ w = search rules in
    let x = c.from-component.result in
    let e : x ≡ component_of w = c.from-component.ensures ∙ ap component_of v in
    let z : (component_of w).length ≡ 0 → ⊥ = rw (sym e) c.if-component-eq0.false in
    c.written_track.ensures
    ∙ ap (written x.count) c.track_at.ensures
    ∙ ap (λ (y : GridTemplateComponent). written y.count (track_at t.sizes.minimums.now t.sizes.maximums.now (y.first + u.offset % y.length))) e
    ∙ sym (ap (λ (y : Component). written_in y u.offset) (template-get t.components.now t.sizes.minimums.now t.sizes.maximums.now u.component no_component h)
    ∙ track_in t.sizes.minimums.now t.sizes.maximums.now w u.offset z)
