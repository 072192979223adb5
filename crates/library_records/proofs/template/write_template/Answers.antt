use Prim.Native.Nat.{ℕ, ◌+◌, ◌*◌, ◌-◌, ◌≤◌, ◌<◌}
use native.Mathlib.Omega.{arith}
use mathlib.Core.Path.{refl, sym, ap, subst, ◌∙◌}
use mathlib.Core.List.{List}
use lib.ListN.{length}
use lib.Seq.{sets, length-sets}
use Rattle.template_rules.specs.Template.{template_of}
use Rattle.track_rules.specs.Steps.{word_totals, sum_of}
use Rattle.track_record.proofs.Components.{totals, runs_first, component-left}
use Rattle.library_records.specs.Pairs.{part_pair, template_pair}
use Rattle.library_records.proofs.Pairs.{written_none, written_all, written-more, joined_same}
use Rattle.library_records.proofs.Components.{Taken, taken, taken-pair, part_few, in_parts}
use Rattle.library_records.proofs.template.write_template.Goals as goal
use Rattle.library_records.proofs.template.write_template.Goals.{After-part_at-part}

-- the part that is taken next
part-taken : (c : After-part_at-part) →
    Taken c.args.lent.grid.size.repetitions c.template-template.result.components.now c.template-template.result.sizes.minimums.now c.template-template.result.sizes.maximums.now c.args.offset c.loop-done.done c.args.tracks.count c.loop-done.at.component c.part_at-part.result
part-taken c =
    let a = c.args in
    let ws = c.template-template.result.components.now in
    let l = c.loop-done in
    let less = c.loop-done-test.true in
    let small : l.at.component < length ws = component-left a.lent.grid.size.repetitions ws l.at.component l.at.offset (a.tracks.count - l.done) (l.invariant.1 (omega (arith, less))) (omega (arith, less)) in
    taken a.lent.grid.size.repetitions ws c.template-template.result.sizes.minimums.now c.template-template.result.sizes.maximums.now a.offset l.done a.tracks.count l.at.component l.at.offset small l.invariant.1 l.invariant.2 c.part_at-part.result c.part_at-part.ensures.value

pub loop-done-init : goal.loop-done-init
loop-done-init c =
    let a = c.args in
    let p = c.requires in
    let ws = c.template-template.result.components.now in
    let r = c.args.lent.grid.size.repetitions in (
      omega arith,
      λ h. let g : a.offset + a.tracks.count ≤ sum_of (totals r ws) = subst (λ (x : List ℕ). a.offset + a.tracks.count ≤ sum_of (word_totals r x)) (sym c.template-template.ensures.components) (p.count_bound (omega arith)) in omega arith,
      runs_first r ws a.offset (a.tracks.count - 0),
      refl,
      written_none (template_pair (totals a.lent.grid.size.repetitions ws) (template_of ws c.template-template.result.sizes.minimums.now c.template-template.result.sizes.maximums.now) a.lent.items.now a.offset a.tracks.first a.gutters) a.words.now a.tracks.place a.tracks.first a.tracks.count,
    )

pub invariant_of-stretch : goal.invariant_of-stretch
invariant_of-stretch c =
    let t = part-taken (goal.at.invariant_of-stretch c).After-part_at-part in
    omega (arith, c.args.tracks.numbered, c.loop-done-test.true, t.fits)

pub loop-done-smaller : goal.loop-done-smaller
loop-done-smaller c =
    let t = part-taken (goal.at.loop-done-smaller c).After-part_at-part in
    omega (arith, t.on, t.held)

pub returns : goal.returns
returns c =
    let a = c.args in
    let ws = c.template-template.result.components.now in
    let l = c.loop-done in
    let mi = c.template-template.result.sizes.minimums.now in
    let ma = c.template-template.result.sizes.maximums.now in
    let pair = template_pair (totals a.lent.grid.size.repetitions ws) (template_of ws mi ma) a.lent.items.now a.offset a.tracks.first a.gutters in
    sym (written_all pair l.words a.tracks.place a.tracks.first a.tracks.count l.done c.loop-done-test.false) ∙ l.invariant.4
    ∙ ap (sets a.words.now a.tracks.place)
    (in_parts a.lent.grid a.lent.tables.now ws mi ma c.template-template.ensures.components c.template-template.ensures.minimums c.template-template.ensures.maximums a.lent.items.now a.offset a.tracks.first a.tracks.count a.gutters)

pub part_at-part-requires : goal.part_at-part-requires
part_at-part-requires c =
    let a = c.args in
    let p = c.requires in
    let ws = c.template-template.result.components.now in
    let l = c.loop-done in
    let less = c.loop-done-test.true in
    let small : l.at.component < length ws = component-left a.lent.grid.size.repetitions ws l.at.component l.at.offset (a.tracks.count - l.done) (l.invariant.1 (omega (arith, less))) (omega (arith, less)) in
    let few : length ws ≤ a.lent.grid.template.components = subst (λ (x : List ℕ). length x ≤ a.lent.grid.template.components) (sym c.template-template.ensures.components) (part_few a.lent.tables.now 0 a.lent.grid.template.components) in
    record { component_in_bounds = small; components_len_bound = omega (arith, few, c.well_formed) }

pub loop-done-preserved : goal.loop-done-preserved
loop-done-preserved c =
    let a = c.args in
    let ws = c.template-template.result.components.now in
    let l = c.loop-done in
    let less = c.loop-done-test.true in
    let x = c.part_at-part.result in
    let mi = c.template-template.result.sizes.minimums.now in
    let ma = c.template-template.result.sizes.maximums.now in
    let t = part-taken (goal.at.loop-done-preserved c).After-part_at-part in
    let small : l.at.component < length ws = omega (arith, t.on, t.held) in
    let pair = template_pair (totals a.lent.grid.size.repetitions ws) (template_of ws mi ma) a.lent.items.now a.offset a.tracks.first a.gutters in
    let part = part_pair mi ma a.lent.items.now x.repeated l.at.offset (a.tracks.first + l.done) a.gutters in
    let put = c.write_part.ensures in (
      omega (arith, less, t.fits),
      t.sum,
      t.runs,
      ap length put ∙ simp length-sets l.invariant.3,
      written-more pair (λ u. refl) l.words c.write_part.new.words a.tracks.place a.tracks.first a.tracks.count l.done x.count (omega (arith, less, t.fits))
          (put ∙ ap (sets l.words (a.tracks.place + 6 * l.done))
          (joined_same part pair (a.tracks.first + l.done) x.count
          (taken-pair a.lent.grid.size.repetitions ws mi ma a.offset l.done a.tracks.count l.at.component l.at.offset small l.invariant.1 l.invariant.2 a.lent.items.now a.gutters a.tracks.first x c.part_at-part.ensures.value))) ∙ l.invariant.4,
    )

pub write_part-requires : goal.write_part-requires
write_part-requires c =
    let l = c.loop-done in
    let less = c.loop-done-test.true in
    let t = part-taken (goal.at.write_part-requires c).After-part_at-part in
    record { length_nonzero = t.some; length_bound = c.part_at-part.ensures.few; count_in_bounds = omega (arith, less, t.fits, l.invariant.3) }
