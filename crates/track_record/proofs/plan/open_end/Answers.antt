use Prim.Native.Nat.{ℕ, ◌-◌, ◌≤◌, ◌<◌, min}
use native.Mathlib.Omega.{arith}
use mathlib.Core.Path.{◌≡◌, ap, ◌∙◌}
use mathlib.Core.Logic.{⊎_elim}
use mathlib.Core.List.{List}
use lib.ListN.{length, get_or, drop}
use Rattle.std.proofs.lemmas.Bool.{cases_lt}
use Rattle.std.proofs.lemmas.Grind.{common_steps}
use Rattle.track_rules.specs.Steps.{word_total}
use mathlib.Core.Bool.{not, ◌&&◌}
use Rattle.track_rules.specs.Records.{item_at, open_to}
use Rattle.track_rules.proofs.Opened.{open_le}
use Rattle.track_record.specs.declared.Repeated.{Repeated}
use Rattle.track_record.proofs.Components.{runs_first, component-left, turn}
use Rattle.track_record.proofs.Opens.{open-first, turn-none, turn-some}
use Rattle.track_record.proofs.plan.open_end.Goals.{then-last-ne0, else-last-ne0}
use Rattle.track_record.proofs.plan.open_end.Goals as goal

pub loop-word-init : goal.loop-word-init
loop-word-init c =
    let t = c.args.template in
    let r = c.args.repetitions in (
      omega arith,
      λ h. omega (arith, c.requires),
      runs_first r t.components.now 0 (c.args.count - 0),
      open-first r t.components.now t.sizes.minimums.now t.sizes.maximums.now c.args.items.now,
    )

pub overflow_add-opened : goal.overflow_add-opened
overflow_add-opened c = omega (arith, c.loop-word.invariant.0, c.before_end-taken.ensures, c.open_count-last.ensures, open_le (λ j. c.repeated_of.result.fit && not (item_at c.unwrap_or-rest.result.now j)) c.before_end-taken.result)

pub loop-word-preserved : goal.loop-word-preserved
loop-word-preserved c =
    let a = c.args in
    let t = a.template in
    let ws = t.components.now in
    let r = a.repetitions in
    let l = c.loop-word in
    let small : l.word-index < length ws = c.loop-word-test.true in
    let e : c.before_end-taken.result ≡ min (word_total r (get_or ws l.word-index 0) - 0) (a.count - l.done) =
    c.before_end-taken.ensures ∙ ap (λ (n : ℕ). min (n - 0) (a.count - l.done)) c.total.ensures in
    let m = c.before_end-taken.result in
    let none : 0 ≡ 0 - c.total.result = omega arith in
    let on = turn r ws 0 l.done a.count l.word-index 0 m 0 c.total.result c.total.ensures c.before_end-taken.ensures none small l.invariant.1 l.invariant.2 in
    let rest : c.unwrap_or-rest.result.now ≡ drop l.done a.items.now = grind (arith, common_steps) in
    let fit = c.repeated_of.result.fit in
    let last : c.open_count-last.result ≡ open_to (λ j. fit && not (item_at (drop l.done a.items.now) j)) m =
    c.open_count-last.ensures ∙ ap (λ (i : List ℕ). open_to (λ j. fit && not (item_at i j)) m) rest in
    let told = ap (λ (x : Repeated). x.fit) c.repeated_of.ensures in (
      omega (arith, e, l.invariant.0),
      on.0,
      on.1,
      elim c.if-last-ne0.branch [
        | then-last-ne0 w ↦ w.opened-is ∙ turn-some r ws t.sizes.minimums.now t.sizes.maximums.now a.items.now l.done l.word-index (a.count - l.done) m c.open_count-last.result fit l.invariant.2 small e told l.opened l.invariant.3 last w.if-last-ne0.true
        | else-last-ne0 w ↦ w.opened-is ∙ turn-none r ws t.sizes.minimums.now t.sizes.maximums.now a.items.now l.done l.word-index (a.count - l.done) m c.open_count-last.result fit l.invariant.2 small e told l.opened l.invariant.3 last w.if-last-ne0.false
      ],
    )

pub returns : goal.returns
returns c =
    let a = c.args in
    let l = c.loop-word in
    let all : l.done ≡ a.count =
    ⊎_elim
    (λ (h : l.done < a.count). absurd (omega (arith, component-left a.repetitions a.template.components.now l.word-index 0 (a.count - l.done) (l.invariant.1 (omega arith)) (omega arith), c.loop-word-test.false)))
    (λ (h : a.count ≤ l.done). omega (arith, l.invariant.0))
    (cases_lt l.done a.count) in
    rw (← all) l.invariant.3
