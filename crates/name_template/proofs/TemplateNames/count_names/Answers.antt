use mathlib.Core.Bool.{false}
use Rattle.name_template.specs.Records.{leading}
use native.Mathlib.Omega.{arith}
use native.Mathlib.Numerals.{add-one}
use mathlib.Core.Path.{◌≡◌}
use mathlib.Core.List.{◌∷◌}
use Prim.Native.Nat.{ℕ, ◌+◌, ◌-◌, ◌*◌, min}
use lib.ListN.{length, get_or, drop}
use lib.Seq.{drop-cons}
use Rattle.name_template.proofs.Walking.{stands-next, met-before, met-inside, met-length, last-length}
use Rattle.name_template.proofs.Holding.{sum_step, sum-last}
use Rattle.name_template.proofs.TemplateNames.count_names.Goals as goal

pub overflow_sub-c : goal.overflow_sub-c
overflow_sub-c c = let l = c.loop-k in let a = c.args in omega (arith, met-before a.self.names.now l.at (get_or a.self.components.now l.k 0) l.k l.line a.self.repetitions c.component_names-c.result c.component_names-c.ensures.value l.invariant.0.placed)

pub overflow_sub-c-in-loop-k : goal.overflow_sub-c-in-loop-k
overflow_sub-c-in-loop-k c = let l = c.loop-k in let a = c.args in omega (arith, met-inside a.self.names.now l.at (get_or a.self.components.now l.k 0) l.k l.line a.self.repetitions c.component_names-c.result c.component_names-c.ensures.value l.invariant.0.placed)

pub loop-k-preserved : goal.loop-k-preserved
loop-k-preserved c = let l = c.loop-k in let a = c.args in
    let w : ℕ = get_or a.self.components.now l.k 0 in
    let r = c.component_names-c.result in
    let d : drop l.k a.self.components.now ≡ w ∷ drop (l.k + 1) a.self.components.now = rw (add-one l.k) (drop-cons a.self.components.now l.k 0 (omega arith)) in (
      stands-next a.self.names.now l.at (get_or a.self.components.now l.k 0) l.k l.line a.self.repetitions c.component_names-c.result c.component_names-c.ensures.value c.component_names-c.ensures.few l.invariant.0,
      omega (arith, c.held_sum-count.ensures),
      sum_step l.count c.held_sum-outside.result c.held_sum-count.result (r.before - l.at) (r.times * (r.inside - r.before)) _ _ _
          c.held_sum-outside.ensures c.held_sum-count.ensures (met-length a.self.names.now l.at (get_or a.self.components.now l.k 0) l.k l.line a.self.repetitions c.component_names-c.result c.component_names-c.ensures.value l.invariant.0.placed (drop (l.k + 1) a.self.components.now))
          (rw d at l.invariant.2),
    )

pub returns : goal.returns
returns c = let l = c.loop-k in let a = c.args in
    let z : c.min-last.result ≡ l.k = omega arith in
    let f = rw z at c.end_of_names-end.ensures in
    let e : l.k ≡ min 256 (length a.self.components.now) = omega (arith, c.min-last.ensures) in
    let n = leading false l.k (drop l.at a.self.names.now) in
    let s : c.end_of_names-end.result - l.at ≡ n = omega (arith, f) in
    sum-last l.count c.held_sum.result n _ _ (rw s at c.held_sum.ensures)
    (last-length a.self.repetitions l.k l.line l.at a.self.names.now a.self.components.now e) l.invariant.2
