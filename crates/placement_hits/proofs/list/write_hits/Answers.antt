use mathlib.Core.Path.{◌≡◌, sym, ◌∙◌}
use mathlib.Core.List.{◌++◌, ◌∷◌, []}
use mathlib.Core.Logic.{⊎_elim}
use Prim.Native.Nat.{◌+◌, ◌≤◌, min}
use native.Mathlib.Omega.{arith}
use lib.ListN.{length, length-append}
use Rattle.placement_hits.specs.Steps.{Listed, is_hit}
use Rattle.placement_hits.proofs.Listing.{listed-turn, listed-done, listed-first, few-listed}
use Rattle.placement_hits.proofs.Chunks.{listed_here, rest-next, one-held, all-held}
use Rattle.placement_hits.proofs.list.write_hits.Goals as goal

pub loop-index-preserved : goal.loop-index-preserved
loop-index-preserved c =
    let a = c.args in let l = c.loop-index in let t = is_hit a.asked a.numbers.now in let k = length l.yielded in
    let s = rw c.in-Some.is at c.next.ensures.steps in
    let before : Listed = record { count = l.written; hits = l.hits } in
    let cut = sym l.invariant.5 ∙ s.1.1.0 in
    let whole = s.1.1.1 ∙ l.invariant.4 in
    let few = one-held a.numbers.now k c.in-Some.chunk.now _ cut whole c.told-numbers in
    let put = listed_here a.numbers.now k c.in-Some.chunk.now _ cut whole a.asked c.in-Some.index before _ (s.0.1.1 ∙ l.invariant.2) c.put_hit-written.ensures in
    let n : length (l.yielded ++ ((c.in-Some.index, c.in-Some.chunk) ∷ [])) ≡ k + 1 = length-append l.yielded ((c.in-Some.index, c.in-Some.chunk) ∷ []) in
    rw n (
      few-listed (t k) k before _ put l.invariant.0,
      omega (arith, few, s.0.1.0, l.invariant.2, l.invariant.3),
      omega (arith, s.0.1.2, l.invariant.2),
      s.0.0 ∙ l.invariant.3,
      s.1.0 ∙ l.invariant.4,
      rest-next a.numbers.now k c.in-Some.chunk.now _ cut whole,
      listed-turn t k (min a.count 512) before _ _ (omega (arith, few, s.0.1.0, l.invariant.2, l.invariant.3)) put l.invariant.6,
    )

pub returns : goal.returns
returns c =
    let a = c.args in let l = c.loop-index in let t = is_hit a.asked a.numbers.now in let k = min a.count 512 in
    let ended : k ≤ length l.yielded =
    ⊎_elim
    (λ h. omega (arith, h.1.1, l.invariant.2, l.invariant.3))
    (λ h. omega (arith, all-held a.numbers.now (length l.yielded) c.told-numbers (rw (l.invariant.5, l.invariant.4) at h.1.1.0)))
    (rw c.in-None.is at c.next.ensures.steps) in
    sym (listed-done t (length l.yielded) k (record { count = l.written; hits = l.hits }) ended) ∙ l.invariant.6 ∙ listed-first t k a.hits.now
