use Prim.Native.Nat.{ℕ, zero, suc, ◌+◌, ◌-◌, ◌≤◌, ◌<◌}
use native.Mathlib.Omega.{arith}
use mathlib.Core.Path.{◌≡◌, refl, sym, ap, ◌∙◌}
use mathlib.Core.List.{List, [], ◌∷◌}
use lib.ListN.{length, get_or, drop, drop_of_length-le}
use Rattle.std.proofs.Common.{add-one}
use Rattle.std.proofs.lemmas.Grind.{common_steps}
use Rattle.track_rules.specs.Steps.{word_total, word_totals, cursor, settle_of}
use Rattle.track_rules.proofs.Words.{words_drop, words_length}
use Rattle.track_rules.proofs.Cursors.{settle_here, settle_on, settle-end}
use Rattle.track_record.proofs.cursor.settle.Goals as goal

-- what the components from one on write
totals_from : (r : ℕ) (ws : List ℕ) (k : ℕ) → word_totals r (drop k ws) ≡ drop k (word_totals r ws)
unfolding word_totals
totals_from r ws zero = refl
totals_from r [] (suc k) = refl
totals_from r (w ∷ ws) (suc k) = totals_from r ws k

module _ (r : ℕ) (ws rest : List ℕ) (first start : ℕ) (e : rest ≡ drop first ws) where
  abbrev all : List ℕ
  all = word_totals r rest

  whole : settle_of all first start ≡ settle_of (drop first (word_totals r ws)) first start
  whole = ap (λ (l : List ℕ). settle_of (word_totals r l) first start) e ∙ ap (λ (l : List ℕ). settle_of l first start) (totals_from r ws first)

  here : (i o n : ℕ) → i < length rest → n ≡ word_total r (get_or rest i 0) → o < n → settle_of (drop i all) (first + i) o ≡ settle_of all first start
      → cursor (first + i) o ≡ settle_of (drop first (word_totals r ws)) first start
  here i o n h f g s =
      sym (ap (λ (l : List ℕ). settle_of l (first + i) o) (words_drop r rest i h) ∙ settle_here (word_total r (get_or rest i 0)) (drop (suc i) all) (first + i) o (omega (arith, f, g))) ∙ s ∙ whole

  next : (i o n : ℕ) → i < length rest → n ≡ word_total r (get_or rest i 0) → n ≤ o → settle_of (drop i all) (first + i) o ≡ settle_of all first start
      → settle_of (drop (i + 1) all) (first + (i + 1)) (o - n) ≡ settle_of all first start
  next i o n h f g s =
      let one : first + (i + 1) ≡ suc (first + i) = omega arith in
      rw (one, add-one i, f) (sym (ap (λ (l : List ℕ). settle_of l (first + i) o) (words_drop r rest i h) ∙ settle_on (word_total r (get_or rest i 0)) (drop (suc i) all) (first + i) o (omega (arith, f, g))) ∙ s)

  past : (i o : ℕ) → length rest ≤ i → i ≤ length rest → settle_of (drop i all) (first + i) o ≡ settle_of all first start
      → cursor (first + length rest) o ≡ settle_of (drop first (word_totals r ws)) first start
  past i o h g s =
      let e : length rest ≡ i = omega arith in
      rw e (sym (ap (λ (l : List ℕ). settle_of l (first + i) o) (drop_of_length-le all (omega (arith, words_length r rest, h))) ∙ settle-end (first + i) o) ∙ s ∙ whole)

pub returns-then-offset-tracks : goal.returns-then-offset-tracks
returns-then-offset-tracks c =
    let e : c.unwrap_or-rest.result.now ≡ drop c.args.at.component c.args.components.now = grind (arith, common_steps) in
    here c.args.repetitions c.args.components.now _ c.args.at.component c.args.at.offset e c.loop-passed.passed c.loop-passed.offset c.total-tracks.result c.loop-passed-test.true c.total-tracks.ensures c.if-offset-tracks.true c.loop-passed.invariant

pub loop-passed-preserved : goal.loop-passed-preserved
loop-passed-preserved c = next c.args.repetitions c.args.components.now c.unwrap_or-rest.result.now c.args.at.component c.args.at.offset (grind (arith, common_steps)) c.loop-passed.passed c.loop-passed.offset c.total-tracks.result c.loop-passed-test.true c.total-tracks.ensures (omega arith) c.loop-passed.invariant

pub returns : goal.returns
returns c =
    let e : c.unwrap_or-rest.result.now ≡ drop c.args.at.component c.args.components.now = grind (arith, common_steps) in
    past c.args.repetitions c.args.components.now _ c.args.at.component c.args.at.offset e c.loop-passed.passed c.loop-passed.offset c.loop-passed-test.false (omega (arith, c.loop-passed.auto.passed-end)) c.loop-passed.invariant
