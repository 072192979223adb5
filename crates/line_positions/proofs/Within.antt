-- The lines within a span of pixels are those between two counts: positions never fall. Assumes nothing.
use Rattle.std.proofs.lemmas.Bool.{cases_lt}
use Rattle.std.specs.Prelude.{Option}
use mathlib.Core.Path.{◌≡◌, refl, sym, subst}
use mathlib.Core.Logic.{⊎_elim}
use Prim.Native.Nat.{ℕ, zero, suc, ◌≤◌, ◌<◌}
use native.Mathlib.Omega.{arith}
use mathlib.Core.Bool.{Bool, true, false, cond, true≢false}
use mathlib.Core.List.{List}
use lib.Dec.{T}
use lib.Ieee.{Float, lt, le}
use Rattle.sizing.specs.Words.{largest_bits, float_up_to}
use Rattle.sizing.proofs.Operations.{nonneg}
use Rattle.track_rules.specs.declared.GridTrack.{GridTrack}
use Rattle.line_positions.specs.Positions.{tracks_among, position_of, Within, count_of, lines_before, lines_up_to, InRange}
use Rattle.line_positions.proofs.Walk.{count_le}
use Rattle.line_positions.proofs.Differences.{le_trans_nonneg, not-less, not-above, less-under}
use Rattle.line_positions.proofs.Rise.{positions-rise, position-finite, pixel_finite}

-- ---- a test that holds up to some place

module _ (test : ℕ → Bool) (falls : (j k : ℕ) → j ≤ k → T (test k) → T (test j)) where
  grows : (t : Bool) (c : ℕ) → c ≤ cond t (suc c) c
  grows true c = omega arith
  grows false c = omega arith

  counted : (t : Bool) (c : ℕ) → T t → cond t (suc c) c ≡ suc c
  counted true c h = refl
  counted false c h = absurd h

  uncounted : (t : Bool) (c : ℕ) → (T t → ⊥) → cond t (suc c) c ≡ c
  uncounted true c h = absurd (h tt)
  uncounted false c h = refl

  -- where it holds at a place, that place is counted
  full : (n : ℕ) → ((j : ℕ) → j < n → T (test j)) → n ≤ count_of test n
  unfolding count_of
  full zero h = omega arith
  full (suc n) h =
      let k = full n (λ j u. h j (omega arith)) in
      rw (counted (test n) (count_of test n) (h n (omega arith))) (omega arith)

  pub holds-below : (n k : ℕ) → k < n → T (test k) → k < count_of test n
  unfolding count_of
  holds-below zero k h t = absurd (none k h)
    where
      none : (k : ℕ) → k < 0 → ⊥
      none k h = omega arith
  holds-below (suc n) k h t =
      ⊎_elim
      (λ (u : k < n). let a = holds-below n k u t in let b = grows (test n) (count_of test n) in omega arith)
      (λ (u : n ≤ k).
      let e : k ≡ n = omega arith in
      let s : T (test n) = subst (λ (i : ℕ). T (test i)) e t in
      let f = full n (λ j v. falls j n (omega arith) s) in
      rw (counted (test n) (count_of test n) s) (omega arith))
      (cases_lt k n)

  -- and where it doesn't, neither that place nor any after it
  pub fails-from : (n k : ℕ) → k < n → (T (test k) → ⊥) → count_of test n ≤ k
  unfolding count_of
  fails-from zero k h t = omega arith
  fails-from (suc n) k h t =
      ⊎_elim
      (λ (u : k < n).
      let a = fails-from n k u t in
      rw (uncounted (test n) (count_of test n) (λ s. t (falls k n (omega arith) s))) a)
      (λ (u : n ≤ k).
      let e : k ≡ n = omega arith in
      let c = count_le test n in
      rw (uncounted (test n) (count_of test n) (λ s. t (subst (λ (i : ℕ). T (test i)) (sym e) s))) (omega arith))
      (cases_lt k n)

module _ (inner : Option Float) (records : List GridTrack) (ranges : InRange inner records) where
  abbrev at : ℕ → Float
  at k = position_of inner records k

  clash : {A : Type 0} → (t : Bool) → T t → t ≡ false → A
  clash true h e = absurd (true≢false e)
  clash false h e = absurd h

  is_false : (t : Bool) → (T t → ⊥) → t ≡ false
  is_false true h = absurd (h tt)
  is_false false h = refl

  -- a line lies within a span exactly if its place is one from the first count on and below the second
  pub within-interval : (low high k : ℕ) → k ≤ tracks_among records
      → let a = float_up_to largest_bits low in let b = float_up_to largest_bits high in
      (Within inner records a b k → (lines_before inner records a ≤ k) × (k < lines_up_to inner records b))
      × ((lines_before inner records a ≤ k) × (k < lines_up_to inner records b) → Within inner records a b k)
  within-interval low high k h = (to, from)
    where
      fine : (j : ℕ) → T (nonneg (at j))
      fine j = position-finite inner records ranges j

      before_falls : (i j : ℕ) → i ≤ j → T (lt (at j) (float_up_to largest_bits low)) → T (lt (at i) (float_up_to largest_bits low))
      before_falls i j u t = less-under (at i) (at j) (float_up_to largest_bits low) (fine i) (fine j) (pixel_finite low) (positions-rise inner records ranges i j u) t

      up-falls : (i j : ℕ) → i ≤ j → T (le (at j) (float_up_to largest_bits high)) → T (le (at i) (float_up_to largest_bits high))
      up-falls i j u t = le_trans_nonneg (at i) (at j) (float_up_to largest_bits high) (fine i) (fine j) (pixel_finite high) (positions-rise inner records ranges i j u) t

      to : Within inner records (float_up_to largest_bits low) (float_up_to largest_bits high) k → (lines_before inner records (float_up_to largest_bits low) ≤ k) × (k < lines_up_to inner records (float_up_to largest_bits high))
      to w = (
        fails-from (λ j. lt (at j) (float_up_to largest_bits low)) before_falls (suc (tracks_among records)) k (omega arith) (λ t. clash (lt (at k) (float_up_to largest_bits low)) t (not-above (float_up_to largest_bits low) (at k) (pixel_finite low) (fine k) w.0)),
        holds-below (λ j. le (at j) (float_up_to largest_bits high)) up-falls (suc (tracks_among records)) k (omega arith) w.1,
      )

      not-below : (n m : ℕ) → n ≤ m → m < n → ⊥
      not-below n m u v = omega arith

      from : (lines_before inner records (float_up_to largest_bits low) ≤ k) × (k < lines_up_to inner records (float_up_to largest_bits high)) → Within inner records (float_up_to largest_bits low) (float_up_to largest_bits high) k
      from c = (
        not-less (at k) (float_up_to largest_bits low) (fine k) (pixel_finite low)
            (is_false (lt (at k) (float_up_to largest_bits low)) (λ t. not-below (lines_before inner records (float_up_to largest_bits low)) k c.0 (holds-below (λ j. lt (at j) (float_up_to largest_bits low)) before_falls (suc (tracks_among records)) k (omega arith) t))),
        go (le (at k) (float_up_to largest_bits high)) (λ t. not-below (lines_up_to inner records (float_up_to largest_bits high)) k (fails-from (λ j. le (at j) (float_up_to largest_bits high)) up-falls (suc (tracks_among records)) k (omega arith) t) c.1),
      )
        where
          go : (t : Bool) → ((T t → ⊥) → ⊥) → T t
          go true f = tt
          go false f = absurd (f (λ u. u))
