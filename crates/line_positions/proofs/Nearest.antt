-- The nearest line: none is nearer, none lower is as near, and there is one. Assumes nothing.
use Rattle.std.proofs.lemmas.Bool.{cases_lt}
use Rattle.std.specs.Prelude.{Option}
use mathlib.Core.Path.{◌≡◌, refl, sym, subst}
use mathlib.Core.Logic.{⊎_elim}
use Prim.Native.Nat.{ℕ, zero, suc, ◌≤◌, ◌<◌}
use native.Mathlib.Omega.{arith}
use mathlib.Core.Bool.{Bool, true, false, cond, true≢false}
use mathlib.Core.List.{List}
use lib.Dec.{T}
use lib.Ieee.{Float, lt, le}
use Rattle.sizing.specs.Words.{largest_bits, float_up_to}
use Rattle.sizing.proofs.Operations.{nonneg}
use Rattle.track_rules.specs.declared.GridTrack.{GridTrack}
use Rattle.line_positions.specs.Positions.{tracks_among, position_of, distance_of, nearest_among, nearest_of, Nearest, InRange}
use Rattle.line_positions.proofs.Walk.{nearest_le}
use Rattle.line_positions.proofs.Differences.{le_self, le_trans_nonneg, less_le, less_than, not-less, not-above, distance_nonneg}
use Rattle.line_positions.proofs.Rise.{position-finite, position-fits, pixel_fits, pixel_finite}

module _ (position : ℕ → Float) (x : Float) (fine : (k : ℕ) → T (nonneg (distance_of (position k) x))) where
  abbrev far : ℕ → Float
  far k = distance_of (position k) x

  -- of the places up to n: none is nearer, and none lower is as near
  among : (n : ℕ) → ((j : ℕ) → j ≤ n → T (le (far (nearest_among position x n)) (far j))) × ((j : ℕ) → j < nearest_among position x n → T (lt (far (nearest_among position x n)) (far j)))
  unfolding nearest_among
  among zero = (λ j h. let e : j ≡ 0 = omega arith in rw e (le_self (far 0) (fine 0)), λ j h. absurd (none j h))
    where
      none : (j : ℕ) → j < 0 → ⊥
      none j h = omega arith
  among (suc n) = go (nearest_among position x n) (among n) (lt (far (suc n)) (far (nearest_among position x n))) refl
    where
      go : (m : ℕ) → ((j : ℕ) → j ≤ n → T (le (far m) (far j))) × ((j : ℕ) → j < m → T (lt (far m) (far j))) → (t : Bool) → lt (far (suc n)) (far m) ≡ t
          → ((j : ℕ) → j ≤ suc n → T (le (far (cond t (suc n) m)) (far j))) × ((j : ℕ) → j < cond t (suc n) m → T (lt (far (cond t (suc n) m)) (far j)))
      go m best true e = (
        λ j h. ⊎_elim
            (λ (u : j < suc n). le_trans_nonneg (far (suc n)) (far m) (far j) (fine (suc n)) (fine m) (fine j) (less_le (far (suc n)) (far m) (fine (suc n)) (fine m) (subst T (sym e) tt)) (best.0 j (omega arith)))
            (λ (u : suc n ≤ j). let k : j ≡ suc n = omega arith in rw k (le_self (far (suc n)) (fine (suc n))))
            (cases_lt j (suc n)),
        λ j h. less_than (far (suc n)) (far m) (far j) (fine (suc n)) (fine m) (fine j) (subst T (sym e) tt) (best.0 j (omega arith)),
      )
      go m best false e = (
        λ j h. ⊎_elim
            (λ (u : j < suc n). best.0 j (omega arith))
            (λ (u : suc n ≤ j). let k : j ≡ suc n = omega arith in rw k (not-less (far (suc n)) (far m) (fine (suc n)) (fine m) e))
            (cases_lt j (suc n)),
        best.1,
      )

  -- two that are such are one
  only : (n k l : ℕ) → ((j : ℕ) → j ≤ n → T (le (far k) (far j))) → ((j : ℕ) → j < l → T (lt (far l) (far j))) → l ≤ n → k < l → ⊥
  only n k l least lowest h u = clash (lt (far l) (far k)) (lowest k u) (not-above (far k) (far l) (fine k) (fine l) (least l h))
    where
      clash : (t : Bool) → T t → t ≡ false → ⊥
      clash true a b = true≢false b
      clash false a b = a

module _ (inner : Option Float) (records : List GridTrack) (ranges : InRange inner records) (bits : ℕ) where
  fine : (k : ℕ) → T (nonneg (distance_of (position_of inner records k) (float_up_to largest_bits bits)))
  fine k =
      distance_nonneg (position_of inner records k) (float_up_to largest_bits bits) (position-fits inner records ranges k) (pixel_fits bits) (position-finite inner records ranges k) (pixel_finite bits)

  -- what the calls answer is nearest
  pub nearest-least : Nearest inner records (float_up_to largest_bits bits) (nearest_of inner records (float_up_to largest_bits bits))
  nearest-least =
      let a = among (position_of inner records) (float_up_to largest_bits bits) fine (tracks_among records) in
      record { least = a.0; lowest = a.1; line = nearest_le (position_of inner records) (float_up_to largest_bits bits) (tracks_among records) }

  -- and nothing else is
  pub nearest_unique : (k l : ℕ) → Nearest inner records (float_up_to largest_bits bits) k → Nearest inner records (float_up_to largest_bits bits) l → k ≡ l
  nearest_unique k l p q =
      ⊎_elim
      (λ (u : k < l). absurd (only (position_of inner records) (float_up_to largest_bits bits) fine (tracks_among records) k l p.least q.lowest q.line u))
      (λ (u : l ≤ k).
      ⊎_elim
      (λ (v : l < k). absurd (only (position_of inner records) (float_up_to largest_bits bits) fine (tracks_among records) l k q.least p.lowest p.line v))
      (λ (v : k ≤ l). omega arith)
      (cases_lt l k))
      (cases_lt k l)
