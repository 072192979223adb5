-- Positions of lines are finite, and none is less than the one before. Assumes nothing.
use Rattle.std.proofs.lemmas.Bool.{cases_lt}
use Rattle.std.specs.Prelude.{Option, Some, None}
use mathlib.Core.Path.{◌≡◌, refl, sym, subst, ◌∙◌}
use mathlib.Core.Logic.{⊎_elim}
use Prim.Native.Nat.{ℕ, zero, suc, ◌+◌, ◌*◌, ◌≤◌, ◌<◌, min}
use native.Mathlib.Omega.{arith}
use mathlib.Core.Bool.{Bool, true, false, cond}
use mathlib.Core.List.{List, [], ◌∷◌}
use lib.Dec.{T, leb, leb→le}
use lib.ListN.{length, get_or, take, length-take}
use lib.Ieee.{Float, binary32, of_bits, le, fits}
use lib.Ieee.Bits.{of_bits-fits}
use lib.Ieee.Fits.{cond-fits}
use Rattle.sizing.specs.declared.Sizing.{Sizing}
use Rattle.sizing.specs.declared.Sizing.TheVariants.{Length, Percent, Fraction, Auto, MinContent, MaxContent, FitContentLength, FitContentPercent}
use Rattle.sizing.specs.Words.{zero32, largest_bits, float_up_to}
use Rattle.sizing.specs.Ranges.{up_to, largest_length, sizing_in_range}
use Rattle.sizing.specs.Definite.{length_alone, definite_of, or_zero}
use Rattle.sizing.specs.Sums.{sum_from}
use Rattle.sizing.proofs.Operations.{nonneg, nonneg_of}
use Rattle.sizing.proofs.Patterns.{bits_value}
use Rattle.sizing.proofs.Ranges.{length_bits}
use Rattle.sizing.proofs.Sums.{sum_one_more}
use Rattle.sizing.proofs.Running.{Small, Smalls, track-small, sum_fits, sum_finite, sum_never_falls}
use Rattle.track_rules.specs.declared.GridTrack.{GridTrack}
use Rattle.track_rules.specs.Tracks.{zero_grid_track}
use Rattle.line_positions.specs.Positions.{record_value_in, values_of, start_of, tracks_among, position_of, InnerInRange, SizesInRange, InRange}
use Rattle.line_positions.proofs.Walk.{start-next}
use Rattle.line_positions.proofs.Differences.{le_self, le_trans_nonneg}

-- ---- what a record adds is small

-- a size that is no length counts as auto where there is no inner size
abbrev only_length : Sizing → Sizing
only_length (Length v) = Length v
only_length (Percent p) = Auto
only_length (Fraction v) = Auto
only_length Auto = Auto
only_length MinContent = Auto
only_length MaxContent = Auto
only_length (FitContentLength v) = Auto
only_length (FitContentPercent p) = Auto

only-is : (s : Sizing) (x : Float) → definite_of (only_length s) x ≡ length_alone s
only-is (Length v) x = refl
only-is (Percent p) x = refl
only-is (Fraction v) x = refl
only-is Auto x = refl
only-is MinContent x = refl
only-is MaxContent x = refl
only-is (FitContentLength v) x = refl
only-is (FitContentPercent p) x = refl

only_in_range : (s : Sizing) → T (sizing_in_range s) → T (sizing_in_range (only_length s))
only_in_range (Length v) h = h
only_in_range (Percent p) h = tt
only_in_range (Fraction v) h = tt
only_in_range Auto h = tt
only_in_range MinContent h = tt
only_in_range MaxContent h = tt
only_in_range (FitContentLength v) h = tt
only_in_range (FitContentPercent p) h = tt

zero_in_range : T (up_to largest_length zero32)
zero_in_range = subst T (sym (length_bits 0)) tt

value-small : (inner : Option Float) (r : GridTrack) → InnerInRange inner → T (sizing_in_range r.size.min) → T (sizing_in_range r.size.max) → Small (or_zero (record_value_in inner r))
value-small (Some x) r h p q = track-small r.size x p q h
value-small None r h p q =
    let low = r.size.min in
    let high = r.size.max in
    let s = track-small (record { min = only_length low; max = only_length high }) zero32 (only_in_range low p) (only_in_range high q) zero_in_range in
    rw (only-is low zero32, only-is high zero32) at s

values_small : (inner : Option Float) (records : List GridTrack) → InnerInRange inner → SizesInRange records → Smalls (values_of inner records)
unfolding values_of
values_small inner [] h s = tt
values_small inner (r ∷ rs) h s = (value-small inner r h s.0 s.1, values_small inner rs h s.2)

sizes-at : (records : List GridTrack) (i : ℕ) (d : GridTrack) → SizesInRange records → i < length records
    → T (sizing_in_range (get_or records i d).size.min) × T (sizing_in_range (get_or records i d).size.max)
sizes-at [] i d s h = absurd (none i h)
  where
    none : (i : ℕ) → i < 0 → ⊥
    none i h = omega arith
sizes-at (r ∷ rs) zero d s h = (s.0, s.1)
sizes-at (r ∷ rs) (suc i) d s h = sizes-at rs i d s.2 (less i (length rs) h)
  where
    less : (i n : ℕ) → suc i < suc n → i < n
    less i n h = omega arith

take-small : (i : ℕ) (xs : List Float) → Smalls xs → Smalls (take i xs)
take-small zero xs s = tt
take-small (suc i) [] s = tt
take-small (suc i) (x ∷ xs) s = (s.0, take-small i xs s.1)

-- ---- where a record starts

pub start_fits : (inner : Option Float) (records : List GridTrack) (i : ℕ) → T (fits binary32 (start_of inner records i))
unfolding start_of
start_fits inner records i = sum_fits (take i (values_of inner records)) zero32 (of_bits-fits binary32 0)

length_values : (inner : Option Float) (records : List GridTrack) → length (values_of inner records) ≡ length records
unfolding values_of
length_values inner [] = refl
length_values inner (r ∷ rs) = rw (length_values inner rs)

module _ (inner : Option Float) (records : List GridTrack) (ranges : InRange inner records) where
  few-first : (i : ℕ) → length (take i (values_of inner records)) < 16777216
  few-first i = let few = ranges.few in omega (arith, length-take i (values_of inner records), length_values inner records)

  first_small : (i : ℕ) → Smalls (take i (values_of inner records))
  first_small i = take-small i (values_of inner records) (values_small inner records ranges.space ranges.sizes)

  pub start-finite : (i : ℕ) → T (nonneg (start_of inner records i))
  unfolding start_of
  start-finite i = sum_finite (take i (values_of inner records)) (few-first i) (first_small i)

  -- a record starts no earlier than the one before
  start-rises : (i : ℕ) → i < length records → T (le (start_of inner records i) (start_of inner records (suc i)))
  unfolding start_of
  start-rises i h =
      let r = get_or records i zero_grid_track in
      let v = or_zero (record_value_in inner r) in
      let xs = take i (values_of inner records) in
      let s = sizes-at records i zero_grid_track ranges.sizes h in
      subst (λ (z : Float). T (le (sum_from zero32 xs) z)) (sum_one_more zero32 xs v ∙ sym (start-next inner records i zero_grid_track h))
      (sum_never_falls xs v (few-first i) (first_small i) (value-small inner r ranges.space s.0 s.1))

  starts-rise : (i j : ℕ) → i ≤ j → j ≤ length records → T (le (start_of inner records i) (start_of inner records j))
  starts-rise i zero h k = let e : i ≡ 0 = omega arith in rw e (le_self (start_of inner records 0) (start-finite 0))
  starts-rise i (suc j) h k =
      ⊎_elim
      (λ (u : i < suc j). le_trans_nonneg (start_of inner records i) (start_of inner records j) (start_of inner records (suc j)) (start-finite i) (start-finite j) (start-finite (suc j)) (starts-rise i j (omega arith) (omega arith)) (start-rises j (omega arith)))
      (λ (u : suc j ≤ i). let e : i ≡ suc j = omega arith in rw e (le_self (start_of inner records (suc j)) (start-finite (suc j))))
      (cases_lt i (suc j))

  -- a line lies no earlier than the one before
  pub positions-rise : (j k : ℕ) → j ≤ k → T (le (position_of inner records j) (position_of inner records k))
  positions-rise j k h =
      let n = 2 * tracks_among records in
      starts-rise (min (2 * j + 1) n) (min (2 * k + 1) n) (omega arith) (omega arith)

  pub position-finite : (k : ℕ) → T (nonneg (position_of inner records k))
  position-finite k = start-finite (min (2 * k + 1) (2 * tracks_among records))

  pub position-fits : (k : ℕ) → T (fits binary32 (position_of inner records k))
  position-fits k = start_fits inner records (min (2 * k + 1) (2 * tracks_among records))

-- ---- a position in pixels, from its bits

pub pixel_fits : (bits : ℕ) → T (fits binary32 (float_up_to largest_bits bits))
unfolding float_up_to
pixel_fits bits = cond-fits binary32 (leb bits largest_bits) (of_bits binary32 bits) zero32 (of_bits-fits binary32 bits) (of_bits-fits binary32 0)

pub pixel_finite : (bits : ℕ) → T (nonneg (float_up_to largest_bits bits))
unfolding float_up_to
pixel_finite bits = go (leb bits largest_bits) refl
  where
    small : (b : ℕ) → b ≤ 0x477f_ff00 → b < 2139095040
    small b h = omega arith

    go : (t : Bool) → leb bits largest_bits ≡ t → T (nonneg (cond t (of_bits binary32 bits) zero32))
    go true e = nonneg_of (of_bits binary32 bits) _ _ (bits_value bits (small bits (leb→le bits largest_bits (subst T (sym e) tt))))
    go false e = nonneg_of zero32 _ _ (bits_value 0 (small 0 (omega arith)))
