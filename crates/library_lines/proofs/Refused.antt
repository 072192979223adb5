-- A line or a count that is no number of 16 bits is outside the ranges of layer 1, so it is refused by 4, as is every other outside them. Assumes nothing.
use native.Mathlib.Omega.{arith}
use mathlib.Core.Path.{◌≡◌, refl}
use mathlib.Core.Bool.{Bool, true, false, cond}
use lib.Dec.{ltb}
use Prim.Native.Nat.{ℕ, ◌<◌}
use borrow.Author.Tests.{ltb-true, lt-ltb}
use lib.IntN.{ℤ, pos, negsuc}
use Rattle.coordinates.specs.Refusals.{count}
use Rattle.coordinates.specs.Lines.{outside}
use Rattle.coordinates.specs.Answers.{refused_grid_line, grid_line_answer, refused_line}
use Rattle.track_counts.specs.Counts.{too_many, refused_track, next_track_answer, previous_line_answer, refused_index, vec_index_answer}
use Rattle.track_counts.specs.declared.counts.TrackCounts.{TrackCounts}
use Rattle.library_lines.specs.Numbers.{too_wide}

pub wide_outside : (z : ℤ) → too_wide z ≡ true → outside z ≡ true
wide_outside (pos l) wide = lt-ltb 10000 l (let h : 32767 < l = ltb-true 32767 l wide in omega arith)
wide_outside (negsuc l) wide = lt-ltb 9999 l (let h : 32767 < l = ltb-true 32767 l wide in omega arith)

-- a test on both sides of which one thing stands
either : {A : Type 0} (t : Bool) (a : A) → a ≡ cond t a a
either true a = refl
either false a = refl

pub wide_grid_line : (n : ℕ) (l : ℤ) → too_wide l ≡ true → refused_grid_line count ≡ grid_line_answer n l
unfolding grid_line_answer
wide_grid_line n l wide = rw (wide_outside l wide) (either (ltb 10000 n) (refused_grid_line count))

pub many_grid_line : (n : ℕ) (l : ℤ) → 65535 < n → refused_grid_line count ≡ grid_line_answer n l
unfolding grid_line_answer
many_grid_line n l many = rw (lt-ltb 10000 n (omega arith)) refl

-- the tracks of an axis
module _ (c : TrackCounts) where
  pub wide_track : (l : ℤ) → too_wide l ≡ true → refused_track count ≡ next_track_answer c l
  unfolding next_track_answer
  wide_track l wide = rw (wide_outside l wide) (either (too_many c) (refused_track count))

  pub many_track : (l : ℤ) → too_many c ≡ true → refused_track count ≡ next_track_answer c l
  unfolding next_track_answer
  many_track l many = rw many refl

  pub far_line : (t : ℕ) → 65535 < t → refused_line count ≡ previous_line_answer c t
  unfolding previous_line_answer
  far_line t far = rw (lt-ltb 30000 t (omega arith)) (either (too_many c) (refused_line count))

  pub many_line : (t : ℕ) → too_many c ≡ true → refused_line count ≡ previous_line_answer c t
  unfolding previous_line_answer
  many_line t many = rw many refl

  pub wide_record : (l : ℤ) → too_wide l ≡ true → refused_index count ≡ vec_index_answer c l
  unfolding vec_index_answer
  wide_record l wide = rw (wide_outside l wide) (either (too_many c) (refused_index count))

  pub many_record : (l : ℤ) → too_many c ≡ true → refused_index count ≡ vec_index_answer c l
  unfolding vec_index_answer
  many_record l many = rw many refl
