-- The line before a line, and lines that are held, as numbers of 16 bits. Assumes nothing.
use mathlib.Core.Path.{◌≡◌, ap₂}
use mathlib.Core.Bool.{Bool, false, ◌||◌, true≢false}
use Prim.Native.Nat.{ℕ, zero, suc, ◌≤◌}
use borrow.Author.Tests.{le-ltb}
use lib.IntN.{ℤ, pos, negsuc}
use Rattle.coordinates.specs.Lines.{held, Within, outside, uncut, to_origin_zero, to_grid_line}
use Rattle.coordinates.specs.Held.{HeldAs}
use Rattle.coordinates.specs.Types.{MarkedLine}
use Rattle.coordinates.proofs.Lines.{held-within}
use Rattle.coordinates.specs.Answers.{origin_zero_answer, grid_line_answer}
use Rattle.name_resolver.specs.Counts.{is_zero}
use Rattle.name_resolver.specs.Placements.{grid_line_of}
use Rattle.name_resolver.specs.Steps.{end_on_line, end_on_held}
use Rattle.coordinates.specs.declared.line.GenericGridPlacement.TheVariants as Plain
use Rattle.name_resolver.specs.Types.{ResolvedEnd}

-- where nothing is refused
within-inside : (z : ℤ) → Within z → outside z ≡ false
within-inside (pos l) w = le-ltb 10000 l w
within-inside (negsuc l) w = le-ltb 9999 l w

pub grid_line_answer_lem : (n : ℕ) (z : ℤ) → n ≤ 10000 → (grid_line_answer n (held z)).line ≡ grid_line_of (to_grid_line n (held z))
unfolding grid_line_answer
grid_line_answer_lem n z h = rw (le-ltb 10000 n h, within-inside (held z) (held-within z))

pub origin_zero_answer_lem : (n : ℕ) (g : ℤ) → n ≤ 10000 → is_zero g ≡ false → (origin_zero_answer n g).line.0 ≡ to_origin_zero n g
unfolding origin_zero_answer
origin_zero_answer_lem n (pos zero) h z = absurd (true≢false z)
origin_zero_answer_lem n (pos (suc g)) h z = rw (le-ltb 10000 n h)
origin_zero_answer_lem n (negsuc g) h z = rw (le-ltb 10000 n h)

-- the mark of a conversion that isn't refused; line 0 has none
pub conversion_mark : (n : ℕ) (g : ℤ) → n ≤ 10000 → (origin_zero_answer n g).held ≡ outside (uncut n g)
unfolding origin_zero_answer
conversion_mark n (pos zero) h = rw (le-ltb 10000 n h)
conversion_mark n (pos (suc g)) h = rw (le-ltb 10000 n h)
conversion_mark n (negsuc g) h = rw (le-ltb 10000 n h)

-- an end on a line that was held is the end on that line
pub end_held : (n : ℕ) (before : Bool) (z : ℤ) (l : MarkedLine) → HeldAs z l → end_on_held n before l ≡ end_on_line n before z
end_held n before z l h = ap₂ made h.line h.mark
  where
    made : ℤ → Bool → ResolvedEnd
    made k b = record { value = Plain.Line (grid_line_answer n k).line; held = before || b }
