-- Entries by their places in a table: how many have a line of at most some number. Assumes nothing.
use mathlib.Core.Logic.{⊎_elim}
use mathlib.Core.Path.{◌≡◌, refl, ap}
use mathlib.Core.Bool.{Bool, true, false, cond}
use mathlib.Core.List.{List, [], ◌∷◌}
use Prim.Native.Nat.{ℕ, zero, suc, ◌≤◌, ◌<◌}
use native.Mathlib.Omega.{arith}
use borrow.Author.Tests.{le-leb, lt-leb, leb-true, leb-false}
use lib.Dec.{leb}
use lib.ListN.{length}
use Rattle.coordinates.proofs.Lines.{lt_or_ge}
use Rattle.std.specs.List.Sorted.{IsNonDecreasingBy}
use Rattle.std.proofs.lemmas.List.Sorted.{IsNonDecreasingBy-from_default}
use Rattle.name_entries.specs.Entries.{entry_of}
use Rattle.panel_resolving.specs.Listing.{line_at, up_to}
use Rattle.panel_resolving.proofs.Counting.{Parted}

-- each line is above those before it
abbrev pub Ascending : List ℕ → Type 0
Ascending ws = (i j : ℕ) → i < j → j < length ws → line_at ws i < line_at ws j

-- the place that parts the lines is how many are at most the number
pub parted-count : (ws : List ℕ) (n k : ℕ) → Parted (line_at ws) (length ws) n k → k ≡ up_to n ws
unfolding up_to
parted-count [] n k h = omega (arith, h.within)
parted-count (w ∷ ws) n zero h =
    rw (lt-leb (entry_of w).line n (h.above 0 (omega arith) (omega arith)))
    (parted-count ws n 0 record { within = omega arith; below = λ i g. absurd (omega arith); above = λ i a b. h.above (suc i) (omega arith) (omega arith) })
parted-count (w ∷ ws) n (suc k) h =
    rw (le-leb (entry_of w).line n (h.below 0 (omega arith)))
    (ap suc
    (parted-count ws n k
    record { within = omega (arith, h.within); below = λ i g. h.below (suc i) (omega arith); above = λ i a b. h.above (suc i) (omega arith) (omega arith) }))

-- how many lines are at most a number parts them, where they ascend
pub count-parted : (ws : List ℕ) → Ascending ws → (n : ℕ) → Parted (line_at ws) (length ws) n (up_to n ws)
unfolding up_to
count-parted [] h n = record { within = omega arith; below = λ i g. absurd (omega arith); above = λ i a b. absurd (omega arith) }
count-parted (w ∷ ws) h n = go (leb (entry_of w).line n) refl (count-parted ws (λ i j a b. h (suc i) (suc j) (omega arith) (omega arith)) n)
  where
    go : (b : Bool) → leb (entry_of w).line n ≡ b → Parted (line_at ws) (length ws) n (up_to n ws) → Parted (line_at (w ∷ ws)) (length (w ∷ ws)) n (cond b (suc (up_to n ws)) (up_to n ws))
    go true e r = record { within = omega (arith, r.within); below = below; above = above }
      where
        below : (i : ℕ) → i < suc (up_to n ws) → line_at (w ∷ ws) i ≤ n
        below zero g = leb-true (entry_of w).line n e
        below (suc i) g = r.below i (omega arith)

        above : (i : ℕ) → suc (up_to n ws) ≤ i → i < length (w ∷ ws) → n < line_at (w ∷ ws) i
        above zero a b = absurd (omega arith)
        above (suc i) a b = r.above i (omega arith) (omega arith)
    go false e r =
        record {
          within = omega (arith, r.within);
          below = λ i g. absurd (omega (arith, r.within, r.below 0 (omega arith), h 0 1 (omega arith) (omega (arith, r.within)), leb-false (entry_of w).line n e));
          above = above;
        }
      where
        above : (i : ℕ) → up_to n ws ≤ i → i < length (w ∷ ws) → n < line_at (w ∷ ws) i
        above zero a b = leb-false (entry_of w).line n e
        above (suc i) a b = omega (arith, h 0 (suc i) (omega arith) b, leb-false (entry_of w).line n e)

-- no line is above one after it
pub non_decreasing_lem : (ws : List ℕ) → Ascending ws → IsNonDecreasingBy (λ w. (entry_of w).line) ws
non_decreasing_lem ws h = IsNonDecreasingBy-from_default (λ w. (entry_of w).line) ws 0 go
  where
    go : (i j : ℕ) → i ≤ j → j < length ws → line_at ws i ≤ line_at ws j
    go i j a b = ⊎_elim (λ c. omega (arith, h i j c b)) (λ c. let s : j ≡ i = omega arith in rw s (omega arith)) (lt_or_ge i j)
