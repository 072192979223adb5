-- No line past the highest bears a name. Assumes nothing.
use mathlib.Core.Path.{◌≡◌, refl}
use mathlib.Core.Bool.{false}
use mathlib.Core.List.{List, [], ◌∷◌, ◌++◌}
use Prim.Native.Nat.{ℕ, suc, ◌≤◌, ◌<◌, max}
use native.Mathlib.Omega.{arith}
use borrow.Author.Tests.{ne_eqb}
use lib.ListN.{drop}
use Rattle.coordinates.specs.declared.axis.Axis.{Axis}
use Rattle.name_rules.specs.Css.{Bytes, Side, start, end}
use Rattle.name_rules.specs.Rule.{any, written?}
use Rattle.name_entries.specs.Entries.{entry_of, entries_of}
use Rattle.name_lines.specs.Areas.{edge_in, areas_of, edged?, edged_by, bears_joined, sought_in}
use Rattle.name_lines.specs.HighestLine.{highest_entry, higher_edge, highest_edge, highest_line}
use Rattle.name_lines.specs.Suffixes.{tail_of}
use Rattle.std.specs.Prelude.{Option, Some, None}
use Rattle.std.specs.List.{fold}
use Rattle.name_lines.specs.declared.GridAreaEnd.{GridAreaEnd}
use Rattle.name_lines.specs.declared.GridAreaEnd.TheVariants.{Start, End}

-- the highest as a fold over the words
pub entries_fold : (n : ℕ) (words : List ℕ) → fold (λ m w. max m (entry_of w).line) n words ≡ highest_entry n words
unfolding highest_entry
entries_fold n [] = refl
entries_fold n (w ∷ ws) = entries_fold (max n (entry_of w).line) ws

pub edges_fold : (axis : Axis) (n : ℕ) (words : List ℕ) → fold (λ m w. higher_edge axis m w) n words ≡ highest_edge axis n words
unfolding highest_edge
edges_fold axis n [] = refl
edges_fold axis n (w ∷ ws) = edges_fold axis (higher_edge axis n w) ws

-- the highest is not below where it began
entry_from : (n : ℕ) (words : List ℕ) → n ≤ highest_entry n words
unfolding highest_entry
entry_from n [] = omega arith
entry_from n (w ∷ ws) = omega (arith, entry_from (max n (entry_of w).line) ws)

edge_from : (axis : Axis) (n : ℕ) (words : List ℕ) → n ≤ highest_edge axis n words
unfolding highest_edge
edge_from axis n [] = omega arith
edge_from axis n (w ∷ ws) = omega (arith, edge_from axis (higher_edge axis n w) ws)

-- no entry is past it
entries-past : (n : ℕ) (words store : List ℕ) (nm : Bytes) (number : ℕ) → highest_entry n words < number → any (written? nm number) (entries_of words store) ≡ false
unfolding highest_entry entries_of
entries-past n [] store nm number h = refl
entries-past n (w ∷ ws) store nm number h =
    rw (ne_eqb (entry_of w).line number (λ e. omega (arith, entry_from (max n (entry_of w).line) ws)))
    (entries-past (max n (entry_of w).line) ws store nm number h)

-- and no edge of an area
edges_past : (axis : Axis) (s : Side) (n : ℕ) (words names store : List ℕ) (nm : Bytes) (number : ℕ) → highest_edge axis n words < number
    → any (edged? nm s number) (areas_of axis words names store) ≡ false
unfolding highest_edge areas_of
edges_past axis s n [] names store nm number h = refl
edges_past axis start n (w ∷ ws) names store nm number h =
    rw (ne_eqb (edge_in axis start w) number (λ e. omega (arith, edge_from axis (higher_edge axis n w) ws)))
    (edges_past axis start (higher_edge axis n w) ws (drop 1 names) store nm number h)
edges_past axis end n (w ∷ ws) names store nm number h =
    rw (ne_eqb (edge_in axis end w) number (λ e. omega (arith, edge_from axis (higher_edge axis n w) ws)))
    (edges_past axis end (higher_edge axis n w) ws (drop 1 names) store nm number h)

edged_past : (axis : Axis) (n : ℕ) (words names store : List ℕ) (nm : Bytes) (sought : Option GridAreaEnd) (number : ℕ) → highest_edge axis n words < number
    → edged_by (areas_of axis words names store) nm sought number ≡ false
edged_past axis n words names store nm (Some Start) number h = edges_past axis start n words names store nm number h
edged_past axis n words names store nm (Some End) number h = edges_past axis end n words names store nm number h
edged_past axis n words names store nm None number h = refl

pub sought_past : (axis : Axis) (entries store edges areas areastore : List ℕ) (stem : Bytes) (sought : Option GridAreaEnd) (l : ℕ) → highest_line axis entries edges ≤ l
    → sought_in axis entries store edges areas areastore stem sought l ≡ false
unfolding highest_line sought_in bears_joined
sought_past axis entries store edges areas areastore stem sought l h =
    rw (entries-past 0 entries store (stem ++ tail_of sought) (suc l) (omega (arith, edge_from axis (highest_entry 0 entries) edges)))
    (edged_past axis (highest_entry 0 entries) edges areas areastore stem sought (suc l) (omega arith))
