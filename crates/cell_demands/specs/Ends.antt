-- The cursor of sparse packing at the end of the cell placed before, where Css.antt of `cell_placing` has it at the start (CSS Grid Level 1, 8.5,
-- says "past any grid items previously placed in this row" of one, and of the other where the item was put). proofs/ proves that it is one.
use Rattle.std.specs.Prelude.{ℕ, zero, suc, ◌≤◌, ◌<◌, ◌≡◌, ◌↔◌}
use Rattle.free_cells.specs.declared.Rectangle.{Rectangle}
use Rattle.free_cells.specs.declared.Place.{Place}
use Rattle.free_cells.specs.Free.{AtOrAfter}
use Rattle.cell_placing.specs.declared.Item.{Item}
use Rattle.cell_placing.specs.declared.Packing.TheVariants.{Sparse}
use Rattle.cell_placing.specs.Items.{group_of}
use Rattle.cell_placing.specs.Css.{Earlier, Fits, start_of, Unoccupied, LastOfRest, First, Stuck, AllLand}

-- ---- the cursors, as PastInRow, PastCursor and Past there, at the end

-- where a rectangle ends in its first row
abbrev pub end_of : Rectangle → Place
end_of r = record { row = r.rows.start; column = r.columns.end }

-- past those fixed in their row that start in its first row, and were placed before
abbrev pub PastEndsInRow : ℕ → (ℕ → Item) → (ℕ → Rectangle) → ℕ → Rectangle → Type 0
PastEndsInRow count items lands i r =
    (j : ℕ) → Earlier count items j i → group_of (items j) ≡ 1 → (lands j).rows.start ≡ r.rows.start → (lands j).columns.end ≤ r.columns.start

-- at or after the end of the one of the rest that was placed last, in row order
abbrev pub PastEnd : ℕ → (ℕ → Item) → (ℕ → Rectangle) → ℕ → Rectangle → Type 0
PastEnd count items lands i r = (j : ℕ) → LastOfRest count items j i → AtOrAfter (end_of (lands j)) (start_of r)

-- for the three groups
abbrev pub PastEndOf : ℕ → ℕ → (ℕ → Item) → (ℕ → Rectangle) → ℕ → Rectangle → Type 0
PastEndOf zero count items lands i r = Unit {0}
PastEndOf (suc zero) count items lands i r = PastEndsInRow count items lands i r
PastEndOf (suc (suc g)) count items lands i r = PastEnd count items lands i r

-- ---- where a sparse cell lands, looked for from there, as Candidate, First, Stuck and AllLand

pub record CandidateFromEnd (last count : ℕ) (items : ℕ → Item) (lands : ℕ → Rectangle) (i : ℕ) (r : Rectangle) : Type 0 where
  pub fits : Fits last (items i) r
  pub free : (group_of (items i) ≡ 0 → ⊥) → Unoccupied count items lands i r
  pub past : PastEndOf (group_of (items i)) count items lands i r

pub record FirstFromEnd (last count : ℕ) (items : ℕ → Item) (lands : ℕ → Rectangle) (i : ℕ) (r : Rectangle) : Type 0 where
  pub one : CandidateFromEnd last count items lands i r
  pub first : (q : Rectangle) → CandidateFromEnd last count items lands i q → AtOrAfter (start_of r) (start_of q)

abbrev pub StuckFromEnd : ℕ → ℕ → (ℕ → Item) → (ℕ → Rectangle) → ℕ → Type 0
StuckFromEnd last count items lands i = (q : Rectangle) → CandidateFromEnd last count items lands i q → ⊥

abbrev pub AllLandFromEnd : ℕ → ℕ → (ℕ → Item) → (ℕ → Rectangle) → Type 0
AllLandFromEnd last count items lands = (i : ℕ) → i < count → FirstFromEnd last count items lands i (lands i)

-- ---- it is one

-- a cell lands at the same place, or at none, from the start and from the end
pub record SameFromEnd (last count : ℕ) (items : ℕ → Item) (lands : ℕ → Rectangle) (i : ℕ) : Type 0 where
  pub land : (r : Rectangle) → First Sparse last count items lands i r ↔ FirstFromEnd last count items lands i r
  pub stuck : Stuck Sparse last count items lands i ↔ StuckFromEnd last count items lands i

-- each does whose earlier cells lie where they may; so all lands are those from the end
pub record CursorEnds (last count : ℕ) (items : ℕ → Item) (lands : ℕ → Rectangle) : Type 0 where
  pub each : (i : ℕ) → ((j : ℕ) → Earlier count items j i → Fits last (items j) (lands j)) → SameFromEnd last count items lands i
  pub all : AllLand Sparse last count items lands ↔ AllLandFromEnd last count items lands

-- whatever the cells
abbrev pub CursorEnd : Type 0
CursorEnd = (last count : ℕ) (items : ℕ → Item) (lands : ℕ → Rectangle) → CursorEnds last count items lands
