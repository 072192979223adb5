-- A cell is read back from its word. Assumes nothing.
use mathlib.Core.Path.{◌≡◌, refl, ap, ◌∙◌}
use Prim.Native.Nat.{ℕ, ◌≤◌, ◌<◌}
use native.Mathlib.Omega.{arith}
use borrow.Author.Tests.{ne_eqb}
use Rattle.cell_sides.specs.declared.Side.{Side}
use Rattle.cell_sides.specs.declared.Side.TheVariants.{Free, Fixed}
use Rattle.std.specs.Prelude.{Option, Some, None}
use Rattle.free_cells.specs.declared.Rectangle.{Rectangle}
use Rattle.free_cells.specs.Words.{rectangle_of}
use Rattle.free_cells.proofs.Words.{Small, rectangle_back}
use Rattle.cell_placing.specs.declared.Group.{Group}
use Rattle.cell_placing.specs.declared.Group.TheVariants.{FixedInBoth, FixedInRow, Rest}
use Rattle.cell_placing.specs.declared.Item.{Item}
use Rattle.cell_placing.specs.Items.{side_of, item_of, side_lines, item_word, group_number}

-- a side that a word can say
abbrev pub Sayable : Option Side → Type 0
Sayable None = Unit {0}
Sayable (Some (Free k)) = k < 65536
Sayable (Some (Fixed l)) = (1 ≤ l.start) × (l.start < 65535) × (l.end < 65536)

side_small : (s : Option Side) → Sayable s → Small (side_lines s)
side_small None h = record { start = omega arith; end = omega arith }
side_small (Some (Free k)) h = record { start = omega arith; end = h }
side_small (Some (Fixed l)) h = record { start = omega (arith, h.1); end = h.2 }

side_back_lem : (s : Option Side) → Sayable s → side_of (side_lines s) ≡ s
side_back_lem None h = refl
side_back_lem (Some (Free k)) h = refl
side_back_lem (Some (Fixed l)) h = rw (ne_eqb l.start 0 (omega (arith, h.0)), ne_eqb l.start 65535 (omega (arith, h.1)))

item-lines : (w : ℕ) → item_of w ≡ record { column = side_of (rectangle_of w).columns; row = side_of (rectangle_of w).rows }
unfolding item_of rectangle_of
item-lines w = refl

abbrev item_by : Rectangle → Item
item_by r = record { column = side_of r.columns; row = side_of r.rows }

pub item_back : (i : Item) → Sayable i.column → Sayable i.row → item_of (item_word i) ≡ i
item_back i c r =
    item-lines (item_word i)
    ∙ ap item_by (rectangle_back (record { columns = side_lines i.column; rows = side_lines i.row }) (side_small i.column c) (side_small i.row r))
    ∙ ap {B = Item} (λ (s : Option Side). record { column = s; row = side_of (side_lines i.row) }) (side_back_lem i.column c)
    ∙ ap {B = Item} (λ (s : Option Side). record { column = i.column; row = s }) (side_back_lem i.row r)

-- a group by its number
pub group-same : (g h : Group) → group_number g ≡ group_number h → g ≡ h
group-same FixedInBoth FixedInBoth e = refl
group-same FixedInBoth FixedInRow e = absurd (omega arith)
group-same FixedInBoth Rest e = absurd (omega arith)
group-same FixedInRow FixedInBoth e = absurd (omega arith)
group-same FixedInRow FixedInRow e = refl
group-same FixedInRow Rest e = absurd (omega arith)
group-same Rest FixedInBoth e = absurd (omega arith)
group-same Rest FixedInRow e = absurd (omega arith)
group-same Rest Rest e = refl
