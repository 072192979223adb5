-- What an item that is accepted says of its numbers. Assumes nothing.
use Prim.Native.Nat.{ℕ, ◌+◌, ◌-◌, ◌≤◌, ◌<◌}
use mathlib.Core.Path.{◌≡◌, refl, sym, ap₂, ◌∙◌}
use mathlib.Core.Bool.{Bool, true, false, cond}
use native.Mathlib.Omega.{arith}
use lib.Dec.{eqb, leb, ltb}
use lib.ListN.{length}
use borrow.Author.Tests.{ltb-false, leb-false, eqb-true, eqb-false}
use Rattle.panel_tables.specs.declared.Panel.{Panel}
use Rattle.panel_tables.specs.View.{End, lower, ends_fault}
use Rattle.panel_tables.specs.Placements.{names_length, no_item, item_fault}
use Rattle.panel_tables.proofs.Fits.{good_ends, good-cell}

-- room for one item more, with so many bytes of names
pub record ItemRoom (p : Panel) (bytes : ℕ) : Type 0 where
  pub items : p.grid.placements - p.grid.cells < 256
  pub cells : p.grid.cells < 256
  pub store : p.room.placementbytes + bytes ≤ 32768

true_false : true ≡ false → ⊥
true_false p = let z : ◌≡◌ {A = ℕ} 0 1 = cc in omega arith

has_item : (p : Panel) (bytes : ℕ) → no_item p bytes ≡ false → ItemRoom p bytes
unfolding no_item
has_item p bytes h = go (leb 256 (p.grid.placements - p.grid.cells)) (leb 256 p.grid.cells) (ltb 32768 (p.room.placementbytes + bytes)) refl refl refl h
  where
    go : (s t u : Bool) → leb 256 (p.grid.placements - p.grid.cells) ≡ s → leb 256 p.grid.cells ≡ t → ltb 32768 (p.room.placementbytes + bytes) ≡ u
        → cond s true (cond t true u) ≡ false → ItemRoom p bytes
    go true t u x y z h = absurd (true_false h)
    go false true u x y z h = absurd (true_false h)
    go false false true x y z h = absurd (true_false h)
    go false false false x y z h = record { items = leb-false 256 _ x; cells = leb-false 256 _ y; store = ltb-false 32768 _ z }

-- where there is no fault the ends have none, and there is room
item_room : (p : Panel) (fault bytes : ℕ) → item_fault p fault bytes ≡ 0 → (fault ≡ 0) × ItemRoom p bytes
unfolding item_fault
item_room p fault bytes h = go (eqb fault 0) (no_item p bytes) refl refl h
  where
    go : (s t : Bool) → eqb fault 0 ≡ s → no_item p bytes ≡ t → cond s (cond t 8 0) fault ≡ 0 → (fault ≡ 0) × ItemRoom p bytes
    go true true x y h = absurd (omega arith)
    go true false x y h = (eqb-true fault 0 x, has_item p bytes y)
    go false t x y h = absurd (eqb-false fault 0 x h)

-- the numbers of one more placement, by what the checks of its ends and of its room answered
pub placement_room : (p : Panel) (s e : End) (f : ℕ) → f ≡ ends_fault s e → 0 ≡ item_fault p f 64 → (p.grid.placements < 512) × (p.room.placementbytes + names_length s e ≤ 32768)
placement_room p s e f x h =
    let k = item_room p f 64 (sym h) in
    let g = good_ends s e (sym x ∙ k.0) in
    (omega (arith, k.1.items, k.1.cells), omega (arith, k.1.store, g.0.short, g.1.short))

-- the numbers of one more cell: room for its columns, for its rows after them, and for its line
pub record CellRoom (p : Panel) (cs ce rs re : End) : Type 0 where
  pub columns : (p.grid.placements < 512) × (p.room.placementbytes + names_length cs ce ≤ 32768)
  pub rows : (p.grid.placements + 1 < 512) × (p.room.placementbytes + length cs.name + length ce.name + names_length rs re ≤ 32768)
  pub cells : p.grid.cells < 256

pub cell_room : (p : Panel) (cs ce rs re : End) (a b f : ℕ) → a ≡ ends_fault cs ce → b ≡ ends_fault rs re → f ≡ lower a b → 0 ≡ item_fault p f 128 → CellRoom p cs ce rs re
cell_room p cs ce rs re a b f x y z h =
    let k = item_room p f 128 (sym h) in
    let g = good-cell cs ce rs re (sym (z ∙ ap₂ lower x y) ∙ k.0) in
    record {
      columns = (omega (arith, k.1.items, k.1.cells), omega (arith, k.1.store, g.0.start.short, g.0.end.short));
      rows = (omega (arith, k.1.items, k.1.cells), omega (arith, k.1.store, g.0.start.short, g.0.end.short, g.1.start.short, g.1.end.short));
      cells = k.1.cells;
    }
