-- A name has at most one filled box, and two names share no cell. Assumes nothing.
use Prim.Native.Nat.{ℕ, ◌+◌, ◌-◌, ◌≤◌, ◌<◌}
use mathlib.Core.Path.{◌≡◌, refl}
use mathlib.Core.List.{List, [], ◌∷◌}
use mathlib.Core.Logic.{inl, inr}
use native.Mathlib.Omega.{arith}
use lib.ListN.{length}
use Rattle.picture_rules.specs.Picture.{Word, Picture, CellIn, EqualWidth, width_of, Box, InBox, Filled, PictureArea, Among, Pairs, OtherName, NoCell}
use Rattle.picture_rules.proofs.Cells.{element-same}

-- the first and the last cell of a box that is not empty
abbrev pub first_cell : (b : Box) → b.rowstart < b.rowend → b.columnstart < b.columnend → InBox b b.rowstart b.columnstart
first_cell b h k = (omega arith, omega arith, omega arith, omega arith)

abbrev pub last_cell : (b : Box) → b.rowstart < b.rowend → b.columnstart < b.columnend → InBox b (b.rowend - 1) (b.columnend - 1)
last_cell b h k = (omega arith, omega arith, omega arith, omega arith)

-- a box within another, by its first and its last cell
within : (p : Picture) (n : Word) (b e : Box) → Filled p n b → Filled p n e
    → (e.rowstart ≤ b.rowstart) × (b.rowend ≤ e.rowend) × (e.columnstart ≤ b.columnstart) × (b.columnend ≤ e.columnend)
within p n b e f g =
    let first = (g.cells _ _).0 ((f.cells _ _).1 (first_cell b f.rows f.columns)) in
    let last = (g.cells _ _).0 ((f.cells _ _).1 (last_cell b f.rows f.columns)) in
    (first.0, omega (arith, last.1, f.rows), first.2, omega (arith, last.3, f.columns))

same_box_lem : (b e : Box) → b.rowstart ≡ e.rowstart → b.rowend ≡ e.rowend → b.columnstart ≡ e.columnstart → b.columnend ≡ e.columnend → b ≡ e
same_box_lem b e h i j k = λ t. record { rowstart = h t; rowend = i t; columnstart = j t; columnend = k t }

pub filled_unique : (p : Picture) (n : Word) (b e : Box) → Filled p n b → Filled p n e → b ≡ e
filled_unique p n b e f g =
    let h = within p n b e f g in
    let k = within p n e b g f in
    same_box_lem b e (omega (arith, h.0, k.0)) (omega (arith, h.1, k.1)) (omega (arith, h.2, k.2)) (omega (arith, h.3, k.3))

-- a cell has one word
pub cell_same : (p : Picture) (r c : ℕ) (n m : Word) → CellIn p r c n → CellIn p r c m → n ≡ m
cell_same p r c n m h k =
    let e : h.0 ≡ k.0 = element-same [] p r h.0 k.0 h.1 k.1 in
    element-same [] k.0 c n m (rw e at h.2) k.2

-- ---- areas

pub disjoint : (p : Picture) (l : List PictureArea) → ((a : PictureArea) → Among a l → Filled p a.name a.box) → Pairs OtherName l → Pairs NoCell l
disjoint p [] f o = tt
disjoint p (a ∷ l) f o = (apart, disjoint p l (λ b m. f b (inr m)) o.1)
  where
    apart : (b : PictureArea) → Among b l → NoCell a b
    apart b m r c h k = o.0 b m (cell_same p r c a.name b.name (((f a (inl refl)).cells r c).1 h) (((f b (inr m)).cells r c).1 k))

module _ (p : Picture) (even : EqualWidth p) (n : Word) (b : Box) (f : Filled p n b) where
  pub starts-in : (1 ≤ b.rowstart) × (1 ≤ b.columnstart)
  starts-in = let cell = (f.cells _ _).1 (first_cell b f.rows f.columns) in (cell.1.0, cell.2.0)

  pub ends-in : (b.rowend ≤ length p + 1) × (b.columnend ≤ width_of p + 1)
  ends-in =
      let cell = (f.cells _ _).1 (last_cell b f.rows f.columns) in
      (omega (arith, cell.1.1), omega (arith, cell.2.1, even _ cell.0 cell.1))
