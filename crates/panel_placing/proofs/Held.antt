-- The cells that are placed are those of the panel that the tables hold. Assumes nothing.
use mathlib.Core.Path.{◌≡◌, refl, ap, ◌∙◌}
use mathlib.Core.Bool.{Bool, true, false, cond, ◌&&◌, false≢true}
use mathlib.Core.List.{List, [], ◌∷◌}
use Prim.Native.Nat.{ℕ, zero, suc, ◌+◌, ◌-◌, ◌≤◌, ◌<◌, min}
use native.Mathlib.Omega.{arith}
use lib.Dec.{eqb}
use lib.ListN.{length, get_or, take, length-take}
use Rattle.coordinates.specs.declared.axis.Axis.{Axis}
use Rattle.coordinates.specs.declared.axis.Axis.TheVariants.{Column, Row}
use Rattle.coordinates.specs.Axes.{axis_number}
use Rattle.panel_tables.specs.declared.Grid.{Grid}
use Rattle.panel_tables.specs.View.{Placement, PanelView, no_placement, most_items}
use Rattle.panel_tables.specs.Written.{placement_words}
use Rattle.panel_tables.proofs.Fits.{FitsPanel, few_placements}
use Rattle.panel_tables.proofs.Back.{placement_held, line-back}
use Rattle.placement_hits.specs.Steps.{passing}
use Rattle.panel_hits.specs.Settled.{Lent}
use Rattle.panel_hits.proofs.Numbers.{same-passing}
use Rattle.panel_placing.specs.Cells.{is_half, is_cell, pairs, cells_in}
use Rattle.panel_placing.specs.Held.{half_of, cell_of, cells_of, Holds, HeldCells, Lined, none, place, cell}

module _ (v : PanelView) (f : FitsPanel v) where
  abbrev words : List ℕ
  words = placement_words v.placements v.cells

  half_held : (a : Axis) (i : ℕ) → i < length v.placements → is_half words a i ≡ half_of a (get_or v.placements i no_placement)
  half_held a i h =
      ap (λ (p : Placement). half_of a p) (placement_held v.placements v.cells f.placed (few_placements v f) i h)

  cell_held : (i : ℕ) → i + 1 < length v.placements → is_cell words i ≡ cell_of v.placements i
  unfolding is_cell
  cell_held i h = rw (half_held Column i (omega arith), half_held Row (i + 1) h)

  few_lines : length v.cells ≤ 256
  few_lines = let a = f.items in let b = f.cells in omega arith

  cells_same : (g : Grid) (l : Lent) → Holds v g l → cells_in g l ≡ cells_of v
  unfolding cells_in
  cells_same g l t =
      let n : min g.cells most_items ≡ length v.cells = omega (arith, t.cells, few_lines) in
      let m : pairs g.placements ≡ length v.placements - 1 = omega (arith, t.placements, few_placements v f) in
      rw (t.words, n, m) (ap (take (length v.cells)) (same-passing (is_cell words) (cell_of v.placements) 0 (length v.placements - 1) (λ k h b. cell_held k (omega arith))))

  pub cells-held : (g : Grid) (l : Lent) → Holds v g l → HeldCells v g l
  cells-held g l t =
      record {
        cells = cells_same g l t;
        lines = λ k h. rw t.words (line-back v.placements v.cells f.lines few_lines k h);
      }

-- ---- as many as there are `cell` lines

-- numbers that pass one later
shifted : (t u : ℕ → Bool) → ((k : ℕ) → t (k + 1) ≡ u k) → (a n : ℕ) → length (passing t (a + 1) n) ≡ length (passing u a n)
unfolding passing
shifted t u e a zero = refl
shifted t u e a (suc n) = rw (e a) (go (u a) (shifted t u e (a + 1) n))
  where
    go : (b : Bool) → length (passing t (a + 1 + 1) n) ≡ length (passing u (a + 1) n)
        → length (cond b ((a + 1) ∷ passing t (a + 1 + 1) n) (passing t (a + 1 + 1) n)) ≡ length (cond b (a ∷ passing u (a + 1) n) (passing u (a + 1) n))
    go true r = ap suc r
    go false r = r

behind : (p : Placement) (ps : List Placement) (k : ℕ) → cell_of (p ∷ ps) (k + 1) ≡ cell_of ps k
behind p ps k = let e : k + 1 ≡ suc k = omega arith in let f : suc k + 1 ≡ suc (suc k) = omega arith in rw (e, f) refl

-- a half of the columns is none of the rows
no-half : (p : Placement) → half_of Row p ≡ true → half_of Column p ≡ false
no-half p e = go p.axis p.cell e
  where
    go : (a : Axis) (c : Bool) → c && eqb (axis_number a) 1 ≡ true → c && eqb (axis_number a) 0 ≡ false
    go Column true f = absurd (false≢true f)
    go Column false f = refl
    go Row true f = refl
    go Row false f = refl

-- so many cells begin among the first placements
abbrev begun : List Placement → ℕ → ℕ
begun ps n = length (passing (cell_of ps) 0 n)

begun-place : (p : Placement) (ps : List Placement) (n : ℕ) → half_of Column p ≡ false → begun (p ∷ ps) (suc n) ≡ begun ps n
unfolding passing
begun-place p ps n e =
    ap (λ (b : Bool). length (cond (b && half_of Row (get_or (p ∷ ps) 1 no_placement)) (0 ∷ passing (cell_of (p ∷ ps)) 1 n) (passing (cell_of (p ∷ ps)) 1 n))) e
    ∙ shifted (cell_of (p ∷ ps)) (cell_of ps) (behind p ps) 0 n

begun-cell : (p q : Placement) (ps : List Placement) (n : ℕ) → half_of Column p ≡ true → half_of Row q ≡ true → begun (p ∷ q ∷ ps) (suc n) ≡ suc (begun (q ∷ ps) n)
unfolding passing
begun-cell p q ps n e f =
    ap (λ (b : Bool). length (cond (b && half_of Row q) (0 ∷ passing (cell_of (p ∷ q ∷ ps)) 1 n) (passing (cell_of (p ∷ q ∷ ps)) 1 n))) e
    ∙ ap (λ (b : Bool). length (cond b (0 ∷ passing (cell_of (p ∷ q ∷ ps)) 1 n) (passing (cell_of (p ∷ q ∷ ps)) 1 n))) f
    ∙ ap suc (shifted (cell_of (p ∷ q ∷ ps)) (cell_of (q ∷ ps)) (behind p (q ∷ ps)) 0 n)

lined-begun : (ps : List Placement) (n : ℕ) → Lined ps n → begun ps (length ps - 1) ≡ n
unfolding passing
lined-begun [] n none = refl
lined-begun (p ∷ []) n (place out none) = refl
lined-begun (p ∷ q ∷ ps) n (place out rest) =
    let m : length (p ∷ q ∷ ps) - 1 ≡ suc (length ps) = omega arith in
    let k : length (q ∷ ps) - 1 ≡ length ps = omega arith in
    rw m (begun-place p (q ∷ ps) (length ps) (ap (λ (c : Bool). c && eqb (axis_number p.axis) 0) out) ∙ (rw k at (lined-begun (q ∷ ps) n rest)))
lined-begun (p ∷ q ∷ []) n (cell first next none) = begun-cell p q [] 0 first next
lined-begun (p ∷ q ∷ r ∷ ps) (suc n) (cell first next rest) =
    let m : length (p ∷ q ∷ r ∷ ps) - 1 ≡ suc (suc (length ps)) = omega arith in
    let k : length (r ∷ ps) - 1 ≡ length ps = omega arith in
    rw m (begun-cell p q (r ∷ ps) (suc (length ps)) first next ∙ ap suc (begun-place q (r ∷ ps) (length ps) (no-half q next) ∙ (rw k at (lined-begun (r ∷ ps) n rest))))

pub cells-all : (v : PanelView) → Lined v.placements (length v.cells) → length (cells_of v) ≡ length v.cells
cells-all v h = omega (arith, length-take (length v.cells) (passing (cell_of v.placements) 0 (length v.placements - 1)), lined-begun v.placements (length v.cells) h)
