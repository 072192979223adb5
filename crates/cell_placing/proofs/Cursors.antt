-- The cursors of sparse packing. Assumes nothing.
use mathlib.Core.Path.{◌≡◌, refl}
use mathlib.Core.Bool.{Bool, true, false, cond}
use mathlib.Core.List.{List}
use mathlib.Core.Logic.{◌⊎◌, inl, inr, ⊎_elim}
use Prim.Native.Nat.{ℕ, ◌+◌, ◌-◌, ◌≤◌, ◌<◌}
use native.Mathlib.Omega.{arith}
use lib.Dec.{eqb, ltb}
use lib.ListN.{length, get_or, take, length-take}
use lib.Seq.{get_or-take}
use denote.Ref.{Bor}
use Rattle.std.specs.Prelude.{Option, Some, None, IfSome, IsSomeAnd}
use Rattle.std.specs.List.{HoldsAt}
use Rattle.std.specs.Option.{option_map}
use Rattle.std.proofs.lemmas.Option.{none-some}
use borrow.Author.Tests.{eqb-true, eqb-false, ltb-true, ltb-false}
use Rattle.free_cells.specs.declared.Place.{Place}
use Rattle.free_cells.specs.Words.{rectangle_in}
use Rattle.free_cells.specs.Free.{AtOrAfter, no_place_of}
use Rattle.free_cells.proofs.Places.{order, same_row, row_from, rows_on, row_past}
use Rattle.free_cells.proofs.Words.{rectangle_small}
use Rattle.cell_placing.specs.declared.Packing.{Packing}
use Rattle.cell_placing.specs.declared.Packing.TheVariants.{Sparse, Dense}
use Rattle.cell_placing.specs.Items.{item_in, group_of}
use Rattle.cell_placing.specs.Css.{start_of}
use Rattle.cell_placing.specs.Steps.{later_column, RowCursor, RestCursor, after, begins, start_row, CursorPlace}

-- ---- in a row

module _ (items placed : List ℕ) (row : ℕ) where
  pub row_none : RowCursor items placed 0 row 0
  row_none = record { most = λ k w. absurd (omega arith); reached = inl refl }

  -- one more, which does not count
  row_kept : (j column : ℕ) → RowCursor items placed j row column → (group_of (item_in items j) ≡ 1 → (rectangle_in placed j).rows.start ≡ row → (rectangle_in placed j).columns.start ≤ column)
      → RowCursor items placed (j + 1) row column
  row_kept j column c out = record { most = most; reached = reached c.reached }
    where
      most : (k : ℕ) → k < j + 1 → group_of (item_in items k) ≡ 1 → (rectangle_in placed k).rows.start ≡ row → (rectangle_in placed k).columns.start ≤ column
      most k w g e = ⊎_elim (λ (l : k < j). c.most k l g e) (λ l. let z : k ≡ j = omega arith in rw z (out (rw z at g) (rw z at e))) (order k j)

      reached : (column ≡ 0) ⊎ ((k : ℕ) × (k < j) × (group_of (item_in items k) ≡ 1) × ((rectangle_in placed k).rows.start ≡ row) × ((rectangle_in placed k).columns.start ≡ column))
          → (column ≡ 0) ⊎ ((k : ℕ) × (k < j + 1) × (group_of (item_in items k) ≡ 1) × ((rectangle_in placed k).rows.start ≡ row) × ((rectangle_in placed k).columns.start ≡ column))
      reached (inl e) = inl e
      reached (inr (k, w, g, e, f)) = inr (k, omega arith, g, e, f)

  -- one more, which does
  row-raised : (j column : ℕ) → RowCursor items placed j row column → group_of (item_in items j) ≡ 1 → (rectangle_in placed j).rows.start ≡ row → column ≤ (rectangle_in placed j).columns.start
      → RowCursor items placed (j + 1) row (rectangle_in placed j).columns.start
  row-raised j column c g e h = record { most = most; reached = inr (j, omega arith, g, e, refl) }
    where
      most : (k : ℕ) → k < j + 1 → group_of (item_in items k) ≡ 1 → (rectangle_in placed k).rows.start ≡ row → (rectangle_in placed k).columns.start ≤ (rectangle_in placed j).columns.start
      most k w a b = ⊎_elim (λ (l : k < j). omega (arith, c.most k l a b)) (λ l. let z : k ≡ j = omega arith in rw z (omega arith)) (order k j)

  pub row_more : (j column next : ℕ) → RowCursor items placed j row column → next ≡ later_column (get_or items j 0) (get_or placed j 0) row column → RowCursor items placed (j + 1) row next
  row_more j column next c q = go (eqb (group_of (item_in items j)) 1) (eqb (rectangle_in placed j).rows.start row) (ltb (rectangle_in placed j).columns.start column) refl refl refl q
    where
      go : (t u v : Bool) → eqb (group_of (item_in items j)) 1 ≡ t → eqb (rectangle_in placed j).rows.start row ≡ u → ltb (rectangle_in placed j).columns.start column ≡ v
          → next ≡ cond t (cond u (cond v column (rectangle_in placed j).columns.start) column) column → RowCursor items placed (j + 1) row next
      go false u v a b d e = rw e (row_kept j column c (λ g f. absurd (eqb-false _ _ a g)))
      go true false v a b d e = rw e (row_kept j column c (λ g f. absurd (eqb-false _ _ b f)))
      go true true true a b d e = rw e (row_kept j column c (λ g f. omega (arith, ltb-true (rectangle_in placed j).columns.start column d)))
      go true true false a b d e = rw e (row-raised j column c (eqb-true _ _ a) (eqb-true _ _ b) (ltb-false (rectangle_in placed j).columns.start column d))

-- ---- of the rest

-- what is said of an item if there is one, where there is one
pub said_of : (o : Option (Bor ℕ)) (n : ℕ) (Says : Bor ℕ → Type 0) → option_map (λ x. x.now) o ≡ Some n → IfSome o Says → IsSomeAnd o Says
said_of None n Says e s = absurd (none-some n e)
said_of (Some x) n Says e s = s

-- the first so many words, read from the back
module _ (items : List ℕ) (count : ℕ) (held : count < length items) (at : ℕ → Option (Bor ℕ))
    (of : (k : ℕ) → IfSome (at k) (λ x. HoldsAt (λ y. x.now ≡ y) (take count items) (length (take count items) - 1 - k))) where
  abbrev pub back : ℕ → ℕ
  back j = length (take count items) - 1 - j

  pub back-before : (j k : ℕ) → j < k → k < count → back k < back j
  back-before j k h w = omega (arith, length-take count items)

  -- what is said of an item is so of the word at its place
  pub said_at : (Says : Bor ℕ → Type 0) (Is : ℕ → Type 0) → ((x : Bor ℕ) → Says x → Is x.now) → (j : ℕ) → j < count → IsSomeAnd (at (back j)) Says → Is (get_or items j 0)
  said_at Says Is to j h s = go (at (back j)) (of (back j)) s
    where
      go : (o : Option (Bor ℕ)) → IfSome o (λ x. HoldsAt (λ y. x.now ≡ y) (take count items) (back (back j))) → IsSomeAnd o Says → Is (get_or items j 0)
      go None a b = absurd b
      go (Some x) a b =
          let z : back (back j) ≡ j = omega (arith, length-take count items) in
          rw (← get_or-take count items j 0 h, ← z, ← a 0) (to x b)

module _ (items placed : List ℕ) (count : ℕ) where
  -- none of the rest among those from j on
  abbrev pub NoneFrom : ℕ → Type 0
  NoneFrom j = (k : ℕ) → j ≤ k → k < count → group_of (item_in items k) ≡ 2 → ⊥

  -- none of the rest at all
  pub rest-none : (place : Place) → NoneFrom 0 → place ≡ no_place_of → RestCursor items placed count place
  rest-none place out e = begins (λ k w. out k (omega arith) w) e

  pub rest-found : (j : ℕ) (place : Place) → j < count → NoneFrom (j + 1) → group_of (item_in items j) ≡ 2 → place ≡ start_of (rectangle_in placed j) → RestCursor items placed count place
  rest-found j place h out g e = after j h g (λ k w f. ⊎_elim (λ (l : j < k). absurd (out k (omega arith) w f)) (λ l. l) (order j k)) e

  -- its row has 16 bits
  pub rest-small : (place : Place) → RestCursor items placed count place → place.row < 65536
  rest-small place (after j h g f e) = rw e (rectangle_small (get_or placed j 0)).1.start
  rest-small place (begins f e) = rw e (omega arith)

-- ---- the row from which a fixed column is looked for: the rows at or after the cursor, in row order

pub start_row_to : (cursor p : Place) (from : ℕ) → from ≡ start_row cursor p.column → from ≤ p.row → AtOrAfter cursor p
start_row_to cursor p from e h = go (ltb p.column cursor.column) refl e
  where
    go : (t : Bool) → ltb p.column cursor.column ≡ t → from ≡ cond t (cursor.row + 1) cursor.row → AtOrAfter cursor p
    go true q z = row_past cursor p (omega arith)
    go false q z =
        ⊎_elim
        (λ (l : cursor.row < p.row). row_past cursor p l)
        (λ l. row_from cursor p (omega arith) (ltb-false p.column cursor.column q))
        (order cursor.row p.row)

pub start_row_from : (cursor p : Place) (from : ℕ) → from ≡ start_row cursor p.column → AtOrAfter cursor p → from ≤ p.row
start_row_from cursor p from e h = go (ltb p.column cursor.column) refl e
  where
    go : (t : Bool) → ltb p.column cursor.column ≡ t → from ≡ cond t (cursor.row + 1) cursor.row → from ≤ p.row
    go true q z =
        ⊎_elim
        (λ (l : cursor.row < p.row). omega arith)
        (λ l. absurd (omega (arith, ltb-true p.column cursor.column q, same_row cursor p (omega (arith, rows_on cursor p h)) h)))
        (order cursor.row p.row)
    go false q z = omega (arith, rows_on cursor p h)

-- a cursor's row has 16 bits
pub cursor-small : (packing : Packing) (items placed : List ℕ) (i : ℕ) (place : Place) → CursorPlace packing items placed i place → place.row < 65536
cursor-small Sparse items placed i place c = rest-small items placed i place c
cursor-small Dense items placed i place c = rw c (omega arith)
