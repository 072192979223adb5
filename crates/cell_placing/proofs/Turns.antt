-- A cell's turn: what is placed before it, the cursor past which it is looked for, and where it lands. Assumes nothing.
use mathlib.Core.Path.{◌≡◌, refl, sym, ap, ◌∙◌}
use mathlib.Core.List.{List}
use mathlib.Core.Logic.{◌⊎◌, inl, inr, ⊎_elim}
use Prim.Native.Nat.{ℕ, ◌≤◌, ◌<◌}
use lib.ListN.{length}
use native.Mathlib.Omega.{arith}
use Rattle.std.specs.Prelude.{Option, Some, None}
use Rattle.coordinates.specs.declared.axis.Axis.TheVariants.{Column, Row}
use Rattle.cell_sides.specs.declared.Side.{Side}
use Rattle.cell_sides.specs.declared.Side.TheVariants.{Free, Fixed}
use Rattle.coordinates.specs.Types.{LinePair}
use Rattle.free_cells.specs.declared.Rectangle.{Rectangle}
use Rattle.free_cells.specs.declared.Size.{Size}
use Rattle.free_cells.specs.declared.Place.{Place}
use Rattle.free_cells.specs.Words.{rectangle_in}
use Rattle.free_cells.specs.Free.{Clear, AtOrAfter, no_place_of}
use Rattle.free_cells.proofs.Cells.{none_at_0}
use Rattle.free_cells.proofs.Places.{order}
use Rattle.cell_placing.specs.declared.Item.{Item}
use Rattle.cell_placing.specs.declared.Packing.{Packing}
use Rattle.cell_placing.specs.declared.Packing.TheVariants.{Sparse, Dense}
use Rattle.cell_placing.specs.Items.{item_in, group_of}
use Rattle.cell_placing.specs.Css.{turn, Fits, start_of, Unoccupied, PastInRow, PastCursor, Past, Candidate}
use Rattle.cell_placing.specs.Steps.{item_along, start_along, Here, FirstLand, RowCursor, RestCursor, after, begins, CursorColumn, CursorPlace, start_row, Ready, Landing}
use Rattle.cell_placing.proofs.Cursors.{start_row_to, start_row_from}

-- ---- the groups

pub group_both : (columns rows : LinePair) → group_of (record { column = Some (Fixed columns); row = Some (Fixed rows) }) ≡ 0
unfolding group_of
group_both columns rows = refl

pub group_row : (k : ℕ) (rows : LinePair) → group_of (record { column = Some (Free k); row = Some (Fixed rows) }) ≡ 1
unfolding group_of
group_row k rows = refl

pub group_rest : (s : Option Side) (k : ℕ) → group_of (record { column = s; row = Some (Free k) }) ≡ 2
unfolding group_of
group_rest s k = refl

-- nothing comes before no place
pub from_no_place : (p : Place) → AtOrAfter no_place_of p
from_no_place p (inl h) = omega arith
from_no_place p (inr (e, h)) = omega arith

-- a cell with lines in both axes has no cursor
past-both : (packing : Packing) (g count : ℕ) (items : ℕ → Item) (landed : ℕ → Rectangle) (i : ℕ) (r : Rectangle) → g ≡ 0 → Past packing g count items landed i r
past-both Dense g count items landed i r e = tt
past-both Sparse g count items landed i r e = rw e tt

module _ (packing : Packing) (last count : ℕ) (items placed : List ℕ) (i : ℕ) (ready : Ready packing last count items placed i) where
  abbrev Could : Rectangle → Type 0
  Could = Candidate packing last count (item_in items) (rectangle_in placed) i

  -- ---- what is free

  clear-free : (r : Rectangle) → Clear placed count r → Unoccupied count (item_in items) (rectangle_in placed) i r
  clear-free r c j e o = c j e.held o

  free-clear : (r : Rectangle) → Unoccupied count (item_in items) (rectangle_in placed) i r → Clear placed count r
  free-clear r u j w o =
      ⊎_elim
      (λ (l : turn (item_in items) j < turn (item_in items) i). u j (record { held = w; order = l }) o)
      (λ l. none_at_0 r (rw (ready.going.later j w l) at o))
      (order (turn (item_in items) j) (turn (item_in items) i))

  -- ---- the cursor in a row

  row_past : (g row from : ℕ) (r : Rectangle) → group_of (item_in items i) ≡ 1 → g ≡ 1 → CursorColumn packing items placed i row from → r.rows.start ≡ row → from ≤ r.columns.start
      → Past packing g count (item_in items) (rectangle_in placed) i r
  row_past g row from r one e c s h = go packing c
    where
      go : (p : Packing) → CursorColumn p items placed i row from → Past p g count (item_in items) (rectangle_in placed) i r
      go Dense c = tt
      go Sparse c = rw e (λ j a f q. let l : j < i = omega (arith, a.order, one, f) in omega (arith, c.most j l f (q ∙ s)))

  past_row : (g row from : ℕ) (r : Rectangle) → group_of (item_in items i) ≡ 1 → g ≡ 1 → CursorColumn packing items placed i row from → r.rows.start ≡ row
      → Past packing g count (item_in items) (rectangle_in placed) i r → from ≤ r.columns.start
  past_row g row from r one e c s h = go packing c h
    where
      reach : PastInRow count (item_in items) (rectangle_in placed) i r → RowCursor items placed i row from → from ≤ r.columns.start
      reach h c = pick c.reached
        where
          pick : (from ≡ 0) ⊎ ((j : ℕ) × (j < i) × (group_of (item_in items j) ≡ 1) × ((rectangle_in placed j).rows.start ≡ row) × ((rectangle_in placed j).columns.start ≡ from))
              → from ≤ r.columns.start
          pick (inl z) = omega arith
          pick (inr (j, l, f, q, z)) = omega (arith, z, h j (record { held = omega (arith, ready.held); order = omega (arith, one, f) }) f (q ∙ sym s))

      go : (p : Packing) → CursorColumn p items placed i row from → Past p g count (item_in items) (rectangle_in placed) i r → from ≤ r.columns.start
      go Dense c h = omega arith
      go Sparse c h = reach (rw e at h) c

  -- ---- the cursor of the rest

  rest-past : (g : ℕ) (cursor : Place) (r : Rectangle) → group_of (item_in items i) ≡ 2 → g ≡ 2 → CursorPlace packing items placed i cursor → AtOrAfter cursor (start_of r)
      → Past packing g count (item_in items) (rectangle_in placed) i r
  rest-past g cursor r two e c h = go packing c
    where
      reach : RestCursor items placed i cursor → PastCursor count (item_in items) (rectangle_in placed) i r
      reach (after j l f most q) k a =
          let w : k < i = omega (arith, a.earlier.order, a.rest, two) in
          let x : k ≤ j = most k w a.rest in
          let y : j ≤ k = a.last j (record { held = omega (arith, ready.held); order = omega (arith, f, two) }) f in
          let z : k ≡ j = omega arith in
          rw (z, ← q) h
      reach (begins out q) k a = absurd (out k (omega (arith, a.earlier.order, a.rest, two)) a.rest)

      go : (p : Packing) → CursorPlace p items placed i cursor → Past p g count (item_in items) (rectangle_in placed) i r
      go Dense c = tt
      go Sparse c = rw e (reach c)

  past-rest : (g : ℕ) (cursor : Place) (r : Rectangle) → group_of (item_in items i) ≡ 2 → g ≡ 2 → CursorPlace packing items placed i cursor
      → Past packing g count (item_in items) (rectangle_in placed) i r → AtOrAfter cursor (start_of r)
  past-rest g cursor r two e c h = go packing c h
    where
      reach : RestCursor items placed i cursor → PastCursor count (item_in items) (rectangle_in placed) i r → AtOrAfter cursor (start_of r)
      reach (after j l f most q) h =
          rw q
          (h j
          (record {
            earlier = record { held = omega (arith, ready.held); order = omega (arith, f, two) };
            rest = f;
            last = λ k a z. most k (omega (arith, a.order, z, two)) z;
          }))
      reach (begins out q) h = rw q (from_no_place (start_of r))

      go : (p : Packing) → CursorPlace p items placed i cursor → Past p g count (item_in items) (rectangle_in placed) i r → AtOrAfter cursor (start_of r)
      go Dense c h = rw c (from_no_place (start_of r))
      go Sparse c h = reach c (rw e at h)

  -- ---- where it lands

  -- the first of these, where these are the candidates
  landing : (These : Rectangle → Type 0) (land : Option Rectangle) → FirstLand These land → ((r : Rectangle) → These r → Could r) → ((r : Rectangle) → Could r → These r)
      → Landing packing last count items placed i land
  landing These (Some r) f to back = record { one = to r f.0; first = λ q c. f.1 q (back q c) }
  landing These None f to back = λ q c. f q (back q c)

  pub both-land : (columns rows : LinePair) (land : Option Rectangle) → item_in items i ≡ record { column = Some (Fixed columns); row = Some (Fixed rows) }
      → FirstLand (Fits last (record { column = Some (Fixed columns); row = Some (Fixed rows) })) land → Landing packing last count items placed i land
  both-land columns rows land e f =
      let g : group_of (item_in items i) ≡ 0 = ap group_of e ∙ group_both columns rows in
      landing (Fits last (record { column = Some (Fixed columns); row = Some (Fixed rows) })) land f
      (λ r h. record { fits = rw e h; free = λ out. absurd (out g); past = past-both packing (group_of (item_in items i)) count (item_in items) (rectangle_in placed) i r g })
      (λ r c. rw e at c.fits)

  pub row-lands : (tracks from : ℕ) (rows : LinePair) (land : Option Rectangle) → item_in items i ≡ record { column = Some (Free tracks); row = Some (Fixed rows) }
      → CursorColumn packing items placed i rows.start from
      → FirstLand (Here placed (length placed) last (item_along Column tracks rows) (λ q. from ≤ start_along Column q)) land → Landing packing last count items placed i land
  row-lands tracks from rows land e c f =
      let g : group_of (item_in items i) ≡ 1 = ap group_of e ∙ group_row tracks rows in
      landing (Here placed count last (item_along Column tracks rows) (λ q. from ≤ start_along Column q)) land (rw ready.going.whole at f)
      (λ r h.
      record {
        fits = rw e h.fits;
        free = λ out. clear-free r h.clear;
        past = row_past (group_of (item_in items i)) rows.start from r g g c h.fits.rows.0 h.past;
      })
      (λ r d.
      let k : Fits last (item_along Column tracks rows) r = rw e at d.fits in
      record {
        fits = k;
        clear = free-clear r (d.free (λ z. omega (arith, g, z)));
        past = past_row (group_of (item_in items i)) rows.start from r g g c k.rows.0 d.past;
      })

  pub column-lands : (columns : LinePair) (tracks from : ℕ) (cursor : Place) (land : Option Rectangle) → item_in items i ≡ record { column = Some (Fixed columns); row = Some (Free tracks) }
      → CursorPlace packing items placed i cursor → from ≡ start_row cursor columns.start
      → FirstLand (Here placed (length placed) last (item_along Row tracks columns) (λ q. from ≤ start_along Row q)) land → Landing packing last count items placed i land
  column-lands columns tracks from cursor land e c s f =
      let g : group_of (item_in items i) ≡ 2 = ap group_of e ∙ group_rest (Some (Fixed columns)) tracks in
      landing (Here placed count last (item_along Row tracks columns) (λ q. from ≤ start_along Row q)) land (rw ready.going.whole at f)
      (λ r h.
      record {
        fits = rw e h.fits;
        free = λ out. clear-free r h.clear;
        past = rest-past (group_of (item_in items i)) cursor r g g c (start_row_to cursor (start_of r) from (s ∙ ap (start_row cursor) (sym h.fits.columns.0)) h.past);
      })
      (λ r d.
      let k : Fits last (item_along Row tracks columns) r = rw e at d.fits in
      record {
        fits = k;
        clear = free-clear r (d.free (λ z. omega (arith, g, z)));
        past = start_row_from cursor (start_of r) from (s ∙ ap (start_row cursor) (sym k.columns.0)) (past-rest (group_of (item_in items i)) cursor r g g c d.past);
      })

  pub area-lands : (size : Size) (cursor : Place) (land : Option Rectangle) → item_in items i ≡ record { column = Some (Free size.columns); row = Some (Free size.rows) }
      → CursorPlace packing items placed i cursor
      → FirstLand (Here placed (length placed) last (record { column = Some (Free size.columns); row = Some (Free size.rows) }) (λ q. AtOrAfter cursor (start_of q))) land
      → Landing packing last count items placed i land
  area-lands size cursor land e c f =
      let g : group_of (item_in items i) ≡ 2 = ap group_of e ∙ group_rest (Some (Free size.columns)) size.rows in
      landing (Here placed count last (record { column = Some (Free size.columns); row = Some (Free size.rows) }) (λ q. AtOrAfter cursor (start_of q))) land (rw ready.going.whole at f)
      (λ r h.
      record {
        fits = rw e h.fits;
        free = λ out. clear-free r h.clear;
        past = rest-past (group_of (item_in items i)) cursor r g g c h.past;
      })
      (λ r d.
      record {
        fits = rw e at d.fits;
        clear = free-clear r (d.free (λ z. omega (arith, g, z)));
        past = past-rest (group_of (item_in items i)) cursor r g g c d.past;
      })
