-- The first free place in row order: in a row, and past it. Assumes nothing.
use mathlib.Core.Path.{◌≡◌, refl, sym, ap}
use mathlib.Core.Bool.{Bool, true, false}
use mathlib.Core.List.{List}
use mathlib.Core.Logic.{◌⊎◌, inl, inr, ⊎_elim}
use Prim.Native.Nat.{ℕ, ◌+◌, ◌≤◌, ◌<◌}
use native.Mathlib.Omega.{arith}
use lib.Dec.{ltb}
use borrow.Author.Tests.{ltb-true, ltb-false}
use Rattle.std.specs.Prelude.{Option, Some, None}
use Rattle.coordinates.specs.declared.axis.Axis.TheVariants.{Column}
use Rattle.free_cells.specs.declared.Size.{Size}
use Rattle.free_cells.specs.declared.Place.{Place}
use Rattle.free_cells.specs.Free.{tracks_from, area_at, Clear, FreeLine, FirstOr0, first, nowhere, First, Before, AtOrAfter, FreePlace, FirstPlace, earliest, no_place, no_place_of, Earliest, last_row_line}
use Rattle.free_cells.specs.Steps.{NextEnd, NextEnds, InRow, Below}

-- ---- row order

pub order : (a b : ℕ) → (a < b) ⊎ (b ≤ a)
order a b = go (ltb a b) refl
  where
    go : (t : Bool) → ltb a b ≡ t → (a < b) ⊎ (b ≤ a)
    go true e = inl (ltb-true a b e)
    go false e = inr (ltb-false a b e)

-- in the same row
pub same_row : (p q : Place) → p.row ≡ q.row → AtOrAfter p q → p.column ≤ q.column
same_row p q e h = ⊎_elim (λ (w : q.column < p.column). absurd (h (inr (sym e, w)))) (λ w. w) (order q.column p.column)

pub row_from : (p q : Place) → p.row ≡ q.row → p.column ≤ q.column → AtOrAfter p q
row_from p q e h (inl w) = omega arith
row_from p q e h (inr (f, w)) = omega arith

pub rows_on : (p q : Place) → AtOrAfter p q → p.row ≤ q.row
rows_on p q h = ⊎_elim (λ (w : q.row < p.row). absurd (h (inl w))) (λ w. w) (order q.row p.row)

pub row_past : (p q : Place) → p.row < q.row → AtOrAfter p q
row_past p q h (inl w) = omega arith
row_past p q h (inr (e, w)) = omega arith

same_place : (q : Place) (r : ℕ) → q.row ≡ r → q ≡ record { row = r; column = q.column }
same_place q r e = ap {B = Place} (λ (k : ℕ). record { row = k; column = q.column }) e

module _ (words : List ℕ) (count last : ℕ) (size : Size) where
  -- ---- in a row

  -- a free line of the columns between the row's lines is a free place of the row
  pub to_row : (from : Place) (c : ℕ) → 1 ≤ from.row → from.row + size.rows ≤ last_row_line
      → FreeLine words count Column last from.column size.columns (tracks_from from.row size.rows) c → InRow words count last size from c
  to_row from c h w f =
      record { row = h; column = f.first; reached = row_from from (record { row = from.row; column = c }) refl f.reached; across = f.inside; down = w; clear = f.clear }

  pub from_row : (from : Place) (c : ℕ) → InRow words count last size from c
      → FreeLine words count Column last from.column size.columns (tracks_from from.row size.rows) c
  from_row from c f =
      record { first = f.column; reached = same_row from (record { row = from.row; column = c }) refl f.reached; inside = f.across; clear = f.clear }

  pub in_row : (from : Place) (c : ℕ) → 1 ≤ from.row → from.row + size.rows ≤ last_row_line
      → FirstOr0 (FreeLine words count Column last from.column size.columns (tracks_from from.row size.rows)) c → FirstOr0 (InRow words count last size from) c
  in_row from c h w (first f none) = first (to_row from c h w f) (λ m l g. none m l (from_row from m g))
  in_row from c h w (nowhere e none) = nowhere e (λ m g. none m (from_row from m g))

  pub row_first : (from : Place) (found : Option ℕ) → 1 ≤ from.row → from.row + size.rows ≤ last_row_line
      → First (FreeLine words count Column last from.column size.columns (tracks_from from.row size.rows)) found → First (InRow words count last size from) found
  row_first from (Some c) h w f = (f.0, in_row from c h w f.1)
  row_first from None h w f = in_row from 0 h w f

  -- ---- past a row

  -- none in rows before this one, of those past a row
  abbrev pub NoneAbove : ℕ → ℕ → Type 0
  NoneAbove row at = (q : Place) → Below words count last size row q → q.row < at → ⊥

  -- a column found in the row
  pub below-found : (row at c : ℕ) → row + 1 ≤ at → NoneAbove row at → FirstOr0 (InRow words count last size (record { row = at; column = 1 })) c → (c ≡ 0 → ⊥)
      → FirstPlace (Below words count last size row) (record { row = at; column = c })
  below-found row at c h none (nowhere e g) out = absurd (out e)
  below-found row at c h none (first f g) out =
      earliest (record { row = f.row; column = f.column; reached = past; across = f.across; down = f.down; clear = f.clear }) before
    where
      past : AtOrAfter (record { row = row + 1; column = 0 }) (record { row = at; column = c })
      past (inl w) = omega arith
      past (inr (e, w)) = omega arith

      before : (q : Place) → Before q (record { row = at; column = c }) → Below words count last size row q → ⊥
      before q (inl w) b = none q b w
      before q (inr (e, w)) b =
          g q.column w (record { row = f.row; column = b.column; reached = row_from (record { row = at; column = 1 }) (record { row = at; column = q.column }) refl b.column; across = b.across; down = f.down; clear = moved })
        where
          moved : Clear words count (area_at size (record { row = at; column = q.column }))
          moved = rw e at b.clear

  -- no column in the row: none up to the next end
  pub below-jumps : (row at end : ℕ) → row + 1 ≤ at → NoneAbove row at → FirstOr0 (InRow words count last size (record { row = at; column = 1 })) 0
      → NextEnd words count at end → NoneAbove row end
  below-jumps row at end h none (first f g) next q b w = omega (arith, f.column)
  below-jumps row at end h none (nowhere e g) next q b w = ⊎_elim (λ (l : q.row < at). none q b l) here (order q.row at)
    where
      here : at ≤ q.row → ⊥
      here l =
          g q.column (record { row = omega arith; column = b.column; reached = row_from (record { row = at; column = 1 }) (record { row = at; column = q.column }) refl b.column; across = b.across; down = omega (arith, b.down); clear = moved })
        where
          moved : Clear words count (area_at size (record { row = at; column = q.column }))
          moved i v o =
              b.clear i v
              (record {
                columns = o.columns;
                rows = record { before = omega (arith, o.rows.before); after = omega (arith, next.least i v o.rows.after) };
              })

  -- past the last row
  pub below-nowhere : (row at : ℕ) → NoneAbove row at → last_row_line < at → FirstPlace (Below words count last size row) no_place_of
  below-nowhere row at none h = no_place refl (λ q b. none q b (omega (arith, b.down)))

  -- where no rectangle ends past the row, none anywhere
  pub below-ends : (row at : ℕ) → row + 1 ≤ at → at ≤ last_row_line → NoneAbove row at → FirstOr0 (InRow words count last size (record { row = at; column = 1 })) 0
      → NextEnds words count at None → FirstPlace (Below words count last size row) no_place_of
  below-ends row at h s none f ends =
      below-nowhere row (last_row_line + 1)
      (below-jumps row at (last_row_line + 1) h none f (record { past = omega arith; least = λ i v w. absurd (let q = ends i v in omega arith) }))
      (omega arith)

  -- ---- at or after a place

  pub place-in-row : (from : Place) (c : ℕ) → FirstOr0 (InRow words count last size from) c → (c ≡ 0 → ⊥)
      → FirstPlace (FreePlace words count last size from) (record { row = from.row; column = c })
  place-in-row from c (nowhere e g) out = absurd (out e)
  place-in-row from c (first f g) out = earliest f before
    where
      before : (q : Place) → Before q (record { row = from.row; column = c }) → FreePlace words count last size from q → ⊥
      before q (inl w) b = omega (arith, rows_on from q b.reached)
      before q (inr (e, w)) b = g q.column w (rw (same_place q from.row e) at b)

  pub place-below : (from p : Place) → FirstOr0 (InRow words count last size from) 0 → FirstPlace (Below words count last size from.row) p
      → FirstPlace (FreePlace words count last size from) p
  place-below from p (first f h) b = absurd (omega (arith, f.column))
  place-below from p (nowhere e h) b = go b
    where
      -- a place at or after is in the row, or past it
      on : (q : Place) → FreePlace words count last size from q → Below words count last size from.row q
      on q f = ⊎_elim past here (order from.row q.row)
        where
          past : from.row < q.row → Below words count last size from.row q
          past w = record { row = f.row; column = f.column; reached = after; across = f.across; down = f.down; clear = f.clear }
            where
              after : AtOrAfter (record { row = from.row + 1; column = 0 }) q
              after (inl l) = omega arith
              after (inr (e, l)) = omega arith

          here : q.row ≤ from.row → Below words count last size from.row q
          here w =
              let z : q.row ≡ from.row = omega (arith, rows_on from q f.reached) in
              absurd (h q.column (rw (same_place q from.row z) at f))

      off : (q : Place) → Below words count last size from.row q → FreePlace words count last size from q
      off q f =
          record { row = f.row; column = f.column; reached = row_past from q (omega (arith, rows_on (record { row = from.row + 1; column = 0 }) q f.reached)); across = f.across; down = f.down; clear = f.clear }

      go : FirstPlace (Below words count last size from.row) p → FirstPlace (FreePlace words count last size from) p
      go (earliest f g) = earliest (off p f) (λ q w r. g q w (on q r))
      go (no_place e g) = no_place e (λ q r. g q (on q r))

  -- ---- the same of what a search answers

  pub place_in_row : (from : Place) (c : ℕ) → First (InRow words count last size from) (Some c)
      → Earliest (FreePlace words count last size from) (Some (record { row = from.row; column = c }))
  place_in_row from c (out, nowhere e g) = absurd (out e)
  place_in_row from c (out, first f g) = (λ z. omega (arith, f.row, z), place-in-row from c (first f g) out)

  pub place_below : (from : Place) (found : Option Place) → First (InRow words count last size from) None → Earliest (Below words count last size from.row) found
      → Earliest (FreePlace words count last size from) found
  place_below from (Some p) h b = (b.0, place-below from p h b.1)
  place_below from None h b = place-below from no_place_of h b
