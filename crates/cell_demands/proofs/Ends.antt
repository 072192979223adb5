-- A sparse cell lands where it would if the cursor stood at the end of the cell placed before: both share its first row. Assumes nothing.
use Prim.Native.Nat.{ℕ, zero, suc, ◌≤◌, ◌<◌}
use mathlib.Core.Path.{◌≡◌, sym}
use mathlib.Core.Logic.{inl, inr, ⊎_elim}
use native.Mathlib.Omega.{arith}
use Rattle.free_cells.specs.declared.Rectangle.{Rectangle}
use Rattle.free_cells.specs.Free.{Overlap, Before, last_row_line}
use Rattle.free_cells.proofs.Places.{order, same_row}
use Rattle.cell_placing.specs.declared.Item.{Item}
use Rattle.cell_placing.specs.declared.Packing.TheVariants.{Sparse}
use Rattle.cell_placing.specs.Items.{group_of}
use Rattle.cell_placing.specs.Css.{Earlier, On, Fits, start_of, Unoccupied, PastCursor, LastOfRest, Past, Candidate, First, AllLand}
use Rattle.cell_demands.specs.Ends.{end_of, PastEnd, PastEndOf, CandidateFromEnd, FirstFromEnd, AllLandFromEnd, SameFromEnd, CursorEnd}

-- of two that start in a row and share no cell, one is past the end of the other where it is past the start
past-end : (last : ℕ) (a r : Rectangle) → On last_row_line a.rows → On last r.columns → On last_row_line r.rows → (Overlap a r → ⊥)
    → a.rows.start ≡ r.rows.start → a.columns.start ≤ r.columns.start → a.columns.end ≤ r.columns.start
past-end last a r rows across down apart e h =
    ⊎_elim
    (λ (w : r.columns.start < a.columns.end).
    absurd
    (apart
    (record {
      columns = record { before = omega (arith, h, across.order); after = w };
      rows = record { before = omega (arith, e, down.order); after = omega (arith, e, rows.order) };
    })))
    (λ w. w)
    (order r.columns.start a.columns.end)

module _ (last count : ℕ) (items : ℕ → Item) (lands : ℕ → Rectangle) where
  module _ (i : ℕ) (fit : (j : ℕ) → Earlier count items j i → Fits last (items j) (lands j)) where
    -- of the rest: in a row below, or past the end
    rest-to : (r : Rectangle) → Fits last (items i) r → Unoccupied count items lands i r → PastCursor count items lands i r → (j : ℕ) → LastOfRest count items j i
        → Before (start_of r) (end_of (lands j)) → ⊥
    rest-to r f free p j l (inl b) = p j l (inl b)
    rest-to r f free p j l (inr (e, b)) =
        let h : (lands j).columns.start ≤ r.columns.start = same_row (start_of (lands j)) (start_of r) (sym e) (p j l) in
        let past : (lands j).columns.end ≤ r.columns.start = past-end last (lands j) r (fit j l.earlier).down f.across f.down (free j l.earlier) (sym e) h in
        omega (arith, b, past)

    rest-from : (r : Rectangle) → PastEnd count items lands i r → (j : ℕ) → LastOfRest count items j i → Before (start_of r) (start_of (lands j)) → ⊥
    rest-from r p j l (inl b) = p j l (inl b)
    rest-from r p j l (inr (e, b)) = p j l (inr (e, omega (arith, b, (fit j l.earlier).across.order)))

    past-to : (g : ℕ) (r : Rectangle) → Fits last (items i) r → ((g ≡ 0 → ⊥) → Unoccupied count items lands i r) → Past Sparse g count items lands i r
        → PastEndOf g count items lands i r
    past-to zero r f free p = tt
    past-to (suc zero) r f free p = λ j e g s. omega (arith, past-end last (lands j) r (fit j e).down f.across f.down (free (λ z. omega (arith, z)) j e) s (p j e g s))
    past-to (suc (suc g)) r f free p = rest-to r f (free (λ z. omega (arith, z))) p

    past-from : (g : ℕ) (r : Rectangle) → PastEndOf g count items lands i r → Past Sparse g count items lands i r
    past-from zero r p = tt
    past-from (suc zero) r p = λ j e g s. omega (arith, p j e g s, (fit j e).across.order)
    past-from (suc (suc g)) r p = rest-from r p

    one-to : (r : Rectangle) → Candidate Sparse last count items lands i r → CandidateFromEnd last count items lands i r
    one-to r c = record { fits = c.fits; free = c.free; past = past-to (group_of (items i)) r c.fits c.free c.past }

    one-from : (r : Rectangle) → CandidateFromEnd last count items lands i r → Candidate Sparse last count items lands i r
    one-from r c = record { fits = c.fits; free = c.free; past = past-from (group_of (items i)) r c.past }

    land-to : (r : Rectangle) → First Sparse last count items lands i r → FirstFromEnd last count items lands i r
    land-to r f = record { one = one-to r f.one; first = λ q c. f.first q (one-from q c) }

    land-from : (r : Rectangle) → FirstFromEnd last count items lands i r → First Sparse last count items lands i r
    land-from r f = record { one = one-from r f.one; first = λ q c. f.first q (one-to q c) }

    same-from-end : SameFromEnd last count items lands i
    same-from-end =
        record {
          land = λ r. (land-to r, land-from r);
          stuck = (λ s q c. s q (one-from q c), λ s q c. s q (one-to q c));
        }

  all-to : AllLand Sparse last count items lands → AllLandFromEnd last count items lands
  all-to a i h = land-to i (λ j e. (a j e.held).one.fits) (lands i) (a i h)

  all-from : AllLandFromEnd last count items lands → AllLand Sparse last count items lands
  all-from a i h = land-from i (λ j e. (a j e.held).one.fits) (lands i) (a i h)

pub cursor_end : CursorEnd
cursor_end last count items lands =
    record { each = same-from-end last count items lands; all = (all-to last count items lands, all-from last count items lands) }
