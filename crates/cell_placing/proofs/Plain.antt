-- The plain search answers as CSS says, so there is an answer for all cells. Assumes nothing.
use mathlib.Core.Path.{◌≡◌, refl, sym, ap, ◌∙◌}
use mathlib.Core.Bool.{Bool, true, false, cond, not, ◌&&◌, ◌||◌, false≢true}
use mathlib.Core.Logic.{◌⊎◌, inl, inr, ⊎_elim}
use Prim.Native.Nat.{ℕ, zero, suc, ◌+◌, ◌-◌, ◌%◌, ◌≤◌, ◌<◌}
use native.Mathlib.Omega.{arith}
use lib.Dec.{eqb, leb, ltb}
use borrow.Author.Tests.{ltb-true, leb-true, eqb-true, eqb-false, lt-ltb, le-leb, eq-eqb, ne_eqb, not-true, not-false}
use Rattle.cell_sides.specs.declared.Side.{Side}
use Rattle.cell_sides.specs.declared.Side.TheVariants.{Free, Fixed}
use Rattle.coordinates.specs.Types.{LinePair}
use Rattle.std.specs.Prelude.{Option, Some, None}
use Rattle.free_cells.specs.declared.Rectangle.{Rectangle}
use Rattle.free_cells.specs.declared.Place.{Place}
use Rattle.free_cells.specs.Free.{tracks_from, Before, AtOrAfter, last_row_line}
use Rattle.free_cells.specs.Steps.{overlaps}
use Rattle.free_cells.proofs.Cells.{overlaps_to, apart}
use Rattle.free_cells.proofs.Places.{order}
use Rattle.cell_placing.specs.declared.Item.{Item}
use Rattle.cell_placing.specs.declared.Packing.{Packing}
use Rattle.cell_placing.specs.declared.Packing.TheVariants.{Sparse, Dense}
use Rattle.cell_placing.specs.Items.{group_of}
use Rattle.cell_placing.specs.Css.{turn, Keeps, On, Fits, start_of, Unoccupied, PastInRow, LastOfRest, PastCursor, Past, Candidate, First, Stuck, AllLand, FirstStuck}
use Rattle.cell_placing.specs.Steps.{is_on}
use Rattle.cell_placing.specs.Plain as Plain
use Rattle.cell_placing.specs.Plain.{all_below, implies, keeps, fits, before, first_from, tracks_in, first_start, starts, rectangle_at, column_in, first_row, Run, placing, stuck_at, nowhere, landed, place_one, after, up_to, plainly}
use Rattle.cell_placing.proofs.Lands.{on_to, on_off, same_lines, same_rectangle}
use Rattle.cell_placing.proofs.Placed.{first-same, one-turn, group_most}
use Rattle.cell_placing.proofs.Theorems.{all-unique}

-- ---- tests

both : (a b : Bool) → a && b ≡ true → (a ≡ true) × (b ≡ true)
both true b e = (refl, e)
both false b e = absurd (false≢true e)

both_from : (a b : Bool) → a ≡ true → b ≡ true → a && b ≡ true
both_from a b e f = rw (e, f)

either : (a b : Bool) → a || b ≡ true → (a ≡ true) ⊎ (b ≡ true)
either true b e = inl refl
either false b e = inr e

left_from : (a b : Bool) → a ≡ true → a || b ≡ true
left_from a b e = rw e

right_from : (a b : Bool) → b ≡ true → a || b ≡ true
right_from true b e = refl
right_from false b e = e

implies_to : (a b : Bool) → implies a b ≡ true → a ≡ true → b ≡ true
implies_to true b e f = e
implies_to false b e f = absurd (false≢true f)

implies_from : (a b : Bool) → (a ≡ true → b ≡ true) → implies a b ≡ true
implies_from true b f = f refl
implies_from false b f = refl

not_from : (a : Bool) → (a ≡ true → ⊥) → not a ≡ true
not_from true f = absurd (f refl)
not_from false f = refl

decided : (a : Bool) → (a ≡ true) ⊎ (a ≡ false)
decided true = inl refl
decided false = inr refl

all_to : (n : ℕ) (t : ℕ → Bool) → all_below n t ≡ true → (j : ℕ) → j < n → t j ≡ true
unfolding all_below
all_to zero t e j h = absurd (omega arith)
all_to (suc n) t e j h = go (t n) refl e (all_to n t)
  where
    go : (b : Bool) → t n ≡ b → cond b (all_below n t) false ≡ true → (all_below n t ≡ true → (k : ℕ) → k < n → t k ≡ true) → t j ≡ true
    go true q f rest = ⊎_elim (λ (l : j < n). rest f j l) (λ l. let z : j ≡ n = omega arith in rw z q) (order j n)
    go false q f rest = absurd (false≢true f)

all_from : (n : ℕ) (t : ℕ → Bool) → ((j : ℕ) → j < n → t j ≡ true) → all_below n t ≡ true
unfolding all_below
all_from zero t f = refl
all_from (suc n) t f = rw (f n (omega arith)) (all_from n t (λ j h. f j (omega arith)))

keeps_to : (s : Option Side) (l : LinePair) → keeps s l ≡ true → Keeps s l
keeps_to None l e = absurd (false≢true e)
keeps_to (Some (Free k)) l e = eqb-true l.end (l.start + k) e
keeps_to (Some (Fixed own)) l e = let t = both (eqb l.start own.start) (eqb l.end own.end) e in (eqb-true l.start own.start t.0, eqb-true l.end own.end t.1)

keeps_from : (s : Option Side) (l : LinePair) → Keeps s l → keeps s l ≡ true
keeps_from None l h = absurd h
keeps_from (Some (Free k)) l h = eq-eqb l.end (l.start + k) h
keeps_from (Some (Fixed own)) l h = both_from (eqb l.start own.start) (eqb l.end own.end) (eq-eqb l.start own.start h.0) (eq-eqb l.end own.end h.1)

on_test : (last : ℕ) (l : LinePair) → On last l → is_on last l ≡ true
on_test last l o = ⊎_elim (λ e. e) (λ e. absurd (on_off last l e o)) (decided (is_on last l))

fits_to : (last : ℕ) (item : Item) (r : Rectangle) → fits last item r ≡ true → Fits last item r
unfolding fits
fits_to last item r e =
    let t = both (keeps item.column r.columns && keeps item.row r.rows) (is_on last r.columns && is_on last_row_line r.rows) e in
    let k = both (keeps item.column r.columns) (keeps item.row r.rows) t.0 in
    let o = both (is_on last r.columns) (is_on last_row_line r.rows) t.1 in
    record {
      columns = keeps_to item.column r.columns k.0;
      rows = keeps_to item.row r.rows k.1;
      across = on_to last r.columns o.0;
      down = on_to last_row_line r.rows o.1;
    }

fits_from : (last : ℕ) (item : Item) (r : Rectangle) → Fits last item r → fits last item r ≡ true
unfolding fits
fits_from last item r f =
    both_from (keeps item.column r.columns && keeps item.row r.rows) (is_on last r.columns && is_on last_row_line r.rows)
    (both_from (keeps item.column r.columns) (keeps item.row r.rows) (keeps_from item.column r.columns f.columns) (keeps_from item.row r.rows f.rows))
    (both_from (is_on last r.columns) (is_on last_row_line r.rows) (on_test last r.columns f.across) (on_test last_row_line r.rows f.down))

before_to : (p q : Place) → before p q ≡ true → Before p q
before_to p q e = go (either (ltb p.row q.row) (eqb p.row q.row && ltb p.column q.column) e)
  where
    go : (ltb p.row q.row ≡ true) ⊎ (eqb p.row q.row && ltb p.column q.column ≡ true) → Before p q
    go (inl f) = inl (ltb-true p.row q.row f)
    go (inr f) =
        let t = both (eqb p.row q.row) (ltb p.column q.column) f in inr (eqb-true p.row q.row t.0, ltb-true p.column q.column t.1)

before_from : (p q : Place) → Before p q → before p q ≡ true
before_from p q (inl h) = left_from (ltb p.row q.row) (eqb p.row q.row && ltb p.column q.column) (lt-ltb p.row q.row h)
before_from p q (inr (e, h)) =
    right_from (ltb p.row q.row) (eqb p.row q.row && ltb p.column q.column)
    (both_from (eqb p.row q.row) (ltb p.column q.column) (eq-eqb p.row q.row e) (lt-ltb p.column q.column h))

-- ---- the test of a rectangle

module _ (packing : Packing) (last count : ℕ) (items : ℕ → Item) (lands : ℕ → Rectangle) (i : ℕ) where
  abbrev early : ℕ → Bool
  early j = ltb (turn items j) (turn items i)

  free-to : (r : Rectangle) → Plain.unoccupied packing last count items lands i r ≡ true → Unoccupied count items lands i r
  unfolding Plain.unoccupied
  free-to r e j a o =
      let t = implies_to (early j) (not (overlaps (lands j) r)) (all_to count (λ k. implies (early k) (not (overlaps (lands k) r))) e j a.held) (lt-ltb (turn items j) (turn items i) a.order) in
      apart (lands j) r (not-true (overlaps (lands j) r) t) o

  free-from : (r : Rectangle) → Unoccupied count items lands i r → Plain.unoccupied packing last count items lands i r ≡ true
  unfolding Plain.unoccupied
  free-from r u =
      all_from count (λ k. implies (early k) (not (overlaps (lands k) r)))
      (λ j h. implies_from (early j) (not (overlaps (lands j) r)) (λ q. not_from (overlaps (lands j) r) (λ t. u j (record { held = h; order = ltb-true (turn items j) (turn items i) q }) (overlaps_to (lands j) r t))))

  abbrev in_group : ℕ → ℕ → Bool
  in_group g j = early j && eqb (group_of (items j)) g

  group-to : (g j : ℕ) → in_group g j ≡ true → (turn items j < turn items i) × (group_of (items j) ≡ g)
  group-to g j e = let t = both (early j) (eqb (group_of (items j)) g) e in (ltb-true (turn items j) (turn items i) t.0, eqb-true (group_of (items j)) g t.1)

  group-from : (g j : ℕ) → turn items j < turn items i → group_of (items j) ≡ g → in_group g j ≡ true
  group-from g j h e = both_from (early j) (eqb (group_of (items j)) g) (lt-ltb (turn items j) (turn items i) h) (eq-eqb (group_of (items j)) g e)

  abbrev row_test : Rectangle → ℕ → Bool
  row_test r j = implies (in_group 1 j) (implies (eqb (lands j).rows.start r.rows.start) (leb (lands j).columns.start r.columns.start))

  row-to : (r : Rectangle) → Plain.past_in_row packing last count items lands i r ≡ true → PastInRow count items lands i r
  unfolding Plain.past_in_row
  row-to r e j a g q =
      let t = implies_to (in_group 1 j) (implies (eqb (lands j).rows.start r.rows.start) (leb (lands j).columns.start r.columns.start)) (all_to count (row_test r) e j a.held) (group-from 1 j a.order g) in
      leb-true (lands j).columns.start r.columns.start (implies_to (eqb (lands j).rows.start r.rows.start) (leb (lands j).columns.start r.columns.start) t (eq-eqb (lands j).rows.start r.rows.start q))

  row_from : (r : Rectangle) → PastInRow count items lands i r → Plain.past_in_row packing last count items lands i r ≡ true
  unfolding Plain.past_in_row
  row_from r p =
      all_from count (row_test r)
      (λ j h.
      implies_from (in_group 1 j) (implies (eqb (lands j).rows.start r.rows.start) (leb (lands j).columns.start r.columns.start))
      (λ q.
      implies_from (eqb (lands j).rows.start r.rows.start) (leb (lands j).columns.start r.columns.start)
      (λ z. let g = group-to 1 j q in le-leb (lands j).columns.start r.columns.start (p j (record { held = h; order = g.0 }) g.1 (eqb-true (lands j).rows.start r.rows.start z)))))

  last-to : (j : ℕ) → j < count → Plain.last_of_rest packing last count items lands i j ≡ true → LastOfRest count items j i
  unfolding Plain.last_of_rest
  last-to j h e =
      let t = both (in_group 2 j) (all_below count (λ k. implies (in_group 2 k) (leb k j))) e in
      let g = group-to 2 j t.0 in
      record {
        earlier = record { held = h; order = g.0 };
        rest = g.1;
        last = λ k a f. leb-true k j (implies_to (in_group 2 k) (leb k j) (all_to count (λ k. implies (in_group 2 k) (leb k j)) t.1 k a.held) (group-from 2 k a.order f));
      }

  last-from : (j : ℕ) → LastOfRest count items j i → Plain.last_of_rest packing last count items lands i j ≡ true
  unfolding Plain.last_of_rest
  last-from j l =
      both_from (in_group 2 j) (all_below count (λ k. implies (in_group 2 k) (leb k j))) (group-from 2 j l.earlier.order l.rest)
      (all_from count (λ k. implies (in_group 2 k) (leb k j))
      (λ k h. implies_from (in_group 2 k) (leb k j) (λ q. let g = group-to 2 k q in le-leb k j (l.last k (record { held = h; order = g.0 }) g.1))))

  abbrev cursor_test : Rectangle → ℕ → Bool
  cursor_test r j = implies (Plain.last_of_rest packing last count items lands i j) (not (before (start_of r) (start_of (lands j))))

  cursor-to : (r : Rectangle) → Plain.past_cursor packing last count items lands i r ≡ true → PastCursor count items lands i r
  unfolding Plain.past_cursor
  cursor-to r e j l b =
      let t = implies_to (Plain.last_of_rest packing last count items lands i j) (not (before (start_of r) (start_of (lands j)))) (all_to count (cursor_test r) e j l.earlier.held) (last-from j l) in
      false≢true (sym (not-true (before (start_of r) (start_of (lands j))) t) ∙ before_from (start_of r) (start_of (lands j)) b)

  cursor-from : (r : Rectangle) → PastCursor count items lands i r → Plain.past_cursor packing last count items lands i r ≡ true
  unfolding Plain.past_cursor
  cursor-from r p =
      all_from count (cursor_test r)
      (λ j h.
      implies_from (Plain.last_of_rest packing last count items lands i j) (not (before (start_of r) (start_of (lands j))))
      (λ q. not_from (before (start_of r) (start_of (lands j))) (λ t. p j (last-to j h q) (before_to (start_of r) (start_of (lands j)) t))))

  past_to : (g : ℕ) (r : Rectangle) → Plain.past packing last count items lands i packing g r ≡ true → Past packing g count items lands i r
  past_to g r e = go packing g e
    where
      go : (p : Packing) (g : ℕ) → Plain.past packing last count items lands i p g r ≡ true → Past p g count items lands i r
      go Dense g e = tt
      go Sparse zero e = tt
      go Sparse (suc zero) e = row-to r e
      go Sparse (suc (suc g)) e = cursor-to r e

  past-from : (g : ℕ) (r : Rectangle) → Past packing g count items lands i r → Plain.past packing last count items lands i packing g r ≡ true
  past-from g r h = go packing g h
    where
      go : (p : Packing) (g : ℕ) → Past p g count items lands i r → Plain.past packing last count items lands i p g r ≡ true
      go Dense g h = refl
      go Sparse zero h = refl
      go Sparse (suc zero) h = row_from r h
      go Sparse (suc (suc g)) h = cursor-from r h

  abbrev test : Rectangle → Bool
  test = Plain.candidate packing last count items lands i

  abbrev free_test : Rectangle → Bool
  free_test r = eqb (group_of (items i)) 0 || Plain.unoccupied packing last count items lands i r

  abbrev past_test : Rectangle → Bool
  past_test r = Plain.past packing last count items lands i packing (group_of (items i)) r

  candidate-to : (r : Rectangle) → test r ≡ true → Candidate packing last count items lands i r
  unfolding Plain.candidate
  candidate-to r e =
      let t = both (fits last (items i) r) (free_test r && past_test r) e in
      let u = both (free_test r) (past_test r) t.1 in
      record { fits = fits_to last (items i) r t.0; free = free u.0; past = past_to (group_of (items i)) r u.1 }
    where
      free : free_test r ≡ true → (group_of (items i) ≡ 0 → ⊥) → Unoccupied count items lands i r
      free e out = ⊎_elim (λ f. absurd (out (eqb-true (group_of (items i)) 0 f))) (λ f. free-to r f) (either (eqb (group_of (items i)) 0) (Plain.unoccupied packing last count items lands i r) e)

  candidate-from : (r : Rectangle) → Candidate packing last count items lands i r → test r ≡ true
  unfolding Plain.candidate
  candidate-from r c =
      both_from (fits last (items i) r) (free_test r && past_test r) (fits_from last (items i) r c.fits)
      (both_from (free_test r) (past_test r) (free (decided (eqb (group_of (items i)) 0))) (past-from (group_of (items i)) r c.past))
    where
      free : (eqb (group_of (items i)) 0 ≡ true) ⊎ (eqb (group_of (items i)) 0 ≡ false) → free_test r ≡ true
      free (inl e) = left_from (eqb (group_of (items i)) 0) (Plain.unoccupied packing last count items lands i r) e
      free (inr e) = right_from (eqb (group_of (items i)) 0) (Plain.unoccupied packing last count items lands i r) (free-from r (c.free (eqb-false (group_of (items i)) 0 e)))

-- ---- the search

data FirstFound (t : ℕ → Bool) (n k m : ℕ) : Type 0 where
  hit : n ≤ m → m < n + k → t m ≡ true → ((j : ℕ) → n ≤ j → j < m → t j ≡ false) → FirstFound t n k m
  miss : m ≡ 0 → ((j : ℕ) → n ≤ j → j < n + k → t j ≡ false) → FirstFound t n k m

first_found : (t : ℕ → Bool) (n k : ℕ) → FirstFound t n k (first_from t n k)
unfolding first_from
first_found t n zero = miss refl (λ j h w. absurd (omega arith))
first_found t n (suc k) = go (t n) refl (first_found t (suc n) k)
  where
    go : (b : Bool) → t n ≡ b → FirstFound t (suc n) k (first_from t (suc n) k) → FirstFound t n (suc k) (cond b n (first_from t (suc n) k))
    go true q f = hit (omega arith) (omega arith) q (λ j h w. absurd (omega arith))
    go false q (hit a b c d) = hit (omega arith) (omega arith) c (λ j h w. ⊎_elim (λ (l : n < j). d j l w) (λ l. let z : j ≡ n = omega arith in rw z q) (order n j))
    go false q (miss a d) = miss a (λ j h w. ⊎_elim (λ (l : n < j). d j l (omega arith)) (λ l. let z : j ≡ n = omega arith in rw z q) (order n j))

-- where a side may start, and the lines that it then has
start_in : (last : ℕ) (s : Option Side) (l : LinePair) → Keeps s l → On last l → (first_start s ≤ l.start) × (l.start < first_start s + starts last s)
start_in last None l k o = absurd k
start_in last (Some (Free n)) l k o = (o.first, omega (arith, o.order, o.final))
start_in last (Some (Fixed own)) l k o = (omega (arith, k.0), omega (arith, k.0))

lines_at : (last : ℕ) (s : Option Side) (l : LinePair) → Keeps s l → On last l → l ≡ tracks_from l.start (tracks_in s)
lines_at last None l k o = absurd k
lines_at last (Some (Free n)) l k o = same_lines l (tracks_from l.start n) refl k
lines_at last (Some (Fixed own)) l k o = same_lines l (tracks_from l.start (own.end - own.start)) refl (omega (arith, k.0, k.1, o.order))

module _ (packing : Packing) (last count : ℕ) (items : ℕ → Item) (lands : ℕ → Rectangle) (i : ℕ) where
  abbrev tried : Rectangle → Bool
  tried = Plain.candidate packing last count items lands i

  abbrev Could : Rectangle → Type 0
  Could = Candidate packing last count items lands i

  abbrev spot : ℕ → ℕ → Rectangle
  spot row column = rectangle_at (items i) row column

  abbrev in_row : ℕ → ℕ → Bool
  in_row row column = tried (spot row column)

  abbrev has_column : ℕ → Bool
  has_column row = not (eqb (column_in last (items i) tried row) 0)

  at-spot : (q : Rectangle) → Could q → tried (spot q.rows.start q.columns.start) ≡ true
  at-spot q c =
      let e : q ≡ spot q.rows.start q.columns.start =
      same_rectangle q (spot q.rows.start q.columns.start) (lines_at last (items i).column q.columns c.fits.columns c.fits.across) (lines_at last_row_line (items i).row q.rows c.fits.rows c.fits.down) in
      rw e at (candidate-from packing last count items lands i q c)

  column-found : (row : ℕ) → FirstFound (in_row row) (first_start (items i).column) (starts last (items i).column) (column_in last (items i) tried row)
  unfolding column_in
  column-found row = first_found (in_row row) (first_start (items i).column) (starts last (items i).column)

  row-found : FirstFound has_column (first_start (items i).row) (starts last_row_line (items i).row) (first_row last (items i) tried)
  unfolding first_row
  row-found = first_found has_column (first_start (items i).row) (starts last_row_line (items i).row)

  -- a row with a candidate has a column
  some-column : (q : Rectangle) → Could q → column_in last (items i) tried q.rows.start ≡ 0 → ⊥
  some-column q c z = go (column_in last (items i) tried q.rows.start) z (column-found q.rows.start)
    where
      within : (first_start (items i).column ≤ q.columns.start) × (q.columns.start < first_start (items i).column + starts last (items i).column)
      within = start_in last (items i).column q.columns c.fits.columns c.fits.across

      go : (m : ℕ) → m ≡ 0 → FirstFound (in_row q.rows.start) (first_start (items i).column) (starts last (items i).column) m → ⊥
      go m z (hit a b d e) = omega (arith, z, (candidate-to packing last count items lands i (spot q.rows.start m) d).fits.across.first)
      go m z (miss a d) = false≢true (sym (d q.columns.start within.0 within.1) ∙ at-spot q c)

  none-there : (q : Rectangle) → Could q → has_column q.rows.start ≡ false → ⊥
  none-there q c e = some-column q c (eqb-true (column_in last (items i) tried q.rows.start) 0 (not-false (eqb (column_in last (items i) tried q.rows.start) 0) e))

  search-stuck : first_row last (items i) tried ≡ 0 → Stuck packing last count items lands i
  search-stuck z q c = go (first_row last (items i) tried) z row-found
    where
      within : (first_start (items i).row ≤ q.rows.start) × (q.rows.start < first_start (items i).row + starts last_row_line (items i).row)
      within = start_in last_row_line (items i).row q.rows c.fits.rows c.fits.down

      go : (m : ℕ) → m ≡ 0 → FirstFound has_column (first_start (items i).row) (starts last_row_line (items i).row) m → ⊥
      go m z (miss a d) = none-there q c (d q.rows.start within.0 within.1)
      go m z (hit a b d e) = column (column_in last (items i) tried m) refl (column-found m)
        where
          column : (k : ℕ) → column_in last (items i) tried m ≡ k → FirstFound (in_row m) (first_start (items i).column) (starts last (items i).column) k → ⊥
          column k s (hit u v w x) = omega (arith, z, (candidate-to packing last count items lands i (spot m k) w).fits.down.first)
          column k s (miss u v) = eqb-false (column_in last (items i) tried m) 0 (not-true (eqb (column_in last (items i) tried m) 0) d) (s ∙ u)

  search-first : (row : ℕ) → first_row last (items i) tried ≡ row → (row ≡ 0 → ⊥) → First packing last count items lands i (spot row (column_in last (items i) tried row))
  search-first row e out = go (rw e at row-found)
    where
      go : FirstFound has_column (first_start (items i).row) (starts last_row_line (items i).row) row → First packing last count items lands i (spot row (column_in last (items i) tried row))
      go (miss z d) = absurd (out z)
      go (hit a b d f) = column (column_in last (items i) tried row) refl (column-found row)
        where
          column : (k : ℕ) → column_in last (items i) tried row ≡ k → FirstFound (in_row row) (first_start (items i).column) (starts last (items i).column) k
              → First packing last count items lands i (spot row k)
          column k s (miss u v) = absurd (eqb-false (column_in last (items i) tried row) 0 (not-true (eqb (column_in last (items i) tried row) 0) d) (s ∙ u))
          column k s (hit u v w x) = record { one = candidate-to packing last count items lands i (spot row k) w; first = first }
            where
              first : (q : Rectangle) → Could q → AtOrAfter (start_of (spot row k)) (start_of q)
              first q c (inl h) =
                  let within = start_in last_row_line (items i).row q.rows c.fits.rows c.fits.down in none-there q c (f q.rows.start within.0 h)
              first q c (inr (g, h)) =
                  let within = start_in last (items i).column q.columns c.fits.columns c.fits.across in
                  let t : in_row row q.columns.start ≡ true = rw g at (at-spot q c) in
                  false≢true (sym (x q.columns.start within.0 h) ∙ t)

-- ---- all cells

module _ (packing : Packing) (last count : ℕ) (items : ℕ → Item) (few : count ≤ 256) where
  -- what a run has come to before a time
  abbrev Right : ℕ → Run → Type 0
  Right time (placing lands) = (j : ℕ) → j < count → turn items j < time → First packing last count items lands j (lands j)
  Right time (stuck_at i) = FirstStuck packing last count items i

  here : (lands : ℕ → Rectangle) (i : ℕ) (r : Rectangle) (j : ℕ) → j ≡ i → landed lands i r j ≡ r
  here lands i r j e = rw (eq-eqb j i e)

  there : (lands : ℕ → Rectangle) (i : ℕ) (r : Rectangle) (j : ℕ) → (j ≡ i → ⊥) → landed lands i r j ≡ lands j
  there lands i r j e = rw (ne_eqb j i e)

  one_more_lem : (lands : ℕ → Rectangle) (time i : ℕ) (r : Rectangle) → i < count → turn items i ≡ time → Right time (placing lands) → First packing last count items lands i r
      → Right (suc time) (placing (landed lands i r))
  one_more_lem lands time i r held e right f j h w =
      ⊎_elim earlier now (order (turn items j) time)
    where
      other : (k : ℕ) → turn items k < time → k ≡ i → ⊥
      other k l z = let q : turn items k ≡ turn items i = ap (turn items) z in omega arith

      kept : (k : ℕ) → turn items k < time → lands k ≡ landed lands i r k
      kept k l = sym (there lands i r k (other k l))

      earlier : turn items j < time → First packing last count items (landed lands i r) j (landed lands i r j)
      earlier l = rw (← kept j l) (first-same packing last count items lands (landed lands i r) j (λ k a. kept k (omega (arith, a.order))) (lands j) (right j h l))

      now : time ≤ turn items j → First packing last count items (landed lands i r) j (landed lands i r j)
      now l =
          let q : turn items j ≡ turn items i = omega arith in
          let z : j ≡ i = (one-turn (group_of (items j)) (group_of (items i)) j i (omega arith) (omega arith) q).1 in
          rw (here lands i r j z, z) (first-same packing last count items lands (landed lands i r) i (λ k a. kept k (omega (arith, a.order))) r f)

  place-one : (lands : ℕ → Rectangle) (time i : ℕ) → i < count → turn items i ≡ time → Right time (placing lands) → Right (suc time) (place_one packing last count items lands i)
  unfolding place_one
  place-one lands time i held e right = go (first_row last (items i) (Plain.candidate packing last count items lands i)) refl (decided (eqb (first_row last (items i) (Plain.candidate packing last count items lands i)) 0))
    where
      go : (row : ℕ) → first_row last (items i) (Plain.candidate packing last count items lands i) ≡ row → (eqb row 0 ≡ true) ⊎ (eqb row 0 ≡ false)
          → Right (suc time) (cond (eqb row 0) (stuck_at i) (placing (landed lands i (rectangle_at (items i) row (column_in last (items i) (Plain.candidate packing last count items lands i) row)))))
      go row s (inl t) =
          rw t
          (record {
            lands = lands;
            held = held;
            before = λ j a. right j a.held (omega (arith, a.order, e));
            stuck = search-stuck packing last count items lands i (s ∙ eqb-true row 0 t);
          })
      go row s (inr t) =
          rw t
          (one_more_lem lands time i (rectangle_at (items i) row (column_in last (items i) (Plain.candidate packing last count items lands i) row)) held e right
          (search-first packing last count items lands i row s (eqb-false row 0 t)))

  step : (time : ℕ) (run : Run) → Right time run → Right (suc time) (after packing last count items time run)
  step time (stuck_at i) right = right
  step time (placing lands) right = go (decided (ltb (time % 256) count && eqb (turn items (time % 256)) time))
    where
      go : (ltb (time % 256) count && eqb (turn items (time % 256)) time ≡ true) ⊎ (ltb (time % 256) count && eqb (turn items (time % 256)) time ≡ false)
          → Right (suc time) (cond (ltb (time % 256) count && eqb (turn items (time % 256)) time) (place_one packing last count items lands (time % 256)) (placing lands))
      go (inl t) =
          let u = both (ltb (time % 256) count) (eqb (turn items (time % 256)) time) t in
          rw t (place-one lands time (time % 256) (ltb-true (time % 256) count u.0) (eqb-true (turn items (time % 256)) time u.1) right)
      go (inr t) = rw t (λ j h w. ⊎_elim (λ (l : turn items j < time). right j h l) (λ l. absurd (own j h (omega arith))) (order (turn items j) time))
        where
          own : (j : ℕ) → j < count → turn items j ≡ time → ⊥
          own j h e =
              let z : time % 256 ≡ j = omega arith in
              let u : ltb (time % 256) count && eqb (turn items (time % 256)) time ≡ true = rw z (both_from (ltb j count) (eqb (turn items j) time) (lt-ltb j count h) (eq-eqb (turn items j) time e)) in
              false≢true (sym t ∙ u)

  run-right : (time : ℕ) → Right time (up_to packing last count items time)
  unfolding up_to
  run-right zero = λ j h w. absurd (omega arith)
  run-right (suc time) = step time (up_to packing last count items time) (run-right time)

  -- "lands-exist": the plain search answers where all cells land, or the first in placing order that does not
  abbrev pub Says : Run → Type 0
  Says (placing lands) = AllLand packing last count items lands
  Says (stuck_at i) = FirstStuck packing last count items i

  pub lands-exist : Says (plainly packing last count items)
  lands-exist = go (plainly packing last count items) (run-right 768)
    where
      go : (run : Run) → Right 768 run → Says run
      go (stuck_at i) right = right
      go (placing lands) right = λ i h. right i h (let m = group_most (items i) in omega arith)

  -- a call that places all answers what the plain search does, cell by cell
  pub lands-plain : (here there : ℕ → Rectangle) → AllLand packing last count items here → plainly packing last count items ≡ placing there → (i : ℕ) → i < count → here i ≡ there i
  lands-plain here there f e = all-unique packing last count items here there f (rw e at lands-exist)
