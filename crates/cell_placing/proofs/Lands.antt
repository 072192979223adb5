-- The first rectangle that a search finds, as a word. Assumes nothing.
use mathlib.Core.Path.{◌≡◌, refl, sym, ap, ◌∙◌}
use mathlib.Core.Bool.{Bool, true, false, ◌&&◌, false≢true}
use mathlib.Core.List.{List}
use mathlib.Core.Logic.{⊎_elim}
use Prim.Native.Nat.{ℕ, ◌+◌, ◌≤◌, ◌<◌}
use native.Mathlib.Omega.{arith}
use Rattle.std.specs.Prelude.{Some, None}
use lib.Dec.{leb, ltb}
use borrow.Author.Tests.{leb-true, ltb-true, le-leb, lt-ltb}
use Rattle.coordinates.specs.declared.axis.Axis.{Axis}
use Rattle.coordinates.specs.declared.axis.Axis.TheVariants.{Column, Row}
use Rattle.cell_sides.specs.declared.Side.TheVariants.{Free, Fixed}
use Rattle.coordinates.specs.Types.{LinePair}
use Rattle.free_cells.specs.declared.Rectangle.{Rectangle}
use Rattle.free_cells.specs.declared.Size.{Size}
use Rattle.free_cells.specs.declared.Place.{Place}
use Rattle.free_cells.specs.Free.{tracks_from, along, area_at, FreeLine, FirstOr0, first, nowhere, AtOrAfter, FreePlace, FirstPlace, earliest, no_place, last_row_line}
use Rattle.free_cells.proofs.Places.{order, row_from, row_past}
use Rattle.free_cells.proofs.Words.{Small}
use Rattle.cell_placing.specs.declared.Item.{Item}
use Rattle.cell_placing.specs.Css.{On, start_of}
use Rattle.cell_placing.specs.Steps.{is_on, last_on, last_across, item_along, start_along, Here, FirstLand}

-- ---- two lines on an axis

three : (a b c : Bool) → (a && b) && c ≡ true → (a ≡ true) × (b ≡ true) × (c ≡ true)
three true true true e = (refl, refl, refl)
three true true false e = absurd (false≢true e)
three true false c e = absurd (false≢true e)
three false b c e = absurd (false≢true e)

pub on_to : (last : ℕ) (l : LinePair) → is_on last l ≡ true → On last l
on_to last l e =
    let t = three (leb 1 l.start) (ltb l.start l.end) (leb l.end last) e in
    record { first = leb-true _ _ t.0; order = ltb-true _ _ t.1; final = leb-true _ _ t.2 }

on_from : (last : ℕ) (l : LinePair) → On last l → is_on last l ≡ true
on_from last l o = rw (le-leb 1 l.start o.first, lt-ltb l.start l.end o.order, le-leb l.end last o.final)

pub on_off : (last : ℕ) (l : LinePair) → is_on last l ≡ false → On last l → ⊥
on_off last l e o = false≢true (sym e ∙ on_from last l o)

-- the same lines
on_same : (last : ℕ) (l m : LinePair) → l.start ≡ m.start → l.end ≡ m.end → On last l → On last m
on_same last l m e f o = record { first = omega (arith, o.first); order = omega (arith, o.order); final = omega (arith, o.final) }

pub on_small : (last : ℕ) (l : LinePair) → last < 65536 → On last l → Small l
on_small last l h o = record { start = omega (arith, o.order, o.final); end = omega (arith, o.final) }

-- ---- rectangles

pub same_lines : (l m : LinePair) → l.start ≡ m.start → l.end ≡ m.end → l ≡ m
same_lines l m e f = ap {B = LinePair} (λ (k : ℕ). record { start = k; end = l.end }) e ∙ ap {B = LinePair} (λ (k : ℕ). record { start = m.start; end = k }) f

pub same_rectangle : (q r : Rectangle) → q.columns ≡ r.columns → q.rows ≡ r.rows → q ≡ r
same_rectangle q r e f =
    ap {B = Rectangle} (λ (l : LinePair). record { columns = l; rows = q.rows }) e ∙ ap {B = Rectangle} (λ (l : LinePair). record { columns = r.columns; rows = l }) f

-- ---- lines in both axes

module _ (last : ℕ) (columns rows : LinePair) where
  abbrev fixed : Item
  fixed = record { column = Some (Fixed columns); row = Some (Fixed rows) }

-- ---- lines across an axis

module _ (words : List ℕ) (count last from tracks : ℕ) (across : LinePair) where
  abbrev There : Axis → Rectangle → Type 0
  There axis = Here words count last (item_along axis tracks across) (λ q. from ≤ start_along axis q)

  abbrev at : Axis → ℕ → Rectangle
  at axis line = along axis (tracks_from line tracks) across

  -- such a rectangle is the one at its own line
  is_at : (axis : Axis) (q : Rectangle) → There axis q → q ≡ at axis (start_along axis q)
  is_at Column q h = same_rectangle q (at Column q.columns.start) (same_lines q.columns (tracks_from q.columns.start tracks) refl h.fits.columns) (same_lines q.rows across h.fits.rows.0 h.fits.rows.1)
  is_at Row q h = same_rectangle q (at Row q.rows.start) (same_lines q.columns across h.fits.columns.0 h.fits.columns.1) (same_lines q.rows (tracks_from q.rows.start tracks) refl h.fits.rows)

  to_line : (axis : Axis) (q : Rectangle) → There axis q → FreeLine words count axis (last_on axis last) from tracks across (start_along axis q)
  to_line Column q h =
      record { first = h.fits.across.first; reached = h.past; inside = omega (arith, h.fits.across.final, h.fits.columns); clear = rw (is_at Column q h) at h.clear }
  to_line Row q h =
      record { first = h.fits.down.first; reached = h.past; inside = omega (arith, h.fits.down.final, h.fits.rows); clear = rw (is_at Row q h) at h.clear }

  on_line : (axis : Axis) (line : ℕ) → 1 ≤ tracks → On (last_across axis last) across → FreeLine words count axis (last_on axis last) from tracks across line
      → There axis (at axis line)
  on_line Column line h o f =
      record {
        fits = record { columns = refl; rows = (refl, refl); across = record { first = f.first; order = omega arith; final = f.inside }; down = o };
        clear = f.clear;
        past = f.reached;
      }
  on_line Row line h o f =
      record {
        fits = record { columns = (refl, refl); rows = refl; across = o; down = record { first = f.first; order = omega arith; final = f.inside } };
        clear = f.clear;
        past = f.reached;
      }

  -- in row order they come as their lines do
  after-at : (axis : Axis) (line : ℕ) (q : Rectangle) → There axis q → line ≤ start_along axis q → AtOrAfter (start_of (at axis line)) (start_of q)
  after-at Column line q h w = row_from (start_of (at Column line)) (start_of q) (sym h.fits.rows.0) w
  after-at Row line q h w =
      ⊎_elim
      (λ (l : line < q.rows.start). row_past (start_of (at Row line)) (start_of q) l)
      (λ l. row_from (start_of (at Row line)) (start_of q) (omega arith) (omega (arith, h.fits.columns.0)))
      (order line q.rows.start)

  pub along-found : (axis : Axis) (line : ℕ) → (tracks ≡ 0 → ⊥) → is_on (last_across axis last) across ≡ true
      → FirstOr0 (FreeLine words count axis (last_on axis last) from tracks across) line → (line ≡ 0 → ⊥) → FirstLand (There axis) (Some (at axis line))
  along-found axis line t o (nowhere e f) out = absurd (out e)
  along-found axis line t o (first g f) out = (on_line axis line (omega arith) (on_to (last_across axis last) across o) g, after)
    where
      after : (q : Rectangle) → There axis q → AtOrAfter (start_of (at axis line)) (start_of q)
      after q u = after-at axis line q u (⊎_elim (λ (l : start_along axis q < line). absurd (f (start_along axis q) l (to_line axis q u))) (λ l. l) (order (start_along axis q) line))

  pub along-nowhere : (axis : Axis) → FirstOr0 (FreeLine words count axis (last_on axis last) from tracks across) 0 → FirstLand (There axis) None
  along-nowhere axis (nowhere e f) = λ q u. f (start_along axis q) (to_line axis q u)
  along-nowhere axis (first g f) = absurd (omega (arith, g.first))

  pub along-no-tracks : (axis : Axis) → tracks ≡ 0 → FirstLand (There axis) None
  along-no-tracks Column e = λ q u. omega (arith, u.fits.across.order, u.fits.columns)
  along-no-tracks Row e = λ q u. omega (arith, u.fits.down.order, u.fits.rows)

  pub along-off : (axis : Axis) → is_on (last_across axis last) across ≡ false → FirstLand (There axis) None
  along-off Column e = λ q u. on_off last_row_line across e (on_same last_row_line q.rows across u.fits.rows.0 u.fits.rows.1 u.fits.down)
  along-off Row e = λ q u. on_off last across e (on_same last q.columns across u.fits.columns.0 u.fits.columns.1 u.fits.across)

  -- the line found leaves room for the tracks
  pub along-room : (axis : Axis) (line : ℕ) → FirstOr0 (FreeLine words count axis (last_on axis last) from tracks across) line → (line ≡ 0 → ⊥) → line + tracks ≤ last_on axis last
  along-room axis line (nowhere e f) out = absurd (out e)
  along-room axis line (first g f) out = g.inside

-- ---- no line

module _ (words : List ℕ) (count last : ℕ) (size : Size) (from : Place) where
  abbrev Anywhere : Rectangle → Type 0
  Anywhere = Here words count last (record { column = Some (Free size.columns); row = Some (Free size.rows) }) (λ q. AtOrAfter from (start_of q))

  is-area : (q : Rectangle) → Anywhere q → q ≡ area_at size (start_of q)
  is-area q h =
      same_rectangle q (area_at size (start_of q)) (same_lines q.columns (tracks_from q.columns.start size.columns) refl h.fits.columns) (same_lines q.rows (tracks_from q.rows.start size.rows) refl h.fits.rows)

  to-place : (q : Rectangle) → Anywhere q → FreePlace words count last size from (start_of q)
  to-place q h =
      record {
        row = h.fits.down.first;
        column = h.fits.across.first;
        reached = h.past;
        across = omega (arith, h.fits.across.final, h.fits.columns);
        down = omega (arith, h.fits.down.final, h.fits.rows);
        clear = rw (is-area q h) at h.clear;
      }

  on-place : (p : Place) → (size.columns ≡ 0 → ⊥) → (size.rows ≡ 0 → ⊥) → FreePlace words count last size from p → Anywhere (area_at size p)
  on-place p c r f =
      record {
        fits = record {
          columns = refl;
          rows = refl;
          across = record { first = f.column; order = omega arith; final = f.across };
          down = record { first = f.row; order = omega arith; final = f.down };
        };
        clear = f.clear;
        past = f.reached;
      }

  pub area-found : (p : Place) → (size.columns ≡ 0 → ⊥) → (size.rows ≡ 0 → ⊥) → FirstPlace (FreePlace words count last size from) p → (p.row ≡ 0 → ⊥)
      → FirstLand Anywhere (Some (area_at size p))
  area-found p c r (no_place e f) out = absurd (out (ap (λ (x : Place). x.row) e))
  area-found p c r (earliest g f) out = (on-place p c r g, λ q u b. f (start_of q) b (to-place q u))

  pub area-nowhere : (p : Place) → FirstPlace (FreePlace words count last size from) p → p.row ≡ 0 → FirstLand Anywhere None
  area-nowhere p (no_place e f) z = λ q u. f (start_of q) (to-place q u)
  area-nowhere p (earliest g f) z = absurd (omega (arith, g.row))

  pub area-room : (p : Place) → FirstPlace (FreePlace words count last size from) p → (p.row ≡ 0 → ⊥) → (p.column + size.columns ≤ last) × (p.row + size.rows ≤ last_row_line)
  area-room p (no_place e f) out = absurd (out (ap (λ (x : Place). x.row) e))
  area-room p (earliest g f) out = (g.across, g.down)

-- a last line has 16 bits
pub last-small : (axis : Axis) (last : ℕ) → last < 65536 → last_on axis last < 65536
last-small Column last h = h
last-small Row last h = omega arith
