-- Two worked runs that differ in their rows, and whose cell lands in different rows. Assumes nothing.
use Prim.Native.Nat.{ℕ, zero, suc, ◌+◌, ◌≤◌, ◌<◌}
use mathlib.Core.Path.{◌≡◌, refl, sym, ap, ap₂, ◌∙◌, subst}
use mathlib.Core.List.{List, []}
use mathlib.Core.Bool.{false}
use native.Mathlib.Omega.{arith}
use lib.ListN.{length, get_or, drop, take, get_or-append}
use lib.Seq.{sets, sets-eq}
use Rattle.std.specs.Prelude.{pos, ◌+ℤ◌, Option, Some, Result, Ok}
use Rattle.coordinates.specs.declared.axis.Axis.TheVariants.{Column, Row}
use Rattle.coordinates.specs.Refusals.{count}
use Rattle.axis_tables.specs.declared.AxisSize.{AxisSize}
use Rattle.name_rules.specs.Css.{ResolvedEnds, at_line, free}
use Rattle.name_resolver.specs.Placements.{resolved_ends}
use Rattle.text.specs.Split.{split, onto, same}
use Rattle.sheet_rules.specs.declared.LineFault.{LineFault}
use Rattle.sheet_rules.specs.Panels.{Tables}
use Rattle.sheet_rules.specs.Read.{short_stores}
use Rattle.sheet_rules.specs.Contents.{Line, lines_of, lines_from, placements_of, cells_from}
use Rattle.panel_rules.specs.Placing.{PlacementAnswer, refused_placement}
use Rattle.panel_rules.specs.Runs.{Held, Accepted, size_of, placement_of}
use Rattle.panel_rules.specs.Alone.{held_by}
use Rattle.panel_rules.specs.Worked.{Worked, run_from, row_sheet, row_run, other_sheet, other_run}
use Rattle.panel_rules.proofs.Worked.{row_answers, other-answers, rows-differ}
use Rattle.panel_demands.specs.Cells.{CellLine, half_at, settled_half}
use Rattle.cell_sides.specs.declared.Side.{Side}
use Rattle.cell_sides.specs.Types.{fixed}
use Rattle.cell_sides.specs.Css.{CssSide, between, start_alone, inside}
use Rattle.cell_sides.proofs.Sides.{side_unique}
use Rattle.free_cells.specs.declared.Rectangle.{Rectangle}
use Rattle.free_cells.specs.Words.{rectangle_of, rectangle_in}
use Rattle.free_cells.specs.Free.{last_row_line}
use Rattle.cell_placing.specs.declared.Item.{Item}
use Rattle.cell_placing.specs.declared.Packing.{Packing}
use Rattle.cell_placing.specs.declared.Packing.TheVariants.{Sparse, Dense}
use Rattle.cell_placing.specs.Items.{group_of}
use Rattle.cell_placing.specs.Css.{Keeps, Fits, Past, Candidate, Answers, placed, refused}
use Rattle.cell_demands.specs.Lines.{cell_lines, cell_after, answer_on, LinesPlaced}
use Rattle.cell_demands.specs.Differ.{LandsFrom, CellsDiffer}
use Rattle.cell_demands.proofs.Placed.{lines-placed}

-- ---- a cell from a line on, a track wide

abbrev ends_from : ℕ → ResolvedEnds
ends_from g = record { first = at_line (pos g); last = free }

abbrev side_from : ℕ → Option Side
side_from g = Some (fixed g (g + 1))

css-from : (n last g : ℕ) → suc g < last → CssSide n last (ends_from (suc g)) (side_from (suc g))
css-from n last g h =
    record {
      extent = between (pos (suc g)) (pos (suc g) +ℤ pos 1);
      lies = start_alone;
      is = inside (record { low = refl; high = refl; first = omega arith; order = omega arith; final = omega (arith, h) });
    }

-- from line 1 of the columns and a line of the rows
abbrev cell_of : ℕ → Item
cell_of g = record { column = side_from 1; row = side_from g }

abbrev land_of : ℕ → Rectangle
land_of g = record { columns = record { start = 1; end = 2 }; rows = record { start = g; end = g + 1 } }

in-both : (g : ℕ) → group_of (cell_of g) ≡ 0
unfolding group_of
in-both g = refl

no-cursor : (packing : Packing) (group count : ℕ) (items : ℕ → Item) (lands : ℕ → Rectangle) (i : ℕ) (r : Rectangle) → group ≡ 0 → Past packing group count items lands i r
no-cursor Sparse zero count items lands i r e = tt
no-cursor Sparse (suc g) count items lands i r e = absurd (omega (arith, e))
no-cursor Dense group count items lands i r e = tt

first_written : (lent vs : List ℕ) → length vs ≤ length lent → 0 < length vs → get_or (sets lent 0 vs) 0 0 ≡ get_or vs 0 0
first_written lent vs h b = ap (λ (l : List ℕ). get_or l 0 0) (sets-eq vs lent 0 (omega arith)) ∙ get_or-append vs (drop (0 + length vs) lent) 0 0 b

-- ---- a run with one cell, whose columns are placement 3

record OneCell (w : Worked) (h : Held) (g : ℕ) : Type 0 where
  before : List Line
  line : Line
  gives : CellLine w.sheet before line []
  number : cell_after before ≡ 0
  half : half_at before Column ≡ 3
  one : length (cell_lines w.sheet) ≡ 1
  columns : resolved_ends (placement_of h 3).line ≡ ends_from 1
  rows : resolved_ends (placement_of h 4).line ≡ ends_from g
  wide : (size_of h Column).explicit ≡ 1

module _ (w : Worked) (t : Tables) (ok : Accepted w.sheet t) (g : ℕ) (small : suc g < 10000) (c : OneCell w (held_by (run_from w t)) (suc g)) where
  abbrev h : Held
  h = held_by (run_from w t)

  row-half : half_at c.before Row ≡ 4
  row-half = omega (arith, c.half)

  module _ (packing : Packing) (old new : List ℕ) (r : Result ℕ LineFault) (p : LinesPlaced w.sheet h packing old new r) where
    the-cell : p.items 0 ≡ cell_of (suc g)
    the-cell =
        let s = p.sides c.before [] c.line c.gives in
        let n = (size_of h Column).explicit in
        let columns : resolved_ends (settled_half h c.before Column).line ≡ ends_from 1 = ap (λ (i : ℕ). resolved_ends (placement_of h i).line) c.half ∙ c.columns in
        let rows : resolved_ends (settled_half h c.before Row).line ≡ ends_from (suc g) = ap (λ (i : ℕ). resolved_ends (placement_of h i).line) row-half ∙ c.rows in
        ap p.items (sym c.number)
        ∙ ap₂ {C = Item} (λ (x y : Option Side). record { column = x; row = y })
        (side_unique n (n + 1) (ends_from 1) (p.items (cell_after c.before)).column (side_from 1)
        (subst (λ (e : ResolvedEnds). CssSide n (n + 1) e (p.items (cell_after c.before)).column) columns s.column)
        (css-from n (n + 1) 0 (omega (arith, c.wide))))
        (side_unique (size_of h Row).explicit last_row_line (ends_from (suc g)) (p.items (cell_after c.before)).row (side_from (suc g))
        (subst (λ (e : ResolvedEnds). CssSide (size_of h Row).explicit last_row_line e (p.items (cell_after c.before)).row) rows s.row)
        (css-from (size_of h Row).explicit last_row_line g (omega (arith, small))))

    abbrev last : ℕ
    last = (size_of h Column).explicit + 1

    -- it may lie there
    may-lie : Fits last (p.items 0) (land_of (suc g))
    may-lie =
        subst (λ (x : Item). Fits last x (land_of (suc g))) (sym the-cell)
        (record {
          columns = (refl, refl);
          rows = (refl, refl);
          across = record { first = omega arith; order = omega arith; final = omega (arith, c.wide) };
          down = record { first = omega arith; order = omega arith; final = omega (arith, small) };
        })

    not-stuck : (lands : ℕ → Rectangle) → Candidate packing last (length (cell_lines w.sheet)) p.items lands 0 (land_of (suc g))
    not-stuck lands =
        let none : group_of (p.items 0) ≡ 0 = ap group_of the-cell ∙ in-both (suc g) in
        record {
          fits = may-lie;
          free = λ out. absurd (out none);
          past = no-cursor packing (group_of (p.items 0)) (length (cell_lines w.sheet)) p.items lands 0 (land_of (suc g)) none;
        }

    landed : length old ≡ 256 → Answers packing last (length (cell_lines w.sheet)) p.items old new p.outcome → (r ≡ Ok 1) × ((rectangle_in new 0).rows.start ≡ suc g)
    landed long (placed words len every written e) =
        let kept : Keeps (side_from (suc g)) (rectangle_in words 0).rows =
        subst (λ (x : Item). Keeps x.row (rectangle_in words 0).rows) the-cell (every 0 (omega (arith, c.one))).one.fits.rows in
        let there : get_or new 0 0 ≡ get_or words 0 0 = ap (λ (l : List ℕ). get_or l 0 0) written ∙ first_written old words (omega (arith, long, len, c.one)) (omega (arith, len, c.one)) in (
          p.answers ∙ ap (answer_on w.sheet) e ∙ ap {B = Result ℕ LineFault} (λ (n : ℕ). Ok n) c.one,
          ap (λ (x : ℕ). (rectangle_of x).rows.start) there ∙ kept.0,
        )
    landed long (refused k f same e) =
        let first : k ≡ 0 = omega (arith, f.held, c.one) in
        absurd
        (f.stuck (land_of (suc g))
        (subst (λ (i : ℕ). Candidate packing last (length (cell_lines w.sheet)) p.items f.lands i (land_of (suc g))) (sym first) (not-stuck f.lands)))

  lands-from : LandsFrom (run_from w t) (suc g)
  lands-from packing old new r long a =
      let p : LinesPlaced w.sheet h packing old new r = lines-placed w.sheet t w.calls ok packing old new r a in
      landed packing old new r p long p.lands

-- ---- the two

row-cell : (t : Tables) → short_stores t ≡ false → OneCell row_run (held_by (run_from row_run t)) 3
unfolding row_run row_sheet split onto same lines_from cells_from placements_of
row-cell t long =
    let a = row_answers t long in
    record {
      before = take 16 (lines_of row_sheet);
      line = get_or (lines_of row_sheet) 16 [];
      gives = record { lines = refl; word = refl };
      number = refl;
      half = refl;
      one = refl;
      columns = ap (λ (l : List PlacementAnswer). resolved_ends (get_or l 3 (refused_placement count)).line) a.placements;
      rows = ap (λ (l : List PlacementAnswer). resolved_ends (get_or l 4 (refused_placement count)).line) a.placements;
      wide = ap (λ (x : AxisSize). x.explicit) a.columns.sizes;
    }

other-cell : (t : Tables) → short_stores t ≡ false → OneCell other_run (held_by (run_from other_run t)) 5
unfolding row_run other_run other_sheet split onto same lines_from cells_from placements_of
other-cell t long =
    let a = other-answers t long in
    record {
      before = take 11 (lines_of other_sheet);
      line = get_or (lines_of other_sheet) 11 [];
      gives = record { lines = refl; word = refl };
      number = refl;
      half = refl;
      one = refl;
      columns = ap (λ (l : List PlacementAnswer). resolved_ends (get_or l 3 (refused_placement count)).line) a.placements;
      rows = ap (λ (l : List PlacementAnswer). resolved_ends (get_or l 4 (refused_placement count)).line) a.placements;
      wide = ap (λ (x : AxisSize). x.explicit) a.columns.sizes;
    }

pub cells_differ : CellsDiffer
cells_differ t u long further =
    record {
      runs = rows-differ t u long further;
      first = lands-from row_run t (row_answers t long).is_accepted 2 (omega arith) (row-cell t long);
      second = lands-from other_run u (other-answers u further).is_accepted 4 (omega arith) (other-cell u further);
    }
