-- Worked sheets: the refusal and line of each, zeros where it is accepted, and what the panel then comes to. A list of cases and one test.
-- Assumes nothing.
use Prim.Native.Nat.{ℕ}
use mathlib.Core.List.{List, [], ◌∷◌}
use mathlib.Core.Bool.{Bool, true, ◌&&◌, cond}
use lib.Dec.{T, eqb}
use lib.Ieee.{of_bits, add, sub, mul, div, lt, of_int}
use lib.ListN.{length}
use Rattle.text.specs.Split.{split, onto, same, index}
use Rattle.text.specs.Whole.{digits_of, natural_of, non_negative, negative, whole_of, count_in, index_in}
use Rattle.text.specs.Hexadecimal.{bits_from, bits_of}
use Rattle.sizing.specs.Ranges.{up_to, minimum_kind, largest_of, value_in_range, length_in_range}
use Rattle.sizing.specs.Words.{float_up_to, sizing_of_kind, sizing_of}
use Rattle.template_rules.specs.Explicit.{template_size_of}
use Rattle.template_rules.specs.Counts.{outside_count, automatic_count, before_count, automatic_tracks, any_empty, all_fixed, every_fixed}
use Rattle.template_rules.specs.Space.{outside_space, repetition_space}
use Rattle.template_rules.specs.Repetitions.{fitting_of, held_of, repetitions_of}
use Rattle.template_rules.specs.Whole.{floor_of, ceiling_of}
use Rattle.name_rules.specs.Template.{repeated, passed, rule_from}
use Rattle.sheet_forms.specs.Faults.{rank_of, first_of}
use Rattle.sheet_forms.specs.Fields.{axis_of, rule_of, count_of, repetition_of, codes, name_fault, word_fault, words_fault, row_fault}
use Rattle.sheet_forms.specs.Sizes.{kind_of, size_of, inner_of}
use Rattle.sheet_forms.specs.Ends.{end_kind, end_name, end_number, end_within}
use Rattle.sheet_forms.specs.Records.{axis_line, area_line, name_line, sizes_line, repeat_line, end_line, extra_line, item_line, place_line, row_line, cell_line, fixed_kind, by_kind, record_of}
use Rattle.axis_tables.specs.View.{empty_axis, track_step, repeat_step, end_step, name_step, spare_step, item_step, extra_step, axis_step, AxisView}
use Rattle.panel_tables.specs.View.{empty_view, area_step, end_fault as end_own, lower, limited_step, place_step, cell_step}
use Rattle.panel_cells.specs.Steps.{shares, sharing_from}
use Rattle.picture_rules.specs.Picture.{all_dots, is_dots}
use Rattle.picture_rules.specs.Steps.{with_word, runs_of, drawn, fits, run_step, runs_from, row_step, rows_from}
use Rattle.sheet_rules.specs.Kinds.{is_kind, row_follows}
use Rattle.sheet_rules.specs.Contents.{lines_from}
use Rattle.sheet_rules.specs.Pictures.{picture_step}
use Rattle.sheet_rules.specs.Lines.{record_step, record_fault, strict_fault, line_fault, shared_at, line_step}
use Rattle.sheet_rules.specs.Sheet.{size_of as template_size, counted, explicit_of, entries_of, end_fault, ended, run, fold_of, broken_at, broken_from, broken_of, display_of, overlap_from, overlap_of, sheet_of, Outcome}

-- repetitions, explicit count and name entries of an axis
pub record Size : Type 0 where
  pub repetitions : ℕ
  pub explicit : ℕ
  pub entries : ℕ

pub record Case : Type 0 where
  pub sheet : List ℕ
  pub fault : ℕ
  pub line : ℕ
  pub columns : Size
  pub rows : Size

abbrev size : ℕ → ℕ → ℕ → Size
size r e n = record { repetitions = r; explicit = e; entries = n }

-- a sheet that is refused
abbrev is : List ℕ → ℕ → ℕ → Case
is s n k = record { sheet = s; fault = n; line = k; columns = size 0 0 0; rows = size 0 0 0 }

abbrev accepted : List ℕ → Size → Size → Case
accepted s c r = record { sheet = s; fault = 0; line = 0; columns = c; rows = r }

abbrev sized : AxisView → Size → Bool
sized x s = eqb (template_size x).repetitions s.repetitions && eqb (explicit_of x) s.explicit && eqb (length (entries_of x)) s.entries

abbrev panel : Case → Outcome → Bool
panel c o = cond (eqb c.fault 0) (sized o.view.columns c.columns && sized o.view.rows c.rows) true

pub right : Case → Bool
right c = let o = sheet_of c.sheet in eqb o.fault c.fault && eqb o.line c.line && panel c o

pub every : List Case → Bool
every [] = true
every (c ∷ cs) = right c && every cs

pub cases : List Case
cases =
    -- document 01's worked case: 2 repetitions, 2 columns, 2 entries
    accepted (97 ∷ 120 ∷ 105 ∷ 115 ∷ 9 ∷ 99 ∷ 9 ∷ 52 ∷ 51 ∷ 52 ∷ 56 ∷ 48 ∷ 48 ∷ 48 ∷ 48 ∷ 9 ∷ 109 ∷ 97 ∷ 120 ∷ 9 ∷ 108 ∷ 101 ∷ 110 ∷ 9 ∷ 48 ∷ 48 ∷ 48 ∷ 48 ∷ 48 ∷ 48 ∷ 48 ∷ 48 ∷ 10 ∷ 114 ∷ 101 ∷ 112 ∷ 101 ∷ 97 ∷ 116 ∷ 9 ∷ 99 ∷ 9 ∷ 102 ∷ 105 ∷ 108 ∷ 108 ∷ 10 ∷ 110 ∷ 97 ∷ 109 ∷ 101 ∷ 9 ∷ 99 ∷ 9 ∷ 120 ∷ 10 ∷ 116 ∷ 114 ∷ 97 ∷ 99 ∷ 107 ∷ 9 ∷ 99 ∷ 9 ∷ 108 ∷ 101 ∷ 110 ∷ 9 ∷ 52 ∷ 50 ∷ 99 ∷ 56 ∷ 48 ∷ 48 ∷ 48 ∷ 48 ∷ 9 ∷ 108 ∷ 101 ∷ 110 ∷ 9 ∷ 52 ∷ 50 ∷ 99 ∷ 56 ∷ 48 ∷ 48 ∷ 48 ∷ 48 ∷ 10 ∷ 101 ∷ 110 ∷ 100 ∷ 9 ∷ 99 ∷ 10 ∷ 112 ∷ 108 ∷ 97 ∷ 99 ∷ 101 ∷ 9 ∷ 99 ∷ 9 ∷ 110 ∷ 97 ∷ 109 ∷ 101 ∷ 100 ∷ 9 ∷ 120 ∷ 9 ∷ 50 ∷ 9 ∷ 97 ∷ 117 ∷ 116 ∷ 111 ∷ 9 ∷ 45 ∷ 9 ∷ 48 ∷ 10 ∷ []) (size 2 2 2) (size 0 0 0)
    -- the empty sheet
    ∷ accepted ([]) (size 0 0 0) (size 0 0 0)
    -- a fault at line 1
    ∷ is (97 ∷ 120 ∷ 105 ∷ 115 ∷ 9 ∷ 120 ∷ 9 ∷ 45 ∷ 9 ∷ 109 ∷ 97 ∷ 120 ∷ 9 ∷ 108 ∷ 101 ∷ 110 ∷ 9 ∷ 48 ∷ 48 ∷ 48 ∷ 48 ∷ 48 ∷ 48 ∷ 48 ∷ 48 ∷ 10 ∷ 101 ∷ 110 ∷ 100 ∷ 9 ∷ 99 ∷ 10 ∷ []) 1 1
    -- an area name again, at line 2
    ∷ is (97 ∷ 114 ∷ 101 ∷ 97 ∷ 9 ∷ 97 ∷ 9 ∷ 49 ∷ 9 ∷ 50 ∷ 9 ∷ 49 ∷ 9 ∷ 52 ∷ 10 ∷ 97 ∷ 114 ∷ 101 ∷ 97 ∷ 9 ∷ 97 ∷ 9 ∷ 49 ∷ 9 ∷ 50 ∷ 9 ∷ 49 ∷ 9 ∷ 50 ∷ 10 ∷ []) 6 2
    -- the row axis again, at the last line; the column axis is another
    ∷ is (97 ∷ 120 ∷ 105 ∷ 115 ∷ 9 ∷ 114 ∷ 9 ∷ 45 ∷ 9 ∷ 109 ∷ 97 ∷ 120 ∷ 9 ∷ 108 ∷ 101 ∷ 110 ∷ 9 ∷ 48 ∷ 48 ∷ 48 ∷ 48 ∷ 48 ∷ 48 ∷ 48 ∷ 48 ∷ 10 ∷ 97 ∷ 120 ∷ 105 ∷ 115 ∷ 9 ∷ 99 ∷ 9 ∷ 45 ∷ 9 ∷ 109 ∷ 97 ∷ 120 ∷ 9 ∷ 108 ∷ 101 ∷ 110 ∷ 9 ∷ 48 ∷ 48 ∷ 48 ∷ 48 ∷ 48 ∷ 48 ∷ 48 ∷ 48 ∷ 10 ∷ 97 ∷ 120 ∷ 105 ∷ 115 ∷ 9 ∷ 114 ∷ 9 ∷ 45 ∷ 9 ∷ 109 ∷ 105 ∷ 110 ∷ 9 ∷ 108 ∷ 101 ∷ 110 ∷ 9 ∷ 48 ∷ 48 ∷ 48 ∷ 48 ∷ 48 ∷ 48 ∷ 48 ∷ 48 ∷ 10 ∷ []) 6 3
    -- again and late: twice comes first
    ∷ is (97 ∷ 114 ∷ 101 ∷ 97 ∷ 9 ∷ 97 ∷ 9 ∷ 49 ∷ 9 ∷ 50 ∷ 9 ∷ 49 ∷ 9 ∷ 52 ∷ 10 ∷ 110 ∷ 97 ∷ 109 ∷ 101 ∷ 9 ∷ 99 ∷ 9 ∷ 120 ∷ 10 ∷ 97 ∷ 114 ∷ 101 ∷ 97 ∷ 9 ∷ 97 ∷ 9 ∷ 49 ∷ 9 ∷ 50 ∷ 9 ∷ 49 ∷ 9 ∷ 50 ∷ 10 ∷ []) 6 3
    -- an axis record after a name
    ∷ is (110 ∷ 97 ∷ 109 ∷ 101 ∷ 9 ∷ 99 ∷ 9 ∷ 120 ∷ 10 ∷ 97 ∷ 120 ∷ 105 ∷ 115 ∷ 9 ∷ 99 ∷ 9 ∷ 45 ∷ 9 ∷ 109 ∷ 97 ∷ 120 ∷ 9 ∷ 108 ∷ 101 ∷ 110 ∷ 9 ∷ 48 ∷ 48 ∷ 48 ∷ 48 ∷ 48 ∷ 48 ∷ 48 ∷ 48 ∷ 10 ∷ []) 7 2
    -- a late area with a start not below its end: the lower number
    ∷ is (110 ∷ 97 ∷ 109 ∷ 101 ∷ 9 ∷ 99 ∷ 9 ∷ 120 ∷ 10 ∷ 97 ∷ 114 ∷ 101 ∷ 97 ∷ 9 ∷ 97 ∷ 9 ∷ 50 ∷ 9 ∷ 50 ∷ 9 ∷ 49 ∷ 9 ∷ 50 ∷ 10 ∷ []) 5 2
    -- an unended last line
    ∷ is (110 ∷ 97 ∷ 109 ∷ 101 ∷ 9 ∷ 99 ∷ 9 ∷ 120 ∷ []) 1 1
    -- an empty line
    ∷ is (110 ∷ 97 ∷ 109 ∷ 101 ∷ 9 ∷ 99 ∷ 9 ∷ 120 ∷ 10 ∷ 10 ∷ []) 1 2
    -- an open repeat, at the line after the last
    ∷ is (114 ∷ 101 ∷ 112 ∷ 101 ∷ 97 ∷ 116 ∷ 9 ∷ 99 ∷ 9 ∷ 51 ∷ 10 ∷ []) 1 2
    -- a repeat inside one of its axis, before its count; the other axis may be open
    ∷ is (114 ∷ 101 ∷ 112 ∷ 101 ∷ 97 ∷ 116 ∷ 9 ∷ 99 ∷ 9 ∷ 51 ∷ 10 ∷ 114 ∷ 101 ∷ 112 ∷ 101 ∷ 97 ∷ 116 ∷ 9 ∷ 114 ∷ 9 ∷ 50 ∷ 10 ∷ 114 ∷ 101 ∷ 112 ∷ 101 ∷ 97 ∷ 116 ∷ 9 ∷ 99 ∷ 9 ∷ 54 ∷ 53 ∷ 53 ∷ 51 ∷ 54 ∷ 10 ∷ []) 1 3
    -- an end with none open
    ∷ is (101 ∷ 110 ∷ 100 ∷ 9 ∷ 114 ∷ 10 ∷ []) 1 1
    -- a fault on line 3 with a lower number on line 5
    ∷ is (110 ∷ 97 ∷ 109 ∷ 101 ∷ 9 ∷ 99 ∷ 9 ∷ 120 ∷ 10 ∷ 110 ∷ 97 ∷ 109 ∷ 101 ∷ 9 ∷ 114 ∷ 9 ∷ 121 ∷ 10 ∷ 105 ∷ 116 ∷ 101 ∷ 109 ∷ 9 ∷ 99 ∷ 9 ∷ 51 ∷ 48 ∷ 48 ∷ 48 ∷ 48 ∷ 10 ∷ 110 ∷ 97 ∷ 109 ∷ 101 ∷ 9 ∷ 99 ∷ 9 ∷ 122 ∷ 10 ∷ 101 ∷ 110 ∷ 100 ∷ 9 ∷ 99 ∷ 10 ∷ []) 4 3
    -- 10,001 tracks
    ∷ is (114 ∷ 101 ∷ 112 ∷ 101 ∷ 97 ∷ 116 ∷ 9 ∷ 99 ∷ 9 ∷ 49 ∷ 48 ∷ 48 ∷ 48 ∷ 49 ∷ 10 ∷ 116 ∷ 114 ∷ 97 ∷ 99 ∷ 107 ∷ 9 ∷ 99 ∷ 9 ∷ 97 ∷ 117 ∷ 116 ∷ 111 ∷ 9 ∷ 48 ∷ 48 ∷ 48 ∷ 48 ∷ 48 ∷ 48 ∷ 48 ∷ 48 ∷ 9 ∷ 97 ∷ 117 ∷ 116 ∷ 111 ∷ 9 ∷ 48 ∷ 48 ∷ 48 ∷ 48 ∷ 48 ∷ 48 ∷ 48 ∷ 48 ∷ 10 ∷ 101 ∷ 110 ∷ 100 ∷ 9 ∷ 99 ∷ 10 ∷ []) 4 4
    -- 10,000 tracks
    ∷ accepted (114 ∷ 101 ∷ 112 ∷ 101 ∷ 97 ∷ 116 ∷ 9 ∷ 99 ∷ 9 ∷ 49 ∷ 48 ∷ 48 ∷ 48 ∷ 48 ∷ 10 ∷ 116 ∷ 114 ∷ 97 ∷ 99 ∷ 107 ∷ 9 ∷ 99 ∷ 9 ∷ 97 ∷ 117 ∷ 116 ∷ 111 ∷ 9 ∷ 48 ∷ 48 ∷ 48 ∷ 48 ∷ 48 ∷ 48 ∷ 48 ∷ 48 ∷ 9 ∷ 97 ∷ 117 ∷ 116 ∷ 111 ∷ 9 ∷ 48 ∷ 48 ∷ 48 ∷ 48 ∷ 48 ∷ 48 ∷ 48 ∷ 48 ∷ 10 ∷ 101 ∷ 110 ∷ 100 ∷ 9 ∷ 99 ∷ 10 ∷ []) (size 0 10000 0) (size 0 0 0)
    -- an area to the last line
    ∷ accepted (97 ∷ 114 ∷ 101 ∷ 97 ∷ 9 ∷ 97 ∷ 9 ∷ 49 ∷ 9 ∷ 50 ∷ 9 ∷ 51 ∷ 9 ∷ 49 ∷ 48 ∷ 48 ∷ 48 ∷ 49 ∷ 10 ∷ []) (size 0 10000 0) (size 0 1 0)
    -- templates that count as none (document 02, request 04). Bench four: an automatic repeat beside a track of no fixed kind gives no repetition, track or name,
    -- and its area still counts
    ∷ accepted (97 ∷ 120 ∷ 105 ∷ 115 ∷ 9 ∷ 99 ∷ 9 ∷ 52 ∷ 51 ∷ 97 ∷ 48 ∷ 48 ∷ 48 ∷ 48 ∷ 48 ∷ 9 ∷ 109 ∷ 97 ∷ 120 ∷ 9 ∷ 108 ∷ 101 ∷ 110 ∷ 9 ∷ 48 ∷ 48 ∷ 48 ∷ 48 ∷ 48 ∷ 48 ∷ 48 ∷ 48 ∷ 10 ∷ 97 ∷ 114 ∷ 101 ∷ 97 ∷ 9 ∷ 108 ∷ 101 ∷ 118 ∷ 101 ∷ 108 ∷ 9 ∷ 49 ∷ 9 ∷ 50 ∷ 9 ∷ 50 ∷ 9 ∷ 51 ∷ 10 ∷ 114 ∷ 101 ∷ 112 ∷ 101 ∷ 97 ∷ 116 ∷ 9 ∷ 99 ∷ 9 ∷ 102 ∷ 105 ∷ 108 ∷ 108 ∷ 10 ∷ 116 ∷ 114 ∷ 97 ∷ 99 ∷ 107 ∷ 9 ∷ 99 ∷ 9 ∷ 108 ∷ 101 ∷ 110 ∷ 9 ∷ 52 ∷ 50 ∷ 99 ∷ 56 ∷ 48 ∷ 48 ∷ 48 ∷ 48 ∷ 9 ∷ 108 ∷ 101 ∷ 110 ∷ 9 ∷ 52 ∷ 50 ∷ 99 ∷ 56 ∷ 48 ∷ 48 ∷ 48 ∷ 48 ∷ 10 ∷ 101 ∷ 110 ∷ 100 ∷ 9 ∷ 99 ∷ 10 ∷ 110 ∷ 97 ∷ 109 ∷ 101 ∷ 9 ∷ 99 ∷ 9 ∷ 111 ∷ 102 ∷ 102 ∷ 115 ∷ 101 ∷ 116 ∷ 10 ∷ 116 ∷ 114 ∷ 97 ∷ 99 ∷ 107 ∷ 9 ∷ 99 ∷ 9 ∷ 97 ∷ 117 ∷ 116 ∷ 111 ∷ 9 ∷ 48 ∷ 48 ∷ 48 ∷ 48 ∷ 48 ∷ 48 ∷ 48 ∷ 48 ∷ 9 ∷ 97 ∷ 117 ∷ 116 ∷ 111 ∷ 9 ∷ 48 ∷ 48 ∷ 48 ∷ 48 ∷ 48 ∷ 48 ∷ 48 ∷ 48 ∷ 10 ∷ []) (size 0 2 0) (size 0 1 0)
    -- a written count of 0 beside 10,001 tracks: nothing above 10,000 counts
    ∷ accepted (114 ∷ 101 ∷ 112 ∷ 101 ∷ 97 ∷ 116 ∷ 9 ∷ 99 ∷ 9 ∷ 49 ∷ 48 ∷ 48 ∷ 48 ∷ 49 ∷ 10 ∷ 116 ∷ 114 ∷ 97 ∷ 99 ∷ 107 ∷ 9 ∷ 99 ∷ 9 ∷ 97 ∷ 117 ∷ 116 ∷ 111 ∷ 9 ∷ 48 ∷ 48 ∷ 48 ∷ 48 ∷ 48 ∷ 48 ∷ 48 ∷ 48 ∷ 9 ∷ 97 ∷ 117 ∷ 116 ∷ 111 ∷ 9 ∷ 48 ∷ 48 ∷ 48 ∷ 48 ∷ 48 ∷ 48 ∷ 48 ∷ 48 ∷ 10 ∷ 101 ∷ 110 ∷ 100 ∷ 9 ∷ 99 ∷ 10 ∷ 114 ∷ 101 ∷ 112 ∷ 101 ∷ 97 ∷ 116 ∷ 9 ∷ 99 ∷ 9 ∷ 48 ∷ 10 ∷ 116 ∷ 114 ∷ 97 ∷ 99 ∷ 107 ∷ 9 ∷ 99 ∷ 9 ∷ 97 ∷ 117 ∷ 116 ∷ 111 ∷ 9 ∷ 48 ∷ 48 ∷ 48 ∷ 48 ∷ 48 ∷ 48 ∷ 48 ∷ 48 ∷ 9 ∷ 97 ∷ 117 ∷ 116 ∷ 111 ∷ 9 ∷ 48 ∷ 48 ∷ 48 ∷ 48 ∷ 48 ∷ 48 ∷ 48 ∷ 48 ∷ 10 ∷ 101 ∷ 110 ∷ 100 ∷ 9 ∷ 99 ∷ 10 ∷ []) (size 0 0 0) (size 0 0 0)
    -- 4,097 names in a repeat of no tracks: no entry counts
    ∷ accepted (114 ∷ 101 ∷ 112 ∷ 101 ∷ 97 ∷ 116 ∷ 9 ∷ 99 ∷ 9 ∷ 52 ∷ 48 ∷ 57 ∷ 55 ∷ 10 ∷ 110 ∷ 97 ∷ 109 ∷ 101 ∷ 9 ∷ 99 ∷ 9 ∷ 120 ∷ 10 ∷ 101 ∷ 110 ∷ 100 ∷ 9 ∷ 99 ∷ 10 ∷ []) (size 0 0 0) (size 0 0 0)
    -- names without any track, beside rows whose names count
    ∷ accepted (110 ∷ 97 ∷ 109 ∷ 101 ∷ 9 ∷ 99 ∷ 9 ∷ 120 ∷ 10 ∷ 110 ∷ 97 ∷ 109 ∷ 101 ∷ 9 ∷ 114 ∷ 9 ∷ 121 ∷ 10 ∷ 116 ∷ 114 ∷ 97 ∷ 99 ∷ 107 ∷ 9 ∷ 114 ∷ 9 ∷ 97 ∷ 117 ∷ 116 ∷ 111 ∷ 9 ∷ 48 ∷ 48 ∷ 48 ∷ 48 ∷ 48 ∷ 48 ∷ 48 ∷ 48 ∷ 9 ∷ 97 ∷ 117 ∷ 116 ∷ 111 ∷ 9 ∷ 48 ∷ 48 ∷ 48 ∷ 48 ∷ 48 ∷ 48 ∷ 48 ∷ 48 ∷ 10 ∷ 110 ∷ 97 ∷ 109 ∷ 101 ∷ 9 ∷ 114 ∷ 9 ∷ 122 ∷ 10 ∷ []) (size 0 0 0) (size 0 1 2)
    -- area pictures (document 02, request 07)
    -- a picture whose second row breaks it, then a line of no form and one more row of it: the line of no form comes first
    ∷ is (114 ∷ 111 ∷ 119 ∷ 9 ∷ 97 ∷ 9 ∷ 46 ∷ 9 ∷ 97 ∷ 10 ∷ 106 ∷ 117 ∷ 110 ∷ 107 ∷ 10 ∷ 114 ∷ 111 ∷ 119 ∷ 9 ∷ 97 ∷ 9 ∷ 97 ∷ 9 ∷ 97 ∷ 10 ∷ []) 1 2
    -- the same with a line of a later kind between: the last row not late is the first
    ∷ is (114 ∷ 111 ∷ 119 ∷ 9 ∷ 97 ∷ 9 ∷ 46 ∷ 9 ∷ 97 ∷ 10 ∷ 110 ∷ 97 ∷ 109 ∷ 101 ∷ 9 ∷ 99 ∷ 9 ∷ 120 ∷ 10 ∷ 114 ∷ 111 ∷ 119 ∷ 9 ∷ 97 ∷ 9 ∷ 97 ∷ 9 ∷ 97 ∷ 10 ∷ []) 14 1
    -- 14 stands at the last row, not at the first that breaks, and comes before a later fault
    ∷ is (114 ∷ 111 ∷ 119 ∷ 9 ∷ 97 ∷ 9 ∷ 46 ∷ 9 ∷ 97 ∷ 10 ∷ 106 ∷ 117 ∷ 110 ∷ 107 ∷ 10 ∷ []) 14 1
    ∷ is (114 ∷ 111 ∷ 119 ∷ 9 ∷ 97 ∷ 9 ∷ 46 ∷ 9 ∷ 97 ∷ 10 ∷ 114 ∷ 111 ∷ 119 ∷ 9 ∷ 98 ∷ 9 ∷ 46 ∷ 9 ∷ 98 ∷ 10 ∷ 114 ∷ 111 ∷ 119 ∷ 9 ∷ 97 ∷ 9 ∷ 97 ∷ 9 ∷ 97 ∷ 10 ∷ 101 ∷ 120 ∷ 116 ∷ 114 ∷ 97 ∷ 9 ∷ 99 ∷ 9 ∷ 48 ∷ 9 ∷ 48 ∷ 10 ∷ []) 14 3
    -- and before what comes after the last line
    ∷ is (114 ∷ 111 ∷ 119 ∷ 9 ∷ 97 ∷ 9 ∷ 46 ∷ 9 ∷ 97 ∷ 10 ∷ 114 ∷ 101 ∷ 112 ∷ 101 ∷ 97 ∷ 116 ∷ 9 ∷ 99 ∷ 9 ∷ 50 ∷ 10 ∷ []) 14 1
    -- an unended last line is no row
    ∷ is (114 ∷ 111 ∷ 119 ∷ 9 ∷ 97 ∷ 9 ∷ 46 ∷ 9 ∷ 97 ∷ 10 ∷ 114 ∷ 111 ∷ 119 ∷ 9 ∷ 97 ∷ 9 ∷ 97 ∷ 9 ∷ 97 ∷ []) 14 1
    -- another width is 13 at its own line, before 14
    ∷ is (114 ∷ 111 ∷ 119 ∷ 9 ∷ 97 ∷ 9 ∷ 46 ∷ 9 ∷ 97 ∷ 10 ∷ 114 ∷ 111 ∷ 119 ∷ 9 ∷ 97 ∷ 9 ∷ 97 ∷ 10 ∷ 114 ∷ 111 ∷ 119 ∷ 9 ∷ 98 ∷ 9 ∷ 98 ∷ 9 ∷ 98 ∷ 10 ∷ []) 13 2
    -- a row after an area record, an area record after a row, a name that the picture has
    ∷ is (97 ∷ 114 ∷ 101 ∷ 97 ∷ 9 ∷ 97 ∷ 9 ∷ 49 ∷ 9 ∷ 50 ∷ 9 ∷ 49 ∷ 9 ∷ 50 ∷ 10 ∷ 114 ∷ 111 ∷ 119 ∷ 9 ∷ 98 ∷ 10 ∷ []) 7 2
    ∷ is (114 ∷ 111 ∷ 119 ∷ 9 ∷ 98 ∷ 10 ∷ 97 ∷ 114 ∷ 101 ∷ 97 ∷ 9 ∷ 97 ∷ 9 ∷ 49 ∷ 9 ∷ 50 ∷ 9 ∷ 49 ∷ 9 ∷ 50 ∷ 10 ∷ []) 7 2
    ∷ is (114 ∷ 111 ∷ 119 ∷ 9 ∷ 98 ∷ 10 ∷ 97 ∷ 114 ∷ 101 ∷ 97 ∷ 9 ∷ 98 ∷ 9 ∷ 49 ∷ 9 ∷ 50 ∷ 9 ∷ 49 ∷ 9 ∷ 50 ∷ 10 ∷ []) 6 2
    -- an axis record after a row
    ∷ is (114 ∷ 111 ∷ 119 ∷ 9 ∷ 98 ∷ 10 ∷ 97 ∷ 120 ∷ 105 ∷ 115 ∷ 9 ∷ 99 ∷ 9 ∷ 45 ∷ 9 ∷ 109 ∷ 97 ∷ 120 ∷ 9 ∷ 108 ∷ 101 ∷ 110 ∷ 9 ∷ 48 ∷ 48 ∷ 48 ∷ 48 ∷ 48 ∷ 48 ∷ 48 ∷ 48 ∷ 10 ∷ []) 7 2
    -- a picture of two areas around an empty cell
    ∷ accepted (114 ∷ 111 ∷ 119 ∷ 9 ∷ 97 ∷ 9 ∷ 97 ∷ 9 ∷ 98 ∷ 10 ∷ 114 ∷ 111 ∷ 119 ∷ 9 ∷ 46 ∷ 9 ∷ 46 ∷ 9 ∷ 98 ∷ 10 ∷ []) (size 0 3 0) (size 0 2 0)
    -- rows of dots alone raise the counts too
    ∷ accepted (97 ∷ 120 ∷ 105 ∷ 115 ∷ 9 ∷ 99 ∷ 9 ∷ 45 ∷ 9 ∷ 109 ∷ 97 ∷ 120 ∷ 9 ∷ 108 ∷ 101 ∷ 110 ∷ 9 ∷ 48 ∷ 48 ∷ 48 ∷ 48 ∷ 48 ∷ 48 ∷ 48 ∷ 48 ∷ 10 ∷ 114 ∷ 111 ∷ 119 ∷ 9 ∷ 46 ∷ 46 ∷ 9 ∷ 46 ∷ 9 ∷ 46 ∷ 46 ∷ 46 ∷ 9 ∷ 46 ∷ 10 ∷ 114 ∷ 111 ∷ 119 ∷ 9 ∷ 46 ∷ 9 ∷ 46 ∷ 9 ∷ 46 ∷ 9 ∷ 46 ∷ 10 ∷ []) (size 0 4 0) (size 0 2 0)
    ∷ []

pub worked : T (every cases)
unfolding every right cases
    split onto same index digits_of natural_of non_negative negative whole_of count_in index_in bits_from bits_of
    up_to minimum_kind largest_of value_in_range length_in_range float_up_to sizing_of_kind sizing_of rank_of first_of axis_of rule_of count_of repetition_of codes name_fault
    kind_of size_of inner_of end_kind end_name end_number end_within axis_line area_line name_line sizes_line repeat_line end_line extra_line item_line place_line row_line cell_line fixed_kind by_kind record_of
    empty_axis track_step repeat_step end_step name_step spare_step item_step extra_step axis_step empty_view area_step end_own lower limited_step place_step cell_step
    template_size_of outside_count automatic_count before_count automatic_tracks any_empty all_fixed every_fixed outside_space repetition_space fitting_of held_of repetitions_of floor_of ceiling_of
    repeated passed rule_from record_step record_fault line_step shares sharing_from strict_fault line_fault shared_at template_size counted entries_of end_fault ended run fold_of broken_at broken_from broken_of display_of overlap_from is_kind row_follows lines_from picture_step all_dots is_dots word_fault words_fault row_fault with_word runs_of drawn fits run_step runs_from row_step rows_from overlap_of sheet_of of_bits add sub mul div lt of_int
worked = tt
