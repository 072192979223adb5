-- Each limit of a sheet is reached: exactly full is accepted, one more is refused, at its line. Assumes nothing.
use Prim.Native.Nat.{ℕ, zero, suc, ◌+◌, ◌/◌, ◌%◌}
use mathlib.Core.List.{List, [], ◌∷◌, ◌++◌}
use mathlib.Core.Bool.{Bool, true, ◌&&◌}
use lib.Dec.{T, eqb}
use lib.Ieee.{of_bits, add, sub, mul, div, lt, of_int}
use Rattle.text.specs.Split.{split, onto, same, index}
use Rattle.text.specs.Whole.{digits_of, natural_of, non_negative, negative, whole_of, count_in, index_in}
use Rattle.text.specs.Hexadecimal.{bits_from, bits_of}
use Rattle.sizing.specs.Ranges.{up_to, minimum_kind, largest_of, value_in_range, length_in_range}
use Rattle.sizing.specs.Words.{float_up_to, sizing_of_kind, sizing_of}
use Rattle.template_rules.specs.Explicit.{template_size_of}
use Rattle.template_rules.specs.Counts.{outside_count, automatic_count, before_count, automatic_tracks, any_empty, all_fixed, every_fixed}
use Rattle.template_rules.specs.Space.{outside_space, repetition_space}
use Rattle.template_rules.specs.Repetitions.{fitting_of, held_of, repetitions_of}
use Rattle.template_rules.specs.Whole.{floor_of, ceiling_of}
use Rattle.name_rules.specs.Template.{repeated, passed, rule_from}
use Rattle.sheet_forms.specs.Faults.{rank_of, first_of}
use Rattle.sheet_forms.specs.Fields.{axis_of, rule_of, count_of, repetition_of, codes, name_fault, word_fault, words_fault, row_fault}
use Rattle.sheet_forms.specs.Sizes.{kind_of, size_of, inner_of}
use Rattle.sheet_forms.specs.Ends.{end_kind, end_name, end_number, end_within}
use Rattle.sheet_forms.specs.Records.{axis_line, area_line, name_line, sizes_line, repeat_line, end_line, extra_line, item_line, place_line, row_line, cell_line, fixed_kind, by_kind, record_of}
use Rattle.axis_tables.specs.View.{empty_axis, track_step, repeat_step, end_step, name_step, spare_step, item_step, extra_step, axis_step}
use Rattle.panel_tables.specs.View.{empty_view, area_step, end_fault as end_own, lower, limited_step, place_step, cell_step}
use Rattle.panel_cells.specs.Steps.{shares, sharing_from}
use Rattle.picture_rules.specs.Picture.{all_dots, is_dots}
use Rattle.picture_rules.specs.Steps.{with_word, runs_of, drawn, fits, run_step, runs_from, row_step, rows_from}
use Rattle.sheet_rules.specs.Kinds.{is_kind, row_follows}
use Rattle.sheet_rules.specs.Contents.{lines_from}
use Rattle.sheet_rules.specs.Pictures.{picture_step}
use Rattle.sheet_rules.specs.Lines.{record_step, record_fault, strict_fault, line_fault, shared_at, line_step}
use Rattle.sheet_rules.specs.Sheet.{size_of as template_size, counted, entries_of, end_fault, ended, run, fold_of, broken_at, broken_from, broken_of, display_of, overlap_from, overlap_of, sheet_of}

-- n lines
pub lines : ℕ → List ℕ → List ℕ
lines zero l = []
lines (suc n) l = l ++ lines n l

-- two digits
digits : ℕ → List ℕ
digits n = (48 + n / 10) ∷ (48 + n % 10) ∷ []

-- `area`, a name of one byte, row, row + 1, 1, 2
area : ℕ → ℕ → List ℕ
area b row = (97 ∷ 114 ∷ 101 ∷ 97 ∷ 9 ∷ b ∷ 9 ∷ []) ++ (digits row ++ ((9 ∷ []) ++ (digits (row + 1) ++ (9 ∷ 49 ∷ 9 ∷ 50 ∷ 10 ∷ []))))

-- n of them from that byte and that row on
pub areas : ℕ → ℕ → ℕ → List ℕ
areas zero b row = []
areas (suc n) b row = area b row ++ areas n (b + 1) (row + 1)

-- `spare c auto 00000000 auto 00000000`
abbrev spare : List ℕ
spare = 115 ∷ 112 ∷ 97 ∷ 114 ∷ 101 ∷ 9 ∷ 99 ∷ 9 ∷ 97 ∷ 117 ∷ 116 ∷ 111 ∷ 9 ∷ 48 ∷ 48 ∷ 48 ∷ 48 ∷ 48 ∷ 48 ∷ 48 ∷ 48 ∷ 9 ∷ 97 ∷ 117 ∷ 116 ∷ 111 ∷ 9 ∷ 48 ∷ 48 ∷ 48 ∷ 48 ∷ 48 ∷ 48 ∷ 48 ∷ 48 ∷ 10 ∷ []

-- `track r auto 00000000 auto 00000000`
abbrev track : List ℕ
track = 116 ∷ 114 ∷ 97 ∷ 99 ∷ 107 ∷ 9 ∷ 114 ∷ 9 ∷ 97 ∷ 117 ∷ 116 ∷ 111 ∷ 9 ∷ 48 ∷ 48 ∷ 48 ∷ 48 ∷ 48 ∷ 48 ∷ 48 ∷ 48 ∷ 9 ∷ 97 ∷ 117 ∷ 116 ∷ 111 ∷ 9 ∷ 48 ∷ 48 ∷ 48 ∷ 48 ∷ 48 ∷ 48 ∷ 48 ∷ 48 ∷ 10 ∷ []

-- `place c auto - 0 auto - 0`
abbrev place : List ℕ
place = 112 ∷ 108 ∷ 97 ∷ 99 ∷ 101 ∷ 9 ∷ 99 ∷ 9 ∷ 97 ∷ 117 ∷ 116 ∷ 111 ∷ 9 ∷ 45 ∷ 9 ∷ 48 ∷ 9 ∷ 97 ∷ 117 ∷ 116 ∷ 111 ∷ 9 ∷ 45 ∷ 9 ∷ 48 ∷ 10 ∷ []

-- `repeat r 1`
abbrev start : List ℕ
start = 114 ∷ 101 ∷ 112 ∷ 101 ∷ 97 ∷ 116 ∷ 9 ∷ 114 ∷ 9 ∷ 49 ∷ 10 ∷ []

-- `end r`
abbrev end : List ℕ
end = 101 ∷ 110 ∷ 100 ∷ 9 ∷ 114 ∷ 10 ∷ []

-- `extra c 0 0`
abbrev extra : List ℕ
extra = 101 ∷ 120 ∷ 116 ∷ 114 ∷ 97 ∷ 9 ∷ 99 ∷ 9 ∷ 48 ∷ 9 ∷ 48 ∷ 10 ∷ []

-- `item c 10`
abbrev item : List ℕ
item = 105 ∷ 116 ∷ 101 ∷ 109 ∷ 9 ∷ 99 ∷ 9 ∷ 49 ∷ 48 ∷ 10 ∷ []

-- `repeat r 4096`, `name r x`, `track r auto 00000000 auto 00000000`, `end r`
abbrev many : List ℕ
many = 114 ∷ 101 ∷ 112 ∷ 101 ∷ 97 ∷ 116 ∷ 9 ∷ 114 ∷ 9 ∷ 52 ∷ 48 ∷ 57 ∷ 54 ∷ 10 ∷ 110 ∷ 97 ∷ 109 ∷ 101 ∷ 9 ∷ 114 ∷ 9 ∷ 120 ∷ 10 ∷ 116 ∷ 114 ∷ 97 ∷ 99 ∷ 107 ∷ 9 ∷ 114 ∷ 9 ∷ 97 ∷ 117 ∷ 116 ∷ 111 ∷ 9 ∷ 48 ∷ 48 ∷ 48 ∷ 48 ∷ 48 ∷ 48 ∷ 48 ∷ 48 ∷ 9 ∷ 97 ∷ 117 ∷ 116 ∷ 111 ∷ 9 ∷ 48 ∷ 48 ∷ 48 ∷ 48 ∷ 48 ∷ 48 ∷ 48 ∷ 48 ∷ 10 ∷ 101 ∷ 110 ∷ 100 ∷ 9 ∷ 114 ∷ 10 ∷ []

-- `name r y`
abbrev name : List ℕ
name = 110 ∷ 97 ∷ 109 ∷ 101 ∷ 9 ∷ 114 ∷ 9 ∷ 121 ∷ 10 ∷ []

pub record Case : Type 0 where
  pub sheet : List ℕ
  pub fault : ℕ
  pub line : ℕ

abbrev is : List ℕ → ℕ → ℕ → Case
is s n k = record { sheet = s; fault = n; line = k }

pub right : Case → Bool
right c = let o = sheet_of c.sheet in eqb o.fault c.fault && eqb o.line c.line

pub every : List Case → Bool
every [] = true
every (c ∷ cs) = right c && every cs

pub cases : List Case
cases =
    -- 64 spare sizes an axis
    is (lines 64 spare) 0 0
    ∷ is (lines 65 spare) 8 65
    -- 64 components an axis
    ∷ is (lines 64 track) 0 0
    ∷ is (lines 65 track) 8 65
    ∷ is (lines 63 track ++ (start ++ end)) 0 0
    ∷ is (lines 64 track ++ start) 8 65
    -- 32 tracks in a repeat
    ∷ is (start ++ (lines 32 track ++ end)) 0 0
    ∷ is (start ++ (lines 33 track ++ end)) 8 34
    -- 64 drawn areas
    ∷ is (areas 64 33 10) 0 0
    ∷ is (areas 65 33 10) 8 65
    -- a 65th that shares a cell with the first
    ∷ is (areas 64 33 10 ++ area 97 10) 12 65
    -- 256 placements
    ∷ is (lines 256 place) 0 0
    ∷ is (lines 257 place) 8 257
    -- 4,096 name entries an axis
    ∷ is many 0 0
    ∷ is (many ++ name) 8 6
    ∷ []

pub reached : T (every cases)
unfolding every right cases lines digits area areas
    split onto same index digits_of natural_of non_negative negative whole_of count_in index_in bits_from bits_of
    up_to minimum_kind largest_of value_in_range length_in_range float_up_to sizing_of_kind sizing_of rank_of first_of axis_of rule_of count_of repetition_of codes name_fault
    kind_of size_of inner_of end_kind end_name end_number end_within axis_line area_line name_line sizes_line repeat_line end_line extra_line item_line place_line row_line cell_line fixed_kind by_kind record_of
    empty_axis track_step repeat_step end_step name_step spare_step item_step extra_step axis_step empty_view area_step end_own lower limited_step place_step cell_step
    template_size_of outside_count automatic_count before_count automatic_tracks any_empty all_fixed every_fixed outside_space repetition_space fitting_of held_of repetitions_of floor_of ceiling_of
    repeated passed rule_from record_step record_fault line_step shares sharing_from strict_fault line_fault shared_at template_size counted entries_of end_fault ended run fold_of broken_at broken_from broken_of display_of overlap_from is_kind row_follows lines_from picture_step all_dots is_dots word_fault words_fault row_fault with_word runs_of drawn fits run_step runs_from row_step rows_from overlap_of sheet_of of_bits add sub mul div lt of_int
reached = tt

-- 32,768 bytes are a sheet, one more is not
pub bytes : List Case
bytes =
    is (lines 2729 extra ++ (item ++ item)) 0 0
    ∷ is (lines 2729 extra ++ (item ++ (item ++ (10 ∷ [])))) 1 0
    ∷ []

pub bytes-reached : T (every bytes)
unfolding every right bytes lines
    split onto same index digits_of natural_of non_negative negative whole_of count_in index_in bits_from bits_of
    up_to minimum_kind largest_of value_in_range length_in_range float_up_to sizing_of_kind sizing_of rank_of first_of axis_of rule_of count_of repetition_of codes name_fault
    kind_of size_of inner_of end_kind end_name end_number end_within axis_line area_line name_line sizes_line repeat_line end_line extra_line item_line place_line row_line cell_line fixed_kind by_kind record_of
    empty_axis track_step repeat_step end_step name_step spare_step item_step extra_step axis_step empty_view area_step end_own lower limited_step place_step cell_step
    template_size_of outside_count automatic_count before_count automatic_tracks any_empty all_fixed every_fixed outside_space repetition_space fitting_of held_of repetitions_of floor_of ceiling_of
    repeated passed rule_from record_step record_fault line_step shares sharing_from strict_fault line_fault shared_at template_size counted entries_of end_fault ended run fold_of broken_at broken_from broken_of display_of overlap_from is_kind row_follows lines_from picture_step all_dots is_dots word_fault words_fault row_fault with_word runs_of drawn fits run_step runs_from row_step rows_from overlap_of sheet_of of_bits add sub mul div lt of_int
bytes-reached = tt
