-- The panel that a sheet describes, or its refusal: a number and a line (document 01, panel sheet and the table of refusals;
-- SHEET.md, Lines of a sheet; SHEET.md, Refusals).
use Rattle.std.specs.Prelude.{ℕ, ◌+◌, max, List, [], ◌∷◌, Bool, cond, not, ◌&&◌, eqb, ltb, length, Float, Option, Some, None}
use Rattle.sizing.specs.Words.{float_up_to, largest_bits, sizing_of}
use Rattle.template_rules.specs.declared.AutoRepeatStrategy.{AutoRepeatStrategy}
use Rattle.template_rules.specs.declared.AutoRepeatStrategy.TheVariants.{MaxRepetitionsThatDoNotOverflow, MinRepetitionsThatDoOverflow}
use Rattle.template_rules.specs.declared.TemplateSize.{TemplateSize}
use Rattle.template_rules.specs.Summary.{meaning_of}
use Rattle.template_rules.specs.Explicit.{template_size_of, inner_value}
use Rattle.name_rules.specs.Css.{Entry}
use Rattle.name_rules.specs.Template.{Piece as WrittenPiece, label, track as written, Item as WrittenItem, single as one, repeat as times, rule_from}
use Rattle.text.specs.Split.{split}
use Rattle.sheet_forms.specs.Faults.{first_of}
use Rattle.axis_tables.specs.View.{Piece, name, track, Repeat, Item, single, repeat, Unended, none, inside, AxisLine, AxisView, components_of}
use Rattle.panel_tables.specs.View.{PanelView, PanelOutcome, empty_view}
use Rattle.sheet_rules.specs.declared.Overlap.{Overlap}
use Rattle.sheet_forms.specs.Forms.{row}
use Rattle.picture_rules.specs.Steps.{taken_of}
use Rattle.sheet_rules.specs.Kinds.{is_kind, row_follows}
use Rattle.sheet_rules.specs.Contents.{Line, lines_from}
use Rattle.sheet_rules.specs.Lines.{shared_at, line_step}

-- ---- what an axis comes to

-- "inner size or `-`"
abbrev pub inner_of : AxisLine → Option Float
inner_of l = cond (eqb l.definite 0) None (Some (float_up_to largest_bits l.inner))

-- rule 0 is `max`, 1 is `min`
abbrev pub strategy_of : AxisLine → AutoRepeatStrategy
strategy_of l = cond (eqb l.rule 0) MaxRepetitionsThatDoNotOverflow MinRepetitionsThatDoOverflow

-- layer 3: the repetitions and the tracks of the template, not cut
unfoldable pub size_of : AxisView → TemplateSize
size_of v =
    template_size_of (inner_of v.line) (strategy_of v.line) (sizing_of v.line.gap) (meaning_of (inner_value (inner_of v.line)) (components_of v.template))

-- one of two, by whether the template counts: it has a track. A template with components has none exactly if it is invalid (`none_exactly`), and
-- names without any track have none
abbrev pub if_counts : {A : Type 0} → AxisView → A → A → A
if_counts v whole empty = cond (eqb (size_of v).tracks 0) empty whole

-- what counts as the template (document 02, request 04: an invalid one "counts as no template")
unfoldable pub counted : AxisView → List Item
counted v = if_counts v v.template []

-- "explicit count is the larger of template count and largest area end - 1"
abbrev pub explicit_of : AxisView → ℕ
explicit_of v = max (size_of v).tracks v.areas

-- how often a repeat's names are written: what it says, or the repetitions found for an automatic one
abbrev pub times_of : ℕ → Repeat → ℕ
times_of repetitions r = cond (eqb r.kind 1) r.number repetitions

abbrev pub piece_of : Piece → WrittenPiece
piece_of (name n) = label n
piece_of (track t) = written

abbrev pub pieces_of : List Piece → List WrittenPiece
pieces_of [] = []
pieces_of (p ∷ ps) = piece_of p ∷ pieces_of ps

abbrev pub item_of : ℕ → Item → WrittenItem
item_of repetitions (single p) = one (piece_of p)
item_of repetitions (repeat r) = times (times_of repetitions r) (pieces_of r.pieces)

abbrev pub items_of : ℕ → List Item → List WrittenItem
items_of repetitions [] = []
items_of repetitions (i ∷ is) = item_of repetitions i ∷ items_of repetitions is

-- layer 4: the name entries after repeats are written out, of what counts as the template
unfoldable pub entries_of : AxisView → List Entry
unfolding counted
entries_of v = rule_from 1 (items_of (size_of v).repetitions (counted v))

-- ---- the line after the last

-- "one left open is unread"
abbrev pub open_fault : Unended → ℕ
open_fault none = 0
open_fault (inside r) = 1

-- "an explicit count above 10,000 is refused by 4"
abbrev pub count_fault : AxisView → ℕ
count_fault v = cond (ltb 10000 (explicit_of v)) 4 0

-- "4,096 name entries an axis after repeats are written out"
abbrev pub entries_fault : AxisView → ℕ
entries_fault v = cond (ltb 4096 (length (entries_of v))) 8 0

abbrev pub axis_fault : AxisView → ℕ
axis_fault v = first_of (open_fault v.unended) (first_of (count_fault v) (entries_fault v))

unfoldable pub end_fault : PanelView → ℕ
end_fault v = first_of (axis_fault v.columns) (axis_fault v.rows)

-- ---- the sheet

-- a refusal's number and line, zeros where there is none, and the panel that is read
pub record Outcome : Type 0 where
  pub fault : ℕ
  pub line : ℕ
  pub view : PanelView

abbrev pub outcome : ℕ → ℕ → PanelView → Outcome
outcome f n v = record { fault = f; line = n; view = v }

-- after the last line; n is the line after it
unfoldable pub ended : ℕ → PanelView → Outcome
ended n v = cond (eqb (end_fault v) 0) (outcome 0 0 v) (outcome (end_fault v) n v)

-- from line n on, until a line is refused, overlap being no fault; "a last line without a line feed is unread", and nothing stands after the last line feed
unfoldable pub run : ℕ → List (List ℕ) → PanelView → Outcome
run n [] v = ended n v
run n (l ∷ []) v = cond (eqb (length l) 0) (ended n v) (outcome 1 n v)
run n (l ∷ m ∷ ls) v =
    let a : PanelOutcome = line_step v (split 9 l) in
    cond (eqb a.fault 0) (run (n + 1) (m ∷ ls) a.panel) (outcome a.fault n v)

-- a sheet where neither an overlap nor a broken picture is a fault; one of more than 32,768 bytes is unread at line 0
unfoldable pub fold_of : List ℕ → Outcome
fold_of s = cond (ltb 32768 (length s)) (outcome 1 0 empty_view) (run 1 (split 10 s) empty_view)

-- ---- a broken picture (document 02, request 07)

-- whether a line is the last row of a picture that is broken after it, and lines follow that have no row of it
unfoldable pub broken_at : PanelView → Line → List Line → Bool
broken_at after l rest = is_kind row l && ((taken_of after.picture).broken && not (row_follows rest))

-- from line n on, as far as lines are accepted: the line of that row, 0 where there is none
unfoldable pub broken_from : ℕ → List (List ℕ) → PanelView → ℕ
broken_from n [] v = 0
broken_from n (l ∷ []) v = 0
broken_from n (l ∷ m ∷ ls) v =
    let a : PanelOutcome = line_step v (split 9 l) in
    cond (eqb a.fault 0) (cond (broken_at a.panel (split 9 l) (lines_from (m ∷ ls))) n (broken_from (n + 1) (m ∷ ls) a.panel)) 0

unfoldable pub broken_of : List ℕ → ℕ
broken_of s = cond (ltb 32768 (length s)) 0 (broken_from 1 (split 10 s) empty_view)

-- a broken picture is refused by 14, at that line
abbrev pub with_broken : ℕ → Outcome → Outcome
with_broken line o = outcome (cond (eqb line 0) o.fault 14) (cond (eqb line 0) o.line line) o.view

-- the rule that the display call keeps: an overlap is no fault
unfoldable pub display_of : List ℕ → Outcome
display_of s = with_broken (broken_of s) (fold_of s)

-- ---- the first overlap (document 02, requests 03 and 09)

abbrev pub no_overlap : Overlap
no_overlap = record { earlier = 0; later = 0; line = 0 }

-- an area at line n after so many, and the first that it shares a cell with: "numbered from 1", the earlier first
abbrev pub overlap_at : ℕ → ℕ → ℕ → Overlap
overlap_at shared areas n = record { earlier = shared; later = areas + 1; line = n }

-- from line n on, as far as lines are accepted
unfoldable pub overlap_from : ℕ → List (List ℕ) → PanelView → Overlap
overlap_from n [] v = no_overlap
overlap_from n (l ∷ []) v = no_overlap
overlap_from n (l ∷ m ∷ ls) v =
    let a : PanelOutcome = line_step v (split 9 l) in
    cond (eqb (shared_at v (split 9 l)) 0) (cond (eqb a.fault 0) (overlap_from (n + 1) (m ∷ ls) a.panel) no_overlap)
    (overlap_at (shared_at v (split 9 l)) (length v.areas) n)

unfoldable pub overlap_of : List ℕ → Overlap
overlap_of s = cond (ltb 32768 (length s)) no_overlap (overlap_from 1 (split 10 s) empty_view)

-- where two areas share a cell the sheet is refused by 12, at the later one's line
abbrev pub chosen : Overlap → Outcome → Outcome
chosen p o = outcome (cond (eqb p.later 0) o.fault 12) (cond (eqb p.later 0) o.line p.line) o.view

unfoldable pub sheet_of : List ℕ → Outcome
sheet_of s = chosen (overlap_of s) (display_of s)
