-- Edits as lines of a sheet (document 02, request 14): "each sheet line is settled as if last in the sheet, an area last of the areas, so 7 isn't
-- given for it, nor 1 for length". proofs/Theorem.antt shows it of every list of edits.
use Rattle.std.specs.Prelude.{ℕ, ◌≤◌, ◌≡◌, List, [], ◌∷◌, ◌++◌, Bool, true, false, cond, not, ◌&&◌, ◌||◌, eqb, length}
use Rattle.text.specs.Split.{split}
use Rattle.sheet_forms.specs.Forms.{axis, area, row}
use Rattle.panel_tables.specs.View.{PanelView, PanelOutcome, empty_view, refused, accepted}
use Rattle.sheet_rules.specs.Contents.{Line, those, is_of, lines_with, lines_of}
use Rattle.sheet_rules.specs.Lines.{line_fault, line_step}
use Rattle.sheet_rules.specs.Sheet.{end_fault, sheet_of}
use Rattle.panel_rules.specs.Invalid.{unlined}
use Rattle.edit_rules.specs.Edits.{Edit, line, enter, unread, is_edit}
use Rattle.edit_rules.specs.Replay.{reopened, edit_fault, edit_step}
use Rattle.edit_rules.specs.Settled.{view_by}
use Rattle.edit_rules.specs.Bases.{base_of}

-- ---- a sheet as its lines, however long they are together

-- "rows stand where area records do": an area that an edit puts after them is not late
abbrev pub after_rows : PanelView → Line → PanelView
after_rows v fs = cond (is_of area fs && eqb v.stage 2) (reopened v) v

-- one line after the other as the sheet call takes them, an overlap a fault, until one is refused
unfoldable pub taken_by : PanelView → List Line → PanelOutcome
taken_by v [] = accepted v
taken_by v (fs ∷ ls) =
    let w : PanelView = after_rows v fs in
    cond (eqb (line_fault w fs) 0) (taken_by (line_step w fs).panel ls) (refused (line_fault w fs) v)

-- ---- where the lines of edits stand in it

-- the lines before all others: `axis`, `area` and `row`
abbrev pub is_leading : Line → Bool
is_leading fs = is_of axis fs || (is_of area fs || is_of row fs)

-- the lines of a sheet up to the last of its areas, and those behind
unfoldable pub leading : List Line → List Line
leading [] = []
leading (fs ∷ ls) = cond (is_leading fs) (fs ∷ leading ls) []

unfoldable pub behind : List Line → List Line
behind [] = []
behind (fs ∷ ls) = cond (is_leading fs) (behind ls) (fs ∷ ls)

-- the sheet lines among edits, in their order
unfoldable pub edit_lines : List Edit → List Line
edit_lines [] = []
edit_lines (line fs ∷ edits) = fs ∷ edit_lines edits
edit_lines (enter c ∷ edits) = edit_lines edits
edit_lines (unread ∷ edits) = edit_lines edits

abbrev pub not_area : Line → Bool
not_area fs = not (is_of area fs)

-- "last in the sheet, an area last of the areas"
abbrev pub with_edits : List Line → List Edit → List Line
with_edits ls edits = (leading ls ++ lines_with area (edit_lines edits)) ++ (behind ls ++ those not_area (edit_lines edits))

-- a sheet with the lines of edits in it
abbrev pub sheet_with : List ℕ → List Edit → PanelOutcome
sheet_with s edits = taken_by empty_view (with_edits (lines_of s) edits)

-- ---- the theorem

-- a panel apart from where its lines stood, since an area before it gives a `cell` line another number, and from the kind order
abbrev pub contents : PanelView → PanelView
contents v = reopened (unlined v)

-- the sheet lines among edits are those of edits
abbrev pub AllEdits : List Edit → Type 0
AllEdits [] = Unit {0}
AllEdits (line fs ∷ edits) = (is_edit fs ≡ true) × AllEdits edits
AllEdits (enter c ∷ edits) = AllEdits edits
AllEdits (unread ∷ edits) = AllEdits edits

-- the line of an edit that is no area does as the last line of the sheet what it does as an edit
abbrev pub LastLine : List ℕ → Line → Type 0
LastLine s fs = taken_by empty_view (lines_of s ++ (fs ∷ [])) ≡ edit_step (base_of s).view fs

-- accepted edits after a sheet give the panel of the sheet with their lines in it
pub record EditsAsSheet (s : List ℕ) (edits : List Edit) : Type 0 where
  pub accepted : (sheet_with s edits).fault ≡ 0
  pub panel : contents (view_by (base_of s).view edits) ≡ contents (sheet_with s edits).panel

-- and the line of one more is refused as it is in that sheet
abbrev pub EditAsSheet : List ℕ → List Edit → Line → Type 0
EditAsSheet s past fs = edit_fault (view_by (base_of s).view past) fs ≡ (sheet_with s (past ++ (line fs ∷ []))).fault

-- ---- in the bytes of a sheet

-- of the parts between line feeds: "lines of text end in a line feed"
abbrev pub Ended : List (List ℕ) → Type 0
Ended [] = Unit {0}
Ended (l ∷ []) = l ≡ []
Ended (l ∷ m ∷ ls) = Ended (m ∷ ls)

abbrev pub NoRows : List Line → Type 0
NoRows [] = Unit {0}
NoRows (fs ∷ ls) = (is_of row fs ≡ false) × NoRows ls

-- a sheet that a call reads as far as its lines are accepted; without rows, after which a sheet has no area
pub record Readable (s : List ℕ) : Type 0 where
  pub few : length s ≤ 32768
  pub ended : Ended (split 10 s)
  pub undrawn : NoRows (lines_of s)

-- the sheet call gives of the sheet with the lines of accepted edits in it what they give: what comes after the last line, and the panel
pub record ReadAsSheet (s with_lines : List ℕ) (edits : List Edit) : Type 0 where
  pub fault : (sheet_of with_lines).fault ≡ end_fault (view_by (base_of s).view edits)
  pub panel : contents (sheet_of with_lines).view ≡ contents (view_by (base_of s).view edits)
