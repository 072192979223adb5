-- Rows 1 to 8 and 12 to 14 of the table of refusals (document 01; document 02, requests 03 and 07): at a line, over its fields and the panel that the lines before it describe, and after the last line
-- (SHEET.md, Refusals).
-- They don't name the reader; proofs/Theorem.antt shows that it follows them.
use Rattle.std.specs.Prelude.{ℕ, zero, suc, ◌+◌, ◌≤◌, ◌<◌, ◌≡◌, List, [], ◌∷◌, ◌⊎◌, length, get_or}
use Rattle.coordinates.specs.declared.axis.Axis.{Axis}
use Rattle.coordinates.specs.declared.axis.Axis.TheVariants.{Column, Row as Rows}
use Rattle.sheet_forms.specs.Words.{at, axis_words}
use Rattle.text.specs.Split.{split}
use Rattle.sheet_forms.specs.Faults.{rank_of, FirstBy}
use Rattle.sheet_forms.specs.Forms.{Kind, axis, area, name, track, repeat, end, spare, extra, item, place, row, cell, Of}
use Rattle.sheet_forms.specs.Rows.{UnreadLine, BadName, BadValue, BadCount, BadArea}
use Rattle.axis_tables.specs.View.{Unended, none, inside, AxisView, tracks_in, components_of, axis_names, axis_bytes}
use Rattle.panel_tables.specs.View.{Area, PanelView, items, empty_view}
use Rattle.picture_rules.specs.Picture.{Picture, AllFilled, width_of}
use Rattle.panel_tables.specs.Axes.{view_in}
use Rattle.panel_cells.specs.Cells.{SharedBy}
use Rattle.sheet_rules.specs.Contents.{Line, lines_from, area_in, words_in}
use Rattle.sheet_rules.specs.Pictures.{areas_of, with_words}
use Rattle.sheet_rules.specs.Lines.{line_step}
use Rattle.sheet_rules.specs.Sheet.{explicit_of, entries_of}

-- "axis is `c` or `r`"
abbrev pub OnAxis : List (List ℕ) → Axis → Type 0
OnAxis fs Column = at fs 1 ≡ get_or axis_words 0 []
OnAxis fs Rows = at fs 1 ≡ get_or axis_words 1 []

-- of the axis that a line names
abbrev pub OfAxis : PanelView → List (List ℕ) → (AxisView → Type 0) → Type 0
OfAxis v fs P = (a : Axis) × OnAxis fs a × P (view_in v a)

abbrev pub Opened : Unended → Type 0
Opened none = ⊥
Opened (inside r) = Unit {0}

-- a repeat of the axis has no `end` yet
abbrev pub Open : AxisView → Type 0
Open x = Opened x.unended

-- the axis has a record
abbrev pub Seen : AxisView → Type 0
Seen x = x.line.seen ≡ 0 → ⊥

-- an area has that name
abbrev pub Drawn : List ℕ → List Area → Type 0
Drawn n [] = ⊥
Drawn n (a ∷ rest) = (a.name ≡ n) ⊎ Drawn n rest

-- ---- by the kind of the line

-- "`end` with no repeat open on its axis, and `repeat` inside one of its axis"
abbrev pub MisnestedBy : Kind → PanelView → List (List ℕ) → Type 0
MisnestedBy axis v fs = ⊥
MisnestedBy area v fs = ⊥
MisnestedBy name v fs = ⊥
MisnestedBy track v fs = ⊥
MisnestedBy repeat v fs = OfAxis v fs Open
MisnestedBy end v fs = OfAxis v fs (λ x. Open x → ⊥)
MisnestedBy spare v fs = ⊥
MisnestedBy extra v fs = ⊥
MisnestedBy item v fs = ⊥
MisnestedBy place v fs = ⊥
MisnestedBy row v fs = ⊥
MisnestedBy cell v fs = ⊥

-- "an area name or axis record again"
abbrev pub TwiceBy : Kind → PanelView → List (List ℕ) → Type 0
TwiceBy axis v fs = OfAxis v fs Seen
TwiceBy area v fs = Drawn (at fs 1) v.areas
TwiceBy name v fs = ⊥
TwiceBy track v fs = ⊥
TwiceBy repeat v fs = ⊥
TwiceBy end v fs = ⊥
TwiceBy spare v fs = ⊥
TwiceBy extra v fs = ⊥
TwiceBy item v fs = ⊥
TwiceBy place v fs = ⊥
TwiceBy row v fs = ⊥
TwiceBy cell v fs = ⊥

-- "kind order: `axis`, then `area`, then the rest, freely mixed" (SHEET.md, Order of kinds)
abbrev pub order_of : Kind → ℕ
order_of axis = 0
order_of area = 1
order_of name = 3
order_of track = 3
order_of repeat = 3
order_of end = 3
order_of spare = 3
order_of extra = 3
order_of item = 3
order_of place = 3
order_of row = 2
order_of cell = 3

-- a place in that order after one that was reached; "an area record after a row, or a row after an area record, is late"
abbrev pub LateAt : ℕ → ℕ → Type 0
LateAt order stage = (order < stage) ⊎ ((order ≡ 2) × (stage ≡ 1))

-- "record earlier in kind than one before it"
abbrev pub LateBy : Kind → PanelView → List (List ℕ) → Type 0
LateBy k v fs = LateAt (order_of k) v.stage

-- "at most 64 components an axis, 32 tracks in a repeat" (SHEET.md, Limits)
abbrev pub FullFor : Unended → AxisView → Type 0
FullFor none x = 64 ≤ length (components_of x.template)
FullFor (inside r) x = 32 ≤ length (tracks_in r.pieces)

-- "line-name store: 32,768 bytes an axis", and 4,096 names; a sheet is too short for either
abbrev pub NoRoomFor : List ℕ → AxisView → Type 0
NoRoomFor n x = (4096 ≤ length (axis_names x)) ⊎ (32768 < length (axis_bytes x) + length n)

-- the names of a picture with one row more, each once, are above 64; a sheet is too short for 10,000 rows
abbrev pub ManyNames : Picture → List (List ℕ) → Type 0
ManyNames p fs = (10000 ≤ length p) ⊎ (64 < length (areas_of (with_words p (words_in fs))))

-- "one more would pass a panel limit"; "cells count among the 256 placements" (document 02, request 10)
abbrev pub CrowdedBy : Kind → PanelView → List (List ℕ) → Type 0
CrowdedBy axis v fs = ⊥
CrowdedBy area v fs = 64 ≤ length v.areas
CrowdedBy name v fs = OfAxis v fs (NoRoomFor (at fs 2))
CrowdedBy track v fs = OfAxis v fs (λ x. FullFor x.unended x)
CrowdedBy repeat v fs = OfAxis v fs (λ x. 64 ≤ length (components_of x.template))
CrowdedBy end v fs = ⊥
CrowdedBy spare v fs = OfAxis v fs (λ x. 64 ≤ length x.spares)
CrowdedBy extra v fs = ⊥
CrowdedBy item v fs = ⊥
CrowdedBy place v fs = 256 ≤ items v
CrowdedBy cell v fs = 256 ≤ items v
CrowdedBy row v fs = (LateBy row v fs → ⊥) × ManyNames v.picture fs

-- document 02, request 03: "two areas with a common cell", at the later one's line
abbrev pub OverlapBy : Kind → PanelView → List (List ℕ) → Type 0
OverlapBy axis v fs = ⊥
OverlapBy area v fs = SharedBy v.areas (area_in fs).edges
OverlapBy name v fs = ⊥
OverlapBy track v fs = ⊥
OverlapBy repeat v fs = ⊥
OverlapBy end v fs = ⊥
OverlapBy spare v fs = ⊥
OverlapBy extra v fs = ⊥
OverlapBy item v fs = ⊥
OverlapBy place v fs = ⊥
OverlapBy row v fs = ⊥
OverlapBy cell v fs = ⊥

-- document 02, request 07: "rows of unequal width .. at the first such row": another width than the first row's
abbrev pub UnequalBy : Kind → PanelView → List (List ℕ) → Type 0
UnequalBy axis v fs = ⊥
UnequalBy area v fs = ⊥
UnequalBy name v fs = ⊥
UnequalBy track v fs = ⊥
UnequalBy repeat v fs = ⊥
UnequalBy end v fs = ⊥
UnequalBy spare v fs = ⊥
UnequalBy extra v fs = ⊥
UnequalBy item v fs = ⊥
UnequalBy place v fs = ⊥
UnequalBy cell v fs = ⊥
UnequalBy row v fs = (LateBy row v fs → ⊥) × (v.picture ≡ [] → ⊥) × (length (words_in fs) ≡ width_of v.picture → ⊥)

abbrev pub AtKind : (Kind → PanelView → List (List ℕ) → Type 0) → PanelView → List (List ℕ) → Type 0
AtKind P v fs = (k : Kind) × Of fs k × P k v fs

-- ---- the rows of the table

pub data Row : Type 0 where
  unread bad_name bad_value bad_count bad_area twice late crowded overlap unequal broken : Row

abbrev pub number_of : Row → ℕ
number_of unread = 1
number_of bad_name = 2
number_of bad_value = 3
number_of bad_count = 4
number_of bad_area = 5
number_of twice = 6
number_of late = 7
number_of crowded = 8
number_of overlap = 12
number_of unequal = 13
number_of broken = 14

-- at a line; 14 looks at the lines after it too, and stands below
abbrev pub Holds : PanelView → List (List ℕ) → Row → Type 0
Holds v fs unread = UnreadLine fs ⊎ AtKind MisnestedBy v fs
Holds v fs bad_name = BadName fs
Holds v fs bad_value = BadValue fs
Holds v fs bad_count = BadCount fs
Holds v fs bad_area = BadArea fs
Holds v fs twice = AtKind TwiceBy v fs
Holds v fs late = AtKind LateBy v fs
Holds v fs crowded = AtKind CrowdedBy v fs
Holds v fs overlap = AtKind OverlapBy v fs
Holds v fs unequal = AtKind UnequalBy v fs
Holds v fs broken = ⊥

-- of one axis or the other
abbrev pub Either : PanelView → (AxisView → Type 0) → Type 0
Either v P = P v.columns ⊎ P v.rows

-- at the line after the last: "one left open", "an explicit count above 10,000", more than "4,096 name entries"
abbrev pub HoldsAfter : PanelView → Row → Type 0
HoldsAfter v unread = Either v Open
HoldsAfter v bad_name = ⊥
HoldsAfter v bad_value = ⊥
HoldsAfter v bad_count = Either v (λ x. 10000 < explicit_of x)
HoldsAfter v bad_area = ⊥
HoldsAfter v twice = ⊥
HoldsAfter v late = ⊥
HoldsAfter v crowded = Either v (λ x. 4096 < length (entries_of x))
HoldsAfter v overlap = ⊥
HoldsAfter v unequal = ⊥
HoldsAfter v broken = ⊥

-- n is the number of the row that holds and comes first, 0 where no row holds
abbrev pub First : (Row → Type 0) → ℕ → Type 0
First holds n = FirstBy number_of holds n

-- ---- the last row of a picture

-- a line that ends no picture: of no form, an `axis` line or a row
abbrev pub PictureKind : Kind → Type 0
PictureKind axis = Unit {0}
PictureKind area = ⊥
PictureKind name = ⊥
PictureKind track = ⊥
PictureKind repeat = ⊥
PictureKind end = ⊥
PictureKind spare = ⊥
PictureKind extra = ⊥
PictureKind item = ⊥
PictureKind place = ⊥
PictureKind row = Unit {0}
PictureKind cell = ⊥

-- one of these lines is a row, and none before it ends the picture
pub data RowFollows : List Line → Type 0 where
  here : {fs : Line} {rest : List Line} → Of fs row → RowFollows (fs ∷ rest)
  there : {fs : Line} {rest : List Line} → ((k : Kind) → Of fs k → PictureKind k) → RowFollows rest → RowFollows (fs ∷ rest)

-- "a name whose cells are no rectangle by 14 at the last row not late"
pub record BrokenBy (v : PanelView) (fs : Line) (after : List Line) : Type 0 where
  pub drawn : Of fs row
  pub timely : LateBy row v fs → ⊥
  pub cells : AllFilled (with_words v.picture (words_in fs)) → ⊥
  pub last : RowFollows after → ⊥

-- a row of the table at a line, with the lines after it
abbrev pub HoldsLine : PanelView → Line → List Line → Row → Type 0
HoldsLine v fs after r = Holds v fs r ⊎ ((r ≡ broken) × BrokenBy v fs after)

-- ---- a sheet

-- "a last line without a line feed is unread"; where nothing stands after the last line feed, the line after the last
abbrev pub HoldsLast : PanelView → List ℕ → Row → Type 0
HoldsLast v [] r = HoldsAfter v r
HoldsLast v (b ∷ bs) r = r ≡ unread

-- at line k of lines, counted from 0, with the panel that the lines before them describe
abbrev pub HoldsFrom : ℕ → List (List ℕ) → PanelView → Row → Type 0
HoldsFrom zero [] v r = HoldsAfter v r
HoldsFrom (suc k) [] v r = ⊥
HoldsFrom zero (l ∷ []) v r = HoldsLast v l r
HoldsFrom (suc k) (l ∷ []) v r = ⊥
HoldsFrom zero (l ∷ m ∷ ls) v r = HoldsLine v (split 9 l) (lines_from (m ∷ ls)) r
HoldsFrom (suc k) (l ∷ m ∷ ls) v r = HoldsFrom k (m ∷ ls) (line_step v (split 9 l)).panel r

-- at line k of a sheet; "sheet too long" is at line 0
abbrev pub HoldsAt : List ℕ → ℕ → Row → Type 0
HoldsAt s zero r = (r ≡ unread) × (32768 < length s)
HoldsAt s (suc k) r = HoldsFrom k (split 10 s) empty_view r

-- "lowest number first at one line; earliest line first": row r holds at line k, none that comes first there does, and none before that line
pub record FirstAt (holds : ℕ → Row → Type 0) (k : ℕ) (r : Row) : Type 0 where
  pub here : holds k r
  pub first : (q : Row) → rank_of (number_of q) < rank_of (number_of r) → holds k q → ⊥
  pub earliest : (j : ℕ) → j < k → (q : Row) → holds j q → ⊥

abbrev pub Nowhere : (ℕ → Row → Type 0) → Type 0
Nowhere holds = (k : ℕ) (r : Row) → holds k r → ⊥
