-- What the lines of a sheet say, over their fields alone (document 01, panel sheet; SHEET.md, Lines of a sheet): which line, which axis, which field goes where, in which order.
-- They don't name the reader of a line or of a sheet; proofs/Contents.antt shows that the view of every accepted sheet is what its lines say.
use Rattle.std.specs.Prelude.{ℕ, ◌+◌, ◌-◌, ◌<◌, max, ◌≡◌, List, [], ◌∷◌, ◌++◌, map, Bool, false, cond, ◌&&◌, ◌||◌, eqb, ℤ, pos, negsuc, length, get_or, drop, Option, Some, None}
use Rattle.coordinates.specs.declared.axis.Axis.{Axis}
use Rattle.coordinates.specs.declared.axis.Axis.TheVariants.{Column, Row}
use Rattle.sizing.specs.Words.{size_word_of}
use Rattle.text.specs.Split.{split, same, index}
use Rattle.text.specs.Whole.{Written, none as unwritten, whole, whole_of}
use Rattle.text.specs.Hexadecimal.{bits_of}
use Rattle.sheet_forms.specs.Words.{at, dash, axis_words, kind_words, size_words, rule_words, repeat_words, end_words}
use Rattle.sheet_forms.specs.Ends.{uses_name}
use Rattle.sheet_forms.specs.Forms.{Kind, axis, area, name, track, repeat, end, spare, extra, item, place, row, cell, kind_number}
use Rattle.axis_tables.specs.View.{Sizes, Piece, name as a_name, track as a_track, Item, single, repeat as a_repeat, none, AxisLine, AxisView, no_line, tracks_of, name_of, axis_names}
use Rattle.panel_tables.specs.View.{Area, End, Placement, half, PanelView}
use Rattle.panel_tables.specs.Axes.{view_in}
use Rattle.picture_rules.specs.Picture.{Word, Picture, width_of}
use Rattle.sheet_rules.specs.Pictures.{areas_of}

-- ---- which lines

-- a line as its fields
abbrev pub Line : Type 0
Line = List (List ℕ)

-- "lines of text end in a line feed, fields parted by tabs": what stands after the last line feed is no line
unfoldable pub lines_from : List (List ℕ) → List Line
lines_from [] = []
lines_from (l ∷ []) = []
lines_from (l ∷ m ∷ ls) = split 9 l ∷ lines_from (m ∷ ls)

abbrev pub lines_of : List ℕ → List Line
lines_of s = lines_from (split 10 s)

-- the lines that pass a test, in order
unfoldable pub those : (Line → Bool) → List Line → List Line
those test [] = []
those test (l ∷ ls) = cond (test l) (l ∷ those test ls) (those test ls)

-- the first field is the word of the kind
abbrev pub is_of : Kind → Line → Bool
is_of k l = same (at l 0) (get_or kind_words (kind_number k) [])

-- "axis is `c` or `r`"
abbrev pub letter_of : Axis → List ℕ
letter_of Column = get_or axis_words 0 []
letter_of Row = get_or axis_words 1 []

-- the second field is the letter of the axis
abbrev pub is_on : Axis → Line → Bool
is_on a l = same (at l 1) (letter_of a)

abbrev pub lines_with : Kind → List Line → List Line
lines_with k ls = those (is_of k) ls

abbrev pub lines_in : Kind → Axis → List Line → List Line
lines_in k a ls = those (λ l. is_of k l && is_on a l) ls

-- the lines that write a template: `name`, `track`, `repeat` and `end`
abbrev pub is_template : Line → Bool
is_template l = is_of name l || (is_of track l || (is_of repeat l || is_of end l))

abbrev pub template_in : Axis → List Line → List Line
template_in a ls = those (λ l. is_template l && is_on a l) ls

-- ---- what one field writes

abbrev pub whole_by : Written → ℤ
whole_by unwritten = pos 0
whole_by (whole z) = z

-- a whole number
unfoldable pub whole_in : List ℕ → ℤ
whole_in f = whole_by (whole_of f)

abbrev pub count_by : ℤ → ℕ
count_by (pos n) = n
count_by (negsuc k) = 0

-- one that is not negative
abbrev pub count_in : List ℕ → ℕ
count_in f = count_by (whole_in f)

abbrev pub bits_by : Option ℕ → ℕ
bits_by None = 0
bits_by (Some n) = n

-- "eight lower-case hexadecimal digits of the f32 bits"
unfoldable pub bits_in : List ℕ → ℕ
bits_in f = bits_by (bits_of f)

abbrev pub axis_in : List ℕ → Axis
axis_in f = cond (same f (letter_of Row)) Row Column

-- ---- what the fields of a line write

-- a kind and a value
abbrev pub size_in : List ℕ → List ℕ → ℕ
size_in kind value = size_word_of (index kind size_words) (bits_in value)

-- `track` or `spare`, axis, "minimum kind, value, maximum kind, value"
abbrev pub sizes_in : Line → Sizes
sizes_in l = record { min = size_in (at l 2) (at l 3); max = size_in (at l 4) (at l 5) }

-- `axis`, axis, inner size or `-`, `max` or `min`, gap kind, gap
abbrev pub axis_line_in : Line → AxisLine
axis_line_in l =
    record {
      seen = 1;
      definite = cond (same (at l 2) dash) 0 1;
      inner = bits_in (at l 2);
      rule = index (at l 3) rule_words;
      gap = size_in (at l 4) (at l 5);
    }

-- `area`, name, row start, row end, column start, column end
abbrev pub area_in : Line → Area
area_in l =
    record {
      name = at l 1;
      edges = record {
        rowstart = count_in (at l 2);
        rowend = count_in (at l 3);
        columnstart = count_in (at l 4);
        columnend = count_in (at l 5);
      };
    }

-- "`row` and then its words parted by tabs"
abbrev pub words_in : Line → List Word
words_in l = drop 1 l

-- the rows of a picture, in order
abbrev pub picture_in : List Line → Picture
picture_in ls = map words_in (lines_with row ls)

-- the tracks that a picture needs on an axis: "the rows and their width"
abbrev pub drawn_in : Axis → Picture → ℕ
drawn_in Column p = width_of p
drawn_in Row p = length p

-- the tracks that an area needs on an axis: its end - 1
abbrev pub span_in : Axis → Line → ℕ
span_in Column l = count_in (at l 5) - 1
span_in Row l = count_in (at l 3) - 1

-- "kind, name, number"; the name counts where the kind uses one
abbrev pub end_in : List ℕ → List ℕ → List ℕ → End
end_in kind named number = record { end = record { kind = index kind end_words; number = whole_in number }; name = cond (uses_name (index kind end_words)) named [] }

-- `place`, axis, "then kind, name, number for start and again for end"
abbrev pub placement_in : Line → Placement
placement_in l = record { axis = axis_in (at l 1); cell = false; start = end_in (at l 2) (at l 3) (at l 4); end = end_in (at l 5) (at l 6) (at l 7) }

-- `cell`, "the six fields of a column placement and then six for its row" (document 02, request 10)
abbrev pub halves_in : Line → List Placement
halves_in l =
    half Column (end_in (at l 1) (at l 2) (at l 3)) (end_in (at l 4) (at l 5) (at l 6))
    ∷ half Row (end_in (at l 7) (at l 8) (at l 9)) (end_in (at l 10) (at l 11) (at l 12))
    ∷ []

-- the placements that a line gives
abbrev pub item_in : Line → List Placement
item_in l = cond (is_of place l) (placement_in l ∷ []) (cond (is_of cell l) (halves_in l) [])

unfoldable pub placements_of : List Line → List Placement
placements_of [] = []
placements_of (l ∷ ls) = item_in l ++ placements_of ls

-- the numbers of the `cell` lines, where the first line has number n
unfoldable pub cells_from : ℕ → List Line → List ℕ
cells_from n [] = []
cells_from n (l ∷ ls) = cond (is_of cell l) (n ∷ []) [] ++ cells_from (n + 1) ls

-- ---- a template as lines

-- a name or a track; a repeat's kind, 1 counted, 2 `fill`, 3 `fit`, and its count; its end
pub data TemplateLine : Type 0 where
  piece : Piece → TemplateLine
  opening : ℕ → ℕ → TemplateLine
  closing : TemplateLine

-- "count or `fill` or `fit`"
abbrev pub repeat_kind_in : List ℕ → ℕ
repeat_kind_in f = cond (same (get_or repeat_words 0 []) f) 2 (cond (same (get_or repeat_words 1 []) f) 3 1)

-- `name`, axis, name; `track`, axis, sizes; `repeat`, axis, count or `fill` or `fit`; `end`, axis
abbrev pub template_line_in : Line → TemplateLine
template_line_in l =
    cond (is_of name l) (piece (a_name (at l 2)))
    (cond (is_of track l) (piece (a_track (sizes_in l)))
    (cond (is_of repeat l) (opening (repeat_kind_in (at l 2)) (count_in (at l 2))) closing))

-- the lines that an item is written by
abbrev pub item_lines : Item → List TemplateLine
item_lines (single p) = piece p ∷ []
item_lines (a_repeat r) = opening r.kind r.number ∷ (map piece r.pieces ++ (closing ∷ []))

unfoldable pub template_lines : List Item → List TemplateLine
template_lines [] = []
template_lines (i ∷ is) = item_lines i ++ template_lines is

-- ---- a list of values

-- "last one holds"; where there is none, what was there first
unfoldable pub last_of : {A : Type 0} → A → List A → A
last_of first [] = first
last_of first (x ∷ xs) = last_of x xs

unfoldable pub largest : List ℕ → ℕ
largest [] = 0
largest (n ∷ ns) = max n (largest ns)

unfoldable pub is_among : ℕ → List ℕ → Bool
is_among i [] = false
is_among i (n ∷ ns) = eqb i n || is_among i ns

-- ---- the view of a sheet is what its lines say

pub record AxisSays (a : Axis) (ls : List Line) (x : AxisView) : Type 0 where
  -- "no `axis` record: no size, max, zero gap"
  pub line : x.line ≡ last_of no_line (map axis_line_in (lines_in axis a ls))
  -- names, tracks, repeats and their ends, in order; `template_once` shows that no other template is written by the same lines
  pub template : template_lines x.template ≡ map template_line_in (template_in a ls)
  -- no repeat is left open
  pub ended : x.unended ≡ none
  pub names : map name_of (axis_names x) ≡ map (λ l. at l 2) (lines_in name a ls)
  pub tracks : tracks_of x.template ≡ map sizes_in (lines_in track a ls)
  pub spares : x.spares ≡ map sizes_in (lines_in spare a ls)
  -- "negative and positive implicit counts, last one holds, none means 0 and 0"
  pub negative : x.negative ≡ last_of 0 (map (λ l. count_in (at l 2)) (lines_in extra a ls))
  pub positive : x.positive ≡ last_of 0 (map (λ l. count_in (at l 3)) (lines_in extra a ls))
  -- a byte for each track index, 0 to 29,999: 1 exactly where an `item` line has that index
  pub bytes : length x.marks ≡ 30000
  pub marks : (i : ℕ) → i < 30000 → get_or x.marks i 0 ≡ cond (is_among i (map (λ l. count_in (at l 2)) (lines_in item a ls))) 1 0
  -- "largest area end - 1", and what a picture needs
  pub areas : x.areas ≡ max (drawn_in a (picture_in ls)) (largest (map (span_in a) (lines_with area ls)))

pub record PanelSays (ls : List Line) (v : PanelView) : Type 0 where
  pub axes : (a : Axis) → AxisSays a ls (view_in v a)
  pub picture : v.picture ≡ picture_in ls
  -- those of the picture, or of the `area` lines: a sheet that has both is refused
  pub areas : v.areas ≡ areas_of (picture_in ls) ++ map area_in (lines_with area ls)
  -- of the `place` and `cell` lines
  pub placements : v.placements ≡ placements_of ls
  -- each cell with its line in the sheet
  pub cells : v.cells ≡ cells_from 1 ls
