-- The lines that the panel program prints (document 01, panel sheet).
use Rattle.std.specs.Prelude.{ℕ, List, [], ◌∷◌, ◌++◌, Bool, true, false, get_or}
use Rattle.coordinates.specs.declared.axis.Axis.{Axis}
use Rattle.coordinates.specs.Axes.{axis_number}
use Rattle.coordinates.specs.Refusals.{Refusal}
use Rattle.sizing.specs.declared.Sizing.{Sizing}
use Rattle.sizing.specs.Words.{kind_of, bits_of}
use Rattle.sheet_forms.specs.Words.{axis_words, size_words, end_words}
use Rattle.track_rules.specs.declared.GridTrack.{GridTrack}
use Rattle.track_rules.specs.declared.GridTrackKind.{GridTrackKind}
use Rattle.track_rules.specs.declared.TrackSource.{TrackSource}
use Rattle.track_rules.specs.Numbers.{kind_number, source_number}
use Rattle.name_resolver.specs.Types.{NonNamedGridPlacement}
use Rattle.name_resolver.specs.Types.{ResolvedLine}
use Rattle.name_resolver.specs.Placements.{resolved_kind_of, resolved_number_of}
use Rattle.free_cells.specs.declared.Rectangle.{Rectangle}
use Rattle.text.specs.Decimal.{decimal}
use Rattle.panel_text.specs.Numerals.{whole_number, hexadecimal}

-- "lines of text end in a line feed, fields parted by tabs"
abbrev pub line_of : List (List ℕ) → List ℕ
line_of [] = 10 ∷ []
line_of (f ∷ []) = f ++ (10 ∷ [])
line_of (f ∷ g ∷ fs) = f ++ (9 ∷ line_of (g ∷ fs))

-- "axis is `c` or `r`"
abbrev pub axis_word : Axis → List ℕ
axis_word a = get_or axis_words (axis_number a) []

-- `size`, axis, repetitions, explicit count
unfoldable pub size_line : Axis → ℕ → ℕ → List ℕ
size_line axis repetitions count = line_of ((115 ∷ 105 ∷ 122 ∷ 101 ∷ []) ∷ axis_word axis ∷ decimal repetitions ∷ decimal count ∷ [])

-- `track` or `gutter`
abbrev pub track_word : GridTrackKind → List ℕ
track_word k = get_or ((116 ∷ 114 ∷ 97 ∷ 99 ∷ 107 ∷ []) ∷ (103 ∷ 117 ∷ 116 ∷ 116 ∷ 101 ∷ 114 ∷ []) ∷ []) (kind_number k) []

-- `y` or `n`
abbrev pub collapsed_word : Bool → List ℕ
collapsed_word true = 121 ∷ []
collapsed_word false = 110 ∷ []

-- a kind of `len pct fr auto min max fitl fitp`
abbrev pub size_word : Sizing → List ℕ
size_word s = get_or size_words (kind_of s) []

-- a size as kind and value
abbrev pub size_fields : Sizing → List (List ℕ)
size_fields s = size_word s ∷ hexadecimal (bits_of s) ∷ []

-- "one more field, `n t a g p -` in that order" (document 02, Req 08)
abbrev pub source_letter : TrackSource → ℕ
source_letter s = get_or (110 ∷ 116 ∷ 97 ∷ 103 ∷ 112 ∷ 45 ∷ []) (source_number s) 0

-- a record: index, kind, collapsed, then the sizes: minimum kind, value, maximum kind, value; last its source
unfoldable pub record_line : ℕ → GridTrack → List ℕ
record_line index t =
    line_of (decimal index ∷ track_word t.kind ∷ collapsed_word t.collapsed ∷ (size_fields t.size.min ++ (size_fields t.size.max ++ ((source_letter t.source ∷ []) ∷ []))))

-- one end of a placement: `auto 0`, `line` and its number, or `span` and its number
abbrev pub end_fields : NonNamedGridPlacement → List (List ℕ)
end_fields e = get_or end_words (resolved_kind_of e) [] ∷ whole_number (resolved_number_of e) ∷ []

-- `place`, axis, then kind and number twice
unfoldable pub place_line : Axis → ResolvedLine → List ℕ
place_line axis l = line_of ((112 ∷ 108 ∷ 97 ∷ 99 ∷ 101 ∷ []) ∷ axis_word axis ∷ (end_fields l.start ++ end_fields l.end))

-- `cell`, "its two column lines and two row lines" (document 02, Req 10)
unfoldable pub cell_line : Rectangle → List ℕ
cell_line r = line_of ((99 ∷ 101 ∷ 108 ∷ 108 ∷ []) ∷ decimal r.columns.start ∷ decimal r.columns.end ∷ decimal r.rows.start ∷ decimal r.rows.end ∷ [])

-- `refused`, number, line
unfoldable pub refused_line : Refusal → List ℕ
refused_line r = line_of ((114 ∷ 101 ∷ 102 ∷ 117 ∷ 115 ∷ 101 ∷ 100 ∷ []) ∷ decimal r.number ∷ decimal r.line ∷ [])
