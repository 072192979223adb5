-- Document 01's M8 to M11 on the lent words and bytes themselves: explicit 3, columns. Assumes nothing.
use mathlib.Core.Path.{◌≡◌, refl}
use mathlib.Core.List.{[], ◌∷◌}
use Prim.Native.Nat.{◌+◌, ◌*◌}
use lib.IntN.{pos, negsuc}
use Rattle.coordinates.specs.Refusals.{no_refusal}
use Rattle.coordinates.specs.declared.axis.Axis.TheVariants.{Column}
use Rattle.name_rules.specs.Css.{AxisNames}
use Rattle.name_rules.specs.Rule.{named?, seek}
use Rattle.name_entries.specs.Entries.{entry_of, entries_of, word_of}
use Rattle.name_lines.specs.Areas.{areas_of, axis_names}
use Rattle.name_resolver.specs.Placements.{grid_line_of, no_marks, resolution_of}
use Rattle.name_resolver.specs.declared.GridPlacement.{GridPlacement}
use Rattle.name_resolver.specs.declared.GridPlacement.TheVariants.{Auto, Line, NamedLine, NamedSpan}
use Rattle.name_resolver.specs.Types.{NonNamedGridPlacement}
use Rattle.coordinates.specs.declared.line.GenericGridPlacement.TheVariants as Plain
use Rattle.name_resolver.specs.Placements.{Resolution}

-- x on lines 1 and 3
two_lines : AxisNames
two_lines = axis_names 3 Column (word_of 1 0 1 ∷ word_of 3 0 1 ∷ []) (120 ∷ []) [] [] []

-- area a from column line 2 to 4 and row line 1 to 3; `a-start` also on column line 1
drawn_area : AxisNames
drawn_area =
    axis_names 3 Column (word_of 1 0 7 ∷ []) (97 ∷ 45 ∷ 115 ∷ 116 ∷ 97 ∷ 114 ∷ 116 ∷ [])
    ((1 + 3 * 65536 + 2 * 4294967296 + 4 * 281474976710656) ∷ []) (word_of 0 0 1 ∷ []) (97 ∷ [])

-- a placement whose names lie one after the other in `xa-start`: x at 0, a at 1, a-start at 1
asked : AxisNames → GridPlacement → GridPlacement → Resolution
asked x p q = resolution_of x (120 ∷ 97 ∷ 45 ∷ 115 ∷ 116 ∷ 97 ∷ 114 ∷ 116 ∷ []) (record { start = p; end = q })

answered : NonNamedGridPlacement → NonNamedGridPlacement → Resolution
answered p q = record { refusal = no_refusal; line = record { start = p; end = q }; held = no_marks }

m8 : (asked two_lines (NamedLine (record { offset = 0; length = 1 }) (pos 2)) Auto ≡ answered (Plain.Line (grid_line_of (pos 3))) Plain.Auto)
    × (asked two_lines (NamedLine (record { offset = 0; length = 1 }) (pos 3)) Auto ≡ answered (Plain.Line (grid_line_of (pos 5))) Plain.Auto)
    × (asked two_lines (NamedLine (record { offset = 0; length = 1 }) (negsuc 2)) Auto ≡ answered (Plain.Line (grid_line_of (negsuc 4))) Plain.Auto)
unfolding resolution_of seek named? entries_of entry_of areas_of two_lines asked answered
m8 = (refl, refl, refl)

m9 : asked two_lines (Line (grid_line_of (pos 1))) (NamedSpan (record { offset = 0; length = 1 }) 1) ≡ answered (Plain.Line (grid_line_of (pos 1))) (Plain.Line (grid_line_of (pos 3)))
unfolding resolution_of seek named? entries_of entry_of areas_of two_lines asked answered
m9 = refl

m10 : asked two_lines (Line (grid_line_of (pos 0))) (NamedSpan (record { offset = 0; length = 1 }) 1) ≡ answered (Plain.Line (grid_line_of (pos 0))) (Plain.Span 1)
unfolding resolution_of seek named? entries_of entry_of areas_of two_lines asked answered
m10 = refl

m11 : (asked drawn_area (NamedLine (record { offset = 1; length = 1 }) (pos 0)) Auto ≡ answered (Plain.Line (grid_line_of (pos 1))) Plain.Auto)
    × (asked drawn_area (NamedLine (record { offset = 1; length = 7 }) (pos 2)) Auto ≡ answered (Plain.Line (grid_line_of (pos 2))) Plain.Auto)
unfolding resolution_of seek named? entries_of entry_of areas_of drawn_area asked answered
m11 = (refl, refl)
