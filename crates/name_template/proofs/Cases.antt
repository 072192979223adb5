-- Worked cases: `[a] track repeat(2, [x] track [y] track [z]) [b]`, and the same with a count of 0.
use mathlib.Core.Path.{◌≡◌, refl}
use mathlib.Core.List.{List, [], ◌∷◌, map}
use Prim.Native.Nat.{ℕ, ◌+◌, ◌*◌}
use Rattle.template_rules.specs.Template.{component_of}
use Rattle.name_entries.specs.declared.NameEntry.{NameEntry}
use Rattle.name_entries.specs.Places.{name_place}
use Rattle.name_template.specs.Records.{record_word, stands, leading}
use Rattle.name_template.specs.Writing.{repeated_names, line_after_repeat, written_from, written_entries}

-- five names of one byte, at offsets 0 to 4
abbrev names : List ℕ
names = record_word 0 0 0 1 ∷ record_word 1 1 1 1 ∷ record_word 1 2 2 1 ∷ record_word 1 3 3 1 ∷ record_word 2 0 4 1 ∷ []

-- a single track, and a counted repeat of two tracks
abbrev components : ℕ → List ℕ
components count = 0 ∷ (count + 65536 + 2 * 281474976710656) ∷ []

-- an entry's line and offset
abbrev placed : NameEntry → ℕ
placed e = e.line * 10 + e.offset

twice : map placed (written_entries names (components 2) 0) ≡ 10 ∷ 21 ∷ 32 ∷ 43 ∷ 41 ∷ 52 ∷ 63 ∷ 64 ∷ []
unfolding component_of name_place stands leading repeated_names line_after_repeat written_from
twice = refl

never : map placed (written_entries names (components 0) 0) ≡ 10 ∷ 34 ∷ []
unfolding component_of name_place stands leading repeated_names line_after_repeat written_from
never = refl
