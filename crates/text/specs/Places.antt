-- The fields of a line by the places where they start.
use Rattle.std.specs.Prelude.{ℕ, zero, suc, ◌+◌, ◌-◌, List, [], ◌∷◌, cond, ltb, length, get_or, take, drop}
use Rattle.text.specs.declared.fields.Place.{Place}

-- where parts start that stand one after the other from `at` on with a separator between each two, and where the one after the last would
unfoldable pub starts_from : ℕ → List (List ℕ) → List ℕ
starts_from at [] = at ∷ []
starts_from at (p ∷ ps) = at ∷ starts_from (at + length p + 1) ps

-- the part of a text at a place, as far as the text reaches
abbrev pub part_at : List ℕ → Place → List ℕ
part_at s place = take place.length (drop place.offset s)

abbrev pub no_place_of : Place
no_place_of = record { offset = 0; length = 0 }

-- field k lies from its start to the separator before the next start; of a line's fields the places of the first 14 are kept
unfoldable pub place_by : List ℕ → ℕ → Place
place_by starts k = cond (ltb k 14) (record { offset = get_or starts k 0; length = get_or starts (suc k) 0 - get_or starts k 0 - 1 }) no_place_of

abbrev pub field_by : List ℕ → List ℕ → ℕ → List ℕ
field_by starts line k = part_at line (place_by starts k)

-- fields k to k + n - 1
unfoldable pub fields_from : List ℕ → List ℕ → ℕ → ℕ → List (List ℕ)
fields_from starts line k zero = []
fields_from starts line k (suc n) = field_by starts line k ∷ fields_from starts line (suc k) n

-- the first n fields
abbrev pub fields_by : List ℕ → List ℕ → ℕ → List (List ℕ)
fields_by starts line n = fields_from starts line 0 n
