-- The words of a sheet, as bytes (document 01, panel sheet).
use Rattle.std.specs.Prelude.{ℕ, List, [], ◌∷◌, get_or}

-- field k of a line, its kind's word being field 0
abbrev pub at : List (List ℕ) → ℕ → List ℕ
at fs k = get_or fs k []

-- `-`
abbrev pub dash : List ℕ
dash = 45 ∷ []

-- `0`
abbrev pub nought : List ℕ
nought = 48 ∷ []

-- `c`, `r`
abbrev pub axis_words : List (List ℕ)
axis_words =
    (99 ∷ [])
    ∷ (114 ∷ [])
    ∷ []

-- `axis`, `area`, `name`, `track`, `repeat`, `end`, `spare`, `extra`, `item`, `place`, `row`, `cell`
abbrev pub kind_words : List (List ℕ)
kind_words =
    (97 ∷ 120 ∷ 105 ∷ 115 ∷ [])
    ∷ (97 ∷ 114 ∷ 101 ∷ 97 ∷ [])
    ∷ (110 ∷ 97 ∷ 109 ∷ 101 ∷ [])
    ∷ (116 ∷ 114 ∷ 97 ∷ 99 ∷ 107 ∷ [])
    ∷ (114 ∷ 101 ∷ 112 ∷ 101 ∷ 97 ∷ 116 ∷ [])
    ∷ (101 ∷ 110 ∷ 100 ∷ [])
    ∷ (115 ∷ 112 ∷ 97 ∷ 114 ∷ 101 ∷ [])
    ∷ (101 ∷ 120 ∷ 116 ∷ 114 ∷ 97 ∷ [])
    ∷ (105 ∷ 116 ∷ 101 ∷ 109 ∷ [])
    ∷ (112 ∷ 108 ∷ 97 ∷ 99 ∷ 101 ∷ [])
    ∷ (114 ∷ 111 ∷ 119 ∷ [])
    ∷ (99 ∷ 101 ∷ 108 ∷ 108 ∷ [])
    ∷ []

-- `len`, `pct`, `fr`, `auto`, `min`, `max`, `fitl`, `fitp`
abbrev pub size_words : List (List ℕ)
size_words =
    (108 ∷ 101 ∷ 110 ∷ [])
    ∷ (112 ∷ 99 ∷ 116 ∷ [])
    ∷ (102 ∷ 114 ∷ [])
    ∷ (97 ∷ 117 ∷ 116 ∷ 111 ∷ [])
    ∷ (109 ∷ 105 ∷ 110 ∷ [])
    ∷ (109 ∷ 97 ∷ 120 ∷ [])
    ∷ (102 ∷ 105 ∷ 116 ∷ 108 ∷ [])
    ∷ (102 ∷ 105 ∷ 116 ∷ 112 ∷ [])
    ∷ []

-- `max`, `min`
abbrev pub rule_words : List (List ℕ)
rule_words =
    (109 ∷ 97 ∷ 120 ∷ [])
    ∷ (109 ∷ 105 ∷ 110 ∷ [])
    ∷ []

-- `fill`, `fit`
abbrev pub repeat_words : List (List ℕ)
repeat_words =
    (102 ∷ 105 ∷ 108 ∷ 108 ∷ [])
    ∷ (102 ∷ 105 ∷ 116 ∷ [])
    ∷ []

-- `auto`, `line`, `named`, `span`, `nspan`
abbrev pub end_words : List (List ℕ)
end_words =
    (97 ∷ 117 ∷ 116 ∷ 111 ∷ [])
    ∷ (108 ∷ 105 ∷ 110 ∷ 101 ∷ [])
    ∷ (110 ∷ 97 ∷ 109 ∷ 101 ∷ 100 ∷ [])
    ∷ (115 ∷ 112 ∷ 97 ∷ 110 ∷ [])
    ∷ (110 ∷ 115 ∷ 112 ∷ 97 ∷ 110 ∷ [])
    ∷ []
