-- The names of the lines of an axis (document 01, layer 4): one list for each explicit line, in entry order, a name once.
use Rattle.std.specs.Prelude.{◌≡◌, ℕ, ◌+◌, Bool, false, cond, not, ◌&&◌, List, [], ◌∷◌, ◌++◌, leb, eqb}
pub use Rattle.coordinates.specs.Axes.{of_axis}
use Rattle.name_rules.specs.Css.{Bytes, Entry}
use Rattle.name_rules.specs.Rule.{any, eq_bytes, written?}

-- an entry shows its name where it is on the line and no entry before shows that name there
abbrev pub shows : ℕ → List Entry → Entry → Bool
shows line before e = eqb e.line line && not (any (written? e.name line) before)

-- the names that the entries after some others show
unfoldable pub shown_after : ℕ → List Entry → List Entry → List Bytes
shown_after line before [] = []
shown_after line before (e ∷ l) =
    cond (shows line before e) (e.name ∷ shown_after line (before ++ (e ∷ [])) l) (shown_after line (before ++ (e ∷ [])) l)

-- the names of a line
abbrev pub line_names_of : List Entry → ℕ → List Bytes
line_names_of entries line = shown_after line [] entries

-- the names of an explicit line; other lines hold none
unfoldable pub explicit_line_names : ℕ → List Entry → ℕ → List Bytes
explicit_line_names explicit entries line = cond (leb 1 line && leb line (explicit + 1)) (line_names_of entries line) []

-- how many lists there are: none where the axis has no entry
abbrev pub line_count : ℕ → ℕ → ℕ
line_count count explicit = cond (eqb count 0) 0 (explicit + 1)

-- whether a name is among others
abbrev pub among : Bytes → List Bytes → Bool
among name names = any (λ (n : Bytes). eq_bytes n name) names

-- no name stands twice
abbrev pub Once : List Bytes → Type 0
Once [] = Unit {0}
Once (n ∷ l) = (among n l ≡ false) × Once l
