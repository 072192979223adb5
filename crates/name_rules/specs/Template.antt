-- The names of a template. The book (document 01, "Name book"): repeats written out, each name on line 1 plus the tracks before it.
-- The rule: `NamedLineResolver::new` of named.rs, which does the same for columns and rows.
use Rattle.std.specs.Prelude.{cond, List, [], ◌∷◌, ◌++◌, ℕ, zero, suc, ◌+◌, ◌-◌, ◌*◌, ◌/◌, ◌≤◌, min, max, ltb, eqb}
use Rattle.name_rules.specs.Css.{Bytes, Entry}

-- CSS 7.2: a name or a track
pub data Piece : Type 0 where
  label : Bytes → Piece
  track : Piece

-- a name or a track, or a repeat with the number of its repetitions: what it says, or what was found for an automatic one
pub data Item : Type 0 where
  single : Piece → Item
  repeat : ℕ → List Piece → Item

-- how many tracks pieces hold
abbrev pub tracks_in : List Piece → ℕ
tracks_in [] = 0
tracks_in (label n ∷ l) = tracks_in l
tracks_in (track ∷ l) = suc (tracks_in l)

-- how many names they hold
abbrev pub names_in : List Piece → ℕ
names_in [] = 0
names_in (label n ∷ l) = suc (names_in l)
names_in (track ∷ l) = names_in l

-- n repetitions, one after the other
abbrev pub copies : ℕ → List Piece → List Piece
copies zero l = []
copies (suc n) l = l ++ copies n l

-- CSS 7.2: the repeats written out
abbrev pub flat : List Item → List Piece
flat [] = []
flat (single p ∷ l) = p ∷ flat l
flat (repeat n ps ∷ l) = copies n ps ++ flat l

-- each name on `line` plus the tracks before it
abbrev pub book_from : ℕ → List Piece → List Entry
book_from line [] = []
book_from line (label n ∷ l) = record { line = line; name = n } ∷ book_from line l
book_from line (track ∷ l) = book_from (suc line) l

-- the entries of a repeat: writing it out stops once past line 10,000, tested after each repetition
unfoldable pub repeated : ℕ → ℕ → List Piece → List Entry
repeated zero line ps = []
repeated (suc n) line ps = book_from line ps ++ cond (ltb 10000 (line + tracks_in ps)) [] (repeated n (line + tracks_in ps) ps)

-- the line on which a repeat that is written out ends
unfoldable pub passed : ℕ → ℕ → List Piece → ℕ
passed zero line ps = line
passed (suc n) line ps = cond (ltb 10000 (line + tracks_in ps)) (line + tracks_in ps) (passed n (line + tracks_in ps) ps)

-- the entries that the rule writes; names after a repeat written no times sit one line further on, once for each such repeat
unfoldable pub rule_from : ℕ → List Item → List Entry
rule_from line [] = []
rule_from line (single (label n) ∷ l) = record { line = line; name = n } ∷ rule_from line l
rule_from line (single track ∷ l) = rule_from (suc line) l
rule_from line (repeat zero ps ∷ l) = rule_from (suc line) l
rule_from line (repeat (suc n) ps ∷ l) = repeated (suc n) line ps ++ rule_from (passed (suc n) line ps) l

-- how often a repeat of k tracks that says n is written out from a line on
abbrev pub times_written : ℕ → ℕ → ℕ → ℕ
times_written n line k = cond (ltb 10000 line) (min n 1) (cond (eqb k 0) n (min n (suc ((10000 - line) / k))))

-- the line of the names after it
abbrev pub line_after : ℕ → ℕ → ℕ → ℕ
line_after zero line k = suc line
line_after (suc n) line k = line + times_written (suc n) line k * k

-- how many entries the rule writes, by arithmetic
unfoldable pub entry_count_from : ℕ → List Item → ℕ
entry_count_from line [] = 0
entry_count_from line (single (label n) ∷ l) = suc (entry_count_from line l)
entry_count_from line (single track ∷ l) = entry_count_from (suc line) l
entry_count_from line (repeat n ps ∷ l) =
    times_written n line (tracks_in ps) * names_in ps + entry_count_from (line_after n line (tracks_in ps)) l

-- of a whole template
abbrev pub entry_count : List Item → ℕ
entry_count l = entry_count_from 1 l

-- the lines that a template can reach past line 10,000: each repeat that is written out ends at most its tracks further on
abbrev pub reach : List Item → ℕ
reach [] = 0
reach (single (label n) ∷ l) = reach l
reach (single track ∷ l) = suc (reach l)
reach (repeat n ps ∷ l) = max 1 (tracks_in ps) + reach l

-- each repeat has tracks and is written out at least once
abbrev pub WrittenOut : List Item → Type 0
WrittenOut [] = Unit {0}
WrittenOut (single p ∷ l) = WrittenOut l
WrittenOut (repeat n ps ∷ l) = (1 ≤ n) × (1 ≤ tracks_in ps) × WrittenOut l
