-- The words of a `row` line: "`row` and then its words parted by tabs" (document 02, Req 07). They are the fields after the first.
use Rattle.std.specs.Prelude.{ℕ, ◌+◌, List, [], cond, leb, length, get_or, drop}
use Rattle.text.specs.Split.{before, split}
use Rattle.picture_rules.specs.Picture.{Word}

abbrev pub words_of : List ℕ → List Word
words_of line = drop 1 (split 9 line)

-- the fields that start at a place or after it; none past the end
unfoldable pub words_left : List ℕ → ℕ → List Word
words_left line at = cond (leb at (length line)) (split 9 (drop at line)) []

-- where the first word starts: proofs/Words.antt has that the words from there on are all
abbrev pub first_start : List ℕ → ℕ
first_start line = before 9 line + 1

-- where the word that starts at a place ends
abbrev pub word_end : List ℕ → ℕ → ℕ
word_end line at = at + before 9 (drop at line)

-- the word itself
abbrev pub word_at : List ℕ → ℕ → Word
word_at line at = get_or (words_left line at) 0 []
