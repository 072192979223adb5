-- All line names of an axis (document 01, layer 4): "one list for each explicit line, in entry order, a name once, area edges left
-- out", one list after the other. A name is a word: its line, and the part of the store that it is.
use Rattle.std.specs.Prelude.{ℕ, zero, suc, ◌+◌, ◌-◌, ◌≤◌, ◌<◌, min, ◌≡◌, cond, List, [], ◌∷◌, ◌++◌, map, eqb, ltb, length, get_or, take, Result, Ok, Err}
use Rattle.std.proofs.lemmas.List.Edits.{sets}
use Rattle.coordinates.specs.Refusals.{Refusal, no_refusal, refusal_of, number_of, count, crowded, short}
use Rattle.name_entries.specs.declared.NameEntry.{NameEntry}
use Rattle.name_entries.specs.Entries.{entry_of, word_of, named_entry, entries_of}
use Rattle.name_entries.specs.LineNames.{shows}
use Rattle.name_entries.specs.LineEntries.{line_entries_of}
use Rattle.coordinates.specs.declared.refusal.Fault.{Fault}
use Rattle.name_lists.specs.Chains.{places_of, Chain, Chained}

-- the line of an entry, and where its name lies: cut where the store ends
abbrev pub part_word : List ℕ → NameEntry → ℕ
part_word store e = word_of e.line (min e.offset (length store)) (min e.length (length store - e.offset))

-- the list of a line
abbrev pub line_words : List ℕ → List ℕ → ℕ → List ℕ
line_words words store line = map (part_word store) (line_entries_of words store line)

-- the lists of so many lines from one on
unfoldable pub lists_from : List ℕ → List ℕ → ℕ → ℕ → List ℕ
lists_from words store line zero = []
lists_from words store line (suc n) = line_words words store line ++ lists_from words store (suc line) n

-- the lists of the explicit lines
unfoldable pub lists : ℕ → List ℕ → List ℕ → List ℕ
lists explicit words store = lists_from words store 1 (explicit + 1)

-- what the lists are refused by, 0 where they are not: 4 for more than 10,000 tracks, 8 for more than 4,096 entries (document 01, panel
-- ranges), 10 for "a line-name store below 32,768 bytes"
unfoldable pub line_names_refusal : ℕ → ℕ → ℕ → ℕ
line_names_refusal explicit entries bytes = cond (ltb 10000 explicit) count (cond (ltb 4096 entries) crowded (cond (ltb bytes 32768) short 0))

-- how many names were written, or a refusal and 0
pub record ListedNames : Type 0 where
  pub refusal : Refusal
  pub count : ℕ

-- the numbers and values of what the listing answers
abbrev pub answered_lists : Result ℕ Fault → ListedNames
answered_lists (Ok n) = record { refusal = no_refusal; count = n }
answered_lists (Err fault) = record { refusal = refusal_of (number_of fault); count = 0 }

-- an answer, and what the lent words hold then
pub record NamesListed : Type 0 where
  pub answer : ListedNames
  pub words : List ℕ

-- the lists in the first words, and how many names they have; a refusal is its number and 0, and then nothing is written
unfoldable pub line_names_listed : ℕ → List ℕ → List ℕ → List ℕ → NamesListed
line_names_listed explicit words store lent =
    cond (eqb (line_names_refusal explicit (length words) (length store)) 0)
    (record { answer = record { refusal = no_refusal; count = length (lists explicit words store) }; words = sets lent 0 (lists explicit words store) })
    (record { answer = record { refusal = refusal_of (line_names_refusal explicit (length words) (length store)); count = 0 }; words = lent })

-- the words that are on a line: of the lists, its own
unfoldable pub on_line : ℕ → List ℕ → List ℕ
on_line line [] = []
on_line line (w ∷ words) = cond (eqb (entry_of w).line line) (w ∷ on_line line words) (on_line line words)

-- ---- what the functions leave

-- some words written to the front of others, and how many these are
pub record Written (lent run after : List ℕ) (r : ℕ) : Type 0 where
  pub words : after ≡ sets lent 0 run
  pub counted : r ≡ length run

-- the line of each entry
abbrev pub line_keys : List ℕ → List ℕ
line_keys words = map (λ (w : ℕ). (entry_of w).line) words

-- the word of the entry at a place, where it shows its name on the line
abbrev pub entry_words : List ℕ → List ℕ → ℕ → ℕ → List ℕ
entry_words words store line place =
    cond (shows line (entries_of (take place words) store) (named_entry store (entry_of (get_or words place 0))))
    (part_word store (entry_of (get_or words place 0)) ∷ []) []

-- a line's first link leads over the entries that are on it, and so many words can hold them
pub record Linked (words nexts : List ℕ) (link line room : ℕ) : Type 0 where
  pub chain : Chain nexts link (places_of (line_keys words) line 0)
  pub known : length words ≤ length nexts
  pub fits : length words ≤ room

-- each line's entries are chained, the last explicit line's too
pub record LinesLinked (explicit : ℕ) (words heads nexts : List ℕ) : Type 0 where
  pub chained : Chained (line_keys words) heads nexts
  pub reaches : explicit + 1 < length heads
  pub known : length words ≤ length nexts
