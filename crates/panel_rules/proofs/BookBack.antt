-- The entries that an axis holds read back: those of the sheet, and then the further ones. Assumes nothing.
use Prim.Native.Nat.{ℕ, ◌+◌, ◌≤◌, ◌<◌}
use mathlib.Core.Path.{◌≡◌, refl, ap, ◌∙◌}
use mathlib.Core.List.{List, [], ◌∷◌, ◌++◌, append_assoc}
use native.Mathlib.Omega.{arith}
use lib.ListN.{length, drop, length-append}
use lib.Seq.{drop_at}
use Rattle.name_rules.specs.Css.{Entry}
use Rattle.name_entries.specs.Entries.{entry_of, named_entry, entries_of}
use Rattle.name_entries.proofs.Entering.{entry-word, entries-append}
use Rattle.axis_tables.specs.Runs.{bytes_of, words_from, part_of}
use Rattle.axis_tables.specs.View.{AxisView, axis_bytes}
use Rattle.axis_tables.proofs.Runs.{All, length-words, run-back}
use Rattle.axis_tables.proofs.Fits.{Fits}
use Rattle.axis_tables.proofs.Back.{entries-back}
use Rattle.sheet_rules.specs.Sheet as Sheet
use Rattle.sheet_rules.specs.Panels.{entry_words}
use Rattle.panel_rules.specs.Calls.{entry_words_in}
use Rattle.panel_rules.specs.Views.{entry_name, entry_word_at, words_after, bytes_after, store_after, state_after, entries_after}
use Rattle.panel_rules.proofs.Fit.{InRange, EntriesFit}

-- ---- further entries

-- an entry that a word has room for
pub record GoodEntry (e : Entry) : Type 0 where
  pub line : e.line ≤ 20000
  pub short : length e.name ≤ 32

-- entries in range are such
good-entries : (es : List Entry) → InRange es → All GoodEntry es
good-entries [] h = tt
good-entries (e ∷ es) h = (record { line = h.1; short = h.2 }, good-entries es h.3)

-- an entry is read back from its word and its bytes
entry-back : (store : List ℕ) (e : Entry) (at : ℕ) → GoodEntry e → at < 65536 → part_of store at (length e.name) ≡ e.name → named_entry store (entry_of (entry_word_at e at)) ≡ e
entry-back store e at g h p = rw (entry-word e.line at (length e.name) (omega (arith, g.line)) h (omega (arith, g.short)), p)

-- entries whose bytes stand after some others
further-back : (es : List Entry) (bytes rest : List ℕ) → InRange es → length (bytes ++ bytes_of entry_name es) ≤ 32768
    → entries_of (words_from entry_word_at entry_name (length bytes) es) ((bytes ++ bytes_of entry_name es) ++ rest) ≡ es
unfolding entries_of
further-back es bytes rest g h =
    let store : List ℕ = (bytes ++ bytes_of entry_name es) ++ rest in
    run-back entry_word_at entry_name (λ (w : ℕ). named_entry store (entry_of w)) GoodEntry store (entry-back store) es (length bytes) rest (good-entries es g)
    (omega (arith, length-append bytes (bytes_of entry_name es)))
    (ap (drop (length bytes)) (append_assoc bytes (bytes_of entry_name es) rest) ∙ drop_at bytes (bytes_of entry_name es ++ rest) (length bytes) refl)

-- ---- an axis, where the sheet's own entries read back
module _ (v : AxisView) (f : Fits v) (es : List Entry) (fit : EntriesFit v es)
    (read : (rest : List ℕ) → entries_of (entry_words v) (axis_bytes v ++ rest) ≡ Sheet.entries_of v) where
  -- the words of the further entries
  abbrev further : List ℕ
  further = words_from entry_word_at entry_name (length (axis_bytes v)) es

  -- as many words as the state counts
  length-held : length (entry_words v) + length es ≡ length (entry_words v ++ further)
  length-held = omega (arith, length-append (entry_words v) further, length-words entry_word_at entry_name (length (axis_bytes v)) es)

  -- the words of the entries, cut to their count
  words-held : entry_words_in (state_after v es).grid (words_after v es) ≡ entry_words v ++ further
  unfolding state_after words_after
  words-held =
      ap (part_of (words_after v es) 8384) length-held
      ∙ entries-back v f (entry_words v ++ further) (omega (arith, length-held, fit.few))

  -- those of the sheet are read in any store that begins with its bytes
  sheet-read : (rest : List ℕ) → entries_of (entry_words v) (bytes_after v es ++ rest) ≡ Sheet.entries_of v
  sheet-read rest = ap (entries_of (entry_words v)) (append_assoc (axis_bytes v) (bytes_of entry_name es) rest) ∙ read (bytes_of entry_name es ++ rest)

  -- the entries that are held, with the store's bytes past the used ones whatever they were
  pub book-back : (store : List ℕ) → entries_of (entry_words_in (state_after v es).grid (words_after v es)) (store_after v es store) ≡ entries_after v es
  unfolding store_after
  book-back store =
      let rest : List ℕ = drop (length (bytes_after v es)) store in
      ap (λ (ws : List ℕ). entries_of ws (bytes_after v es ++ rest)) words-held
      ∙ entries-append (entry_words v) further (bytes_after v es ++ rest)
      ∙ rw (sheet-read rest, further-back es (axis_bytes v) rest fit.range fit.bytes)
