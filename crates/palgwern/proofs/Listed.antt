-- All line names in one run are those that `palgwern_line_name` shows one by one. Assumes nothing.
use Prim.Native.Nat.{ℕ, zero, suc, ◌+◌, ◌≤◌}
use mathlib.Core.Path.{◌≡◌, subst, ◌∙◌}
use mathlib.Core.Bool.{Bool, true, false, cond}
use mathlib.Core.List.{List, [], ◌∷◌, ◌++◌}
use native.Mathlib.Omega.{arith}
use borrow.Author.Tests.{le-leb}
use lib.ListN.{get_or, get_or-map}
use Rattle.coordinates.specs.declared.axis.Axis.{Axis}
use Rattle.name_entries.specs.declared.NameEntry.{NameEntry}
use Rattle.name_entries.specs.Entries.{entry_of, name_in, named_entry, entries_of}
use Rattle.name_entries.specs.LineNames.{shows, explicit_line_names}
use Rattle.name_entries.specs.LineEntries.{no_entry, entries_after, line_entries_of, explicit_line_entries}
use Rattle.name_entries.proofs.Showing.{entry-name}
use Rattle.name_lists.specs.Lists.{part_word, line_words, lists, on_line}
use Rattle.name_lists.proofs.Words.{Small, small-entry}
use Rattle.name_lists.proofs.Listed.{part_back, lists-line}
use Rattle.panel_tables.specs.declared.Grid.{Grid}
use Rattle.panel_tables.specs.Axes.{grid_in}
use Rattle.panel_rules.specs.Calls.{NameTables, words_in, store_in, short_names, entry_words_in, line_name_in}
use Rattle.palgwern.proofs.Parts.{cut_part}

-- the numbers of each entry that a line shows are small
module _ (line : ℕ) (store : List ℕ) where
  small-if : (t : Bool) (e : NameEntry) (l : List NameEntry) → Small e → ((place : ℕ) → Small (get_or l place no_entry)) → (place : ℕ) → Small (get_or (cond t (e ∷ l) l) place no_entry)
  small-if true e l s go zero = s
  small-if true e l s go (suc place) = go place
  small-if false e l s go place = go place

  small_at : (before words : List ℕ) (place : ℕ) → Small (get_or (entries_after line store before words) place no_entry)
  unfolding entries_after
  small_at before [] place = record { line = omega arith; offset = omega arith; length = omega arith }
  small_at before (w ∷ words) place =
      small-if (shows line (entries_of before store) (named_entry store (entry_of w))) (entry_of w) (entries_after line store (before ++ (w ∷ [])) words) (small-entry w)
      (small_at (before ++ (w ∷ [])) words) place

-- the word of an entry shows its name
part_name : (store : List ℕ) (e : NameEntry) → Small e → name_in store (entry_of (part_word store e)) ≡ name_in store e
part_name store e s = rw (part_back store e s) (cut_part store e.offset e.length)

word_at : (words store : List ℕ) (line place : ℕ) → get_or (line_words words store line) place 0 ≡ part_word store (get_or (line_entries_of words store line) place no_entry)
word_at words store line place =
    let z : part_word store no_entry ≡ 0 = omega arith in
    subst (λ (d : ℕ). get_or (line_words words store line) place d ≡ part_word store (get_or (line_entries_of words store line) place no_entry)) z
    (get_or-map (part_word store) (line_entries_of words store line) place no_entry)

-- a word of an explicit line, by its place, shows the name of that line and place
listed-name : (explicit : ℕ) (words store : List ℕ) (line place : ℕ) → 1 ≤ line → line ≤ explicit + 1 →
    name_in store (entry_of (get_or (on_line line (lists explicit words store)) place 0)) ≡ get_or (explicit_line_names explicit (entries_of words store) line) place []
unfolding explicit_line_entries
listed-name explicit words store line place h g =
    let e = entry-name line store explicit place words in
    rw (lists-line explicit words store line h g, word_at words store line place)
    (part_name store (get_or (line_entries_of words store line) place no_entry) (small_at line store [] words place)
    ∙ (rw (le-leb 1 line h, le-leb line (explicit + 1) g) at e))

-- the same of an axis of a panel
pub lists_agree : (p : Grid) (t : NameTables) (a : Axis) (line place : ℕ) → short_names t ≡ false → 1 ≤ line → line ≤ (grid_in p a).size.explicit + 1 →
    name_in (store_in t a) (entry_of (get_or (on_line line (lists (grid_in p a).size.explicit (entry_words_in (grid_in p a) (words_in t a)) (store_in t a))) place 0))
    ≡ line_name_in p t a line place
unfolding line_name_in
lists_agree p t a line place s h g = rw s (listed-name (grid_in p a).size.explicit (entry_words_in (grid_in p a) (words_in t a)) (store_in t a) line place h g)
