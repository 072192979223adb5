-- Of all lists one after the other, the words that are on an explicit line are the list of that line.
use mathlib.Core.Path.{◌≡◌, refl, ◌∙◌, ap}
use mathlib.Core.Bool.{Bool, true, false, cond, not}
use mathlib.Core.List.{List, [], ◌∷◌, ◌++◌, map, append-nil}
use Prim.Native.Nat.{ℕ, zero, suc, ◌+◌, ◌-◌, ◌≤◌, ◌<◌, min}
use native.Mathlib.Omega.{arith}
use borrow.Author.Tests.{ne_eqb, eqb-true, eqb-false}
use lib.Dec.{eqb}
use lib.ListN.{length}
use Rattle.name_rules.specs.Rule.{any, written?}
use Rattle.name_entries.specs.declared.NameEntry.{NameEntry}
use Rattle.name_entries.specs.Entries.{entry_of, named_entry, entries_of}
use Rattle.name_entries.specs.LineNames.{shows}
use Rattle.name_entries.specs.LineEntries.{entries_after}
use Rattle.std.proofs.lemmas.Bool.{and_parts}
use Rattle.name_entries.proofs.Entering.{entry-word}
use Rattle.name_lists.specs.Lists.{part_word, line_words, lists_from, lists, on_line}
use Rattle.name_lists.proofs.OnLine.{on_append}
use Rattle.name_lists.proofs.Words.{Small, small-entry}

-- a name's word is read back: the line, and the part of the store
pub part_back : (store : List ℕ) (e : NameEntry) → Small e →
    entry_of (part_word store e) ≡ record { line = e.line; offset = min e.offset (length store); length = min e.length (length store - e.offset) }
part_back store e s =
    entry-word e.line (min e.offset (length store)) (min e.length (length store - e.offset))
    s.line (omega (arith, s.offset)) (omega (arith, s.length))

module _ (store : List ℕ) (line at : ℕ) where
  -- the words of a line's list are on that line, and on no other
  on-if : (x : ℕ) (rest : List ℕ) → x ≡ line → (e : List ℕ) → e ≡ cond (eqb line at) rest [] → (w : ℕ) →
      cond (eqb x at) (w ∷ e) e ≡ cond (eqb line at) (w ∷ rest) []
  on-if x rest k e h w = rw (k, h) (by (eqb line at))
    where
      by : (t : Bool) → cond t (w ∷ cond t rest []) (cond t rest []) ≡ cond t (w ∷ rest) []
      by true = refl
      by false = refl

  none-if : (t : Bool) → ◌≡◌ {A = List ℕ} [] (cond t [] [])
  none-if true = refl
  none-if false = refl

  on-words : (before words : List ℕ) → on_line at (map (part_word store) (entries_after line store before words)) ≡ cond (eqb line at) (map (part_word store) (entries_after line store before words)) []
  unfolding on_line entries_after
  on-words before [] = none-if (eqb line at)
  on-words before (w ∷ words) = by (shows line (entries_of before store) (named_entry store (entry_of w))) refl (on-words (before ++ (w ∷ [])) words)
    where
      by : (t : Bool) → shows line (entries_of before store) (named_entry store (entry_of w)) ≡ t →
          on_line at (map (part_word store) (entries_after line store (before ++ (w ∷ [])) words)) ≡ cond (eqb line at) (map (part_word store) (entries_after line store (before ++ (w ∷ [])) words)) [] →
          on_line at (map (part_word store) (cond t (entry_of w ∷ entries_after line store (before ++ (w ∷ [])) words) (entries_after line store (before ++ (w ∷ [])) words)))
          ≡ cond (eqb line at) (map (part_word store) (cond t (entry_of w ∷ entries_after line store (before ++ (w ∷ [])) words) (entries_after line store (before ++ (w ∷ [])) words))) []
      by true q ih =
          let k = eqb-true (entry_of w).line line (and_parts (eqb (entry_of w).line line) (not (any (written? (named_entry store (entry_of w)).name line) (entries_of before store))) q).0 in
          on-if (entry_of (part_word store (entry_of w))).line (map (part_word store) (entries_after line store (before ++ (w ∷ [])) words)) (ap (λ (e : NameEntry). e.line) (part_back store (entry_of w) (small-entry w)) ∙ k)
          (on_line at (map (part_word store) (entries_after line store (before ++ (w ∷ [])) words))) ih (part_word store (entry_of w))
      by false q ih = ih

module _ (words store : List ℕ) (at : ℕ) where
  -- lists of lines after it have none of its words
  on-later : (line n : ℕ) → at < line → on_line at (lists_from words store line n) ≡ []
  unfolding lists_from on_line
  on-later line zero h = refl
  on-later line (suc n) h =
      on_append at (line_words words store line) (lists_from words store (suc line) n)
      ∙ rw (on-words store line at [] words, ne_eqb line at (λ e. omega arith)) (on-later (suc line) n (omega arith))

  on_from : (line n : ℕ) → line ≤ at → at < line + n → on_line at (lists_from words store line n) ≡ line_words words store at
  unfolding lists_from
  on_from line zero h g = absurd (omega arith)
  on_from line (suc n) h g =
      on_append at (line_words words store line) (lists_from words store (suc line) n)
      ∙ rw (on-words store line at [] words) (by (eqb line at) refl (λ k. on_from (suc line) n k (omega arith)))
    where
      by : (t : Bool) → eqb line at ≡ t → (suc line ≤ at → on_line at (lists_from words store (suc line) n) ≡ line_words words store at) →
          cond t (line_words words store line) [] ++ on_line at (lists_from words store (suc line) n) ≡ line_words words store at
      by true q go =
          let e = eqb-true line at q in
          rw (on-later (suc line) n (omega (arith, e))) (append-nil (line_words words store line) ∙ ap (line_words words store) e)
      by false q go = let o = eqb-false line at q in go (omega (arith, o))

-- each explicit line finds its list
pub lists-line : (explicit : ℕ) (words store : List ℕ) (line : ℕ) → 1 ≤ line → line ≤ explicit + 1 → on_line line (lists explicit words store) ≡ line_words words store line
unfolding lists
lists-line explicit words store line h g = on_from words store line 1 (explicit + 1) h (omega arith)

-- other lines have none
pub lists-past : (explicit : ℕ) (words store : List ℕ) → on_line 0 (lists explicit words store) ≡ []
unfolding lists
lists-past explicit words store = on-later words store 0 1 (explicit + 1) (omega arith)
