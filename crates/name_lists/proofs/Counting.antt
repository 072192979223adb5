-- The lists hold no more names than there are entries.
use mathlib.Core.Path.{◌≡◌, refl}
use mathlib.Core.Bool.{Bool, true, false, cond}
use mathlib.Core.List.{List, [], ◌∷◌}
use Prim.Native.Nat.{ℕ, zero, suc, ◌+◌, ◌≤◌}
use native.Mathlib.Omega.{arith}
use borrow.Author.Tests.{leb-true, leb-false, le-leb, lt-leb, eqb-true, eqb-false}
use lib.Dec.{eqb, leb}
use lib.ListN.{length, length-append, length-map}
use Rattle.name_entries.specs.Entries.{entry_of}
use Rattle.name_entries.specs.LineEntries.{line_entries_of}
use Rattle.name_lists.specs.Lists.{part_word, line_words, lists_from, lists, on_line}
use Rattle.name_lists.proofs.OnLine.{few-entries}

-- how many words are on a line or on one after it
unfoldable count_from : ℕ → List ℕ → ℕ
count_from line [] = 0
count_from line (w ∷ words) = cond (leb line (entry_of w).line) 1 0 + count_from line words

module _ (line : ℕ) where
  all_from : (words : List ℕ) → count_from line words ≤ length words
  unfolding count_from
  all_from [] = omega arith
  all_from (w ∷ words) = by (leb line (entry_of w).line) (all_from words)
    where
      by : (t : Bool) → count_from line words ≤ length words → cond t 1 0 + count_from line words ≤ suc (length words)
      by true h = omega arith
      by false h = omega arith

  -- those on the line, and those after it
  split_from : (words : List ℕ) → count_from line words ≡ length (on_line line words) + count_from (suc line) words
  unfolding count_from on_line
  split_from [] = refl
  split_from (w ∷ words) = by (eqb (entry_of w).line line) (leb line (entry_of w).line) refl refl (split_from words)
    where
      by : (s t : Bool) → eqb (entry_of w).line line ≡ s → leb line (entry_of w).line ≡ t → count_from line words ≡ length (on_line line words) + count_from (suc line) words →
          cond t 1 0 + count_from line words ≡ length (cond s (w ∷ on_line line words) (on_line line words)) + (cond (leb (suc line) (entry_of w).line) 1 0 + count_from (suc line) words)
      by true true p q ih = let e = eqb-true (entry_of w).line line p in rw (lt-leb (suc line) (entry_of w).line (omega (arith, e))) (omega (arith, ih))
      by true false p q ih = absurd (let e = eqb-true (entry_of w).line line p in let h = leb-false line (entry_of w).line q in omega (arith, e, h))
      by false true p q ih =
          let n = eqb-false (entry_of w).line line p in
          let h = leb-true line (entry_of w).line q in
          rw (le-leb (suc line) (entry_of w).line (omega (arith, n, h))) (omega (arith, ih))
      by false false p q ih = let h = leb-false line (entry_of w).line q in rw (lt-leb (suc line) (entry_of w).line (omega (arith, h))) (omega (arith, ih))

module _ (words store : List ℕ) where
  few_words : (line : ℕ) → length (line_words words store line) ≤ length (on_line line words)
  few_words line = rw (length-map (line_entries_of words store line) (part_word store)) (few-entries line store words)

  few-from : (line n : ℕ) → length (lists_from words store line n) ≤ count_from line words
  unfolding lists_from
  few-from line zero = omega arith
  few-from line (suc n) =
      let a = few_words line in
      let b = few-from (suc line) n in
      let s = split_from line words in
      rw (length-append (line_words words store line) (lists_from words store (suc line) n)) (omega (arith, a, b, s))

  pub few-lists : (explicit : ℕ) → length (lists explicit words store) ≤ length words
  unfolding lists
  few-lists explicit = let a = few-from 1 (explicit + 1) in let b = all_from 1 words in omega (arith, a, b)
