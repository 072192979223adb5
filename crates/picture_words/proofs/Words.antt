-- The words of a line from a place on: the one that starts there, and those from the next place on. Assumes nothing.
use Prim.Native.Nat.{ℕ, ◌+◌, ◌-◌, ◌≤◌, ◌<◌}
use mathlib.Core.Path.{◌≡◌, refl, sym, ap, ◌∙◌}
use mathlib.Core.List.{List, [], ◌∷◌}
use mathlib.Core.Bool.{Bool, true, false, cond}
use mathlib.Core.Logic.{⊎_elim}
use native.Mathlib.Omega.{arith}
use lib.Dec.{eqb}
use borrow.Author.Tests.{le-leb, lt-leb}
use lib.ListN.{length, get_or, take, drop, length-drop, drop_of_length-le}
use Rattle.std.specs.List.{filter}
use Rattle.text.specs.Split.{before, onto, split}
use Rattle.text.specs.Places.{starts_from}
use Rattle.text.proofs.Held.{le_or_lt}
use Rattle.text.proofs.Laws.{find-le}
use Rattle.text.proofs.Places.{parts_from, parts_whole, parts-past, parts_next, starts-next}
use Rattle.picture_rules.specs.Picture.{Word}
use Rattle.picture_words.specs.Words.{words_of, words_left, first_start, word_end, word_at}

words_parts : (line : List ℕ) (at : ℕ) → words_left line at ≡ parts_from 9 line at
unfolding words_left parts_from
words_parts line at = refl

pub words_past : (line : List ℕ) (at : ℕ) → length line < at → words_left line at ≡ []
words_past line at h = words_parts line at ∙ parts-past 9 line at h

pub end_within : (line : List ℕ) (at : ℕ) → at ≤ length line → word_end line at ≤ length line
end_within line at fits = find-le 9 line at (word_end line at) fits refl

module _ (line : List ℕ) (at e : ℕ) (fits : at ≤ length line) (found : e ≡ word_end line at) where
  pub words-next : words_left line at ≡ take (e - at) (drop at line) ∷ words_left line (e + 1)
  words-next = rw (words_parts line at, words_parts line (e + 1)) (parts_next 9 line at e fits found)

  pub word-here : word_at line at ≡ take (e - at) (drop at line)
  word-here = rw words-next

  pub starts-here : starts_from at (words_left line at) ≡ at ∷ starts_from (e + 1) (words_left line (e + 1))
  starts-here = rw (words_parts line at, words_parts line (e + 1)) (starts-next 9 line at e fits found)

-- the words of a line are those from its first word on
pub words_all : (line : List ℕ) → words_left line (first_start line) ≡ words_of line
words_all line =
    let e : 0 + before 9 line ≡ before 9 line = omega arith in
    let h = words-next line 0 (before 9 line) (omega arith) (sym e) in
    sym (ap (λ (l : List Word). drop 1 l) (sym (parts_whole 9 line) ∙ sym (words_parts line 0) ∙ h))

-- one after each tab
tabs-onto : (x : ℕ) (ps : List (List ℕ)) → 1 ≤ length ps → length (onto x ps) ≡ length ps
unfolding onto
tabs-onto x [] h = absurd (omega (arith, h))
tabs-onto x (p ∷ ps) h = refl

tabs_split : (s : List ℕ) → length (split 9 s) ≡ length (filter (λ b. eqb b 9) s) + 1
unfolding split
tabs_split [] = refl
tabs_split (x ∷ xs) = go (eqb x 9) (tabs_split xs)
  where
    go : (t : Bool) → length (split 9 xs) ≡ length (filter (λ b. eqb b 9) xs) + 1
        → length (cond t ([] ∷ split 9 xs) (onto x (split 9 xs))) ≡ length (cond t (x ∷ filter (λ b. eqb b 9) xs) (filter (λ b. eqb b 9) xs)) + 1
    go true e = omega (arith, e)
    go false e = omega (arith, e, tabs-onto x (split 9 xs) (omega (arith, e)))

pub words_count : (line : List ℕ) → length (filter (λ b. eqb b 9) line) ≡ length (words_of line)
words_count line = omega (arith, tabs_split line, length-drop 1 (split 9 line))

-- the word at a place is the first part of what is left of the line
pub word_first : (line : List ℕ) (at : ℕ) → get_or (split 9 (drop at line)) 0 [] ≡ word_at line at
unfolding words_left split
word_first line at = ⊎_elim here past (le_or_lt at (length line))
  where
    here : at ≤ length line → get_or (split 9 (drop at line)) 0 [] ≡ word_at line at
    here h = rw (le-leb at (length line) h)

    past : length line < at → get_or (split 9 (drop at line)) 0 [] ≡ word_at line at
    past h =
        let e : drop at line ≡ [] = drop_of_length-le line (omega (arith, h)) in
        rw (e, lt-leb at (length line) h)
