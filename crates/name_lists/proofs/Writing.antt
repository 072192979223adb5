-- Words written one after the other, as a loop takes them.
use mathlib.Core.Path.{◌≡◌, refl, sym, ◌∙◌, ap}
use mathlib.Core.Bool.{Bool, true, false, cond}
use mathlib.Core.List.{List, [], ◌∷◌, ◌++◌, map}
use Prim.Native.Nat.{ℕ, suc, ◌+◌, ◌-◌, ◌≤◌, ◌<◌}
use native.Mathlib.Omega.{arith}
use native.Mathlib.Numerals.{add-one}
use lib.ListN.{length, get_or, take, drop, set, length-append, drop_of_length-le}
use lib.Seq.{sets, length-sets, drop-cons, take-suc}
use borrow.Rule.Slice.PartMut.{put_mid}
use Rattle.name_template.proofs.Placing.{sets_append, sets_part}
use Rattle.name_entries.specs.declared.NameEntry.{NameEntry}
use Rattle.name_entries.specs.Entries.{entry_of, named_entry, entries_of}
use Rattle.name_entries.specs.LineNames.{shows}
use Rattle.name_entries.specs.LineEntries.{entries_after}
use Rattle.name_lists.specs.Lists.{part_word, line_words, lists_from, lists, Written, entry_words}

-- what is left to write where some are written
pub record Rests (lent whole now : List ℕ) (n : ℕ) (rest : List ℕ) : Type 0 where
  pub words : sets now n rest ≡ sets lent 0 whole
  pub counted : n + length rest ≡ length whole
  pub kept : length now ≡ length lent

module _ (lent whole : List ℕ) where
  pub rests-all : Rests lent whole lent 0 whole
  rests-all = record { words = refl; counted = omega arith; kept = refl }

  -- some of what is left are written
  pub rests_set : (now after : List ℕ) (n next : ℕ) (part rest later : List ℕ) → Rests lent whole now n rest → rest ≡ part ++ later → after ≡ sets now n part → next ≡ n + length part →
      Rests lent whole after next later
  rests_set now after n next part rest later r e w k = record {
    words = rw (w, k) (sym (sets_append now n part later) ∙ ap (sets now n) (sym e) ∙ r.words);
    counted = let a = ap length e ∙ length-append part later in omega (arith, a, k, r.counted);
    kept = ap length w ∙ length-sets now n part ∙ r.kept;
  }

  -- they are written to the front of the words behind those that are there
  pub rests-next : (now after : List ℕ) (n next : ℕ) (part rest later : List ℕ) → Rests lent whole now n rest → rest ≡ part ++ later → n ≤ length now →
      Written (take (length now - n) (drop n now)) part after next → Rests lent whole (put_mid n (length now - n) now after) (n + next) later
  rests-next now after n next part rest later r e h w =
      rests_set now _ n (n + next) part rest later r e (rw w.words (sets_part now part n h)) (omega (arith, w.counted))

  -- and they fit
  pub rests-fit : (now : List ℕ) (n : ℕ) (part rest later : List ℕ) → Rests lent whole now n rest → rest ≡ part ++ later → length whole ≤ length lent →
      n + length part ≤ length now
  rests-fit now n part rest later r e h = let a = ap length e ∙ length-append part later in omega (arith, a, r.counted, r.kept)

  pub rests-none : (now : List ℕ) (n : ℕ) (rest : List ℕ) → Rests lent whole now n rest → rest ≡ [] → Written lent whole now n
  rests-none now n rest r e = record {
    words = ap (sets now n) (sym e) ∙ r.words;
    counted = let a = ap length e in omega (arith, a, r.counted);
  }

-- ---- the entries of a table, from a place on

-- the entries that are still to be shown at place i
abbrev shown_from : ℕ → List ℕ → List ℕ → ℕ → List NameEntry
shown_from line entries store i = entries_after line store (take i entries) (drop i entries)

module _ (entries store : List ℕ) (line : ℕ) where
  shown-step : (i : ℕ) → i < length entries → shown_from line entries store i
      ≡ cond (shows line (entries_of (take i entries) store) (named_entry store (entry_of (get_or entries i 0))))
      (entry_of (get_or entries i 0) ∷ shown_from line entries store (i + 1)) (shown_from line entries store (i + 1))
  unfolding entries_after
  shown-step i h = rw (drop-cons entries i 0 h, add-one i, take-suc entries i 0 h)

  abbrev pub words_from : ℕ → List ℕ
  words_from i = map (part_word store) (shown_from line entries store i)

  words-if : (t : Bool) (e : NameEntry) (l : List NameEntry) →
      map (part_word store) (cond t (e ∷ l) l) ≡ cond t (part_word store e ∷ []) [] ++ map (part_word store) l
  words-if true e l = refl
  words-if false e l = refl

  pub words-next : (i : ℕ) → i < length entries → words_from i ≡ entry_words entries store line i ++ words_from (i + 1)
  words-next i h =
      ap (map (part_word store)) (shown-step i h)
      ∙ words-if (shows line (entries_of (take i entries) store) (named_entry store (entry_of (get_or entries i 0)))) (entry_of (get_or entries i 0)) (shown_from line entries store (i + 1))

  -- whether the entry at a place shows its name on the line
  abbrev pub shown_at : ℕ → Bool
  shown_at i = shows line (entries_of (take i entries) store) (named_entry store (entry_of (get_or entries i 0)))

  module _ (lent now : List ℕ) (n i : ℕ) (less : i < length entries) (r : Rests lent (line_words entries store line) now n (words_from i)) where
    word : ℕ
    word = part_word store (entry_of (get_or entries i 0))

    -- one that does is one word more
    shown-next : shown_at i ≡ true → words_from i ≡ (word ∷ []) ++ words_from (i + 1)
    unfolding word
    shown-next h = words-next i less ∙ rw h

    pub line-shown : shown_at i ≡ true → Rests lent (line_words entries store line) (set now n (part_word store (entry_of (get_or entries i 0)))) (n + 1) (words_from (i + 1))
    unfolding word
    line-shown h = rests_set lent (line_words entries store line) now _ n (n + 1) (word ∷ []) _ _ r (shown-next h) refl (omega arith)

    pub line-room : shown_at i ≡ true → length (line_words entries store line) ≤ length lent → n < length now
    line-room h fits = let f = rests-fit lent (line_words entries store line) now n (word ∷ []) _ _ r (shown-next h) fits in omega (arith, f)

    -- another none
    pub line-passed : shown_at i ≡ false → Rests lent (line_words entries store line) now n (words_from (i + 1))
    line-passed h = rests_set lent (line_words entries store line) now now n n [] _ _ r (words-next i less ∙ rw h) refl (omega arith)

  pub words-end : (i : ℕ) → length entries ≤ i → words_from i ≡ []
  unfolding entries_after
  words-end i h = rw (drop_of_length-le entries h)

-- ---- the lines, from one on

module _ (explicit : ℕ) (words store : List ℕ) where
  -- the lists of a line and of those after it
  abbrev pub lines_from : ℕ → List ℕ
  lines_from line = lists_from words store line (explicit + 2 - line)

  pub lines-all : lists explicit words store ≡ lines_from 1
  unfolding lists
  lines-all = let e : explicit + 2 - 1 ≡ explicit + 1 = omega arith in rw e

  pub lines_next : (line : ℕ) → line ≤ explicit + 1 → lines_from line ≡ line_words words store line ++ lines_from (line + 1)
  unfolding lists_from
  lines_next line h =
      let e : explicit + 2 - line ≡ suc (explicit + 2 - (line + 1)) = omega arith in
      let s : suc line ≡ line + 1 = omega arith in
      rw e (ap (λ (k : ℕ). line_words words store line ++ lists_from words store k (explicit + 2 - (line + 1))) s)

  pub lines_end : (line : ℕ) → explicit + 1 < line → lines_from line ≡ []
  unfolding lists_from
  lines_end line h = let e : explicit + 2 - line ≡ 0 = omega arith in rw e
