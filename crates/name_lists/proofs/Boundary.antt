-- Entries that ascend, parted where the lines pass one: behind the boundary lie the entries of the lines from one on, and those of a
-- line stand together there.
use mathlib.Core.Path.{◌≡◌, refl, sym, ◌∙◌, ap}
use mathlib.Core.Bool.{Bool, true, false, cond}
use mathlib.Core.List.{List, [], ◌∷◌, map}
use Prim.Native.Nat.{ℕ, zero, suc, ◌+◌, ◌-◌, ◌≤◌, ◌<◌}
use native.Mathlib.Omega.{arith}
use borrow.Author.Tests.{leb-true, leb-false, le-leb, eq-eqb, ne_eqb}
use lib.Dec.{eqb, leb}
use lib.ListN.{length, take, drop, length-drop, drop_of_length-le}
use lib.Seq.{drop-drop}
use Rattle.name_entries.specs.Entries.{entry_of}
use Rattle.name_entries.specs.LineEntries.{entries_after}
use Rattle.std.proofs.lemmas.Bool.{and_parts}
use Rattle.name_lists.specs.Lists.{part_word, line_words, on_line, lists_from}
use Rattle.name_lists.specs.Ascending.{ascends_from, ascends, count_up_to}
use Rattle.name_lists.proofs.OnLine.{line-entries}

-- the first of entries that ascend is not below the line, and the others ascend from it
head_ascends : (line w : ℕ) (words : List ℕ) → ascends_from line (w ∷ words) ≡ true → (line ≤ (entry_of w).line) × (ascends_from (entry_of w).line words ≡ true)
unfolding ascends_from
head_ascends line w words e = let b = and_parts (leb line (entry_of w).line) (ascends_from (entry_of w).line words) e in (leb-true line (entry_of w).line b.0, b.1)

-- and so they ascend together
tail_ascends : (line w : ℕ) (words : List ℕ) → line ≤ (entry_of w).line → ascends_from (entry_of w).line words ≡ true → ascends_from line (w ∷ words) ≡ true
unfolding ascends_from
tail_ascends line w words h e = rw (le-leb line (entry_of w).line h) e

module _ (line : ℕ) where
  -- no entries are on a line below those that they ascend from
  none_below : (from : ℕ) (words : List ℕ) → line < from → ascends_from from words ≡ true → on_line line words ≡ []
  unfolding on_line
  none_below from [] h e = refl
  none_below from (w ∷ words) h e =
      let a = head_ascends from w words e in
      rw (ne_eqb (entry_of w).line line (λ q. omega (arith, a.0, q))) (none_below (entry_of w).line words (omega (arith, a.0)) a.1)

  -- no more are counted than there are
  pub few-counted : (words : List ℕ) → count_up_to line words ≤ length words
  unfolding count_up_to
  few-counted [] = omega arith
  few-counted (w ∷ words) = by (leb (entry_of w).line line) (few-counted words)
    where
      by : (t : Bool) → count_up_to line words ≤ length words → cond t (suc (count_up_to line words)) 0 ≤ suc (length words)
      by true h = omega arith
      by false h = omega arith

  -- the entries counted of those that ascend from the line are those on it
  counted-on : (words : List ℕ) → ascends_from line words ≡ true → take (count_up_to line words) words ≡ on_line line words
  unfolding count_up_to on_line
  counted-on [] e = refl
  counted-on (w ∷ words) e = by (leb (entry_of w).line line) refl (head_ascends line w words e) (λ r. counted-on words r)
    where
      by : (t : Bool) → leb (entry_of w).line line ≡ t → (line ≤ (entry_of w).line) × (ascends_from (entry_of w).line words ≡ true) →
          (ascends_from line words ≡ true → take (count_up_to line words) words ≡ on_line line words) →
          take (cond t (suc (count_up_to line words)) 0) (w ∷ words) ≡ cond (eqb (entry_of w).line line) (w ∷ on_line line words) (on_line line words)
      by true q a ih =
          let h = leb-true (entry_of w).line line q in
          let s : (entry_of w).line ≡ line = omega (arith, h, a.0) in
          rw (eq-eqb (entry_of w).line line s) (ap (λ (l : List ℕ). w ∷ l) (ih (rw s at a.1)))
      by false q a ih =
          let h = leb-false (entry_of w).line line q in
          rw (ne_eqb (entry_of w).line line (λ s. omega (arith, h, s))) (sym (none_below (entry_of w).line words h a.1))

  -- the others ascend from the next line
  others-ascend : (from : ℕ) (words : List ℕ) → ascends_from from words ≡ true → ascends_from (line + 1) (drop (count_up_to line words) words) ≡ true
  unfolding count_up_to ascends_from
  others-ascend from [] e = refl
  others-ascend from (w ∷ words) e = let a = head_ascends from w words e in by (leb (entry_of w).line line) refl a.1 (others-ascend (entry_of w).line words a.1)
    where
      by : (t : Bool) → leb (entry_of w).line line ≡ t → ascends_from (entry_of w).line words ≡ true → ascends_from (line + 1) (drop (count_up_to line words) words) ≡ true →
          ascends_from (line + 1) (drop (cond t (suc (count_up_to line words)) 0) (w ∷ words)) ≡ true
      by true q a ih = ih
      by false q a ih = let h = leb-false (entry_of w).line line q in tail_ascends (line + 1) w words (omega (arith, h)) a

  -- and hold the entries of each line after it
  others-on : (later : ℕ) (words : List ℕ) → line < later → on_line later words ≡ on_line later (drop (count_up_to line words) words)
  unfolding count_up_to on_line
  others-on later [] h = refl
  others-on later (w ∷ words) h = by (leb (entry_of w).line line) refl (others-on later words h)
    where
      by : (t : Bool) → leb (entry_of w).line line ≡ t → on_line later words ≡ on_line later (drop (count_up_to line words) words) →
          on_line later (w ∷ words) ≡ on_line later (drop (cond t (suc (count_up_to line words)) 0) (w ∷ words))
      by true q ih = let k = leb-true (entry_of w).line line q in rw (ne_eqb (entry_of w).line later (λ s. omega (arith, k, s, h))) ih
      by false q ih = refl

-- the entries from a place on ascend from a line, and hold those of each line from it on
pub record Boundary (entries : List ℕ) (at line : ℕ) : Type 0 where
  pub inside : at ≤ length entries
  pub rising : ascends_from line (drop at entries) ≡ true
  pub holds : (later : ℕ) → line ≤ later → on_line later entries ≡ on_line later (drop at entries)

module _ (entries : List ℕ) where
  pub boundary-begin : ascends entries ≡ true → Boundary entries 0 0
  boundary-begin e = record { inside = omega arith; rising = e; holds = λ later h. refl }

  module _ (at line end : ℕ) (past : end ≡ at + count_up_to line (drop at entries)) where
    past-drop : drop end entries ≡ drop (count_up_to line (drop at entries)) (drop at entries)
    past-drop = rw past (sym (drop-drop (count_up_to line (drop at entries)) at entries))

    -- past the entries up to a line is the boundary of the next one
    pub boundary-next : (from : ℕ) → from ≤ line + 1 → Boundary entries at from → Boundary entries end (line + 1)
    boundary-next from h b = record {
      inside = let f = few-counted line (drop at entries) in let d = length-drop at entries in omega (arith, f, d, past, b.inside);
      rising = rw past-drop (others-ascend line from (drop at entries) b.rising);
      holds = λ later k. rw past-drop (b.holds later (omega (arith, h, k)) ∙ others-on line later (drop at entries) (omega (arith, k)));
    }

    module _ (b : Boundary entries at line) where
      between-on : take (end - at) (drop at entries) ≡ on_line line entries
      between-on =
          let n : end - at ≡ count_up_to line (drop at entries) = omega (arith, past) in
          rw n (counted-on line (drop at entries) b.rising ∙ sym (b.holds line (omega arith)))

      -- the entries between two boundaries show the same names of the line as all do
      pub between-words : (store : List ℕ) → line_words (take (end - at) (drop at entries)) store line ≡ line_words entries store line
      between-words store = rw between-on (ap (map (part_word store)) (line-entries line store entries))

  -- where no entries are left, no line from there on lists a name
  module _ (store : List ℕ) (at line : ℕ) (past : length entries ≤ at) (b : Boundary entries at line) where
    none-shown : (later : ℕ) → line ≤ later → line_words entries store later ≡ []
    unfolding on_line entries_after
    none-shown later h =
        let none : on_line later entries ≡ [] = b.holds later h ∙ ap (on_line later) (drop_of_length-le entries {i = at} past) in
        sym (ap (map (part_word store)) (line-entries later store entries)) ∙ ap (λ (l : List ℕ). line_words l store later) none

    pub none-listed : (later k : ℕ) → line ≤ later → lists_from entries store later k ≡ []
    unfolding lists_from
    none-listed later zero h = refl
    none-listed later (suc k) h = rw (none-shown later h) (none-listed (suc later) k (omega (arith, h)))
