-- Steps over the entries of a table, as a loop takes them.
use mathlib.Core.Path.{◌≡◌, refl, sym, ap, ap₂, ◌∙◌}
use mathlib.Core.Bool.{Bool, true, false, cond, ◌&&◌}
use mathlib.Core.List.{List, [], ◌∷◌, ◌++◌, map, append_assoc}
use Prim.Native.Nat.{ℕ, ◌+◌, ◌<◌}
use native.Mathlib.Numerals.{add-one}
use native.Mathlib.Omega.{arith}
use lib.Dec.{leb}
use lib.ListN.{length, get_or, take, get_or-map}
use lib.Seq.{take-suc, take-append_seam}
use Rattle.std.proofs.lemmas.List.{length-append}
use Rattle.std.proofs.lemmas.Grind.{common_steps}
use Rattle.std.specs.Prelude.{min}
use Rattle.std.specs.List.{filter, enumerate_from}
use Rattle.name_rules.specs.Css.{Bytes, Entry}
use Rattle.name_rules.specs.Rule.{any}
use Rattle.name_entries.specs.declared.NameEntry.{NameEntry}
use Rattle.name_entries.specs.Entries.{entry_of, name_in, named_entry, entries_of}
use Rattle.name_entries.specs.LineNames.{shows, shown_after, explicit_line_names}
use Rattle.name_entries.specs.LineEntries.{no_entry, entries_after, explicit_line_entries}
use Rattle.name_entries.proofs.Entering.{entries_cons, entries_nil, entries-append}

-- the entry at a place of a table
abbrev pub entry_at : List ℕ → List ℕ → ℕ → Entry
entry_at entries store i = named_entry store (entry_of (get_or entries i 0))

module _ (entries store : List ℕ) (i : ℕ) (h : i < length entries) where
  pub more-entries : entries_of (take (i + 1) entries) store ≡ entries_of (take i entries) store ++ (entry_at entries store i ∷ [])
  more-entries = rw (add-one i, take-suc entries i 0 h, entries-append, entries_cons, entries_nil)

-- a test of the words' entries
pub any_words : (p : Entry → Bool) (store words : List ℕ) → any (λ (w : ℕ). p (named_entry store (entry_of w))) words ≡ any p (entries_of words store)
any_words p store [] = rw (entries_nil store)
any_words p store (w ∷ words) = rw (entries_cons w words store, any_words p store words)

-- whether an entry shows its name on a line, by its place among words
abbrev pub shows_at : ℕ → List ℕ → List ℕ → ℕ × ℕ → Bool
shows_at line words store p = shows line (entries_of (take p.0 words) store) (named_entry store (entry_of p.1))

module _ (line : ℕ) (store : List ℕ) where
  kept-if : (t : Bool) (x : ℕ × ℕ) (l : List (ℕ × ℕ)) (r : List NameEntry) → map (λ (p : ℕ × ℕ). entry_of p.1) l ≡ r
      → map (λ (p : ℕ × ℕ). entry_of p.1) (cond t (x ∷ l) l) ≡ cond t (entry_of x.1 ∷ r) r
  kept-if true x l r h = rw h
  kept-if false x l r h = h

  -- words after others, of which those are kept that show their names
  kept-after : (all before words : List ℕ) (n : ℕ) → all ≡ before ++ words → n ≡ length before
      → map (λ (p : ℕ × ℕ). entry_of p.1) (filter (shows_at line all store) (enumerate_from n words)) ≡ entries_after line store before words
  unfolding entries_after
  kept-after all before [] n e h = refl
  kept-after all before (w ∷ words) n e h =
      let t : take n all ≡ before = ap₂ take h e ∙ take-append_seam before (w ∷ words) in
      rw t
      (kept-if (shows line (entries_of before store) (named_entry store (entry_of w))) (n, w) _ (entries_after line store (before ++ (w ∷ [])) words)
      (kept-after all (before ++ (w ∷ [])) words (n + 1) (e ∙ sym (append_assoc before (w ∷ []) words)) (ap (λ (k : ℕ). k + 1) h ∙ sym (length-append before (w ∷ [])))))

  -- the words of the entries that show a name on the line
  pub kept_words : (words : List ℕ) → map (λ (p : ℕ × ℕ). entry_of p.1) (filter (shows_at line words store) (enumerate_from 0 words)) ≡ entries_after line store [] words
  kept_words words = kept-after words [] words 0 refl refl

-- ---- the names that entries show

module _ (line : ℕ) (store : List ℕ) where
  one_more_lem : (before : List ℕ) (w : ℕ) → entries_of (before ++ (w ∷ [])) store ≡ entries_of before store ++ (named_entry store (entry_of w) ∷ [])
  one_more_lem before w = rw (entries-append before (w ∷ []) store, entries_cons, entries_nil)

  names-if : (t : Bool) (e : NameEntry) (l : List NameEntry) (names : List Bytes) → map (name_in store) l ≡ names
      → map (name_in store) (cond t (e ∷ l) l) ≡ cond t (name_in store e ∷ names) names
  names-if true e l names h = rw h
  names-if false e l names h = h

  -- of words, after those of others
  names-after : (before words : List ℕ) → map (name_in store) (entries_after line store before words) ≡ shown_after line (entries_of before store) (entries_of words store)
  unfolding entries_after shown_after
  names-after before [] = rw (entries_nil store)
  names-after before (w ∷ words) =
      rw (entries_cons w words store)
      (names-if (shows line (entries_of before store) (named_entry store (entry_of w))) (entry_of w) (entries_after line store (before ++ (w ∷ [])) words)
      (shown_after line (entries_of before store ++ (named_entry store (entry_of w) ∷ [])) (entries_of words store))
      (rw (← one_more_lem before w) (names-after (before ++ (w ∷ [])) words)))

  explicit-if : (t : Bool) (words : List ℕ) → map (name_in store) (cond t (entries_after line store [] words) []) ≡ cond t (shown_after line [] (entries_of words store)) []
  explicit-if true words = rw (← entries_nil store) (names-after [] words)
  explicit-if false words = refl

  -- the name of the entry at a place is the name at that place
  pub entry-name : (explicit place : ℕ) (words : List ℕ) →
      name_in store (get_or (explicit_line_entries explicit words store line) place no_entry) ≡ get_or (explicit_line_names explicit (entries_of words store) line) place []
  unfolding explicit_line_entries explicit_line_names
  entry-name explicit place words =
      sym (get_or-map (name_in store) (explicit_line_entries explicit words store line) place no_entry)
      ∙ ap (λ (l : List Bytes). get_or l place []) (explicit-if (leb 1 line && leb line (explicit + 1)) words)

-- past the end all entries are before
pub all_before : (words : List ℕ) (place : ℕ) → take (min place (length words)) words ≡ take place words
all_before words place = grind (arith, common_steps)
