-- The entries of a table that are on a line show the same names of it as the whole table does.
use mathlib.Core.Path.{◌≡◌, refl, sym, ◌∙◌, ap}
use mathlib.Core.Bool.{Bool, true, false, cond}
use mathlib.Core.List.{List, [], ◌∷◌, ◌++◌, append-nil}
use Prim.Native.Nat.{ℕ, suc, ◌≤◌}
use native.Mathlib.Omega.{arith}
use lib.Dec.{eqb}
use lib.ListN.{length}
use Rattle.name_rules.specs.Css.{Bytes}
use Rattle.name_rules.specs.Rule.{any, written?}
use Rattle.name_entries.specs.Entries.{entry_of, named_entry, entries_of}
use Rattle.name_entries.specs.LineNames.{shows}
use Rattle.name_entries.specs.LineEntries.{entries_after, line_entries_of}
use Rattle.name_entries.proofs.Entering.{entries_cons}
use Rattle.name_lists.specs.Lists.{on_line}

module _ (line : ℕ) where
  pub on_append : (l m : List ℕ) → on_line line (l ++ m) ≡ on_line line l ++ on_line line m
  unfolding on_line
  on_append [] m = refl
  on_append (w ∷ l) m = by (eqb (entry_of w).line line) (on_append l m)
    where
      by : (t : Bool) → on_line line (l ++ m) ≡ on_line line l ++ on_line line m →
          cond t (w ∷ on_line line (l ++ m)) (on_line line (l ++ m)) ≡ cond t (w ∷ on_line line l) (on_line line l) ++ on_line line m
      by true ih = rw ih
      by false ih = ih

  module _ (store : List ℕ) where
    -- a name is written on the line by the same
    any-on : (name : Bytes) (words : List ℕ) → any (written? name line) (entries_of (on_line line words) store) ≡ any (written? name line) (entries_of words store)
    unfolding on_line
    any-on name [] = refl
    any-on name (w ∷ words) = by (eqb (entry_of w).line line) refl (any-on name words)
      where
        by : (t : Bool) → eqb (entry_of w).line line ≡ t →
            any (written? name line) (entries_of (on_line line words) store) ≡ any (written? name line) (entries_of words store) →
            any (written? name line) (entries_of (cond t (w ∷ on_line line words) (on_line line words)) store) ≡ any (written? name line) (entries_of (w ∷ words) store)
        by true q ih = rw (entries_cons w (on_line line words) store, entries_cons w words store, ih)
        by false q ih = rw (entries_cons w words store, q) ih

    entries-on : (before words : List ℕ) → entries_after line store (on_line line before) (on_line line words) ≡ entries_after line store before words
    unfolding on_line entries_after
    entries-on before [] = refl
    entries-on before (w ∷ words) = by (eqb (entry_of w).line line) refl (on_append before (w ∷ [])) (entries-on (before ++ (w ∷ [])) words)
      where
        by : (t : Bool) → eqb (entry_of w).line line ≡ t → on_line line (before ++ (w ∷ [])) ≡ on_line line before ++ cond t (w ∷ []) [] →
            entries_after line store (on_line line (before ++ (w ∷ []))) (on_line line words) ≡ entries_after line store (before ++ (w ∷ [])) words →
            entries_after line store (on_line line before) (cond t (w ∷ on_line line words) (on_line line words)) ≡ entries_after line store before (w ∷ words)
        by true q e ih = rw (any-on (named_entry store (entry_of w)).name before, ← e, ih)
        by false q e ih = rw q (ap (λ (l : List ℕ). entries_after line store l (on_line line words)) (sym (e ∙ append-nil (on_line line before))) ∙ ih)

    pub line-entries : (words : List ℕ) → line_entries_of (on_line line words) store line ≡ line_entries_of words store line
    unfolding on_line
    line-entries words = entries-on [] words

    -- no more show a name than there are
    few-after : (before words : List ℕ) → length (entries_after line store before words) ≤ length words
    unfolding entries_after
    few-after before [] = omega arith
    few-after before (w ∷ words) = by (shows line (entries_of before store) (named_entry store (entry_of w))) (few-after (before ++ (w ∷ [])) words)
      where
        by : (t : Bool) → length (entries_after line store (before ++ (w ∷ [])) words) ≤ length words →
            length (cond t (entry_of w ∷ entries_after line store (before ++ (w ∷ [])) words) (entries_after line store (before ++ (w ∷ [])) words)) ≤ suc (length words)
        by true h = omega arith
        by false h = omega arith

    pub few-entries : (words : List ℕ) → length (line_entries_of words store line) ≤ length (on_line line words)
    few-entries words = rw (← line-entries words) (few-after [] (on_line line words))
