-- The first fault of the words from one on. Assumes nothing.
use Prim.Native.Nat.{ℕ, suc, ◌+◌, ◌≤◌, ◌<◌}
use mathlib.Core.Path.{◌≡◌, sym, ap, ◌∙◌}
use mathlib.Core.List.{List, ◌∷◌}
use native.Mathlib.Numerals.{add-one}
use lib.ListN.{length, drop, get_or, drop_of_length-le}
use lib.Seq.{drop-cons}
use borrow.Author.Tests.{eq-eqb, ne_eqb}
use Rattle.picture_rules.specs.Picture.{Word}
use Rattle.sheet_forms.specs.Fields.{word_fault, words_fault}

pub fault_past : (ws : List Word) (k : ℕ) → length ws ≤ k → words_fault (drop k ws) ≡ 0
unfolding words_fault
fault_past ws k h = rw (drop_of_length-le ws h)

module _ (ws : List Word) (k : ℕ) (w : Word) (there : k < length ws) (word : w ≡ get_or ws k w) where
  word_first : drop k ws ≡ w ∷ drop (k + 1) ws
  word_first = rw add-one (drop-cons ws k w there ∙ ap (λ (v : Word). v ∷ drop (suc k) ws) (sym word))

  pub fault-here : (word_fault w ≡ 0 → ⊥) → words_fault (drop k ws) ≡ word_fault w
  unfolding words_fault
  fault-here h = rw (word_first, ne_eqb (word_fault w) 0 h)

  pub fault-next : word_fault w ≡ 0 → words_fault (drop k ws) ≡ words_fault (drop (k + 1) ws)
  unfolding words_fault
  fault-next h = rw (word_first, eq-eqb (word_fault w) 0 h)
