-- The fault of the words of a row is the number of the row of the table that holds of them and comes first. Assumes nothing.
use Prim.Native.Nat.{ℕ, zero, suc, ◌≤◌, ◌<◌, zero-le, suc-le-suc}
use mathlib.Core.Path.{◌≡◌, refl, sym, ◌∙◌}
use mathlib.Core.List.{List, [], ◌∷◌}
use mathlib.Core.Bool.{Bool, true, false, cond, false≢true}
use mathlib.Core.Logic.{◌⊎◌, inl, inr, ⊎_elim}
use native.Mathlib.Nat.{le_of_suc-le-suc, not-suc-le-zero}
use native.Mathlib.Omega.{arith}
use lib.Dec.{eqb, ltb}
use lib.ListN.{length, get_or, drop}
use borrow.Author.Tests.{ltb-true, ltb-false}
use Rattle.picture_rules.specs.Picture.{Word, is_dots}
use Rattle.picture_rules.proofs.Words.{dots_exactly}
use Rattle.sheet_forms.specs.Faults.{rank_of, first_of}
use Rattle.sheet_forms.specs.Fields.{name_fault, word_fault, words_fault, many_fault, row_fault}
use Rattle.sheet_forms.specs.Forms.{InNameRange, the_words}
use Rattle.sheet_forms.specs.Rows.{First, BadWord, BadWords}
use Rattle.sheet_forms.proofs.Firsts.{first_zero, at_none, at_name, at_count}
use Rattle.sheet_forms.proofs.FieldRows.{never, name_range}
use Rattle.sheet_forms.proofs.PartRows.{PartHolds}

-- ---- a word

word_range : (w : Word) → ((word_fault w ≡ 0) × (BadWord w → ⊥)) ⊎ ((word_fault w ≡ 2) × BadWord w)
unfolding word_fault
word_range w = go (is_dots w) refl
  where
    go : (t : Bool) → is_dots w ≡ t → ((cond t 0 (name_fault w) ≡ 0) × (BadWord w → ⊥)) ⊎ ((cond t 0 (name_fault w) ≡ 2) × BadWord w)
    go true e = inl (refl, λ o. o.dots ((dots_exactly w).0 e))
    go false e =
        ⊎_elim (λ h. inl (h.0, λ o. o.name h.1))
        (λ h. inr (h.0, record { dots = λ d. false≢true (sym e ∙ (dots_exactly w).1 d); name = h.1 }))
        (name_range w)

-- a word without a fault is dots or a name
pub word-named : (w : Word) → word_fault w ≡ 0 → is_dots w ≡ false → InNameRange w
unfolding word_fault
word-named w e d = ⊎_elim (λ h. h.1) (λ h. absurd (omega (arith, h.0, z))) (name_range w)
  where
    z : name_fault w ≡ 0
    z = rw d at e

-- ---- words

words_range : (ws : List Word) → ((words_fault ws ≡ 0) × (BadWords ws → ⊥)) ⊎ ((words_fault ws ≡ 2) × BadWords ws)
unfolding words_fault
words_range [] = inl (refl, λ h. not-suc-le-zero h.1)
words_range (w ∷ ws) = go (word_range w) (words_range ws)
  where
    go : ((word_fault w ≡ 0) × (BadWord w → ⊥)) ⊎ ((word_fault w ≡ 2) × BadWord w) → ((words_fault ws ≡ 0) × (BadWords ws → ⊥)) ⊎ ((words_fault ws ≡ 2) × BadWords ws)
        → ((cond (eqb (word_fault w) 0) (words_fault ws) (word_fault w) ≡ 0) × (BadWords (w ∷ ws) → ⊥))
        ⊎ ((cond (eqb (word_fault w) 0) (words_fault ws) (word_fault w) ≡ 2) × BadWords (w ∷ ws))
    go (inr h) r = inr (rw h.0, (0, suc-le-suc zero-le, h.1))
    go (inl h) (inr r) = inr (rw h.0 r.0, (suc r.1.0, suc-le-suc r.1.1, r.1.2))
    go (inl h) (inl r) = inl (rw h.0 r.0, λ k. at k.0 k.1 k.2)
      where
        at : (i : ℕ) → i < length (w ∷ ws) → BadWord (get_or (w ∷ ws) i []) → ⊥
        at zero l b = h.1 b
        at (suc i) l b = r.1 (i, le_of_suc-le-suc l, b)

many_range : (n : ℕ) → ((many_fault n ≡ 0) × (n ≤ 10000)) ⊎ ((many_fault n ≡ 4) × (10000 < n))
many_range n = go (ltb 10000 n) refl
  where
    go : (t : Bool) → ltb 10000 n ≡ t → ((◌≡◌ {A = ℕ} (cond t 4 0) 0) × (n ≤ 10000)) ⊎ ((◌≡◌ {A = ℕ} (cond t 4 0) 4) × (10000 < n))
    go true e = inr (refl, ltb-true 10000 n e)
    go false e = inl (refl, ltb-false 10000 n e)

-- the rows of the words from field k on
pub words_first : (fs : List (List ℕ)) (k : ℕ) → First (PartHolds fs (the_words k)) (row_fault (drop k fs))
unfolding row_fault first_of rank_of
words_first fs k = go (words_range (drop k fs)) (many_range (length (drop k fs)))
  where
    go : ((words_fault (drop k fs) ≡ 0) × (BadWords (drop k fs) → ⊥)) ⊎ ((words_fault (drop k fs) ≡ 2) × BadWords (drop k fs))
        → ((many_fault (length (drop k fs)) ≡ 0) × (length (drop k fs) ≤ 10000)) ⊎ ((many_fault (length (drop k fs)) ≡ 4) × (10000 < length (drop k fs)))
        → First (PartHolds fs (the_words k)) (first_of (words_fault (drop k fs)) (many_fault (length (drop k fs))))
    go (inr b) (inl m) = at_name (rw (b.0, m.0)) b.1 (λ u. u tt)
    go (inr b) (inr m) = at_name (rw (b.0, m.0)) b.1 (λ u. u tt)
    go (inl b) (inr m) = at_count (rw (b.0, m.0)) m.1 (λ u. u tt) b.1 never
    go (inl b) (inl m) = at_none (rw (b.0, m.0)) (λ u. u tt) b.1 never (λ h. omega (arith, m.1)) never

-- ---- what a row that is read keeps to

pub record RowBounded (ws : List Word) (n : ℕ) : Type 0 where
  pub count : n ≡ length ws
  pub some : 1 ≤ n
  pub few : n ≤ 10000
  pub good : words_fault ws ≡ 0

pub row_bounded : (fs : List (List ℕ)) → 2 ≤ length fs → row_fault (drop 1 fs) ≡ 0 → RowBounded (drop 1 fs) (length (drop 1 fs))
unfolding row_fault
row_bounded fs h z =
    let y = first_zero (words_fault (drop 1 fs)) (many_fault (length (drop 1 fs))) z in
    record { count = refl; some = some fs h; few = ⊎_elim (λ m. m.1) (λ m. absurd (omega (arith, m.0, y.1))) (many_range (length (drop 1 fs))); good = y.0 }
  where
    some : (fs : List (List ℕ)) → 2 ≤ length fs → 1 ≤ length (drop 1 fs)
    some [] l = absurd (omega arith)
    some (f ∷ fs) l = le_of_suc-le-suc l
