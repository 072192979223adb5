-- What `same` and `index` mean: equal texts, and the first word that a text is. Assumes nothing.
use Prim.Native.Nat.{ℕ, suc, ◌<◌, zero-le, suc-le-suc}
use mathlib.Core.Path.{◌≡◌, refl, sym, ap, ap₂, ◌∙◌}
use mathlib.Core.List.{List, [], ◌∷◌}
use mathlib.Core.Bool.{Bool, true, false, cond, false≢true}
use native.Mathlib.Nat.{le_of_suc-le-suc, not-suc-le-zero}
use lib.Dec.{eqb}
use lib.ListN.{length, get_or}
use borrow.Author.Tests.{eq-eqb, eqb-true}
use Rattle.text.specs.Split.{same, index}

pub same_equal : (a b : List ℕ) → same a b ≡ true → a ≡ b
unfolding same
same_equal [] [] e = refl
same_equal [] (y ∷ ys) e = absurd (false≢true e)
same_equal (x ∷ xs) [] e = absurd (false≢true e)
same_equal (x ∷ xs) (y ∷ ys) e = go (eqb x y) refl (same_equal xs ys) e
  where
    go : (t : Bool) → eqb x y ≡ t → (same xs ys ≡ true → xs ≡ ys) → cond t (same xs ys) false ≡ true → x ∷ xs ≡ y ∷ ys
    go true q i k = ap₂ (λ (z : ℕ) (l : List ℕ). z ∷ l) (eqb-true x y q) (i k)
    go false q i k = absurd (false≢true k)

pub same_self : (a : List ℕ) → same a a ≡ true
unfolding same
same_self [] = refl
same_self (x ∷ xs) = rw (eq-eqb x x refl) (same_self xs)

pub unequal : (a b : List ℕ) → same a b ≡ false → a ≡ b → ⊥
unequal a b e d = false≢true (sym e ∙ ap (λ (l : List ℕ). same l b) d ∙ same_self b)

-- texts of other lengths are not equal
pub same_length : (a b : List ℕ) → (length a ≡ length b → ⊥) → same a b ≡ false
same_length a b h = go (same a b) refl
  where
    go : (t : Bool) → same a b ≡ t → same a b ≡ false
    go true q = absurd (h (ap length (same_equal a b q)))
    go false q = q

-- the place found is below the number of words only where the text is that word
pub index_word : (f : List ℕ) (ws : List (List ℕ)) → index f ws < length ws → f ≡ get_or ws (index f ws) []
unfolding index
index_word f [] h = absurd (not-suc-le-zero h)
index_word f (w ∷ ws) h = go (same w f) refl (index_word f ws) h
  where
    go : (t : Bool) → same w f ≡ t → (index f ws < length ws → f ≡ get_or ws (index f ws) []) → cond t 0 (suc (index f ws)) < suc (length ws) → f ≡ get_or (w ∷ ws) (cond t 0 (suc (index f ws))) []
    go true q i k = let e = same_equal w f q in cc
    go false q i k = i (le_of_suc-le-suc k)

-- a text that is no word has the number of words
pub index-none : (f : List ℕ) (ws : List (List ℕ)) → ((k : ℕ) → k < length ws → f ≡ get_or ws k [] → ⊥) → index f ws ≡ length ws
unfolding index
index-none f [] h = refl
index-none f (w ∷ ws) h = go (same w f) refl (index-none f ws (λ k m. h (suc k) (suc-le-suc m)))
  where
    go : (t : Bool) → same w f ≡ t → index f ws ≡ length ws → cond t 0 (suc (index f ws)) ≡ suc (length ws)
    go true q e = absurd (let i = same_equal w f q in h 0 (suc-le-suc zero-le) (cc))
    go false q e = cc
