-- Cells of a picture whose last rows or words are set apart. Assumes nothing.
use Prim.Native.Nat.{ℕ, ◌+◌, ◌-◌, ◌≤◌, ◌<◌}
use mathlib.Core.Path.{◌≡◌, refl, sym, ap, ◌∙◌}
use mathlib.Core.List.{List, [], ◌∷◌, ◌++◌}
use mathlib.Core.Bool.{Bool, true, false}
use mathlib.Core.Logic.{◌⊎◌, inl, inr, ⊎_elim}
use native.Mathlib.Omega.{arith}
use lib.Dec.{leb}
use lib.ListN.{length, get_or, replicate, length-append, length-replicate, get_or-replicate, get_or-append}
use lib.Seq.{get_or-append-add}
use borrow.Author.Tests.{leb-true, leb-false}
use Rattle.picture_rules.specs.Picture.{Word, Picture, ElementAt, CellIn}

pub le_or_lt : (a b : ℕ) → (a ≤ b) ⊎ (b < a)
le_or_lt a b = go (leb a b) refl
  where
    go : (t : Bool) → leb a b ≡ t → (a ≤ b) ⊎ (b < a)
    go true e = inl (leb-true a b e)
    go false e = inr (leb-false a b e)

-- ---- elements of a list

module _ {A : Type 0} (d : A) where
  pub element-same : (l : List A) (i : ℕ) (x y : A) → ElementAt d l i x → ElementAt d l i y → x ≡ y
  element-same l i x y h k = sym h.2 ∙ k.2

  pub element-left : (a b : List A) (i : ℕ) (x : A) → ElementAt d a i x → ElementAt d (a ++ b) i x
  element-left a b i x h = (h.0, omega (arith, h.1, length-append a b), get_or-append a b d (i - 1) (omega (arith, h.0, h.1)) ∙ h.2)

  pub element-right : (a b : List A) (i : ℕ) (x : A) → ElementAt d b i x → ElementAt d (a ++ b) (length a + i) x
  element-right a b i x h =
      let e : length a + i - 1 ≡ length a + (i - 1) = omega (arith, h.0) in
      (omega (arith, h.0), omega (arith, h.1, length-append a b), ap (λ (k : ℕ). get_or (a ++ b) k d) e ∙ get_or-append-add a b (i - 1) d ∙ h.2)

  pub element-cases : (a b : List A) (i : ℕ) (x : A) → ElementAt d (a ++ b) i x → ElementAt d a i x ⊎ ((j : ℕ) × (i ≡ length a + j) × ElementAt d b j x)
  element-cases a b i x h = ⊎_elim left right (le_or_lt i (length a))
    where
      left : i ≤ length a → ElementAt d a i x ⊎ ((j : ℕ) × (i ≡ length a + j) × ElementAt d b j x)
      left k = inl (h.0, k, sym (get_or-append a b d (i - 1) (omega (arith, h.0))) ∙ h.2)

      right : length a < i → ElementAt d a i x ⊎ ((j : ℕ) × (i ≡ length a + j) × ElementAt d b j x)
      right k =
          let e : i - 1 ≡ length a + (i - length a - 1) = omega arith in
          inr (i - length a, omega arith, (omega arith, omega (arith, h.1, length-append a b), sym (ap (λ (n : ℕ). get_or (a ++ b) n d) e ∙ get_or-append-add a b (i - length a - 1) d) ∙ h.2))

  pub element-repeated : (k : ℕ) (w : A) (i : ℕ) → 1 ≤ i → i ≤ k → ElementAt d (replicate k w) i w
  element-repeated k w i h g = (h, omega (arith, length-replicate k w), get_or-replicate k (i - 1) w d (omega arith))

  pub element-repeats : (k : ℕ) (w : A) (i : ℕ) (x : A) → ElementAt d (replicate k w) i x → (1 ≤ i) × (i ≤ k) × (w ≡ x)
  element-repeats k w i x h =
      let g : i ≤ k = omega (arith, h.1, length-replicate k w) in
      (h.0, g, element-same (replicate k w) i w x (element-repeated k w i h.0 g) h)

  pub element-first : (x : A) (l : List A) → ElementAt d (x ∷ l) 1 x
  element-first x l = (omega arith, omega arith, refl)

-- ---- cells, where a row is set apart

module _ (p : Picture) (row : List Word) (rest : Picture) where
  pub cell-before : (r c : ℕ) (n : Word) → CellIn p r c n → CellIn (p ++ row ∷ rest) r c n
  cell-before r c n h = (h.0, element-left [] p (row ∷ rest) r h.0 h.1, h.2)

  pub cell-here : (c : ℕ) (n : Word) → ElementAt [] row c n → CellIn (p ++ row ∷ rest) (length p + 1) c n
  cell-here c n h = (row, element-right [] p (row ∷ rest) 1 row (element-first [] row rest), h)

  -- a cell stands above the row, in it or below it
  pub cell-cases : (r c : ℕ) (n : Word) → CellIn (p ++ row ∷ rest) r c n → CellIn p r c n ⊎ (((r ≡ length p + 1) × ElementAt [] row c n) ⊎ (length p + 1 < r))
  cell-cases r c n h = ⊎_elim (λ a. inl (h.0, a, h.2)) (λ b. inr (below b)) (element-cases [] p (row ∷ rest) r h.0 h.1)
    where
      below : ((j : ℕ) × (r ≡ length p + j) × ElementAt [] (row ∷ rest) j h.0) → ((r ≡ length p + 1) × ElementAt [] row c n) ⊎ (length p + 1 < r)
      below b = ⊎_elim here (λ g. inr (omega (arith, b.1))) (le_or_lt b.0 1)
        where
          here : b.0 ≤ 1 → ((r ≡ length p + 1) × ElementAt [] row c n) ⊎ (length p + 1 < r)
          here g =
              let one : b.0 ≡ 1 = omega (arith, b.2.0) in
              let e : row ≡ h.0 = sym (ap (λ (k : ℕ). get_or (row ∷ rest) (k - 1) []) one) ∙ b.2.2 in
              inl (omega (arith, b.1), rw e h.2)
