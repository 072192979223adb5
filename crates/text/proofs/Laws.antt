-- Laws of `before`, `split` and `same`: at a place of a list, and a whole part at a time. Assumes nothing.
use Prim.Native.Nat.{ℕ, zero, suc, ◌+◌, ◌-◌, ◌≤◌, ◌<◌, zero-le, suc-le-suc, max}
use mathlib.Core.Path.{◌≡◌, refl, sym, ap, ap₂, ◌∙◌}
use mathlib.Core.List.{List, [], ◌∷◌}
use mathlib.Core.Bool.{Bool, true, false, cond}
use native.Mathlib.Numerals.{add-one}
use native.Mathlib.Omega.{arith}
use native.Mathlib.Nat.{le_of_suc-le-suc, not-suc-le-zero, eq-or-lt_of_le}
use mathlib.Core.Logic.{⊎_elim}
use lib.Dec.{eqb, leb}
use lib.ListN.{length, get_or, take, drop, drop_of_length-le, length-drop}
use lib.Seq.{drop-cons, drop-drop, take_all}
use borrow.Author.Tests.{eq-eqb, ne_eqb, le-leb, lt-leb}
use Rattle.text.specs.Split.{before, onto, split, same, index}

module _ (b : ℕ) (s : List ℕ) (i : ℕ) where
  pub before_here : i < length s → get_or s i 0 ≡ b → before b (drop i s) ≡ 0
  unfolding before
  before_here h e = rw (drop-cons s i 0 h, eq-eqb (get_or s i 0) b e)

  pub before-next : i < length s → (get_or s i 0 ≡ b → ⊥) → before b (drop i s) ≡ suc (before b (drop (i + 1) s))
  unfolding before
  before-next h e = rw (drop-cons s i 0 h, ne_eqb (get_or s i 0) b e, add-one)

  pub before-end : length s ≤ i → before b (drop i s) ≡ 0
  unfolding before
  before-end h = rw (drop_of_length-le s h)

  pub split-here : i < length s → get_or s i 0 ≡ b → split b (drop i s) ≡ [] ∷ split b (drop (i + 1) s)
  unfolding split
  split-here h e = rw (drop-cons s i 0 h, eq-eqb (get_or s i 0) b e, add-one)

  pub split-next : i < length s → (get_or s i 0 ≡ b → ⊥) → split b (drop i s) ≡ onto (get_or s i 0) (split b (drop (i + 1) s))
  unfolding split
  split-next h e = rw (drop-cons s i 0 h, ne_eqb (get_or s i 0) b e, add-one)

  pub split-end : length s ≤ i → split b (drop i s) ≡ [] ∷ []
  unfolding split
  split-end h = rw (drop_of_length-le s h)

before_le_go : (b n : ℕ) (xs : List ℕ) (t : Bool) → before b xs ≤ length xs → cond t 0 (suc (before b xs)) ≤ suc (length xs)
before_le_go b n xs true h = zero-le
before_le_go b n xs false h = suc-le-suc h

pub before_le : (b : ℕ) (l : List ℕ) → before b l ≤ length l
unfolding before
before_le b [] = zero-le
before_le b (x ∷ xs) = before_le_go b x xs (eqb x b) (before_le b xs)

-- a whole part: what stands before the separator, and the parts after it
cut_go : (b x : ℕ) (xs : List ℕ) (t : Bool)
    → (before b xs < length xs → split b xs ≡ take (before b xs) xs ∷ split b (drop (suc (before b xs)) xs))
    → cond t 0 (suc (before b xs)) < suc (length xs)
    → cond t ([] ∷ split b xs) (onto x (split b xs))
    ≡ take (cond t 0 (suc (before b xs))) (x ∷ xs) ∷ split b (drop (suc (cond t 0 (suc (before b xs)))) (x ∷ xs))
unfolding onto
cut_go b x xs true ih h = refl
cut_go b x xs false ih h = rw (ih (le_of_suc-le-suc h))

pub split-cut : (b : ℕ) (l : List ℕ) → before b l < length l → split b l ≡ take (before b l) l ∷ split b (drop (suc (before b l)) l)
unfolding before split
split-cut b [] h = absurd (not-suc-le-zero h)
split-cut b (x ∷ xs) h = cut_go b x xs (eqb x b) (split-cut b xs) h

last_go : (b x : ℕ) (xs : List ℕ) (t : Bool)
    → (length xs ≤ before b xs → split b xs ≡ xs ∷ [])
    → suc (length xs) ≤ cond t 0 (suc (before b xs))
    → cond t ([] ∷ split b xs) (onto x (split b xs)) ≡ (x ∷ xs) ∷ []
unfolding onto
last_go b x xs true ih h = absurd (not-suc-le-zero h)
last_go b x xs false ih h = rw (ih (le_of_suc-le-suc h))

pub split-last : (b : ℕ) (l : List ℕ) → length l ≤ before b l → split b l ≡ l ∷ []
unfolding before split
split-last b [] h = refl
split-last b (x ∷ xs) h = last_go b x xs (eqb x b) (split-last b xs) h

-- the first part is what stands before the separator, whether there is one or not
first_go : (b x : ℕ) (xs : List ℕ) (t : Bool)
    → get_or (split b xs) 0 [] ≡ take (before b xs) xs
    → get_or (cond t ([] ∷ split b xs) (onto x (split b xs))) 0 [] ≡ take (cond t 0 (suc (before b xs))) (x ∷ xs)
unfolding onto
first_go b x xs true ih = refl
first_go b x xs false ih = onto-first (split b xs) ∙ ap (λ (l : List ℕ). x ∷ l) ih
  where
    onto-first : (ps : List (List ℕ)) → get_or (onto x ps) 0 [] ≡ x ∷ get_or ps 0 []
    onto-first [] = refl
    onto-first (p ∷ ps) = refl

pub split_first : (b : ℕ) (l : List ℕ) → get_or (split b l) 0 [] ≡ take (before b l) l
unfolding before split
split_first b [] = refl
split_first b (x ∷ xs) = first_go b x xs (eqb x b) (split_first b xs)

-- as many parts after one byte as before, unless it is the separator
pub length-onto : (x : ℕ) (b : ℕ) (l : List ℕ) → length (onto x (split b l)) ≡ length (split b l)
unfolding onto split
length-onto x b [] = refl
length-onto x b (y ∷ l) = go (eqb y b)
  where
    ontos : (ps : List (List ℕ)) → length (onto x (onto y ps)) ≡ length (onto y ps)
    ontos [] = refl
    ontos (p ∷ ps) = refl

    go : (t : Bool) → length (onto x (cond t ([] ∷ split b l) (onto y (split b l)))) ≡ length (cond t ([] ∷ split b l) (onto y (split b l)))
    go true = refl
    go false = ontos (split b l)

-- two texts from a place on
module _ (a b : List ℕ) (i : ℕ) where
  pub same_next : i < length a → i < length b → get_or a i 0 ≡ get_or b i 0 → same (drop i a) (drop i b) ≡ same (drop (i + 1) a) (drop (i + 1) b)
  unfolding same
  same_next h k e = rw (drop-cons a i 0 h, drop-cons b i 0 k, eq-eqb (get_or a i 0) (get_or b i 0) e, add-one)

  pub same-differ : i < length a → i < length b → (get_or a i 0 ≡ get_or b i 0 → ⊥) → same (drop i a) (drop i b) ≡ false
  unfolding same
  same-differ h k e = rw (drop-cons a i 0 h, drop-cons b i 0 k, ne_eqb (get_or a i 0) (get_or b i 0) e)

  pub same_end : length a ≤ i → length b ≤ i → same (drop i a) (drop i b) ≡ true
  unfolding same
  same_end h k = rw (drop_of_length-le a h, drop_of_length-le b k)

-- which part f is, from a place on; 0 past the end
unfoldable pub index_from : ℕ → List ℕ → List ℕ → ℕ → ℕ
index_from b s f at = cond (leb at (length s)) (index f (split b (drop at s))) 0

pub index-whole : (b : ℕ) (s f : List ℕ) → index f (split b s) ≡ index_from b s f 0
unfolding index_from
index-whole b s f = rw (le-leb 0 (length s) zero-le)

pub index-past : (b : ℕ) (s f : List ℕ) (at : ℕ) → length s < at → index_from b s f at ≡ 0
unfolding index_from
index-past b s f at h = rw (lt-leb at (length s) h)

-- the parts from a place on, where `e` is the next separator or the end
module _ (b : ℕ) (s : List ℕ) (at e : ℕ) (fits : at ≤ length s) (found : e ≡ at + before b (drop at s)) where
  pub find-le : e ≤ length s
  find-le = omega (arith, before_le b (drop at s), length-drop at s)

  width : before b (drop at s) ≡ e - at
  width = omega arith

  pub split-more : (e ≡ length s → ⊥) → split b (drop at s) ≡ take (e - at) (drop at s) ∷ split b (drop (e + 1) s)
  split-more q =
      let g : at + suc (before b (drop at s)) ≡ e + 1 = omega arith in
      split-cut b (drop at s) (omega (arith, length-drop at s, before_le b (drop at s), q))
      ∙ ap₂ (λ (n : ℕ) (l : List ℕ). take n (drop at s) ∷ split b l) width (drop-drop (suc (before b (drop at s))) at s ∙ ap (λ (k : ℕ). drop k s) g)

  pub split-no-more : e ≡ length s → split b (drop at s) ≡ take (e - at) (drop at s) ∷ []
  split-no-more q =
      let g : length (drop at s) ≤ e - at = omega (arith, length-drop at s) in
      split-last b (drop at s) (omega (arith, length-drop at s)) ∙ ap (λ (l : List ℕ). l ∷ []) (sym (take_all (e - at) (drop at s) g))

  pub part_none : (n : ℕ) → 0 < n → e ≡ length s → get_or (split b (drop at s)) n [] ≡ []
  part_none zero h q = absurd (not-suc-le-zero h)
  part_none (suc n) h q = rw (split-no-more q)

  pub part-next : (n : ℕ) → 0 < n → (e ≡ length s → ⊥) → get_or (split b (drop at s)) n [] ≡ get_or (split b (drop (e + 1) s)) (n - 1) []
  part-next zero h q = absurd (not-suc-le-zero h)
  part-next (suc n) h q =
      let m : n ≡ suc n - 1 = omega arith in
      rw (split-more q) (ap (λ (k : ℕ). get_or (split b (drop (e + 1) s)) k []) m)

  pub part-here : get_or (split b (drop at s)) 0 [] ≡ take (e - at) (drop at s)
  part-here = split_first b (drop at s) ∙ ap (λ (k : ℕ). take k (drop at s)) width

  pub index-here : (f : List ℕ) → same (take (e - at) (drop at s)) f ≡ true → index_from b s f at ≡ 0
  unfolding index_from index
  index-here f q =
      ⊎_elim
      (λ z. rw (le-leb at (length s) fits, split-no-more z, q))
      (λ z. rw (le-leb at (length s) fits, split-more (λ y. omega arith), q))
      (eq-or-lt_of_le find-le)

  pub index-next : (f : List ℕ) → same (take (e - at) (drop at s)) f ≡ false → index_from b s f at ≡ suc (index_from b s f (e + 1))
  unfolding index_from index
  index-next f q =
      ⊎_elim
      (λ z. rw (le-leb at (length s) fits, split-no-more z, q, lt-leb (e + 1) (length s) (omega arith)))
      (λ z. rw (le-leb at (length s) fits, split-more (λ y. omega arith), q, le-leb (e + 1) (length s) (omega arith)))
      (eq-or-lt_of_le find-le)

-- where no b stands from a place on, its part ends with the text
pub end_absent : (b at : ℕ) (s : List ℕ) → length s ≤ at + before b (drop at s) → max (length s) at ≡ at + before b (drop at s)
end_absent b at s h = omega (arith, h, before_le b (drop at s), length-drop at s)
