-- Laws of things that have names, in words and bytes. Assumes nothing.
use Prim.Native.Nat.{ℕ, zero, suc, ◌+◌, ◌≤◌, ◌<◌}
use mathlib.Core.Path.{◌≡◌, refl, sym, ap, ◌∙◌}
use mathlib.Core.List.{List, [], ◌∷◌, ◌++◌, append_assoc, append-nil, map}
use native.Mathlib.Omega.{arith}
use lib.ListN.{length, get_or, take, drop, length-append}
use lib.Seq.{take_at, drop_at, drop-drop, drop-append-add}
use Rattle.axis_tables.specs.Runs.{bytes_of, words_from, part_of}
pub use Rattle.axis_tables.specs.Runs.{All}

module _ {A : Type 0} (word : A → ℕ → ℕ) (name : A → List ℕ) where
  pub bytes-more : (xs : List A) (x : A) → bytes_of name (xs ++ (x ∷ [])) ≡ bytes_of name xs ++ name x
  bytes-more [] x = append-nil (name x)
  bytes-more (y ∷ xs) x = ap (λ (r : List ℕ). name y ++ r) (bytes-more xs x) ∙ sym (append_assoc (name y) (bytes_of name xs) (name x))

  pub length-words : (at : ℕ) (xs : List A) → length (words_from word name at xs) ≡ length xs
  length-words at [] = refl
  length-words at (x ∷ xs) = ap suc (length-words (at + length (name x)) xs)

  pub words_more : (at : ℕ) (xs : List A) (x : A) (p : ℕ) → p ≡ at + length (bytes_of name xs)
      → words_from word name at (xs ++ (x ∷ [])) ≡ words_from word name at xs ++ (word x p ∷ [])
  words_more at [] x p e =
      let z : at ≡ p = omega arith in
      ap (λ (k : ℕ). word x k ∷ []) z
  words_more at (y ∷ xs) x p e =
      ap (λ (r : List ℕ). word y at ∷ r)
      (words_more (at + length (name y)) xs x p (omega (arith, length-append (name y) (bytes_of name xs))))

  -- ---- what reads back: the word at a place, and its name's bytes
  pub word_at : (at : ℕ) (xs : List A) (k : ℕ) (d : A) → k < length xs
      → get_or (words_from word name at xs) k 0 ≡ word (get_or xs k d) (at + length (bytes_of name (take k xs)))
  word_at at [] k d h = absurd (omega arith)
  word_at at (x ∷ xs) zero d h =
      let e : at ≡ at + 0 = omega arith in
      ap (word x) e
  word_at at (x ∷ xs) (suc k) d h =
      let e : at + length (name x) + length (bytes_of name (take k xs)) ≡ at + length (name x ++ bytes_of name (take k xs)) = omega (arith, length-append (name x) (bytes_of name (take k xs))) in
      word_at (at + length (name x)) xs k d (omega arith)
      ∙ ap (word (get_or xs k d)) e

  pub name-part : (xs : List A) (k : ℕ) (d : A) (t : List ℕ) → k < length xs
      → part_of (bytes_of name xs ++ t) (length (bytes_of name (take k xs))) (length (name (get_or xs k d))) ≡ name (get_or xs k d)
  name-part [] k d t h = absurd (omega arith)
  name-part (x ∷ xs) zero d t h = ap (take (length (name x))) (append_assoc (name x) (bytes_of name xs) t) ∙ take_at (name x) (bytes_of name xs ++ t) (length (name x)) refl
  name-part (x ∷ xs) (suc k) d t h =
      ap (λ (p : ℕ). take (length (name (get_or xs k d))) (drop p ((name x ++ bytes_of name xs) ++ t))) (length-append (name x) (bytes_of name (take k xs)))
      ∙ ap (λ (r : List ℕ). take (length (name (get_or xs k d))) (drop (length (name x) + length (bytes_of name (take k xs))) r)) (append_assoc (name x) (bytes_of name xs) t)
      ∙ ap (take (length (name (get_or xs k d)))) (drop-append-add (name x) (bytes_of name xs ++ t) (length (bytes_of name (take k xs))))
      ∙ name-part xs k d t (omega arith)

  pub name-room : (xs : List A) (k : ℕ) (d : A) → k < length xs → length (bytes_of name (take k xs)) + length (name (get_or xs k d)) ≤ length (bytes_of name xs)
  name-room [] k d h = absurd (omega arith)
  name-room (x ∷ xs) zero d h = omega (arith, length-append (name x) (bytes_of name xs))
  name-room (x ∷ xs) (suc k) d h = omega (arith, name-room xs k d (omega arith), length-append (name x) (bytes_of name xs), length-append (name x) (bytes_of name (take k xs)))

pub all_append : {A : Type 0} (P : A → Type 0) (xs ys : List A) → All P xs → All P ys → All P (xs ++ ys)
all_append P [] ys a b = b
all_append P (x ∷ xs) ys a b = (a.0, all_append P xs ys a.1 b)

pub all_left : {A : Type 0} (P : A → Type 0) (xs ys : List A) → All P (xs ++ ys) → All P xs
all_left P [] ys a = tt
all_left P (x ∷ xs) ys a = (a.0, all_left P xs ys a.1)

pub all_right : {A : Type 0} (P : A → Type 0) (xs ys : List A) → All P (xs ++ ys) → All P ys
all_right P [] ys a = a
all_right P (x ∷ xs) ys a = all_right P xs ys a.1

-- words that each read back, with their bytes, read back in a row
module _ {A : Type 0} (word : A → ℕ → ℕ) (name : A → List ℕ) (read : ℕ → A) (Good : A → Type 0) (store : List ℕ)
    (back : (x : A) (at : ℕ) → Good x → at < 65536 → part_of store at (length (name x)) ≡ name x → read (word x at) ≡ x) where
  pub run-back : (xs : List A) (at : ℕ) (rest : List ℕ) → All Good xs → at + length (bytes_of name xs) < 65536 → drop at store ≡ bytes_of name xs ++ rest
      → map read (words_from word name at xs) ≡ xs
  run-back [] at rest g h e = refl
  run-back (x ∷ xs) at rest g h e =
      let n : ℕ = length (name x) in
      let k : at + n + length (bytes_of name xs) < 65536 = omega (arith, length-append (name x) (bytes_of name xs)) in
      let d : drop at store ≡ name x ++ (bytes_of name xs ++ rest) = e ∙ append_assoc (name x) (bytes_of name xs) rest in
      let p : part_of store at n ≡ name x = ap (take n) d ∙ take_at (name x) (bytes_of name xs ++ rest) n refl in
      let q : drop (at + n) store ≡ bytes_of name xs ++ rest = sym (drop-drop n at store) ∙ ap (drop n) d ∙ drop_at (name x) (bytes_of name xs ++ rest) n refl in
      ap (λ (y : A). y ∷ map read (words_from word name (at + n) xs)) (back x at g.0 (omega arith) p)
      ∙ ap (λ (l : List A). x ∷ l) (run-back xs (at + n) rest g.1 k q)
