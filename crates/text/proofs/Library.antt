-- The library's words for what a text holds: the first place, the parts, equality. Assumes nothing.
use Rattle.std.proofs.Common.{ℕ, suc, ◌≡◌, ◌+◌, List, [], ◌∷◌, Bool, true, false, cond, eqb, refl, sym, ◌&&◌, nat_lt, one-add, ap, ◌∙◌, not, length, length-drop, take, drop, Bor, Option, Some, None, MatchOption, arith}
use Rattle.std.specs.List.{position, position_or_len, prefix_len, slice_split, onto_first}
use Rattle.std.specs.Prelude.{unwrap_or, nat_eq}
use Rattle.std.specs.Option.{option_map}
use Rattle.std.specs.Cmp.Lexicographic.{pointwise}
use Rattle.std.proofs.lemmas.List.Folds.{length-prefix_len}
use Rattle.std.proofs.lemmas.List.Recursion.{is_position_or_len}
use borrow.Author.Tests.{ltb-true, ltb-false}
use Rattle.text.specs.Split.{before, onto, split, same, index, Absent, FirstAt}

-- ---- the first place

before_first : (b : ℕ) (s : List ℕ) → before b s ≡ position_or_len (λ x. eqb x b) s
unfolding before
before_first b s = is_position_or_len (before b) (λ x. eqb x b) refl (λ x xs. rw one-add refl) s

-- where the first b stands from a place on, if any
module _ (b at : ℕ) (s : List ℕ) where
  abbrev first_in : ℕ
  first_in = position_or_len (λ x. eqb x b) (drop at s)

  first_when : (t : Bool) → nat_lt first_in (length (drop at s)) ≡ t → MatchOption (cond t (Some first_in) None) (Absent b at s) (λ k. FirstAt b at s (at + k))
  first_when true q =
      (ap (λ (n : ℕ). at + n) (sym (before_first b (drop at s))), omega (arith, ltb-true first_in (length (drop at s)) q, length-drop at s))
  first_when false q = omega (arith, before_first b (drop at s), ltb-false first_in (length (drop at s)) q, length-drop at s)

  pub first_place : (rest : List ℕ) (r : Option ℕ) → rest ≡ drop at s → r ≡ position (λ x. eqb x b) rest → MatchOption r (Absent b at s) (λ k. FirstAt b at s (at + k))
  first_place rest r e q = rw (q, e) (first_when (nat_lt first_in (length (drop at s))) refl)

-- ---- the parts

onto_same : (x : ℕ) (ps : List (List ℕ)) → onto x ps ≡ onto_first x ps
unfolding onto
onto_same x [] = refl
onto_same x (p ∷ ps) = refl

pub split_parts : (b : ℕ) (s : List ℕ) → slice_split (λ x. eqb x b) s ≡ split b s
unfolding split
split_parts b [] = refl
split_parts b (x ∷ xs) = rw (split_parts b xs, onto_same x (split b xs))

-- the text behind a reference, or another
pub text_or : (o : Option (Bor (List ℕ))) (d : Bor (List ℕ)) → (unwrap_or o d).now ≡ unwrap_or (option_map (λ (x : Bor (List ℕ)). x.now) o) d.now
text_or None d = refl
text_or (Some x) d = refl

-- ---- equality

both : (t u : Bool) → t && u ≡ cond t u false
both true u = refl
both false u = refl

pub same_pointwise : (a b : List ℕ) → pointwise nat_eq a b ≡ same a b
unfolding same
same_pointwise [] [] = refl
same_pointwise [] (y ∷ ys) = refl
same_pointwise (x ∷ xs) [] = refl
same_pointwise (x ∷ xs) (y ∷ ys) = rw (same_pointwise xs ys) (both (eqb x y) (same xs ys))

index_step : (f x : List ℕ) (n : ℕ) → cond (same x f) 0 (suc n) ≡ cond (pointwise nat_eq x f) 0 (1 + n)
index_step f x n = rw (same_pointwise x f, one-add) refl

-- the place of a text among the parts
index_place : (f : List ℕ) (ps : List (List ℕ)) → index f ps ≡ position_or_len (λ p. pointwise nat_eq p f) ps
unfolding index
index_place f ps = is_position_or_len (index f) (λ p. pointwise nat_eq p f) refl (λ x xs. index_step f x (index f xs)) ps

-- as many parts as a search passes before it
pub parts_passed : (f : List ℕ) (ps : List (List ℕ)) → length (take (prefix_len (λ p. not (pointwise nat_eq p f)) ps) ps) ≡ index f ps
parts_passed f ps = length-prefix_len (λ p. not (pointwise nat_eq p f)) ps ∙ sym (index_place f ps)
