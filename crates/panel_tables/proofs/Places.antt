-- The place of a name from an area on, and whether there is one. Assumes nothing.
use Prim.Native.Nat.{ℕ, zero, suc, ◌+◌, ◌≤◌, ◌<◌, min}
use mathlib.Core.Path.{◌≡◌, refl, sym, ap, ◌∙◌}
use mathlib.Core.List.{List, [], ◌∷◌}
use mathlib.Core.Bool.{Bool, true, false, cond, ◌||◌}
use native.Mathlib.Omega.{arith}
use Rattle.text.specs.Split.{same}
use Rattle.panel_tables.specs.Areas.{area_name, has_area_in}
use lib.Dec.{ltb}
use borrow.Author.Tests.{lt-ltb, le-ltb, ltb-true, ltb-false}
use Rattle.std.specs.Prelude.{Some, None, nat_eq}
use Rattle.std.specs.Option.{is_some}
use Rattle.std.specs.List.{find, list_any, range_with_len}
use Rattle.std.specs.Cmp.Lexicographic.{pointwise}
use Rattle.text.proofs.Library.{same_pointwise}
use Rattle.panel_tables.specs.Places.{seek_in, area_index_in, area_place_in}
use Rattle.panel_tables.proofs.Among.{named_any}

-- the search of a range for an area of that name
module _ (w s n : List ℕ) where
  pub seek_find : (k left : ℕ) → find (λ i. pointwise nat_eq (area_name w s i) n) (range_with_len k left) ≡ cond (ltb (seek_in w s n k left) (k + left)) (Some (seek_in w s n k left)) None
  unfolding seek_in
  seek_find k zero = rw (le-ltb k (k + 0) (omega arith))
  seek_find k (suc left) =
      rw (same_pointwise (area_name w s k) n, one_more) (go (same (area_name w s k) n) (seek_find (suc k) left))
    where
      one_more : k + 1 ≡ suc k
      one_more = omega arith

      go : (t : Bool)
          → find (λ i. pointwise nat_eq (area_name w s i) n) (range_with_len (suc k) left) ≡ cond (ltb (seek_in w s n (suc k) left) (suc k + left)) (Some (seek_in w s n (suc k) left)) None
          → cond t (Some k) (find (λ i. pointwise nat_eq (area_name w s i) n) (range_with_len (suc k) left))
          ≡ cond (ltb (cond t k (seek_in w s n (suc k) left)) (k + suc left)) (Some (cond t k (seek_in w s n (suc k) left))) None
      go true e = rw (lt-ltb k (k + suc left) (omega arith))
      go false e = let f : k + suc left ≡ suc k + left = omega arith in rw f e

-- ---- the place of a name, or none

some_none : {n : ℕ} → Some n ≡ None → ⊥
some_none e = let z : ◌≡◌ {A = ℕ} 0 1 = cc in omega arith

module _ (areas : ℕ) (w s n : List ℕ) where
  pub place_found : find (λ i. pointwise nat_eq (area_name w s i) n) (range_with_len 0 (min areas 64)) ≡ area_place_in areas w s n
  place_found = seek_find w s n 0 (min areas 64) ∙ (let e : 0 + min areas 64 ≡ min areas 64 = omega arith in rw e)

  pub known_place : (k : ℕ) → area_place_in areas w s n ≡ Some k → (k ≡ area_index_in areas w s n) × (area_index_in areas w s n < min areas 64)
  known_place k = go (ltb (area_index_in areas w s n) (min areas 64)) refl
    where
      go : (t : Bool) → ltb (area_index_in areas w s n) (min areas 64) ≡ t → cond t (Some (area_index_in areas w s n)) None ≡ Some k
          → (k ≡ area_index_in areas w s n) × (area_index_in areas w s n < min areas 64)
      go true q e = (let f : area_index_in areas w s n ≡ k = cc in sym f, ltb-true (area_index_in areas w s n) (min areas 64) q)
      go false q e = absurd (some_none (sym e))

  pub no_place : area_place_in areas w s n ≡ None → min areas 64 ≤ area_index_in areas w s n
  no_place = go (ltb (area_index_in areas w s n) (min areas 64)) refl
    where
      go : (t : Bool) → ltb (area_index_in areas w s n) (min areas 64) ≡ t → cond t (Some (area_index_in areas w s n)) None ≡ None → min areas 64 ≤ area_index_in areas w s n
      go true q e = absurd (some_none e)
      go false q e = ltb-false (area_index_in areas w s n) (min areas 64) q

-- ---- whether there is one

any_found : (p q : ℕ → Bool) → ((i : ℕ) → p i ≡ q i) → (l : List ℕ) → list_any p l ≡ is_some (find q l)
any_found p q e [] = refl
any_found p q e (x ∷ xs) = rw (e x) (go (q x) (any_found p q e xs))
  where
    go : (t : Bool) → list_any p xs ≡ is_some (find q xs) → (t || list_any p xs) ≡ is_some (cond t (Some x) (find q xs))
    go true f = refl
    go false f = f

pub has_place : (areas : ℕ) (w s n : List ℕ) → has_area_in areas w s n ≡ is_some (area_place_in areas w s n)
has_place areas w s n =
    named_any w s n (min areas 64)
    ∙ any_found (λ i. same (area_name w s i) n) (λ i. pointwise nat_eq (area_name w s i) n) (λ i. sym (same_pointwise (area_name w s i) n)) (range_with_len 0 (min areas 64))
    ∙ ap is_some (place_found areas w s n)
