-- Which of the faults of one line is named (document 01, the table of refusals): "lowest number first at one line"; 12 comes
-- "after 6 and 7 and before 8" (document 02, request 03); 14 comes "after 13; both come before 10" (request 07).
use Rattle.std.specs.Prelude.{ℕ, suc, ◌<◌, ◌≡◌, List, [], ◌∷◌, cond, eqb, leb}

-- the numbers of the table in that order; "10 after all of these"
abbrev pub in_order : List ℕ
in_order = 1 ∷ 2 ∷ 3 ∷ 4 ∷ 5 ∷ 6 ∷ 7 ∷ 12 ∷ 8 ∷ 9 ∷ 13 ∷ 14 ∷ 10 ∷ []

-- how many numbers of a list come before n; any other number comes after them all, by itself
abbrev pub place_in : List ℕ → ℕ → ℕ
place_in [] n = n
place_in (x ∷ xs) n = cond (eqb n x) 0 (suc (place_in xs n))

-- a fault's place in that order
unfoldable pub rank_of : ℕ → ℕ
rank_of n = place_in in_order n

-- the first of two faults, where 0 is none
unfoldable pub first_of : ℕ → ℕ → ℕ
first_of a b = cond (eqb a 0) b (cond (eqb b 0) a (cond (leb (rank_of a) (rank_of b)) a b))

-- of rows with numbers, n is the number of the row that holds and comes first, 0 where no row holds
pub data FirstBy {R : Type 0} (number : R → ℕ) (holds : R → Type 0) (n : ℕ) : Type 0 where
  no_row : n ≡ 0 → ((r : R) → holds r → ⊥) → FirstBy number holds n
  first_row : (r : R) → n ≡ number r → holds r → ((q : R) → rank_of (number q) < rank_of (number r) → holds q → ⊥) → FirstBy number holds n
