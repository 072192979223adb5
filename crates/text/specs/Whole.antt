-- How a sheet writes a whole number (document 01, panel sheet): decimal digits, `-` before a negative one, no leading zero, no `-0`.
use Rattle.std.specs.Prelude.{ℕ, zero, suc, ◌+◌, ◌-◌, ◌*◌, List, [], ◌∷◌, cond, eqb, ltb, ℤ, pos, negsuc, Result, Ok, Err}
use Rattle.text.specs.declared.NumberFault.{NumberFault}
use Rattle.text.specs.declared.NumberFault.TheVariants.{Unread, Outside}

-- what digits write: nothing, or a number
pub data Natural : Type 0 where
  bad : Natural
  number : ℕ → Natural

-- what a field writes: no whole number, or one
pub data Written : Type 0 where
  none : Written
  whole : ℤ → Written

-- the number that decimal digits write after v
unfoldable pub digits_of : ℕ → List ℕ → Natural
digits_of v [] = number v
digits_of v (b ∷ bs) = cond (ltb b 48) bad (cond (ltb 57 b) bad (digits_of (v * 10 + (b - 48)) bs))

-- at least one digit, and 0 first only by itself
unfoldable pub natural_of : List ℕ → Natural
natural_of [] = bad
natural_of (b ∷ []) = digits_of 0 (b ∷ [])
natural_of (b ∷ c ∷ bs) = cond (eqb b 48) bad (digits_of 0 (b ∷ c ∷ bs))

unfoldable pub non_negative : Natural → Written
non_negative bad = none
non_negative (number n) = whole (pos n)

-- there is no `-0`; `negsuc k` is -(k + 1)
unfoldable pub negative : Natural → Written
negative bad = none
negative (number zero) = none
negative (number (suc k)) = whole (negsuc k)

unfoldable pub whole_of : List ℕ → Written
whole_of [] = none
whole_of (b ∷ bs) = cond (eqb b 45) (negative (natural_of bs)) (non_negative (natural_of (b ∷ bs)))

-- a whole number from least to most, neither below zero
unfoldable pub count_in : ℕ → ℕ → Written → Result ℕ NumberFault
count_in least most none = Err Unread
count_in least most (whole (pos n)) = cond (ltb n least) (Err Outside) (cond (ltb most n) (Err Outside) (Ok n))
count_in least most (whole (negsuc k)) = Err Outside

-- a whole number from -32,768 to 32,767
unfoldable pub index_in : Written → Result ℤ NumberFault
index_in none = Err Unread
index_in (whole (pos n)) = cond (ltb 32767 n) (Err Outside) (Ok (pos n))
index_in (whole (negsuc k)) = cond (ltb 32767 k) (Err Outside) (Ok (negsuc k))
