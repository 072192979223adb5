-- How a number is written: decimal digits, no leading zero (document 01, panel sheet).
use Rattle.std.specs.Prelude.{ℕ, zero, suc, ◌+◌, ◌/◌, ◌%◌, List, [], ◌∷◌, ◌++◌, cond, ltb}

-- the byte of a digit
abbrev pub digit : ℕ → ℕ
digit d = 48 + d

-- the decimal digits of n, where there are no more of them than the first number says
unfoldable pub decimal_up_to : ℕ → ℕ → List ℕ
decimal_up_to zero n = []
decimal_up_to (suc k) n = cond (ltb n 10) (digit n ∷ []) (decimal_up_to k (n / 10) ++ (digit (n % 10) ∷ []))

-- n has at most n + 1 of them
unfoldable pub decimal : ℕ → List ℕ
decimal n = decimal_up_to (suc n) n
