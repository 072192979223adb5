-- How numbers are written (document 01, panel sheet).
use Rattle.std.specs.Prelude.{ℕ, zero, suc, ◌+◌, ◌/◌, ◌%◌, List, [], ◌∷◌, ◌++◌, cond, ltb, ℤ, pos, negsuc}
use Rattle.text.specs.Decimal.{decimal}

-- the byte of a digit below 16: `0` to `9`, then `a` to `f`
abbrev pub digit : ℕ → ℕ
digit d = cond (ltb d 10) (48 + d) (87 + d)

-- "`-` before a negative one"; `negsuc k` is -(k + 1)
abbrev pub whole_number : ℤ → List ℕ
whole_number (pos n) = decimal n
whole_number (negsuc k) = 45 ∷ decimal (suc k)

-- the last k hexadecimal digits of n, the highest first
unfoldable pub hexadecimal_digits : ℕ → ℕ → List ℕ
hexadecimal_digits zero n = []
hexadecimal_digits (suc k) n = hexadecimal_digits k (n / 16) ++ (digit (n % 16) ∷ [])

-- "eight lower-case hexadecimal digits", of 32 bits
abbrev pub hexadecimal : ℕ → List ℕ
hexadecimal n = hexadecimal_digits 8 n
