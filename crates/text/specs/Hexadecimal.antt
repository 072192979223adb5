-- Eight lower-case hexadecimal digits (document 01, panel sheet).
use Rattle.std.specs.Prelude.{ℕ, ◌+◌, ◌-◌, ◌*◌, List, [], ◌∷◌, cond, eqb, leb, ltb, length, Option, Some, None}

-- a digit's number, 16 where the byte is none of 0 to 9 and a to f
abbrev pub digit_of : ℕ → ℕ
digit_of b = cond (ltb b 48) 16 (cond (leb b 57) (b - 48) (cond (ltb b 97) 16 (cond (leb b 102) (b - 87) 16)))

-- the bits that digits write after v; none where a byte is no digit
unfoldable pub bits_from : ℕ → List ℕ → Option ℕ
bits_from v [] = Some v
bits_from v (b ∷ bs) = cond (ltb (digit_of b) 16) (bits_from (v * 16 + digit_of b) bs) None

-- the bits that a field writes
unfoldable pub bits_of : List ℕ → Option ℕ
bits_of f = cond (eqb (length f) 8) (bits_from 0 f) None
