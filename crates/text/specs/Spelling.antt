-- The rules of spelling as predicates, in document 01's words (panel sheet). The readers are proved to follow them.
use Rattle.std.specs.Prelude.{ℕ, suc, ◌+◌, ◌-◌, ◌*◌, ◌≤◌, ◌≡◌, List, [], ◌∷◌, ◌⊎◌, cond, leb, length, ℤ, pos, negsuc}

-- "decimal digits"
abbrev pub Digits : List ℕ → Type 0
Digits [] = Unit {0}
Digits (b ∷ bs) = (48 ≤ b) × (b ≤ 57) × Digits bs

-- "no leading zero", and at least one digit
abbrev pub NoLeadingZero : List ℕ → Type 0
NoLeadingZero [] = ⊥
NoLeadingZero (b ∷ []) = Unit {0}
NoLeadingZero (b ∷ c ∷ bs) = b ≡ 48 → ⊥

-- the number that digits of a base write after v, each digit's number by d
unfoldable pub value_from : ℕ → (ℕ → ℕ) → ℕ → List ℕ → ℕ
value_from base d v [] = v
value_from base d v (b ∷ bs) = value_from base d (v * base + d b) bs

abbrev pub decimal : ℕ → ℕ
decimal b = b - 48

pub record WritesNatural (f : List ℕ) (n : ℕ) : Type 0 where
  pub digits : Digits f
  pub first : NoLeadingZero f
  pub value : value_from 10 decimal 0 f ≡ n

-- a field writes a whole number: "`-` before a negative one", and no `-0`, since `negsuc k` is -(k + 1)
abbrev pub Writes : List ℕ → ℤ → Type 0
Writes f (pos n) = WritesNatural f n
Writes f (negsuc k) = (ds : List ℕ) × (f ≡ 45 ∷ ds) × WritesNatural ds (suc k)

-- a hexadecimal digit: 0 to 9, or a to f in lower case
abbrev pub HexDigit : ℕ → Type 0
HexDigit b = ((48 ≤ b) × (b ≤ 57)) ⊎ ((97 ≤ b) × (b ≤ 102))

abbrev pub HexDigits : List ℕ → Type 0
HexDigits [] = Unit {0}
HexDigits (b ∷ bs) = HexDigit b × HexDigits bs

abbrev pub hexadecimal : ℕ → ℕ
hexadecimal b = cond (leb b 57) (b - 48) (b - 87)

-- "sizes are eight lower-case hexadecimal digits of the f32 bits"
pub record WritesBits (f : List ℕ) (n : ℕ) : Type 0 where
  pub eight : length f ≡ 8
  pub digits : HexDigits f
  pub value : value_from 16 hexadecimal 0 f ≡ n
