-- What is written is read again as the same number, by document 01's rules of spelling. Assumes nothing.
use Prim.Native.Nat.{ℕ, zero, suc, ◌+◌, ◌-◌, ◌*◌, ◌/◌, ◌%◌, ◌^◌, ◌≤◌, ◌<◌}
use mathlib.Core.Path.{◌≡◌, refl, ◌∙◌}
use mathlib.Core.List.{List, [], ◌∷◌, ◌++◌}
use mathlib.Core.Bool.{Bool, true, false, cond}
use mathlib.Core.Logic.{inl, inr}
use native.Mathlib.Omega.{arith}
use native.Mathlib.Nat.{pow-suc}
use lib.Dec.{ltb}
use lib.IntN.{ℤ, pos, negsuc}
use lib.ListN.{length, length-append}
use borrow.Author.Tests.{ltb-true, ltb-false, le-leb, lt-leb}
use Rattle.text.specs.Whole.{whole_of, whole}
use Rattle.text.specs.Hexadecimal.{bits_of}
use Rattle.std.specs.Prelude.{Some}
use Rattle.text.specs.Spelling.{Digits, NoLeadingZero, value_from, decimal as decimal_digit, WritesNatural, Writes, HexDigit, HexDigits, hexadecimal as hexadecimal_digit, WritesBits}
use Rattle.text.proofs.Decimals.{whole-written}
use Rattle.text.proofs.Hexadecimals.{hex_written}
use Rattle.text.specs.Decimal.{decimal}
use Rattle.text.specs.Decimal.{digit as decimal_byte}
use Rattle.panel_text.specs.Numerals.{digit, whole_number, hexadecimal_digits, hexadecimal}
use Rattle.text.proofs.Digits.{decimal-one, decimal-next}

value-append : (base : ℕ) (d : ℕ → ℕ) (v : ℕ) (f : List ℕ) (b : ℕ) → value_from base d v (f ++ (b ∷ [])) ≡ value_from base d v f * base + d b
unfolding value_from
value-append base d v [] b = refl
value-append base d v (x ∷ f) b = value-append base d (v * base + d x) f b

-- ---- decimal digits

digits_append : (f : List ℕ) (d : ℕ) → d < 10 → Digits f → Digits (f ++ (decimal_byte d ∷ []))
digits_append [] d h g = (omega arith, omega arith, tt)
digits_append (x ∷ f) d h g = (g.0, g.1, digits_append f d h g.2)

-- the first digit is there, and no zero
abbrev Leads : List ℕ → Type 0
Leads [] = ⊥
Leads (b ∷ bs) = b ≡ 48 → ⊥

leads_append : (f g : List ℕ) → Leads f → Leads (f ++ g)
leads_append [] g h = absurd h
leads_append (b ∷ f) g h = h

leads_first : (f : List ℕ) → Leads f → NoLeadingZero f
leads_first [] h = h
leads_first (b ∷ []) h = tt
leads_first (b ∷ c ∷ f) h = h

record Good (n : ℕ) (f : List ℕ) : Type 0 where
  pub digits : Digits f
  pub leads : 1 ≤ n → Leads f
  pub value : value_from 10 decimal_digit 0 f ≡ n

good-one : (n : ℕ) → n < 10 → Good n (decimal_byte n ∷ [])
unfolding value_from
good-one n h =
    record {
      digits = (omega arith, omega arith, tt);
      leads = λ g e. omega arith;
      value = omega arith;
    }

good-next : (n : ℕ) (f : List ℕ) → 10 ≤ n → Good (n / 10) f → Good n (f ++ (decimal_byte (n % 10) ∷ []))
good-next n f h g =
    let v : value_from 10 decimal_digit 0 (f ++ (decimal_byte (n % 10) ∷ [])) ≡ n / 10 * 10 + (48 + n % 10 - 48) =
    rw (value-append 10 decimal_digit 0 f (decimal_byte (n % 10)), g.value) in
    record {
      digits = digits_append f (n % 10) (omega arith) g.digits;
      leads = λ k. leads_append f (decimal_byte (n % 10) ∷ []) (g.leads (omega arith));
      value = omega (arith, v);
    }

good : (k n : ℕ) → n < k → Good n (decimal n)
good zero n h = absurd (omega arith)
good (suc k) n h = go (ltb n 10) refl (good k (n / 10))
  where
    go : (t : Bool) → ltb n 10 ≡ t → (n / 10 < k → Good (n / 10) (decimal (n / 10))) → Good n (decimal n)
    go true e i = rw (decimal-one n (ltb-true n 10 e)) (good-one n (ltb-true n 10 e))
    go false e i =
        let m = ltb-false n 10 e in
        rw (decimal-next n m) (good-next n (decimal (n / 10)) m (i (omega arith)))

writes_natural : (n : ℕ) → WritesNatural (decimal n) n
writes_natural n = go (ltb n 10) refl (good (suc n) n (omega arith))
  where
    go : (t : Bool) → ltb n 10 ≡ t → Good n (decimal n) → WritesNatural (decimal n) n
    go true e g = record { digits = g.digits; first = rw (decimal-one n (ltb-true n 10 e)) tt; value = g.value }
    go false e g =
        let m = ltb-false n 10 e in
        record { digits = g.digits; first = leads_first (decimal n) (g.leads (omega arith)); value = g.value }

-- a whole number is written by the rules of spelling, and read again
pub whole_writes : (z : ℤ) → Writes (whole_number z) z
whole_writes (pos n) = writes_natural n
whole_writes (negsuc k) = (decimal (suc k), refl, writes_natural (suc k))

pub whole_back : (z : ℤ) → whole_of (whole_number z) ≡ whole z
whole_back z = whole-written (whole_number z) z (whole_writes z)

-- ---- hexadecimal digits

hex_digit : (d : ℕ) → d < 16 → HexDigit (digit d) × (hexadecimal_digit (digit d) ≡ d)
hex_digit d h = go (ltb d 10) refl
  where
    go : (t : Bool) → ltb d 10 ≡ t → HexDigit (cond t (48 + d) (87 + d)) × (hexadecimal_digit (cond t (48 + d) (87 + d)) ≡ d)
    go true e =
        let m = ltb-true d 10 e in
        (inl (omega arith, omega arith), rw (le-leb (48 + d) 57 (omega arith)) (omega arith))
    go false e =
        let m = ltb-false d 10 e in
        (inr (omega arith, omega arith), rw (lt-leb (87 + d) 57 (omega arith)) (omega arith))

hex_append : (f : List ℕ) (d : ℕ) → d < 16 → HexDigits f → HexDigits (f ++ (digit d ∷ []))
hex_append [] d h g = ((hex_digit d h).0, tt)
hex_append (x ∷ f) d h g = (g.0, hex_append f d h g.1)

hex_digits : (k n : ℕ) → HexDigits (hexadecimal_digits k n)
unfolding hexadecimal_digits
hex_digits zero n = tt
hex_digits (suc k) n = hex_append (hexadecimal_digits k (n / 16)) (n % 16) (omega arith) (hex_digits k (n / 16))

hex_length : (k n : ℕ) → length (hexadecimal_digits k n) ≡ k
unfolding hexadecimal_digits
hex_length zero n = refl
hex_length (suc k) n = omega (arith, length-append (hexadecimal_digits k (n / 16)) (digit (n % 16) ∷ []), hex_length k (n / 16))

hex_value : (k n : ℕ) → n < 16 ^ k → value_from 16 hexadecimal_digit 0 (hexadecimal_digits k n) ≡ n
unfolding hexadecimal_digits value_from
hex_value zero n h = omega arith
hex_value (suc k) n h =
    let g : n / 16 < 16 ^ k = omega (arith, pow-suc 16 k) in
    value-append 16 hexadecimal_digit 0 (hexadecimal_digits k (n / 16)) (digit (n % 16))
    ∙ rw (hex_value k (n / 16) g, (hex_digit (n % 16) (omega arith)).1) (omega arith)

-- 32 bits are written by the rule of spelling, and read again
pub bits_write : (n : ℕ) → n < 2 ^ 32 → WritesBits (hexadecimal n) n
bits_write n h = record { eight = hex_length 8 n; digits = hex_digits 8 n; value = hex_value 8 n (omega arith) }

pub bits_back : (n : ℕ) → n < 2 ^ 32 → bits_of (hexadecimal n) ≡ Some n
bits_back n h = hex_written (hexadecimal n) n (bits_write n h)
