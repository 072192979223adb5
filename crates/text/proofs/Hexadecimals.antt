-- The reader of bits follows the rule of spelling: eight lower-case hexadecimal digits. Assumes nothing.
use Prim.Native.Nat.{ℕ, ◌+◌, ◌-◌, ◌*◌, ◌<◌}
use mathlib.Core.Path.{◌≡◌, refl, sym, ap, ◌∙◌}
use mathlib.Core.List.{List, [], ◌∷◌}
use mathlib.Core.Bool.{Bool, true, false, cond}
use mathlib.Core.Logic.{inl, inr}
use native.Mathlib.Omega.{arith}
use lib.Dec.{eqb, leb, ltb}
use lib.ListN.{length}
use borrow.Author.Tests.{eqb-true, leb-true, ltb-true, ltb-false, eq-eqb, le-ltb, lt-ltb, le-leb, lt-leb}
use Rattle.std.specs.Prelude.{Some, None}
use Rattle.text.specs.Hexadecimal.{digit_of, bits_from, bits_of}
use Rattle.text.specs.Spelling.{value_from, HexDigit, HexDigits, hexadecimal, WritesBits}

no_bits : (n : ℕ) → None ≡ Some n → ⊥
no_bits n e = let z : ◌≡◌ {A = ℕ} 0 1 = cc in omega arith

-- one digit
digit-written : (b : ℕ) → HexDigit b → (digit_of b ≡ hexadecimal b) × (digit_of b < 16)
digit-written b (inl h) =
    let p = le-ltb b 48 h.0 in
    let q = le-leb b 57 h.1 in
    (rw (p, q), rw (p, q) (omega arith))
digit-written b (inr h) =
    let p = le-ltb b 48 (omega arith) in
    let q = lt-leb b 57 (omega arith) in
    let r = le-ltb b 97 h.0 in
    let s = le-leb b 102 h.1 in
    (rw (p, q, r, s), rw (p, q, r, s) (omega arith))

digit_read : (b : ℕ) → digit_of b < 16 → HexDigit b
digit_read b = go (ltb b 48) (leb b 57) (ltb b 97) (leb b 102) refl refl refl refl
  where
    go : (t u v w : Bool) → ltb b 48 ≡ t → leb b 57 ≡ u → ltb b 97 ≡ v → leb b 102 ≡ w
        → cond t 16 (cond u (b - 48) (cond v 16 (cond w (b - 87) 16))) < 16 → HexDigit b
    go true u v w p q r s h = absurd (omega arith)
    go false true v w p q r s h = inl (ltb-false b 48 p, leb-true b 57 q)
    go false false true w p q r s h = absurd (omega arith)
    go false false false true p q r s h = inr (ltb-false b 97 r, leb-true b 102 s)
    go false false false false p q r s h = absurd (omega arith)

-- digits after v
bits_read : (l : List ℕ) (v n : ℕ) → bits_from v l ≡ Some n → HexDigits l × (value_from 16 hexadecimal v l ≡ n)
unfolding bits_from value_from
bits_read [] v n e = (tt, cc)
bits_read (b ∷ bs) v n e = go (ltb (digit_of b) 16) refl (bits_read bs (v * 16 + digit_of b) n) e
  where
    go : (t : Bool) → ltb (digit_of b) 16 ≡ t
        → (bits_from (v * 16 + digit_of b) bs ≡ Some n → HexDigits bs × (value_from 16 hexadecimal (v * 16 + digit_of b) bs ≡ n))
        → cond t (bits_from (v * 16 + digit_of b) bs) None ≡ Some n
        → HexDigits (b ∷ bs) × (value_from 16 hexadecimal (v * 16 + hexadecimal b) bs ≡ n)
    go true q i k =
        let r = i k in
        let d = digit_read b (ltb-true (digit_of b) 16 q) in
        ((d, r.0), ap (λ (x : ℕ). value_from 16 hexadecimal (v * 16 + x) bs) (sym (digit-written b d).0) ∙ r.1)
    go false q i k = absurd (no_bits n k)

bits_written : (l : List ℕ) (v : ℕ) → HexDigits l → bits_from v l ≡ Some (value_from 16 hexadecimal v l)
unfolding bits_from value_from
bits_written [] v d = refl
bits_written (b ∷ bs) v d =
    let e = digit-written b d.0 in
    rw (lt-ltb (digit_of b) 16 e.1, e.0) (bits_written bs (v * 16 + hexadecimal b) d.1)

pub hex_read : (f : List ℕ) (n : ℕ) → bits_of f ≡ Some n → WritesBits f n
unfolding bits_of
hex_read f n e = go (eqb (length f) 8) refl e
  where
    go : (t : Bool) → eqb (length f) 8 ≡ t → cond t (bits_from 0 f) None ≡ Some n → WritesBits f n
    go true q k = let r = bits_read f 0 n k in record { eight = eqb-true (length f) 8 q; digits = r.0; value = r.1 }
    go false q k = absurd (no_bits n k)

pub hex_written : (f : List ℕ) (n : ℕ) → WritesBits f n → bits_of f ≡ Some n
unfolding bits_of
hex_written f n w = rw (eq-eqb (length f) 8 w.eight) (bits_written f 0 w.digits ∙ ap Some w.value)
