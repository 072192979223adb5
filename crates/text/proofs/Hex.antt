-- Hexadecimal digits from a place on. Assumes nothing.
use Prim.Native.Nat.{ℕ, ◌+◌, ◌*◌, ◌^◌, ◌≤◌, ◌<◌}
use mathlib.Core.Path.{◌≡◌, refl, sym}
use mathlib.Core.List.{List}
use native.Mathlib.Numerals.{add-one}
use native.Mathlib.Omega.{arith}
use native.Mathlib.Nat.{pow-suc, pow-le-pow_right}
use mathlib.Core.Bool.{Bool, true, false, cond}
use lib.Dec.{lit<, ltb}
use lib.ListN.{length, get_or, drop, drop_of_length-le}
use lib.Seq.{drop-cons}
use borrow.Author.Tests.{eq-eqb, lt-ltb, le-ltb, ltb-true, ltb-false}
use Rattle.std.specs.Prelude.{Some, None}
use Rattle.text.specs.Steps.{hex_digit}
use Rattle.text.specs.Hexadecimal.{digit_of, bits_from, bits_of}

some_none : {n : ℕ} → Some n ≡ None → ⊥
some_none e = let z : ◌≡◌ {A = ℕ} 0 1 = cc in omega arith

-- a digit's number, or none
pub digit_none : (b : ℕ) → hex_digit b ≡ None → 16 ≤ digit_of b
digit_none b = go (ltb (digit_of b) 16) refl
  where
    go : (t : Bool) → ltb (digit_of b) 16 ≡ t → cond t (Some (digit_of b)) None ≡ None → 16 ≤ digit_of b
    go true q e = absurd (some_none e)
    go false q e = ltb-false (digit_of b) 16 q

pub digit_some : (b d : ℕ) → hex_digit b ≡ Some d → (d ≡ digit_of b) × (digit_of b < 16)
digit_some b d = go (ltb (digit_of b) 16) refl
  where
    go : (t : Bool) → ltb (digit_of b) 16 ≡ t → cond t (Some (digit_of b)) None ≡ Some d → (d ≡ digit_of b) × (digit_of b < 16)
    go true q e = (let f : digit_of b ≡ d = cc in sym f, ltb-true (digit_of b) 16 q)
    go false q e = absurd (some_none (sym e))

module _ (s : List ℕ) (i v : ℕ) where
  pub hex-bad : i < length s → 16 ≤ digit_of (get_or s i 0) → bits_from v (drop i s) ≡ None
  unfolding bits_from
  hex-bad h k = rw (drop-cons s i 0 h, le-ltb (digit_of (get_or s i 0)) 16 k)

  pub hex-next : i < length s → digit_of (get_or s i 0) < 16 → bits_from v (drop i s) ≡ bits_from (v * 16 + digit_of (get_or s i 0)) (drop (i + 1) s)
  unfolding bits_from
  hex-next h k = rw (drop-cons s i 0 h, lt-ltb (digit_of (get_or s i 0)) 16 k, add-one)

  pub hex-end : length s ≤ i → bits_from v (drop i s) ≡ Some v
  unfolding bits_from
  hex-end h = rw (drop_of_length-le s h)

pub hex_whole : (s : List ℕ) → length s ≡ 8 → bits_of s ≡ bits_from 0 s
unfolding bits_of
hex_whole s e = rw (eq-eqb (length s) 8 e)

-- one digit more, of at most eight
pub hex_room : (i v d : ℕ) → i < 8 → v < 16 ^ i → d < 16 → (v * 16 + d < 16 ^ (i + 1)) × (v * 16 + d < 2 ^ 32)
hex_room i v d h k m =
    let e : 16 ^ (i + 1) ≡ 16 ^ i * 16 = rw add-one (pow-suc 16 i) in
    let g : v * 16 + d < 16 ^ (i + 1) = omega (arith, e) in
    let j : i + 1 ≤ 8 = omega arith in
    let u : 16 ^ (i + 1) ≤ 16 ^ 8 = pow-le-pow_right (lit< tt) j in
    (g, omega arith)
