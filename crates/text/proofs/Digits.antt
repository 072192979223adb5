-- The decimal digits of a number: one more, and how many there are. Assumes nothing.
use Prim.Native.Nat.{ℕ, zero, suc, ◌+◌, ◌/◌, ◌%◌, ◌^◌, ◌≤◌, ◌<◌}
use mathlib.Core.Path.{◌≡◌, refl, sym, ap, ◌∙◌}
use mathlib.Core.List.{List, [], ◌∷◌, ◌++◌}
use mathlib.Core.Bool.{Bool, true, false, cond}
use native.Mathlib.Omega.{arith}
use native.Mathlib.Nat.{pow-suc}
use lib.Dec.{ltb}
use lib.ListN.{length, length-append}
use borrow.Author.Tests.{ltb-true, ltb-false, lt-ltb, le-ltb}
use Rattle.std.specs.Fmt as Std
use Rattle.std.proofs.lemmas.Fmt.{decimal_by_steps}
use Rattle.text.specs.Decimal.{digit, decimal_up_to, decimal}

-- as many digits as one likes
enough : (j k n : ℕ) → n < j → n < k → decimal_up_to j n ≡ decimal_up_to k n
unfolding decimal_up_to
enough zero k n h g = absurd (omega arith)
enough (suc j) zero n h g = absurd (omega arith)
enough (suc j) (suc k) n h g = go (ltb n 10) refl (enough j k (n / 10))
  where
    go : (t : Bool) → ltb n 10 ≡ t → (n / 10 < j → n / 10 < k → decimal_up_to j (n / 10) ≡ decimal_up_to k (n / 10))
        → cond t (digit n ∷ []) (decimal_up_to j (n / 10) ++ (digit (n % 10) ∷ [])) ≡ cond t (digit n ∷ []) (decimal_up_to k (n / 10) ++ (digit (n % 10) ∷ []))
    go true e i = refl
    go false e i =
        let m : 10 ≤ n = ltb-false n 10 e in
        ap (λ (l : List ℕ). l ++ (digit (n % 10) ∷ [])) (i (omega arith) (omega arith))

pub decimal-one : (n : ℕ) → n < 10 → decimal n ≡ digit n ∷ []
unfolding decimal decimal_up_to
decimal-one n h = rw (lt-ltb n 10 h)

pub decimal-next : (n : ℕ) → 10 ≤ n → decimal n ≡ decimal (n / 10) ++ (digit (n % 10) ∷ [])
unfolding decimal decimal_up_to
decimal-next n h = rw (le-ltb n 10 h, enough n (suc (n / 10)) (n / 10) (omega arith) (omega arith))

-- how many there are
pub one-digit : (n : ℕ) → n < 10 → length (decimal n) ≡ 1
one-digit n h = ap length (decimal-one n h)

pub one_digit_more : (n : ℕ) → 10 ≤ n → length (decimal n) ≡ length (decimal (n / 10)) + 1
one_digit_more n h = rw (decimal-next n h) (omega (arith, length-append (decimal (n / 10)) (digit (n % 10) ∷ [])))

some-digit : (n : ℕ) → 1 ≤ length (decimal n)
some-digit n = go (ltb n 10) refl
  where
    go : (t : Bool) → ltb n 10 ≡ t → 1 ≤ length (decimal n)
    go true e = omega (arith, one-digit n (ltb-true n 10 e))
    go false e = omega (arith, one_digit_more n (ltb-false n 10 e))

pub few-digits : (k n : ℕ) → n < 10 ^ suc k → length (decimal n) ≤ suc k
few-digits zero n h = omega (arith, one-digit n h)
few-digits (suc k) n h = go (ltb n 10) refl (few-digits k (n / 10))
  where
    go : (t : Bool) → ltb n 10 ≡ t → (n / 10 < 10 ^ suc k → length (decimal (n / 10)) ≤ suc k) → length (decimal n) ≤ suc (suc k)
    go true e i = omega (arith, one-digit n (ltb-true n 10 e))
    go false e i =
        let h10 : n / 10 < 10 ^ suc k = omega (arith, pow-suc 10 (suc k)) in
        omega (arith, one_digit_more n (ltb-false n 10 e), i h10)

pub digits-few : (n : ℕ) → n < 2 ^ 64 → length (decimal n) ≤ 20
digits-few n h = few-digits 19 n (omega arith)

-- they are the digits that std writes
pub decimal_same : (n : ℕ) → n < 2 ^ 64 → Std.decimal n ≡ decimal n
decimal_same n h =
    decimal_by_steps (λ m ds. ds ≡ decimal m) (λ m b. sym (decimal-one m b))
    (λ m ds b e. ap (λ (l : List ℕ). l ++ ((48 + m % 10) ∷ [])) e ∙ sym (decimal-next m b)) n h
