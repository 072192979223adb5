-- One past the last open track, and the gutter's rule. Assumes nothing.
use Prim.Native.Nat.{ℕ, zero, suc, ◌-◌, ◌≤◌, ◌<◌}
use native.Mathlib.Omega.{arith}
use mathlib.Core.Path.{◌≡◌, refl, ap₂}
use mathlib.Core.Logic.{◌⊎◌, inl, inr}
use mathlib.Core.Bool.{Bool, true, false, cond, ◌&&◌, ◌||◌}
use lib.Dec.{leb, eqb}
use borrow.Author.Tests.{le-leb, lt-leb, eq-eqb, ne_eqb}
use Rattle.std.proofs.lemmas.Bool.{cases_lt}
use Rattle.track_rules.specs.Records.{open_to}

-- one past the last open track
pub open_le : (f : ℕ → Bool) (n : ℕ) → open_to f n ≤ n
unfolding open_to
open_le f zero = omega arith
open_le f (suc n) = go (f n) (open_le f n)
  where
    go : (b : Bool) → open_to f n ≤ n → cond b (open_to f n) (suc n) ≤ suc n
    go true h = omega arith
    go false h = omega arith

pub open_closed : (f : ℕ → Bool) (n : ℕ) → f n ≡ true → open_to f (suc n) ≡ open_to f n
unfolding open_to
open_closed f n e = rw e

pub open_last : (f : ℕ → Bool) (n : ℕ) → f n ≡ false → open_to f (suc n) ≡ suc n
unfolding open_to
open_last f n e = rw e

pub open_same : (f g : ℕ → Bool) (n : ℕ) → ((t : ℕ) → t < n → f t ≡ g t) → open_to f n ≡ open_to g n
unfolding open_to
open_same f g zero h = refl
open_same f g (suc n) h = ap₂ (λ (b : Bool) (x : ℕ). cond b x (suc n)) (h n (omega arith)) (open_same f g n (λ t k. h t (omega arith)))

-- where the last track is open, so is the end
pub open_whole : (f : ℕ → Bool) (n : ℕ) → (0 < n → f (n - 1) ≡ false) → open_to f n ≡ n
unfolding open_to
open_whole f zero h = refl
open_whole f (suc n) h = open_last f n (let e : suc n - 1 ≡ n = omega arith in rw e at (h (omega arith)))

-- the gutter's rule as document 01 says it, and as the code tests it
pub gutter-late : (f : ℕ → Bool) (n t : ℕ) (ends : Bool) → t < n → (ends ≡ false → f (n - 1) ≡ false) →
    (eqb (suc t) n || f t || (ends && leb (open_to f n) (suc t))) ≡ (f t || leb (open_to f n) (suc t))
gutter-late f n t ends h last = go (cases_lt (suc t) (open_to f n))
  where
    last_one : (b : Bool) → ends ≡ b → open_to f n ≤ suc t → (eqb (suc t) n || f t || (b && true)) ≡ (f t || true)
    last_one true e k = all (eqb (suc t) n) (f t)
      where
        all : (x y : Bool) → (x || y || (true && true)) ≡ (y || true)
        all true true = refl
        all true false = refl
        all false true = refl
        all false false = refl
    last_one false e k =
        let w : open_to f n ≡ n = open_whole f n (λ z. last e) in
        rw (eq-eqb (suc t) n (omega arith)) (any (f t))
      where
        any : (y : Bool) → (true || y || (false && true)) ≡ (y || true)
        any true = refl
        any false = refl

    inner : (b y : Bool) → (false || y || (b && false)) ≡ (y || false)
    inner true true = refl
    inner true false = refl
    inner false true = refl
    inner false false = refl

    go : (suc t < open_to f n) ⊎ (open_to f n ≤ suc t) → (eqb (suc t) n || f t || (ends && leb (open_to f n) (suc t))) ≡ (f t || leb (open_to f n) (suc t))
    go (inl k) = rw (lt-leb (open_to f n) (suc t) k, ne_eqb (suc t) n (λ e. omega (arith, open_le f n))) (inner ends (f t))
    go (inr k) = rw (le-leb (open_to f n) (suc t) k) (last_one ends refl k)

-- a track that fit did not write is open
pub not_fit : (b c : Bool) → b ≡ false → (b && c) ≡ false
not_fit true c e = let z : ◌≡◌ {A = ℕ} 0 1 = cc in absurd (omega arith)
not_fit false c e = refl
