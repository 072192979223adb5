-- The n-th number is what one would count to: n numbers pass from the first to it, itself among them. Assumes nothing.
use mathlib.Core.Path.{◌≡◌, refl, ◌∙◌}
use mathlib.Core.Bool.{Bool, true, false}
use Prim.Native.Nat.{ℕ, zero, suc, ◌+◌, ◌-◌, ◌≤◌, ◌<◌}
use native.Mathlib.Nat.{zero-add, add-zero, add-suc, suc-add}
use native.Mathlib.Omega.{arith}
use lib.Dec.{T}
use Rattle.name_rules.specs.Css.{Nearest, Nth}
use Rattle.name_rules.proofs.Counting.{nth_reached}

-- how many of the k numbers from f on pass a test
abbrev one : Bool → ℕ
one true = 1
one false = 0

abbrev pub tally : (ℕ → Bool) → ℕ → ℕ → ℕ
tally p f zero = 0
tally p f (suc k) = one (p f) + tally p (suc f) k

tally-add : (p : ℕ → Bool) (f j k : ℕ) → tally p f (j + k) ≡ tally p f j + tally p (f + j) k
tally-add p f zero k = rw (add-zero f, zero-add k, zero-add (tally p f k))
tally-add p f (suc j) k = rw (suc-add j k, add-suc f j, ← (suc-add f j)) (omega (arith, tally-add p (suc f) j k))

tally-none : (p : ℕ → Bool) (f k : ℕ) → ((j : ℕ) → f ≤ j → j < f + k → T (p j) → ⊥) → tally p f k ≡ 0
tally-none p f zero out = refl
tally-none p f (suc k) out = go (p f) (out f (omega arith) (omega arith)) (tally-none p (suc f) k (λ j h g t. out j (omega arith) (omega arith) t))
  where
    go : (b : Bool) → (T b → ⊥) → tally p (suc f) k ≡ 0 → one b + tally p (suc f) k ≡ 0
    go true o e = absurd (o tt)
    go false o e = omega arith

tally_nearest : (p : ℕ → Bool) (f l : ℕ) → Nearest (λ j. T (p j)) f l → tally p f (l - f) ≡ 0
tally_nearest p f l n = tally-none p f (l - f) (λ j h g t. n.none j h (omega (arith, n.reached)) t)

tally_here : (p : ℕ → Bool) (l : ℕ) → T (p l) → tally p l 1 ≡ 1
tally_here p l t = go (p l) t
  where
    go : (b : Bool) → T b → one b + 0 ≡ 1
    go true u = refl
    go false u = absurd u

-- the n-th number l is one that passes, and exactly n of the numbers from f to l pass
pub nth_tally : (p : ℕ → Bool) (n f l : ℕ) → Nth (λ j. T (p j)) f n l → T (p l) × (tally p f (suc l - f) ≡ n)
nth_tally p zero f l q = absurd q
nth_tally p (suc zero) f l q = (
  q.holds,
  let e : suc l - f ≡ l - f + 1 = omega (arith, q.reached) in let u : f + (l - f) ≡ l = omega (arith, q.reached) in
      rw e (tally-add p f (l - f) 1 ∙ rw u (omega (arith, tally_nearest p f l q, tally_here p l q.holds))),
)
nth_tally p (suc (suc n)) f l (m, q, r) =
    let (t, c) = nth_tally p (suc n) (suc m) l r in
    let h = nth_reached (λ j. T (p j)) (suc n) (suc m) l r in
    let e : suc l - f ≡ m - f + (1 + (suc l - suc m)) = omega (arith, q.reached) in
    let u : f + (m - f) ≡ m = omega (arith, q.reached) in
    let v : m + 1 ≡ suc m = omega arith in (
      t,
      rw e (tally-add p f (m - f) (1 + (suc l - suc m)) ∙ rw u (rw (tally-add p m 1 (suc l - suc m), v)
          (omega (arith, tally_nearest p f m q, tally_here p m q.holds, c)))),
    )
