-- Hexadecimal digits, one by one. Assumes nothing.
use Prim.Native.Nat.{ℕ, zero, suc, ◌-◌, ◌/◌, ◌%◌}
use mathlib.Core.Path.{◌≡◌, refl, sym, ap, ◌∙◌}
use mathlib.Core.List.{List, [], ◌∷◌, ◌++◌}
use native.Mathlib.Omega.{arith}
use Rattle.panel_text.specs.Numerals.{digit, hexadecimal_digits}
use Rattle.panel_text.specs.Written.{Adds}
use Rattle.panel_text.proofs.Puts.{add_then, add_near, add_as, nothing_added}

hexadecimal-next : (k n : ℕ) → (k ≡ 0 → ⊥) → hexadecimal_digits k n ≡ hexadecimal_digits (k - 1) (n / 16) ++ (digit (n % 16) ∷ [])
unfolding hexadecimal_digits
hexadecimal-next zero n h = absurd (h refl)
hexadecimal-next (suc k) n h = let e : suc k - 1 ≡ k = omega arith in rw e

pub add_none : (a : List ℕ) (k n : ℕ) → k ≡ 0 → Adds a (hexadecimal_digits k n) a k
unfolding hexadecimal_digits
add_none a k n e = rw e (nothing_added a 0)

pub add_next : {a b c : List ℕ} {d : ℕ} (k n : ℕ) → (k ≡ 0 → ⊥) → d ≡ digit (n % 16)
    → Adds a (hexadecimal_digits (k - 1) (n / 16)) b (k - 1) → Adds b (d ∷ []) c 1 → Adds a (hexadecimal_digits k n) c k
add_next k n h e p q =
    let s = ap (λ (x : ℕ). hexadecimal_digits (k - 1) (n / 16) ++ (x ∷ [])) e ∙ sym (hexadecimal-next k n h) in
    add_near (add_as s (add_then p q)) (omega arith)
