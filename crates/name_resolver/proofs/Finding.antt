-- What a search over marks comes to, in the words of the rule. Assumes nothing.
use mathlib.Core.Path.{◌≡◌, refl, ap}
use mathlib.Core.Bool.{Bool, true, false}
use Prim.Native.Nat.{ℕ, zero, suc, ◌+◌, ◌-◌, ◌≤◌, min}
use native.Mathlib.Omega.{arith}
use lib.IntN.{ℤ, pos, negsuc}
use Rattle.name_rules.specs.Rule.{onward, seek, up_from, forwards, line_of, backwards}
use Rattle.name_lines.specs.Marks.{back}
use Rattle.name_resolver.specs.Counts.{first_line, found_line}

-- a count forwards
pub forwards_first : (e : ℕ) (p : ℕ → Bool) (z : ℤ) (m : ℕ) → pos (up_from e p (first_line z) m) ≡ forwards e p z m
forwards_first e p (pos f) m = refl
forwards_first e p (negsuc f) m = refl

-- a count backwards, by distances and by lines
distances : (e : ℕ) (p : ℕ → Bool) (l k d m : ℕ) → d + k ≡ suc l → found_line (back p 0 k m) ≡ line_of e p l (seek (λ i. p (l - i)) k d m)
unfolding seek back
distances e p l zero d m h = refl
distances e p l (suc k) d m h =
    let z : 0 + k ≡ k = omega arith in
    let q : l - d ≡ k = omega arith in
    rw (z, q) (go (p k) m (λ j. distances e p l k (suc d) j (omega arith)))
  where
    go : (b : Bool) (m : ℕ) → ((j : ℕ) → found_line (back p 0 k j) ≡ line_of e p l (seek (λ i. p (l - i)) k (suc d) j))
        → found_line (onward b k m (λ j. back p 0 k j)) ≡ line_of e p l (onward b d m (λ j. seek (λ i. p (l - i)) k (suc d) j))
    go false m rec = rec m
    go true zero rec = let q : k ≡ l - d = omega arith in ap pos q
    go true (suc m) rec = rec m

pub backwards-line : (e : ℕ) (p : ℕ → Bool) (s m : ℕ) → e ≤ 10000 → found_line (back p 0 (min (suc (min s e)) 20000) m) ≡ backwards e p (pos s) m
backwards-line e p s m h =
    let q : min (suc (min s e)) 20000 ≡ suc (min s e) = omega arith in
    rw q (distances e p (min s e) (suc (min s e)) 0 m (omega arith))
