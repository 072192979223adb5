-- The hold of the repetitions by 10,000 tracks. Assumes nothing.
use Rattle.std.proofs.Common.{ℕ, zero, suc, ◌+◌, ◌-◌, ◌*◌, ◌<◌, ◌≤◌, mul-le-mul_left, le-div_iff_mul-le, arith}
use Rattle.template_rules.specs.Repetitions.{room}

-- n + 1 repetitions are in the room exactly if the last of them begins inside the limit
pub begins_in_room : (p k n : ℕ) → 0 < k → p < 10000 → p + n * k < 10000 → n + 1 ≤ room p k
begins_in_room p k n h g b = (le-div_iff_mul-le {k = k} {x = n + 1} {y = 10000 - p + k - 1} h).1 (space p k n h g b)
  where
    space : (p k n : ℕ) → 0 < k → p < 10000 → p + n * k < 10000 → (n + 1) * k ≤ 10000 - p + k - 1
    space p k n h g b = omega arith

pub in_room_begins : (p k n : ℕ) → 0 < k → p < 10000 → n + 1 ≤ room p k → p + n * k < 10000
in_room_begins p k n h g r = space p k n h g ((le-div_iff_mul-le {k = k} {x = n + 1} {y = 10000 - p + k - 1} h).0 r)
  where
    space : (p k n : ℕ) → 0 < k → p < 10000 → (n + 1) * k ≤ 10000 - p + k - 1 → p + n * k < 10000
    space p k n h g b = omega arith

-- the room is from 1 to 10,000
pub room-some : (p k : ℕ) → 0 < k → p < 10000 → 1 ≤ room p k
room-some p k h g = begins_in_room p k 0 h g (start p k g)
  where
    start : (p k : ℕ) → p < 10000 → p + 0 * k < 10000
    start p k g = omega arith

pub room_most : (p k : ℕ) → 0 < k → p < 10000 → room p k ≤ 10000
room_most p k h g = go (room p k) (λ n r. in_room_begins p k n h g r)
  where
    grow : (p k n : ℕ) → 0 < k → 10000 ≤ n → p + n * k < 10000 → ⊥
    grow p k n h m b = let l : n * 1 ≤ n * k = wide n k h in omega arith
      where
        wide : (n k : ℕ) → 0 < k → n * 1 ≤ n * k
        wide n k h = mul-le-mul_left n h

    go : (r : ℕ) → ((n : ℕ) → n + 1 ≤ r → p + n * k < 10000) → r ≤ 10000
    go zero f = omega arith
    go (suc n) f = below n (λ m. grow p k n h m (f n (same n)))
      where
        same : (n : ℕ) → n + 1 ≤ suc n
        same n = omega arith

        below : (n : ℕ) → (10000 ≤ n → ⊥) → suc n ≤ 10000
        below n h = omega arith
