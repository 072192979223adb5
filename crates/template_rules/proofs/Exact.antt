-- Floor and ceiling by the exact value of an f32, for every f32: the greatest whole number not above it, the least not below it,
-- held to the counts of a u32. Assumes nothing.
use Rattle.std.proofs.Common.{◌≡◌, ℕ, ◌+◌, ◌-◌, ◌*◌, ◌/◌, ◌<◌, ◌≤◌, min, Bool, true, false, eqb, ◌↔◌, ℤ, pos, refl, div-lt_iff_lt-mul, mul-pos, le-div_iff_mul-le, arith, ne_eqb}
use lib.Ieee.{Float, nan, inf, fin, binary32, up, down, div}
use lib.Ieee.Fits.{down_pos}
use Rattle.template_rules.specs.Exact.{AtMost, AtLeast}
use Rattle.template_rules.specs.Whole.{largest_count, floor_of, ceiling_of}

-- from 1 to the largest count, the numbers up to the floor are those not above x
pub floor_greatest : (x : Float) (k : ℕ) → 1 ≤ k → k ≤ largest_count → AtMost k x ↔ (k ≤ floor_of x)
unfolding floor_of AtMost
floor_greatest nan k h g = (λ a. a, λ a. a)
floor_greatest (inf true) k h g = (λ a. absurd a, λ a. absurd (none k h a))
  where
    none : (k : ℕ) → 1 ≤ k → k ≤ 0 → ⊥
    none k h a = omega arith
floor_greatest (inf false) k h g = (λ a. g, λ a. tt)
floor_greatest (fin true m e) k h g = (λ a. absurd (positive k (down e) (m * up e) h (down_pos e) a), λ a. absurd (none k h a))
  where
    none : (k : ℕ) → 1 ≤ k → k ≤ 0 → ⊥
    none k h a = omega arith

    positive : (k d a : ℕ) → 1 ≤ k → 0 < d → k * d + a ≤ 0 → ⊥
    positive k d a h g l = let p : 0 < k * d = mul-pos h g in omega arith
floor_greatest (fin false m e) k h g = (λ a. within _ _ _ ((le-div_iff_mul-le (down_pos e)).1 a) g, λ a. (le-div_iff_mul-le (down_pos e)).0 (below _ _ _ a))
  where
    within : (k q l : ℕ) → k ≤ q → k ≤ l → k ≤ min q l
    within k q l a b = omega arith

    below : (k q l : ℕ) → k ≤ min q l → k ≤ q
    below k q l a = omega arith

-- below the largest count, the numbers from the ceiling on are those not below x
pub ceiling_least : (x : Float) (k : ℕ) → k < largest_count → AtLeast k x ↔ (ceiling_of x ≤ k)
unfolding ceiling_of AtLeast
ceiling_least nan k g = (λ a. omega arith, λ a. tt)
ceiling_least (inf true) k g = (λ a. omega arith, λ a. tt)
ceiling_least (inf false) k g = (λ a. absurd a, λ a. absurd (past k g a))
  where
    past : (k : ℕ) → k < 4294967295 → 4294967295 ≤ k → ⊥
    past k g a = omega arith
ceiling_least (fin true m e) k g = (λ a. omega arith, λ a. tt)
ceiling_least (fin false m e) k g =
    let a = m * up e in
    let d = down e in (
      λ h. held ((a + (d - 1)) / d) largest_count k ((div-lt_iff_lt-mul {k = d} {x = a + (d - 1)} {y = k + 1} (down_pos e)).1 (up_lt a d k (down_pos e) h)),
      λ h. up_le a d k (down_pos e) ((div-lt_iff_lt-mul {k = d} {x = a + (d - 1)} {y = k + 1} (down_pos e)).0 (unheld ((a + (d - 1)) / d) largest_count k g h)),
    )
  where
    held : (q l k : ℕ) → q < k + 1 → min q l ≤ k
    held q l k h = omega arith

    unheld : (q l k : ℕ) → k < l → min q l ≤ k → q < k + 1
    unheld q l k h g = omega arith

    up_lt : (a d k : ℕ) → 0 < d → a ≤ k * d → a + (d - 1) < (k + 1) * d
    up_lt a d k p h = omega arith

    up_le : (a d k : ℕ) → 0 < d → a + (d - 1) < (k + 1) * d → a ≤ k * d
    up_le a d k p h = omega arith

-- 0 over 0 counts as 0
abbrev zero : Bool → Float
zero s = fin s 0 (pos 0)

pub zero_over_zero : (s t : Bool) → (floor_of (div binary32 (zero s) (zero t)) ≡ 0) × (ceiling_of (div binary32 (zero s) (zero t)) ≡ 0)
unfolding floor_of ceiling_of div
zero_over_zero s t = (refl, refl)

-- positive over 0 is the largest count
pub positive_over_zero : (m : ℕ) (e : ℤ) → 0 < m → (floor_of (div binary32 (fin false m e) (zero false)) ≡ largest_count) × (ceiling_of (div binary32 (fin false m e) (zero false)) ≡ largest_count)
unfolding floor_of ceiling_of div
positive_over_zero m e h = let some : eqb m 0 ≡ false = ne_eqb m 0 (apart m h) in (rw some, rw some)
  where
    apart : (m : ℕ) → 0 < m → m ≡ 0 → ⊥
    apart m h e = omega arith

-- an infinity is the largest count, and 0 below 0
pub infinite : (floor_of (inf false) ≡ largest_count) × (ceiling_of (inf false) ≡ largest_count) × (floor_of (inf true) ≡ 0) × (ceiling_of (inf true) ≡ 0)
unfolding floor_of ceiling_of
infinite = (refl, refl, refl, refl)
