-- Parts of a store: `&s[a..e]` is `take (e - a) (drop a s)`.
use mathlib.Core.Path.{◌≡◌, sym, ◌∙◌}
use mathlib.Core.List.{List}
use Prim.Native.Nat.{ℕ, ◌+◌, ◌-◌, ◌≤◌}
use native.Mathlib.Omega.{arith}
use lib.ListN.{length, take, drop, length-drop, drop_of_length-le}
use lib.Seq.{take_all, take-nil}

-- nothing lies past the end
pub past : (s : List ℕ) (at n : ℕ) → length s ≤ at → take (length s - length s) (drop (length s) s) ≡ take n (drop at s)
past s at n h =
    let e : length s - length s ≡ 0 = omega arith in
    rw (e, drop_of_length-le s h) (sym (take-nil n))

-- a part that the end cuts
pub cut : (s : List ℕ) (at n : ℕ) → length s - at ≤ n → take (length s - at) (drop at s) ≡ take n (drop at s)
cut s at n h =
    take_all (length s - at) (drop at s) (rw length-drop (omega arith))
    ∙ sym (take_all n (drop at s) (rw length-drop (omega arith)))

-- a part that lies inside
pub inside : (s : List ℕ) (at n : ℕ) → take (at + n - at) (drop at s) ≡ take n (drop at s)
inside s at n = let e : at + n - at ≡ n = omega arith in rw e
