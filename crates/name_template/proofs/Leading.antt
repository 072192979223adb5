-- How many of the first records stand at a place.
use mathlib.Core.Path.{◌≡◌, refl}
use mathlib.Core.Bool.{Bool, true, false, cond}
use mathlib.Core.List.{List, [], ◌∷◌}
use Prim.Native.Nat.{ℕ, suc, ◌+◌, ◌-◌, ◌≤◌}
use native.Mathlib.Omega.{arith}
use lib.ListN.{length, take, drop, length-drop}
use lib.Seq.{take_all}
use Rattle.std.specs.List.{prefix_len}
use Rattle.name_template.specs.Records.{stands, leading}

pub leading_prefix : (inside : Bool) (k : ℕ) (names : List ℕ) → leading inside k names ≡ prefix_len (stands inside k) names
unfolding leading
leading_prefix inside k [] = refl
leading_prefix inside k (w ∷ l) =
    let e : suc (prefix_len (stands inside k) l) ≡ 1 + prefix_len (stands inside k) l = omega arith in
    rw (leading_prefix inside k l, e)

-- what `&words[at..]` is
pub rest_all : (names : List ℕ) (at : ℕ) → take (length names - at) (drop at names) ≡ drop at names
rest_all names at = take_all (length names - at) (drop at names) (rw length-drop (omega arith))

-- no more stand there than there are
pub leading_le : (inside : Bool) (k : ℕ) (names : List ℕ) → leading inside k names ≤ length names
unfolding leading
leading_le inside k [] = omega arith
leading_le inside k (w ∷ l) = by (stands inside k w) (leading_le inside k l)
  where
    by : (b : Bool) → leading inside k l ≤ length l → cond b (suc (leading inside k l)) 0 ≤ suc (length l)
    by true h = omega arith
    by false h = omega arith
