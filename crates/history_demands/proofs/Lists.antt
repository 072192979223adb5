-- Lists and their first and last elements. Assumes nothing.
use Prim.Native.Nat.{ℕ, ◌+◌, ◌-◌, ◌≤◌}
use mathlib.Core.Path.{◌≡◌, sym, ap, ◌∙◌}
use mathlib.Core.List.{List, ◌++◌}
use native.Mathlib.Omega.{arith}
use lib.ListN.{length, drop}
use lib.Seq.{drop-drop, drop-append_seam}

-- where the last elements are the same, fewer of them are
pub drop_more : {A : Type 0} (i j : ℕ) (x y : List A) → i ≤ j → drop i x ≡ drop i y → drop j x ≡ drop j y
drop_more i j x y h e =
    let n : i + (j - i) ≡ j = omega arith in
    rw (sym n, sym (drop-drop (j - i) i x), sym (drop-drop (j - i) i y), e)

-- what comes after the first elements
pub cut_there : {A : Type 0} (a b r : List A) → b ≡ a ++ r → b ≡ a ++ drop (length a) b
cut_there {A = A} a b r e = e ∙ ap (λ (x : List A). a ++ x) (sym (drop-append_seam a r) ∙ ap (drop (length a)) (sym e))
