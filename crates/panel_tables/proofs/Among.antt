-- Laws of `named_in`. Assumes nothing.
use Prim.Native.Nat.{ℕ, zero, suc, ◌+◌}
use mathlib.Core.Path.{◌≡◌, refl, sym, ap, ◌∙◌}
use mathlib.Core.List.{List}
use mathlib.Core.Bool.{Bool, true, false, cond, ◌||◌}
use Rattle.std.specs.List.{list_any, range_with_len}
use native.Mathlib.Omega.{arith}
use Rattle.text.specs.Split.{same}
use Rattle.panel_tables.specs.Areas.{area_name, named_in}

-- a test on numbers one after the other
either : (a b c : Bool) → (a || cond b true c) ≡ cond b true (a || c)
either true true c = refl
either true false c = refl
either false true c = refl
either false false c = refl

pub any_more : (t : ℕ → Bool) (a n : ℕ) → list_any t (range_with_len a (suc n)) ≡ cond (t (a + n)) true (list_any t (range_with_len a n))
any_more t a zero = let z : a + 0 ≡ a = omega arith in rw z (grind arith)
any_more t a (suc n) =
    let z : a + 1 + n ≡ a + suc n = omega arith in
    ap (λ (b : Bool). t a || b) (any_more t (a + 1) n ∙ ap (λ (k : ℕ). cond (t k) true (list_any t (range_with_len (a + 1) n))) z)
    ∙ either (t a) (t (a + suc n)) (list_any t (range_with_len (a + 1) n))

pub named_any : (w s l : List ℕ) (k : ℕ) → named_in w s l k ≡ list_any (λ (i : ℕ). same (area_name w s i) l) (range_with_len 0 k)
unfolding named_in
named_any w s l zero = refl
named_any w s l (suc k) =
    let t : ℕ → Bool = λ (i : ℕ). same (area_name w s i) l in
    let z : 0 + k ≡ k = omega arith in
    ap (λ (b : Bool). cond (same (area_name w s k) l) true b) (named_any w s l k)
    ∙ sym (any_more t 0 k ∙ ap (λ (j : ℕ). cond (t j) true (list_any t (range_with_len 0 k))) z)
