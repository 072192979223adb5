-- What a name that has room says of its numbers.
use Prim.Native.Nat.{ℕ, ◌+◌, ◌≤◌, ◌<◌}
use mathlib.Core.Path.{◌≡◌, refl, sym, ◌∙◌}
use mathlib.Core.Bool.{Bool, true, false, cond}
use native.Mathlib.Omega.{arith}
use lib.Dec.{leb, ltb}
use borrow.Author.Tests.{leb-false, ltb-false}
use Rattle.axis_tables.specs.View.{no_room}

pub record Room (most room names used length : ℕ) : Type 0 where
  pub short : length ≤ 32
  pub free : names < most
  pub bytes : used + length ≤ room

true_false : true ≡ false → ⊥
true_false p = let z : ◌≡◌ {A = ℕ} 0 1 = cc in omega arith

pub room : (most all names used length : ℕ) → no_room most all names used length ≡ false → Room most all names used length
room m r n u l e = go (ltb 32 l) (leb m n) (ltb r (u + l)) refl refl refl e
  where
    go : (t s w : Bool) → ltb 32 l ≡ t → leb m n ≡ s → ltb r (u + l) ≡ w → cond t true (cond s true w) ≡ false → Room m r n u l
    go true s w a b c e = absurd (true_false e)
    go false true w a b c e = absurd (true_false e)
    go false false true a b c e = absurd (true_false e)
    go false false false a b c e = record { short = ltb-false 32 l a; free = leb-false m n b; bytes = ltb-false r (u + l) c }

pub has_room : (most all names used length : ℕ) (r : Bool) → r ≡ no_room most all names used length → r ≡ false → Room most all names used length
has_room m r n u l b e f = room m r n u l (sym e ∙ f)
