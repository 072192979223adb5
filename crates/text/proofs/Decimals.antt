-- The reader of whole numbers follows the rules of spelling: it reads z exactly where the field writes z. Assumes nothing.
use Prim.Native.Nat.{ℕ, zero, suc, ◌+◌, ◌-◌, ◌*◌}
use mathlib.Core.Path.{◌≡◌, refl, sym, ap, ◌∙◌}
use mathlib.Core.List.{List, [], ◌∷◌}
use mathlib.Core.Bool.{Bool, true, false, cond}
use native.Mathlib.Omega.{arith}
use lib.Dec.{eqb, ltb}
use lib.IntN.{ℤ, pos, negsuc}
use borrow.Author.Tests.{eqb-true, eqb-false, ltb-false, ne_eqb, le-ltb}
use Rattle.text.specs.Whole.{Natural, bad, number, none, whole, digits_of, natural_of, non_negative, negative, whole_of}
use Rattle.text.specs.Spelling.{Digits, value_from, decimal, WritesNatural, Writes}

no_number : (n : ℕ) → bad ≡ number n → ⊥
no_number n e = let z : ◌≡◌ {A = ℕ} 0 1 = cc in omega arith

no_whole : (z : ℤ) → none ≡ whole z → ⊥
no_whole z e = let q : ◌≡◌ {A = ℕ} 0 1 = cc in omega arith

-- digits
digits_read : (l : List ℕ) (v n : ℕ) → digits_of v l ≡ number n → Digits l × (value_from 10 decimal v l ≡ n)
unfolding digits_of value_from
digits_read [] v n e = (tt, cc)
digits_read (b ∷ bs) v n e = go (ltb b 48) (ltb 57 b) refl refl (digits_read bs (v * 10 + (b - 48)) n) e
  where
    go : (t u : Bool) → ltb b 48 ≡ t → ltb 57 b ≡ u
        → (digits_of (v * 10 + (b - 48)) bs ≡ number n → Digits bs × (value_from 10 decimal (v * 10 + (b - 48)) bs ≡ n))
        → cond t bad (cond u bad (digits_of (v * 10 + (b - 48)) bs)) ≡ number n
        → Digits (b ∷ bs) × (value_from 10 decimal (v * 10 + (b - 48)) bs ≡ n)
    go true u p q i k = absurd (no_number n k)
    go false true p q i k = absurd (no_number n k)
    go false false p q i k = let r = i k in ((ltb-false b 48 p, ltb-false 57 b q, r.0), r.1)

digits-written : (l : List ℕ) (v : ℕ) → Digits l → digits_of v l ≡ number (value_from 10 decimal v l)
unfolding digits_of value_from
digits-written [] v d = refl
digits-written (b ∷ bs) v d = rw (le-ltb b 48 d.0, le-ltb 57 b d.1) (digits-written bs (v * 10 + (b - 48)) d.2)

-- a number with no sign
natural_read : (f : List ℕ) (n : ℕ) → natural_of f ≡ number n → WritesNatural f n
unfolding natural_of
natural_read [] n e = absurd (no_number n e)
natural_read (b ∷ []) n e = let r = digits_read (b ∷ []) 0 n e in record { digits = r.0; first = tt; value = r.1 }
natural_read (b ∷ c ∷ bs) n e = go (eqb b 48) refl e
  where
    go : (t : Bool) → eqb b 48 ≡ t → cond t bad (digits_of 0 (b ∷ c ∷ bs)) ≡ number n → WritesNatural (b ∷ c ∷ bs) n
    go true q k = absurd (no_number n k)
    go false q k = let r = digits_read (b ∷ c ∷ bs) 0 n k in record { digits = r.0; first = eqb-false b 48 q; value = r.1 }

natural_written : (f : List ℕ) (n : ℕ) → WritesNatural f n → natural_of f ≡ number n
unfolding natural_of
natural_written [] n w = absurd w.first
natural_written (b ∷ []) n w = digits-written (b ∷ []) 0 w.digits ∙ ap number w.value
natural_written (b ∷ c ∷ bs) n w = rw (ne_eqb b 48 w.first) (digits-written (b ∷ c ∷ bs) 0 w.digits ∙ ap number w.value)

-- a whole number
from_above : (f : List ℕ) (x : Natural) (z : ℤ) → natural_of f ≡ x → non_negative x ≡ whole z → Writes f z
unfolding non_negative
from_above f bad z e k = absurd (no_whole z k)
from_above f (number n) (pos m) e k = natural_read f m (let q : ◌≡◌ {A = ℤ} (pos n) (pos m) = cc in let r : n ≡ m = cc in cc)
from_above f (number n) (negsuc m) e k = let q : ◌≡◌ {A = ℤ} (pos n) (negsuc m) = cc in let r : ◌≡◌ {A = ℕ} 0 1 = cc in absurd (omega arith)

from_below : (f bs : List ℕ) (x : Natural) (z : ℤ) → f ≡ 45 ∷ bs → natural_of bs ≡ x → negative x ≡ whole z → Writes f z
unfolding negative
from_below f bs bad z p e k = absurd (no_whole z k)
from_below f bs (number zero) z p e k = absurd (no_whole z k)
from_below f bs (number (suc n)) (pos m) p e k = let q : ◌≡◌ {A = ℤ} (negsuc n) (pos m) = cc in let r : ◌≡◌ {A = ℕ} 0 1 = cc in absurd (omega arith)
from_below f bs (number (suc n)) (negsuc m) p e k =
    let q : ◌≡◌ {A = ℤ} (negsuc n) (negsuc m) = cc in
    let r : n ≡ m = cc in
    (bs, p, natural_read bs (suc m) (cc))

pub whole_read : (f : List ℕ) (z : ℤ) → whole_of f ≡ whole z → Writes f z
unfolding whole_of
whole_read [] z e = absurd (no_whole z e)
whole_read (b ∷ bs) z e = go (eqb b 45) refl e
  where
    go : (t : Bool) → eqb b 45 ≡ t → cond t (negative (natural_of bs)) (non_negative (natural_of (b ∷ bs))) ≡ whole z → Writes (b ∷ bs) z
    go true q k = from_below (b ∷ bs) bs (natural_of bs) z (ap (λ (x : ℕ). x ∷ bs) (eqb-true b 45 q)) refl k
    go false q k = from_above (b ∷ bs) (natural_of (b ∷ bs)) z refl k

pub whole-written : (f : List ℕ) (z : ℤ) → Writes f z → whole_of f ≡ whole z
unfolding whole_of non_negative negative
whole-written [] (pos n) w = absurd w.first
whole-written (b ∷ bs) (pos n) w = rw (ne_eqb b 45 (λ e. omega (arith, w.digits.0)), natural_written (b ∷ bs) n w)
whole-written f (negsuc k) w = rw (w.1, natural_written w.0 (suc k) w.2)

-- no number is read exactly where none is written
pub whole-unread : (f : List ℕ) → whole_of f ≡ none → (z : ℤ) → Writes f z → ⊥
whole-unread f e z w = no_whole z (sym e ∙ whole-written f z w)
