-- Two ends have one pair of lines (8.3.1), and its first line lies before its last. Assumes nothing.
use mathlib.Core.Path.{◌≡◌, refl, sym, ap}
use mathlib.Core.Logic.{◌⊎◌, inl, inr, ⊎_elim}
use Prim.Native.Nat.{ℕ, zero, suc, ◌+◌, ◌-◌, ◌<◌}
use native.Mathlib.Omega.{arith}
use lib.Dec.{lt→ltb, ltb→lt}
use lib.IntN.{ℤ, pos, negsuc, ◌+ℤ◌}
use lib.Signed.{◌<ℤ◌, <ℤ_irrefl}
use Rattle.coordinates.proofs.Integers.{plus_before}
use Rattle.coordinates.proofs.Lines.{lt_or_ge}
use Rattle.name_rules.specs.CssOrder.{OrderedLines, in_order, swapped, one_track}

below : (a b : ℕ) → a < b → pos a <ℤ pos b
below a b h = record { lt = lt→ltb a b h }

before : (a b : ℕ) → b < a → negsuc a <ℤ negsuc b
before a b h = record { lt = lt→ltb b a h }

-- of two lines one is before the other, or they are one
pub ordered_lines : (s e : ℤ) → (s <ℤ e) ⊎ ((e <ℤ s) ⊎ (s ≡ e))
ordered_lines (pos a) (pos b) =
    ⊎_elim
    (λ (h : a < b). inl (below a b h))
    (λ h. ⊎_elim (λ (k : b < a). inr (inl (below b a k))) (λ k. inr (inr (ap pos (omega arith)))) (lt_or_ge b a))
    (lt_or_ge a b)
ordered_lines (pos a) (negsuc b) = inr (inl (record { lt = tt }))
ordered_lines (negsuc a) (pos b) = inl (record { lt = tt })
ordered_lines (negsuc a) (negsuc b) =
    ⊎_elim
    (λ (h : b < a). inl (before a b h))
    (λ h. ⊎_elim (λ (k : a < b). inr (inl (before b a k))) (λ k. inr (inr (ap negsuc (omega arith)))) (lt_or_ge a b))
    (lt_or_ge b a)

-- every two ends have their lines
pub ordered_exist : (s e : ℤ) → (lo : ℤ) × (hi : ℤ) × OrderedLines s e lo hi
ordered_exist s e =
    ⊎_elim (λ h. (s, e, in_order h)) (⊎_elim (λ h. (e, s, swapped h)) (λ h. (s, s +ℤ pos 1, one_track h))) (ordered_lines s e)

-- the line after a line
pub next-after : (s : ℤ) → s <ℤ (s +ℤ pos 1)
next-after (pos a) = below a (a + 1) (omega arith)
next-after (negsuc zero) = record { lt = tt }
next-after (negsuc (suc a)) = rw (← plus_before (suc a) 1 (omega arith)) (before (suc a) (suc a - 1) (omega arith))

-- the first line of the two lies before the last: an item spans a track at least
pub ordered_below : {s e lo hi : ℤ} → OrderedLines s e lo hi → lo <ℤ hi
ordered_below (in_order h) = h
ordered_below (swapped h) = h
ordered_below {s} (one_track h) = next-after s

not-both : (a b : ℤ) → a <ℤ b → b <ℤ a → ⊥
not-both (pos a) (pos b) h k = let p : a < b = ltb→lt a b h.lt in let q : b < a = ltb→lt b a k.lt in omega arith
not-both (pos a) (negsuc b) h k = h.lt
not-both (negsuc a) (pos b) h k = k.lt
not-both (negsuc a) (negsuc b) h k = let p : b < a = ltb→lt b a h.lt in let q : a < b = ltb→lt a b k.lt in omega arith

not_equal : {a b : ℤ} → a <ℤ b → a ≡ b → ⊥
not_equal {a} h e = <ℤ_irrefl (rw (← e) at h)

-- and no others
pub ordered_unique : {s e lo hi lo' hi' : ℤ} → OrderedLines s e lo hi → OrderedLines s e lo' hi' → (lo ≡ lo') × (hi ≡ hi')
ordered_unique (in_order h) (in_order k) = (refl, refl)
ordered_unique {s} {e} (in_order h) (swapped k) = absurd (not-both s e h k)
ordered_unique (in_order h) (one_track k) = absurd (not_equal h k)
ordered_unique {s} {e} (swapped h) (in_order k) = absurd (not-both s e k h)
ordered_unique (swapped h) (swapped k) = (refl, refl)
ordered_unique (swapped h) (one_track k) = absurd (not_equal h (sym k))
ordered_unique (one_track h) (in_order k) = absurd (not_equal k h)
ordered_unique (one_track h) (swapped k) = absurd (not_equal k (sym h))
ordered_unique (one_track h) (one_track k) = (refl, refl)
