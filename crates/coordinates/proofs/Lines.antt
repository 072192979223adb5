-- The two numberings of lines: there and back, order on each side of 0, and when two grid lines are one. Assumes nothing.
use mathlib.Core.Path.{◌≡◌, refl, sym, ◌∙◌, ap}
use mathlib.Core.Logic.{◌⊎◌, inl, inr, ⊎_elim}
use Prim.Native.Nat.{ℕ, zero, suc, ◌+◌, ◌-◌, ◌≤◌, ◌<◌, min}
use native.Mathlib.Decide.{dec_lt}
use native.Mathlib.Omega.{arith}
use mathlib.Core.Bool.{true, false}
use borrow.Author.Tests.{ltb-true, ltb-false}
use lib.Dec.{leb→le, le→leb}
use lib.Signed.{◌≤ℤ◌}
use lib.IntN.{ℤ, pos, negsuc}
use Rattle.coordinates.specs.Lines.{held, Within, outside, uncut, to_origin_zero, to_grid_line, SameSide, SameLine}
use Rattle.coordinates.proofs.Integers.{sub_le, sub_lt}

pub lt_or_ge : (m n : ℕ) → (m < n) ⊎ (n ≤ m)
lt_or_ge m n = elim (dec_lt m n) [ yes h ↦ inl h | no h ↦ inr (omega arith) ]

-- what is held lies within the limits, and a line within them stays
pub held-within : (l : ℤ) → Within (held l)
held-within (pos l) = omega arith
held-within (negsuc l) = omega arith

pub held_same : (l : ℤ) → Within l → held l ≡ l
held_same (pos l) h = ap pos (omega arith)
held_same (negsuc l) h = ap negsuc (omega arith)

-- a mark says exactly that holding changed the number
pub held_exactly : (l : ℤ) → (outside l ≡ true → held l ≡ l → ⊥) × (outside l ≡ false → held l ≡ l)
held_exactly (pos l) = (
  λ o e. let h : 10000 < l = ltb-true 10000 l o in let q : min l 10000 ≡ l = cc in omega arith,
  λ o. held_same (pos l) (ltb-false 10000 l o),
)
held_exactly (negsuc l) = (
  λ o e. let h : 9999 < l = ltb-true 9999 l o in let q : min l 9999 ≡ l = cc in omega arith,
  λ o. held_same (negsuc l) (ltb-false 9999 l o),
)

pub origin_zero_within : (n : ℕ) (g : ℤ) → Within (to_origin_zero n g)
origin_zero_within n g = held-within (uncut n g)

-- -(g + 1) + n + 1 is n - g
pub uncut_in : (n g : ℕ) → g ≤ n → uncut n (negsuc g) ≡ pos (n - g)
uncut_in n g h = sub_le (suc n) (suc g) (omega arith) ∙ ap pos (omega arith)

pub uncut_out : (n g : ℕ) → n < g → uncut n (negsuc g) ≡ negsuc (g - suc n)
uncut_out n g h = sub_lt (suc n) (suc g) (omega arith) ∙ ap negsuc (omega arith)

-- no line has number 0
pub no_line_zero : (n : ℕ) (l : ℤ) → to_grid_line n l ≡ pos 0 → ⊥
no_line_zero n (pos l) e = let z : suc l ≡ 0 = cc in omega arith
no_line_zero n (negsuc l) e = let z : ◌≡◌ {A = ℕ} 0 1 = cc in omega arith

-- an origin-zero line within the limits, to a grid line and back
pub there_and_back : (n : ℕ) (l : ℤ) → Within l → to_origin_zero n (to_grid_line n l) ≡ l
there_and_back n (pos l) h = held_same (pos l) h
there_and_back n (negsuc l) h =
    rw (uncut_out n (suc (l + n)) (omega arith)) (ap negsuc (omega arith))

-- a grid line that is not held and does not count back from the end into the grid, to an origin-zero line and back
pub back_and_there : (n g : ℕ) → g ≤ 10000 → to_grid_line n (to_origin_zero n (pos (suc g))) ≡ pos (suc g)
back_and_there n g h = ap (to_grid_line n) (held_same (pos g) h)

pub back_and_there_before : (n g : ℕ) → n < g → g - suc n ≤ 9999 → to_grid_line n (to_origin_zero n (negsuc g)) ≡ negsuc g
back_and_there_before n g h w =
    ap (to_grid_line n) (ap held (uncut_out n g h) ∙ held_same (negsuc (g - suc n)) w) ∙ ap negsuc (omega arith)

-- order: holding keeps it, and so does the conversion on each side of 0
pub held_ordered : (a b : ℤ) → a ≤ℤ b → held a ≤ℤ held b
held_ordered (pos a) (pos b) h = let q : a ≤ b = leb→le a b h.le in record { le = le→leb (min a 10000) (min b 10000) (omega arith) }
held_ordered (pos a) (negsuc b) h = absurd h.le
held_ordered (negsuc a) (pos b) h = record { le = tt }
held_ordered (negsuc a) (negsuc b) h = let q : b ≤ a = leb→le b a h.le in record { le = le→leb (min b 9999) (min a 9999) (omega arith) }

uncut_ordered : (n g h : ℕ) → g ≤ h → uncut n (negsuc h) ≤ℤ uncut n (negsuc g)
uncut_ordered n g h le =
    ⊎_elim
    (λ (a : n < g). rw (uncut_out n g a, uncut_out n h (omega arith)) (record { le = le→leb (g - suc n) (h - suc n) (omega arith) }))
    (λ (a : g ≤ n).
    ⊎_elim
    (λ (b : n < h). rw (uncut_in n g a, uncut_out n h b) (record { le = tt }))
    (λ (b : h ≤ n). rw (uncut_in n g a, uncut_in n h b) (record { le = le→leb (n - h) (n - g) (omega arith) }))
    (lt_or_ge n h))
    (lt_or_ge n g)

pub monotone : (n : ℕ) (g h : ℤ) → SameSide g h → g ≤ℤ h → to_origin_zero n g ≤ℤ to_origin_zero n h
monotone n (pos zero) h s le = absurd s
monotone n (pos (suc g)) (pos zero) s le = absurd s
monotone n (pos (suc g)) (pos (suc h)) s le = let q : suc g ≤ suc h = leb→le (suc g) (suc h) le.le in held_ordered (pos g) (pos h) (record { le = le→leb g h (omega arith) })
monotone n (pos (suc g)) (negsuc h) s le = absurd s
monotone n (negsuc g) (pos h) s le = absurd s
monotone n (negsuc g) (negsuc h) s le = held_ordered _ _ (uncut_ordered n h g (leb→le h g le.le))

-- two grid lines that are not held give one origin-zero line just where they name the same line
crossing : (n g h : ℕ) → pos g ≡ uncut n (negsuc h) → g + h ≡ n
crossing n g h e =
    ⊎_elim
    (λ (b : n < h). absurd (let z : ◌≡◌ {A = ℕ} 0 1 = cc (uncut_out n h b) in omega arith))
    (λ (b : h ≤ n). let z : g ≡ n - h = cc (uncut_in n h b) in omega arith)
    (lt_or_ge n h)

before-one : (n g h : ℕ) → uncut n (negsuc g) ≡ uncut n (negsuc h) → g ≡ h
before-one n g h e =
    ⊎_elim
    (λ (a : n < g).
    ⊎_elim
    (λ (b : n < h). let z : g - suc n ≡ h - suc n = cc (uncut_out n g a, uncut_out n h b) in omega arith)
    (λ (b : h ≤ n). absurd (let z : ◌≡◌ {A = ℕ} 0 1 = cc (uncut_out n g a, uncut_in n h b) in omega arith))
    (lt_or_ge n h))
    (λ (a : g ≤ n).
    ⊎_elim
    (λ (b : n < h). absurd (let z : ◌≡◌ {A = ℕ} 0 1 = cc (uncut_in n g a, uncut_out n h b) in omega arith))
    (λ (b : h ≤ n). let z : n - g ≡ n - h = cc (uncut_in n g a, uncut_in n h b) in omega arith)
    (lt_or_ge n h))
    (lt_or_ge n g)

uncut-one : (n : ℕ) (g h : ℤ) → (g ≡ pos 0 → ⊥) → (h ≡ pos 0 → ⊥) → uncut n g ≡ uncut n h → SameLine n g h
uncut-one n (pos zero) h zg zh e = absurd (zg refl)
uncut-one n (pos (suc g)) (pos zero) zg zh e = absurd (zh refl)
uncut-one n (pos (suc g)) (pos (suc h)) zg zh e = cc
uncut-one n (pos (suc g)) (negsuc h) zg zh e = crossing n g h e
uncut-one n (negsuc g) (pos zero) zg zh e = absurd (zh refl)
uncut-one n (negsuc g) (pos (suc h)) zg zh e = crossing n h g (sym e)
uncut-one n (negsuc g) (negsuc h) zg zh e = before-one n g h e

pub one_line_lem : (n : ℕ) (g h : ℤ) → (g ≡ pos 0 → ⊥) → (h ≡ pos 0 → ⊥) → Within (uncut n g) → Within (uncut n h)
    → to_origin_zero n g ≡ to_origin_zero n h → SameLine n g h
one_line_lem n g h zg zh wg wh e = uncut-one n g h zg zh (sym (held_same (uncut n g) wg) ∙ e ∙ held_same (uncut n h) wh)

pub same_line : (n : ℕ) (g h : ℤ) → SameLine n g h → to_origin_zero n g ≡ to_origin_zero n h
same_line n (pos zero) (pos h) s = absurd s
same_line n (pos zero) (negsuc h) s = absurd s
same_line n (pos (suc g)) (pos zero) s = absurd s
same_line n (pos (suc g)) (pos (suc h)) s = ap (λ (k : ℕ). held (pos k)) s
same_line n (pos (suc g)) (negsuc h) s = ap held (sym (uncut_in n h (omega arith) ∙ ap pos (omega arith)))
same_line n (negsuc g) (pos zero) s = absurd s
same_line n (negsuc g) (pos (suc h)) s = ap held (uncut_in n g (omega arith) ∙ ap pos (omega arith))
same_line n (negsuc g) (negsuc h) s = ap (λ (k : ℕ). to_origin_zero n (negsuc k)) s
