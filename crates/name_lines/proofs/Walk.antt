-- Steps of `seek` and `back`, as a loop takes them, and searches in two windows. Assumes nothing.
use mathlib.Core.Path.{◌≡◌, refl, sym, ◌∙◌, ap}
use mathlib.Core.Bool.{Bool, true, false}
use Prim.Native.Nat.{ℕ, zero, suc, ◌+◌, ◌-◌, ◌≤◌, ◌<◌}
use native.Mathlib.Nat.{add-zero}
use native.Mathlib.Numerals.{add-one}
use native.Mathlib.Omega.{arith}
use Rattle.name_rules.specs.Rule.{Seek, at, left, onward, seek}
use Rattle.name_lines.specs.Marks.{back}

module _ (p : ℕ → Bool) (e i : ℕ) where
  step : (m : ℕ) → i < e → seek p (e - i) i m ≡ onward (p i) i m (λ j. seek p (e - (i + 1)) (i + 1) j)
  unfolding seek
  step m h = let s : e - i ≡ suc (e - (i + 1)) = omega arith in rw s (simp add-one)

  pub stop : (m : ℕ) → e ≤ i → seek p (e - i) i m ≡ left m
  unfolding seek
  stop m h = let s : e - i ≡ 0 = omega arith in rw s

  pub miss : (m : ℕ) → i < e → p i ≡ false → seek p (e - i) i m ≡ seek p (e - (i + 1)) (i + 1) m
  miss m h q = step m h ∙ rw q

  pub hit : (m : ℕ) → i < e → p i ≡ true → m ≡ 0 → seek p (e - i) i m ≡ at i
  hit m h q z = rw z (step 0 h ∙ rw q)

  pub over : (m : ℕ) → i < e → p i ≡ true → (m ≡ 0 → ⊥) → seek p (e - i) i m ≡ seek p (e - (i + 1)) (i + 1) (m - 1)
  over zero h q z = absurd (z refl)
  over (suc n) h q z = let s : n ≡ suc n - 1 = omega arith in step (suc n) h ∙ rw q (ap (λ (j : ℕ). seek p (e - (i + 1)) (i + 1) j) s)

-- the same from the other side: the lines from f on that lie before i
module _ (p : ℕ → Bool) (f i : ℕ) where
  back_step : (m : ℕ) → f < i → back p f (i - f) m ≡ onward (p (i - 1)) (i - 1) m (λ j. back p f (i - 1 - f) j)
  unfolding back
  back_step m h =
      let s : i - f ≡ suc (i - 1 - f) = omega arith in
      let t : f + (i - 1 - f) ≡ i - 1 = omega arith in
      rw (s, t)

  pub back-stop : (m : ℕ) → i ≤ f → back p f (i - f) m ≡ left m
  unfolding back
  back-stop m h = let s : i - f ≡ 0 = omega arith in rw s

  pub back-miss : (m : ℕ) → f < i → p (i - 1) ≡ false → back p f (i - f) m ≡ back p f (i - 1 - f) m
  back-miss m h q = back_step m h ∙ rw q

  pub back-hit : (m : ℕ) → f < i → p (i - 1) ≡ true → m ≡ 0 → back p f (i - f) m ≡ at (i - 1)
  back-hit m h q z = rw z (back_step 0 h ∙ rw q)

  pub back-over : (m : ℕ) → f < i → p (i - 1) ≡ true → (m ≡ 0 → ⊥) → back p f (i - f) m ≡ back p f (i - 1 - f) (m - 1)
  back-over zero h q z = absurd (z refl)
  back-over (suc n) h q z = let s : n ≡ suc n - 1 = omega arith in back_step (suc n) h ∙ rw q (ap (λ (j : ℕ). back p f (i - 1 - f) j) s)

-- what is left is no more than what was to be passed over
pub left_le : (p : ℕ → Bool) (k f m r : ℕ) → left r ≡ seek p k f m → r ≤ m
unfolding seek
left_le p zero f m r e = let q : r ≡ m = cc in omega arith
left_le p (suc k) f m r e = go (p f) m (λ j h. left_le p k (suc f) j r h) e
  where
    go : (b : Bool) (m : ℕ) → ((j : ℕ) → left r ≡ seek p k (suc f) j → r ≤ j) → left r ≡ onward b f m (λ j. seek p k (suc f) j) → r ≤ m
    go false m rec h = rec m h
    go true zero rec h = let z : ◌≡◌ {A = ℕ} 0 1 = cc in absurd (omega arith)
    go true (suc j) rec h = omega (arith, rec j h)

-- one step of two searches that go on alike
alike : (a b : Bool) → a ≡ b → (l m : ℕ) (f g : ℕ → Seek) → ((j : ℕ) → f j ≡ g j) → onward a l m f ≡ onward b l m g
alike false false e l m f g h = h m
alike true true e l zero f g h = refl
alike true true e l (suc m) f g h = h m
alike false true e l m f g h = let z : ◌≡◌ {A = ℕ} 0 1 = cc in absurd (omega arith)
alike true false e l m f g h = let z : ◌≡◌ {A = ℕ} 0 1 = cc in absurd (omega arith)

-- a search reads only the numbers that it comes to
pub seek-alike : (p q : ℕ → Bool) (k f m : ℕ) → ((j : ℕ) → f ≤ j → j < f + k → p j ≡ q j) → seek p k f m ≡ seek q k f m
unfolding seek
seek-alike p q zero f m h = refl
seek-alike p q (suc k) f m h =
    alike (p f) (q f) (h f (omega arith) (omega arith)) f m _ _ (λ j. seek-alike p q k (suc f) j (λ i a b. h i (omega arith) (omega arith)))

pub back-alike : (p q : ℕ → Bool) (f k m : ℕ) → ((j : ℕ) → f ≤ j → j < f + k → p j ≡ q j) → back p f k m ≡ back q f k m
unfolding back
back-alike p q f zero m h = refl
back-alike p q f (suc k) m h =
    alike (p (f + k)) (q (f + k)) (h (f + k) (omega arith) (omega arith)) (f + k) m _ _ (λ j. back-alike p q f k j (λ i a b. h i (omega arith) (omega arith)))

-- nothing is found where nothing is marked
pub seek_unmarked : (p : ℕ → Bool) (k f m : ℕ) → ((j : ℕ) → f ≤ j → j < f + k → p j ≡ false) → seek p k f m ≡ left m
unfolding seek
seek_unmarked p zero f m h = refl
seek_unmarked p (suc k) f m h = rw (h f (omega arith) (omega arith)) (seek_unmarked p k (suc f) m (λ j a b. h j (omega arith) (omega arith)))

-- a search goes on where another ends
abbrev pub or_else : Seek → (ℕ → Seek) → Seek
or_else (at l) go = at l
or_else (left m) go = go m

onward_else : (b : Bool) (l m : ℕ) (f g : ℕ → Seek) → or_else (onward b l m f) g ≡ onward b l m (λ j. or_else (f j) g)
onward_else false l m f g = refl
onward_else true l zero f g = refl
onward_else true l (suc m) f g = refl

pub seek-split : (p : ℕ → Bool) (a b f m : ℕ) → seek p (a + b) f m ≡ or_else (seek p a f m) (λ r. seek p b (f + a) r)
unfolding seek
seek-split p zero b f m = let z : 0 + b ≡ b = omega arith in rw (z, add-zero f)
seek-split p (suc a) b f m =
    let s : suc a + b ≡ suc (a + b) = omega arith in
    rw s
    (alike (p f) (p f) refl f m _ _ (λ j. let t : suc f + a ≡ f + suc a = omega arith in seek-split p a b (suc f) j ∙ rw t)
    ∙ sym (onward_else (p f) f m (λ j. seek p a (suc f) j) (λ r. seek p b (f + suc a) r)))

pub back-split : (p : ℕ → Bool) (f a b m : ℕ) → back p f (a + b) m ≡ or_else (back p (f + a) b m) (λ r. back p f a r)
unfolding back
back-split p f a zero m = rw (add-zero a)
back-split p f a (suc b) m =
    let s : a + suc b ≡ suc (a + b) = omega arith in
    let t : f + (a + b) ≡ f + a + b = omega arith in
    rw (s, t)
    (alike (p (f + a + b)) (p (f + a + b)) refl (f + a + b) m _ _ (λ j. back-split p f a b j)
    ∙ sym (onward_else (p (f + a + b)) (f + a + b) m (λ j. back p (f + a) b j) (λ r. back p f a r)))

pub back_unmarked : (p : ℕ → Bool) (f k m : ℕ) → ((j : ℕ) → f ≤ j → j < f + k → p j ≡ false) → back p f k m ≡ left m
unfolding back
back_unmarked p f zero m h = refl
back_unmarked p f (suc k) m h = rw (h (f + k) (omega arith) (omega arith)) (back_unmarked p f k m (λ j a b. h j (omega arith) (omega arith)))
