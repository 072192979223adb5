-- What a field's reader answers, against the rules for that field: words, names, whole numbers. Assumes nothing.
use Prim.Native.Nat.{ℕ, zero, suc, ◌≤◌, ◌<◌, zero-le, suc-le-suc}
use mathlib.Core.Path.{◌≡◌, refl, sym, subst}
use mathlib.Core.List.{List, [], ◌∷◌}
use mathlib.Core.Bool.{Bool, true, false, cond}
use mathlib.Core.Logic.{◌⊎◌, inl, inr, ⊎_elim}
use native.Mathlib.Nat.{le_of_suc-le-suc, not-suc-le-zero}
use native.Mathlib.Omega.{arith}
use lib.Dec.{eqb, ltb, leb→le, le→leb}
use lib.IntN.{ℤ, pos, negsuc}
use lib.ListN.{length}
use lib.Signed.{◌≤ℤ◌}
use borrow.Author.Tests.{ne_eqb, eqb-true, eqb-false, lt-ltb, le-ltb, ltb-true, ltb-false}
use Rattle.text.specs.Split.{same, index}
use Rattle.text.proofs.Which.{same_equal, same_self}
use Rattle.std.specs.Prelude.{Ok, Err}
use Rattle.text.specs.declared.NumberFault.TheVariants.{Outside}
use Rattle.text.specs.Whole.{Written, none, whole, whole_of, count_in, index_in}
use Rattle.text.specs.Spelling.{Writes}
use Rattle.text.proofs.Decimals.{whole_read, whole-written, whole-unread}
use Rattle.sheet_forms.specs.Fields.{word_of, axis_at, count_field, count_of, codes, name_fault}
use Rattle.sheet_forms.specs.Ends.{index_field}
use Rattle.sheet_forms.specs.Forms.{OneOf, Codes, InNameRange, Whole, OutsideRange}
use Rattle.sheet_forms.specs.Rows.{Row, unread, bad_name, bad_value, bad_count, bad_area, First}
use Rattle.sheet_forms.proofs.Firsts.{at_none, at-unread, at_count}

pub below_or : (a b : ℕ) → (a < b) ⊎ (b ≤ a)
below_or a b = go (ltb a b) refl
  where
    go : (t : Bool) → ltb a b ≡ t → (a < b) ⊎ (b ≤ a)
    go true e = inl (ltb-true a b e)
    go false e = inr (ltb-false a b e)

-- ---- words

pub one_of : (f : List ℕ) (ws : List (List ℕ)) → index f ws < length ws → OneOf ws f
unfolding index
one_of f [] h = absurd (not-suc-le-zero h)
one_of f (w ∷ ws) h = go (same w f) refl (one_of f ws) h
  where
    go : (t : Bool) → same w f ≡ t → (index f ws < length ws → OneOf ws f) → cond t 0 (suc (index f ws)) < suc (length ws) → OneOf (w ∷ ws) f
    go true q i k = inl (sym (same_equal w f q))
    go false q i k = inr (i (le_of_suc-le-suc k))

pub of_one : (f : List ℕ) (ws : List (List ℕ)) → OneOf ws f → index f ws < length ws
unfolding index
of_one f [] h = absurd h
of_one f (w ∷ ws) (inl e) = rw (e, same_self w) (suc-le-suc zero-le)
of_one f (w ∷ ws) (inr h) = go (same w f) (of_one f ws h)
  where
    go : (t : Bool) → index f ws < length ws → cond t 0 (suc (index f ws)) < suc (length ws)
    go true k = suc-le-suc zero-le
    go false k = suc-le-suc k

pub word_good : (n i : ℕ) → i < n → (word_of n i).fault ≡ 0
word_good n i h = rw (lt-ltb i n h)

pub word_value : (n i : ℕ) → i < n → (word_of n i).value ≡ i
word_value n i h = rw (lt-ltb i n h)

pub word_bad : (n i : ℕ) → n ≤ i → (word_of n i).fault ≡ 1
word_bad n i h = rw (le-ltb i n h)

pub axis_good : (i : ℕ) → i < 2 → (axis_at i).fault ≡ 0
axis_good zero h = refl
axis_good (suc zero) h = refl
axis_good (suc (suc i)) h = absurd (omega arith)

pub axis_bad : (i : ℕ) → 2 ≤ i → (axis_at i).fault ≡ 1
axis_bad i h = rw (ne_eqb i 0 (λ e. omega arith), ne_eqb i 1 (λ e. omega arith))

-- ---- names

coded : (f : List ℕ) → codes f ≡ true → Codes f
unfolding codes
coded [] e = tt
coded (b ∷ bs) e = go (ltb b 33) (ltb 126 b) refl refl (coded bs) e
  where
    go : (t u : Bool) → ltb b 33 ≡ t → ltb 126 b ≡ u → (codes bs ≡ true → Codes bs) → cond t false (cond u false (codes bs)) ≡ true → Codes (b ∷ bs)
    go true u p q i k = let z : ◌≡◌ {A = ℕ} 0 1 = cc in absurd (omega arith)
    go false true p q i k = let z : ◌≡◌ {A = ℕ} 0 1 = cc in absurd (omega arith)
    go false false p q i k = (ltb-false b 33 p, ltb-false 126 b q, i k)

in_codes : (f : List ℕ) → Codes f → codes f ≡ true
unfolding codes
in_codes [] c = refl
in_codes (b ∷ bs) c = rw (le-ltb b 33 c.0, le-ltb 126 b c.1) (in_codes bs c.2)

abbrev name_at : Bool → Bool → Bool → ℕ
name_at t u v = cond t 2 (cond u 2 (cond v 0 2))

-- a name is in its range, or it is refused by 2
pub name_range : (f : List ℕ) → ((name_fault f ≡ 0) × InNameRange f) ⊎ ((name_fault f ≡ 2) × (InNameRange f → ⊥))
unfolding name_fault
name_range f = go (eqb (length f) 0) (ltb 32 (length f)) (codes f) refl refl refl
  where
    go : (t u v : Bool) → eqb (length f) 0 ≡ t → ltb 32 (length f) ≡ u → codes f ≡ v
        → ((name_at t u v ≡ 0) × InNameRange f) ⊎ ((name_at t u v ≡ 2) × (InNameRange f → ⊥))
    go true u v p q r = inr (refl, λ n. omega (arith, eqb-true (length f) 0 p, n.some))
    go false true v p q r = inr (refl, λ n. omega (arith, ltb-true 32 (length f) q, n.few))
    go false false true p q r =
        let h = ltb-false 32 (length f) q in
        ⊎_elim (λ e. absurd (eqb-false (length f) 0 p e)) (λ k. inl (refl, record { some = k; few = h; coded = coded f r })) (none-or-more (length f))
      where
        none-or-more : (n : ℕ) → (n ≡ 0) ⊎ (1 ≤ n)
        none-or-more zero = inl refl
        none-or-more (suc n) = inr (suc-le-suc zero-le)
    go false false false p q r = inr (refl, λ n. let c = in_codes f n.coded in let z : ◌≡◌ {A = ℕ} 0 1 = cc in omega arith)

-- ---- whole numbers

-- what the reader says of a whole number in a range
pub data Counted (least most : ℤ) (f : List ℕ) (n : ℕ) : Type 0 where
  unspelt : n ≡ 1 → (Whole f → ⊥) → Counted least most f n
  outside : n ≡ 4 → OutsideRange least most f → Counted least most f n
  inside : n ≡ 0 → Whole f → (OutsideRange least most f → ⊥) → Counted least most f n

pub writes_once : (f : List ℕ) (y z : ℤ) → Writes f y → Writes f z → y ≡ z
writes_once f y z v w = let p = whole-written f y v in let q = whole-written f z w in cc

-- a number that is read, and in its range
read_inside : (least most z : ℤ) (f : List ℕ) → whole_of f ≡ whole z → least ≤ℤ z → z ≤ℤ most → OutsideRange least most f → ⊥
read_inside least most z f e l m (y, w, h) =
    let q : y ≡ z = writes_once f y z w (whole_read f z e) in
    h (subst (λ (x : ℤ). (least ≤ℤ x) × (x ≤ℤ most)) (sym q) (l, m))

read_outside : (least most z : ℤ) (f : List ℕ) → whole_of f ≡ whole z → ((least ≤ℤ z) × (z ≤ℤ most) → ⊥) → OutsideRange least most f
read_outside least most z f e h = (z, whole_read f z e, h)

at_least : (a b : ℕ) → a ≤ b → pos a ≤ℤ pos b
at_least a b h = record { le = le→leb a b h }

pub count-counted : (least most : ℕ) (f : List ℕ) → Counted (pos least) (pos most) f (count_of least most f).fault
unfolding count_of count_in
count-counted least most f = go (whole_of f) refl
  where
    ranged : (n : ℕ) (t u : Bool) → whole_of f ≡ whole (pos n) → ltb n least ≡ t → ltb most n ≡ u
        → Counted (pos least) (pos most) f (count_field (cond t (Err Outside) (cond u (Err Outside) (Ok n)))).fault
    ranged n true u e p q = outside refl (read_outside (pos least) (pos most) (pos n) f e (λ h. omega (arith, ltb-true n least p, leb→le least n h.0.le)))
    ranged n false true e p q = outside refl (read_outside (pos least) (pos most) (pos n) f e (λ h. omega (arith, ltb-true most n q, leb→le n most h.1.le)))
    ranged n false false e p q =
        inside refl (pos n, whole_read f (pos n) e)
        (read_inside (pos least) (pos most) (pos n) f e (at_least least n (ltb-false n least p)) (at_least n most (ltb-false most n q)))

    go : (w : Written) → whole_of f ≡ w → Counted (pos least) (pos most) f (count_field (count_in least most w)).fault
    go none e = unspelt refl (λ (z, w). whole-unread f e z w)
    go (whole (pos n)) e = ranged n (ltb n least) (ltb most n) e refl refl
    go (whole (negsuc k)) e = outside refl (read_outside (pos least) (pos most) (negsuc k) f e (λ h. h.0.le))

pub index-counted : (f : List ℕ) → Counted (negsuc 32767) (pos 32767) f (index_field (index_in (whole_of f))).fault
unfolding index_in
index-counted f = go (whole_of f) refl
  where
    above : (n : ℕ) (u : Bool) → whole_of f ≡ whole (pos n) → ltb 32767 n ≡ u
        → Counted (negsuc 32767) (pos 32767) f (index_field (cond u (Err Outside) (Ok (pos n)))).fault
    above n true e q = outside refl (read_outside (negsuc 32767) (pos 32767) (pos n) f e (λ h. omega (arith, ltb-true 32767 n q, leb→le n 32767 h.1.le)))
    above n false e q =
        inside refl (pos n, whole_read f (pos n) e)
        (read_inside (negsuc 32767) (pos 32767) (pos n) f e (record { le = tt }) (at_least n 32767 (ltb-false 32767 n q)))

    below : (k : ℕ) (u : Bool) → whole_of f ≡ whole (negsuc k) → ltb 32767 k ≡ u
        → Counted (negsuc 32767) (pos 32767) f (index_field (cond u (Err Outside) (Ok (negsuc k)))).fault
    below k true e q = outside refl (read_outside (negsuc 32767) (pos 32767) (negsuc k) f e (λ h. omega (arith, ltb-true 32767 k q, leb→le k 32767 h.0.le)))
    below k false e q =
        inside refl (negsuc k, whole_read f (negsuc k) e)
        (read_inside (negsuc 32767) (pos 32767) (negsuc k) f e (record { le = le→leb k 32767 (ltb-false 32767 k q) }) (record { le = tt }))

    go : (w : Written) → whole_of f ≡ w → Counted (negsuc 32767) (pos 32767) f (index_field (index_in w)).fault
    go none e = unspelt refl (λ (z, w). whole-unread f e z w)
    go (whole (pos n)) e = above n (ltb 32767 n) e refl
    go (whole (negsuc k)) e = below k (ltb 32767 k) e refl

pub never : ⊥ → ⊥
never x = x

-- the rows of a part that is a whole number
pub counted_rows : {A : Row → Type 0} {least most : ℤ} {f : List ℕ} {n : ℕ}
    → ((Whole f → ⊥) → A unread) → (A unread → Whole f → ⊥) → (OutsideRange least most f → A bad_count) → (A bad_count → OutsideRange least most f)
    → (A bad_name → ⊥) → (A bad_value → ⊥) → (A bad_area → ⊥) → Counted least most f n → First A n
counted_rows to from out in' u v x (unspelt e h) = at-unread e (to h)
counted_rows to from out in' u v x (outside e (z, w, h)) = at_count e (out (z, w, h)) (λ a. from a (z, w)) u v
counted_rows to from out in' u v x (inside e w h) = at_none e (λ a. from a w) u v (λ a. h (in' a)) x

-- a count without a fault is the number that the field writes
pub count_writes : (least most : ℕ) (f : List ℕ) → (count_of least most f).fault ≡ 0 → Writes f (pos (count_of least most f).value)
unfolding count_of count_in
count_writes least most f = go (whole_of f) refl
  where
    ranged : (n : ℕ) (t u : Bool) → whole_of f ≡ whole (pos n) → (count_field (cond t (Err Outside) (cond u (Err Outside) (Ok n)))).fault ≡ 0
        → Writes f (pos (count_field (cond t (Err Outside) (cond u (Err Outside) (Ok n)))).value)
    ranged n true u e z = absurd (omega arith)
    ranged n false true e z = absurd (omega arith)
    ranged n false false e z = whole_read f (pos n) e

    go : (w : Written) → whole_of f ≡ w → (count_field (count_in least most w)).fault ≡ 0 → Writes f (pos (count_field (count_in least most w)).value)
    go none e z = absurd (omega arith)
    go (whole (pos n)) e z = ranged n (ltb n least) (ltb most n) e z
    go (whole (negsuc k)) e z = absurd (omega arith)
