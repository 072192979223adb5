-- The row that comes first: of two parts of a line, of rows that say the same, and that there is only one. Assumes nothing.
use Prim.Native.Nat.{ℕ, ◌≤◌, ◌<◌}
use mathlib.Core.Path.{◌≡◌, refl, sym, ap, ◌∙◌}
use mathlib.Core.Bool.{Bool, true, false, cond}
use mathlib.Core.Logic.{◌⊎◌, inl, inr, ⊎_elim}
use native.Mathlib.Omega.{arith}
use lib.Dec.{eqb, leb}
use borrow.Author.Tests.{eq-eqb, ne_eqb, le-leb, lt-leb, leb-true, leb-false, eqb-true, eqb-false}
use Rattle.sheet_forms.specs.Faults.{rank_of, first_of, FirstBy, no_row, first_row}
use Rattle.sheet_forms.proofs.Order.{rank_same}
use Rattle.sheet_forms.specs.Rows.{Row, unread, bad_name, bad_value, bad_count, bad_area, number_of, First}

-- the first of two faults
pub first_left : (a b : ℕ) → a ≡ 0 → first_of a b ≡ b
unfolding first_of
first_left a b e = rw (eq-eqb a 0 e)

pub first_right : (a b : ℕ) → (a ≡ 0 → ⊥) → b ≡ 0 → first_of a b ≡ a
unfolding first_of
first_right a b h e = rw (ne_eqb a 0 h, eq-eqb b 0 e)

first_le : (a b : ℕ) → (a ≡ 0 → ⊥) → (b ≡ 0 → ⊥) → rank_of a ≤ rank_of b → first_of a b ≡ a
unfolding first_of
first_le a b h k l = rw (ne_eqb a 0 h, ne_eqb b 0 k, le-leb (rank_of a) (rank_of b) l)

first_lt : (a b : ℕ) → (a ≡ 0 → ⊥) → (b ≡ 0 → ⊥) → rank_of b < rank_of a → first_of a b ≡ b
unfolding first_of
first_lt a b h k l = rw (ne_eqb a 0 h, ne_eqb b 0 k, lt-leb (rank_of a) (rank_of b) l)

trichotomy : (a b : ℕ) → (a ≡ b) ⊎ ((a < b) ⊎ (b < a))
trichotomy a b = go (leb a b) (leb b a) refl refl
  where
    go : (t u : Bool) → leb a b ≡ t → leb b a ≡ u → (a ≡ b) ⊎ ((a < b) ⊎ (b < a))
    go true true e f = inl (omega (arith, leb-true a b e, leb-true b a f))
    go true false e f = inr (inl (leb-false b a f))
    go false u e f = inr (inr (leb-false a b e))

pub none_or_some : (a : ℕ) → (a ≡ 0) ⊎ (a ≡ 0 → ⊥)
none_or_some a = go (eqb a 0) refl
  where
    go : (t : Bool) → eqb a 0 ≡ t → (a ≡ 0) ⊎ (a ≡ 0 → ⊥)
    go true e = inl (eqb-true a 0 e)
    go false e = inr (eqb-false a 0 e)

pub first_none : (a : ℕ) → first_of a 0 ≡ a
first_none a = ⊎_elim (λ e. first_left a 0 e ∙ sym e) (λ h. first_right a 0 h refl) (none_or_some a)

pub first_either : (a b : ℕ) → (first_of a b ≡ a) ⊎ (first_of a b ≡ b)
first_either a b = ⊎_elim (λ e. inr (first_left a b e)) (λ h. ⊎_elim (λ e. inl (first_right a b h e)) (λ k. go h k (trichotomy (rank_of a) (rank_of b))) (none_or_some b)) (none_or_some a)
  where
    go : (a ≡ 0 → ⊥) → (b ≡ 0 → ⊥) → (rank_of a ≡ rank_of b) ⊎ ((rank_of a < rank_of b) ⊎ (rank_of b < rank_of a)) → (first_of a b ≡ a) ⊎ (first_of a b ≡ b)
    go h k (inl e) = inl (first_le a b h k (omega arith))
    go h k (inr (inl l)) = inl (first_le a b h k (omega arith))
    go h k (inr (inr l)) = inr (first_lt a b h k l)

pub first_zero : (a b : ℕ) → first_of a b ≡ 0 → (a ≡ 0) × (b ≡ 0)
first_zero a b e = ⊎_elim (λ z. (z, sym (first_left a b z) ∙ e)) (λ h. absurd (go (none_or_some b) h)) (none_or_some a)
  where
    go : (b ≡ 0) ⊎ (b ≡ 0 → ⊥) → (a ≡ 0 → ⊥) → ⊥
    go (inl z) h = h (sym (first_right a b h z) ∙ e)
    go (inr k) h = ⊎_elim (λ q. h (sym q ∙ e)) (λ q. k (sym q ∙ e)) (first_either a b)

-- ---- the first of three faults

-- of two, by their places in the order
first_of_lem : (a b : ℕ) → (a ≡ 0 → ⊥) → (b ≡ 0 → ⊥) → (t : Bool) → leb (rank_of a) (rank_of b) ≡ t → first_of a b ≡ cond t a b
unfolding first_of
first_of_lem a b h k t e = rw (ne_eqb a 0 h, ne_eqb b 0 k, e)

-- of three, in any grouping
three : (a b c : ℕ) → (a ≡ 0 → ⊥) → (b ≡ 0 → ⊥) → (c ≡ 0 → ⊥) → first_of (first_of a b) c ≡ first_of a (first_of b c)
three a b c h k l = go (leb (rank_of a) (rank_of b)) (leb (rank_of b) (rank_of c)) refl refl
  where
    go : (t u : Bool) → leb (rank_of a) (rank_of b) ≡ t → leb (rank_of b) (rank_of c) ≡ u → first_of (first_of a b) c ≡ first_of a (first_of b c)
    go true true e f =
        let le : leb (rank_of a) (rank_of c) ≡ true =
        le-leb (rank_of a) (rank_of c) (omega (arith, leb-true (rank_of a) (rank_of b) e, leb-true (rank_of b) (rank_of c) f)) in
        rw (first_of_lem a b h k true e, first_of_lem b c k l true f, first_of_lem a c h l true le) (sym (first_of_lem a b h k true e))
    go true false e f = rw (first_of_lem a b h k true e, first_of_lem b c k l false f)
    go false true e f = rw (first_of_lem a b h k false e, first_of_lem b c k l true f) (sym (first_of_lem a b h k false e))
    go false false e f =
        let lt : leb (rank_of a) (rank_of c) ≡ false =
        lt-leb (rank_of a) (rank_of c) (omega (arith, leb-false (rank_of a) (rank_of b) e, leb-false (rank_of b) (rank_of c) f)) in
        rw (first_of_lem a b h k false e, first_of_lem b c k l false f, first_of_lem a c h l false lt)

-- where 0 is none
pub first_joined : (a b c : ℕ) → first_of (first_of a b) c ≡ first_of a (first_of b c)
first_joined a b c = go (none_or_some a) (none_or_some b) (none_or_some c)
  where
    go : (a ≡ 0) ⊎ (a ≡ 0 → ⊥) → (b ≡ 0) ⊎ (b ≡ 0 → ⊥) → (c ≡ 0) ⊎ (c ≡ 0 → ⊥) → first_of (first_of a b) c ≡ first_of a (first_of b c)
    go (inl e) y z = ap (λ (n : ℕ). first_of n c) (first_left a b e) ∙ sym (first_left a (first_of b c) e)
    go (inr h) (inl e) z = ap (λ (n : ℕ). first_of n c) (first_right a b h e) ∙ ap (first_of a) (sym (first_left b c e))
    go (inr h) (inr k) (inl e) = ap (first_of (first_of a b)) e ∙ first_none (first_of a b) ∙ ap (first_of a) (sym (ap (first_of b) e ∙ first_none b))
    go (inr h) (inr k) (inr l) = three a b c h k l

-- the middle one of three may be left out where it is not the first
pub first_without : (a b c : ℕ) → (first_of a (first_of b c) ≡ b → ⊥) → first_of a (first_of b c) ≡ first_of a c
first_without a b c not = pick (first_either b c)
  where
    places : (x y : ℕ) → (x ≡ 0 → ⊥) → (y ≡ 0 → ⊥) → first_of x y ≡ x → rank_of x ≤ rank_of y
    places x y h k e = go (leb (rank_of x) (rank_of y)) refl
      where
        go : (t : Bool) → leb (rank_of x) (rank_of y) ≡ t → rank_of x ≤ rank_of y
        go true q = leb-true (rank_of x) (rank_of y) q
        go false q = omega (arith, ap rank_of (sym e ∙ first_of_lem x y h k false q))

    last : first_of b c ≡ b → (b ≡ 0) ⊎ (b ≡ 0 → ⊥) → (a ≡ 0) ⊎ (a ≡ 0 → ⊥) → (c ≡ 0) ⊎ (c ≡ 0 → ⊥) → (first_of a b ≡ a) ⊎ (first_of a b ≡ b) → first_of a (first_of b c) ≡ first_of a c
    last e (inl z) y w q = ap (first_of a) (first_left b c z)
    last e (inr h) y w (inr q) = absurd (not (ap (first_of a) e ∙ q))
    last e (inr h) (inl z) w (inl q) = absurd (not (ap (first_of a) e ∙ first_left a b z))
    last e (inr h) (inr k) (inl z) (inl q) = ap (first_of a) e ∙ q ∙ sym (first_right a c k z)
    last e (inr h) (inr k) (inr l) (inl q) = ap (first_of a) e ∙ q ∙ sym (first_le a c k l (omega (arith, places a b k h q, places b c h l e)))

    pick : (first_of b c ≡ b) ⊎ (first_of b c ≡ c) → first_of a (first_of b c) ≡ first_of a c
    pick (inl e) = last e (none_or_some b) (none_or_some a) (none_or_some c) (first_either a b)
    pick (inr e) = ap (first_of a) e

-- nothing comes before 1
pub first_one : (a b : ℕ) → a ≡ 1 → first_of a b ≡ 1
first_one a b e = ⊎_elim (λ z. first_right a b some z ∙ e) (λ h. first_le a b some h (before h) ∙ e) (none_or_some b)
  where
    some : a ≡ 0 → ⊥
    some z = omega arith

    before : (b ≡ 0 → ⊥) → rank_of a ≤ rank_of b
    before h = unfold rank_of in rw e (omega arith)

-- ---- which row comes first

module _ {R : Type 0} {number : R → ℕ} (some : (r : R) → number r ≡ 0 → ⊥) where
  -- of two parts of a line
  pub firsts-by : {A B : R → Type 0} {a b : ℕ} → FirstBy number A a → FirstBy number B b → FirstBy number (λ r. A r ⊎ B r) (first_of a b)
  firsts-by {a = a} {b = b} (no_row e h) (no_row f k) = no_row (first_left a b e ∙ f) (λ r. ⊎_elim (h r) (k r))
  firsts-by {a = a} {b = b} (no_row e h) (first_row r f k l) = first_row r (first_left a b e ∙ f) (inr k) (λ q m. ⊎_elim (h q) (l q m))
  firsts-by {a = a} {b = b} (first_row r e h l) (no_row f k) = first_row r (first_right a b (λ z. some r (sym e ∙ z)) f ∙ e) (inl h) (λ q m. ⊎_elim (l q m) (k q))
  firsts-by {A} {B} {a} {b} (first_row r e h l) (first_row s f k m) = go (leb (rank_of a) (rank_of b)) refl
    where
      go : (t : Bool) → leb (rank_of a) (rank_of b) ≡ t → FirstBy number (λ q. A q ⊎ B q) (first_of a b)
      go true q =
          let le : rank_of a ≤ rank_of b = leb-true (rank_of a) (rank_of b) q in
          first_row r (first_le a b (λ z. some r (sym e ∙ z)) (λ z. some s (sym f ∙ z)) le ∙ e) (inl h)
          (λ p w. ⊎_elim (l p w) (m p (omega (arith, ap rank_of e, ap rank_of f))))
      go false q =
          let lt : rank_of b < rank_of a = leb-false (rank_of a) (rank_of b) q in
          first_row s (first_lt a b (λ z. some r (sym e ∙ z)) (λ z. some s (sym f ∙ z)) lt ∙ f) (inr k)
          (λ p w. ⊎_elim (l p (omega (arith, ap rank_of e, ap rank_of f))) (m p w))

module _ {R : Type 0} {number : R → ℕ} where
  -- of rows that say the same
  pub first-same : {A B : R → Type 0} {n : ℕ} → ((r : R) → A r → B r) → ((r : R) → (A r → ⊥) → B r → ⊥) → FirstBy number A n → FirstBy number B n
  first-same to not (no_row e h) = no_row e (λ r. not r (h r))
  first-same to not (first_row r e h l) = first_row r e (to r h) (λ q m. not q (l q m))

  -- there is only one
  pub first-unique : {A : R → Type 0} {m n : ℕ} → FirstBy number A m → FirstBy number A n → m ≡ n
  first-unique (no_row e h) (no_row f k) = e ∙ sym f
  first-unique (no_row e h) (first_row r f k l) = absurd (h r k)
  first-unique (first_row r e h l) (no_row f k) = absurd (k r h)
  first-unique {m = m} {n = n} (first_row r e h l) (first_row s f k j) = same_rank (λ w. j r w h) (λ w. l s w k)
    where
      same_rank : (rank_of (number r) < rank_of (number s) → ⊥) → (rank_of (number s) < rank_of (number r) → ⊥) → m ≡ n
      same_rank x y = ⊎_elim (λ z. e ∙ rank_same (number r) (number s) z ∙ sym f) (λ z. absurd (⊎_elim x y z)) (trichotomy (rank_of (number r)) (rank_of (number s)))

-- ---- the five rows of a line

pub numbers : (r : Row) → number_of r ≡ 0 → ⊥
numbers unread z = omega arith
numbers bad_name z = omega arith
numbers bad_value z = omega arith
numbers bad_count z = omega arith
numbers bad_area z = omega arith

pub firsts : {A B : Row → Type 0} {a b : ℕ} → First A a → First B b → First (λ r. A r ⊎ B r) (first_of a b)
firsts = firsts-by numbers

-- a row by its number, where no earlier one holds

module _ {A : Row → Type 0} {n : ℕ} where
  pub at_none : n ≡ 0 → (A unread → ⊥) → (A bad_name → ⊥) → (A bad_value → ⊥) → (A bad_count → ⊥) → (A bad_area → ⊥) → First A n
  at_none e u v w x y = no_row e go
    where
      go : (r : Row) → A r → ⊥
      go unread = u
      go bad_name = v
      go bad_value = w
      go bad_count = x
      go bad_area = y

  pub at-unread : n ≡ 1 → A unread → First A n
  unfolding rank_of
  at-unread e h = first_row unread e h go
    where
      go : (q : Row) → rank_of (number_of q) < rank_of 1 → A q → ⊥
      go unread m = absurd (omega arith)
      go bad_name m = absurd (omega arith)
      go bad_value m = absurd (omega arith)
      go bad_count m = absurd (omega arith)
      go bad_area m = absurd (omega arith)

  pub at_name : n ≡ 2 → A bad_name → (A unread → ⊥) → First A n
  unfolding rank_of
  at_name e h u = first_row bad_name e h go
    where
      go : (q : Row) → rank_of (number_of q) < rank_of 2 → A q → ⊥
      go unread m = u
      go bad_name m = absurd (omega arith)
      go bad_value m = absurd (omega arith)
      go bad_count m = absurd (omega arith)
      go bad_area m = absurd (omega arith)

  pub at_value : n ≡ 3 → A bad_value → (A unread → ⊥) → (A bad_name → ⊥) → First A n
  unfolding rank_of
  at_value e h u v = first_row bad_value e h go
    where
      go : (q : Row) → rank_of (number_of q) < rank_of 3 → A q → ⊥
      go unread m = u
      go bad_name m = v
      go bad_value m = absurd (omega arith)
      go bad_count m = absurd (omega arith)
      go bad_area m = absurd (omega arith)

  pub at_count : n ≡ 4 → A bad_count → (A unread → ⊥) → (A bad_name → ⊥) → (A bad_value → ⊥) → First A n
  unfolding rank_of
  at_count e h u v w = first_row bad_count e h go
    where
      go : (q : Row) → rank_of (number_of q) < rank_of 4 → A q → ⊥
      go unread m = u
      go bad_name m = v
      go bad_value m = w
      go bad_count m = absurd (omega arith)
      go bad_area m = absurd (omega arith)

  pub at-area : n ≡ 5 → A bad_area → (A unread → ⊥) → (A bad_name → ⊥) → (A bad_value → ⊥) → (A bad_count → ⊥) → First A n
  unfolding rank_of
  at-area e h u v w x = first_row bad_area e h go
    where
      go : (q : Row) → rank_of (number_of q) < rank_of 5 → A q → ⊥
      go unread m = u
      go bad_name m = v
      go bad_value m = w
      go bad_count m = x
      go bad_area m = absurd (omega arith)
