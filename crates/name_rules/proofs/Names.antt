-- The test of the implementation for a name on a line is the predicate of CSS; where all lines of a name are explicit. Assumes nothing.
use mathlib.Core.Path.{◌≡◌, refl}
use mathlib.Core.Logic.{◌⊎◌, inl, inr, ⊎_elim}
use mathlib.Core.Bool.{Bool, true, false, ◌&&◌, ◌||◌}
use mathlib.Core.List.Memᴰ
use mathlib.Core.List.{List, [], ◌∷◌, ◌++◌, Memᴰ}
use Prim.Native.Nat.{ℕ, suc, ◌≤◌}
use native.Mathlib.Omega.{arith}
use lib.Dec.{T, eqb, eqb→eq, eqb_refl}
use Rattle.name_rules.specs.Css.{Entry, Area, Side, start, end, suffix, edge, AxisNames, Bytes, Named, written, drawn}
use Rattle.name_rules.specs.Conditions.{NameLies, OnExplicitLines}
use Rattle.name_rules.specs.Rule.{any, eq_bytes, written?, drawn?, named?}

-- tests
pub both : (a b : Bool) → T (a && b) → T a × T b
both true b t = (tt, t)
both false b t = absurd t

pub and_T : (a b : Bool) → T a → T b → T (a && b)
and_T true b s t = t
and_T false b s t = s

or_left : (a b : Bool) → T a → T (a || b)
or_left true b t = tt
or_left false b t = absurd t

or_right : (a b : Bool) → T b → T (a || b)
or_right true b t = tt
or_right false b t = t

either : (a b : Bool) → T (a || b) → T a ⊎ T b
either true b t = inl tt
either false b t = inr t

pub eq_bytes→eq : (a b : Bytes) → T (eq_bytes a b) → a ≡ b
eq_bytes→eq [] [] t = refl
eq_bytes→eq [] (y ∷ b) t = absurd t
eq_bytes→eq (x ∷ a) [] t = absurd t
eq_bytes→eq (x ∷ a) (y ∷ b) t =
    let w : T (eqb x y) × T (eq_bytes a b) = both (eqb x y) (eq_bytes a b) t in
    let h : x ≡ y = eqb→eq x y w.0 in
    let r : a ≡ b = eq_bytes→eq a b w.1 in
    cc

pub eq_bytes_refl : (a : Bytes) → T (eq_bytes a a)
eq_bytes_refl [] = tt
eq_bytes_refl (x ∷ a) = and_T (eqb x x) (eq_bytes a a) (eqb_refl x) (eq_bytes_refl a)

module _ {A : Type 0} where
  any→mem : (f : A → Bool) (l : List A) → T (any f l) → (a : A) × Memᴰ a l × T (f a)
  any→mem f [] t = absurd t
  any→mem f (x ∷ l) t =
      ⊎_elim (λ h. (x, Memᴰ.head refl, h)) (λ h. let (a, m, r) = any→mem f l h in (a, Memᴰ.tail m, r)) (either (f x) (any f l) t)

  mem→any : (f : A → Bool) (a : A) (l : List A) → Memᴰ a l → T (f a) → T (any f l)
  mem→any f a [] m t = absurd (Memᴰ.not-nil m)
  mem→any f a (x ∷ l) m t =
      ⊎_elim (λ (e : a ≡ x). or_left (f x) (any f l) (rw (← e) t)) (λ h. or_right (f x) (any f l) (mem→any f a l h t)) (Memᴰ.cases_cons m)

-- the test of one line and one name
module _ (line number : ℕ) (name nm : Bytes) where
  test→ : T (eqb line number && eq_bytes name nm) → (line ≡ number) × (name ≡ nm)
  test→ t = let w = both (eqb line number) (eq_bytes name nm) t in (eqb→eq line number w.0, eq_bytes→eq name nm w.1)

  →test : line ≡ number → name ≡ nm → T (eqb line number && eq_bytes name nm)
  →test l n = and_T (eqb line number) (eq_bytes name nm) (rw l (eqb_refl number)) (rw n (eq_bytes_refl nm))

module _ (x : AxisNames) (nm : Bytes) (number : ℕ) where
  written→ : (e : Entry) → Memᴰ e x.book → T (written? nm number e) → Named x nm number
  written→ e m t = let w = test→ e.line number e.name nm t in written e m w.0 w.1

  -- one edge of an area
  abbrev edge? : Area → Side → Bool
  edge? a s = eqb (edge a s) number && eq_bytes (a.name ++ suffix s) nm

  edge→ : (a : Area) (s : Side) → Memᴰ a x.areas → T (edge? a s) → Named x nm number
  edge→ a s m t = let w = test→ (edge a s) number (a.name ++ suffix s) nm t in drawn a s m w.0 w.1

  →edge : (a : Area) (s : Side) → T (edge? a s) → T (drawn? nm number a)
  →edge a start t = or_left (edge? a start) (edge? a end) t
  →edge a end t = or_right (edge? a start) (edge? a end) t

  -- the test of the implementation is the predicate of CSS
  pub named→ : T (named? x nm number) → Named x nm number
  unfolding named?
  named→ t =
      ⊎_elim
      (λ h. let (e, m, r) = any→mem (written? nm number) x.book h in written→ e m r)
      (λ h. let (a, m, r) = any→mem (drawn? nm number) x.areas h in
      ⊎_elim (λ t. edge→ a start m t) (λ t. edge→ a end m t) (either (edge? a start) (edge? a end) r))
      (either (any (written? nm number) x.book) (any (drawn? nm number) x.areas) t)

  pub →named : Named x nm number → T (named? x nm number)
  unfolding named?
  →named (written e m l n) =
      or_left (any (written? nm number) x.book) (any (drawn? nm number) x.areas)
      (mem→any (written? nm number) e x.book m (→test e.line number e.name nm l n))
  →named (drawn a s m l n) =
      or_right (any (written? nm number) x.book) (any (drawn? nm number) x.areas)
      (mem→any (drawn? nm number) a x.areas m (→edge a s (→test (edge a s) number (a.name ++ suffix s) nm l n)))

-- every line of a name is explicit where the entries and the drawn edges of that name are
pub name_lies : (x : AxisNames) (nm : Bytes) → ((e : Entry) → Memᴰ e x.book → e.name ≡ nm → e.line ≤ suc x.explicit)
    → ((a : Area) (s : Side) → Memᴰ a x.areas → a.name ++ suffix s ≡ nm → edge a s ≤ suc x.explicit) → NameLies x nm
name_lies x nm entries areas k (written e m l n) = omega (arith, entries e m n)
name_lies x nm entries areas k (drawn a s m l n) = omega (arith, areas a s m n)

-- every name lies on an explicit line where every entry and every drawn edge does
pub all_lie : (x : AxisNames) → x.explicit ≤ 10000 → ((e : Entry) → Memᴰ e x.book → e.line ≤ suc x.explicit)
    → ((a : Area) (s : Side) → Memᴰ a x.areas → edge a s ≤ suc x.explicit) → OnExplicitLines x
all_lie x small entries areas =
    record { small = small; lies = λ nm. name_lies x nm (λ e m n. entries e m) (λ a s m n. areas a s m) }
