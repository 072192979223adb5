-- Names in two parts. Assumes nothing.
use mathlib.Core.Path.{◌≡◌, refl, sym, ◌∙◌, ap}
use mathlib.Core.Bool.{Bool, true, false, cond, ◌&&◌}
use mathlib.Core.List.{[], ◌∷◌, ◌++◌}
use mathlib.Core.Logic.{◌⊎◌, inl, inr, ⊎_elim}
use native.Mathlib.Decide.{dec_lt}
use Prim.Native.Nat.{ℕ, ◌+◌, ◌-◌, ◌≤◌, ◌<◌}
use native.Mathlib.Omega.{arith}
use borrow.Author.Tests.{le-leb, lt-leb, eqb-true, eq-eqb}
use lib.Dec.{eqb, leb}
use lib.ListN.{length, take, drop, get_or, length-append, length-drop, take-append-drop}
use lib.Seq.{get_or-append-add}
use Rattle.name_rules.specs.Css.{Bytes, start, end, suffix}
use Rattle.name_rules.specs.Rule.{eq_bytes}
use Rattle.name_lines.specs.Suffixes.{ends_with, edge_of, stem_of}
use Rattle.std.specs.Prelude.{Option, Some, None}
use Rattle.name_lines.specs.declared.GridAreaEnd.{GridAreaEnd}
use Rattle.name_lines.specs.declared.GridAreaEnd.TheVariants.{Start, End}

pub never : {X : Type 0} → ◌≡◌ {A = Bool} false true → X
never e = absurd (let z : ◌≡◌ {A = ℕ} 0 1 = cc in omega arith)

pub both : (a b : Bool) → a && b ≡ true → (a ≡ true) × (b ≡ true)
both true b h = (refl, h)
both false b h = never h

pub eq_bytes_lem : (a b : Bytes) → eq_bytes a b ≡ true → a ≡ b
eq_bytes_lem [] [] h = refl
eq_bytes_lem [] (y ∷ b) h = never h
eq_bytes_lem (x ∷ a) [] h = never h
eq_bytes_lem (x ∷ a) (y ∷ b) h =
    let w = both (eqb x y) (eq_bytes a b) h in
    let p : x ≡ y = eqb-true x y w.0 in
    let q : a ≡ b = eq_bytes_lem a b w.1 in
    cc

pub bytes_eq : (a : Bytes) → eq_bytes a a ≡ true
bytes_eq [] = refl
bytes_eq (x ∷ a) = rw (eq-eqb x x refl, bytes_eq a)

not_true : (b : Bool) → (b ≡ true → ⊥) → b ≡ false
not_true true h = absurd (h refl)
not_true false h = refl

pub bytes-differ : (a b : Bytes) → (a ≡ b → ⊥) → eq_bytes a b ≡ false
bytes-differ a b h = not_true (eq_bytes a b) (λ e. h (eq_bytes_lem a b e))

-- two tests that hold together are one
same_test : (a b : Bool) → (a ≡ true → b ≡ true) → (b ≡ true → a ≡ true) → a ≡ b
same_test true b f g = sym (f refl)
same_test false true f g = g refl
same_test false false f g = refl

bytes_sym : (a b : Bytes) → eq_bytes a b ≡ eq_bytes b a
bytes_sym a b =
    same_test (eq_bytes a b) (eq_bytes b a) (λ h. rw (eq_bytes_lem a b h) (bytes_eq b)) (λ h. rw (eq_bytes_lem b a h) (bytes_eq a))

-- what `ends_with` on slices says
pub ends_tail : (n s : Bytes) → eq_bytes s (drop (length n - length s) n) ≡ ends_with n s
ends_tail n s = ⊎_elim (λ (g : length n < length s). short g) (λ (g : length s ≤ length n). whole g) (split (length n) (length s))
  where
    split : (k m : ℕ) → (k < m) ⊎ (m ≤ k)
    split k m = elim (dec_lt k m) [ yes g ↦ inl g | no g ↦ inr (omega arith) ]

    short : length n < length s → eq_bytes s (drop (length n - length s) n) ≡ ends_with n s
    short g = rw (lt-leb (length s) (length n) g) (bytes-differ s (drop (length n - length s) n) (λ e. omega (arith, ap length e, length-drop (length n - length s) n)))

    whole : length s ≤ length n → eq_bytes s (drop (length n - length s) n) ≡ ends_with n s
    whole g = rw (le-leb (length s) (length n) g) (bytes_sym s (drop (length n - length s) n))

-- a name that ends in a suffix is its stem and the suffix
pub ends_stem : (n s : Bytes) → ends_with n s ≡ true → n ≡ take (length n - length s) n ++ s
ends_stem n s h =
    let e : drop (length n - length s) n ≡ s = eq_bytes_lem _ s (both (leb (length s) (length n)) _ h).1 in
    sym (ap (λ (l : Bytes). take (length n - length s) n ++ l) (sym e) ∙ take-append-drop (length n - length s) n)

drop_stem : (a s : Bytes) → drop (length a) (a ++ s) ≡ s
drop_stem [] s = refl
drop_stem (x ∷ a) s = drop_stem a s

pub ends_joined : (a s : Bytes) → ends_with (a ++ s) s ≡ true
ends_joined a s =
    let n : length (a ++ s) ≡ length a + length s = length-append a s in
    let d : length (a ++ s) - length s ≡ length a = omega arith in
    rw (le-leb (length s) (length (a ++ s)) (omega arith), d, drop_stem a s) (bytes_eq s)

-- the last parts are the same
cancel : (a b s : Bytes) → a ++ s ≡ b ++ s → a ≡ b
cancel [] [] s e = refl
cancel [] (y ∷ b) s e = absurd (omega (arith, ap length e, length-append b s))
cancel (x ∷ a) [] s e = absurd (omega (arith, ap length e, length-append a s))
cancel (x ∷ a) (y ∷ b) s e = let h : x ≡ y = cc in let t : a ++ s ≡ b ++ s = cc in let r : a ≡ b = cancel a b s t in cc

pub stems : (a b s : Bytes) → eq_bytes (a ++ s) (b ++ s) ≡ eq_bytes a b
stems a b s =
    same_test (eq_bytes (a ++ s) (b ++ s)) (eq_bytes a b)
    (λ h. rw (cancel a b s (eq_bytes_lem (a ++ s) (b ++ s) h)) (bytes_eq b))
    (λ h. rw (eq_bytes_lem a b h) (bytes_eq (b ++ s)))

-- a name that ends in the tail is compared before it; any other is not joined
pub joined : (n a s : Bytes) → eq_bytes (drop (length n - length s) n) s ≡ true → eq_bytes (take (length n - length s) n) a ≡ eq_bytes n (a ++ s)
joined n a s h =
    let e : n ≡ take (length n - length s) n ++ s = ends_stem n s (sym (ends_tail n s) ∙ bytes_sym s (drop (length n - length s) n) ∙ h) in
    sym (stems (take (length n - length s) n) a s) ∙ ap (λ (t : Bytes). eq_bytes t (a ++ s)) (sym e)

pub not_joined : (n a s : Bytes) → eq_bytes (drop (length n - length s) n) s ≡ false → eq_bytes n (a ++ s) ≡ false
not_joined n a s h =
    bytes-differ n (a ++ s) (λ e. let q : ends_with n s ≡ true = rw e (ends_joined a s) in never (sym h ∙ bytes_sym (drop (length n - length s) n) s ∙ ends_tail n s ∙ q))

-- a name of another length is not joined
pub other_length : (n a s : Bytes) → (length n ≡ length a + length s → ⊥) → eq_bytes n (a ++ s) ≡ false
other_length n a s h = bytes-differ n (a ++ s) (λ e. h (ap length e ∙ length-append a s))

pub and_no : (a : Bool) → (a && false) ≡ false
and_no true = refl
and_no false = refl

pub and_yes : (a : Bool) → (a && true) ≡ a
and_yes true = refl
and_yes false = refl

-- `-start` and `-end` end in other bytes
pub other_ends : (a b : Bytes) → a ++ suffix start ≡ b ++ suffix end → ⊥
other_ends a b e =
    let n : length a + 6 ≡ length b + 4 = sym (length-append a (suffix start)) ∙ ap length e ∙ length-append b (suffix end) in
    let i : length a + 5 ≡ length b + 3 = omega arith in
    let l : get_or (a ++ suffix start) (length a + 5) 0 ≡ 116 = get_or-append-add a (suffix start) 5 0 in
    let r : get_or (b ++ suffix end) (length b + 3) 0 ≡ 100 = get_or-append-add b (suffix end) 3 0 in
    let z : ◌≡◌ {A = ℕ} 116 100 = sym l ∙ rw (e, i) r in
    omega arith

pub not-joined : (a n s : Bytes) → ends_with n s ≡ false → eq_bytes (a ++ s) n ≡ false
not-joined a n s h = bytes-differ (a ++ s) n (λ e. let q : ends_with n s ≡ true = rw (← e) (ends_joined a s) in never (sym h ∙ q))

-- what a name is made of, by the edge that it stands for
abbrev pub MadeOf : Bytes → Option GridAreaEnd → Type 0
MadeOf n (Some Start) = stem_of n (Some Start) ++ suffix start ≡ n
MadeOf n (Some End) = stem_of n (Some End) ++ suffix end ≡ n
MadeOf n None = (ends_with n (suffix start) ≡ false) × (ends_with n (suffix end) ≡ false)

pub made_of : (n : Bytes) → MadeOf n (edge_of n)
unfolding edge_of
made_of n = go (ends_with n (suffix start)) (ends_with n (suffix end)) refl refl
  where
    go : (a b : Bool) → ends_with n (suffix start) ≡ a → ends_with n (suffix end) ≡ b → MadeOf n (cond a (Some Start) (cond b (Some End) None))
    go true b e f = sym (ends_stem n (suffix start) e)
    go false true e f = sym (ends_stem n (suffix end) f)
    go false false e f = (e, f)
