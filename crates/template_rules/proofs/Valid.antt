-- A template is valid by the walk exactly if it is valid in CSS's words. Assumes nothing.
use Rattle.std.proofs.lemmas.Bool.{or_parts, and_parts}
use Rattle.std.proofs.Common.{◌≡◌, ℕ, zero, suc, ◌+◌, ◌<◌, ◌≤◌, Bool, true, false, cond, not, ◌&&◌, ◌||◌, eqb, ◌⊎◌, ◌↔◌, List, [], ◌∷◌, length, get_or, refl, ap, ◌∙◌, inl, inr, ⊎_elim, suc-le-suc, zero-le, le_of_suc-le-suc, not-suc-le-zero, arith, eqb-true}
use mathlib.Core.Bool.{false≢true}
use mathlib.Core.List.Memᴰ
use mathlib.Core.List.{Memᴰ}
use lib.Ieee.{Float}
use Rattle.sizing.specs.Definite.{is_definite, is_fixed, fixed_track, track_value_of}
use Rattle.sizing.proofs.Fixed.{fixed_track_definite}
use Rattle.sizing.specs.declared.MinMax.{MinMax}
use Rattle.template_rules.specs.Template.{Component}
use Rattle.template_rules.specs.Counts.{is_automatic, is_empty, automatic_count, any_empty, all_fixed, every_fixed}
use Rattle.template_rules.specs.Summary.{meaning_of}
use Rattle.template_rules.specs.Explicit.{valid_of}
use Rattle.template_rules.specs.Css.{Automatic, FixedPart, no_component, Valid}
use Rattle.template_rules.specs.declared.RepetitionCount.{RepetitionCount}
use Rattle.template_rules.specs.declared.RepetitionCount.TheVariants.{Single, Count, AutoFill, AutoFit}
use Rattle.template_rules.proofs.Tests.{above_test, test_above}

-- ---- tests of two parts
either : (a b : Bool) → (a || b) ≡ true → (a ≡ true) ⊎ (b ≡ true)
either true b e = inl refl
either false b e = inr e

from_either : (a b : Bool) → (a ≡ true) ⊎ (b ≡ true) → (a || b) ≡ true
from_either true b e = refl
from_either false b (inl e) = absurd (false≢true e)
from_either false b (inr e) = e

-- ---- no repeat without tracks, and no written count of 0
repeat_filled : (k : RepetitionCount) (n : ℕ) → is_empty k n ≡ false → (k ≡ Single → ⊥) → 0 < n
repeat_filled Single n e h = absurd (h refl)
repeat_filled (Count times) n e h = above_test n (or_parts (eqb n 0) (eqb times 0) e).0
repeat_filled AutoFill n e h = above_test n e
repeat_filled AutoFit n e h = above_test n e

count-written : (k : RepetitionCount) (n : ℕ) → is_empty k n ≡ false → (times : ℕ) → k ≡ Count times → 1 ≤ times
count-written k n e times q = above_test times (or_parts (eqb n 0) (eqb times 0) (rw q at e)).1

filled_repeat : (k : RepetitionCount) (n : ℕ) → ((k ≡ Single → ⊥) → 0 < n) → ((times : ℕ) → k ≡ Count times → 1 ≤ times) → is_empty k n ≡ false
filled_repeat Single n h g = refl
filled_repeat (Count times) n h g = rw (test_above n (h (λ e. let z : ◌≡◌ {A = ℕ} 0 1 = cc in omega arith))) (test_above times (g times refl))
filled_repeat AutoFill n h g = test_above n (h (λ e. let z : ◌≡◌ {A = ℕ} 0 1 = cc in omega arith))
filled_repeat AutoFit n h g = test_above n (h (λ e. let z : ◌≡◌ {A = ℕ} 0 1 = cc in omega arith))

-- each component of a template without such a repeat is none
each_filled : (cs : List Component) → any_empty cs ≡ false → (c : Component) → Memᴰ c cs → is_empty c.count (length c.tracks) ≡ false
unfolding any_empty
each_filled [] e c m = absurd (Memᴰ.not-nil m)
each_filled (d ∷ cs) e c m =
    let p = or_parts (is_empty d.count (length d.tracks)) (any_empty cs) e in
    ⊎_elim (λ s. rw s p.0) (λ t. each_filled cs p.1 c t) (Memᴰ.cases_cons m)

filled_each : (cs : List Component) → ((c : Component) → Memᴰ c cs → is_empty c.count (length c.tracks) ≡ false) → any_empty cs ≡ false
unfolding any_empty
filled_each [] h = refl
filled_each (d ∷ cs) h = rw (h d (Memᴰ.head refl), filled_each cs (λ c m. h c (Memᴰ.tail m)))

pub none_empty : (cs : List Component) → Valid cs → any_empty cs ≡ false
none_empty cs v = filled_each cs (λ c m. filled_repeat c.count (length c.tracks) (v.filled c m) (v.written c m))

-- ---- every track has a fixed part
track-fixed : (ts : List MinMax) → all_fixed ts ≡ true → (t : MinMax) → Memᴰ t ts → FixedPart t
unfolding all_fixed
track-fixed [] e t m = absurd (Memᴰ.not-nil m)
track-fixed (u ∷ ts) e t m =
    let p = and_parts (fixed_track u) (all_fixed ts) e in
    ⊎_elim (λ s. either (is_fixed t.min) (is_fixed t.max) (rw s p.0)) (λ n. track-fixed ts p.1 t n) (Memᴰ.cases_cons m)

fixed-tracks : (ts : List MinMax) → ((t : MinMax) → Memᴰ t ts → FixedPart t) → all_fixed ts ≡ true
unfolding all_fixed
fixed-tracks [] h = refl
fixed-tracks (u ∷ ts) h = rw (from_either (is_fixed u.min) (is_fixed u.max) (h u (Memᴰ.head refl)), fixed-tracks ts (λ t m. h t (Memᴰ.tail m)))

all-fixed : (cs : List Component) → every_fixed cs ≡ true → (c : Component) → Memᴰ c cs → (t : MinMax) → Memᴰ t c.tracks → FixedPart t
unfolding every_fixed
all-fixed [] e c m = absurd (Memᴰ.not-nil m)
all-fixed (d ∷ cs) e c m =
    let p = and_parts (all_fixed d.tracks) (every_fixed cs) e in
    ⊎_elim (λ s. track-fixed c.tracks (rw s p.0)) (λ n. all-fixed cs p.1 c n) (Memᴰ.cases_cons m)

fixed-all : (cs : List Component) → ((c : Component) → Memᴰ c cs → (t : MinMax) → Memᴰ t c.tracks → FixedPart t) → every_fixed cs ≡ true
unfolding every_fixed
fixed-all [] h = refl
fixed-all (d ∷ cs) h = rw (fixed-tracks d.tracks (h d (Memᴰ.head refl)), fixed-all cs (λ c m. h c (Memᴰ.tail m)))

-- ---- at most one automatic repeat
counts_in_lem : (cs : List Component) (i : ℕ) → i < length cs → Automatic (get_or cs i no_component) → 0 < automatic_count cs
unfolding automatic_count
counts_in_lem [] i h a = absurd (not-suc-le-zero h)
counts_in_lem (d ∷ cs) zero h a = rw a (some (automatic_count cs))
  where
    some : (n : ℕ) → 0 < 1 + n
    some n = omega arith
counts_in_lem (d ∷ cs) (suc i) h a = more (cond (is_automatic d.count) 1 0) (automatic_count cs) (counts_in_lem cs i (le_of_suc-le-suc h) a)
  where
    more : (k n : ℕ) → 0 < n → 0 < k + n
    more k n h = omega arith

-- a place of an automatic repeat, and two places
record Place (cs : List Component) : Type 0 where
  place : ℕ
  inside : place < length cs
  automatic : Automatic (get_or cs place no_component)

later : (d : Component) (cs : List Component) → Place cs → Place (d ∷ cs)
later d cs p = record { place = suc p.place; inside = suc-le-suc p.inside; automatic = p.automatic }

place_of : (cs : List Component) → 0 < automatic_count cs → Place cs
unfolding automatic_count
place_of [] h = absurd (not-suc-le-zero h)
place_of (d ∷ cs) h = go (is_automatic d.count) refl h (place_of cs)
  where
    rest : (n : ℕ) → 0 < 0 + n → 0 < n
    rest n h = omega arith

    go : (t : Bool) → is_automatic d.count ≡ t → 0 < cond t 1 0 + automatic_count cs → (0 < automatic_count cs → Place cs) → Place (d ∷ cs)
    go true e h f = record { place = zero; inside = suc-le-suc zero-le; automatic = e }
    go false e h f = later d cs (f (rest (automatic_count cs) h))

member : (cs : List Component) (i : ℕ) → i < length cs → Memᴰ (get_or cs i no_component) cs
member [] i h = absurd (not-suc-le-zero h)
member (d ∷ cs) zero h = Memᴰ.head refl
member (d ∷ cs) (suc i) h = Memᴰ.tail (member cs i (le_of_suc-le-suc h))

pub in_count : (cs : List Component) (a : Component) → Memᴰ a cs → Automatic a → 0 < automatic_count cs
unfolding automatic_count
in_count [] a m e = absurd (Memᴰ.not-nil m)
in_count (d ∷ cs) a m e = ⊎_elim (λ s. here s) (λ n. more (cond (is_automatic d.count) 1 0) (automatic_count cs) (in_count cs a n e)) (Memᴰ.cases_cons m)
  where
    some : (n : ℕ) → 0 < 1 + n
    some n = omega arith

    here : a ≡ d → 0 < cond (is_automatic d.count) 1 0 + automatic_count cs
    here s = rw (← s, e) (some (automatic_count cs))

    more : (k n : ℕ) → 0 < n → 0 < k + n
    more k n h = omega arith

one_place : (cs : List Component) → automatic_count cs ≤ 1 → (i j : ℕ) → i < length cs → j < length cs → Automatic (get_or cs i no_component) → Automatic (get_or cs j no_component) → i ≡ j
unfolding automatic_count
one_place [] h i j a b p q = absurd (not-suc-le-zero a)
one_place (d ∷ cs) h zero zero a b p q = refl
one_place (d ∷ cs) h zero (suc j) a b p q = absurd (two (automatic_count cs) (rw p at h) (counts_in_lem cs j (le_of_suc-le-suc b) q))
  where
    two : (n : ℕ) → 1 + n ≤ 1 → 0 < n → ⊥
    two n h g = omega arith
one_place (d ∷ cs) h (suc i) zero a b p q = absurd (two (automatic_count cs) (rw q at h) (counts_in_lem cs i (le_of_suc-le-suc a) p))
  where
    two : (n : ℕ) → 1 + n ≤ 1 → 0 < n → ⊥
    two n h g = omega arith
one_place (d ∷ cs) h (suc i) (suc j) a b p q = ap suc (one_place cs (rest (cond (is_automatic d.count) 1 0) (automatic_count cs) h) i j (le_of_suc-le-suc a) (le_of_suc-le-suc b) p q)
  where
    rest : (k n : ℕ) → k + n ≤ 1 → n ≤ 1
    rest k n h = omega arith

place-one : (cs : List Component) → ((i j : ℕ) → i < length cs → j < length cs → Automatic (get_or cs i no_component) → Automatic (get_or cs j no_component) → i ≡ j) → automatic_count cs ≤ 1
unfolding automatic_count
place-one [] h = zero-le
place-one (d ∷ cs) h = go (is_automatic d.count) refl (place-one cs (λ i j a b p q. back i j (h (suc i) (suc j) (suc-le-suc a) (suc-le-suc b) p q)))
  where
    back : (i j : ℕ) → suc i ≡ suc j → i ≡ j
    back i j e = cc

    apart : (i : ℕ) → zero ≡ suc i → ⊥
    apart i e = omega arith

    none : (n : ℕ) → (0 < n → ⊥) → 1 + n ≤ 1
    none n f = omega arith

    zero_more : (n : ℕ) → n ≤ 1 → 0 + n ≤ 1
    zero_more n h = omega arith

    go : (t : Bool) → is_automatic d.count ≡ t → automatic_count cs ≤ 1 → cond t 1 0 + automatic_count cs ≤ 1
    go true e k = none (automatic_count cs) (λ s. let p = place_of cs s in apart p.place (h zero (suc p.place) (suc-le-suc zero-le) (suc-le-suc p.inside) e p.automatic))
    go false e k = zero_more (automatic_count cs) k

-- ---- validity
pub valid_css : (inner : Float) (cs : List Component) → (valid_of (meaning_of inner cs) ≡ true) ↔ Valid cs
valid_css inner cs = (there, back)
  where
    opened : (a : Bool) → not a ≡ true → a ≡ false
    opened true e = absurd (false≢true e)
    opened false e = refl

    few : (n : ℕ) (f : Bool) → (eqb n 0 || (eqb n 1 && f)) ≡ true → n ≤ 1
    few n f e = ⊎_elim (λ a. zeroth n (eqb-true n 0 a)) (λ a. first n (eqb-true n 1 (and_parts (eqb n 1) f a).0)) (either (eqb n 0) (eqb n 1 && f) e)
      where
        zeroth : (n : ℕ) → n ≡ 0 → n ≤ 1
        zeroth n e = omega arith

        first : (n : ℕ) → n ≡ 1 → n ≤ 1
        first n e = omega arith

    some-fixed : (n : ℕ) (f : Bool) → (eqb n 0 || (eqb n 1 && f)) ≡ true → 0 < n → f ≡ true
    some-fixed n f e h = ⊎_elim (λ a. absurd (never n (eqb-true n 0 a) h)) (λ a. (and_parts (eqb n 1) f a).1) (either (eqb n 0) (eqb n 1 && f) e)
      where
        never : (n : ℕ) → n ≡ 0 → 0 < n → ⊥
        never n e h = omega arith

    there : valid_of (meaning_of inner cs) ≡ true → Valid cs
    there e =
        let p = and_parts (not (any_empty cs)) (eqb (automatic_count cs) 0 || (eqb (automatic_count cs) 1 && every_fixed cs)) e in
        record {
          filled = λ c m. repeat_filled c.count (length c.tracks) (each_filled cs (opened (any_empty cs) p.0) c m);
          written = λ c m. count-written c.count (length c.tracks) (each_filled cs (opened (any_empty cs) p.0) c m);
          once = one_place cs (few (automatic_count cs) (every_fixed cs) p.1);
          fixed = λ a m s. all-fixed cs (some-fixed (automatic_count cs) (every_fixed cs) p.1 (in_count cs a m s));
        }

    count-test : (n : ℕ) (f : Bool) → n ≤ 1 → (0 < n → f ≡ true) → (eqb n 0 || (eqb n 1 && f)) ≡ true
    count-test zero f h g = refl
    count-test (suc zero) f h g = g (omega arith)
    count-test (suc (suc n)) f h g = absurd (many n h)
      where
        many : (n : ℕ) → suc (suc n) ≤ 1 → ⊥
        many n h = omega arith

    back : Valid cs → valid_of (meaning_of inner cs) ≡ true
    back v =
        let fixed : 0 < automatic_count cs → every_fixed cs ≡ true = λ s. let p = place_of cs s in fixed-all cs (v.fixed (get_or cs p.place no_component) (member cs p.place p.inside) p.automatic) in
        rw (none_empty cs v) (count-test (automatic_count cs) (every_fixed cs) (place-one cs v.once) fixed)

-- in a valid template with an automatic repeat every track has a definite size
pub valid_definite : (cs : List Component) → Valid cs → 0 < automatic_count cs → (inner : Float) (c : Component) → Memᴰ c cs → (t : MinMax) → Memᴰ t c.tracks
    → is_definite (track_value_of t inner) ≡ true
valid_definite cs v h inner c m t n =
    let p = place_of cs h in
    fixed_track_definite t inner
    ∙ from_either (is_fixed t.min) (is_fixed t.max) (v.fixed (get_or cs p.place no_component) (member cs p.place p.inside) p.automatic c m t n)

-- a valid template has one automatic repeat at most
pub one_at_most : (cs : List Component) → Valid cs → (automatic_count cs ≡ 0) ⊎ (automatic_count cs ≡ 1)
one_at_most cs v = go (automatic_count cs) (place-one cs v.once)
  where
    go : (n : ℕ) → n ≤ 1 → (n ≡ 0) ⊎ (n ≡ 1)
    go zero h = inl refl
    go (suc n) h = inr (omega arith)

-- where there is an automatic repeat, it is a component
pub automatic_component : (cs : List Component) → 0 < automatic_count cs → (c : Component) × Memᴰ c cs × Automatic c
automatic_component cs h = let p = place_of cs h in (get_or cs p.place no_component, member cs p.place p.inside, p.automatic)
