-- The number of automatic repetitions is CSS's, by document 01's f32 quotient and limit, and CSS's number is unique. Assumes nothing.
use Rattle.std.proofs.Common.{◌≡◌, ℕ, zero, suc, ◌+◌, ◌-◌, ◌*◌, ◌<◌, ◌≤◌, min, max, Bool, true, false, cond, leb, ◌⊎◌, List, length, sym, refl, ◌∙◌, inl, inr, ⊎_elim, le_refl, le_antisymm, arith, le-leb, leb-false, leb-true, Option, Some, None}
use mathlib.Core.Bool.{false≢true}
use borrow.Author.Tests.{lt-leb}
use lib.Ieee.{Float, lt}
use Rattle.sizing.specs.Definite.{gap_of}
use Rattle.sizing.specs.declared.Sizing.{Sizing}
use Rattle.template_rules.specs.Template.{Component}
use Rattle.template_rules.specs.Counts.{before_count, automatic_tracks}
use Rattle.template_rules.specs.Exact.{AtMost, AtLeast}
use Rattle.template_rules.specs.Whole.{floor_of, ceiling_of}
use Rattle.template_rules.specs.Summary.{meaning_of}
use Rattle.template_rules.specs.Repetitions.{first_space, quotient, one_more, fitting_of, wanted_of, room, held_of, repetitions_of}
use Rattle.template_rules.specs.Explicit.{inner_value}
use Rattle.template_rules.specs.Css.{Largest, Smallest, Wanted, Repetitions}
use Rattle.template_rules.specs.declared.AutoRepeatStrategy.{AutoRepeatStrategy}
use Rattle.template_rules.specs.declared.AutoRepeatStrategy.TheVariants.{MaxRepetitionsThatDoNotOverflow, MinRepetitionsThatDoOverflow}
use Rattle.template_rules.proofs.Held.{begins_in_room, in_room_begins, room-some, room_most}
use Rattle.template_rules.proofs.Exact.{floor_greatest, ceiling_least}

-- ---- the held count, with t whether the first repetition overflows and q the quotient
held_count : ℕ → ℕ → ℕ → ℕ
held_count p k n = max 1 (min n (room p k))

module _ (p k : ℕ) (some : 0 < k) (free : p < 10000) (q : Float) where
  abbrev MayFit : Bool → ℕ → Type 0
  MayFit t n = (1 ≤ n) × (p + (n - 1) * k < 10000) × ((n ≡ 1) ⊎ ((t ≡ true → ⊥) × AtMost (n - 1) q))

  abbrev MayStop : Bool → ℕ → Type 0
  MayStop t n = (1 ≤ n) × (((t ≡ true) ⊎ AtLeast (n - 1) q) ⊎ (p + n * k < 10000 → ⊥))

  -- from 1 on, a number in the room begins inside the limit, and the other way round
  inside : (n : ℕ) → 1 ≤ n → n ≤ room p k → p + (n - 1) * k < 10000
  inside n h r = in_room_begins p k (n - 1) some free (back n (room p k) h r)
    where
      back : (n r : ℕ) → 1 ≤ n → n ≤ r → n - 1 + 1 ≤ r
      back n r h g = omega arith

  within : (n : ℕ) → 1 ≤ n → p + (n - 1) * k < 10000 → n ≤ room p k
  within n h b = forth n (room p k) h (begins_in_room p k (n - 1) some free b)
    where
      forth : (n r : ℕ) → 1 ≤ n → n - 1 + 1 ≤ r → n ≤ r
      forth n r h g = omega arith

  -- by the greatest whole number not above the quotient
  below_floor : (n : ℕ) → n ≤ 10000 → AtMost (n - 1) q → n ≤ floor_of q + 1
  below_floor zero h a = omega arith
  below_floor (suc zero) h a = omega arith
  below_floor (suc (suc n)) h a = next n (floor_of q) ((floor_greatest q (suc (suc n) - 1) (first n) (last n h)).0 a)
    where
      first : (n : ℕ) → 1 ≤ suc (suc n) - 1
      first n = omega arith

      last : (n : ℕ) → suc (suc n) ≤ 10000 → suc (suc n) - 1 ≤ 4294967295
      last n h = omega arith

      next : (n f : ℕ) → suc (suc n) - 1 ≤ f → suc (suc n) ≤ f + 1
      next n f h = omega arith

  floor-below : (n : ℕ) → 1 ≤ n → n ≤ 10000 → n ≤ floor_of q + 1 → (n ≡ 1) ⊎ AtMost (n - 1) q
  floor-below zero g h a = absurd (never g)
    where
      never : 1 ≤ 0 → ⊥
      never h = omega arith
  floor-below (suc zero) g h a = inl refl
  floor-below (suc (suc n)) g h a = inr ((floor_greatest q (suc (suc n) - 1) (first n) (last n h)).1 (next n (floor_of q) a))
    where
      first : (n : ℕ) → 1 ≤ suc (suc n) - 1
      first n = omega arith

      last : (n : ℕ) → suc (suc n) ≤ 10000 → suc (suc n) - 1 ≤ 4294967295
      last n h = omega arith

      next : (n f : ℕ) → suc (suc n) ≤ f + 1 → suc (suc n) - 1 ≤ f
      next n f h = omega arith

  largest-fit : (t : Bool) → Largest (MayFit t) (held_count p k (cond t 1 (one_more (floor_of q))))
  unfolding held_count
  largest-fit true =
      let one : max 1 (min 1 (room p k)) ≡ 1 = single (room p k) (room-some p k some free) in
      rw one (record {
        holds = (omega arith, inside 1 (omega arith) (room-some p k some free), inl refl);
        largest = λ m h. ⊎_elim (λ e. equal m e) (λ a. absurd (a.0 refl)) h.2;
      })
    where
      single : (r : ℕ) → 1 ≤ r → max 1 (min 1 r) ≡ 1
      single r h = omega arith

      equal : (m : ℕ) → m ≡ 1 → m ≤ 1
      equal m e = omega arith
  largest-fit false =
      let n = max 1 (min (one_more (floor_of q)) (room p k)) in
      let s : 1 ≤ room p k = room-some p k some free in
      let m : room p k ≤ 10000 = room_most p k some free in
      let low : 1 ≤ n = first (floor_of q) (room p k) in
      let high : n ≤ room p k = last (floor_of q) (room p k) s in
      record {
        holds = (
          low,
          inside n low high,
          ⊎_elim (λ e. inl e) (λ a. inr ((λ e. false≢true e), a)) (floor-below n low (both n (room p k) high m) (whole (floor_of q) (room p k))),
        );
        largest = λ i h.
            let r : i ≤ room p k = within i h.0 h.1 in
            top i (floor_of q) (room p k) r m (⊎_elim (λ e. equal i (floor_of q) e) (λ a. below_floor i (both i (room p k) r m) a.1) h.2);
      }
    where
      first : (f r : ℕ) → 1 ≤ max 1 (min (min (f + 1) 4294967295) r)
      first f r = omega arith

      last : (f r : ℕ) → 1 ≤ r → max 1 (min (min (f + 1) 4294967295) r) ≤ r
      last f r h = omega arith

      whole : (f r : ℕ) → max 1 (min (min (f + 1) 4294967295) r) ≤ f + 1
      whole f r = omega arith

      both : (n r : ℕ) → n ≤ r → r ≤ 10000 → n ≤ 10000
      both n r h g = omega arith

      equal : (i f : ℕ) → i ≡ 1 → i ≤ f + 1
      equal i f e = omega arith

      top : (i f r : ℕ) → i ≤ r → r ≤ 10000 → i ≤ f + 1 → i ≤ max 1 (min (min (f + 1) 4294967295) r)
      top i f r h g l = omega arith

  -- by the least whole number not below the quotient
  smallest-stop : (t : Bool) → Smallest (MayStop t) (held_count p k (cond t 1 (one_more (ceiling_of q))))
  unfolding held_count
  smallest-stop true =
      let one : max 1 (min 1 (room p k)) ≡ 1 = single (room p k) (room-some p k some free) in
      rw one (record { holds = (omega arith, inl (inl refl)); smallest = λ m h. h.0 })
    where
      single : (r : ℕ) → 1 ≤ r → max 1 (min 1 r) ≡ 1
      single r h = omega arith
  smallest-stop false =
      let s : 1 ≤ room p k = room-some p k some free in
      let m : room p k ≤ 10000 = room_most p k some free in
      record {
        holds = (first (ceiling_of q) (room p k), stops s m (leb (ceiling_of q + 1) (room p k)) refl);
        smallest = λ i h. ⊎_elim (λ a. ⊎_elim (λ e. absurd (false≢true e)) (λ b. reached i h.0 m b (leb i 10000) refl) a) (λ f. past s i f) h.1;
      }
    where
      first : (c r : ℕ) → 1 ≤ max 1 (min (min (c + 1) 4294967295) r)
      first c r = omega arith

      held : ℕ
      held = max 1 (min (min (ceiling_of q + 1) 4294967295) (room p k))

      at-ceiling : (c r : ℕ) → c + 1 ≤ r → r ≤ 10000 → max 1 (min (min (c + 1) 4294967295) r) - 1 ≡ c
      at-ceiling c r h m = omega arith

      at_room : (c r : ℕ) → r < c + 1 → 1 ≤ r → r ≤ 10000 → max 1 (min (min (c + 1) 4294967295) r) ≡ r
      at_room c r h s m = omega arith

      small : (c r : ℕ) → c + 1 ≤ r → r ≤ 10000 → c < 4294967295
      small c r h m = omega arith

      never : (r : ℕ) → r + 1 ≤ r → ⊥
      never r h = omega arith

      stops : 1 ≤ room p k → room p k ≤ 10000 → (t : Bool) → leb (ceiling_of q + 1) (room p k) ≡ t → ((false ≡ true) ⊎ AtLeast (held - 1) q) ⊎ (p + held * k < 10000 → ⊥)
      stops s m true e =
          let h : ceiling_of q + 1 ≤ room p k = leb-true (ceiling_of q + 1) (room p k) e in
          inl (inr (rw (at-ceiling (ceiling_of q) (room p k) h m) ((ceiling_least q (ceiling_of q) (small (ceiling_of q) (room p k) h m)).1 (le_refl (ceiling_of q)))))
      stops s m false e =
          let r : held ≡ room p k = at_room (ceiling_of q) (room p k) (leb-false (ceiling_of q + 1) (room p k) e) s m in
          inr (λ b. never (room p k) (begins_in_room p k (room p k) some free (rw r at b)))

      covered : (i c r : ℕ) → 1 ≤ i → c ≤ i - 1 → max 1 (min (min (c + 1) 4294967295) r) ≤ i
      covered i c r h g = omega arith

      beyond : (i c r : ℕ) → 10000 < i → r ≤ 10000 → max 1 (min (min (c + 1) 4294967295) r) ≤ i
      beyond i c r h g = omega arith

      few : (i : ℕ) → i ≤ 10000 → i - 1 < 4294967295
      few i h = omega arith

      reached : (i : ℕ) → 1 ≤ i → room p k ≤ 10000 → AtLeast (i - 1) q → (t : Bool) → leb i 10000 ≡ t → held ≤ i
      reached i h m a true e = covered i (ceiling_of q) (room p k) h ((ceiling_least q (i - 1) (few i (leb-true i 10000 e))).0 a)
      reached i h m a false e = beyond i (ceiling_of q) (room p k) (leb-false i 10000 e) m

      ended : (i c r : ℕ) → 1 ≤ r → (i + 1 ≤ r → ⊥) → max 1 (min (min (c + 1) 4294967295) r) ≤ i
      ended i c r h f = omega arith

      past : 1 ≤ room p k → (i : ℕ) → (p + i * k < 10000 → ⊥) → held ≤ i
      past s i f = ended i (ceiling_of q) (room p k) s (λ r. f (in_room_begins p k i some free r))

-- ---- the theorem: for every template with tracks in its automatic repeat
pub repetitions_css : (inner : Option Float) (strategy : AutoRepeatStrategy) (gap : Sizing) (cs : List Component) → 0 < length (automatic_tracks cs)
    → Repetitions inner strategy gap cs (repetitions_of inner strategy gap (meaning_of (inner_value inner) cs))
unfolding repetitions_of held_of fitting_of held_count
repetitions_css inner strategy gap cs h = record { full = λ g. rw (le-leb 10000 (before_count cs) g); wanted = λ g. rw (lt-leb 10000 (before_count cs) g) (go inner strategy g) }
  where
    p : ℕ
    p = before_count cs

    k : ℕ
    k = length (automatic_tracks cs)

    single : (r : ℕ) → 1 ≤ r → max 1 (min 1 r) ≡ 1
    single r h = omega arith

    go : (inner : Option Float) (strategy : AutoRepeatStrategy) → p < 10000 → Wanted inner strategy gap cs (held_count p k (wanted_of inner strategy gap (meaning_of (inner_value inner) cs)))
    go (Some x) MaxRepetitionsThatDoNotOverflow g =
        largest-fit p k h g (quotient (meaning_of x cs) x (gap_of gap x)) (lt x (first_space (meaning_of x cs) (gap_of gap x)))
    go (Some x) MinRepetitionsThatDoOverflow g =
        smallest-stop p k h g (quotient (meaning_of x cs) x (gap_of gap x)) (lt x (first_space (meaning_of x cs) (gap_of gap x)))
    go None strategy g = single (room p k) (room-some p k h g)

-- ---- and there is one such number only
pub repetitions_unique : (inner : Option Float) (strategy : AutoRepeatStrategy) (gap : Sizing) (cs : List Component) (n m : ℕ)
    → Repetitions inner strategy gap cs n → Repetitions inner strategy gap cs m → n ≡ m
repetitions_unique inner strategy gap cs n m a b = go (leb 10000 (before_count cs)) refl
  where
    same : (inner : Option Float) (strategy : AutoRepeatStrategy) → Wanted inner strategy gap cs n → Wanted inner strategy gap cs m → n ≡ m
    same (Some x) MaxRepetitionsThatDoNotOverflow v w = le_antisymm (w.largest n v.holds) (v.largest m w.holds)
    same (Some x) MinRepetitionsThatDoOverflow v w = le_antisymm (v.smallest m w.holds) (w.smallest n v.holds)
    same None strategy v w = v ∙ sym w

    go : (t : Bool) → leb 10000 (before_count cs) ≡ t → n ≡ m
    go true e = let h = leb-true 10000 (before_count cs) e in a.full h ∙ sym (b.full h)
    go false e = let h = leb-false 10000 (before_count cs) e in same inner strategy (a.wanted h) (b.wanted h)
