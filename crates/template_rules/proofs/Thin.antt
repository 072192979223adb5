-- A track in the automatic repeat counts as 1 where it measures less, else as what it measures; where none measures less, the explicit size is the one
-- with the crate's sum. Assumes nothing.
use Rattle.std.proofs.Common.{◌≡◌, ℕ, ◌*◌, ◌<◌, Bool, true, false, ◌&&◌, ◌||◌, eqb, ltb, List, [], ◌∷◌, map, sym, refl, ap, true≢false, le_of_eq, le_of_lt, arith, ltb-true, le-ltb, eqb-true, Option}
use mathlib.Core.List.{Memᴰ}
use lib.Ieee.{Float, nan, inf, fin, up, down, of_bits, lt, eq, le}
use lib.Ieee.Fits.{down_pos}
use Rattle.sizing.specs.Words.{zero32}
use Rattle.sizing.specs.Sums.{sum_from}
use Rattle.sizing.specs.declared.Sizing.{Sizing}
use Rattle.sizing.specs.declared.MinMax.{MinMax}
use Rattle.template_rules.specs.Template.{Component}
use Rattle.template_rules.specs.Counts.{automatic_tracks}
use Rattle.template_rules.specs.Space.{one32, track_space, repeated_space, repeated_track_space, repetition_space}
use Rattle.template_rules.specs.Explicit.{inner_value, explicit_size_of}
use Rattle.template_rules.specs.Crate.{crate_repetition_space, crate_size_of, Thick}
use Rattle.template_rules.specs.declared.AutoRepeatStrategy.{AutoRepeatStrategy}

-- ---- one track
pub thin_floor : (inner : Float) (t : MinMax)
    → (lt (track_space inner t) one32 ≡ true → repeated_track_space inner t ≡ one32) × (lt (track_space inner t) one32 ≡ false → repeated_track_space inner t ≡ track_space inner t)
unfolding repeated_space
thin_floor inner t = ((λ h. rw h), (λ h. rw h))

-- what is 1 or more is not below 1
not-below : (x : Float) → le one32 x ≡ true → lt x one32 ≡ false
unfolding le lt eq of_bits
not-below nan h = refl
not-below (inf true) h = absurd (true≢false (sym h))
not-below (inf false) h = refl
not-below (fin true m e) h = absurd (negative (1 * down e) (m * up e * 1) (one-times (down e) (down_pos e)) h)
  where
    one-times : (a : ℕ) → 0 < a → 0 < 1 * a
    one-times a h = omega arith

    negative : (a b : ℕ) → 0 < a → (eqb a b && eqb a 0) ≡ true → ⊥
    negative a b h e = go (eqb a b) (eqb a 0) refl e
      where
        none : a ≡ 0 → ⊥
        none e = omega arith

        go : (s t : Bool) → eqb a 0 ≡ t → (s && t) ≡ true → ⊥
        go true true e f = none (eqb-true a 0 e)
        go true false e f = true≢false (sym f)
        go false t e f = true≢false (sym f)
not-below (fin false m e) h = turned (1 * down e) (m * up e * 1) (ltb (1 * down e) (m * up e * 1)) (eqb (1 * down e) (m * up e * 1)) refl refl h
  where
    turned : (a b : ℕ) (s t : Bool) → ltb a b ≡ s → eqb a b ≡ t → (s || t && true) ≡ true → ltb b a ≡ false
    turned a b true t e f h = le-ltb b a (le_of_lt (ltb-true a b e))
    turned a b false true e f h = le-ltb b a (le_of_eq (eqb-true a b f))
    turned a b false false e f h = absurd (true≢false (sym h))

-- ---- a repeat of tracks that measure 1 or more
same_spaces : (inner : Float) (ts : List MinMax) → ((t : MinMax) → Memᴰ t ts → le one32 (track_space inner t) ≡ true) → map (repeated_track_space inner) ts ≡ map (track_space inner) ts
same_spaces inner [] h = refl
same_spaces inner (t ∷ ts) h = rw ((thin_floor inner t).1 (not-below (track_space inner t) (h t (Memᴰ.head refl))), same_spaces inner ts (λ u m. h u (Memᴰ.tail m)))

same_repetition : (inner : Float) (cs : List Component) → Thick inner cs → repetition_space inner cs ≡ crate_repetition_space inner cs
unfolding repetition_space crate_repetition_space
same_repetition inner cs h = ap (sum_from zero32) (same_spaces inner (automatic_tracks cs) h)

-- ---- the whole explicit size
pub thick_same : (inner : Option Float) (strategy : AutoRepeatStrategy) (gap : Sizing) (areas : ℕ) (cs : List Component) → Thick (inner_value inner) cs
    → explicit_size_of inner strategy gap areas cs ≡ crate_size_of inner strategy gap areas cs
unfolding explicit_size_of crate_size_of
thick_same inner strategy gap areas cs h = rw (same_repetition (inner_value inner) cs h)
