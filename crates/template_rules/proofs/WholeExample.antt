-- The conditions of the law in whole numbers can be met: a single of 100, two tracks of 10 and a fill, gap 10, in 359. Of a fill of 100 one repetition fits, two
-- reach; of one of 0, which counts as 1, 19 fit, 20 reach. Assumes nothing.
use Rattle.std.proofs.Common.{◌≡◌, ◌≤◌, T, List, [], ◌∷◌, length, sym, refl, subst, ⊎_elim, lit<, lit≤, Some}
use mathlib.Core.List.Memᴰ
use mathlib.Core.List.{Memᴰ}
use lib.Ieee.{Float, binary32, of_bits, add, sub, mul, div, lt, of_int}
use Rattle.sizing.specs.Words.{zero32}
use Rattle.sizing.specs.Ranges.{up_to, largest_length, sizing_in_range}
use Rattle.sizing.specs.declared.Sizing.{Sizing}
use Rattle.sizing.specs.declared.Sizing.TheVariants.{Length}
use Rattle.sizing.specs.declared.MinMax.{MinMax}
use Rattle.template_rules.specs.Template.{Component}
use Rattle.template_rules.specs.Counts.{automatic_count, any_empty, every_fixed}
use Rattle.template_rules.specs.Explicit.{explicit_size_of}
use Rattle.template_rules.specs.Css.{Valid}
use Rattle.template_rules.specs.CssWhole.{IsWhole, IsWholeIn, written_out, extent_of, grid_extent, RepeatIn, WholeRepetitions, InRange, WholeSizes}
use Rattle.template_rules.specs.declared.RepetitionCount.{RepetitionCount}
use Rattle.template_rules.specs.declared.RepetitionCount.TheVariants.{Single, Count, AutoFill}
use Rattle.template_rules.specs.declared.AutoRepeatStrategy.TheVariants.{MaxRepetitionsThatDoNotOverflow, MinRepetitionsThatDoOverflow}
use Rattle.template_rules.proofs.Valid.{valid_css}
use Rattle.template_rules.proofs.CssWhole.{answer-whole}

-- 359, 0, 10 and 100 by their bits
abbrev inner : Float
inner = of_bits binary32 0x43b3_8000

abbrev ten : Sizing
ten = Length (of_bits binary32 0x4120_0000)

abbrev wide : Float
wide = of_bits binary32 0x42c8_0000

abbrev hundred : Sizing
hundred = Length wide

-- components of one track of one size
abbrev component : RepetitionCount → Sizing → Component
component count size = record { count = count; tracks = record { min = size; max = size } ∷ [] }

abbrev pub template : Float → List Component
template v = component Single hundred ∷ component (Count 2) ten ∷ component AutoFill (Length v) ∷ []

-- what holds of each component, and of its one track
each : (P : Component → Type 0) (a b c : Component) → P a → P b → P c → (d : Component) → Memᴰ d (a ∷ b ∷ c ∷ []) → P d
each P a b c p q r d m =
    ⊎_elim (λ e. subst P (sym e) p) (λ n. ⊎_elim (λ e. subst P (sym e) q) (λ k. subst P (sym (Memᴰ.eq_of_singleton k)) r) (Memᴰ.cases_cons n)) (Memᴰ.cases_cons m)

only : (P : MinMax → Type 0) (t : MinMax) → P t → (u : MinMax) → Memᴰ u (t ∷ []) → P u
only P t p u m = subst P (sym (Memᴰ.eq_of_singleton m)) p

abbrev tracks-whole : Component → Type 0
tracks-whole c = (t : MinMax) → Memᴰ t c.tracks → IsWholeIn inner t.min × IsWholeIn inner t.max

abbrev tracks_in_range : Component → Type 0
tracks_in_range c = (t : MinMax) → Memᴰ t c.tracks → T (sizing_in_range t.min) × T (sizing_in_range t.max)

whole-track : (count : RepetitionCount) (size : Sizing) → IsWholeIn inner size → tracks-whole (component count size)
whole-track count size h = only (λ (t : MinMax). IsWholeIn inner t.min × IsWholeIn inner t.max) (record { min = size; max = size }) (h, h)

track_range : (count : RepetitionCount) (size : Sizing) → T (sizing_in_range size) → tracks_in_range (component count size)
track_range count size h = only (λ (t : MinMax). T (sizing_in_range t.min) × T (sizing_in_range t.max)) (record { min = size; max = size }) (h, h)

abbrev pub place : (v : Float) → RepeatIn (template v)
place v = record { before = component Single hundred ∷ component (Count 2) ten ∷ []; repeat = component AutoFill (Length v); after = []; parts = refl; automatic = refl }

pub in_range : (v : Float) → T (up_to largest_length v) → InRange (template v)
unfolding up_to of_bits
in_range v h =
    record {
      single = each (λ (c : Component). c.count ≡ Single → length c.tracks ≡ 1) (component Single hundred) (component (Count 2) ten) (component AutoFill (Length v)) (λ e. refl) (λ e. refl) (λ e. refl);
      few = each (λ (c : Component). length c.tracks ≤ 65535) (component Single hundred) (component (Count 2) ten) (component AutoFill (Length v)) (lit≤ tt) (lit≤ tt) (lit≤ tt);
      sizes =
          each tracks_in_range (component Single hundred) (component (Count 2) ten) (component AutoFill (Length v))
          (track_range Single hundred tt) (track_range (Count 2) ten tt) (track_range AutoFill (Length v) h);
    }

pub whole-sizes : (v : Float) → IsWhole v → WholeSizes inner ten (template v)
unfolding up_to of_bits
whole-sizes v h =
    record {
      inner = (refl, refl);
      inner_in_range = tt;
      gap = (refl, refl);
      gap_in_range = tt;
      sizes =
          each tracks-whole (component Single hundred) (component (Count 2) ten) (component AutoFill (Length v))
          (whole-track Single hundred (refl, refl)) (whole-track (Count 2) ten (refl, refl)) (whole-track AutoFill (Length v) h);
    }

pub valid : (v : Float) → Valid (template v)
unfolding any_empty automatic_count every_fixed
valid v = (valid_css inner (template v)).0 refl

-- 100 + 2 * 10 + 100 and three gaps, and one repetition more; the fill of 0 counts as 1
pub extents : (grid_extent inner ten (template wide) 1 ≡ 250) × (grid_extent inner ten (template wide) 2 ≡ 360)
unfolding of_bits written_out extent_of
extents = (refl, refl)

pub thin_extents : (grid_extent inner ten (template zero32) 1 ≡ 151) × (grid_extent inner ten (template zero32) 2 ≡ 162)
unfolding of_bits written_out extent_of
thin_extents = (refl, refl)

-- so the law gives the repetitions that the rule answers: 1 by max, 2 by min
pub one-fits : WholeRepetitions (Some inner) MaxRepetitionsThatDoNotOverflow ten (template wide) (place wide) 1
unfolding explicit_size_of written_out up_to of_bits lt add mul of_int div sub
one-fits = answer-whole (Some inner) MaxRepetitionsThatDoNotOverflow ten 0 (template wide) (place wide) (valid wide) (in_range wide tt) (whole-sizes wide (refl, refl)) (lit< tt) refl

pub two-reach : WholeRepetitions (Some inner) MinRepetitionsThatDoOverflow ten (template wide) (place wide) 2
unfolding explicit_size_of written_out up_to of_bits lt add mul of_int div sub
two-reach = answer-whole (Some inner) MinRepetitionsThatDoOverflow ten 0 (template wide) (place wide) (valid wide) (in_range wide tt) (whole-sizes wide (refl, refl)) (lit< tt) refl

-- and of the fill of 0, 19 by max, 20 by min
pub nineteen_fit : WholeRepetitions (Some inner) MaxRepetitionsThatDoNotOverflow ten (template zero32) (place zero32) 19
unfolding explicit_size_of written_out up_to of_bits lt add mul of_int div sub
nineteen_fit = answer-whole (Some inner) MaxRepetitionsThatDoNotOverflow ten 0 (template zero32) (place zero32) (valid zero32) (in_range zero32 tt) (whole-sizes zero32 (refl, refl)) (lit< tt) refl

pub twenty_reach : WholeRepetitions (Some inner) MinRepetitionsThatDoOverflow ten (template zero32) (place zero32) 20
unfolding explicit_size_of written_out up_to of_bits lt add mul of_int div sub
twenty_reach = answer-whole (Some inner) MinRepetitionsThatDoOverflow ten 0 (template zero32) (place zero32) (valid zero32) (in_range zero32 tt) (whole-sizes zero32 (refl, refl)) (lit< tt) refl
