-- Without a percentage a template gathers the same at every inner size. Assumes nothing.
use Prim.Native.Nat.{ℕ, zero, suc}
use mathlib.Core.Path.{◌≡◌, refl, ap}
use mathlib.Core.Bool.{Bool, true, false, cond, true≢false}
use mathlib.Core.List.{List, [], ◌∷◌, map}
use lib.Dec.{eqb, leb}
use lib.ListN.{length, get_or}
use lib.Ieee.{Float}
use Rattle.sizing.specs.Words.{zero32, sizing_of, sizing_of_kind, kind_of}
use Rattle.sizing.specs.Sums.{sum_from}
use Rattle.sizing.specs.Definite.{definite_of}
use Rattle.sizing.specs.declared.Sizing.{Sizing}
use Rattle.sizing.specs.declared.Sizing.TheVariants.{Length, Percent, Fraction, Auto, MinContent, MaxContent, FitContentLength, FitContentPercent}
use Rattle.sizing.specs.declared.MinMax.{MinMax}
use Rattle.template_rules.specs.Template.{Component, component_of, track_at, tracks_from, template_of}
use Rattle.template_rules.specs.Counts.{is_automatic, automatic_tracks}
use Rattle.template_rules.specs.Space.{track_space, repeated_space, repeated_track_space, single_space, counted_space, space_of, outside_space, repetition_space}
use Rattle.template_rules.specs.Summary.{meaning_of, no_components}
use Rattle.template_rules.specs.declared.RepetitionCount.{RepetitionCount}
use Rattle.template_rules.specs.declared.RepetitionCount.TheVariants.{Single, Count, AutoFill, AutoFit}
use Rattle.template_rules.specs.declared.TemplateSummary.{TemplateSummary}
use Rattle.explicit_size.specs.Repeat.{gathered_of}
use Rattle.least_resize.specs.Percentages.{has_percentage}

-- ---- one size
any-size : (s : Sizing) (x y : Float) → eqb (kind_of s) 1 ≡ false → definite_of s x ≡ definite_of s y
any-size (Length v) x y h = refl
any-size (Percent p) x y h = absurd (true≢false h)
any-size (Fraction v) x y h = refl
any-size Auto x y h = refl
any-size MinContent x y h = refl
any-size MaxContent x y h = refl
any-size (FitContentLength v) x y h = refl
any-size (FitContentPercent p) x y h = refl

-- past the end of a table stands a length
past_end : eqb (kind_of (sizing_of 0)) 1 ≡ false
unfolding sizing_of sizing_of_kind
past_end = refl

no_percentage : (ws : List ℕ) (i : ℕ) → has_percentage ws ≡ false → eqb (kind_of (sizing_of (get_or ws i 0))) 1 ≡ false
unfolding has_percentage
no_percentage [] i h = past_end
no_percentage (w ∷ ws) zero h = go (eqb (kind_of (sizing_of w)) 1) h
  where
    go : (t : Bool) → cond t true (has_percentage ws) ≡ false → t ≡ false
    go true e = absurd (true≢false e)
    go false e = refl
no_percentage (w ∷ ws) (suc i) h = no_percentage ws i (go (eqb (kind_of (sizing_of w)) 1) h)
  where
    go : (t : Bool) → cond t true (has_percentage ws) ≡ false → has_percentage ws ≡ false
    go true e = absurd (true≢false e)
    go false e = e

both : {A : Type 0} (a b : A) (s t : List A) → a ≡ b → s ≡ t → a ∷ s ≡ b ∷ t
both a b s t p q = cc

-- ---- a template
module _ (minimums maximums : List ℕ) (low : has_percentage minimums ≡ false) (high : has_percentage maximums ≡ false) (x y : Float) where
  track : (place : ℕ) → track_space x (track_at minimums maximums place) ≡ track_space y (track_at minimums maximums place)
  track place =
      rw (any-size (sizing_of (get_or minimums place 0)) x y (no_percentage minimums place low), any-size (sizing_of (get_or maximums place 0)) x y (no_percentage maximums place high))

  tracks : (f : Float → Float) (n place : ℕ)
      → map (λ (t : MinMax). f (track_space x t)) (tracks_from minimums maximums place n) ≡ map (λ (t : MinMax). f (track_space y t)) (tracks_from minimums maximums place n)
  unfolding tracks_from
  tracks f zero place = refl
  tracks f (suc n) place = both _ _ _ _ (ap f (track place)) (tracks f n (suc place))

  single : (n place : ℕ) → single_space x (tracks_from minimums maximums place n) ≡ single_space y (tracks_from minimums maximums place n)
  unfolding tracks_from
  single zero place = refl
  single (suc n) place = track place

  space : (k : RepetitionCount) (n place : ℕ) → space_of x k (tracks_from minimums maximums place n) ≡ space_of y k (tracks_from minimums maximums place n)
  space Single n place = single n place
  space (Count times) n place = ap (λ (l : List Float). counted_space (sum_from zero32 l) times) (tracks (λ (v : Float). v) n place)
  space AutoFill n place = refl
  space AutoFit n place = refl

  spaces : (words : List ℕ)
      → map (λ (c : Component). space_of x c.count c.tracks) (template_of words minimums maximums) ≡ map (λ (c : Component). space_of y c.count c.tracks) (template_of words minimums maximums)
  unfolding template_of
  spaces [] = refl
  spaces (w ∷ ws) = both _ _ _ _ (space (component_of w).count (component_of w).length (component_of w).first) (spaces ws)

  repeated : (words : List ℕ)
      → map (repeated_track_space x) (automatic_tracks (template_of words minimums maximums)) ≡ map (repeated_track_space y) (automatic_tracks (template_of words minimums maximums))
  unfolding template_of automatic_tracks
  repeated [] = refl
  repeated (w ∷ ws) = go (is_automatic (component_of w).count) (repeated ws)
    where
      own : List MinMax
      own = tracks_from minimums maximums (component_of w).first (component_of w).length

      rest : List MinMax
      rest = automatic_tracks (template_of ws minimums maximums)

      go : (t : Bool) → map (repeated_track_space x) rest ≡ map (repeated_track_space y) rest → map (repeated_track_space x) (cond t own rest) ≡ map (repeated_track_space y) (cond t own rest)
      go true h = tracks repeated_space (component_of w).length (component_of w).first
      go false h = h

  outside-constant : (words : List ℕ) → outside_space x (template_of words minimums maximums) ≡ outside_space y (template_of words minimums maximums)
  unfolding outside_space
  outside-constant words = ap (sum_from zero32) (spaces words)

  repetition-constant : (words : List ℕ) → repetition_space x (template_of words minimums maximums) ≡ repetition_space y (template_of words minimums maximums)
  unfolding repetition_space
  repetition-constant words = ap (sum_from zero32) (repeated words)

  same_spaces : (s t : TemplateSummary) → s.empty ≡ t.empty → s.fixed ≡ t.fixed → s.automatic ≡ t.automatic → s.outside ≡ t.outside → s.before ≡ t.before → s.repeated ≡ t.repeated
      → s.used ≡ t.used → s.once ≡ t.once → s ≡ t
  same_spaces s t a b c d e f g h i =
      record { empty = a i; fixed = b i; automatic = c i; outside = d i; before = e i; repeated = f i; used = g i; once = h i }

  -- the law
  pub no-percentage-constant : (words : List ℕ) → meaning_of x (template_of words minimums maximums) ≡ meaning_of y (template_of words minimums maximums)
  no-percentage-constant words = same_spaces _ _ refl refl refl refl refl refl (outside-constant words) (repetition-constant words)

  pub gathered-constant : (words : List ℕ) → gathered_of x (template_of words minimums maximums) ≡ gathered_of y (template_of words minimums maximums)
  unfolding gathered_of
  gathered-constant words = ap (λ (s : TemplateSummary). cond (leb (length (template_of words minimums maximums)) 64) s no_components) (no-percentage-constant words)
