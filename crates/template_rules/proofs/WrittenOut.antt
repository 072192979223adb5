-- The tracks of a template as written out: how many they are, what they measure, and that one automatic repetition more adds the same each time. Assumes nothing.
use Rattle.std.proofs.Common.{◌≡◌, ℕ, zero, suc, ◌+◌, ◌-◌, ◌*◌, ◌<◌, Bool, true, false, cond, List, [], ◌∷◌, ◌++◌, length, sym, refl, ap, ◌∙◌, true≢false, append_assoc, add_assoc, arith, length-append}
use mathlib.Core.List.{Memᴰ}
use lib.ListN.{length-map}
use lib.Ieee.{Float}
use Rattle.sizing.specs.declared.Sizing.{Sizing}
use Rattle.sizing.specs.declared.MinMax.{MinMax}
use Rattle.template_rules.specs.Template.{Component}
use Rattle.template_rules.specs.Counts.{is_automatic, outside_of, outside_count, automatic_count, before_count, automatic_tracks}
use Rattle.template_rules.specs.Css.{Automatic}
use Rattle.template_rules.specs.CssWhole.{length_in, times_of, TrackIn, tracks_of, tracks_times, written_out, measure_in, extent_of, grid_extent}
use Rattle.template_rules.specs.declared.RepetitionCount.{RepetitionCount}
use Rattle.template_rules.specs.declared.RepetitionCount.TheVariants.{Single, Count, AutoFill, AutoFit}

-- ---- tracks without gaps
unfoldable pub total_of : Float → List TrackIn → ℕ
total_of inner [] = 0
total_of inner (t ∷ ts) = measure_in inner t + total_of inner ts

pub extent_total : (inner : Float) (gap : ℕ) (ts : List TrackIn) → extent_of inner gap ts ≡ total_of inner ts + gap * (length ts - 1)
unfolding extent_of total_of
extent_total inner gap [] = none gap
  where
    none : (g : ℕ) → 0 ≡ 0 + g * 0
    none g = omega arith
extent_total inner gap (t ∷ []) = one (measure_in inner t) gap
  where
    one : (a g : ℕ) → a ≡ a + 0 + g * 0
    one a g = omega arith
extent_total inner gap (t ∷ (u ∷ ts)) = rw (extent_total inner gap (u ∷ ts)) (more (measure_in inner t) (measure_in inner u + total_of inner ts) gap (length ts))
  where
    more : (a b g n : ℕ) → a + g + (b + g * (suc n - 1)) ≡ a + b + g * (suc (suc n) - 1)
    more a b g n = rw (first n, second n) (omega arith)
      where
        first : (n : ℕ) → suc n - 1 ≡ n
        first n = omega arith

        second : (n : ℕ) → suc (suc n) - 1 ≡ n + 1
        second n = omega arith

pub total-append : (inner : Float) (ss ts : List TrackIn) → total_of inner (ss ++ ts) ≡ total_of inner ss + total_of inner ts
unfolding total_of
total-append inner [] ts = omega arith
total-append inner (s ∷ ss) ts = rw (total-append inner ss ts, add_assoc)

pub total-times : (inner : Float) (n : ℕ) (ts : List TrackIn) → total_of inner (tracks_times n ts) ≡ n * total_of inner ts
unfolding tracks_times total_of
total-times inner zero ts = omega arith
total-times inner (suc n) ts = total-append inner ts (tracks_times n ts) ∙ rw (total-times inner n ts) (more (total_of inner ts) n)
  where
    more : (a n : ℕ) → a + n * a ≡ suc n * a
    more a n = omega arith

pub length-times : (n : ℕ) (ts : List TrackIn) → length (tracks_times n ts) ≡ n * length ts
unfolding tracks_times
length-times zero ts = omega arith
length-times (suc n) ts = length-append ts (tracks_times n ts) ∙ rw (length-times n ts) (more (length ts) n)
  where
    more : (a n : ℕ) → a + n * a ≡ suc n * a
    more a n = omega arith

-- the tracks of a component so often
pub length_tracks_times : (n : ℕ) (count : RepetitionCount) (ts : List MinMax) → length (tracks_times n (tracks_of count ts)) ≡ n * length ts
length_tracks_times n count ts = length-times n (tracks_of count ts) ∙ ap (λ (l : ℕ). n * l) (length-map ts (λ (t : MinMax). record { count = count; track = t }))

-- ---- a template in two parts, and without an automatic repeat
written-append : (n : ℕ) (cs ds : List Component) → written_out n (cs ++ ds) ≡ written_out n cs ++ written_out n ds
unfolding written_out
written-append n [] ds = refl
written-append n (c ∷ cs) ds = rw (written-append n cs ds, append_assoc)

written_none : (n : ℕ) (cs : List Component) → automatic_count cs ≡ 0 → written_out n cs ≡ written_out 0 cs
unfolding written_out automatic_count
written_none n [] e = refl
written_none n (c ∷ cs) e = go c.count e (written_none n cs)
  where
    never : (n : ℕ) → 1 + n ≡ 0 → ⊥
    never n e = omega arith

    rest : (n : ℕ) → 0 + n ≡ 0 → n ≡ 0
    rest n e = omega arith

    go : (k : RepetitionCount) → cond (is_automatic k) 1 0 + automatic_count cs ≡ 0 → (automatic_count cs ≡ 0 → written_out n cs ≡ written_out 0 cs)
        → tracks_times (times_of n k) (tracks_of k c.tracks) ++ written_out n cs ≡ tracks_times (times_of 0 k) (tracks_of k c.tracks) ++ written_out 0 cs
    go Single e ih = ap (λ (l : List TrackIn). tracks_times 1 (tracks_of Single c.tracks) ++ l) (ih (rest (automatic_count cs) e))
    go (Count times) e ih = ap (λ (l : List TrackIn). tracks_times times (tracks_of (Count times) c.tracks) ++ l) (ih (rest (automatic_count cs) e))
    go AutoFill e ih = absurd (never (automatic_count cs) e)
    go AutoFit e ih = absurd (never (automatic_count cs) e)

-- ---- the counts of document 01, of templates whose singles are one track
abbrev pub Singles : List Component → Type 0
Singles cs = (c : Component) → Memᴰ c cs → c.count ≡ Single → length c.tracks ≡ 1

pub outside-written : (cs : List Component) → Singles cs → outside_count cs ≡ length (written_out 0 cs)
unfolding outside_count written_out
outside-written [] s = refl
outside-written (c ∷ cs) s =
    rw (
      length-append (tracks_times (times_of 0 c.count) (tracks_of c.count c.tracks)) (written_out 0 cs),
      length_tracks_times (times_of 0 c.count) c.count c.tracks,
      outside-written cs (λ d m. s d (Memᴰ.tail m)),
    )
    (go c.count (λ e. s c (Memᴰ.head refl) e))
  where
    same : (a n : ℕ) → a ≡ 1 → 1 + n ≡ 1 * a + n
    same a n e = omega arith

    go : (k : RepetitionCount) → (k ≡ Single → length c.tracks ≡ 1) → outside_of k (length c.tracks) + length (written_out 0 cs) ≡ times_of 0 k * length c.tracks + length (written_out 0 cs)
    go Single h = same (length c.tracks) (length (written_out 0 cs)) (h refl)
    go (Count times) h = refl
    go AutoFill h = ap (λ (n : ℕ). n + length (written_out 0 cs)) (omega arith)
    go AutoFit h = ap (λ (n : ℕ). n + length (written_out 0 cs)) (omega arith)

pub automatic_append : (cs ds : List Component) → automatic_count (cs ++ ds) ≡ automatic_count cs + automatic_count ds
unfolding automatic_count
automatic_append [] ds = omega arith
automatic_append (c ∷ cs) ds = rw (automatic_append cs ds, add_assoc)

-- ---- around the automatic repeat
module _ (before : List Component) (repeat : Component) (after : List Component) (automatic : Automatic repeat) where
  abbrev pub template : List Component
  template = before ++ (repeat ∷ after)

  one_more_lem : automatic_count (repeat ∷ after) ≡ 1 + automatic_count after
  unfolding automatic_count
  one_more_lem = rw automatic

  pub none_before : automatic_count template ≡ 1 → automatic_count before ≡ 0
  none_before e = go (automatic_count before) (automatic_count after) (sym (automatic_append before (repeat ∷ after) ∙ ap (λ (n : ℕ). automatic_count before + n) one_more_lem) ∙ e)
    where
      go : (a b : ℕ) → a + (1 + b) ≡ 1 → a ≡ 0
      go a b e = omega arith

  pub none_after : automatic_count template ≡ 1 → automatic_count after ≡ 0
  none_after e = go (automatic_count before) (automatic_count after) (sym (automatic_append before (repeat ∷ after) ∙ ap (λ (n : ℕ). automatic_count before + n) one_more_lem) ∙ e)
    where
      go : (a b : ℕ) → a + (1 + b) ≡ 1 → b ≡ 0
      go a b e = omega arith

  -- the tracks of the repeat
  abbrev pub own : List TrackIn
  own = tracks_of repeat.count repeat.tracks

  written-repeat : (n : ℕ) → written_out n (repeat ∷ after) ≡ tracks_times n own ++ written_out n after
  unfolding written_out
  written-repeat n = go repeat.count automatic
    where
      go : (k : RepetitionCount) → is_automatic k ≡ true → tracks_times (times_of n k) (tracks_of k repeat.tracks) ++ written_out n after ≡ tracks_times n (tracks_of k repeat.tracks) ++ written_out n after
      go Single a = absurd (true≢false (sym a))
      go (Count times) a = absurd (true≢false (sym a))
      go AutoFill a = refl
      go AutoFit a = refl

  -- with n repetitions: what stands before, the repeat n times, what stands after
  written-parts : automatic_count template ≡ 1 → (n : ℕ) → written_out n template ≡ written_out 0 before ++ (tracks_times n own ++ written_out 0 after)
  written-parts e n = written-append n before (repeat ∷ after) ∙ rw (written-repeat n, written_none n before (none_before e), written_none n after (none_after e))

  pub total-written : (inner : Float) → automatic_count template ≡ 1 → (n : ℕ) → total_of inner (written_out n template) ≡ total_of inner (written_out 0 template) + n * total_of inner own
  total-written inner e n =
      parts n ∙ sym (ap (λ (a : ℕ). a + n * total_of inner own) (parts 0) ∙ more (total_of inner (written_out 0 before)) (total_of inner own) (total_of inner (written_out 0 after)) n)
    where
      parts : (n : ℕ) → total_of inner (written_out n template) ≡ total_of inner (written_out 0 before) + (n * total_of inner own + total_of inner (written_out 0 after))
      parts n =
          ap (total_of inner) (written-parts e n)
          ∙ total-append inner (written_out 0 before) (tracks_times n own ++ written_out 0 after)
          ∙ rw (total-append inner (tracks_times n own) (written_out 0 after), total-times inner n own)

      more : (a b c n : ℕ) → a + (0 * b + c) + n * b ≡ a + (n * b + c)
      more a b c n = omega arith

  pub length-written : automatic_count template ≡ 1 → (n : ℕ) → length (written_out n template) ≡ length (written_out 0 template) + n * length repeat.tracks
  length-written e n = parts n ∙ sym (ap (λ (a : ℕ). a + n * length repeat.tracks) (parts 0) ∙ more (length (written_out 0 before)) (length repeat.tracks) (length (written_out 0 after)) n)
    where
      parts : (n : ℕ) → length (written_out n template) ≡ length (written_out 0 before) + (n * length repeat.tracks + length (written_out 0 after))
      parts n =
          ap length (written-parts e n)
          ∙ length-append (written_out 0 before) (tracks_times n own ++ written_out 0 after)
          ∙ rw (length-append (tracks_times n own) (written_out 0 after), length_tracks_times n repeat.count repeat.tracks)

      more : (a b c n : ℕ) → a + (0 * b + c) + n * b ≡ a + (n * b + c)
      more a b c n = omega arith

  -- document 01's p and k
  pub tracks-repeat : automatic_count template ≡ 1 → automatic_tracks template ≡ repeat.tracks
  unfolding automatic_tracks automatic_count
  tracks-repeat e = go before (none_before e)
    where
      go : (cs : List Component) → automatic_count cs ≡ 0 → automatic_tracks (cs ++ (repeat ∷ after)) ≡ repeat.tracks
      go [] e = rw automatic
      go (c ∷ cs) e = test (is_automatic c.count) e (go cs)
        where
          never : (n : ℕ) → 1 + n ≡ 0 → ⊥
          never n e = omega arith

          rest : (n : ℕ) → 0 + n ≡ 0 → n ≡ 0
          rest n e = omega arith

          test : (t : Bool) → cond t 1 0 + automatic_count cs ≡ 0 → (automatic_count cs ≡ 0 → automatic_tracks (cs ++ (repeat ∷ after)) ≡ repeat.tracks)
              → cond t c.tracks (automatic_tracks (cs ++ (repeat ∷ after))) ≡ repeat.tracks
          test true e ih = absurd (never (automatic_count cs) e)
          test false e ih = ih (rest (automatic_count cs) e)

  pub before-repeat : automatic_count template ≡ 1 → before_count template ≡ outside_count before
  unfolding before_count outside_count automatic_count
  before-repeat e = go before (none_before e)
    where
      go : (cs : List Component) → automatic_count cs ≡ 0 → before_count (cs ++ (repeat ∷ after)) ≡ outside_count cs
      go [] e = rw automatic
      go (c ∷ cs) e = test (is_automatic c.count) e (go cs)
        where
          never : (n : ℕ) → 1 + n ≡ 0 → ⊥
          never n e = omega arith

          rest : (n : ℕ) → 0 + n ≡ 0 → n ≡ 0
          rest n e = omega arith

          test : (t : Bool) → cond t 1 0 + automatic_count cs ≡ 0 → (automatic_count cs ≡ 0 → before_count (cs ++ (repeat ∷ after)) ≡ outside_count cs)
              → cond t 0 (outside_of c.count (length c.tracks) + before_count (cs ++ (repeat ∷ after))) ≡ outside_of c.count (length c.tracks) + outside_count cs
          test true e ih = absurd (never (automatic_count cs) e)
          test false e ih = ap (λ (n : ℕ). outside_of c.count (length c.tracks) + n) (ih (rest (automatic_count cs) e))

  -- one repetition more adds its tracks and a gap for each of them
  pub grid-grows : (inner : Float) (gap : Sizing) → automatic_count template ≡ 1 → 0 < length repeat.tracks → (n : ℕ)
      → grid_extent inner gap template (suc n) ≡ grid_extent inner gap template 1 + n * (total_of inner own + length repeat.tracks * length_in inner gap)
  grid-grows inner gap e some n =
      wide (suc n) ∙ more (total_of inner (written_out 0 template)) (total_of inner own) (length (written_out 0 template)) (length repeat.tracks) (length_in inner gap) n some
      ∙ sym (ap (λ (a : ℕ). a + n * (total_of inner own + length repeat.tracks * length_in inner gap)) (wide 1))
    where
      wide : (n : ℕ) → grid_extent inner gap template n
          ≡ total_of inner (written_out 0 template) + n * total_of inner own + length_in inner gap * (length (written_out 0 template) + n * length repeat.tracks - 1)
      wide n = extent_total inner (length_in inner gap) (written_out n template) ∙ rw (total-written inner e n, length-written e n)

      more : (u o l k g n : ℕ) → 0 < k → u + suc n * o + g * (l + suc n * k - 1) ≡ u + 1 * o + g * (l + 1 * k - 1) + n * (o + k * g)
      more u o l k g n h = rw (gaps l k n h) (omega arith)
        where
          gaps : (l k n : ℕ) → 0 < k → l + suc n * k - 1 ≡ l + 1 * k - 1 + n * k
          gaps l k n h = omega arith
