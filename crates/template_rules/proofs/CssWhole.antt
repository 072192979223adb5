-- The number of automatic repetitions is CSS's in whole numbers, over the tracks as written out, for every valid template in range. Assumes nothing.
use Rattle.std.proofs.Common.{◌≡◌, ℕ, zero, suc, ◌+◌, ◌-◌, ◌*◌, ◌^◌, ◌<◌, ◌≤◌, min, max, Bool, true, false, cond, T, ltb, leb, ◌⊎◌, ◌↔◌, List, [], ◌∷◌, ◌++◌, map, length, get_or, sym, refl, ap, ◌∙◌, subst, inl, inr, ⊎_elim, true≢false, le_trans, le_refl, le_of_lt, mul-le-mul_right, mul_comm, le_antisymm, le-mul_of_pos_right, le_of_mul-le-mul_right, arith, leb→le, length-append, ltb-false, ltb-true, leb-false, leb-true, Option, Some, None}
use native.Mathlib.Nat.{max-eq_left, max-eq_right, max-zero}
use mathlib.Core.List.Memᴰ
use mathlib.Core.List.{Memᴰ}
use borrow.Author.Tests.{lt-leb}
use lib.ListN.{length-map}
use lib.Ieee.{Float, nan, inf, fin, binary32, up, down, add, mul, lt}
use lib.Ieee.Fits.{down_pos}
use Rattle.sizing.specs.Words.{zero32}
use Rattle.sizing.specs.Sums.{sum_from}
use Rattle.sizing.specs.Ranges.{up_to, largest_length, sizing_in_range}
use Rattle.sizing.specs.Definite.{definite_of, raised_or, or_zero, gap_of, is_fixed}
use Rattle.sizing.proofs.Operations.{nonneg}
use Rattle.sizing.proofs.Running.{Small, Smalls, track-small, sum_finite}
use Rattle.sizing.proofs.Words.{sizing_in_range_lem}
use Rattle.sizing.specs.declared.Sizing.{Sizing}
use Rattle.sizing.specs.declared.Sizing.TheVariants.{Length, Percent, Fraction, Auto, MinContent, MaxContent, FitContentLength, FitContentPercent}
use Rattle.sizing.specs.declared.MinMax.{MinMax}
use Rattle.template_rules.specs.Template.{Component, component_of, tracks_from, with_tracks, template_of}
use Rattle.template_rules.specs.Counts.{is_automatic, outside_count, automatic_count, before_count, automatic_tracks}
use Rattle.template_rules.specs.Css.{Automatic, Largest, Valid}
use Rattle.template_rules.specs.Summary.{meaning_of}
use Rattle.template_rules.specs.Whole.{floor_of, ceiling_of}
use Rattle.template_rules.specs.Repetitions.{gaps_of, first_space, further_space, leftover, quotient, one_more, fitting_of, wanted_of, held_of, repetitions_of}
use Rattle.template_rules.specs.Explicit.{inner_value, explicit_size_of}
use Rattle.template_rules.specs.Space.{whole32, one32, track_space, repeated_track_space, space_in, single_space, counted_space, space_of, outside_space, repetition_space}
use Rattle.template_rules.specs.CssWhole.{number_of, length_in, IsWholeIn, measure_of, floored_in, times_of, tracks_of, tracks_times, written_out, grid_extent, MostThatFit, FewestThatReach, CssCount, held_to, RepeatIn, tracks_before, tracks_in, WholeRepetitions, InRange, WholeSizes, WholeIn}
use Rattle.template_rules.specs.declared.AutoRepeatStrategy.{AutoRepeatStrategy}
use Rattle.template_rules.specs.declared.AutoRepeatStrategy.TheVariants.{MaxRepetitionsThatDoNotOverflow, MinRepetitionsThatDoOverflow}
use Rattle.template_rules.specs.declared.RepetitionCount.{RepetitionCount}
use Rattle.template_rules.specs.declared.RepetitionCount.TheVariants.{Single, Count, AutoFill, AutoFit}
use Rattle.template_rules.specs.declared.TemplateSummary.{TemplateSummary}
use Rattle.template_rules.proofs.Bounds.{of_word, single_one, length-tracks}
use Rattle.template_rules.proofs.Valid.{in_count, one_at_most}
use Rattle.template_rules.proofs.Answer.{accepted, accepted-few, size-repeated}
use Rattle.template_rules.proofs.Thin.{thin_floor}
use Rattle.template_rules.proofs.WholeNumbers.{Is, is_whole, zero_is, one-is, count-is, Measures, is_measures, measured_is, add_measures, product_measures, counted_measures, below-is, below_measures, difference_is, floor-quotient, ceiling-quotient}
use Rattle.template_rules.proofs.WrittenOut.{total_of, extent_total, total-append, total-times, length_tracks_times, outside-written, total-written, length-written, tracks-repeat, before-repeat, grid-grows}

-- ---- a track
-- a definite size that is whole, and no definite size
abbrev Sized : Option Float → ℕ → Bool → Type 0
Sized (Some v) n b = Is v n × (b ≡ true)
Sized None n b = (n ≡ 0) × (b ≡ false)

sized : (inner : Float) (s : Sizing) → IsWholeIn inner s → Sized (definite_of s inner) (length_in inner s) (is_fixed s)
sized inner (Length v) h = (is_whole v h, refl)
sized inner (Percent p) h = (is_whole (mul binary32 p inner) h, refl)
sized inner (Fraction v) h = (refl, refl)
sized inner Auto h = (refl, refl)
sized inner MinContent h = (refl, refl)
sized inner MaxContent h = (refl, refl)
sized inner (FitContentLength v) h = (refl, refl)
sized inner (FitContentPercent p) h = (refl, refl)

sized-is : (d : Option Float) (n : ℕ) (b : Bool) → Sized d n b → Is (or_zero d) n
sized-is (Some v) n b h = h.0
sized-is None n b h = rw h.0 zero_is

raised_is : (d e : Option Float) (n m : ℕ) (b c : Bool) → Sized d n b → Sized e m c → Is (or_zero (raised_or d e)) (cond b (max n m) m)
raised_is (Some v) (Some w) n m b c h k = rw (h.1, below-is v w n m h.0 k.0) (go (ltb n m) refl)
  where
    go : (t : Bool) → ltb n m ≡ t → Is (cond t w v) (max n m)
    go true e = rw (max-eq_right (le_of_lt (ltb-true n m e))) k.0
    go false e = rw (max-eq_left (ltb-false n m e)) h.0
raised_is (Some v) None n m b c h k = rw (h.1, k.0, max-zero n) h.0
raised_is None e n m b c h k = rw h.1 (sized-is e m c k)

track-is : (inner : Float) (t : MinMax) → IsWholeIn inner t.min × IsWholeIn inner t.max → Is (track_space inner t) (measure_of inner t)
track-is inner t h =
    raised_is (definite_of t.max inner) (definite_of t.min inner) (length_in inner t.max) (length_in inner t.min) (is_fixed t.max) (is_fixed t.min) (sized inner t.max h.1) (sized inner t.min h.0)

-- what it counts as in its component
raised-one : (inner : Float) (t : MinMax) (n : ℕ) → Is (track_space inner t) n → Is (repeated_track_space inner t) (max 1 n)
raised-one inner t n h = go (ltb n 1) refl
  where
    go : (b : Bool) → ltb n 1 ≡ b → Is (repeated_track_space inner t) (max 1 n)
    go true e = rw ((thin_floor inner t).0 (below-is (track_space inner t) one32 n 1 h one-is ∙ e), max-eq_left (le_of_lt (ltb-true n 1 e))) one-is
    go false e = rw ((thin_floor inner t).1 (below-is (track_space inner t) one32 n 1 h one-is ∙ e), max-eq_right (ltb-false n 1 e)) h

floored_is : (k : RepetitionCount) (inner : Float) (t : MinMax) (n : ℕ) → Is (track_space inner t) n → Is (space_in k (track_space inner t)) (floored_in k n)
floored_is Single inner t n h = h
floored_is (Count times) inner t n h = h
floored_is AutoFill inner t n h = raised-one inner t n h
floored_is AutoFit inner t n h = raised-one inner t n h

-- ---- tracks in order
abbrev WholeTracks : Float → List MinMax → Type 0
WholeTracks inner ts = (t : MinMax) → Memᴰ t ts → IsWholeIn inner t.min × IsWholeIn inner t.max

abbrev RangeTracks : List MinMax → Type 0
RangeTracks ts = (t : MinMax) → Memᴰ t ts → T (sizing_in_range t.min) × T (sizing_in_range t.max)

-- what the tracks of a component count as
abbrev spaces_in : RepetitionCount → Float → List MinMax → List Float
spaces_in k inner ts = map (λ (t : MinMax). space_in k (track_space inner t)) ts

sum_measures : (k : RepetitionCount) (inner : Float) (ts : List MinMax) → WholeTracks inner ts → (x : Float) (a : ℕ) → Measures x a → Measures (sum_from x (spaces_in k inner ts)) (a + total_of inner (tracks_of k ts))
unfolding sum_from total_of
sum_measures k inner [] w x a h = subst (Measures x) (omega arith) h
sum_measures k inner (t ∷ ts) w x a h =
    let space = space_in k (track_space inner t) in
    let measure = floored_in k (measure_of inner t) in
    subst (Measures (sum_from (add binary32 x space) (spaces_in k inner ts))) (omega arith)
    (sum_measures k inner ts (λ u m. w u (Memᴰ.tail m)) (add binary32 x space) (a + measure)
    (add_measures x space a measure h (is_measures space measure (floored_is k inner t (measure_of inner t) (track-is inner t (w t (Memᴰ.head refl)))))))

tracks_measure : (k : RepetitionCount) (inner : Float) (ts : List MinMax) → WholeTracks inner ts → Measures (sum_from zero32 (spaces_in k inner ts)) (total_of inner (tracks_of k ts))
tracks_measure k inner ts w = subst (Measures (sum_from zero32 (spaces_in k inner ts))) (omega arith) (sum_measures k inner ts w zero32 0 (is_measures zero32 0 zero_is))

tracks-small : (inner : Float) (ts : List MinMax) → T (up_to largest_length inner) → RangeTracks ts → Smalls (map (track_space inner) ts)
tracks-small inner [] h r = tt
tracks-small inner (t ∷ ts) h r = (track-small t inner (r t (Memᴰ.head refl)).0 (r t (Memᴰ.head refl)).1 h, tracks-small inner ts h (λ u m. r u (Memᴰ.tail m)))

tracks_finite : (inner : Float) (ts : List MinMax) → T (up_to largest_length inner) → length ts ≤ 65535 → RangeTracks ts → T (nonneg (sum_from zero32 (map (track_space inner) ts)))
tracks_finite inner ts h l r = sum_finite (map (track_space inner) ts) (rw (length-map ts (track_space inner)) (omega arith)) (tracks-small inner ts h r)

-- ---- a component, and all of them in order
record Fine (inner : Float) (c : Component) : Type 0 where
  single : c.count ≡ Single → length c.tracks ≡ 1
  few : length c.tracks ≤ 65535
  filled : (c.count ≡ Single → ⊥) → 0 < length c.tracks
  whole : WholeTracks inner c.tracks
  range : RangeTracks c.tracks

component_measures : (inner : Float) (c : Component) → T (up_to largest_length inner) → Fine inner c → times_of 0 c.count * length c.tracks ≤ 10000
    → Measures (space_of inner c.count c.tracks) (total_of inner (tracks_times (times_of 0 c.count) (tracks_of c.count c.tracks)))
unfolding total_of
component_measures inner c h f n =
    subst (Measures (space_of inner c.count c.tracks)) (sym (total-times inner (times_of 0 c.count) (tracks_of c.count c.tracks))) (go c.count f.single f.filled n)
  where
    one : (ts : List MinMax) → length ts ≡ 1 → WholeTracks inner ts → Measures (single_space inner ts) (1 * total_of inner (tracks_of Single ts))
    one [] e w = absurd (never e)
      where
        never : ◌≡◌ {A = ℕ} 0 1 → ⊥
        never e = omega arith
    one (t ∷ []) e w = subst (Measures (track_space inner t)) (same (measure_of inner t)) (is_measures (track_space inner t) (measure_of inner t) (track-is inner t (w t (Memᴰ.head refl))))
      where
        same : (a : ℕ) → a ≡ 1 * (a + 0)
        same a = omega arith
    one (t ∷ (u ∷ ts)) e w = absurd (never (length ts) e)
      where
        never : (n : ℕ) → suc (suc n) ≡ 1 → ⊥
        never n e = omega arith

    times-few : (n l : ℕ) → 0 < l → n * l ≤ 10000 → n ≤ 16777216
    times-few n l h k = let m : n ≤ n * l = le-mul_of_pos_right n h in omega arith

    none : (a : ℕ) → 0 ≡ 0 * a
    none a = omega arith

    go : (k : RepetitionCount) → (k ≡ Single → length c.tracks ≡ 1) → ((k ≡ Single → ⊥) → 0 < length c.tracks) → times_of 0 k * length c.tracks ≤ 10000
        → Measures (space_of inner k c.tracks) (times_of 0 k * total_of inner (tracks_of k c.tracks))
    go Single s p n = one c.tracks (s refl) f.whole
    go (Count times) s p n =
        let total = total_of inner (tracks_of (Count times) c.tracks) in
        subst (Measures (counted_space (sum_from zero32 (map (track_space inner) c.tracks)) times)) (mul_comm total times)
        (counted_measures (sum_from zero32 (map (track_space inner) c.tracks)) total times
        (times-few times (length c.tracks) (p (λ e. let z : ◌≡◌ {A = ℕ} 0 1 = cc in omega arith)) n)
        (tracks_finite inner c.tracks h f.few f.range) (tracks_measure (Count times) inner c.tracks f.whole))
    go AutoFill s p n = subst (Measures zero32) (none (total_of inner (tracks_of AutoFill c.tracks))) (is_measures zero32 0 zero_is)
    go AutoFit s p n = subst (Measures zero32) (none (total_of inner (tracks_of AutoFit c.tracks))) (is_measures zero32 0 zero_is)

components_measure : (inner : Float) (cs : List Component) → T (up_to largest_length inner) → ((c : Component) → Memᴰ c cs → Fine inner c) → length (written_out 0 cs) ≤ 10000
    → (x : Float) (a : ℕ) → Measures x a → Measures (sum_from x (map (λ (c : Component). space_of inner c.count c.tracks) cs)) (a + total_of inner (written_out 0 cs))
unfolding sum_from written_out total_of
components_measure inner [] h f n x a m = subst (Measures x) (omega arith) m
components_measure inner (c ∷ cs) h f n x a m =
    let space = space_of inner c.count c.tracks in
    let own = tracks_times (times_of 0 c.count) (tracks_of c.count c.tracks) in
    let l : times_of 0 c.count * length c.tracks + length (written_out 0 cs) ≤ 10000 = rw (length-append own (written_out 0 cs), length_tracks_times (times_of 0 c.count) c.count c.tracks) at n in
    subst (Measures (sum_from (add binary32 x space) (map (λ (c : Component). space_of inner c.count c.tracks) cs)))
    (rw (total-append inner own (written_out 0 cs)) (omega arith))
    (components_measure inner cs h (λ d k. f d (Memᴰ.tail k)) (last (times_of 0 c.count * length c.tracks) (length (written_out 0 cs)) l) (add binary32 x space) (a + total_of inner own)
    (add_measures x space a (total_of inner own) m
    (component_measures inner c h (f c (Memᴰ.head refl)) (first (times_of 0 c.count * length c.tracks) (length (written_out 0 cs)) l))))
  where
    first : (a b : ℕ) → a + b ≤ 10000 → a ≤ 10000
    first a b h = omega arith

    last : (a b : ℕ) → a + b ≤ 10000 → b ≤ 10000
    last a b h = omega arith

outside_measures : (inner : Float) (cs : List Component) → T (up_to largest_length inner) → ((c : Component) → Memᴰ c cs → Fine inner c) → length (written_out 0 cs) ≤ 10000
    → Measures (outside_space inner cs) (total_of inner (written_out 0 cs))
unfolding outside_space
outside_measures inner cs h f n = subst (Measures (outside_space inner cs)) (omega arith) (components_measure inner cs h f n zero32 0 (is_measures zero32 0 zero_is))

-- ---- numbers in range
inner-few : (x : Float) (n : ℕ) → T (up_to largest_length x) → Is x n → n ≤ 65535
unfolding up_to
inner-few nan n h k = absurd h
inner-few (inf s) n h k = absurd h
inner-few (fin true m e) n h k = absurd h
inner-few (fin false m e) n h k = le_of_mul-le-mul_right (go (m * up e) (down e) (leb→le (m * up e) (65535 * down e) h) k.1) (down_pos e)
  where
    go : (v d : ℕ) → v ≤ 65535 * d → v * 1 ≡ n * d → n * d ≤ 65535 * d
    go v d h e = omega arith

small-few : (x : Float) (n : ℕ) → Small x → Is x n → n ≤ 1048576
small-few nan n h k = absurd k
small-few (inf s) n h k = absurd k
small-few (fin true m e) n h k = absurd (true≢false k.0)
small-few (fin false m e) n h k = le_of_mul-le-mul_right (go (m * up e) (down e) h.1 k.1) (down_pos e)
  where
    go : (v d : ℕ) → v ≤ 1 * 1048576 * d → v * 1 ≡ n * d → n * d ≤ 1048576 * d
    go v d h e = omega arith

gap_few : (x : Float) (gap : Sizing) (n : ℕ) → T (up_to largest_length x) → T (sizing_in_range gap) → Is (gap_of gap x) n → n ≤ 1048576
gap_few x gap n h r k = small-few (gap_of gap x) n (open-gap (definite_of gap x) (track-small (record { min = Auto; max = gap }) x tt r h)) k
  where
    open-gap : (d : Option Float) → Small (or_zero (raised_or d None)) → Small (or_zero d)
    open-gap (Some v) s = s
    open-gap None s = s

-- ---- in whole numbers: a first extent, to which each repetition more adds a further one
module _ (inner first further : ℕ) (extent : ℕ → ℕ) (grows : (n : ℕ) → extent (suc n) ≡ first + n * further) where
  extent-one : extent 1 ≡ first
  extent-one = grows 0 ∙ none first further
    where
      none : (first further : ℕ) → first + 0 * further ≡ first
      none first further = omega arith

  -- f is the floor of what is left over a further repetition
  most-fit : (f : ℕ) → first ≤ inner → ((m : ℕ) → m ≤ f → m * further ≤ inner - first) → ((m : ℕ) → m * further ≤ inner - first → m ≤ f) → Largest (λ (m : ℕ). (1 ≤ m) × (extent m ≤ inner)) (suc f)
  most-fit f h g k = record { holds = (omega arith, rw (grows f) (back (f * further) first inner h (g f (le_refl f)))); largest = top }
    where
      back : (a first inner : ℕ) → first ≤ inner → a ≤ inner - first → first + a ≤ inner
      back a first inner h l = omega arith

      forth : (a first inner : ℕ) → first + a ≤ inner → a ≤ inner - first
      forth a first inner l = omega arith

      never : 1 ≤ 0 → ⊥
      never h = omega arith

      next : (m f : ℕ) → m ≤ f → suc m ≤ suc f
      next m f h = omega arith

      top : (m : ℕ) → (1 ≤ m) × (extent m ≤ inner) → m ≤ suc f
      top zero p = absurd (never p.0)
      top (suc m) p = next m f (k m (forth (m * further) first inner (rw (grows m) at p.1)))

  -- c is its ceiling
  fewest-reach : (c : ℕ) → first ≤ inner → ((m : ℕ) → c ≤ m → inner - first ≤ m * further) → ((m : ℕ) → inner - first ≤ m * further → c ≤ m) → FewestThatReach inner extent (suc c)
  fewest-reach c h g k = record { holds = (omega arith, rw (grows c) (back (c * further) first inner (g c (le_refl c)))); smallest = low }
    where
      back : (a first inner : ℕ) → inner - first ≤ a → inner ≤ first + a
      back a first inner l = omega arith

      forth : (a first inner : ℕ) → inner ≤ first + a → inner - first ≤ a
      forth a first inner l = omega arith

      never : 1 ≤ 0 → ⊥
      never h = omega arith

      next : (c m : ℕ) → c ≤ m → suc c ≤ suc m
      next c m h = omega arith

      low : (m : ℕ) → (1 ≤ m) × (inner ≤ extent m) → suc c ≤ m
      low zero p = absurd (never p.0)
      low (suc m) p = next c m (k m (forth (m * further) first inner (rw (grows m) at p.1)))

  one-reaches : inner < first → FewestThatReach inner extent 1
  one-reaches h = record { holds = (omega arith, rw extent-one (omega arith)); smallest = λ m p. p.0 }

-- ---- document 01's f32 numbers of a template around its automatic repeat, in whole numbers
module _ (x : Float) (gap : Sizing) (before : List Component) (repeat : Component) (after : List Component) (automatic : Automatic repeat) (once : automatic_count (before ++ (repeat ∷ after)) ≡ 1)
    (valid : Valid (before ++ (repeat ∷ after))) (in_range : InRange (before ++ (repeat ∷ after))) (whole : WholeSizes x gap (before ++ (repeat ∷ after))) (few : length (written_out 0 (before ++ (repeat ∷ after))) ≤ 10000) where
  abbrev cs : List Component
  cs = before ++ (repeat ∷ after)

  abbrev summary : TemplateSummary
  summary = meaning_of x cs

  -- the tracks outside the repeat and in it, and what they measure
  abbrev outside : ℕ
  outside = length (written_out 0 cs)

  abbrev repeated : ℕ
  repeated = length repeat.tracks

  abbrev outside_total : ℕ
  outside_total = total_of x (written_out 0 cs)

  abbrev repeat_total : ℕ
  repeat_total = total_of x (tracks_of repeat.count repeat.tracks)

  -- the grid with one repetition, and what a further one adds
  abbrev first : ℕ
  first = outside_total + repeat_total + (outside + repeated - 1) * length_in x gap

  abbrev further : ℕ
  further = repeat_total + repeated * length_in x gap

  abbrev extent : ℕ → ℕ
  extent = grid_extent x gap cs

  member : Memᴰ repeat cs
  member = Memᴰ.append_right before (Memᴰ.head refl)

  some : 0 < repeated
  some = valid.filled repeat member (λ e. true≢false (sym automatic ∙ ap is_automatic e))

  few-repeated : repeated ≤ 65535
  few-repeated = in_range.few repeat member

  inner-is : Is x (number_of x)
  inner-is = is_whole x whole.inner

  inner-most : number_of x ≤ 65535
  inner-most = inner-few x (number_of x) whole.inner_in_range inner-is

  gap_is : Is (gap_of gap x) (length_in x gap)
  gap_is = sized-is (definite_of gap x) (length_in x gap) (is_fixed gap) (sized x gap whole.gap)

  gap-most : length_in x gap ≤ 1048576
  gap-most = gap_few x gap (length_in x gap) whole.inner_in_range whole.gap_in_range gap_is

  fine : (c : Component) → Memᴰ c cs → Fine x c
  fine c m = record { single = in_range.single c m; few = in_range.few c m; filled = valid.filled c m; whole = whole.sizes c m; range = in_range.sizes c m }

  -- the sums
  used-measures : Measures (outside_space x cs) outside_total
  used-measures = outside_measures x cs whole.inner_in_range fine few

  once-measures : Measures (repetition_space x cs) repeat_total
  unfolding repetition_space
  once-measures = rw (tracks-repeat before repeat after automatic once) (go repeat.count automatic)
    where
      go : (k : RepetitionCount) → is_automatic k ≡ true → Measures (sum_from zero32 (map (repeated_track_space x) repeat.tracks)) (total_of x (tracks_of k repeat.tracks))
      go Single a = absurd (true≢false (sym a))
      go (Count times) a = absurd (true≢false (sym a))
      go AutoFill a = tracks_measure AutoFill x repeat.tracks (whole.sizes repeat member)
      go AutoFit a = tracks_measure AutoFit x repeat.tracks (whole.sizes repeat member)

  -- one gap between each two tracks
  gaps : gaps_of summary ≡ outside + repeated - 1
  gaps = go (outside_count cs) (length (automatic_tracks cs)) outside repeated (outside-written cs in_range.single) (ap length (tracks-repeat before repeat after automatic once)) few
    where
      go : (o n l k : ℕ) → o ≡ l → n ≡ k → l ≤ 10000 → gaps_of (record { empty = false; fixed = true; automatic = 1; outside = o; before = 0; repeated = n; used = zero32; once = zero32 }) ≡ l + k - 1
      go o n l k p q h = omega arith

  first-measures : Measures (first_space summary (gap_of gap x)) first
  first-measures =
      subst (λ (n : ℕ). Measures (add binary32 (add binary32 (outside_space x cs) (repetition_space x cs)) (mul binary32 (whole32 n) (gap_of gap x))) first) (sym gaps)
      (add_measures (add binary32 (outside_space x cs) (repetition_space x cs)) (mul binary32 (whole32 (outside + repeated - 1)) (gap_of gap x)) (outside_total + repeat_total) ((outside + repeated - 1) * length_in x gap)
      (add_measures (outside_space x cs) (repetition_space x cs) outside_total repeat_total used-measures once-measures)
      (product_measures (whole32 (outside + repeated - 1)) (gap_of gap x) (outside + repeated - 1) (length_in x gap) (count-is (outside + repeated - 1) (small outside repeated few few-repeated)) gap_is))
    where
      small : (l k : ℕ) → l ≤ 10000 → k ≤ 65535 → l + k - 1 ≤ 16777216
      small l k h g = omega arith

  further-measures : Measures (further_space summary (gap_of gap x)) further
  further-measures =
      rw (tracks-repeat before repeat after automatic once)
      (add_measures (repetition_space x cs) (mul binary32 (whole32 repeated) (gap_of gap x)) repeat_total (repeated * length_in x gap) once-measures
      (product_measures (whole32 repeated) (gap_of gap x) repeated (length_in x gap) (count-is repeated (small repeated few-repeated)) gap_is))
    where
      small : (k : ℕ) → k ≤ 65535 → k ≤ 16777216
      small k h = omega arith

  -- the tracks as written out
  grows : (n : ℕ) → extent (suc n) ≡ first + n * further
  grows n = grid-grows before repeat after automatic x gap once some n ∙ ap (λ (a : ℕ). a + n * further) one
    where
      same : (u o l k g : ℕ) → u + 1 * o + g * (l + 1 * k - 1) ≡ u + o + (l + k - 1) * g
      same u o l k g = rw (count k) (turn u o (l + k - 1) g)
        where
          count : (k : ℕ) → 1 * k ≡ k
          count k = omega arith

          turn : (u o n g : ℕ) → u + 1 * o + g * n ≡ u + o + n * g
          turn u o n g = omega arith

      one : extent 1 ≡ first
      one =
          extent_total x (length_in x gap) (written_out 1 cs)
          ∙ rw (total-written before repeat after automatic x once 1, length-written before repeat after automatic once 1) (same outside_total repeat_total outside repeated (length_in x gap))

  first-is : extent 1 ≡ first
  first-is = extent-one (number_of x) first further extent grows

  -- one repetition has a track, and that counts as 1 or more
  positive : 0 < further
  unfolding total_of
  positive = more repeat_total (repeated * length_in x gap) (go repeat.count automatic repeat.tracks some)
    where
      more : (a b : ℕ) → 0 < a → 0 < a + b
      more a b h = omega arith

      floored : (n m : ℕ) → 0 < max 1 n + m
      floored n m = omega arith

      never : 0 < 0 → ⊥
      never h = omega arith

      go : (k : RepetitionCount) → is_automatic k ≡ true → (ts : List MinMax) → 0 < length ts → 0 < total_of x (tracks_of k ts)
      go k a [] h = absurd (never h)
      go Single a (t ∷ ts) h = absurd (true≢false (sym a))
      go (Count times) a (t ∷ ts) h = absurd (true≢false (sym a))
      go AutoFill a (t ∷ ts) h = floored (measure_of x t) (total_of x (tracks_of AutoFill ts))
      go AutoFit a (t ∷ ts) h = floored (measure_of x t) (total_of x (tracks_of AutoFit ts))

  below-first : lt x (first_space summary (gap_of gap x)) ≡ ltb (number_of x) first
  below-first = below_measures x (first_space summary (gap_of gap x)) (number_of x) first inner-is (under (number_of x) inner-most) first-measures
    where
      under : (n : ℕ) → n ≤ 65535 → n < 16777216
      under n h = omega arith

  -- where one repetition fits, the quotient is that of exact whole numbers
  module _ (fits : first ≤ number_of x) where
    abbrev left : ℕ
    left = number_of x - first

    abbrev ratio : Float
    ratio = quotient summary x (gap_of gap x)

    further-few : further < 16777216
    further-few = go outside_total repeat_total outside repeated (length_in x gap) (number_of x) fits inner-most gap-most some
      where
        go : (u o l k g n : ℕ) → u + o + (l + k - 1) * g ≤ n → n ≤ 65535 → g ≤ 1048576 → 0 < k → o + k * g < 16777216
        go u o l zero g n h a b s = absurd (never s)
          where
            never : 0 < 0 → ⊥
            never h = omega arith
        go u o l (suc k) g n h a b s = let m : k * g ≤ (l + suc k - 1) * g = mul-le-mul_right g (less l k) in omega arith
          where
            less : (l k : ℕ) → k ≤ l + suc k - 1
            less l k = omega arith

    under : (n m : ℕ) → n ≤ m → m ≤ 65535 → n < 16777216
    under n m h g = omega arith

    left-few : left < 16777216
    left-few = go (number_of x) first inner-most
      where
        go : (n m : ℕ) → n ≤ 65535 → n - m < 16777216
        go n m h = omega arith

    left_is : Is (leftover summary x (gap_of gap x)) left
    left_is =
        difference_is x (first_space summary (gap_of gap x)) (number_of x) first inner-is
        (measured_is (first_space summary (gap_of gap x)) first first-measures (under first (number_of x) fits inner-most)) fits (le_of_lt (under (number_of x) (number_of x) (le_refl (number_of x)) inner-most))

    further-is : Is (further_space summary (gap_of gap x)) further
    further-is = measured_is (further_space summary (gap_of gap x)) further further-measures further-few

    floor_is : (m : ℕ) → (m ≤ floor_of ratio) ↔ (m * further ≤ left)
    floor_is = floor-quotient (leftover summary x (gap_of gap x)) (further_space summary (gap_of gap x)) left further left-few positive (le_of_lt further-few) left_is further-is

    ceiling-is : (m : ℕ) → (ceiling_of ratio ≤ m) ↔ (left ≤ m * further)
    ceiling-is = ceiling-quotient (leftover summary x (gap_of gap x)) (further_space summary (gap_of gap x)) left further left-few positive (le_of_lt further-few) left_is further-is

    -- "plus one" is not cut
    uncut : (n : ℕ) → n ≤ left → one_more n ≡ suc n
    uncut n h = go n (number_of x) first h inner-most
      where
        go : (n a b : ℕ) → n ≤ a - b → a ≤ 65535 → min (n + 1) 4294967295 ≡ suc n
        go n a b h m = omega arith

    most : Largest (λ (m : ℕ). (1 ≤ m) × (extent m ≤ number_of x)) (one_more (floor_of ratio))
    most =
        rw (uncut (floor_of ratio) (le_trans (le-mul_of_pos_right (floor_of ratio) positive) ((floor_is (floor_of ratio)).0 (le_refl (floor_of ratio)))))
        (most-fit (number_of x) first further extent grows (floor_of ratio) fits (λ m. (floor_is m).0) (λ m. (floor_is m).1))

    fewest : FewestThatReach (number_of x) extent (one_more (ceiling_of ratio))
    fewest =
        rw (uncut (ceiling_of ratio) ((ceiling-is left).1 (le-mul_of_pos_right left positive)))
        (fewest-reach (number_of x) first further extent grows (ceiling_of ratio) fits (λ m. (ceiling-is m).0) (λ m. (ceiling-is m).1))

  -- before the limit: CSS's number
  wanted-css : (strategy : AutoRepeatStrategy) → CssCount (Some x) strategy gap cs (fitting_of strategy x (gap_of gap x) summary)
  unfolding fitting_of
  wanted-css MaxRepetitionsThatDoNotOverflow = rw below-first (go (ltb (number_of x) first) refl)
    where
      clash : (n a b : ℕ) → b ≡ a → n < a → b ≤ n → ⊥
      clash n a b p h l = omega arith

      over : (n a b : ℕ) → b ≡ a → a ≤ n → n < b → ⊥
      over n a b p h l = omega arith

      go : (t : Bool) → ltb (number_of x) first ≡ t → MostThatFit (number_of x) extent (cond t 1 (one_more (floor_of (quotient summary x (gap_of gap x)))))
      go true e = record { fitting = λ h. absurd (clash (number_of x) first (extent 1) first-is (ltb-true (number_of x) first e) h); overflowing = λ h. refl }
      go false e =
          record {
            fitting = λ h. most (ltb-false (number_of x) first e);
            overflowing = λ h. absurd (over (number_of x) first (extent 1) first-is (ltb-false (number_of x) first e) h);
          }
  wanted-css MinRepetitionsThatDoOverflow = rw below-first (go (ltb (number_of x) first) refl)
    where
      go : (t : Bool) → ltb (number_of x) first ≡ t → FewestThatReach (number_of x) extent (cond t 1 (one_more (ceiling_of (quotient summary x (gap_of gap x)))))
      go true e = one-reaches (number_of x) first further extent grows (ltb-true (number_of x) first e)
      go false e = fewest (ltb-false (number_of x) first e)

-- ---- around the automatic repeat
module _ (inner : Option Float) (strategy : AutoRepeatStrategy) (gap : Sizing) (before : List Component) (repeat : Component) (after : List Component) (automatic : Automatic repeat)
    (valid : Valid (before ++ (repeat ∷ after))) (in_range : InRange (before ++ (repeat ∷ after))) (whole : WholeIn inner gap (before ++ (repeat ∷ after))) (free : length (written_out 0 before) < 10000) where
  one_repeat : automatic_count (before ++ (repeat ∷ after)) ≡ 1
  one_repeat =
      go (automatic_count (before ++ (repeat ∷ after))) (one_at_most (before ++ (repeat ∷ after)) valid) (in_count (before ++ (repeat ∷ after)) repeat (Memᴰ.append_right before (Memᴰ.head refl)) automatic)
    where
      never : (n : ℕ) → n ≡ 0 → 0 < n → ⊥
      never n e h = omega arith

      go : (n : ℕ) → (n ≡ 0) ⊎ (n ≡ 1) → 0 < n → n ≡ 1
      go n (inl e) h = absurd (never n e h)
      go n (inr e) h = e

  wanted-number : length (written_out 0 (before ++ (repeat ∷ after))) ≤ 10000
      → CssCount inner strategy gap (before ++ (repeat ∷ after)) (wanted_of inner strategy gap (meaning_of (inner_value inner) (before ++ (repeat ∷ after))))
  wanted-number few = go inner whole
    where
      go : (inner : Option Float) → WholeIn inner gap (before ++ (repeat ∷ after)) → CssCount inner strategy gap (before ++ (repeat ∷ after)) (wanted_of inner strategy gap (meaning_of (inner_value inner) (before ++ (repeat ∷ after))))
      go (Some x) w = wanted-css x gap before repeat after automatic one_repeat valid in_range w few strategy
      go None w = refl

  held_number : repetitions_of inner strategy gap (meaning_of (inner_value inner) (before ++ (repeat ∷ after)))
      ≡ held_to (length (written_out 0 before)) (length repeat.tracks) (wanted_of inner strategy gap (meaning_of (inner_value inner) (before ++ (repeat ∷ after))))
  unfolding repetitions_of held_of
  held_number =
      let p : before_count (before ++ (repeat ∷ after)) ≡ length (written_out 0 before) =
      before-repeat before repeat after automatic one_repeat ∙ outside-written before (λ c m. in_range.single c (Memᴰ.append_left (repeat ∷ after) m)) in
      rw (p, tracks-repeat before repeat after automatic one_repeat, lt-leb 10000 (length (written_out 0 before)) free)

-- ---- the theorem, on document 01's repetitions: where at most 10,000 tracks stand outside the repeat, to which it holds them for the gaps
pub whole-repetitions : (inner : Option Float) (strategy : AutoRepeatStrategy) (gap : Sizing) (cs : List Component) (r : RepeatIn cs) → Valid cs → InRange cs → WholeIn inner gap cs
    → tracks_before cs r < 10000 → length (written_out 0 cs) ≤ 10000 → WholeRepetitions inner strategy gap cs r (repetitions_of inner strategy gap (meaning_of (inner_value inner) cs))
whole-repetitions inner strategy gap cs r valid in_range whole free few =
    let v = subst Valid r.parts valid in
    let i = subst InRange r.parts in_range in
    let w = subst (WholeIn inner gap) r.parts whole in
    record {
      wanted = wanted_of inner strategy gap (meaning_of (inner_value inner) cs);
      css =
          subst (λ (ds : List Component). CssCount inner strategy gap ds (wanted_of inner strategy gap (meaning_of (inner_value inner) ds))) (sym r.parts)
          (wanted-number inner strategy gap r.before r.repeat r.after r.automatic v i w free (subst (λ (ds : List Component). length (written_out 0 ds) ≤ 10000) r.parts few));
      held =
          subst (λ (ds : List Component). repetitions_of inner strategy gap (meaning_of (inner_value inner) ds) ≡ held_to (tracks_before cs r) (tracks_in cs r) (wanted_of inner strategy gap (meaning_of (inner_value inner) ds))) (sym r.parts)
          (held_number inner strategy gap r.before r.repeat r.after r.automatic v i w free);
    }

-- ---- and on the answer of the call: one that is not refused has at most 10,000 tracks
pub answer-whole : (inner : Option Float) (strategy : AutoRepeatStrategy) (gap : Sizing) (areas : ℕ) (cs : List Component) (r : RepeatIn cs) → Valid cs → InRange cs → WholeIn inner gap cs
    → tracks_before cs r < 10000 → (explicit_size_of inner strategy gap areas cs).refusal.number ≡ 0 → WholeRepetitions inner strategy gap cs r (explicit_size_of inner strategy gap areas cs).repetitions
answer-whole inner strategy gap areas cs r valid in_range whole free z =
    let once : automatic_count cs ≡ 1 =
    subst (λ (ds : List Component). automatic_count ds ≡ 1) (sym r.parts)
    (one_repeat inner strategy gap r.before r.repeat r.after r.automatic (subst Valid r.parts valid) (subst InRange r.parts in_range) (subst (WholeIn inner gap) r.parts whole) free) in
    let s = size-repeated inner strategy gap areas cs valid once in
    rw ((accepted inner strategy gap areas cs z).0, s)
    (whole-repetitions inner strategy gap cs r valid in_range whole free
    (few (length (automatic_tracks cs)) (repetitions_of inner strategy gap (meaning_of (inner_value inner) cs)) (outside-written cs in_range.single) (rw s at (accepted-few inner strategy gap areas cs z))))
  where
    few : (k n : ℕ) {o l : ℕ} → o ≡ l → o + k * n ≤ 10000 → l ≤ 10000
    few k n e h = omega arith

-- ---- there is one such number only
pub whole_unique : (inner : Option Float) (strategy : AutoRepeatStrategy) (gap : Sizing) (cs : List Component) (r : RepeatIn cs) (n m : ℕ)
    → WholeRepetitions inner strategy gap cs r n → WholeRepetitions inner strategy gap cs r m → n ≡ m
whole_unique inner strategy gap cs r n m a b = a.held ∙ ap (held_to (tracks_before cs r) (tracks_in cs r)) (same inner strategy a.wanted b.wanted a.css b.css) ∙ sym b.held
  where
    most : (w : ℕ) (extent : ℕ → ℕ) (n m : ℕ) → MostThatFit w extent n → MostThatFit w extent m → (t : Bool) → leb (extent 1) w ≡ t → n ≡ m
    most w extent n m a b true e =
        let v = a.fitting (leb-true (extent 1) w e) in
        let u = b.fitting (leb-true (extent 1) w e) in
        le_antisymm (u.largest n v.holds) (v.largest m u.holds)
    most w extent n m a b false e = let h = leb-false (extent 1) w e in a.overflowing h ∙ sym (b.overflowing h)

    same : (inner : Option Float) (strategy : AutoRepeatStrategy) (n m : ℕ) → CssCount inner strategy gap cs n → CssCount inner strategy gap cs m → n ≡ m
    same (Some x) MaxRepetitionsThatDoNotOverflow n m a b = most (number_of x) (grid_extent x gap cs) n m a b (leb (grid_extent x gap cs 1) (number_of x)) refl
    same (Some x) MinRepetitionsThatDoOverflow n m a b = le_antisymm (a.smallest m b.holds) (b.smallest n a.holds)
    same None strategy n m a b = a ∙ sym b

-- ---- every template with an automatic repeat has its place, and every template that tables hold is in range
pub repeat_in : (cs : List Component) → 0 < automatic_count cs → RepeatIn cs
unfolding automatic_count
repeat_in [] h = absurd (never h)
  where
    never : 0 < 0 → ⊥
    never h = omega arith
repeat_in (c ∷ cs) h = go (is_automatic c.count) refl h (repeat_in cs)
  where
    rest : (n : ℕ) → 0 < 0 + n → 0 < n
    rest n h = omega arith

    go : (t : Bool) → is_automatic c.count ≡ t → 0 < cond t 1 0 + automatic_count cs → (0 < automatic_count cs → RepeatIn cs) → RepeatIn (c ∷ cs)
    go true e h f = record { before = []; repeat = c; after = cs; parts = refl; automatic = e }
    go false e h f =
        let r = f (rest (automatic_count cs) h) in
        record { before = c ∷ r.before; repeat = r.repeat; after = r.after; parts = ap (λ (ds : List Component). c ∷ ds) r.parts; automatic = r.automatic }

track_in_range : (minimums maximums : List ℕ) (place n : ℕ) (t : MinMax) → Memᴰ t (tracks_from minimums maximums place n) → T (sizing_in_range t.min) × T (sizing_in_range t.max)
unfolding tracks_from
track_in_range minimums maximums place zero t m = absurd (Memᴰ.not-nil m)
track_in_range minimums maximums place (suc n) t m =
    ⊎_elim (λ e. subst (λ (u : MinMax). T (sizing_in_range u.min) × T (sizing_in_range u.max)) (sym e) (sizing_in_range_lem (get_or minimums place 0), sizing_in_range_lem (get_or maximums place 0)))
    (λ k. track_in_range minimums maximums (suc place) n t k) (Memᴰ.cases_cons m)

word_of : (words minimums maximums : List ℕ) (c : Component) → Memᴰ c (template_of words minimums maximums) → (w : ℕ) × Memᴰ w words × (c ≡ with_tracks minimums maximums (component_of w))
unfolding template_of
word_of [] minimums maximums c m = absurd (Memᴰ.not-nil m)
word_of (w ∷ words) minimums maximums c m =
    ⊎_elim (λ e. (w, Memᴰ.head refl, e)) (λ k. let p = word_of words minimums maximums c k in (p.0, Memᴰ.tail p.1, p.2)) (Memᴰ.cases_cons m)

pub table_in_range : (words minimums maximums : List ℕ) → ((w : ℕ) → Memᴰ w words → w < 2 ^ 64) → InRange (template_of words minimums maximums)
table_in_range words minimums maximums h =
    record {
      single = λ c m e. let p = word_of words minimums maximums c m in one c p.0 (h p.0 p.1) p.2 e;
      few = λ c m. let p = word_of words minimums maximums c m in subst (λ (d : Component). length d.tracks ≤ 65535) (sym p.2) (rw (long p.0) (of_word p.0 (h p.0 p.1)).length);
      sizes = λ c m t k.
          let p = word_of words minimums maximums c m in
          track_in_range minimums maximums (component_of p.0).first (component_of p.0).length t (subst (λ (d : Component). Memᴰ t d.tracks) p.2 k);
    }
  where
    long : (w : ℕ) → length (tracks_from minimums maximums (component_of w).first (component_of w).length) ≡ (component_of w).length
    long w = length-tracks minimums maximums (component_of w).first (component_of w).length

    one : (c : Component) (w : ℕ) → w < 2 ^ 64 → c ≡ with_tracks minimums maximums (component_of w) → c.count ≡ Single → length c.tracks ≡ 1
    one c w g e s =
        ap (λ (d : Component). length d.tracks) e ∙ long w
        ∙ single_one (component_of w).count (component_of w).length (sym (ap (λ (d : Component). d.count) e) ∙ s) (of_word w g).counted

-- ---- so for the call on tables: what its contract says it answers
pub table_whole : (words minimums maximums : List ℕ) (inner : Option Float) (strategy : AutoRepeatStrategy) (gap : Sizing) (areas : ℕ) (r : RepeatIn (template_of words minimums maximums))
    → ((w : ℕ) → Memᴰ w words → w < 2 ^ 64) → Valid (template_of words minimums maximums) → WholeIn inner gap (template_of words minimums maximums)
    → tracks_before (template_of words minimums maximums) r < 10000 → (explicit_size_of inner strategy gap areas (template_of words minimums maximums)).refusal.number ≡ 0
    → WholeRepetitions inner strategy gap (template_of words minimums maximums) r (explicit_size_of inner strategy gap areas (template_of words minimums maximums)).repetitions
table_whole words minimums maximums inner strategy gap areas r h valid whole free z =
    answer-whole inner strategy gap areas (template_of words minimums maximums) r valid (table_in_range words minimums maximums h) whole free z
