-- CSS Grid Level 2, 7.2, automatic repeats, in whole numbers: the tracks as written out, added up with one gap between each two, against the inner size
-- (SHEET.md, Repetitions).
-- Of document 01's rule only the limit of 10,000 tracks stands here: no sum of a part, no count of gaps, no leftover, no quotient.
use Rattle.std.specs.Prelude.{◌≡◌, ℕ, zero, suc, ◌+◌, ◌-◌, ◌*◌, ◌/◌, ◌%◌, ◌<◌, ◌≤◌, min, max, false, cond, T, List, [], ◌∷◌, ◌++◌, map, length, Float, Option, Some, None}
use mathlib.Core.List.{Memᴰ}
use Rattle.std.specs.Float.{nan, inf, fin, binary32}
use Rattle.std.specs.Float.Ieee.{up, down, mul}
use Rattle.sizing.specs.Definite.{is_fixed}
use Rattle.sizing.specs.Ranges.{up_to, largest_length, sizing_in_range}
use Rattle.sizing.specs.declared.Sizing.{Sizing}
use Rattle.sizing.specs.declared.Sizing.TheVariants.{Length, Percent, Fraction, Auto, MinContent, MaxContent, FitContentLength, FitContentPercent}
use Rattle.sizing.specs.declared.MinMax.{MinMax}
use Rattle.template_rules.specs.Template.{Component}
use Rattle.template_rules.specs.Css.{Automatic, Largest, Smallest}
use Rattle.template_rules.specs.declared.RepetitionCount.{RepetitionCount}
use Rattle.template_rules.specs.declared.RepetitionCount.TheVariants.{Single, Count, AutoFill, AutoFit}
use Rattle.template_rules.specs.declared.AutoRepeatStrategy.{AutoRepeatStrategy}
use Rattle.template_rules.specs.declared.AutoRepeatStrategy.TheVariants.{MaxRepetitionsThatDoNotOverflow, MinRepetitionsThatDoOverflow}

-- an f32 that is a whole number, and no minus zero: `fin s m e` is m * 2 ^ e, the fraction m * up e / down e, negative where s is true
abbrev pub IsWhole : Float → Type 0
IsWhole nan = ⊥
IsWhole (inf s) = ⊥
IsWhole (fin s m e) = (s ≡ false) × (m * up e % down e ≡ 0)

-- and which number it is
abbrev pub number_of : Float → ℕ
number_of nan = 0
number_of (inf s) = 0
number_of (fin s m e) = m * up e / down e

-- a length, or a percentage as the one f32 that it comes to of the inner size; no other kind has a definite size
abbrev pub length_in : Float → Sizing → ℕ
length_in inner (Length v) = number_of v
length_in inner (Percent p) = number_of (mul binary32 p inner)
length_in inner (Fraction v) = 0
length_in inner Auto = 0
length_in inner MinContent = 0
length_in inner MaxContent = 0
length_in inner (FitContentLength v) = 0
length_in inner (FitContentPercent p) = 0

-- a definite size is whole: of a percentage, what it comes to
abbrev pub IsWholeIn : Float → Sizing → Type 0
IsWholeIn inner (Length v) = IsWhole v
IsWholeIn inner (Percent p) = IsWhole (mul binary32 p inner)
IsWholeIn inner (Fraction v) = Unit {0}
IsWholeIn inner Auto = Unit {0}
IsWholeIn inner MinContent = Unit {0}
IsWholeIn inner MaxContent = Unit {0}
IsWholeIn inner (FitContentLength v) = Unit {0}
IsWholeIn inner (FitContentPercent p) = Unit {0}

-- "each track measured as its maximum where that is definite, raised to its minimum where both are definite, else as its minimum"
abbrev pub measure_of : Float → MinMax → ℕ
measure_of inner t = cond (is_fixed t.max) (max (length_in inner t.max) (length_in inner t.min)) (length_in inner t.min)

-- "to keep from dividing by zero a track in the repeat may be floored; 1 px is suggested", and document 02 takes that (Req 05): what a track counts as, by
-- how often its component is written out and what it measures
abbrev pub floored_in : RepetitionCount → ℕ → ℕ
floored_in Single n = n
floored_in (Count times) n = n
floored_in AutoFill n = max 1 n
floored_in AutoFit n = max 1 n

-- how often a component is written out: a single once, "a repeat as often as its count says", the automatic one n times
abbrev pub times_of : ℕ → RepetitionCount → ℕ
times_of n Single = 1
times_of n (Count times) = times
times_of n AutoFill = n
times_of n AutoFit = n

-- a track as written out, beside how often its component is
pub record TrackIn : Type 0 where
  pub count : RepetitionCount
  pub track : MinMax

-- the tracks of a component
abbrev pub tracks_of : RepetitionCount → List MinMax → List TrackIn
tracks_of count ts = map (λ (t : MinMax). record { count = count; track = t }) ts

-- tracks written out so often
unfoldable pub tracks_times : ℕ → List TrackIn → List TrackIn
tracks_times zero ts = []
tracks_times (suc n) ts = ts ++ tracks_times n ts

-- the tracks of a template as written out, with n automatic repetitions
unfoldable pub written_out : ℕ → List Component → List TrackIn
unfolding tracks_times
written_out n [] = []
written_out n (c ∷ cs) = tracks_times (times_of n c.count) (tracks_of c.count c.tracks) ++ written_out n cs

-- what a track counts as where it is written
abbrev pub measure_in : Float → TrackIn → ℕ
measure_in inner t = floored_in t.count (measure_of inner t.track)

-- tracks side by side, "gaps counted": one between each two
unfoldable pub extent_of : Float → ℕ → List TrackIn → ℕ
extent_of inner gap [] = 0
extent_of inner gap (t ∷ []) = measure_in inner t
extent_of inner gap (t ∷ (u ∷ ts)) = measure_in inner t + gap + extent_of inner gap (u ∷ ts)

-- the grid with n automatic repetitions
abbrev pub grid_extent : Float → Sizing → List Component → ℕ → ℕ
grid_extent inner gap cs n = extent_of inner (length_in inner gap) (written_out n cs)

-- "the largest positive whole number that does not make the grid overflow"; "where even one repetition overflows, 1"
pub record MostThatFit (inner : ℕ) (extent : ℕ → ℕ) (n : ℕ) : Type 0 where
  pub fitting : extent 1 ≤ inner → Largest (λ (m : ℕ). (1 ≤ m) × (extent m ≤ inner)) n
  pub overflowing : inner < extent 1 → n ≡ 1

-- "the smallest positive whole number that reaches it"
abbrev pub FewestThatReach : ℕ → (ℕ → ℕ) → ℕ → Type 0
FewestThatReach inner extent n = Smallest (λ (m : ℕ). (1 ≤ m) × (inner ≤ extent m)) n

-- CSS's number, without any limit; "without either: 1"
abbrev pub CssCount : Option Float → AutoRepeatStrategy → Sizing → List Component → ℕ → Type 0
CssCount (Some x) MaxRepetitionsThatDoNotOverflow gap cs = MostThatFit (number_of x) (grid_extent x gap cs)
CssCount (Some x) MinRepetitionsThatDoOverflow gap cs = FewestThatReach (number_of x) (grid_extent x gap cs)
CssCount None strategy gap cs = λ (n : ℕ). n ≡ 1

-- document 01's limit, with p tracks before the repeat and k in it: "held to 1..ceiling((10,000 − p) / k)"
abbrev pub held_to : ℕ → ℕ → ℕ → ℕ
held_to p k n = max 1 (min n ((10000 - p + k - 1) / k))

-- the automatic repeat of a template, and the components before and after it
pub record RepeatIn (cs : List Component) : Type 0 where
  pub before : List Component
  pub repeat : Component
  pub after : List Component
  pub parts : cs ≡ before ++ (repeat ∷ after)
  pub automatic : Automatic repeat

-- p, "the tracks before the repeat", and k, those in it
abbrev pub tracks_before : (cs : List Component) → RepeatIn cs → ℕ
tracks_before cs r = length (written_out 0 r.before)

abbrev pub tracks_in : (cs : List Component) → RepeatIn cs → ℕ
tracks_in cs r = length r.repeat.tracks

-- n is CSS's number, held to the limit
pub record WholeRepetitions (inner : Option Float) (strategy : AutoRepeatStrategy) (gap : Sizing) (cs : List Component) (r : RepeatIn cs) (n : ℕ) : Type 0 where
  pub wanted : ℕ
  pub css : CssCount inner strategy gap cs wanted
  pub held : n ≡ held_to (tracks_before cs r) (tracks_in cs r) wanted

-- ---- where the number is asked for
-- a template in document 01's ranges: a single is one track, and sizes are in range; a repeat has no more tracks than a word of the tables can say, which may be more than 32
pub record InRange (cs : List Component) : Type 0 where
  pub single : (c : Component) → Memᴰ c cs → c.count ≡ Single → length c.tracks ≡ 1
  pub few : (c : Component) → Memᴰ c cs → length c.tracks ≤ 65535
  pub sizes : (c : Component) → Memᴰ c cs → (t : MinMax) → Memᴰ t c.tracks → T (sizing_in_range t.min) × T (sizing_in_range t.max)

-- inner size, gap and every size are whole numbers, 0 included. Sums need no bound of their own: where one repetition
-- fits they are below 2 ^ 24, up to which f32 is exact, and where it overflows the f32 sum does too
pub record WholeSizes (x : Float) (g : Sizing) (cs : List Component) : Type 0 where
  pub inner : IsWhole x
  pub inner_in_range : T (up_to largest_length x)
  pub gap : IsWholeIn x g
  pub gap_in_range : T (sizing_in_range g)
  pub sizes : (c : Component) → Memᴰ c cs → (t : MinMax) → Memᴰ t c.tracks → IsWholeIn x t.min × IsWholeIn x t.max

-- without an inner size no size counts
abbrev pub WholeIn : Option Float → Sizing → List Component → Type 0
WholeIn (Some x) gap cs = WholeSizes x gap cs
WholeIn None gap cs = Unit {0}
