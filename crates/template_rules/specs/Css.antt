-- CSS Grid Level 2, 7.2, automatic repeats: which templates are valid, and how often the repeat is written out, as predicates
-- (SHEET.md, Template; SHEET.md, Repetitions).
-- Sums, leftover and the quotient are document 01's f32 operations (layer 3), and a track in the repeat measures at least 1 px, the floor that CSS
-- suggests and document 02 takes (Req 05); CssWhole.antt does without the f32 operations, in whole numbers.
use Rattle.std.specs.Prelude.{◌≡◌, ℕ, ◌+◌, ◌-◌, ◌*◌, ◌<◌, ◌≤◌, true, ◌⊎◌, List, [], length, slice_index_or, Float, Option, Some, None}
use mathlib.Core.List.{Memᴰ}
use Rattle.std.specs.Float.Ieee.{lt}
use Rattle.sizing.specs.Definite.{is_fixed, gap_of}
use Rattle.sizing.specs.declared.Sizing.{Sizing}
use Rattle.sizing.specs.declared.MinMax.{MinMax}
use Rattle.template_rules.specs.Template.{Component}
use Rattle.template_rules.specs.Counts.{is_automatic, before_count, automatic_tracks}
use Rattle.template_rules.specs.Exact.{AtMost, AtLeast}
use Rattle.template_rules.specs.Summary.{meaning_of}
use Rattle.template_rules.specs.Repetitions.{first_space, quotient}
use Rattle.template_rules.specs.declared.RepetitionCount.TheVariants.{Single, Count}
use Rattle.template_rules.specs.declared.AutoRepeatStrategy.{AutoRepeatStrategy}
use Rattle.template_rules.specs.declared.AutoRepeatStrategy.TheVariants.{MaxRepetitionsThatDoNotOverflow, MinRepetitionsThatDoOverflow}

abbrev pub Automatic : Component → Type 0
Automatic c = is_automatic c.count ≡ true

-- any component but a single track
abbrev pub Repeat : Component → Type 0
Repeat c = c.count ≡ Single → ⊥

-- "a fixed part: a length or percentage as its minimum or as its maximum"
abbrev pub FixedPart : MinMax → Type 0
FixedPart t = (is_fixed t.min ≡ true) ⊎ (is_fixed t.max ≡ true)

-- what stands past the end of a list
abbrev pub no_component : Component
no_component = record { count = Single; tracks = [] }

-- "a repeat has at least one track, a written count is at least 1"; "at most one automatic repeat in a template, and then every track in the
-- template has a fixed part". That names without any track are no template can't be said of components: `sheet_rules/specs/Valid.antt` adds it
pub record Valid (cs : List Component) : Type 0 where
  pub filled : (c : Component) → Memᴰ c cs → Repeat c → 0 < length c.tracks
  pub written : (c : Component) → Memᴰ c cs → (times : ℕ) → c.count ≡ Count times → 1 ≤ times
  pub once : (i j : ℕ) → i < length cs → j < length cs → Automatic (slice_index_or cs i no_component) → Automatic (slice_index_or cs j no_component) → i ≡ j
  pub fixed : (a : Component) → Memᴰ a cs → Automatic a → (c : Component) → Memᴰ c cs → (t : MinMax) → Memᴰ t c.tracks → FixedPart t

-- the largest and the smallest number of a kind
pub record Largest (P : ℕ → Type 0) (n : ℕ) : Type 0 where
  pub holds : P n
  pub largest : (m : ℕ) → P m → m ≤ n

pub record Smallest (P : ℕ → Type 0) (n : ℕ) : Type 0 where
  pub holds : P n
  pub smallest : (m : ℕ) → P m → n ≤ m

-- one repetition, with the tracks outside it and the gaps, overflows
abbrev pub Overflows : Float → Float → List Component → Type 0
Overflows inner gap cs = lt inner (first_space (meaning_of inner cs) gap) ≡ true

-- n repetitions do not overflow; "where even one repetition overflows, 1"
abbrev pub Fits : Float → Float → List Component → ℕ → Type 0
Fits inner gap cs n = (n ≡ 1) ⊎ ((Overflows inner gap cs → ⊥) × AtMost (n - 1) (quotient (meaning_of inner cs) inner gap))

-- n repetitions reach the size
abbrev pub Reaches : Float → Float → List Component → ℕ → Type 0
Reaches inner gap cs n = Overflows inner gap cs ⊎ AtLeast (n - 1) (quotient (meaning_of inner cs) inner gap)

-- document 01's limit of 10,000 tracks: after n repetitions the next one would still begin inside it
abbrev pub BeginsAfter : List Component → ℕ → Type 0
BeginsAfter cs n = before_count cs + n * length (automatic_tracks cs) < 10000

-- the number of repetitions where the limit leaves any: "the largest positive whole number that does not make the grid overflow", as far as
-- repetitions begin inside the limit; "the smallest positive whole number that reaches" the size, or the last that begins inside the limit;
-- "without either: 1"
abbrev pub Wanted : Option Float → AutoRepeatStrategy → Sizing → List Component → ℕ → Type 0
Wanted (Some x) MaxRepetitionsThatDoNotOverflow gap cs = Largest (λ (n : ℕ). (1 ≤ n) × BeginsAfter cs (n - 1) × Fits x (gap_of gap x) cs n)
Wanted (Some x) MinRepetitionsThatDoOverflow gap cs = Smallest (λ (n : ℕ). (1 ≤ n) × (Reaches x (gap_of gap x) cs n ⊎ (BeginsAfter cs n → ⊥)))
Wanted None strategy gap cs = λ (n : ℕ). n ≡ 1

-- the number of automatic repetitions; none where the tracks before the repeat fill the grid
pub record Repetitions (inner : Option Float) (strategy : AutoRepeatStrategy) (gap : Sizing) (cs : List Component) (n : ℕ) : Type 0 where
  pub full : 10000 ≤ before_count cs → n ≡ 0
  pub wanted : before_count cs < 10000 → Wanted inner strategy gap cs n
