-- How often the automatic repeat is written out (document 01, layer 3), from what a template adds up to.
use Rattle.std.specs.Prelude.{ℕ, ◌+◌, ◌-◌, ◌/◌, min, max, cond, nat_le, Float, Option, Some, None}
use Rattle.std.specs.Float.{binary32}
use Rattle.std.specs.Float.Ieee.{add, sub, mul, div, lt}
use Rattle.sizing.specs.Definite.{gap_of}
use Rattle.sizing.specs.declared.Sizing.{Sizing}
use Rattle.template_rules.specs.Whole.{largest_count, floor_of, ceiling_of}
use Rattle.template_rules.specs.Space.{whole32}
use Rattle.template_rules.specs.declared.AutoRepeatStrategy.{AutoRepeatStrategy}
use Rattle.template_rules.specs.declared.AutoRepeatStrategy.TheVariants.{MaxRepetitionsThatDoNotOverflow, MinRepetitionsThatDoOverflow}
use Rattle.template_rules.specs.declared.TemplateSummary.{TemplateSummary}

-- "the tracks outside the repeat held to 10,000 for the gaps": how many gaps lie between these and one repetition
abbrev pub gaps_of : TemplateSummary → ℕ
gaps_of s = min s.outside 10000 + s.repeated - 1

-- the tracks outside, one repetition, and the gaps between them
abbrev pub first_space : TemplateSummary → Float → Float
first_space s gap = add binary32 (add binary32 s.used s.once) (mul binary32 (whole32 (gaps_of s)) gap)

-- "one repetition with its gaps"
abbrev pub further_space : TemplateSummary → Float → Float
further_space s gap = add binary32 s.once (mul binary32 (whole32 s.repeated) gap)

-- "leftover is the inner size less these"; leftover over one repetition with its gaps
abbrev pub leftover : TemplateSummary → Float → Float → Float
leftover s inner gap = sub binary32 inner (first_space s gap)

abbrev pub quotient : TemplateSummary → Float → Float → Float
quotient s inner gap = div binary32 (leftover s inner gap) (further_space s gap)

-- "floor (rule max) or ceiling (rule min)"
abbrev pub whole_of : AutoRepeatStrategy → Float → ℕ
whole_of MaxRepetitionsThatDoNotOverflow x = floor_of x
whole_of MinRepetitionsThatDoOverflow x = ceiling_of x

-- "plus one", at most the largest count
abbrev pub one_more : ℕ → ℕ
one_more n = min (n + 1) largest_count

-- "a first repetition that overflows gives 1"
unfoldable pub fitting_of : AutoRepeatStrategy → Float → Float → TemplateSummary → ℕ
unfolding floor_of ceiling_of
fitting_of strategy inner gap s = cond (lt inner (first_space s gap)) 1 (one_more (whole_of strategy (quotient s inner gap)))

-- "no inner size gives 1"
abbrev pub wanted_of : Option Float → AutoRepeatStrategy → Sizing → TemplateSummary → ℕ
wanted_of (Some inner) strategy gap s = fitting_of strategy inner (gap_of gap inner) s
wanted_of None strategy gap s = 1

-- "held to 1..ceiling((10,000 − p) / k), or is 0 where p ≥ 10,000"
abbrev pub room : ℕ → ℕ → ℕ
room p k = (10000 - p + k - 1) / k

unfoldable pub held_of : ℕ → ℕ → ℕ → ℕ
held_of p k n = cond (nat_le 10000 p) 0 (max 1 (min n (room p k)))

unfoldable pub repetitions_of : Option Float → AutoRepeatStrategy → Sizing → TemplateSummary → ℕ
unfolding fitting_of held_of
repetitions_of inner strategy gap s = held_of s.before s.repeated (wanted_of inner strategy gap s)
