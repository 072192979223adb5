-- Document 01's edges M4 to M7, M7 as document 02's Req 05 has it, the worked case, and what these say of other templates: one list under one theorem.
-- A size is given by its bits.
use Rattle.std.specs.Prelude.{ℕ, Bool, true, ◌&&◌, T, List, [], ◌∷◌, ◌==◌, Float, Option, Some, None}
use Rattle.std.specs.Float.{binary32}
use Rattle.std.specs.Float.Ieee.{of_bits, add, sub, mul, div, lt, of_int}
use Rattle.sizing.specs.declared.MinMax.{MinMax}
use Rattle.sizing.specs.declared.Sizing.{Sizing}
use Rattle.sizing.specs.declared.Sizing.TheVariants.{Length, Percent, Auto}
use Rattle.template_rules.specs.Template.{Component}
use Rattle.template_rules.specs.Explicit.{explicit_size_of}
use Rattle.template_rules.specs.declared.RepetitionCount.{RepetitionCount}
use Rattle.template_rules.specs.declared.RepetitionCount.TheVariants.{Single, Count, AutoFill, AutoFit}
use Rattle.template_rules.specs.declared.AutoRepeatStrategy.{AutoRepeatStrategy}
use Rattle.template_rules.specs.declared.AutoRepeatStrategy.TheVariants.{MaxRepetitionsThatDoNotOverflow, MinRepetitionsThatDoOverflow}

abbrev f32 : ℕ → Float
f32 b = of_bits binary32 b

-- lengths by their bits, and the percentage a tenth
abbrev zero : ℕ
zero = 0x0000_0000

abbrev half : ℕ
half = 0x3f00_0000

abbrev two : ℕ
two = 0x4000_0000

abbrev five : ℕ
five = 0x40a0_0000

abbrev ten : ℕ
ten = 0x4120_0000

abbrev eleven : ℕ
eleven = 0x4130_0000

abbrev hundred : ℕ
hundred = 0x42c8_0000

abbrev tenth : ℕ
tenth = 0x3dcc_cccd

abbrev inner : ℕ → Option Float
inner b = Some (f32 b)

abbrev rule_max : AutoRepeatStrategy
rule_max = MaxRepetitionsThatDoNotOverflow

abbrev rule_min : AutoRepeatStrategy
rule_min = MinRepetitionsThatDoOverflow

-- a track of one size, and components of such tracks
abbrev same : Sizing → MinMax
same s = record { min = s; max = s }

abbrev component : RepetitionCount → List MinMax → Component
component k ts = record { count = k; tracks = ts }

abbrev fill : Sizing → List Component
fill s = component AutoFill (same s ∷ []) ∷ []

abbrev wide : Sizing
wide = Length (f32 hundred)

pub record Case : Type 0 where
  pub inner : Option Float
  pub strategy : AutoRepeatStrategy
  pub gap : Sizing
  pub areas : ℕ
  pub template : List Component
  pub answer : ℕ × ℕ × ℕ × ℕ

abbrev case : Option Float → AutoRepeatStrategy → Sizing → ℕ → List Component → ℕ × ℕ × ℕ × ℕ → Case
case i r g a t n = record { inner = i; strategy = r; gap = g; areas = a; template = t; answer = n }

-- answers: refusal's number, repetitions, template count, explicit count
abbrev pub cases : List Case
cases =
    -- M4: 100-wide fill, gap 10, inner 320: 3
    case (inner 0x43a0_0000) rule_max (Length (f32 ten)) 0 (fill wide) (0, 3, 3, 3)
    -- M5: inner 319: 2 by max, 3 by min
    ∷ case (inner 0x439f_8000) rule_max (Length (f32 ten)) 0 (fill wide) (0, 2, 2, 2)
    ∷ case (inner 0x439f_8000) rule_min (Length (f32 ten)) 0 (fill wide) (0, 3, 3, 3)
    -- M6: inner 99, or none: 1
    ∷ case (inner 0x42c6_0000) rule_max (Length (f32 ten)) 0 (fill wide) (0, 1, 1, 1)
    ∷ case None rule_max (Length (f32 ten)) 0 (fill wide) (0, 1, 1, 1)
    -- M7: length 0, gap 0, inner 10: 10; inner 0: 1
    ∷ case (inner ten) rule_max (Length (f32 zero)) 0 (fill (Length (f32 zero))) (0, 10, 10, 10)
    ∷ case (inner zero) rule_max (Length (f32 zero)) 0 (fill (Length (f32 zero))) (0, 1, 1, 1)
    -- the worked case: 100-wide fill, no gap, inner 200: 2
    ∷ case (inner 0x4348_0000) rule_max (Length (f32 zero)) 0 (fill wide) (0, 2, 2, 2)
    -- a tenth of the inner size fits ten times in 10 and nine times in 11: the count does not grow with the inner size
    ∷ case (inner ten) rule_max (Length (f32 zero)) 0 (fill (Percent (f32 tenth))) (0, 10, 10, 10)
    ∷ case (inner eleven) rule_max (Length (f32 zero)) 0 (fill (Percent (f32 tenth))) (0, 9, 9, 9)
    -- two tracks of 0 are 1 each: 5 repetitions in 10; of a half, also as a tenth of 5, there are 5 in 5 and 6 reach 5.5; of 1 and a half 6 in 10
    ∷ case (inner ten) rule_max (Length (f32 zero)) 0 (component AutoFit (same (Length (f32 zero)) ∷ same (Length (f32 zero)) ∷ []) ∷ []) (0, 5, 10, 10)
    ∷ case (inner five) rule_max (Length (f32 zero)) 0 (fill (Length (f32 half))) (0, 5, 5, 5)
    ∷ case (inner five) rule_max (Length (f32 zero)) 0 (fill (Percent (f32 tenth))) (0, 5, 5, 5)
    ∷ case (inner 0x40b0_0000) rule_min (Length (f32 zero)) 0 (fill (Length (f32 half))) (0, 6, 6, 6)
    ∷ case (inner ten) rule_max (Length (f32 zero)) 0 (fill (Length (f32 0x3fc0_0000))) (0, 6, 6, 6)
    -- the floor is under what a track measures, its maximum raised to its minimum: a minimum of a half below a maximum of 2
    ∷ case (inner ten) rule_max (Length (f32 zero)) 0 (component AutoFill (record { min = Length (f32 half); max = Length (f32 two) } ∷ []) ∷ []) (0, 5, 5, 5)
    -- neither under gaps nor under tracks outside the repeat: gaps of a half, a single of 0 and three of a half
    ∷ case (inner ten) rule_max (Length (f32 half)) 0 (fill (Length (f32 zero))) (0, 7, 7, 7)
    ∷ case (inner ten) rule_max (Length (f32 zero)) 0 (component Single (same (Length (f32 zero)) ∷ []) ∷ fill (Length (f32 zero))) (0, 10, 11, 11)
    ∷ case (inner ten) rule_max (Length (f32 zero)) 0 (component (Count 3) (same (Length (f32 half)) ∷ []) ∷ fill (Length (f32 zero))) (0, 8, 11, 11)
    -- a single and a counted repeat beside it: 320 less 100 and two times 10, gaps 10
    ∷ case (inner 0x43a0_0000) rule_max (Length (f32 ten)) 0 (component Single (same wide ∷ []) ∷ component (Count 2) (same (Length (f32 ten)) ∷ []) ∷ fill wide) (0, 1, 4, 4)
    -- areas with more tracks
    ∷ case (inner 0x43a0_0000) rule_max (Length (f32 ten)) 7 (fill wide) (0, 3, 3, 7)
    -- no component; then templates that count as none: a repeat of no tracks; two automatic repeats; an automatic repeat beside a track with no
    -- fixed kind, and around one; a written count of 0, also beside more than 10,000 tracks, and areas still count
    ∷ case (inner ten) rule_max (Length (f32 zero)) 2 [] (0, 0, 0, 2)
    ∷ case (inner ten) rule_max (Length (f32 zero)) 0 (component (Count 3) [] ∷ component Single (same wide ∷ []) ∷ []) (0, 0, 0, 0)
    ∷ case (inner ten) rule_max (Length (f32 zero)) 0 (component AutoFit (same wide ∷ []) ∷ fill wide) (0, 0, 0, 0)
    ∷ case (inner ten) rule_max (Length (f32 zero)) 0 (component Single (same Auto ∷ []) ∷ fill wide) (0, 0, 0, 0)
    ∷ case (inner ten) rule_max (Length (f32 zero)) 0 (fill Auto) (0, 0, 0, 0)
    ∷ case (inner ten) rule_max (Length (f32 zero)) 0 (component (Count 0) (same wide ∷ []) ∷ component Single (same wide ∷ []) ∷ []) (0, 0, 0, 0)
    ∷ case (inner ten) rule_max (Length (f32 zero)) 2 (component (Count 10001) (same wide ∷ []) ∷ component (Count 0) (same wide ∷ []) ∷ []) (0, 0, 0, 2)
    -- 10,000 tracks before the repeat leave none for it; above 10,000 the count is refused
    ∷ case (inner ten) rule_max (Length (f32 zero)) 0 (component (Count 10000) (same wide ∷ []) ∷ fill wide) (0, 0, 10000, 10000)
    ∷ case (inner ten) rule_max (Length (f32 zero)) 0 (component (Count 10001) (same wide ∷ []) ∷ []) (4, 0, 0, 0)
    ∷ []

abbrev pub holds : Case → Bool
holds c =
    let size = explicit_size_of c.inner c.strategy c.gap c.areas c.template in
    (size.refusal.number == c.answer.0) && size.repetitions == c.answer.1 && size.template == c.answer.2 && size.explicit == c.answer.3

abbrev pub every : {A : Type 0} → (A → Bool) → List A → Bool
every p [] = true
every p (x ∷ xs) = p x && every p xs

pub cases_hold : T (every holds cases)
unfolding explicit_size_of of_bits lt add mul of_int div sub
cases_hold = tt
