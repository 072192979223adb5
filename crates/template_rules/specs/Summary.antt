-- What the one walk over a template gathers: after the whole of it, and after any number of steps.
use Rattle.std.specs.Prelude.{◌≡◌, ℕ, ◌+◌, ◌-◌, true, false, cond, List, [], ◌∷◌, ◌++◌, length, take, ◌==◌, ◌≢◌, Float}
use Rattle.sizing.specs.Words.{zero32}
use Rattle.sizing.specs.declared.MinMax.{MinMax}
use Rattle.template_rules.specs.Template.{Component}
use Rattle.template_rules.specs.Counts.{outside_count, automatic_count, before_count, automatic_tracks, any_empty, every_fixed}
use Rattle.template_rules.specs.Space.{outside_space, repetition_space}
use Rattle.template_rules.specs.declared.RepetitionCount.{RepetitionCount}
use Rattle.template_rules.specs.declared.RepetitionCount.TheVariants.{Single, Count, AutoFill, AutoFit}
use Rattle.template_rules.specs.declared.TemplateSummary.{TemplateSummary}

-- what is gathered after a template, each field in document 01's words
abbrev pub meaning_of : Float → List Component → TemplateSummary
meaning_of inner cs =
    record {
      empty = any_empty cs;
      fixed = every_fixed cs;
      automatic = automatic_count cs;
      outside = outside_count cs;
      before = before_count cs;
      repeated = length (automatic_tracks cs);
      used = outside_space inner cs;
      once = repetition_space inner cs;
    }

-- before any component
abbrev pub no_components : TemplateSummary
no_components = record { empty = false; fixed = true; automatic = 0; outside = 0; before = 0; repeated = 0; used = zero32; once = zero32 }

-- a step for each component, and one for each track in a repeat: the steps inside a component of n tracks, and those of a template
abbrev pub steps_inside : RepetitionCount → ℕ → ℕ
steps_inside Single n = 0
steps_inside (Count times) n = n
steps_inside AutoFill n = n
steps_inside AutoFit n = n

unfoldable pub steps_in : List Component → ℕ
steps_in [] = 0
steps_in (c ∷ cs) = 1 + steps_inside c.count (length c.tracks) + steps_in cs

-- the tracks of a component after k steps inside it: of a repeat the first k, of a single its one
abbrev pub first_tracks : ℕ → RepetitionCount → List MinMax → List MinMax
first_tracks k Single ts = ts
first_tracks k (Count times) ts = take k ts
first_tracks k AutoFill ts = take k ts
first_tracks k AutoFit ts = take k ts

-- the part of a template that lies within its first k steps: it may end inside a repeat, which then has its tracks so far
unfoldable pub first_part : ℕ → List Component → List Component
first_part k [] = []
first_part k (c ∷ cs) =
    cond (k == 0) []
    (record { count = c.count; tracks = first_tracks (k - 1) c.count c.tracks } ∷ first_part (k - 1 - steps_inside c.count (length c.tracks)) cs)

-- what one step adds to a first part: a single or a repeat of no tracks so far, or one track of the last repeat
pub data OneMore (part : List Component) : List Component → Type 0 where
  another : (c : Component) → steps_inside c.count (length c.tracks) ≡ 0 → OneMore part (part ++ (c ∷ []))
  further : (before : List Component) (count : RepetitionCount) (ts : List MinMax) (t : MinMax) → (count ≢ Single) → part ≡ before ++ (record { count = count; tracks = ts } ∷ []) → OneMore part (before ++ (record { count = count; tracks = ts ++ (t ∷ []) } ∷ []))
