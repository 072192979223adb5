-- Trying a call after a run answers what the run with that call answers. Assumes nothing.
use mathlib.Core.Path.{◌≡◌, refl, sym, subst}
use mathlib.Core.List.{List, [], ◌∷◌, ◌++◌}
use Rattle.panel_rules.specs.Runs.{Held, Call, after, after_calls, sheet_held}
use Rattle.panel_trial.specs.Trial as Trial
use Rattle.panel_trial.specs.Runs.{HeldAnswered, refused, entered, TriedAsRun}

-- one call more at the end of a run
calls_more : (h : Held) (calls : List Call) (c : Call) → after_calls h (calls ++ (c ∷ [])) ≡ after (after_calls h calls) c
unfolding after_calls
calls_more h [] c = refl
calls_more h (d ∷ calls) c = calls_more (after h d) calls c

pub tried_as_run : TriedAsRun
tried_as_run sheet t calls c packing before last r (Trial.refused fault some same e) = refused fault some same e
tried_as_run sheet t calls c packing before last r (Trial.entered none answer) =
    entered none (subst (λ (h : Held). HeldAnswered h packing before last r) (sym (calls_more (sheet_held sheet t) calls c)) answer)
