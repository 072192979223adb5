use Rattle.std.specs.Prelude.{Option, Some, None}
use Prim.Native.Nat.{ℕ, min}
use mathlib.Core.Path.{◌≡◌, sym, ap, ◌∙◌}
use lib.Ieee.{Float}
use native.Mathlib.Omega.{arith}
use Rattle.sizing.specs.Words.{zero32}
use Rattle.sizing.specs.Definite.{gap_of}
use Rattle.sizing.specs.declared.Sizing.{Sizing}
use Rattle.template_rules.specs.Bounds.{Gathered}
use Rattle.template_rules.specs.Explicit.{template_size_of}
use Rattle.template_rules.specs.declared.AutoRepeatStrategy.{AutoRepeatStrategy}
use Rattle.template_rules.specs.declared.TemplateSummary.{TemplateSummary}
use Rattle.explicit_size.specs.declared.repeat.RepeatSpaces.{RepeatSpaces}
use Rattle.explicit_size.specs.Steps.{spaces_by, most_of, count_by}
use Rattle.explicit_size.proofs.Counted.{counted, counted-at}
use Rattle.explicit_size.proofs.repeat.gathered_repetitions.Goals as goal

-- over plain values
definite : (inner : Option Float) (strategy : AutoRepeatStrategy) (gap : Sizing) (s : TemplateSummary) (x value : Float) (spaces : Option RepeatSpaces) (r : ℕ) → Gathered 64 s → inner ≡ Some x
    → value ≡ gap_of gap x → spaces ≡ spaces_by s value → r ≡ count_by strategy x spaces → r ≡ (template_size_of inner strategy gap s).repetitions
definite inner strategy gap s x value spaces r g e v p k = rw e (k ∙ rw (p, v) (sym (counted-at s g x strategy gap)))

one_at_most : (n : ℕ) → min n 1 ≡ min 1 n
one_at_most n = omega arith

indefinite : (inner : Option Float) (strategy : AutoRepeatStrategy) (gap : Sizing) (s : TemplateSummary) (spaces : Option RepeatSpaces) (r : ℕ) → Gathered 64 s → inner ≡ None
    → spaces ≡ spaces_by s zero32 → r ≡ min (most_of spaces) 1 → r ≡ (template_size_of inner strategy gap s).repetitions
indefinite inner strategy gap s spaces r g e p k = rw e (k ∙ one_at_most (most_of spaces) ∙ rw p (sym (counted s g None strategy gap zero32)))

pub returns-in-Some : goal.returns-in-Some
returns-in-Some c = definite _ _ _ _ _ _ _ _ c.args.gathered.bounds c.in-Some.is c.gap_value.ensures c.spaces_by-spaces.ensures c.repetitions_in.ensures

pub returns-in-None : goal.returns-in-None
returns-in-None c =
    indefinite _ _ _ _ _ _ c.args.gathered.bounds c.in-None.is c.spaces_by.ensures (c.min.ensures ∙ ap (λ n. min n 1) c.most_repetitions.ensures)
