use Rattle.std.specs.Prelude.{Some}
use mathlib.Core.Path.{◌≡◌, ◌∙◌}
use Prim.Native.Nat.{ℕ}
use mathlib.Core.List.{List}
use lib.Ieee.{Float}
use lib.Ieee.Fits.{and_i}
use Rattle.sizing.specs.Words.{float_up_to, largest_bits, sizing_of}
use Rattle.sizing.specs.Ranges.{sizing_in_range}
use Rattle.sizing.proofs.Words.{length_in_range_lem, sizing_in_range_lem}
use Rattle.sizing.specs.declared.Sizing.{Sizing}
use Rattle.template_rules.specs.Template.{Component, template_of}
use Rattle.template_rules.specs.Explicit.{SizeAnswer, explicit_size_of, inner_in_range, explicit_answer_of}
use Rattle.template_rules.proofs.Answer.{answer-in-range}
use Rattle.template_rules.specs.declared.AutoRepeatStrategy.TheVariants.{MaxRepetitionsThatDoNotOverflow}
use Rattle.explicit_size_bench.specs.Numbers.{numbers_of}
use Rattle.explicit_size_bench.proofs.explicit_size_in_axis.Goals as goal

-- over plain values: x, g and r are what the calls answered
answered : (inner gap : ℕ) (x : Float) (g : Sizing) (cs : List Component) (r : SizeAnswer) → x ≡ float_up_to largest_bits inner → g ≡ sizing_of gap
    → r ≡ explicit_answer_of (Some x) MaxRepetitionsThatDoNotOverflow g 0 cs
    → numbers_of r ≡ numbers_of (explicit_size_of (Some (float_up_to largest_bits inner)) MaxRepetitionsThatDoNotOverflow (sizing_of gap) 0 cs)
answered inner gap x g cs r e f p =
    rw (
      p,
      e,
      f,
      answer-in-range (Some (float_up_to largest_bits inner)) MaxRepetitionsThatDoNotOverflow (sizing_of gap) 0 cs
          (and_i (inner_in_range (Some (float_up_to largest_bits inner))) (sizing_in_range (sizing_of gap)) (length_in_range_lem inner) (sizing_in_range_lem gap)),
    )

pub returns : goal.returns
returns c =
    let a = c.args in
    c.from-2.ensures
    ∙ answered _ _ _ _ (template_of a.components.now a.minimums.now a.maximums.now) _ c.length_of.ensures c.from.ensures c.compute_explicit_grid_size_in_axis.ensures
