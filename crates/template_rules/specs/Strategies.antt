-- The number of a rule, as the words of an axis have it.
use Rattle.std.specs.Prelude.{ℕ, cond, eqb}
use Rattle.template_rules.specs.declared.AutoRepeatStrategy.{AutoRepeatStrategy}
use Rattle.template_rules.specs.declared.AutoRepeatStrategy.TheVariants.{MaxRepetitionsThatDoNotOverflow, MinRepetitionsThatDoOverflow}

-- 0 for `max` and 1 for `min`
abbrev pub rule_number : AutoRepeatStrategy → ℕ
rule_number MaxRepetitionsThatDoNotOverflow = 0
rule_number MinRepetitionsThatDoOverflow = 1

-- any number but 0 is the second rule
abbrev pub strategy_of : ℕ → AutoRepeatStrategy
strategy_of n = cond (eqb n 0) MaxRepetitionsThatDoNotOverflow MinRepetitionsThatDoOverflow
