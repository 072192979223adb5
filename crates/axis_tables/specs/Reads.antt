-- What the words of an axis read as, whatever they are.
use Rattle.std.specs.Prelude.{ℕ, List, cond, eqb, Float, Option, Some, None}
use Rattle.sizing.specs.Words.{float_up_to, largest_bits, sizing_of}
use Rattle.template_rules.specs.declared.AutoRepeatStrategy.{AutoRepeatStrategy}
use Rattle.template_rules.specs.declared.RepeatSpace.{RepeatSpace}
use Rattle.template_rules.specs.Strategies.{strategy_of}
use Rattle.name_entries.specs.Places.{name_place}
use Rattle.axis_tables.specs.declared.AxisSpace.{AxisSpace}
use Rattle.axis_tables.specs.Runs.{part_of}
use Rattle.axis_tables.specs.View.{NameRecord}

-- the bits of an inner size, where there is one
abbrev pub inner_bits : AxisSpace → Option ℕ
inner_bits s = cond (eqb s.definite 0) None (Some s.inner)

-- "inner size or `-`"
abbrev pub inner_in : AxisSpace → Option Float
inner_in s = cond (eqb s.definite 0) None (Some (float_up_to largest_bits s.inner))

-- rule 0 is `max`, 1 is `min`
abbrev pub strategy_in : AxisSpace → AutoRepeatStrategy
strategy_in s = strategy_of s.rule

-- what an automatic repeat of the axis is asked with
abbrev pub repeat_space : AxisSpace → RepeatSpace
repeat_space s = record { inner = inner_in s; strategy = strategy_in s; gap = sizing_of s.gap }

-- the name that a word stands for, with its bytes
abbrev pub name_record_in : List ℕ → ℕ → NameRecord
name_record_in store w = record { component = (name_place w).component; place = (name_place w).place; name = part_of store (name_place w).offset (name_place w).length }
