-- The automatic repeat of a template (document 01, layer 3): whether there is one that counts, and how often it is written out at an inner size.
use Rattle.std.specs.Prelude.{ℕ, Bool, cond, ◌&&◌, List, eqb, leb, length, Float, Option}
use Rattle.sizing.specs.Words.{zero32}
use Rattle.sizing.specs.declared.Sizing.{Sizing}
use Rattle.template_rules.specs.Template.{Component}
use Rattle.template_rules.specs.Summary.{meaning_of, no_components}
use Rattle.template_rules.specs.Explicit.{valid_of, template_size_of, inner_value}
use Rattle.template_rules.specs.declared.AutoRepeatStrategy.{AutoRepeatStrategy}
use Rattle.template_rules.specs.declared.TemplateSummary.{TemplateSummary}

-- what is gathered of a template; more than 64 components, which no sheet has, count as none
unfoldable pub gathered_of : Float → List Component → TemplateSummary
gathered_of inner cs = cond (leb (length cs) 64) (meaning_of inner cs) no_components

-- the template counts, and one of its repeats is automatic
abbrev pub asks_of : TemplateSummary → Bool
asks_of s = valid_of s && eqb s.automatic 1

unfoldable pub repeats_automatically : List Component → Bool
repeats_automatically cs = asks_of (gathered_of zero32 cs)

-- the repetitions of layer 3, not refused by the tracks that they come to: 0 where the template counts as none or has no automatic repeat
unfoldable pub repetitions_in : Option Float → AutoRepeatStrategy → Sizing → List Component → ℕ
repetitions_in inner strategy gap cs = (template_size_of inner strategy gap (gathered_of (inner_value inner) cs)).repetitions
