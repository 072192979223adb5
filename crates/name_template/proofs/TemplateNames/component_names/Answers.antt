use native.Mathlib.Omega.{arith}
use mathlib.Core.Path.{◌≡◌}
use mathlib.Core.Bool.{false}
use Rattle.template_rules.specs.Template.{component_of}
use lib.ListN.{get_or}
use Rattle.name_template.specs.Steps.{component_names}
use Rattle.name_template.proofs.Walking.{ends_within, component-small}
use Rattle.name_template.proofs.TemplateNames.component_names.Goals as goal
use Rattle.name_template.proofs.TemplateNames.component_names.Goals.{After-from-parts}

pub end_of_names-inside-requires : goal.end_of_names-inside-requires
end_of_names-inside-requires c = let a = c.args in rw c.end_of_names-before.ensures (ends_within false a.component a.self.names.now a.at c.requires.0)

-- the component that stands there
parts : (c : After-from-parts) → c.from-parts.result ≡ component_of (get_or c.args.self.components.now c.args.component 0)
parts c = c.from-parts.ensures

pub line_after-requires : goal.line_after-requires
line_after-requires c = let a = c.args in
    record { small = (c.requires.2, rw (parts (goal.at.line_after-requires c).After-from-parts) (component-small (get_or a.self.components.now a.component 0) (omega arith))); counted = c.repetitions_written-written.ensures }

pub returns-clause-value : goal.returns-clause-value
unfolding component_names
returns-clause-value c =
    let p = parts (goal.at.returns-clause-value c).After-from-parts in
    rw (c.line_after.ensures, c.repetitions_written-written.ensures, c.times_of-times.ensures, c.from.ensures, p, c.end_of_names-inside.ensures, c.end_of_names-before.ensures)

pub returns-clause-few : goal.returns-clause-few
returns-clause-few c = let a = c.args in
    rw (parts (goal.at.returns-clause-few c).After-from-parts) (component-small (get_or a.self.components.now a.component 0) (omega arith))
