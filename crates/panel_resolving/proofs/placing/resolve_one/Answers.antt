use mathlib.Core.Path.{refl}
use Rattle.name_groups.proofs.Ungrouped.{whole_grouped}
use Rattle.panel_resolving.proofs.placing.resolve_one.Goals as goal

pub write_beside-requires-clause-lists : goal.write_beside-requires-clause-lists
write_beside-requires-clause-lists c = rw c.requires.grouping_value.0 (whole_grouped c.args.names.entries.now c.args.names.store.now).lists

pub returns : goal.returns
returns c = c.write_beside.ensures.1 refl c.requires.index_value
