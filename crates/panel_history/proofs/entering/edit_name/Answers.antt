use Rattle.std.proofs.Common.{rules, false, true, ◌≡◌}
use Rattle.name_entries.specs.Names.{is_name}
use Rattle.panel_history.specs.Names.{edited_name}
use Rattle.panel_history.proofs.entering.edit_name.Goals as goal

pub returns-then-not-is_name : goal.returns-then-not-is_name
unfolding edited_name
returns-then-not-is_name c =
    let e : is_name c.args.entry.name.now ≡ false = search rules in
    rw e

pub returns : goal.returns
unfolding edited_name
returns c =
    let e : is_name c.args.entry.name.now ≡ true = search rules in
    rw (e, ← c.write_entry-length.ensures.0) c.edit.ensures
