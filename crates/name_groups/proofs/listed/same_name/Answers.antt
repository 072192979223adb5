use mathlib.Core.Path.{sym, ◌∙◌}
use borrow.Author.Tests.{eq-eqb}
use Rattle.name_groups.proofs.Listing.{same_part}
use Rattle.name_groups.proofs.listed.same_name.Goals as goal

pub returns-then-a-b : goal.returns-then-a-b
returns-then-a-b c = eq-eqb _ _ c.if-a-b.true ∙ sym (same_part c.args.store.now c.args.a c.args.b c.if-a-b.true)
