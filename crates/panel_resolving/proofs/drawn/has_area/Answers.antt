use Rattle.std.proofs.Common.{rules, tests}
use Rattle.std.proofs.lemmas.Iterator.{YieldsList-from_range}
use Rattle.std.proofs.lemmas.Iterator.Search.{any_from_yields_List}
use mathlib.Core.Path.{◌∙◌, sym}
use lib.ListN.{length}
use native.Mathlib.Omega.{arith}
use Rattle.panel_resolving.proofs.DrawnAreas.{is_named_at, drawn-any}
use Rattle.panel_resolving.proofs.drawn.has_area.Goals as goal

pub returns : goal.returns
returns c =
    let a = c.args.areas in
    let n = length a.edges.now in
    any_from_yields_List (is_named_at a.names.now a.store.now c.args.name.now) _ _ c.any.result c.any.ensures.ran (YieldsList-from_range 0 n n (search rules) (omega arith)) (λ x b q k. search (rules, tests))
    ∙ sym (drawn-any a.names.now a.store.now c.args.name.now a.edges.now)
