use Rattle.std.proofs.Common.{rules, ◌∙◌}
use Rattle.std.proofs.lemmas.Iterator.{YieldsList-from_slice}
use Rattle.std.proofs.lemmas.Iterator.Consumers.{fold_from_yields_List}
use Rattle.name_lines.specs.HighestLine.{higher_edge, highest_line}
use Rattle.name_lines.proofs.HighestLine.{edges_fold}
use Rattle.name_search.proofs.highest.highest_line.Goals as goal

pub returns : goal.returns
unfolding highest_line
returns c =
    let a = c.args in
    fold_from_yields_List _ (λ m w. higher_edge a.axis m w) c.highest_entry-number.result c.fold.result c.fold.ensures.ran (YieldsList-from_slice a.edges.now cc) (λ m x b q k. search rules)
    ∙ rw c.highest_entry-number.ensures (edges_fold a.axis _ a.edges.now)
