use Rattle.std.proofs.Common.{rules, ◌≡◌}
use Rattle.std.specs.Prelude.{Err}
use mathlib.Core.Path.{sym}
use Rattle.panel_hits.specs.Settled.{lent_of}
use Rattle.panel_hits.proofs.Answers.{within-refused, within_long, within-listed}
use Rattle.panel_hits.proofs.placements_within.Goals as goal

pub returns-in_err-within : goal.returns-in_err-within
returns-in_err-within c =
    let a = c.args in
    let fault = c.in_err-within.field-0.0 in
    let h : c.from_residual.result ≡ Err fault = search rules in
    rw h (within-refused a.grid a.lent.words.now (lent_of a.lent) a.items.now a.hits.now c.lines_within-lines.result c.check_stores-stores.result c.check_stores-stores.ensures a.span c.lines_within-lines.ensures fault (sym c.in_err-within.ensures))

pub write_settled-requires : goal.write_settled-requires
write_settled-requires c = let a = c.args in within_long a.grid a.lent.words.now (lent_of a.lent) a.items.now a.hits.now c.lines_within-lines.result c.check_stores-stores.result c.check_stores-stores.ensures _ (sym c.in_ok-within.ensures)

pub returns : goal.returns
returns c = let a = c.args in within-listed a.grid a.lent.words.now (lent_of a.lent) a.items.now a.hits.now c.lines_within-lines.result c.check_stores-stores.result c.check_stores-stores.ensures a.span c.lines_within-lines.ensures _ (sym c.in_ok-within.ensures) _ _ c.write_settled.ensures
