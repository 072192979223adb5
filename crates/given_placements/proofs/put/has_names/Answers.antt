use mathlib.Core.Path.{sym, ap, ◌∙◌}
use Rattle.std.proofs.Common.{not}
use Rattle.given_placements.proofs.Tables.{missing-none, missing-here, missing-after}
use Rattle.given_placements.proofs.put.has_names.Goals as goal

pub returns-then-left-own : goal.returns-then-left-own
returns-then-left-own c = let l = c.loop-one in
    sym (ap not (sym l.invariant ∙ missing-here c.args.given.now l.one-index _ c.loop-one-test.true l.left c.own_bytes-own.result c.own_bytes-own.ensures c.if-left-own.true))

pub loop-one-preserved : goal.loop-one-preserved
loop-one-preserved c = let l = c.loop-one in
    missing-after c.args.given.now l.one-index _ c.loop-one-test.true l.left c.own_bytes-own.result c.own_bytes-own.ensures c.if-left-own.false ∙ l.invariant

pub returns : goal.returns
returns c = let l = c.loop-one in sym (ap not (sym l.invariant ∙ missing-none c.args.given.now l.one-index c.loop-one-test.false l.left))
