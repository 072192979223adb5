use Rattle.std.proofs.Common.{sym, ap, ◌∙◌, arith, rules}
use Rattle.panel_answer.specs.Text.{text_from}
use Rattle.panel_answer.proofs.Fills.{told-left, none-left, same_bytes}
use Rattle.panel_answer.proofs.Text.{text-end}
use Rattle.panel_program.specs.Printed.{zero_tables, zero_lands}
use Rattle.panel_program.proofs.Bytes.{part_ok, none_ok, ok_whole}
use Rattle.panel_program.proofs.print_answer.Goals as goal

pub loop-lent-init : goal.loop-lent-init
loop-lent-init g c = (search rules, none_ok _ _ _)

pub loop-lent-smaller : goal.loop-lent-smaller
loop-lent-smaller g c =
    let e = told-left c.loop-lent.next (sym c.is_some.ensures ∙ c.loop-lent-test.true) in
    c.fill-filled.ensures.fewer (omega (arith, c.loop-lent.invariant.0)) e

pub loop-lent-preserved : goal.loop-lent-preserved
loop-lent-preserved g c =
    let f = c.fill-filled.ensures in
    (same_bytes f ∙ c.loop-lent.invariant.0, part_ok c.write_all.result (g.W.Write.contents c.write_all.new.self) f c.and-written.ensures c.loop-lent.invariant.1 c.write_all.ensures.bytes)

pub returns-clause-printed : goal.returns-clause-printed
unfolding zero_tables zero_lands
returns-clause-printed g c =
    let e = none-left c.loop-lent.next (sym c.is_some.ensures ∙ c.loop-lent-test.false) in
    ok_whole c.args.sheet.now c.loop-lent.invariant.1 (ap (text_from _) e ∙ text-end _) c.begin_answer-begun.ensures.printed
