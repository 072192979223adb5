use Rattle.std.specs.Prelude.{Ok}
use Rattle.std.proofs.lemmas.Result.{err_from_is_err_and}
use mathlib.Core.Path.{sym, ap, ◌∙◌}
use native.Mathlib.Omega.{arith}
use Rattle.template_rules.specs.Explicit.{answered_size}
use Rattle.sheet_end.specs.End.{entries_put}
use Rattle.sheet_end.proofs.Puts.{none-put, some-entries, crowded-put, counted-put}
use Rattle.sheet_end.proofs.written.put_entries.Goals as goal

pub returns-then-size-eq0 : goal.returns-then-size-eq0
returns-then-size-eq0 c = none-put c.args.state c.args.words.now (answered_size (Ok c.args.size)) c.if-size-eq0.true

pub returns-in_err-count : goal.returns-in_err-count
returns-in_err-count c =
    let a = c.args in
    let n = c.names_of.ensures in
    let p = err_from_is_err_and c.from_residual.result c.from_residual.ensures.1 in
    rw (p.1, p.2)
    (crowded-put _ _ _ _ a.words.now _ c.in_err-count.field-0.0 (rw (n.names, n.components, n.repetitions) at c.in_err-count.ensures)
    ∙ ap (entries_put a.words.now) (sym (some-entries a.state a.words.now (answered_size (Ok a.size)) c.if-size-eq0.false)))

pub returns : goal.returns
returns c =
    let a = c.args in
    let n = c.names_of.ensures in
    rw (c.copy_what_fits.ensures, c.part_from.ensures)
    (counted-put _ _ _ _ a.words.now _ c.in_ok-count.count (omega arith) (rw (n.names, n.components, n.repetitions) at c.in_ok-count.ensures)
    ∙ ap (entries_put a.words.now) (sym (some-entries a.state a.words.now (answered_size (Ok a.size)) c.if-size-eq0.false)))
