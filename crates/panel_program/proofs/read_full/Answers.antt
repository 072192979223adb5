use Rattle.std.proofs.Common.{◌+◌, sym, ap, subst, ◌∙◌, take, rules}
use Rattle.std.specs.Io.KnownBytes.{Consumes}
use Rattle.std.proofs.KnownBytes.{Consumes-trans}
use Rattle.panel_answer.proofs.Fills.{rest_back}
use Rattle.panel_program.proofs.Bytes.{read_more}
use Rattle.panel_program.proofs.read_full.Goals as goal

pub loop-done-preserved : goal.loop-done-preserved
loop-done-preserved g c =
    let l = c.loop-done in
    let (within, same, taken) = l.invariant in
    let t = ap (take (l.done + c.in-Ok.count)) (rest_back l.buffer c.read.new.buf l.done) ∙ read_more l.buffer c.read.new.buf l.done c.in-Ok.count within in
    (search rules, search rules, subst (Consumes _ _) (sym t) (Consumes-trans _ _ _ _ _ taken c.in-Ok.ensures.bytes.0))
