use Rattle.std.proofs.Common.{rules}
use Rattle.panel_program.proofs.Long.{whole_answered}
use Rattle.panel_program.proofs.answer_input.Goals as goal

pub returns-clause-answered : goal.returns-clause-answered
returns-clause-answered g c =
    let read = c.read_full-length.ensures in
    whole_answered c.read_full-length.result.1 c.print_answer-left.result.1 (g.R.Read.remaining c.args.input.now) (g.R.Read.remaining c.read_full-length.new.input)
    (g.W.Write.contents c.args.output.now) (g.W.Write.contents c.print_answer-left.new.output) c.read_full-length.new.buffer c.read_full-length.result.0 c.and.ensures (search rules) read.within read.taken read.whole c.print_answer-left.ensures.printed
