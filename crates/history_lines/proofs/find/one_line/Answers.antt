use Rattle.std.proofs.Common.{◌∙◌, ap, not}
use Rattle.history_lines.proofs.Ends.{no_feed}
use Rattle.history_lines.proofs.find.one_line.Goals as goal

pub returns : goal.returns
returns c = ap not c.contains.ensures.value ∙ no_feed c.args.text.now
