use Rattle.std.proofs.Common.{arith}
use Rattle.panel_text.specs.Lines.{size_line}
use Rattle.panel_text.proofs.Puts.{line-put, field_then}
use Rattle.panel_text.proofs.size_line.Goals as goal

pub returns : goal.returns
unfolding size_line
returns c = line-put c.new-text.ensures (field_then c.field.ensures (field_then c.axis.ensures (field_then c.count.ensures c.count-2.ensures.added))) (omega arith) c.put.ensures.bytes c.put.ensures.whole
