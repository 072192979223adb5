use Rattle.std.proofs.Common.{arith}
use Rattle.panel_text.specs.Lines.{cell_line}
use Rattle.panel_text.proofs.Puts.{line-put, field_then}
use Rattle.panel_text.proofs.cell_line.Goals as goal

pub returns : goal.returns
unfolding cell_line
returns c = line-put c.new-text.ensures (field_then c.field.ensures (field_then c.count.ensures (field_then c.count-2.ensures (field_then c.count-3.ensures c.count-4.ensures.added)))) (omega arith) c.put.ensures.bytes c.put.ensures.whole
