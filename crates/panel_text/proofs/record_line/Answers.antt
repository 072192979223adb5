use Rattle.std.proofs.Common.{arith}
use Rattle.panel_text.specs.Lines.{record_line}
use Rattle.panel_text.proofs.Puts.{line-put, field_then, two_then}
use Rattle.panel_text.proofs.record_line.Goals as goal

pub returns : goal.returns
unfolding record_line
returns c = line-put c.new-text.ensures (field_then c.count.ensures (field_then c.track.ensures (field_then c.collapsed.ensures (two_then c.size.ensures (two_then c.size-2.ensures c.source.ensures.added))))) (omega arith) c.put.ensures.bytes c.put.ensures.whole
