use Rattle.std.proofs.Common.{arith}
use Rattle.panel_text.specs.Lines.{place_line}
use Rattle.panel_text.proofs.Puts.{line-put, field_then}
use Rattle.panel_text.proofs.place_line.Goals as goal

pub returns : goal.returns
unfolding place_line
returns c = line-put c.new-text.ensures (field_then c.field.ensures (field_then c.axis.ensures (field_then c.end_kind.ensures (field_then c.end_number.ensures (field_then c.end_kind-2.ensures c.end_number-2.ensures.added))))) (omega arith) c.put.ensures.bytes c.put.ensures.whole
