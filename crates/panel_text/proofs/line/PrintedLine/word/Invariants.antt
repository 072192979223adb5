use Rattle.std.proofs.Common.{take}
use Rattle.panel_text.specs.Written.{Adds}
use Rattle.panel_text.proofs.line.PrintedLine.word.Given as goal

abbrev pub invariant-loop-byte : goal.invariant-loop-byte
invariant-loop-byte l = Adds l.initial.self (take l.byte-index l.word) l.self l.byte-index
