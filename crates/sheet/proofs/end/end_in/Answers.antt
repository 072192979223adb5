use Prim.Native.Nat.{◌+◌, ◌-◌}
use native.Mathlib.Omega.{arith}
use Rattle.axis_tables.specs.Readings.{axis_reading}
use Rattle.sheet_end.specs.End.{answered_end}
use Rattle.sheet_step.proofs.Back.{part_stays}
use Rattle.sheet.proofs.Ends.{put_back}
use Rattle.sheet.proofs.end.end_in.Goals as goal

pub returns : goal.returns
returns c =
    let a = c.args in
    let f = c.first_word-first in
    let k = c.end_axis in record {
      ended = put_back a.axis a.words.now f.result (f.result + 12480 - f.result) f.ensures.value (omega arith) a.before.state (axis_reading a.before.reading) (record { answer = answered_end a.before.state k.result; words = k.new.words }) k.ensures;
      length = omega (arith, part_stays a.words.now k.new.words f.result (f.result + 12480 - f.result) (omega (arith, f.ensures.below)) k.auto.words);
    }
