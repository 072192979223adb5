use Prim.Native.Nat.{◌+◌, ◌-◌}
use native.Mathlib.Omega.{arith}
use Rattle.std.specs.Prelude.{Ok}
use Rattle.axis_tables.specs.Readings.{axis_reading}
use Rattle.axis_tables.specs.Store.{answered_axis}
use Rattle.sheet_forms.specs.Answers.{said_of}
use Rattle.sheet_step.proofs.Back.{axis_put, part_stays}
use Rattle.sheet_step.proofs.panel.on_axis.Goals as goal

pub returns : goal.returns
returns c =
    let a = c.args in
    let f = c.first_word-first in
    let g = c.first_mark-mark in
    let k = c.axis_record in record {
      written = axis_put a.axis a.words.now a.bytes.now a.store.now a.name.now (said_of (Ok a.said))
          f.result g.result (f.result + 12480 - f.result) (g.result + 30000 - g.result) a.before.state (axis_reading a.before.reading)
          (record { answer = answered_axis a.before.state (axis_reading a.before.reading) k.result; words = k.new.words; marks = k.new.marks; bytes = k.new.bytes })
          f.ensures.value g.ensures.value (omega arith) (omega arith) k.ensures;
      lengths = (
        omega (arith, part_stays a.words.now k.new.words f.result (f.result + 12480 - f.result) (omega (arith, f.ensures.below)) k.auto.words),
        omega (arith, part_stays a.bytes.now k.new.marks g.result (g.result + 30000 - g.result) (omega (arith, g.ensures.below)) k.auto.marks),
      );
    }
