use Prim.Native.Nat.{ℕ}
use mathlib.Core.Path.{refl}
use mathlib.Core.List.{List}
use native.Mathlib.Omega.{arith}
use Rattle.picture_areas.specs.Runs.{answered_drawn}
use Rattle.picture_words.specs.Words.{words_of}
use Rattle.picture_rows.specs.Steps.{row_in}
use Rattle.panel_tables.specs.Regions.{area_words_in, area_bytes_in}
use Rattle.sheet_step.specs.Regions.{on_drawing}
use Rattle.sheet_step.proofs.Back.{part_stays, drawing-put}
use Rattle.sheet_step.proofs.picture.on_drawing.Goals as goal

pub returns : goal.returns
unfolding on_drawing area_words_in area_bytes_in
returns c =
    let a = c.args in
    let k = c.draw_row in record {
      drawn = drawing-put 60000 128 2048 a.words.now a.bytes.now
          (λ (w : List ℕ) (b : List ℕ). row_in a.panel w b (words_of a.line.now) a.row)
          (record { answer = answered_drawn a.panel k.result; words = k.new.words; bytes = k.new.bytes }) refl refl refl k.ensures;
      lengths = (
        omega (arith, part_stays a.words.now k.new.words 24960 128 (omega arith) k.auto.words),
        omega (arith, part_stays a.bytes.now k.new.bytes 60000 2048 (omega arith) k.auto.bytes),
      );
    }
