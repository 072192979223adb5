use Prim.Native.Nat.{ℕ}
use mathlib.Core.Path.{refl}
use mathlib.Core.List.{List}
use native.Mathlib.Omega.{arith}
use Rattle.panel_tables.specs.Areas.{answered_panel}
use Rattle.panel_tables.specs.Placements.{end_named, put_cell}
use Rattle.panel_tables.specs.Regions.{placement_words_in, placement_bytes_in}
use Rattle.sheet_step.proofs.Back.{part_stays, parts-put}
use Rattle.sheet_step.proofs.cell.on_cell.Goals as goal

pub returns : goal.returns
unfolding placement_words_in placement_bytes_in
returns c =
    let a = c.args in
    let k = c.put_cell in record {
      written = parts-put 25088 1280 62048 32768 62048 1280 32768 a.words.now a.bytes.now
          (λ (w : List ℕ) (b : List ℕ). put_cell a.panel w b a.line (end_named a.columns.start.end a.columns.start.name.now) (end_named a.columns.end.end a.columns.end.name.now) (end_named a.rows.start.end a.rows.start.name.now) (end_named a.rows.end.end a.rows.end.name.now))
          (record { answer = answered_panel a.panel k.result; words = k.new.words; bytes = k.new.bytes }) refl refl refl k.ensures;
      lengths = (
        omega (arith, part_stays a.words.now k.new.words 25088 1280 (omega arith) k.auto.words),
        omega (arith, part_stays a.bytes.now k.new.bytes 62048 32768 (omega arith) k.auto.bytes),
      );
    }
