use Prim.Native.Nat.{ℕ}
use mathlib.Core.Path.{refl}
use mathlib.Core.List.{List}
use native.Mathlib.Omega.{arith}
use Rattle.panel_tables.specs.Areas.{answered_panel}
use Rattle.panel_tables.specs.Placements.{end_named, put_placement}
use Rattle.panel_tables.specs.Regions.{placement_words_in, placement_bytes_in}
use Rattle.sheet_step.proofs.Back.{part_stays, parts-put}
use Rattle.sheet_step.proofs.panel.on_placements.Goals as goal

pub returns : goal.returns
unfolding placement_words_in placement_bytes_in
returns c =
    let a = c.args in
    let k = c.put_placement in record {
      written = parts-put 25088 1280 62048 32768 62048 1280 32768 a.words.now a.bytes.now
          (λ (w : List ℕ) (b : List ℕ). put_placement a.panel w b a.axis (end_named a.start.end a.start.name.now) (end_named a.end.end a.end.name.now))
          (record { answer = answered_panel a.panel k.result; words = k.new.words; bytes = k.new.bytes }) refl refl refl k.ensures;
      lengths = (
        omega (arith, part_stays a.words.now k.new.words 25088 1280 (omega arith) k.auto.words),
        omega (arith, part_stays a.bytes.now k.new.bytes 62048 32768 (omega arith) k.auto.bytes),
      );
    }
