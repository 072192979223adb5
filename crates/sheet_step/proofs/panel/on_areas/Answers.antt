use Prim.Native.Nat.{ℕ}
use mathlib.Core.Path.{refl}
use mathlib.Core.List.{List}
use native.Mathlib.Omega.{arith}
use Rattle.panel_tables.specs.Areas.{answered_panel, put_area}
use Rattle.panel_tables.specs.Regions.{area_words_in, area_bytes_in}
use Rattle.sheet_step.specs.Regions.{on_areas}
use Rattle.sheet_step.proofs.Back.{part_stays, parts-put}
use Rattle.sheet_step.proofs.panel.on_areas.Goals as goal

pub returns : goal.returns
unfolding on_areas area_words_in area_bytes_in
returns c =
    let a = c.args in
    let k = c.put_area in record {
      written = parts-put 24960 128 60000 2048 60000 128 2048 a.words.now a.bytes.now
          (λ (w : List ℕ) (b : List ℕ). put_area a.panel w b a.name.now a.edges)
          (record { answer = answered_panel a.panel k.result; words = k.new.words; bytes = k.new.bytes }) refl refl refl k.ensures;
      lengths = (
        omega (arith, part_stays a.words.now k.new.words 24960 128 (omega arith) k.auto.words),
        omega (arith, part_stays a.bytes.now k.new.bytes 60000 2048 (omega arith) k.auto.bytes),
      );
    }
