-- `panel_tables::area_index` meets its contract: the search of the numbers of the areas. Assumes nothing.
use Rattle.std.proofs.Common.{rules, tests, arith, sym, ◌∙◌, ℕ}
use Prim.Native.Nat.{min}
use Rattle.std.specs.Prelude.{nat_eq}
use Rattle.std.specs.Cmp.Lexicographic.{pointwise}
use Rattle.std.proofs.lemmas.Iterator.{YieldsList-from_range}
use Rattle.std.proofs.lemmas.Iterator.Adapters.{option_map_id}
use Rattle.std.proofs.lemmas.Iterator.Search.{find_from_yields_List}
use Rattle.panel_tables.specs.Areas.{area_name}
use Rattle.panel_tables.proofs.Places.{place_found}
use Rattle.panel_tables.proofs.area.area_index.Goals as goal

pub returns : goal.returns
returns c =
    let a = c.args in
    sym (option_map_id c.find.result)
    ∙ find_from_yields_List (λ (i : ℕ). pointwise nat_eq (area_name a.words.now a.bytes.now i) a.name.now) _ _ c.find.result c.find.ensures.ran (YieldsList-from_range 0 (min a.areas 64) (min a.areas 64) (search rules) (omega arith)) (λ x b q k. search (rules, tests))
    ∙ place_found a.areas a.words.now a.bytes.now a.name.now
