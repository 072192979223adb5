use Rattle.std.proofs.Common.{rules, tests}
use Prim.Native.Nat.{ℕ, min}
use mathlib.Core.Path.{ap, sym, ◌∙◌}
use native.Mathlib.Omega.{arith}
use Rattle.std.proofs.lemmas.Iterator.{YieldsList-from_range}
use Rattle.std.proofs.lemmas.Iterator.Adapters.{option_map_id}
use Rattle.std.proofs.lemmas.Iterator.Search.{find_from_yields_List}
use Rattle.panel_tables.specs.Areas.{area_at}
use Rattle.panel_cells.specs.Steps.{shares, area_number_of}
use Rattle.panel_cells.proofs.Search.{sharing_find}
use Rattle.panel_cells.proofs.first_sharing.Goals as goal

pub returns : goal.returns
returns c =
    let a = c.args in
    ap area_number_of (
    sym (option_map_id c.find.result)
    ∙ find_from_yields_List (λ (n : ℕ). shares (area_at a.words.now n).edges a.edges) _ _ c.find.result c.find.ensures.ran (YieldsList-from_range 0 (min a.areas 64) (min a.areas 64) (search rules) (omega arith)) (λ x b q k. search (rules, tests))
    )
    ∙ sym (sharing_find a.words.now a.edges (min a.areas 64) 0)
