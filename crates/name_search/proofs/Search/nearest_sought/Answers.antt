use mathlib.Core.Path.{refl}
use mathlib.Core.Bool.{false}
use Rattle.name_entries.specs.Entries.{entries_of}
use Rattle.name_lines.specs.Areas.{areas_of}
use Rattle.name_search.specs.Nearest.{number_at}
use Rattle.name_search.proofs.Distances.{nearest_none}
use Rattle.name_search.proofs.Passes.{near_joined}
use Rattle.name_search.proofs.Search.nearest_sought.Goals as goal

pub returns-in-Some : goal.returns-in-Some
returns-in-Some c = let a = c.args in
    near_joined (entries_of a.self.names.entries.now a.self.names.store.now) (areas_of a.self.sought.axis a.self.areas.edges.now a.self.areas.names.now a.self.areas.store.now) a.self.name.stem.now a.self.name.edge (λ d. number_at a.self.sought.nth.way a.self.sought.nth.from d) a.limit c.nearest_entries-best.result c.nearest_areas.result c.nearest_entries-best.ensures (rw c.in-Some.is c.nearest_areas.ensures)

pub returns-in-None : goal.returns-in-None
returns-in-None c = let a = c.args in
    near_joined (entries_of a.self.names.entries.now a.self.names.store.now) (areas_of a.self.sought.axis a.self.areas.edges.now a.self.areas.names.now a.self.areas.store.now) a.self.name.stem.now a.self.name.edge (λ d. number_at a.self.sought.nth.way a.self.sought.nth.from d) a.limit c.nearest_entries-best.result c.nearest_entries-best.result c.nearest_entries-best.ensures (rw c.in-None.is (nearest_none (λ d. false) c.nearest_entries-best.result (λ d l. refl)))
