use mathlib.Core.Path.{◌≡◌}
use native.Mathlib.Omega.{arith}
use Rattle.name_entries.specs.Entries.{entries_of}
use Rattle.name_lines.specs.Areas.{areas_of, bears_joined, sought_in}
use Rattle.name_search.proofs.Walks.{walk-found, walk-clear}
use Rattle.name_search.proofs.Search.nearest_line.Goals as goal

pub returns-then-limit-near : goal.returns-then-limit-near
unfolding sought_in
returns-then-limit-near c = let a = c.args in
    walk-clear (λ n. bears_joined (entries_of a.self.names.entries.now a.self.names.store.now) (areas_of a.self.sought.axis a.self.areas.edges.now a.self.areas.names.now a.self.areas.store.now) a.self.name.stem.now a.self.name.edge n) a.self.sought.nth.way a.self.sought.nth.from c.lines_on-limit.result c.nearest_sought-near.result c.lines_on-limit.ensures c.nearest_sought-near.ensures c.if-limit-near.true

pub returns-in-Up : goal.returns-in-Up
unfolding sought_in
returns-in-Up c = let a = c.args in
    walk-found (λ n. bears_joined (entries_of a.self.names.entries.now a.self.names.store.now) (areas_of a.self.sought.axis a.self.areas.edges.now a.self.areas.names.now a.self.areas.store.now) a.self.name.stem.now a.self.name.edge n) a.self.sought.nth.way a.self.sought.nth.from c.lines_on-limit.result c.nearest_sought-near.result c.lines_on-limit.ensures c.nearest_sought-near.ensures _ (rw c.in-Up.is) c.if-limit-near.false

pub returns-in-Down : goal.returns-in-Down
unfolding sought_in
returns-in-Down c = let a = c.args in let r : c.lines_on-limit.result ≡ a.self.sought.nth.from = rw c.in-Down.is at c.lines_on-limit.ensures in
    walk-found (λ n. bears_joined (entries_of a.self.names.entries.now a.self.names.store.now) (areas_of a.self.sought.axis a.self.areas.edges.now a.self.areas.names.now a.self.areas.store.now) a.self.name.stem.now a.self.name.edge n) a.self.sought.nth.way a.self.sought.nth.from c.lines_on-limit.result c.nearest_sought-near.result c.lines_on-limit.ensures c.nearest_sought-near.ensures _ (rw c.in-Down.is (omega (arith, c.if-limit-near.false))) c.if-limit-near.false
