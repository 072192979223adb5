use Rattle.name_entries.specs.Entries.{entries_of}
use Rattle.name_lines.specs.Areas.{areas_of}
use Rattle.name_search.proofs.Marked.{marked_both, marked_plain}
use Rattle.name_search.proofs.Search.mark_sought.Goals as goal

pub returns-in-Some : goal.returns-in-Some
returns-in-Some c = let a = c.args in
    marked_both a.marks.now c.mark_entries.new.self c.mark_areas.new.self (entries_of a.self.names.entries.now a.self.names.store.now) (areas_of a.self.sought.axis a.self.areas.edges.now a.self.areas.names.now a.self.areas.store.now) a.self.name.stem.now a.self.name.edge c.in-Some.end c.in-Some.is c.mark_entries.ensures c.mark_areas.ensures

pub returns-in_default : goal.returns-in_default
returns-in_default c = let a = c.args in
    marked_plain a.marks.now c.mark_entries.new.self (entries_of a.self.names.entries.now a.self.names.store.now) (areas_of a.self.sought.axis a.self.areas.edges.now a.self.areas.names.now a.self.areas.store.now) a.self.name.stem.now a.self.name.edge c.in_default.is c.mark_entries.ensures
