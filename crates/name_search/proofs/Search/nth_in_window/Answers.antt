use mathlib.Core.Path.{◌∙◌}
use Rattle.name_lines.specs.Areas.{sought_in}
use Rattle.name_search.specs.Sought.{marks_in}
use Rattle.name_search.specs.Scans.{window_length}
use Rattle.name_search.proofs.Scanning.{scan-marked}
use Rattle.name_search.proofs.Search.nth_in_window.Goals as goal

pub returns : goal.returns
unfolding sought_in
returns c = let a = c.args in
    rw (c.mark_sought.ensures.window, c.new-marks.ensures) at c.seek.ensures ∙ scan-marked a.self.sought.nth.way window_length a.window.low a.window.end a.over c.mark_sought.new.marks.marked (marks_in a.self) (rw c.new-marks.ensures at c.mark_sought.ensures.adds) c.requires.1
