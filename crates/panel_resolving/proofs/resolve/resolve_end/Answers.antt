use Rattle.panel_resolving.proofs.resolve.resolve_end.Goals as goal

pub returns-in-Resolved : goal.returns-in-Resolved
returns-in-Resolved c = rw (← c.question_of.ensures, c.in-Resolved.is)

pub returns-in-Line : goal.returns-in-Line
returns-in-Line c = rw (← c.question_of.ensures, c.in-Line.is, c.found_end.ensures, c.find_named_line-found.ensures)
