use Rattle.name_lists.proofs.Boundary.{Boundary}
use Rattle.name_lists.proofs.Lines.{Lines}
use Rattle.name_lists.proofs.explicit.ExplicitNames.write_ascending.Given as goal

abbrev pub invariant-loop-line : goal.invariant-loop-line
invariant-loop-line l =
    Boundary l.self.names.entries.now l.at l.line × Lines l.self.explicit l.self.names.entries.now l.self.names.store.now l.initial.words l.words l.count l.line
