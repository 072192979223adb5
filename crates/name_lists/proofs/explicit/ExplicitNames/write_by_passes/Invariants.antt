use Rattle.name_lists.proofs.Lines.{Lines}
use Rattle.name_lists.proofs.explicit.ExplicitNames.write_by_passes.Given as goal

abbrev pub invariant-loop-line : goal.invariant-loop-line
invariant-loop-line l = Lines l.self.explicit l.self.names.entries.now l.self.names.store.now l.initial.words l.words l.count l.line
