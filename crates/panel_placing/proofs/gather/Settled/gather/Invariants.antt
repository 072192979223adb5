use Rattle.panel_placing.specs.Steps.{Collected}
use Rattle.panel_placing.proofs.gather.Settled.gather.Given as goal

abbrev pub invariant-loop-index : goal.invariant-loop-index
invariant-loop-index l = Collected l.self l.most l.index l.items l.count
