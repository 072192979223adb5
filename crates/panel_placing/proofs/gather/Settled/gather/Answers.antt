use Rattle.panel_placing.proofs.Collecting.{collected-begins}
use Rattle.panel_placing.proofs.gather.Settled.gather.Goals as goal

pub loop-index-init : goal.loop-index-init
loop-index-init c = let a = c.args in collected-begins a.self a.most a.items.now
