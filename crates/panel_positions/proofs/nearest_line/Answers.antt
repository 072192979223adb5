use Rattle.panel_positions.proofs.Answers.{nearest-of}
use Rattle.panel_positions.proofs.nearest_line.Goals as goal

pub returns : goal.returns
returns c = let a = c.args in nearest-of a.grid a.axis a.words.now a.items.now _ _ _ c.of_panel.ensures.grid c.of_panel.ensures.tables c.of_panel.ensures.items a.cursor _ c.nearest_on.ensures
