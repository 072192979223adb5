use Rattle.panel_positions.proofs.Answers.{lines_of}
use Rattle.panel_positions.proofs.lines_within.Goals as goal

pub returns : goal.returns
returns c = let a = c.args in lines_of a.grid a.axis a.words.now a.items.now _ _ _ c.of_panel.ensures.grid c.of_panel.ensures.tables c.of_panel.ensures.items a.span.low a.span.high _ c.lines_on.ensures
