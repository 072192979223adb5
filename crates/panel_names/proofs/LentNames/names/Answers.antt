use Rattle.panel_names.proofs.LineEntries.{words_of}
use Rattle.panel_names.proofs.LentNames.names.Goals as goal

pub returns-clause-entries : goal.returns-clause-entries
returns-clause-entries c = let a = c.args in rw (c.entries_of.ensures, c.axis_words.ensures, c.grid_in.ensures, words_of a.axis a.self.words.now)
