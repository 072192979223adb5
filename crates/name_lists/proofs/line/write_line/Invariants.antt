use Rattle.name_lists.specs.Lists.{line_words}
use Rattle.name_lists.proofs.Writing.{Rests, words_from}
use Rattle.name_lists.proofs.line.write_line.Given as goal

abbrev pub invariant-loop-place : goal.invariant-loop-place
invariant-loop-place l =
    Rests l.initial.words (line_words l.names.entries.now l.names.store.now l.line) l.words l.count (words_from l.names.entries.now l.names.store.now l.line l.place)
