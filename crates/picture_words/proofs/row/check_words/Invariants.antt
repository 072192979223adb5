use Rattle.std.proofs.Common.{◌≡◌, length, drop}
use Rattle.picture_words.specs.Words.{words_of}
use Rattle.sheet_forms.specs.Fields.{words_fault}
use Rattle.picture_words.proofs.row.check_words.Given as goal

abbrev pub invariant-loop-word : goal.invariant-loop-word
invariant-loop-word l = words_fault (words_of l.line) ≡ words_fault (drop (length l.yielded) (words_of l.line))
