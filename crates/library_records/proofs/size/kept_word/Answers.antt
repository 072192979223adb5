use Rattle.library_records.proofs.Sizes.{length-word, range_word}
use Rattle.library_records.proofs.size.kept_word.Goals as goal

pub returns-then-word-le-LARGEST_LENGTH : goal.returns-then-word-le-LARGEST_LENGTH
returns-then-word-le-LARGEST_LENGTH c = length-word c.args.word c.if-word-le-LARGEST_LENGTH.true

pub returns-then-word_in_range : goal.returns-then-word_in_range
returns-then-word_in_range c = range_word c.args.word c.word_in_range.result c.word_in_range.ensures c.if-word_in_range.true
