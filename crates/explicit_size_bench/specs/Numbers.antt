-- The answer of the bench's call as numbers.
use Rattle.template_rules.specs.Explicit.{SizeAnswer}
use Rattle.explicit_size_bench.specs.declared.SizeNumbers.{SizeNumbers}

abbrev pub numbers_of : SizeAnswer → SizeNumbers
numbers_of size = record { number = size.refusal.number; repetitions = size.repetitions; explicit = size.explicit }
