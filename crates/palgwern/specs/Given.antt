-- `palgwern_resolve_given`: the answer as numbers, and what the lent numbers hold then.
use Rattle.std.specs.Prelude.{List, ℤ}
use Rattle.given_placements.specs.Given.{GivenWritten}
use Rattle.given_placements.specs.Given as Written
use Rattle.palgwern.specs.declared.given.GivenAnswer.{GivenAnswer}

pub record GivenNumbers : Type 0 where
  pub answer : GivenAnswer
  pub numbers : List ℤ

abbrev pub given_answer : Written.GivenAnswer → GivenAnswer
given_answer a = record { number = a.number; index = a.index; count = a.count }

abbrev pub given_numbers : GivenWritten → GivenNumbers
given_numbers w = record { answer = given_answer w.answer; numbers = w.numbers }
