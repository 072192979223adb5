-- What is read of a line: what it says, and where its names lie in it.
use Rattle.std.specs.Prelude.{ℕ, ◌≡◌, List}
use Rattle.text.specs.Split.{split}
use Rattle.text.specs.Places.{part_at}
use Rattle.sheet_forms.specs.Answers.{said_of}
use Rattle.sheet_forms.specs.Names.{first_name, second_name, third_name, fourth_name}
use Rattle.sheet_forms.specs.Records.{record_of}
use Rattle.sheet_lines.specs.declared.LineRecord.{LineRecord}

-- the record that a line makes, and each of its names at its place
pub record ReadAs (line : List ℕ) (r : LineRecord) : Type 0 where
  pub said : said_of r.said ≡ record_of (split 9 line)
  pub first : part_at line r.first ≡ first_name (said_of r.said) (split 9 line)
  pub second : part_at line r.second ≡ second_name (said_of r.said) (split 9 line)
  pub third : part_at line r.third ≡ third_name (said_of r.said) (split 9 line)
  pub fourth : part_at line r.fourth ≡ fourth_name (said_of r.said) (split 9 line)
