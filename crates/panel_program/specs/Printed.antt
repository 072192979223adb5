-- What the panel program lends for a sheet, and what it prints of one.
use Rattle.std.specs.Prelude.{ℕ, List, Option, replicate}
use Rattle.std.specs.Io.KnownBytes.{Appends}
use Rattle.sheet_rules.specs.Panels.{Tables, tables_in}
use Rattle.panel_answer.specs.Printed.{PrintedFor}

-- tables of zeros: words, bytes, and the store of each axis
unfoldable pub zero_tables : Tables
zero_tables = tables_in (replicate 26368 0) (replicate 94816 0) (replicate 32768 0) (replicate 32768 0)

-- a word for each cell, where it lands
unfoldable pub zero_lands : List ℕ
zero_lands = replicate 256 0

-- the answer to a sheet is printed, and nothing else
pub record PrintsAnswer (sheet : List ℕ) (before after : Option (List ℕ)) : Type 0 where
  pub text : List ℕ
  pub answer : PrintedFor sheet zero_tables zero_lands text
  pub printed : Appends before after text
