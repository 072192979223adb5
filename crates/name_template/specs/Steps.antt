-- The steps of the writing out.
use Rattle.std.specs.Prelude.{ℕ, zero, suc, ◌+◌, ◌-◌, ◌*◌, ◌≤◌, true, false, cond, List, [], ◌++◌, ltb, length, take, drop}
use Rattle.template_rules.specs.Template.{component_of}
use Rattle.name_entries.specs.declared.NameEntry.{NameEntry}
use Rattle.name_template.specs.declared.ComponentNames.{ComponentNames}
use Rattle.name_template.specs.Records.{leading}
use Rattle.name_template.specs.Writing.{entries_on, times_of, line_after}

-- how many repetitions are written
unfoldable pub repetitions_written : ℕ → ℕ → ℕ → ℕ
repetitions_written zero line tracks = 0
repetitions_written (suc times) line tracks = suc (cond (ltb 10000 (line + tracks)) 0 (repetitions_written times (line + tracks) tracks))

-- so many repetitions of the names
unfoldable pub copies_on : ℕ → ℕ → ℕ → List ℕ → List NameEntry
copies_on zero line tracks names = []
copies_on (suc times) line tracks names = entries_on line names ++ copies_on times (line + tracks) tracks names

-- the names of a component, from a place of the records on
unfoldable pub component_names : List ℕ → ℕ → ℕ → ℕ → ℕ → ℕ → ComponentNames
component_names names at w k line repetitions =
    let times = times_of repetitions (component_of w).count in
    let tracks = (component_of w).length in
    let before = at + leading false k (drop at names) in
    record {
      before = before;
      inside = before + leading true k (drop before names);
      times = repetitions_written times line tracks;
      tracks = tracks;
      line = line_after times line tracks;
    }

-- how many entries they give, and these
abbrev pub component_count : ℕ → ComponentNames → ℕ
component_count at c = (c.before - at) + c.times * (c.inside - c.before)

abbrev pub component_entries : List ℕ → ℕ → ComponentNames → ℕ → List NameEntry
component_entries names at c line =
    entries_on line (take (c.before - at) (drop at names)) ++ copies_on c.times line c.tracks (take (c.inside - c.before) (drop c.before names))

-- the records are there, lines are small, and the table has room
pub record Writable (names : List ℕ) (at : ℕ) (c : ComponentNames) (line room : ℕ) : Type 0 where
  pub from : at ≤ c.before
  pub to : c.before ≤ c.inside
  pub within : c.inside ≤ length names
  pub low : line + c.times * c.tracks ≤ 2147483648
  pub fits : component_count at c ≤ room
