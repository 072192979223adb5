use Prim.Native.Nat.{◌+◌, ◌-◌, ◌≤◌}
use mathlib.Core.Path.{◌≡◌}
use lib.ListN.{length, drop}
use Rattle.text.specs.Split.{split}
use Rattle.sheet_rules.specs.Answers.{noted, NumberedPair}
use Rattle.sheet_step.specs.Drafts.{held_of}
use Rattle.sheet.specs.Steps.{line_or_none, IsLine}
use Rattle.sheet.specs.Runs.{held_run, or_else, held_overlap, or_line, held_broken}
use Rattle.sheet.proofs.lines.read_lines.Given as goal

abbrev pub invariant-loop-at : goal.invariant-loop-at
invariant-loop-at l =
    record {
      within : l.at ≤ length l.sheet;
      few : length l.sheet ≤ 32768;
      first : 1 ≤ l.line;
      line : l.line ≤ l.at + 1;
      lines : held_run 1 (split 10 l.sheet) (held_of l.initial.draft) ≡ held_run l.line (split 10 (drop l.at l.sheet)) (held_of l.draft);
      overlap : held_overlap 1 (split 10 l.sheet) (held_of l.initial.draft) ≡ or_else (noted l.overlap) (held_overlap l.line (split 10 (drop l.at l.sheet)) (held_of l.draft));
      numbered : NumberedPair l.overlap;
      picture : held_broken 1 (split 10 l.sheet) (held_of l.initial.draft) ≡ or_line (line_or_none l.broken) (held_broken l.line (split 10 (drop l.at l.sheet)) (held_of l.draft));
      positive : IsLine l.broken;
    }

abbrev pub decreases-loop-at : goal.decreases-loop-at
decreases-loop-at l =
    length l.sheet - l.at
