use Rattle.std.proofs.Common.{◌≤◌, ◌≡◌}
use Rattle.sheet_step.specs.Drafts.{held_of}
use Rattle.panel_edits.specs.Applied.{applied_step}
use Rattle.panel_history.specs.Steps.{passed}
use Rattle.panel_history.proofs.Passes.{rest}
use Rattle.panel_history.proofs.replay.apply_lines.Given as goal

abbrev pub invariant-loop-number : goal.invariant-loop-number
invariant-loop-number l = (1 ≤ l.number) × (passed applied_step l.count l.lines (held_of l.initial.draft) ≡ rest applied_step l.lines l.count l.number l.at (held_of l.draft))
