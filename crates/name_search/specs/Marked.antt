-- The lines of a window that are marked.
use Rattle.std.specs.Prelude.{◌≡◌, Bool, false, ℕ, suc, ◌+◌, replicate}
use Rattle.name_lines.specs.Marks.{Adds}
use Rattle.name_search.specs.Scans.{window_length}
use Rattle.name_search.specs.declared.marks.Marks.{Marks}
use Rattle.name_search.specs.declared.window.Window.{Window}

-- no line of a window
abbrev pub no_marks : Window → Marks
no_marks w = record { window = w; marked = replicate window_length false }

-- the lines whose numbers p holds of were marked too
pub record Marked (before after : Marks) (p : ℕ → Bool) : Type 0 where
  pub window : after.window ≡ before.window
  pub adds : Adds before.marked after.marked (λ k. p (suc (before.window.low + k)))
