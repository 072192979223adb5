use mathlib.Core.Path.{◌≡◌}
use Prim.Native.Nat.{ℕ}
use Rattle.std.specs.Prelude.{Option, Some, None}
use Rattle.name_resolver.specs.Questions.{answered}
use Rattle.name_resolver.specs.Steps.{first_end, question_of}
use Rattle.name_resolver.specs.Types.{ResolvedEnd}
use Rattle.panel_tables.specs.Regions.{placement_bytes_in}
use Rattle.panel_resolving.specs.Names.{names_beside}
use Rattle.panel_resolving.proofs.resolve.resolve_line_names.Given as goal

-- the ends that are left, less one
abbrev pub left : Option ResolvedEnd → ℕ
left None = 1
left (Some first) = 0

abbrev pub invariant-loop-first : goal.invariant-loop-first
invariant-loop-first l =
    (r : ResolvedEnd) → l.first ≡ Some r → r ≡ answered (names_beside l.beside) (placement_bytes_in l.beside.bytes.now) l.beside.around.explicit (question_of l.beside.around.explicit (first_end l.line))

abbrev pub decreases-loop-first : goal.decreases-loop-first
decreases-loop-first l = left l.first
