use mathlib.Core.Path.{◌≡◌}
use mathlib.Core.Bool.{true}
use Prim.Native.Nat.{◌≤◌}
use lib.ListN.{length}
use Rattle.name_resolver.specs.Placements.{answered_resolution}
use Rattle.panel_tables.specs.Placements.{placement_at}
use Rattle.panel_rules.specs.Placing.{line_placement}
use Rattle.panel_tables.specs.Regions.{area_bytes_in, area_words_in, placement_bytes_in, placement_words_in}
use Rattle.panel_resolving.specs.Names.{bears_by, resolution_by}
use Rattle.panel_resolving.specs.Chosen.{chosen_sets, numbers_by, on_axis}
use Rattle.panel_resolving.proofs.Choosing.{rest_of}
use Rattle.panel_resolving.proofs.write.write_beside.Given as goal

abbrev pub invariant-loop-i : goal.invariant-loop-i
invariant-loop-i l =
    (length l.numbers ≡ length l.initial.numbers)
    × (rest_of (on_axis l.run.around.axis (placement_words_in l.words)) (numbers_by (resolution_by l.run.around.explicit (bears_by l.run.around l.index l.store (area_words_in l.words) (area_bytes_in l.bytes)) (placement_bytes_in l.bytes)) (placement_words_in l.words)) l.run.first l.run.count l.i l.numbers ≡ chosen_sets (on_axis l.run.around.axis (placement_words_in l.words)) (numbers_by (resolution_by l.run.around.explicit (bears_by l.run.around l.index l.store (area_words_in l.words) (area_bytes_in l.bytes)) (placement_bytes_in l.bytes)) (placement_words_in l.words)) 0 l.run.first l.run.count l.initial.numbers)
    × (l.i ≤ l.run.count)
    × (l.i ≡ 1 → on_axis l.run.around.axis (placement_words_in l.words) l.run.first ≡ true → answered_resolution l.last ≡ (resolution_by l.run.around.explicit (bears_by l.run.around l.index l.store (area_words_in l.words) (area_bytes_in l.bytes)) (placement_bytes_in l.bytes)) (line_placement (placement_at (placement_words_in l.words) l.run.first)))
