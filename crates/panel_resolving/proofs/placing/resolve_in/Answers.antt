use mathlib.Core.Path.{refl}
use borrow.Author.Tests.{eq-eqb}
use Rattle.coordinates.specs.Axes.{axis_number}
use Rattle.name_resolver.specs.Placements.{answered_resolution}
use Rattle.panel_tables.specs.Axes.{grid_in}
use Rattle.panel_tables.specs.Regions.{area_bytes_in, area_words_in, placement_bytes_in}
use Rattle.panel_rules.specs.Calls.{entry_words_in, words_in}
use Rattle.panel_resolving.specs.Lent.{lent_names}
use Rattle.panel_rules.specs.Placing.{line_placement}
use Rattle.panel_resolving.proofs.Grouping.{whole-resolution}
use Rattle.panel_resolving.proofs.placing.resolve_in.Goals as goal

pub resolve_one-requires : goal.resolve_one-requires
resolve_one-requires c = rw c.whole_around-around.ensures record { grouping_value = (refl, c.requires); index_value = rw (← c.placement_words.ensures, ← c.placement_at-axis.ensures) (eq-eqb (axis_number c.placement_at-axis.result.axis) (axis_number c.placement_at-axis.result.axis) refl) }

pub returns : goal.returns
returns c =
    let a = c.args in
    let place = c.placement_at-axis.result in
    let t = lent_names a.lent in
    let one = rw (← c.placement_words.ensures, ← c.placement_at-axis.ensures) at c.resolve_one.ensures in
    rw (← c.placement_words.ensures, ← c.placement_at-axis.ensures)
    (rw (c.grid_in.ensures, c.names-names.ensures.store, c.from.ensures) at
    (whole-resolution place.axis c.grid_in.result.size.explicit a.grid.areas c.whole_around-around.result c.whole_around-around.ensures c.names-names.result.entries.now (entry_words_in (grid_in a.grid place.axis) (words_in t place.axis)) c.names-names.result.store.now (rw c.from.ensures at c.names-names.ensures.entries)
    (area_words_in a.lent.words.now) (area_bytes_in a.lent.bytes.now) (placement_bytes_in a.lent.bytes.now) (line_placement place) (answered_resolution c.resolve_one.result) one))
