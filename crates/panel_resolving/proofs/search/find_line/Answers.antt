use mathlib.Core.Path.{refl, sym, ◌∙◌}
use mathlib.Core.List.{◌++◌}
use Rattle.name_lines.specs.Suffixes.{tail_of}
use Rattle.panel_resolving.specs.Listing.{first_named}
use Rattle.name_search.specs.Sought.{line_sought}
use Rattle.panel_resolving.specs.Names.{sought_by}
use Rattle.panel_resolving.proofs.Sought.{part_listed, own-sought, own-ascend, alone-sought}
use Rattle.panel_resolving.proofs.search.find_line.Goals as goal

pub nth_listed-requires : goal.nth_listed-requires
nth_listed-requires c = own-ascend c.args.beside.around.axis c.args.beside.store.now c.part_from.result.now c.part_from-2.result.now c.area_bytes.result.now c.args.name.stem.now c.args.name.edge c.group_of-group.result.entries.now c.named_part-own.result.now c.group_of-group.result.listed (first_named c.args.beside.store.now c.group_of-group.result.entries.now (c.args.name.stem.now ++ tail_of c.args.name.edge)) (part_listed c.args.beside.around.grouping c.args.beside.index.now c.args.beside.store.now c.args.name.stem.now c.args.name.edge c.args.beside.lists c.group_of-group.result.entries.now c.group_of-group.result.listed c.group_of-group.ensures.entries c.group_of-group.ensures.listed) (λ h. refl) c.named_part-own.ensures c.if-group.true

pub returns-then-not-is_drawn : goal.returns-then-not-is_drawn
unfolding line_sought sought_by
returns-then-not-is_drawn c = rw (
  alone-sought c.args.beside.around.axis c.args.beside.store.now c.part_from.result.now c.part_from-2.result.now c.area_bytes.result.now c.args.name.stem.now c.args.name.edge c.group_of-group.result.entries.now c.named_part-own.result.now c.group_of-group.result.listed (first_named c.args.beside.store.now c.group_of-group.result.entries.now (c.args.name.stem.now ++ tail_of c.args.name.edge)) (part_listed c.args.beside.around.grouping c.args.beside.index.now c.args.beside.store.now c.args.name.stem.now c.args.name.edge c.args.beside.lists c.group_of-group.result.entries.now c.group_of-group.result.listed c.group_of-group.ensures.entries c.group_of-group.ensures.listed) (λ h. refl) c.named_part-own.ensures c.if-group.true (sym c.is_drawn.ensures ∙ c.if-not-is_drawn.true),
  c.group_of-group.ensures.entries,
  c.part_from.ensures,
  c.part_from-2.ensures,
  c.area_words-areas.ensures,
  c.area_bytes.ensures,
) at c.nth_listed.ensures

pub returns : goal.returns
unfolding sought_by
returns c = rw (
  own-sought c.args.beside.around.axis c.args.beside.store.now c.part_from.result.now c.part_from-2.result.now c.area_bytes.result.now c.args.name.stem.now c.args.name.edge c.group_of-group.result.entries.now c.named_part-own.result.now c.group_of-group.result.listed (first_named c.args.beside.store.now c.group_of-group.result.entries.now (c.args.name.stem.now ++ tail_of c.args.name.edge)) (part_listed c.args.beside.around.grouping c.args.beside.index.now c.args.beside.store.now c.args.name.stem.now c.args.name.edge c.args.beside.lists c.group_of-group.result.entries.now c.group_of-group.result.listed c.group_of-group.ensures.entries c.group_of-group.ensures.listed) (λ h. refl) c.named_part-own.ensures,
  c.group_of-group.ensures.entries,
  c.part_from.ensures,
  c.part_from-2.ensures,
  c.area_words-areas.ensures,
  c.area_bytes.ensures,
) at c.nth_line.ensures
