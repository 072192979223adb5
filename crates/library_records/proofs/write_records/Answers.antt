use native.Mathlib.Omega.{arith}
use mathlib.Core.Path.{ap, ◌∙◌}
use lib.Seq.{sets}
use Rattle.panel_calls.proofs.Carried.{few_records}
use Rattle.library_records.proofs.Running.{run_words_lem}
use Rattle.library_records.proofs.write_records.Goals as goal

pub returns : goal.returns
returns c =
    let a = c.args in
    let p = c.requires in
    c.write_axis.ensures ∙ ap (sets a.words.now 0) (run_words_lem a.lent.grid a.lent.tables.now a.lent.items.now a.first a.count p.count_bound p.grid_in_bounds)

pub write_axis-requires : goal.write_axis-requires
write_axis-requires c =
    let p = c.requires in
    record { count_bound = omega (arith, p.count_bound, few_records c.args.lent.grid); count_in_bounds = p.count_in_bounds }
