use Rattle.std.proofs.Common.{ap, ◌∙◌}
use Rattle.template_rules.specs.Template.{template_of}
use Rattle.track_rules.specs.Written.{spares_of}
use Rattle.track_run.specs.Run.{run_after}
use Rattle.track_run.proofs.Filling.{zero-run}
use Rattle.track_run.proofs.lender.axis_records.Goals as goal

pub returns : goal.returns
returns c =
    let cs = template_of c.args.lent.template.components.now c.args.lent.template.sizes.minimums.now c.args.lent.template.sizes.maximums.now in
    let sp = spares_of c.args.lent.spares.minimums.now c.args.lent.spares.maximums.now in
    c.initialize_grid_tracks.ensures.1 ∙ ap (run_after c.args.axis cs sp c.args.lent.items.now) (zero-run 60001 c.zero-records.result c.zero-records.ensures)
