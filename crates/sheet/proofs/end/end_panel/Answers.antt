use native.Mathlib.Omega.{arith}
use mathlib.Core.Path.{◌≡◌}
use lib.ListN.{length}
use Rattle.coordinates.specs.declared.axis.Axis.TheVariants.{Column, Row}
use Rattle.panel_tables.specs.Axes.{state_in}
use Rattle.panel_tables.specs.Readings.{panel_reading}
use Rattle.sheet_end.specs.End.{EndedAxis, answered_end}
use Rattle.sheet.specs.Steps.{ended_in}
use Rattle.sheet.proofs.Steps.{ends-with}
use Rattle.sheet.proofs.Ends.{both-ended, areas-kept, placements-kept}
use Rattle.sheet.proofs.end.end_panel.Goals as goal

pub returns : goal.returns
returns c =
    let d = c.args.draft.now in
    let k = c.end_in-columns_end in
    let n = c.end_in-rows_end in
    let x : EndedAxis = record { answer = answered_end (state_in d.panel Column) k.result; words = k.new.words } in
    let y : EndedAxis = record { answer = answered_end (state_in d.panel Row) n.result; words = n.new.words } in
    let l : length d.words ≡ 26368 = omega arith in
    let m : length x.words ≡ 26368 = omega arith in
    let e : x ≡ ended_in Column (state_in d.panel Column) (panel_reading d.reading).columns d.words = rw (c.axis-columns.ensures.state, c.axis-columns.ensures.reading) at k.ensures.ended in
    let f : y ≡ ended_in Row (state_in d.panel Row) (panel_reading d.reading).rows x.words = rw (c.axis-rows.ensures.state, c.axis-rows.ensures.reading) at n.ensures.ended in
    rw (c.first_refusal.ensures, c.with_state-draft.ensures, c.with_state-columns_ended.ensures, c.unwrap_or.ensures, c.unwrap_or-2.ensures, c.axis-columns.ensures.state, c.axis-rows.ensures.state)
    (ends-with d k.result n.result _ (both-ended d.panel (panel_reading d.reading) d.words l x y m e f) (areas-kept d.panel (panel_reading d.reading) d.words l x y m e f) (placements-kept d.panel (panel_reading d.reading) d.words l x y m e f))
