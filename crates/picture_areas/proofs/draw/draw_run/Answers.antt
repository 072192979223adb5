-- `picture_areas::draw_run` meets its contract. Assumes nothing.
use Rattle.std.proofs.Common.{rules, ◌≡◌, None, Err, sym, ◌∙◌}
use Rattle.panel_tables.specs.Places.{area_place_in}
use Rattle.picture_areas.proofs.Runs.{draw_refused, draw_put}
use Rattle.picture_areas.proofs.draw.draw_run.Goals as goal

pub returns-in_err-panel : goal.returns-in_err-panel
returns-in_err-panel c =
    let a = c.args in
    let none : area_place_in a.panel.grid.areas a.words.now a.bytes.now a.name.now ≡ None = sym c.area_index.ensures ∙ c.in_default.is in
    let fault : c.from_residual.result ≡ Err c.in_err-panel.field-0.0 = search rules in
    draw_refused a.panel a.words.now a.bytes.now a.name.now a.run none c.put_area.result _ _ c.put_area.ensures c.in_err-panel.field-0.0 c.in_err-panel.was c.from_residual.result fault

pub returns : goal.returns
returns c =
    let a = c.args in
    let none : area_place_in a.panel.grid.areas a.words.now a.bytes.now a.name.now ≡ None = sym c.area_index.ensures ∙ c.in_default.is in
    draw_put a.panel a.words.now a.bytes.now a.name.now a.run none c.put_area.result _ _ c.put_area.ensures c.in_ok-panel.panel c.in_ok-panel.was
