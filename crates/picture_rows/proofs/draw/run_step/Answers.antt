-- `picture_rows::run_step` meets its contract. Assumes nothing.
use Rattle.std.proofs.Common.{rules, ◌≡◌, Err, sym, ◌∙◌}
use Rattle.picture_rows.proofs.Settled.{drawn_step, refused_step, either_broken}
use Rattle.picture_rows.proofs.draw.run_step.Goals as goal

pub returns-in_err-drawn : goal.returns-in_err-drawn
returns-in_err-drawn c =
    let a = c.args in
    let fault : c.from_residual.result ≡ Err c.in_err-drawn.field-0.0 = search rules in
    refused_step a.before a.word.now a.edges a.words.now a.bytes.now (sym c.is_dots.ensures ∙ c.if-is_dots.false)
    c.draw_run.result _ _ c.draw_run.ensures c.in_err-drawn.field-0.0 c.in_err-drawn.was c.from_residual.result fault

pub returns : goal.returns
returns c =
    let a = c.args in
    let d = c.in_ok-drawn.drawn in
    drawn_step a.before a.word.now a.edges a.words.now a.bytes.now (sym c.is_dots.ensures ∙ c.if-is_dots.false)
    c.draw_run.result _ _ c.draw_run.ensures d c.in_ok-drawn.was _ (either_broken a.before.broken d.broken)
