use Rattle.std.proofs.Common.{rules, ◌≡◌}
use Rattle.std.specs.Prelude.{Err}
use mir.Syntax.{w32}
use mir.Facts.{to_z-of_z}
use mathlib.Core.Path.{sym}
use Rattle.panel_hits.specs.Settled.{lent_of}
use Rattle.panel_hits.proofs.Answers.{around-refused, around-long, around-listed}
use Rattle.panel_hits.proofs.placements_around.Goals as goal

pub returns-in_err-checked : goal.returns-in_err-checked
returns-in_err-checked c =
    let a = c.args in
    let fault = c.in_err-checked.field-0.0 in
    let h : c.from_residual.result ≡ Err fault = search rules in
    rw h (around-refused a.grid a.lent.words.now (lent_of a.lent) a.items.now a.hits.now c.lines_within-lines.result c.check_stores-stores.result c.check_stores-stores.ensures a.around (rw c.at.ensures at c.lines_within-lines.ensures) c.check_line.result (rw (to_z-of_z {w = w32} {z = a.around.line} (record { sfits = c.struct_told-1.given.1.0.1 })) at c.check_line.ensures) fault (sym (rw c.checked.ensures at c.in_err-checked.ensures)))

pub write_settled-requires : goal.write_settled-requires
write_settled-requires c = let a = c.args in around-long a.grid a.lent.words.now (lent_of a.lent) a.items.now a.hits.now c.lines_within-lines.result c.check_stores-stores.result c.check_stores-stores.ensures a.around (rw c.at.ensures at c.lines_within-lines.ensures) c.check_line.result (rw (to_z-of_z {w = w32} {z = a.around.line} (record { sfits = c.struct_told-1.given.1.0.1 })) at c.check_line.ensures) _ (sym (rw c.checked.ensures at c.in_ok-checked.ensures))

pub returns : goal.returns
returns c = let a = c.args in around-listed a.grid a.lent.words.now (lent_of a.lent) a.items.now a.hits.now c.lines_within-lines.result c.check_stores-stores.result c.check_stores-stores.ensures a.around (rw c.at.ensures at c.lines_within-lines.ensures) c.check_line.result (rw (to_z-of_z {w = w32} {z = a.around.line} (record { sfits = c.struct_told-1.given.1.0.1 })) at c.check_line.ensures) _ (sym (rw c.checked.ensures at c.in_ok-checked.ensures)) c.line_place-place.result _ _ (rw (c.counts_in.ensures, to_z-of_z {w = w32} {z = a.around.line} (record { sfits = c.struct_told-2-1.given.1.0.1 })) at c.line_place-place.ensures) c.write_settled.ensures
