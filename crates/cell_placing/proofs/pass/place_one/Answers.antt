use lib.ListN.{length}
use native.Mathlib.Omega.{arith}
use mathlib.Core.Path.{◌≡◌, sym, ap, ◌∙◌}
use Rattle.std.proofs.Common.{rules}
use Rattle.cell_placing.proofs.Items.{group-same}
use Rattle.cell_placing.proofs.Placed.{going-other, ready_for, turn-stuck, turn-placed}
use Rattle.cell_placing.specs.Items.{group_number}
use Rattle.cell_placing.proofs.pass.place_one.Goals as goal

pub returns-then-ne : goal.returns-then-ne
returns-then-ne c = let a = c.args in going-other a.cells.packing a.cells.last (length a.cells.items.now) a.cells.items.now a.placed.now (group_number a.group) a.i c.requires.0 (λ e. let f : c.group_of.result ≡ a.group = group-same _ a.group (c.group_of.ensures ∙ e) in search rules) c.requires.1

pub returns-in_default : goal.returns-in_default
returns-in_default c = let a = c.args in let f : c.group_of.result ≡ a.group = search rules in let e = (sym c.group_of.ensures ∙ ap group_number f) in turn-stuck a.cells.packing a.cells.last (length a.cells.items.now) a.cells.items.now a.placed.now a.i (ready_for a.cells.packing a.cells.last (length a.cells.items.now) a.cells.items.now a.placed.now (group_number a.group) a.i c.requires.0 e c.requires.1) (rw c.in_default.is at c.land_of.ensures)

pub returns : goal.returns
returns c = let a = c.args in let f : c.group_of.result ≡ a.group = search rules in let e = (sym c.group_of.ensures ∙ ap group_number f) in rw e at (turn-placed a.cells.packing a.cells.last (length a.cells.items.now) a.cells.items.now a.placed.now a.i _ c.in-Some.land (omega arith) (ready_for a.cells.packing a.cells.last (length a.cells.items.now) a.cells.items.now a.placed.now (group_number a.group) a.i c.requires.0 e c.requires.1) (rw c.in-Some.is at c.land_of.ensures) c.from.ensures)
