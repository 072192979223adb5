use mathlib.Core.Path.{◌≡◌, ◌∙◌}
use mathlib.Core.List.{◌++◌, ◌∷◌, []}
use Prim.Native.Nat.{◌+◌}
use native.Mathlib.Omega.{arith}
use lib.ListN.{length, take, length-take, length-append}
use lib.Seq.{get_or-take}
use Rattle.std.proofs.lemmas.Slice.Zip.{zip_turn}
use Rattle.cell_placing.proofs.Cursors.{row_more}
use Rattle.cell_placing.proofs.Turn.row_cursor.Goals as goal

pub loop-item-preserved : goal.loop-item-preserved
loop-item-preserved c =
    let a = c.args in let l = c.loop-item in let items = a.self.cells.items.now in let k = length l.yielded in
    let t = zip_turn (take a.self.index items) a.self.placed.now l.yielded _ l.item-iterator c.next.new.self c.next.result (cc) (cc) l.yielded_by (c.in-Some.item, c.in-Some.land) c.in-Some.is c.next.ensures.steps in
    let n : length (l.yielded ++ ((c.in-Some.item, c.in-Some.land) ∷ [])) ≡ k + 1 = length-append l.yielded ((c.in-Some.item, c.in-Some.land) ∷ []) in
    rw n (row_more items a.self.placed.now a.row k l.column _ l.invariant
    (rw (t.2 0 ∙ get_or-take a.self.index items k 0 (omega (arith, t.0, length-take a.self.index items)), t.3 0) at c.later_column-column.ensures))
