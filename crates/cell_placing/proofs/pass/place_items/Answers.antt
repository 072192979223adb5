use Rattle.std.proofs.Common.{refl, arith}
use Rattle.std.proofs.lemmas.Result.{err_from_is_err_and}
use lib.ListN.{take, length-take}
use Rattle.cell_placing.specs.Css.{refused}
use Rattle.cell_placing.proofs.Cut.{answers-held}
use Rattle.cell_placing.proofs.Placed.{going-begins, answer-placed}
use Rattle.cell_placing.proofs.pass.place_items.Goals as goal

pub place_group-requires : goal.place_group-requires
place_group-requires c = let a = c.args in
    going-begins a.packing a.last _ (take c.min.result a.items.now) _ (omega (arith, c.min.ensures, length-take c.min.result a.items.now)) refl

pub returns-in_err-place_group : goal.returns-in_err-place_group
returns-in_err-place_group c = let a = c.args in
    let p = err_from_is_err_and c.from_residual.result c.from_residual.ensures.1 in
    rw (p.1, p.2) (answers-held a.packing a.last _ a.items.now _ _ _ c.min.ensures (refused _ c.in_err-place_group.ensures refl refl))

pub returns-in_err-place_group-2 : goal.returns-in_err-place_group-2
returns-in_err-place_group-2 c = let a = c.args in
    let p = err_from_is_err_and c.from_residual-in_err-place_group-2.result c.from_residual-in_err-place_group-2.ensures.1 in
    rw (p.1, p.2) (answers-held a.packing a.last _ a.items.now _ _ _ c.min.ensures (refused _ c.in_err-place_group-2.ensures refl refl))

pub returns-in_err-place_group-3 : goal.returns-in_err-place_group-3
returns-in_err-place_group-3 c = let a = c.args in
    let p = err_from_is_err_and c.from_residual-in_err-place_group-3.result c.from_residual-in_err-place_group-3.ensures.1 in
    rw (p.1, p.2) (answers-held a.packing a.last _ a.items.now _ _ _ c.min.ensures (refused _ c.in_err-place_group-3.ensures refl refl))

pub returns : goal.returns
returns c = let a = c.args in
    rw c.write_lands.ensures
    (answers-held a.packing a.last _ a.items.now a.lands.now _ _ c.min.ensures
    (answer-placed a.packing a.last _ (take c.min.result a.items.now) _ a.lands.now c.in_ok-place_group-3.ensures))
