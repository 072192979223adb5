use native.Mathlib.Omega.{arith}
use lib.ListN.{get_or}
use Rattle.library_records.proofs.Parts.{component-at, component-few, singles-at, singles-few, singles-held}
use Rattle.library_records.proofs.taken.part_at.Goals as goal

pub returns-then-singles-eq0 : goal.returns-then-singles-eq0
returns-then-singles-eq0 c =
    let a = c.args in
    let w = get_or a.components.now a.at.component 0 in record { value = component-at a.repetitions a.components.now a.at a.left c.singles_at-singles.result c.component_part.result c.singles_at-singles.ensures c.if-singles-eq0.true c.component_part.ensures; few = component-few a.repetitions w a.at a.left c.component_part.result (omega (arith, c.shared_slice_known-2-1.given a.at.component)) c.component_part.ensures }

pub overflow_add-after : goal.overflow_add-after
overflow_add-after c =
    let a = c.args in
    let p = c.requires in
    omega (arith, p.components_len_bound, p.component_in_bounds, singles-held a.components.now a.at a.left c.singles_at-singles.result c.singles_at-singles.ensures)

pub returns : goal.returns
returns c =
    let a = c.args in
    let p = c.requires in record { value = singles-at a.repetitions a.components.now a.at a.left c.singles_at-singles.result c.repeated_of-part.result c.singles_at-singles.ensures c.if-singles-eq0.false c.repeated_of-part.ensures; few = singles-few a.components.now a.at a.left c.singles_at-singles.result c.repeated_of-part.result p.components_len_bound c.singles_at-singles.ensures c.repeated_of-part.ensures }
