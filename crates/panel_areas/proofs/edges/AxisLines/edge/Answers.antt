use native.Mathlib.Omega.{arith}
use Rattle.panel_areas.proofs.Named.{edge_line, edge_none, edge_small}
use Rattle.panel_areas.proofs.edges.AxisLines.edge.Goals as goal

pub overflow_add-result : goal.overflow_add-result
overflow_add-result c =
    let a = c.args in let s = a.self in
    let h = edge_small 0 s.axis s.names.entries.now s.names.store.now s.areas.edges.now s.areas.names.now s.areas.store.now a.name.now a.edge c.in-Ok.line (rw (c.in-Ok.is) at c.nth_line.ensures) in
    omega (arith, h)

pub returns-in-Ok : goal.returns-in-Ok
returns-in-Ok c = λ explicit.
    let a = c.args in let s = a.self in
    edge_line explicit s.axis s.names.entries.now s.names.store.now s.areas.edges.now s.areas.names.now s.areas.store.now a.name.now a.edge c.in-Ok.line (rw (c.in-Ok.is) at c.nth_line.ensures)

pub returns-in-Err : goal.returns-in-Err
returns-in-Err c = λ explicit.
    let a = c.args in let s = a.self in
    edge_none explicit s.axis s.names.entries.now s.names.store.now s.areas.edges.now s.areas.names.now s.areas.store.now a.name.now a.edge c.in-Err.field-0 (rw (c.in-Err.is) at c.nth_line.ensures)
