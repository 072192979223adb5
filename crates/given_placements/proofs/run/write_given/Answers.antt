use Rattle.std.proofs.Common.{rules, ◌≡◌}
use Rattle.std.specs.Prelude.{Err}
use native.Mathlib.Omega.{arith}
use Rattle.panel_resolving.specs.Lent.{lent_areas, lent_names}
use Rattle.given_placements.specs.Given.{put_all}
use Rattle.given_placements.proofs.Runs.{refused-beside, run-answered, run-refused, run-few}
use Rattle.given_placements.proofs.run.write_given.Goals as goal

pub returns-in_err-placements : goal.returns-in_err-placements
unfolding put_all
returns-in_err-placements c = let a = c.args in let k = c.put_all.new in
    let told = c.in_err-placements.field-0.0 in
    let h : c.from_residual.result ≡ Err told = search rules in
    rw h (refused-beside a.grid (lent_names a.lent) (lent_areas a.lent) a.numbers.now (put_all a.names.now a.given.now) told k.words k.bytes c.in_err-placements.ensures)

pub overflow_cast-result : goal.overflow_cast-result
unfolding put_all
overflow_cast-result c = let a = c.args in let k = c.put_all.new in
    omega (
      arith,
      run-few a.grid (lent_names a.lent) (lent_areas a.lent) a.numbers.now (put_all a.names.now a.given.now) c.in_ok-placements.placements k.words k.bytes c.given_grid-own.result c.write_beside.new.numbers
          c.in_ok-placements.ensures c.given_grid-own.ensures c.in-Ok.count c.in-Ok.ensures,
    )

pub returns-in-Ok : goal.returns-in-Ok
unfolding put_all
returns-in-Ok c = let a = c.args in let k = c.put_all.new in
    run-answered a.grid (lent_names a.lent) (lent_areas a.lent) a.numbers.now (put_all a.names.now a.given.now) c.in_ok-placements.placements k.words k.bytes c.given_grid-own.result c.write_beside.new.numbers
    c.in_ok-placements.ensures c.given_grid-own.ensures c.in-Ok.count c.in-Ok.ensures

pub returns-in-Err : goal.returns-in-Err
unfolding put_all
returns-in-Err c = let a = c.args in let k = c.put_all.new in
    run-refused a.grid (lent_names a.lent) (lent_areas a.lent) a.numbers.now (put_all a.names.now a.given.now) c.in_ok-placements.placements k.words k.bytes c.given_grid-own.result c.write_beside.new.numbers
    c.in_ok-placements.ensures c.given_grid-own.ensures c.in-Err.fault c.whole.result c.whole.ensures c.in-Err.ensures
