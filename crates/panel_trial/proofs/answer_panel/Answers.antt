use Rattle.std.proofs.Common.{rules, ◌≡◌, List, ℕ, ap, ◌∙◌, arith, refl}
use Rattle.std.specs.Prelude.{Ok, Err}
use Rattle.panel_resolving.specs.Placements.{WrittenNumbers}
use Rattle.panel_hits.specs.Settled.{lent_of}
use Rattle.panel_placing.specs.Cells.{CellsAnswered}
use Rattle.panel_trial.specs.Trial.{unplaced, settled}
use Rattle.panel_trial.proofs.Panels.{few-written, written-count, lands-stay}
use Rattle.panel_trial.proofs.answer_panel.Goals as goal

pub returns-in_err-cells : goal.returns-in_err-cells
returns-in_err-cells c =
    let a = c.args in
    let told = c.in_err-cells.field-0.0 in
    let h : c.from_residual.result ≡ Err told = search rules in
    let k : c.place_cells.result ≡ Err told = search rules in
    let p : CellsAnswered a.grid (lent_of a.lent) a.packing a.lands.now c.place_cells.new.lands (Err told) = rw k at c.place_cells.ensures in
    rw h (unplaced told p (ap (λ (x : List ℕ). record { numbers = a.numbers.now; lands = x }) (lands-stay a.grid (lent_of a.lent) a.packing a.lands.now c.place_cells.new.lands told p)) refl)

pub overflow_cast-result : goal.overflow_cast-result
overflow_cast-result c =
    let a = c.args in
    let e = c.unwrap_or-placements.ensures ∙ written-count a.grid (lent_of a.lent) a.numbers.now _ c.write_placements.result c.write_placements.ensures in
    record { fits = omega (arith, few-written a.grid (lent_of a.lent) a.numbers.now, e) }

pub returns : goal.returns
returns c =
    let a = c.args in
    let k : c.place_cells.result ≡ Ok c.in_ok-cells.cells = search rules in
    let e = c.unwrap_or-placements.ensures ∙ written-count a.grid (lent_of a.lent) a.numbers.now _ c.write_placements.result c.write_placements.ensures in
    settled c.in_ok-cells.cells (rw k at c.place_cells.ensures) (ap (λ (w : WrittenNumbers). w.numbers) c.write_placements.ensures)
    (ap (λ (n : ℕ). Ok (record { placements = n; cells = c.in_ok-cells.cells })) e)
