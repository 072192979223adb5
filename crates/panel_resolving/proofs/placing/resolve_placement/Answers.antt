use mathlib.Core.Path.{refl}
use mathlib.Core.Bool.{true, false}
use borrow.Author.Tests.{le-ltb}
use Rattle.panel_resolving.specs.Lent.{lent_areas, lent_names, lent_placements}
use Rattle.panel_rules.specs.Placing.{line_placement, resolve_placement}
use Rattle.name_resolver.specs.Placements.{answered_resolution}
use Rattle.std.proofs.Common.{rules, ◌≡◌}
use Rattle.std.specs.Prelude.{Err}
use Rattle.panel_rules.specs.Calls.{short_names}
use Rattle.panel_resolving.proofs.Placed.{placed, refused-placed, short-placed, short-told, long-told}
use Rattle.panel_resolving.proofs.placing.resolve_placement.Goals as goal

pub returns-then-grid-index : goal.returns-then-grid-index
unfolding resolve_placement
returns-then-grid-index c = rw (le-ltb _ _ c.if-grid-index.true)

pub returns-in_err-placed : goal.returns-in_err-placed
returns-in_err-placed c =
    let a = c.args in let place = c.placement_at-place in let cut = c.placement_words in
    let fault = c.in_err-placed.field-0.0 in
    let h : c.from_residual.result ≡ Err fault = search rules in
    placed a.grid (lent_names a.lent) (lent_areas a.lent) (lent_placements a.lent) a.index c.if-grid-index.false place.result (line_placement place.result) (answered_resolution c.resolve_in.result) (short_names (lent_names a.lent)) _ (rw cut.ensures at place.ensures) refl (rw (← cut.ensures, ← place.ensures) at c.resolve_in.ensures) refl
    (rw h (refused-placed (answered_resolution c.resolve_in.result) place.result.axis place.result.cell fault (short_names (lent_names a.lent)) c.in_err-placed.ensures))

pub returns-in_err-check_stores : goal.returns-in_err-check_stores
returns-in_err-check_stores c =
    let a = c.args in let place = c.placement_at-place in let cut = c.placement_words in
    let fault = c.in_err-check_stores.field-0.0 in
    let h : c.from_residual-in_err-check_stores.result ≡ Err fault = search rules in
    let told = short-told (short_names (lent_names a.lent)) fault (rw c.from.ensures at c.in_err-check_stores.ensures) in
    placed a.grid (lent_names a.lent) (lent_areas a.lent) (lent_placements a.lent) a.index c.if-grid-index.false place.result (line_placement place.result) (answered_resolution c.resolve_in.result) true _ (rw cut.ensures at place.ensures) refl (rw (← cut.ensures, ← place.ensures) at c.resolve_in.ensures) told.0
    (rw h (rw told.1 (short-placed (answered_resolution c.resolve_in.result) place.result.axis place.result.cell c.in_ok-placed.placed c.in_ok-placed.ensures)))

pub returns : goal.returns
returns c =
    let a = c.args in let place = c.placement_at-place in let cut = c.placement_words in
    placed a.grid (lent_names a.lent) (lent_areas a.lent) (lent_placements a.lent) a.index c.if-grid-index.false place.result (line_placement place.result) (answered_resolution c.resolve_in.result) false _ (rw cut.ensures at place.ensures) refl (rw (← cut.ensures, ← place.ensures) at c.resolve_in.ensures) (long-told (short_names (lent_names a.lent)) (rw c.from.ensures at c.in_ok-check_stores.ensures)) c.in_ok-placed.ensures
