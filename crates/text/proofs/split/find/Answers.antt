use Rattle.std.proofs.Common.{rules, tests, ◌≡◌, eqb, drop, arith}
use Rattle.std.specs.Prelude.{position}
use Rattle.std.proofs.lemmas.Grind.{common_steps}
use Rattle.std.proofs.lemmas.Iterator.{YieldsList-from_slice}
use Rattle.std.proofs.lemmas.Iterator.Search.{position_from_yields_List}
use Rattle.text.proofs.Library.{first_place}
use Rattle.text.proofs.split.find.Goals as goal

pub returns-in_err-place : goal.returns-in_err-place
returns-in_err-place c =
    let a = c.args in
    let rest = c.in_ok-rest.rest.now in
    let cut : rest ≡ drop a.at a.s.now = grind (arith, common_steps) in
    let place : c.position.result ≡ position (λ x. eqb x a.b) rest =
    position_from_yields_List (λ x. eqb x a.b) _ _ c.position.result c.position.ensures.ran (YieldsList-from_slice _ c.iter.ensures.rest) (λ x b q k. search (rules, tests)) in
    search (rules, first_place a.b a.at a.s.now rest c.position.result cut place)

pub returns : goal.returns
returns c =
    let a = c.args in
    let rest = c.in_ok-rest.rest.now in
    let cut : rest ≡ drop a.at a.s.now = grind (arith, common_steps) in
    let place : c.position.result ≡ position (λ x. eqb x a.b) rest =
    position_from_yields_List (λ x. eqb x a.b) _ _ c.position.result c.position.ensures.ran (YieldsList-from_slice _ c.iter.ensures.rest) (λ x b q k. search (rules, tests)) in
    search (rules, first_place a.b a.at a.s.now rest c.position.result cut place)
