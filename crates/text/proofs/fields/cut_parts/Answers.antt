use Rattle.std.proofs.Common.{rules, tests, arith, ◌≡◌, ◌∙◌, ◌<◌, refl, sym, ap, eqb, length, get_or}
use Rattle.std.specs.List.{slice_split}
use Rattle.std.proofs.lemmas.List.{length_push}
use Rattle.std.proofs.lemmas.Iterator.Consumers.{YieldsList-turn, YieldsList-end, YieldsList-at}
use Rattle.std.proofs.lemmas.Iterator.Splits.{YieldsList-from_slice_split}
use Rattle.text.specs.Split.{split}
use Rattle.text.proofs.Library.{split_parts}
use Rattle.text.proofs.Places.{reach_split, reach_next, sets_next, sets_last}
use Rattle.text.proofs.fields.cut_parts.Goals as goal

pub loop-part-init : goal.loop-part-init
loop-part-init c = (refl, omega arith, omega (arith, reach_split c.args.b c.args.s.now), refl)

pub overflow_add-at-in-loop-part : goal.overflow_add-at-in-loop-part
overflow_add-at-in-loop-part c =
    let a = c.args in
    let l = c.loop-part in
    let parts = slice_split (λ x. eqb x a.b) a.s.now in
    let t : (length l.yielded < length parts) × (c.in-Some.part.now ≡ get_or parts (length l.yielded) c.in-Some.part.now) =
    YieldsList-turn (YieldsList-at c.into_iter-part-iterator.ensures.into_iter_gives (YieldsList-from_slice_split _ (λ x. eqb x a.b) a.s.now c.split-part-items.ensures.rest c.split-part-items.ensures.done c.split-part-items.ensures.closure (λ x r q k. search (rules, tests)))) l.yielded _ l.yielded_by _ _ c.in-Some.part c.in-Some.is c.next.ensures.steps in
    let u : (l.count < length (split a.b a.s.now)) × (c.in-Some.part.now ≡ get_or (split a.b a.s.now) l.count c.in-Some.part.now) = rw (split_parts a.b a.s.now, sym l.invariant.0) at t in
    omega (arith, reach_next _ _ _ u.0 u.1, l.invariant.2)

pub loop-part-preserved : goal.loop-part-preserved
loop-part-preserved c =
    let a = c.args in
    let l = c.loop-part in
    let parts = slice_split (λ x. eqb x a.b) a.s.now in
    let t : (length l.yielded < length parts) × (c.in-Some.part.now ≡ get_or parts (length l.yielded) c.in-Some.part.now) =
    YieldsList-turn (YieldsList-at c.into_iter-part-iterator.ensures.into_iter_gives (YieldsList-from_slice_split _ (λ x. eqb x a.b) a.s.now c.split-part-items.ensures.rest c.split-part-items.ensures.done c.split-part-items.ensures.closure (λ x r q k. search (rules, tests)))) l.yielded _ l.yielded_by _ _ c.in-Some.part c.in-Some.is c.next.ensures.steps in
    let u : (l.count < length (split a.b a.s.now)) × (c.in-Some.part.now ≡ get_or (split a.b a.s.now) l.count c.in-Some.part.now) = rw (split_parts a.b a.s.now, sym l.invariant.0) at t in (
      omega (arith, l.invariant.0, length_push l.yielded c.in-Some.part),
      omega (arith, l.invariant.1),
      omega (arith, reach_next _ _ _ u.0 u.1, l.invariant.2),
      l.invariant.3 ∙ sets_next _ _ _ u.0 u.1 _ _ _ c.set_at.ensures,
    )

pub returns : goal.returns
returns c =
    let a = c.args in
    let l = c.loop-part in
    let parts = slice_split (λ x. eqb x a.b) a.s.now in
    let t = YieldsList-end (YieldsList-at c.into_iter-part-iterator.ensures.into_iter_gives (YieldsList-from_slice_split _ (λ x. eqb x a.b) a.s.now c.split-part-items.ensures.rest c.split-part-items.ensures.done c.split-part-items.ensures.closure (λ x r q k. search (rules, tests)))) l.yielded _ l.yielded_by _ _ c.in-None.is c.next.ensures.steps in
    let n : l.count ≡ length (split a.b a.s.now) = l.invariant.0 ∙ t.1 ∙ ap length (split_parts a.b a.s.now) in
    (n, sym (l.invariant.3 ∙ sets_last _ _ _ _ _ (omega (arith, n)) c.set_at-2.ensures))
