use Rattle.std.proofs.Common.{rules, tests, ℕ, ◌+◌, ◌-◌, ◌<◌, ◌≡◌, ◌∙◌, Bool, true, false, not, true≢false, eqb, length, List, Bor, refl, sym, ap, subst, arith}
use borrow.Author.Tests.{eqb-true, eqb-false}
use denote.Param.Members.{Mut, Called}
use lib.ListN.{get_or}
use Rattle.std.specs.Prelude.{Option, Some, None, is_some, IfSome, IsSomeAnd, MatchOption}
use Rattle.std.specs.Option.{option_map}
use Rattle.std.specs.Iterator.Runs.{Run, ItemsMapToReversed, CallKeepsClosure, AllItemsGive, IsFirstToGive}
use Rattle.std.specs.Slice.Iter.{iter_rest}
use Rattle.std.proofs.iter.runs.Sources.{iter_runs_back}
use Rattle.track_rules.specs.Records.{item_at, open_to}
use Rattle.track_record.proofs.Opens.{item-last, item-none}
use Rattle.track_record.proofs.plan.last_item.Goals as goal

given : {A : Type 0} (P : A → Type 0) (o : Option A) → IsSomeAnd o P → IfSome o P
given P None h = absurd h
given P (Some x) h = h

-- what a call at the place of item j answered
module _ {S F : Type 0} {steps : S → Option (Bor ℕ) → S → Type 0} {g : Mut F (Bor ℕ × Unit {0}) Bool} {f : F} (items : List ℕ) (p : Run steps) (from : ItemsMapToReversed p (λ y. y.now) items)
    (told : (x : Bor ℕ) (b : Bool) (q : F) → Called g f (x, tt) b q → (q ≡ f) × (b ≡ not (eqb x.now 0))) where
  says : (b : Bool) (j : ℕ) → j < length items → length items - 1 - j < p.len → IfSome (p.at (length items - 1 - j)) (λ x. Called g f (x, tt) b f) → b ≡ not (eqb (get_or items j 0) 0)
  says b j l m h = by (p.at (length items - 1 - j)) (from.2 j 0 l m) h
    where
      by : (o : Option (Bor ℕ)) → option_map (λ y. y.now) o ≡ Some (get_or items j 0) → IfSome o (λ x. Called g f (x, tt) b f) → b ≡ not (eqb (get_or items j 0) 0)
      by None e h = absurd (true≢false (sym (ap is_some e)))
      by (Some x) e h =
          let same : x.now ≡ get_or items j 0 = ap (λ (o : Option ℕ). elim o [ None ↦ 0 | Some z ↦ z ]) e in
          (told x b f h).1 ∙ ap (λ (n : ℕ). not (eqb n 0)) same

  zero-of : (n : ℕ) → false ≡ not (eqb n 0) → n ≡ 0
  zero-of n e = go (eqb n 0) refl e
    where
      go : (b : Bool) → eqb n 0 ≡ b → false ≡ not b → n ≡ 0
      go true k x = eqb-true n 0 k
      go false k x = absurd (true≢false (sym x))

  some-of : (n : ℕ) → true ≡ not (eqb n 0) → n ≡ 0 → ⊥
  some-of n e = go (eqb n 0) refl e
    where
      go : (b : Bool) → eqb n 0 ≡ b → true ≡ not b → n ≡ 0 → ⊥
      go true k x = absurd (true≢false x)
      go false k x = eqb-false n 0 k

  last : (r : Option ℕ) → MatchOption r ((p.whole ≡ true) × AllItemsGive p g f false) (λ i. (i + p.len ≡ length items) × IsFirstToGive p g f true false (length items - 1 - i))
      → IfSome r (λ i. i < length items) → MatchOption r (0 ≡ open_to (λ j. not (item_at items j)) (length items)) (λ i. i + 1 ≡ open_to (λ j. not (item_at items j)) (length items))
  last None h less =
      let stays : CallKeepsClosure g f = λ a r q k. (told a.0 r q k).0 in
      let all = h.1 stays in
      item-none items (length items) (λ j l. zero-of _ (says false j l (omega (arith, l, from.1 h.0)) (all (length items - 1 - j))))
  last (Some i) h less =
      let stays : CallKeepsClosure g f = λ a r q k. (told a.0 r q k).0 in
      let all = h.1 stays in
      item-last items i (length items) less (some-of _ (says true i less (omega (arith, h.0, less)) (given _ (p.at (length items - 1 - i)) all.0)))
      (λ j a b. zero-of _ (says false j b (omega (arith, a, b, h.0)) (given _ (p.at (length items - 1 - j)) (all.1 (length items - 1 - j) (omega (arith, a, b))))))

one-past : (r : Option ℕ) (n m : ℕ) (P : ℕ → Type 0) → MatchOption r (n ≡ 0) P → ((i : ℕ) → P i → n ≡ i + 1) → MatchOption r (0 ≡ m) (λ i. i + 1 ≡ m) → n ≡ m
one-past None n m P h k e = h ∙ e
one-past (Some i) n m P h k e = k i h ∙ e

pub returns : goal.returns
returns c =
    let l = iter_rest c.iter.result in
    let x = c.rposition-last.ensures.runs in
    one-past c.rposition-last.result c.map_or.result _ _ c.map_or.ensures (λ i q. search (rules, tests))
    (last l x.0 (subst (λ s. ItemsMapToReversed x.0 (λ y. y.now) (iter_rest s)) x.1 (iter_runs_back x.0 x.0.seen)) (λ y b q k. search (rules, tests)) c.rposition-last.result x.2 c.rposition-last.ensures.bound)
    ∙ ap (λ (m : List ℕ). open_to (λ j. not (item_at m j)) (length m)) c.iter.ensures.rest
