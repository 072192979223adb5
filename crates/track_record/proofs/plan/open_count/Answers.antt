use Rattle.std.proofs.Common.{◌≡◌, ap, ◌∙◌, ℕ, List, arith, not, take, length}
use Rattle.std.proofs.lemmas.Grind.{common_steps}
use Rattle.track_rules.specs.Records.{item_at, open_to}
use Rattle.track_record.proofs.Opens.{count-all, count-fit}
use Rattle.track_record.proofs.plan.open_count.Goals as goal

pub returns-then-fit : goal.returns-then-fit
returns-then-fit c =
    let a = c.args in
    let cut : c.unwrap_or.result.now ≡ take a.count a.items.now = grind (arith, common_steps) in
    count-fit a.fit a.items.now a.count c.last_item.result c.if-fit.true (c.last_item.ensures ∙ ap (λ (l : List ℕ). open_to (λ j. not (item_at l j)) (length l)) cut)

pub returns-else-fit : goal.returns-else-fit
returns-else-fit c =
    let a = c.args in
    count-all a.fit a.items.now a.count c.if-fit.false
