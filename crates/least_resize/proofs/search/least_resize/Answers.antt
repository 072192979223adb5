use Rattle.std.proofs.Common.{rules, tests, ℕ, ◌+◌}
use mathlib.Core.Path.{◌≡◌, ap, subst, ◌∙◌}
use Rattle.std.specs.Iterator.Runs.{ItemsCountUp}
use Rattle.std.specs.Range.{range_inclusive_start, range_inclusive_end, range_inclusive_exhausted}
use Rattle.std.proofs.iter.runs.Sources.{inclusive_listed}
use Rattle.template_rules.specs.Template.{components_of}
use Rattle.least_resize.specs.Steps.{differs_in}
use Rattle.least_resize.proofs.Counts.{steps-search}
use Rattle.least_resize.proofs.Found.{found}
use Rattle.least_resize.proofs.search.least_resize.Goals as goal

pub returns : goal.returns
returns c =
    let a = c.args in
    let x = c.find_map.ensures.runs in
    let n = c.new.ensures in
    let l = inclusive_listed x.0 x.0.seen in
    let up : ItemsCountUp x.0 l.0 l.1 = (l.4 (ap range_inclusive_exhausted x.1 ∙ n.exhausted)).0 in
    let low : l.0 ≡ 1 = l.2 ∙ ap range_inclusive_start x.1 ∙ n.start in
    let high : l.1 ≡ 65536 = l.3 ∙ ap (λ r. range_inclusive_end r + 1) x.1 ∙ ap (λ (e : ℕ). e + 1) n.end in
    let same : c.map.result ≡ c.find_map.result = search (rules, tests) in
    same ∙ found (differs_in c.repeat_of-repeat.result (components_of a.template) c.count_at-count.result) a.size x.0 (subst (λ (e : ℕ). ItemsCountUp x.0 1 e) high (subst (λ (e : ℕ). ItemsCountUp x.0 e l.1) low up)) (λ n r q k. search (rules, tests)) c.find_map.result x.2
    ∙ steps-search _ _ _ _ _ _ _ _ c.repeat_of-repeat.ensures.1 c.repeat_of-repeat.ensures.0 c.count_at-count.ensures
