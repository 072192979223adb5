use Rattle.std.proofs.Common.{rules, ◌≡◌}
use Rattle.std.proofs.lemmas.Fn.{always_returns_same}
use Rattle.name_lists.proofs.Further.{line_at, ascends-tested}
use Rattle.name_lists.proofs.ascending.are_ascending.Goals as goal

pub returns : goal.returns
returns c =
    let a = c.args in
    ascends-tested a.entries.now c.is_sorted_by_key.result (c.is_sorted_by_key.ensures.cases line_at (always_returns_same _ (λ x r. r ≡ line_at x.0.now) _ (λ x r q k. search rules)))
