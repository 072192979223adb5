use Rattle.std.proofs.Common.{◌∙◌, ◌+◌, rules, tests, refl}
use Rattle.std.proofs.lemmas.Iterator.{YieldsList-from_slice, YieldsList-from_range, YieldsList-from_zip}
use Rattle.std.proofs.lemmas.Iterator.Consumers.{YieldsList-at, count_from_yields_List}
use Rattle.std.proofs.lemmas.Iterator.Search.{YieldsList-from_take_while}
use Rattle.std.proofs.lemmas.List.Folds.{length-prefix_len}
use Rattle.std.specs.List.{zip, range_with_len}
use Rattle.library_records.specs.Parts.{single_at}
use Rattle.library_records.proofs.Singles.{singles_beside}
use native.Mathlib.Omega.{arith}
use Rattle.library_records.proofs.taken.single_count.Goals as goal

pub returns : goal.returns
returns c =
    let a = c.args in
    let ws = a.components.now in
    let road = YieldsList-from_zip (YieldsList-at c.zip.ensures.first (YieldsList-from_slice ws c.iter.ensures.rest)) (YieldsList-at c.zip.ensures.second (YieldsList-from_range a.first (a.first + a.left) a.left refl (omega arith))) in
    count_from_yields_List c.take_while.result c.count.result c.count.ensures.ran
    (YieldsList-from_take_while _ (λ p. single_at p.1 p.0) (YieldsList-at c.take_while.ensures.source road) c.take_while.ensures.closure c.take_while.ensures.done (λ x b q k. search (rules, tests)))
    ∙ length-prefix_len (λ p. single_at p.1 p.0) (zip ws (range_with_len a.first a.left)) ∙ singles_beside a.first ws a.left
