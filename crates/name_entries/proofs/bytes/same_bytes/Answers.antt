use Rattle.std.proofs.Common.{rules, ◌∙◌}
use Rattle.std.proofs.lemmas.Iterator.{YieldsList-from_slice, YieldsList-from_zip}
use Rattle.std.proofs.lemmas.Iterator.Search.{all_from_yields_List}
use borrow.Author.Tests.{tests}
use lib.Dec.{eqb}
use Rattle.name_entries.proofs.Same.{same_pairs}
use Rattle.name_entries.proofs.bytes.same_bytes.Goals as goal

pub returns-then-a-b : goal.returns-then-a-b
returns-then-a-b c =
    let a = c.args in
    all_from_yields_List (λ p. eqb p.0 p.1) c.all.new.self _ c.all.result c.all.ensures.ran
    (YieldsList-from_zip (YieldsList-from_slice a.a.now cc) (YieldsList-from_slice a.b.now cc)) (λ x b q k. search (rules, tests))
    ∙ same_pairs a.a.now a.b.now c.if-a-b.true
