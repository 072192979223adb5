use Rattle.std.proofs.Common.{rules, tests, ◌∙◌, ap, eqb, not}
use Rattle.std.specs.Prelude.{nat_eq}
use Rattle.std.specs.Cmp.Lexicographic.{pointwise}
use Rattle.std.proofs.lemmas.Iterator.Consumers.{count_from_yields_List, YieldsList-at}
use Rattle.std.proofs.lemmas.Iterator.Search.{YieldsList-from_take_while}
use Rattle.std.proofs.lemmas.Iterator.Splits.{YieldsList-from_slice_split}
use Rattle.text.specs.Split.{index}
use Rattle.text.proofs.Library.{split_parts, parts_passed}
use Rattle.text.proofs.words.find_part.Goals as goal

pub returns : goal.returns
returns c =
    let a = c.args in
    count_from_yields_List c.take_while.result c.count.result c.count.ensures.ran (YieldsList-from_take_while _ (λ p. not (pointwise nat_eq p a.f.now)) (YieldsList-at c.take_while.ensures.source (YieldsList-from_slice_split _ (λ x. eqb x a.b) a.words.now c.split.ensures.rest c.split.ensures.done c.split.ensures.closure (λ x r q k. search (rules, tests)))) c.take_while.ensures.closure c.take_while.ensures.done (λ x b q k. search (rules, tests)))
    ∙ parts_passed a.f.now _ ∙ ap (index a.f.now) (split_parts a.b a.words.now)
