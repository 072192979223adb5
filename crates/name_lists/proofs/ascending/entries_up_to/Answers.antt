use Rattle.std.proofs.Common.{rules, ◌∙◌, sym}
use Rattle.std.proofs.lemmas.Iterator.{YieldsList-from_slice}
use Rattle.std.proofs.lemmas.Iterator.Search.{YieldsList-from_take_while}
use Rattle.std.proofs.lemmas.Iterator.Consumers.{count_from_yields_List}
use Rattle.std.proofs.lemmas.List.Folds.{length-prefix_len}
use borrow.Author.Tests.{tests}
use Rattle.name_lists.proofs.Further.{reaches, count_prefix}
use Rattle.name_lists.proofs.ascending.entries_up_to.Goals as goal

pub returns : goal.returns
returns c =
    let a = c.args in
    count_from_yields_List c.take_while.result c.count.result c.count.ensures.ran
    (YieldsList-from_take_while _ (reaches a.line) (YieldsList-from_slice a.entries.now cc)
    c.take_while.ensures.closure c.take_while.ensures.done (λ x b q k. search (rules, tests)))
    ∙ length-prefix_len (reaches a.line) a.entries.now ∙ sym (count_prefix a.line a.entries.now)
