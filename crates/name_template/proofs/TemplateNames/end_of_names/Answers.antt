use Rattle.std.proofs.Common.{rules, ◌∙◌, sym, ap, ℕ, ◌+◌, drop}
use Rattle.std.proofs.lemmas.Iterator.{YieldsList-from_slice}
use Rattle.std.proofs.lemmas.Iterator.Search.{YieldsList-from_take_while}
use Rattle.std.proofs.lemmas.Iterator.Consumers.{count_from_yields_List}
use Rattle.std.proofs.lemmas.List.Folds.{length-prefix_len}
use borrow.Author.Tests.{tests}
use Rattle.name_template.specs.Records.{stands}
use Rattle.name_template.proofs.Leading.{leading_prefix, rest_all}
use Rattle.name_template.proofs.TemplateNames.end_of_names.Goals as goal

pub returns : goal.returns
returns c =
    let a = c.args in
    ap (λ (n : ℕ). a.at + n)
    (count_from_yields_List c.take_while-standing.result c.count.result c.count.ensures.ran
    (YieldsList-from_take_while _ (stands a.inside a.component) (YieldsList-from_slice (drop a.at a.self.names.now) (rw (← rest_all a.self.names.now a.at) cc))
    c.take_while-standing.ensures.closure c.take_while-standing.ensures.done (λ x b q k. search (rules, tests)))
    ∙ length-prefix_len (stands a.inside a.component) (drop a.at a.self.names.now) ∙ sym (leading_prefix a.inside a.component (drop a.at a.self.names.now)))
