use Rattle.std.proofs.Common.{rules, tests, ◌∙◌, eqb}
use Rattle.std.proofs.lemmas.Iterator.{YieldsList-from_slice}
use Rattle.std.proofs.lemmas.Iterator.Consumers.{count_from_yields_List, YieldsList-from_filter, YieldsList-at}
use Rattle.picture_words.proofs.Words.{words_count}
use Rattle.picture_words.proofs.row.words_in.Goals as goal

pub returns : goal.returns
returns c =
    let line = c.args.line.now in
    count_from_yields_List c.filter.result c.count.result c.count.ensures.ran
    (YieldsList-from_filter _ (λ b. eqb b 9) (YieldsList-at c.filter.ensures.source (YieldsList-from_slice line c.iter.ensures.rest)) c.filter.ensures.closure (λ x r q k. search (rules, tests)))
    ∙ words_count line
