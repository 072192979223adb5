-- `picture_words::run_at` meets its contract: as many words as a search takes from the front, each with the tab after it. Assumes nothing.
use Rattle.std.proofs.Common.{rules, tests, arith, ◌≡◌, ◌≤◌, ◌+◌, ◌*◌, ◌∙◌, ap, eqb, length, drop}
use Rattle.std.specs.Prelude.{nat_eq}
use Rattle.std.specs.List.{slice_split}
use Rattle.std.specs.Cmp.Lexicographic.{pointwise}
use Rattle.std.proofs.lemmas.Iterator.Consumers.{count_from_yields_List, YieldsList-at}
use Rattle.std.proofs.lemmas.Iterator.Search.{YieldsList-from_take_while}
use Rattle.std.proofs.lemmas.Iterator.Splits.{YieldsList-from_slice_split}
use Rattle.std.proofs.lemmas.Grind.{common_steps}
use Rattle.text.proofs.Library.{split_parts}
use Rattle.picture_rules.specs.Steps.{again_of}
use Rattle.picture_words.specs.Words.{words_left}
use Rattle.picture_words.proofs.Runs.{again_taken, words_there, run_none, run_inside, run_counted}
use Rattle.picture_words.proofs.run.run_at.Goals as goal

pub returns-in_default : goal.returns-in_default
returns-in_default c = search (rules, run_none c.args.line.now c.args.at)

fits : (c : goal.After-count-count) → c.args.at ≤ length c.args.line.now
fits c = search rules

counted : (c : goal.After-count-count) → c.count-count.result ≡ again_of c.word_at-word.result.now (words_left c.args.line.now c.args.at)
counted c =
    let line = c.args.line.now in
    let rest = c.in-Some.rest.now in
    let word = c.word_at-word.result.now in
    let cut : rest ≡ drop c.args.at line = grind (arith, common_steps) in
    count_from_yields_List c.take_while.result c.count-count.result c.count-count.ensures.ran (YieldsList-from_take_while _ (λ x. pointwise nat_eq x word) (YieldsList-at c.take_while.ensures.source (YieldsList-from_slice_split _ (λ b. eqb b 9) rest c.split.ensures.rest c.split.ensures.done c.split.ensures.closure (λ x r q k. search (rules, tests)))) c.take_while.ensures.closure c.take_while.ensures.done (λ x b q k. search (rules, tests)))
    ∙ again_taken word (slice_split (λ b. eqb b 9) rest) ∙ ap (again_of word) (split_parts 9 rest ∙ words_there line rest c.args.at (fits c) cut)

inside : (c : goal.After-count-count) → c.args.at + c.count-count.result * (length c.word_at-word.result.now + 1) ≤ length c.args.line.now + 1
inside c = run_inside _ _ _ _ (fits c) c.word_at-word.ensures (counted c)

pub overflow_mul-result : goal.overflow_mul-result
overflow_mul-result c = omega (arith, inside c)

pub overflow_add-result-2 : goal.overflow_add-result-2
overflow_add-result-2 c = omega (arith, inside c)

pub returns : goal.returns
returns c = run_counted _ _ _ _ (fits c) c.word_at-word.ensures (counted c)
