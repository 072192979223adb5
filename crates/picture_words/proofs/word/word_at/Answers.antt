use Rattle.std.proofs.Common.{arith, ◌≡◌, ◌∙◌, ap, [], drop, get_or}
use Rattle.std.proofs.lemmas.Grind.{common_steps}
use Rattle.text.specs.Split.{split}
use Rattle.picture_words.proofs.Words.{word_first}
use Rattle.picture_words.proofs.word.word_at.Goals as goal

pub returns : goal.returns
returns c =
    let a = c.args in
    let rest : c.unwrap_or.result.now ≡ drop a.at a.line.now = grind (arith, common_steps) in
    c.part.ensures ∙ ap (λ s. get_or (split 9 s) 0 []) rest ∙ word_first a.line.now a.at
