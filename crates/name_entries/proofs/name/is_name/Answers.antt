use Rattle.std.proofs.Common.{rules, ◌∙◌, sym, ◌≤◌, length}
use Rattle.std.proofs.lemmas.Iterator.{YieldsList-from_slice}
use Rattle.std.proofs.lemmas.Iterator.Search.{all_from_yields_List}
use borrow.Author.Tests.{tests}
use Rattle.std.specs.Char.{is_ascii_graphic}
use Rattle.name_entries.proofs.Graphic.{sized-name}
use Rattle.name_entries.proofs.name.is_name.Goals as goal

pub returns : goal.returns
returns c =
    let a = c.args in
    let h : (1 ≤ length a.name.now) × (length a.name.now ≤ 32) = search (rules, tests) in
    all_from_yields_List is_ascii_graphic _ _ c.all.result c.all.ensures.ran (YieldsList-from_slice a.name.now cc) (λ x b q k. search (rules, tests))
    ∙ sym (sized-name a.name.now h.0 h.1)
