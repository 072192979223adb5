use Rattle.std.proofs.Common.{rules, ◌∙◌}
use Rattle.std.proofs.lemmas.Iterator.{YieldsList-from_slice}
use Rattle.std.proofs.lemmas.Iterator.Search.{any_from_yields_List}
use borrow.Author.Tests.{tests}
use Rattle.name_rules.specs.Rule.{written?}
use Rattle.name_entries.specs.Entries.{entry_of, named_entry}
use Rattle.name_entries.proofs.Showing.{any_words}
use Rattle.name_entries.proofs.Names.has_written.Goals as goal

pub returns : goal.returns
returns c =
    let a = c.args in
    any_from_yields_List (λ w. written? a.name.now a.line (named_entry a.self.store.now (entry_of w))) _ _ c.any.result c.any.ensures.ran
    (YieldsList-from_slice a.self.entries.now cc) (λ x b q k. search (rules, tests))
    ∙ any_words (written? a.name.now a.line) a.self.store.now a.self.entries.now
