use Rattle.std.proofs.Common.{rules, ◌∙◌, sym, ap}
use Rattle.std.proofs.lemmas.Iterator.{YieldsList-from_slice, YieldsList-from_map}
use Rattle.std.proofs.lemmas.Iterator.Adapters.{option_map_id}
use Rattle.std.proofs.lemmas.Iterator.Consumers.{YieldsList-at, YieldsList-from_enumerate, YieldsList-from_filter, nth_from_yields_List}
use Rattle.std.specs.Prelude.{ℕ, List}
use Rattle.std.specs.List.{slice_get}
use borrow.Author.Tests.{tests}
use Rattle.name_entries.specs.declared.NameEntry.{NameEntry}
use Rattle.name_entries.specs.Entries.{entry_of}
use Rattle.name_entries.proofs.Showing.{shows_at, kept_words}
use Rattle.name_entries.proofs.Names.shown_entry.Goals as goal

pub returns : goal.returns
returns c =
    let a = c.args in
    sym (option_map_id c.nth.result)
    ∙ nth_from_yields_List c.nth.result _ a.place c.nth.ensures.ran
    (YieldsList-from_map _ (λ (p : ℕ × ℕ). entry_of p.1)
    (YieldsList-at c.map.ensures.source (YieldsList-from_filter _ (shows_at a.line a.self.entries.now a.self.store.now)
    (YieldsList-from_enumerate (YieldsList-from_slice a.self.entries.now cc) (cc)) c.filter.ensures.closure (λ x r q k. search (rules, tests))))
    c.map.ensures.closure (λ x r q k. search (rules, tests)))
    ∙ ap (λ (l : List NameEntry). slice_get l a.place) (kept_words a.line a.self.store.now a.self.entries.now)
