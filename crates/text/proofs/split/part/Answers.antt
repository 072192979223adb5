use Rattle.std.proofs.Common.{rules, tests, ◌≡◌, ◌∙◌, ap, eqb, get_or, List, [], ℕ, Bor, slice_get, Option}
use Rattle.std.specs.Prelude.{unwrap_or}
use Rattle.std.specs.List.{slice_split}
use Rattle.std.specs.Option.{option_map}
use Rattle.std.proofs.lemmas.Option.{unwrap_or-slice_get}
use Rattle.std.proofs.lemmas.Iterator.Consumers.{nth_from_yields_List}
use Rattle.std.proofs.lemmas.Iterator.Splits.{YieldsList-from_slice_split}
use Rattle.text.proofs.Library.{split_parts, text_or}
use Rattle.text.proofs.split.part.Goals as goal

pub returns : goal.returns
returns c =
    let a = c.args in
    let found : option_map (λ (x : Bor (List ℕ)). x.now) c.nth.result ≡ slice_get (slice_split (λ x. eqb x a.b) a.s.now) a.k =
    nth_from_yields_List _ _ a.k c.nth.ensures.ran (YieldsList-from_slice_split _ (λ x. eqb x a.b) a.s.now c.split.ensures.rest c.split.ensures.done c.split.ensures.closure (λ x r q k. search (rules, tests))) in
    ap (λ (x : Bor (List ℕ)). x.now) c.unwrap_or.ensures ∙ text_or c.nth.result _
    ∙ ap (λ (o : Option (List ℕ)). unwrap_or o []) found
    ∙ unwrap_or-slice_get (slice_split (λ x. eqb x a.b) a.s.now) a.k []
    ∙ ap (λ (ps : List (List ℕ)). get_or ps a.k []) (split_parts a.b a.s.now)
