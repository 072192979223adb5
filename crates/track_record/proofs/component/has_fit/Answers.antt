use Rattle.std.proofs.Common.{rules, ◌∙◌}
use Rattle.std.proofs.lemmas.Iterator.{YieldsList-from_slice}
use Rattle.std.proofs.lemmas.Iterator.Search.{any_from_yields_List}
use Rattle.track_record.specs.Repeats.{repeated_of}
use Rattle.track_record.proofs.Fits.{fit_any}
use Rattle.track_record.proofs.component.has_fit.Goals as goal

pub returns : goal.returns
returns c =
    let words = c.args.components.now in
    any_from_yields_List (λ w. (repeated_of w).fit) _ _ c.any.result c.any.ensures.ran (YieldsList-from_slice words cc) (λ x b q k. search rules) ∙ fit_any words
