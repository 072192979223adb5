use mathlib.Core.Path.{ap, ◌∙◌}
use mathlib.Core.List.{List}
use Prim.Native.Nat.{ℕ}
use lib.ListN.{replicate}
use lib.Seq.{sets}
use Rattle.panel_resized.specs.Axes.{unended_words}
use Rattle.panel_resized.proofs.axis.unended_words.Goals as goal

pub returns : goal.returns
unfolding unended_words
returns c = c.copy_what_fits.ensures ∙ ap (λ (l : List ℕ). sets (replicate 12480 0) 0 l) c.part_from.ensures
