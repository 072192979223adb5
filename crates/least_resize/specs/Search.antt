-- The least resize by trying: sizes in the order of their distance, the wider one first. The laws in proofs/Least.antt say that what it finds is the
-- least resize (Resize.antt).
use Rattle.std.specs.Prelude.{ℕ, zero, suc, ◌+◌, ◌-◌, Bool, cond, not, ◌&&◌, List, eqb, leb, ltb, Float, Some, Option, None}
use Rattle.sizing.specs.declared.Sizing.TheVariants.{Length}
use Rattle.template_rules.specs.Template.{Component}
use Rattle.template_rules.specs.Space.{whole32}
use Rattle.template_rules.specs.declared.AutoRepeatStrategy.{AutoRepeatStrategy}
use Rattle.explicit_size.specs.Repeat.{repetitions_in}
use Rattle.least_resize.specs.Resize.{largest_size}

-- the number of repetitions at a whole size, percentages taken of that size: only the size changes, the rule, the gap and the tracks stay
abbrev pub repetitions_at : AutoRepeatStrategy → Float → List Component → ℕ → ℕ
repetitions_at strategy gap cs size = repetitions_in (Some (whole32 size)) strategy (Length gap) cs

-- a size in the range at which the count is not n
abbrev pub differs_from : (ℕ → ℕ) → ℕ → ℕ → Bool
differs_from count n t = leb t largest_size && not (eqb (count t) n)

-- at a distance: the wider size, else the narrower one, where there is one
unfoldable pub at_distance : (ℕ → Bool) → ℕ → ℕ → Option ℕ
at_distance differs size d =
    cond (differs (size + d)) (Some (size + d))
    (cond (ltb size d) None (cond (differs (size - d)) (Some (size - d)) None))

abbrev pub or_else : Option ℕ → Option ℕ → Option ℕ
or_else (Some s) next = Some s
or_else None next = next

-- k distances from d on
unfoldable pub search_from : (ℕ → Bool) → ℕ → ℕ → ℕ → Option ℕ
search_from differs size d zero = None
search_from differs size d (suc k) = or_else (at_distance differs size d) (search_from differs size (d + 1) k)

-- no two sizes are farther apart than the largest is from 0
unfoldable pub least_resize : (ℕ → ℕ) → ℕ → Option ℕ
least_resize count size = search_from (differs_from count (count size)) size 1 largest_size
