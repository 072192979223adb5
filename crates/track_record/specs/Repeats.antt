-- The tracks of a component, which repeat.
use Rattle.std.specs.Prelude.{ℕ, Bool, false, ◌||◌, List, [], ◌∷◌}
use Rattle.template_rules.specs.Template.{component_of}
use Rattle.track_rules.specs.Written.{is_fit, source_of}
use Rattle.track_record.specs.declared.Repeated.{Repeated}

-- the tracks of a component
unfoldable pub repeated_of : ℕ → Repeated
unfolding component_of
repeated_of w = record { first = (component_of w).first; length = (component_of w).length; source = source_of (component_of w).count; fit = is_fit (component_of w).count }

-- whether `fit` writes the tracks of any component
unfoldable pub has_fit : List ℕ → Bool
unfolding repeated_of
has_fit [] = false
has_fit (w ∷ ws) = (repeated_of w).fit || has_fit ws
