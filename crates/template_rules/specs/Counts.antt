-- The counts of a template and its validity (document 01, layer 3), each over the list of its components.
use Rattle.std.specs.Prelude.{ℕ, ◌+◌, ◌*◌, Bool, true, false, cond, ◌&&◌, ◌||◌, List, [], ◌∷◌, length, ◌==◌}
use Rattle.sizing.specs.Definite.{fixed_track}
use Rattle.sizing.specs.declared.MinMax.{MinMax}
use Rattle.template_rules.specs.Template.{Component}
use Rattle.template_rules.specs.declared.RepetitionCount.{RepetitionCount}
use Rattle.template_rules.specs.declared.RepetitionCount.TheVariants.{Single, Count, AutoFill, AutoFit}

abbrev pub is_automatic : RepetitionCount → Bool
is_automatic Single = false
is_automatic (Count n) = false
is_automatic AutoFill = true
is_automatic AutoFit = true

-- the tracks outside the automatic repeat: of a component with so many tracks, and of a template
abbrev pub outside_of : RepetitionCount → ℕ → ℕ
outside_of Single n = 1
outside_of (Count times) n = times * n
outside_of AutoFill n = 0
outside_of AutoFit n = 0

unfoldable pub outside_count : List Component → ℕ
outside_count [] = 0
outside_count (c ∷ cs) = outside_of c.count (length c.tracks) + outside_count cs

-- how many automatic repeats there are
unfoldable pub automatic_count : List Component → ℕ
automatic_count [] = 0
automatic_count (c ∷ cs) = cond (is_automatic c.count) 1 0 + automatic_count cs

-- "with p tracks before the repeat": up to the first automatic one
unfoldable pub before_count : List Component → ℕ
before_count [] = 0
before_count (c ∷ cs) = cond (is_automatic c.count) 0 (outside_of c.count (length c.tracks) + before_count cs)

-- "and k in it": the tracks of the first automatic repeat
unfoldable pub automatic_tracks : List Component → List MinMax
automatic_tracks [] = []
automatic_tracks (c ∷ cs) = cond (is_automatic c.count) c.tracks (automatic_tracks cs)

-- "a repeat of no tracks, a written count of 0": a repeat that writes nothing
abbrev pub is_empty : RepetitionCount → ℕ → Bool
is_empty Single n = false
is_empty (Count times) n = n == 0 || times == 0
is_empty AutoFill n = n == 0
is_empty AutoFit n = n == 0

unfoldable pub any_empty : List Component → Bool
any_empty [] = false
any_empty (c ∷ cs) = is_empty c.count (length c.tracks) || any_empty cs

-- every track has a fixed kind: of a list, and of a template
unfoldable pub all_fixed : List MinMax → Bool
all_fixed [] = true
all_fixed (t ∷ ts) = fixed_track t && all_fixed ts

unfoldable pub every_fixed : List Component → Bool
unfolding all_fixed
every_fixed [] = true
every_fixed (c ∷ cs) = all_fixed c.tracks && every_fixed cs
