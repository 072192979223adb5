-- The space that a template uses (document 01, layer 3; document 02, Req 05): all sums are f32, in template order, each operation rounded once.
use Rattle.std.specs.Prelude.{ℕ, cond, List, [], ◌∷◌, map, pos, from_bits, Float}
use Rattle.std.specs.Float.{binary32}
use Rattle.std.specs.Float.Ieee.{mul, lt, of_int}
use Rattle.sizing.specs.Words.{zero32}
use Rattle.sizing.specs.Sums.{sum_from}
use Rattle.sizing.specs.Definite.{track_value_of, or_zero}
use Rattle.sizing.specs.declared.MinMax.{MinMax}
use Rattle.template_rules.specs.Template.{Component}
use Rattle.template_rules.specs.Counts.{automatic_tracks}
use Rattle.template_rules.specs.declared.RepetitionCount.{RepetitionCount}
use Rattle.template_rules.specs.declared.RepetitionCount.TheVariants.{Single, Count, AutoFill, AutoFit}

-- a count as an f32
abbrev pub whole32 : ℕ → Float
whole32 n = of_int binary32 (pos n)

-- "a track counts as its definite maximum raised to its definite minimum, else its minimum"; one with no definite size counts as 0:
-- a valid template with an automatic repeat has none
abbrev pub track_space : Float → MinMax → Float
track_space inner t = or_zero (track_value_of t inner)

-- 1 pixel
abbrev pub one32 : Float
one32 = from_bits binary32 0x3f80_0000

-- "inside the automatic repeat, each track below 1 is taken as 1 while counting repetitions" (Req 05), by what it measures
unfoldable pub repeated_space : Float → Float
repeated_space space = cond (lt space one32) one32 space

abbrev pub repeated_track_space : Float → MinMax → Float
repeated_track_space inner t = repeated_space (track_space inner t)

-- what a track counts as in a component, by how often the component is written out and what the track measures
abbrev pub space_in : RepetitionCount → Float → Float
space_in Single space = space
space_in (Count n) space = space
space_in AutoFill space = repeated_space space
space_in AutoFit space = repeated_space space

-- a single is its track
abbrev pub single_space : Float → List MinMax → Float
single_space inner [] = zero32
single_space inner (t ∷ ts) = track_space inner t

-- "a counted repeat is the sum of its tracks times its count"
abbrev pub counted_space : Float → ℕ → Float
counted_space space times = mul binary32 space (whole32 times)

-- a component; an automatic repeat uses nothing outside itself
abbrev pub space_of : Float → RepetitionCount → List MinMax → Float
space_of inner Single ts = single_space inner ts
space_of inner (Count n) ts = counted_space (sum_from zero32 (map (track_space inner) ts)) n
space_of inner AutoFill ts = zero32
space_of inner AutoFit ts = zero32

-- the space used outside the automatic repeat, in template order
unfoldable pub outside_space : Float → List Component → Float
unfolding sum_from
outside_space inner cs = sum_from zero32 (map (λ (c : Component). space_of inner c.count c.tracks) cs)

-- the space of one repetition, the first one and each further one
unfoldable pub repetition_space : Float → List Component → Float
unfolding sum_from automatic_tracks repeated_space
repetition_space inner cs = sum_from zero32 (map (repeated_track_space inner) (automatic_tracks cs))
