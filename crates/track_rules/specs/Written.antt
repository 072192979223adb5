-- A template written out (CSS Grid Level 2, 7.2): each repeat as often as its count says, the automatic ones r times.
use Rattle.std.specs.Prelude.{ℕ, zero, suc, Bool, true, false, List, [], ◌∷◌, ◌++◌, map, length}
use Rattle.sizing.specs.declared.MinMax.{MinMax}
use Rattle.template_rules.specs.Template.{Component, tracks_from}
use Rattle.template_rules.specs.declared.SizeTables.{SizeTables}
use Rattle.template_rules.specs.declared.RepetitionCount.{RepetitionCount}
use Rattle.template_rules.specs.declared.RepetitionCount.TheVariants.{Single, Count, AutoFill, AutoFit}
use Rattle.track_rules.specs.declared.WrittenTrack.{WrittenTrack}
use Rattle.track_rules.specs.declared.TrackSource.{TrackSource}
use Rattle.track_rules.specs.declared.TrackSource.TheVariants.{Template, Automatic}

-- how often a component is written out
abbrev pub repeats_of : ℕ → RepetitionCount → ℕ
repeats_of r Single = 1
repeats_of r (Count n) = n
repeats_of r AutoFill = r
repeats_of r AutoFit = r

abbrev pub is_fit : RepetitionCount → Bool
is_fit Single = false
is_fit (Count n) = false
is_fit AutoFill = false
is_fit AutoFit = true

abbrev pub source_of : RepetitionCount → TrackSource
source_of Single = Template
source_of (Count n) = Template
source_of AutoFill = Automatic
source_of AutoFit = Automatic

-- a list n times over
abbrev pub copies : {A : Type 0} → ℕ → List A → List A
copies zero l = []
copies (suc n) l = l ++ copies n l

-- a track that a component writes
abbrev pub written : RepetitionCount → MinMax → WrittenTrack
written count size = record { size = size; source = source_of count; fit = is_fit count }

-- one repetition of a component
abbrev pub once_of : Component → List WrittenTrack
once_of c = map (written c.count) c.tracks

-- the tracks of all components in order
unfoldable pub written_out : List Component → ℕ → List WrittenTrack
written_out [] r = []
written_out (c ∷ cs) r = copies (repeats_of r c.count) (once_of c) ++ written_out cs r

-- the spare sizes that two tables hold
unfoldable pub spares_of : List ℕ → List ℕ → List MinMax
unfolding tracks_from
spares_of minimums maximums = tracks_from minimums maximums 0 (length minimums)

-- those of a struct of the two
abbrev pub spare_sizes : SizeTables → List MinMax
spare_sizes spares = spares_of spares.minimums.now spares.maximums.now
