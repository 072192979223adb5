-- The third demand's track claim (document 01, name book): what stands after a template line.
use Rattle.std.specs.Prelude.{ℕ, ◌≡◌, true, false, List, [], ◌∷◌, length}
use Rattle.template_rules.specs.Template.{Component}
use Rattle.template_rules.specs.declared.RepetitionCount.{RepetitionCount}
use Rattle.template_rules.specs.declared.RepetitionCount.TheVariants.{Single, Count, AutoFill, AutoFit}
use Rattle.track_rules.specs.declared.GridTrack.{GridTrack}
use Rattle.track_rules.specs.declared.GridTrackKind.TheVariants.{Track}
use Rattle.track_rules.specs.declared.WrittenTrack.{WrittenTrack}
use Rattle.track_rules.specs.Tracks.{zero_size}

-- `fit` wrote the track, and it holds no item: its item byte is 0
abbrev pub Empty : WrittenTrack → ℕ → Type 0
Empty x byte = (x.fit ≡ true) × (byte ≡ 0)

-- "track j, open and as written out, or collapsed, exactly where `fit` wrote it and it holds no item"; its source is the same either way
pub record Stands (x : WrittenTrack) (byte : ℕ) (r : GridTrack) : Type 0 where
  pub is_track_lem : r.kind ≡ Track
  pub source_kept : r.source ≡ x.source
  pub as_written : (Empty x byte → ⊥) → (r.collapsed ≡ false) × (r.size ≡ x.size)
  pub shut : Empty x byte → (r.collapsed ≡ true) × (r.size ≡ zero_size)

-- a single is one track, as the words of a template give it
abbrev pub OneTrack : RepetitionCount → ℕ → Type 0
OneTrack Single n = n ≡ 1
OneTrack (Count times) n = Unit {0}
OneTrack AutoFill n = Unit {0}
OneTrack AutoFit n = Unit {0}

abbrev pub OneTrackEach : List Component → Type 0
OneTrackEach [] = Unit {0}
OneTrackEach (c ∷ cs) = OneTrack c.count (length c.tracks) × OneTrackEach cs
