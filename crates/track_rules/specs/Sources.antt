-- Where each track record comes from, by CSS's account of explicit and implicit tracks (CSS Grid Level 2, 7.1, 7.2, 7.5).
use Rattle.std.specs.Prelude.{ℕ, ◌+◌, ◌-◌, ◌/◌, ◌%◌, ◌≤◌, ◌<◌, min, ◌≡◌, ◌↔◌, true, false, List, [], ◌∷◌, ◌++◌, map, length, get_or}
use Rattle.sizing.specs.declared.MinMax.{MinMax}
use Rattle.template_rules.specs.Template.{Component}
use Rattle.template_rules.specs.Counts.{is_automatic}
use Rattle.template_rules.specs.declared.RepetitionCount.{RepetitionCount}
use Rattle.template_rules.specs.declared.RepetitionCount.TheVariants.{Single}
use Rattle.track_rules.specs.declared.TrackSource.{TrackSource}
use Rattle.track_rules.specs.declared.TrackSource.TheVariants.{Negative, Template, Automatic, Area, Positive, Gutter}
use Rattle.track_rules.specs.declared.AxisTracks.{AxisTracks}
use Rattle.track_rules.specs.Written.{repeats_of, copies, written_out}
use Rattle.track_rules.specs.Records.{negative_of, explicit_of}

-- "repetitions repeat the track list": for each track that a template writes out, the count of the component that it stands in
unfoldable pub writers : List Component → ℕ → List RepetitionCount
writers [] r = []
writers (c ∷ cs) r = copies (repeats_of r c.count) (map (λ (size : MinMax). c.count) c.tracks) ++ writers cs r

module _ (a : AxisTracks) (template : List Component) where
  -- T: the tracks that the template writes out, as far as they are explicit
  abbrev pub template_tracks : ℕ
  template_tracks = min (explicit_of a) (length (written_out template a.repetitions))

  -- what wrote track j of the template
  abbrev pub writer : ℕ → RepetitionCount
  writer j = get_or (writers template a.repetitions) j Single

  -- track i of an axis: "implicit" before the explicit grid; in it first those of the template, `auto-fill` and `auto-fit` apart from the others;
  -- then those that only areas make ("the larger of the two"); "implicit" again after it
  pub record CssSource (i : ℕ) (source : TrackSource) : Type 0 where
    pub before : i < negative_of a → source ≡ Negative
    pub written : negative_of a ≤ i → i < negative_of a + template_tracks → is_automatic (writer (i - negative_of a)) ≡ false → source ≡ Template
    pub automatic : negative_of a ≤ i → i < negative_of a + template_tracks → is_automatic (writer (i - negative_of a)) ≡ true → source ≡ Automatic
    pub area-only : negative_of a + template_tracks ≤ i → i < negative_of a + explicit_of a → source ≡ Area
    pub after : negative_of a + explicit_of a ≤ i → source ≡ Positive

  -- record k: a gutter exactly where k is even, else track k / 2
  pub record RecordSource (k : ℕ) (source : TrackSource) : Type 0 where
    pub gutter : (source ≡ Gutter) ↔ (k % 2 ≡ 0)
    pub track : k % 2 ≡ 1 → CssSource (k / 2) source
