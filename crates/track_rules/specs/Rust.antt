-- What `initialize_grid_tracks` of the Rust does, step by step. The vector is held with its last record first.
use Rattle.std.specs.Prelude.{ℕ, zero, suc, ◌+◌, ◌*◌, ◌-◌, ◌%◌, min, Bool, true, false, cond, not, ◌&&◌, List, [], ◌∷◌, ◌++◌, ltb, eqb, length, get_or}
use Rattle.sizing.specs.declared.MinMax.{MinMax}
use Rattle.sizing.specs.declared.Sizing.{Sizing}
use Rattle.template_rules.specs.Template.{Component}
use Rattle.template_rules.specs.declared.RepetitionCount.{RepetitionCount}
use Rattle.template_rules.specs.declared.RepetitionCount.TheVariants.{Single, Count, AutoFill, AutoFit}
use Rattle.track_rules.specs.declared.GridTrack.{GridTrack}
use Rattle.track_rules.specs.declared.GridTrackKind.{GridTrackKind}
use Rattle.track_rules.specs.declared.GridTrackKind.TheVariants.{Track, Gutter}
use Rattle.track_rules.specs.declared.AxisTracks.{AxisTracks}
use Rattle.track_rules.specs.Tracks.{auto_size, zero_size}
use Rattle.track_rules.specs.Records.{negative_of, explicit_of, positive_of}

-- `GridTrack` of the Rust, as far as it is set here: it has no source
pub record RustTrack : Type 0 where
  pub kind : GridTrackKind
  pub collapsed : Bool
  pub size : MinMax

-- a record without its source
abbrev pub bare : GridTrack → RustTrack
bare r = record { kind = r.kind; collapsed = r.collapsed; size = r.size }

-- `GridTrack::new_with_kind`, followed by `collapse` or not
abbrev pub new_with_kind : GridTrackKind → MinMax → Bool → RustTrack
new_with_kind kind size true = record { kind = kind; collapsed = true; size = zero_size }
new_with_kind kind size false = record { kind = kind; collapsed = false; size = size }

-- `GridTrack::gutter`
abbrev pub rust_gutter : Sizing → Bool → RustTrack
rust_gutter gap closed = new_with_kind Gutter (record { min = gap; max = gap }) closed

-- `GridTrack::new`
abbrev pub rust_track : MinMax → Bool → RustTrack
rust_track size closed = new_with_kind Track size closed

-- `GridTrack::collapse`
abbrev pub collapse : RustTrack → RustTrack
collapse x = record { kind = x.kind; collapsed = true; size = zero_size }

abbrev pub is_track : GridTrackKind → Bool
is_track Track = true
is_track Gutter = false

-- n times `push(track)`, `push(gutter)`; both collapse where `closed` says so
abbrev pub pushes : Sizing → (ℕ → MinMax) → (ℕ → Bool) → ℕ → List RustTrack → List RustTrack
pushes gap size closed zero tracks = tracks
pushes gap size closed (suc n) tracks = rust_gutter gap (closed n) ∷ rust_track (size n) (closed n) ∷ pushes gap size closed n tracks

abbrev pub never : ℕ → Bool
never i = false

-- `for previous_track in tracks.iter_mut().rev()`
abbrev pub close_back : List RustTrack → List RustTrack
close_back [] = []
close_back (x ∷ tracks) = cond (is_track x.kind && not x.collapsed) (x ∷ tracks) (collapse x ∷ close_back tracks)

-- `cycle()`, and `repeat(AUTO)` for no sizes
abbrev pub cycled : List MinMax → ℕ → MinMax
cycled sizes i = get_or sizes (i % length sizes) auto_size

-- `tracks` and `current_track_index`
pub record State : Type 0 where
  pub tracks : List RustTrack
  pub at : ℕ

abbrev pub state : List RustTrack → ℕ → State
state l n = record { tracks = l; at = n }

-- `explicit_track_limit`
abbrev pub limit : AxisTracks → ℕ
limit a = negative_of a + explicit_of a

-- `(track_count * count).min(explicit_track_limit - current_track_index)`
abbrev pub room : AxisTracks → Component → ℕ → State → ℕ
room a c k s = min (length c.tracks * k) (limit a - s.at)

-- tracks that never collapse
abbrev pub plain_step : AxisTracks → Component → ℕ → State → State
plain_step a c k s = state (pushes a.gap (cycled c.tracks) never (room a c k s) s.tracks) (s.at + room a c k s)

-- `track_has_items` is `item`; `is_last` closes back
abbrev pub fit_step : AxisTracks → (ℕ → Bool) → Component → State → State
fit_step a item c s =
    let n = room a c a.repetitions s in
    let l = pushes a.gap (cycled c.tracks) (λ i. not (item (s.at + i))) n s.tracks in
    state (cond (eqb (s.at + n) (negative_of a + explicit_of a + positive_of a)) (close_back l) l) (s.at + n)

-- one component; a single is pushed once where `current_track_index < explicit_track_limit`, which is min 1 (limit - index) times
abbrev pub step : AxisTracks → (ℕ → Bool) → Component → RepetitionCount → State → State
step a item c Single s = plain_step a c 1 s
step a item c (Count k) s = plain_step a c k s
step a item c AutoFill s = plain_step a c a.repetitions s
step a item c AutoFit s = fit_step a item c s

-- `track_template.for_each`
unfoldable pub steps : AxisTracks → (ℕ → Bool) → List Component → State → State
steps a item [] s = s
steps a item (c ∷ cs) s = steps a item cs (step a item c c.count s)

-- the first gutter and the negative implicit tracks: `cycle().skip(offset)`
abbrev pub negative_part : AxisTracks → List MinMax → State
negative_part a spares =
    state
    (pushes a.gap (λ i. cycled spares (length spares - negative_of a % length spares + i)) never (negative_of a) (rust_gutter a.gap false ∷ []))
    (negative_of a)

-- `if counts.explicit > 0`
abbrev pub explicit_part : AxisTracks → List Component → (ℕ → Bool) → State → State
explicit_part a template item s = cond (ltb 0 (explicit_of a)) (steps a item template s) s

-- `counts.positive_implicit + grid_area_tracks` implicit tracks
abbrev pub positive_part : AxisTracks → List MinMax → State → List RustTrack
positive_part a spares s = pushes a.gap (cycled spares) never (positive_of a + (limit a - s.at)) s.tracks

-- `tracks.first_mut()` and `tracks.last_mut()`
abbrev pub close_first : List RustTrack → List RustTrack
close_first [] = []
close_first (x ∷ []) = collapse x ∷ []
close_first (x ∷ y ∷ tracks) = x ∷ close_first (y ∷ tracks)

abbrev pub close_last : List RustTrack → List RustTrack
close_last [] = []
close_last (x ∷ tracks) = collapse x ∷ tracks

abbrev pub in_order : List RustTrack → List RustTrack
in_order [] = []
in_order (x ∷ tracks) = in_order tracks ++ (x ∷ [])

unfoldable pub initialize_grid_tracks : AxisTracks → List Component → List MinMax → (ℕ → Bool) → List RustTrack
unfolding steps
initialize_grid_tracks a template spares item =
    in_order (close_last (close_first (positive_part a spares (explicit_part a template item (negative_part a spares)))))
