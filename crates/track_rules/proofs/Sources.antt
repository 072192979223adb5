-- The source of each record is that of CSS's account, whatever collapses. Assumes nothing.
use Prim.Native.Nat.{ℕ, ◌+◌, ◌-◌, ◌/◌, ◌%◌, ◌≤◌, ◌<◌, min}
use native.Mathlib.Omega.{arith}
use mathlib.Core.Path.{◌≡◌, refl, sym, ap, ap₂, ◌∙◌}
use mathlib.Core.Logic.{⊎_elim}
use mathlib.Core.Bool.{Bool, true, false, cond}
use mathlib.Core.List.{List, [], ◌∷◌, ◌++◌, map, map-append}
use lib.Dec.{ltb}
use lib.ListN.{length, get_or, length-map}
use borrow.Author.Tests.{lt-ltb, le-ltb, lt-leb, eq-eqb, ne_eqb}
use Rattle.std.proofs.lemmas.Bool.{cases_lt}
use Rattle.sizing.specs.declared.MinMax.{MinMax}
use Rattle.sizing.specs.declared.Sizing.{Sizing}
use Rattle.template_rules.specs.Template.{Component}
use Rattle.template_rules.specs.Counts.{is_automatic}
use Rattle.template_rules.specs.declared.RepetitionCount.{RepetitionCount}
use Rattle.template_rules.specs.declared.RepetitionCount.TheVariants.{Single, Count, AutoFill, AutoFit}
use Rattle.track_rules.specs.declared.GridTrack.{GridTrack}
use Rattle.track_rules.specs.declared.WrittenTrack.{WrittenTrack}
use Rattle.track_rules.specs.declared.TrackSource.{TrackSource}
use Rattle.track_rules.specs.declared.TrackSource.TheVariants.{Negative, Template, Automatic, Area, Positive, Gutter}
use Rattle.track_rules.specs.declared.AxisTracks.{AxisTracks}
use Rattle.track_rules.specs.Tracks.{gutter_of, track_of, zero_grid_track}
use Rattle.track_rules.specs.Written.{repeats_of, source_of, copies, written, once_of, written_out}
use Rattle.track_rules.specs.Records.{negative_of, explicit_of, tracks_in, records_in, all_tracks, no_track, item_at, closed_in, fit_ends_in, shut_gutter, record_in, records_of, axis_refusal, record_answer_of}
use Rattle.track_rules.specs.Steps.{track_at}
use Rattle.track_rules.specs.Sources.{writers, template_tracks, writer, CssSource, RecordSource}
use Rattle.track_rules.proofs.Lists.{map-copies, get-map}
use Rattle.track_rules.proofs.Cursors.{length-written, written_at_lem}
use Rattle.track_rules.proofs.AllTracks.{count_in, get-all, track-negative, track-explicit, track-past}
use Rattle.track_rules.proofs.RecordList.{records-in}

abbrev source_in : WrittenTrack → TrackSource
source_in x = x.source

-- ---- the tracks that a template writes out

-- the source of each is that of the component which wrote it
written_sources : (cs : List Component) (r : ℕ) → map source_in (written_out cs r) ≡ map source_of (writers cs r)
unfolding written_out writers
written_sources [] r = refl
written_sources (c ∷ cs) r =
    map-append source_in (copies (repeats_of r c.count) (once_of c)) (written_out cs r)
    ∙ ap₂ ◌++◌ part (written_sources cs r)
    ∙ sym (map-append source_of (copies (repeats_of r c.count) (map counted c.tracks)) (writers cs r))
  where
    counted : MinMax → RepetitionCount
    counted size = c.count

    each : (l : List MinMax) → map source_in (map (written c.count) l) ≡ map source_of (map counted l)
    each [] = refl
    each (x ∷ l) = ap (λ (m : List TrackSource). source_of c.count ∷ m) (each l)

    part : map source_in (copies (repeats_of r c.count) (once_of c)) ≡ map source_of (copies (repeats_of r c.count) (map counted c.tracks))
    part =
        map-copies source_in (repeats_of r c.count) (once_of c) ∙ ap (copies (repeats_of r c.count)) (each c.tracks)
        ∙ sym (map-copies source_of (repeats_of r c.count) (map counted c.tracks))

writers-length : (cs : List Component) (r : ℕ) → length (writers cs r) ≡ length (written_out cs r)
writers-length cs r =
    sym (length-map (writers cs r) source_of) ∙ ap length (sym (written_sources cs r)) ∙ length-map (written_out cs r) source_in

source_written : (cs : List Component) (r j : ℕ) → j < length (written_out cs r) → (get_or (written_out cs r) j no_track).source ≡ source_of (get_or (writers cs r) j Single)
source_written cs r j h =
    sym (get-map source_in (written_out cs r) j Template no_track h) ∙ ap (λ (l : List TrackSource). get_or l j Template) (written_sources cs r)
    ∙ get-map source_of (writers cs r) j Template Single (omega (arith, writers-length cs r))

no : {A : Type 0} → ◌≡◌ {A = Bool} true false → A
no e = let z : ◌≡◌ {A = ℕ} 0 1 = cc in absurd (omega arith)

by_template : (k : RepetitionCount) → is_automatic k ≡ false → source_of k ≡ Template
by_template Single e = refl
by_template (Count n) e = refl
by_template AutoFill e = no e
by_template AutoFit e = no e

by_automatic : (k : RepetitionCount) → is_automatic k ≡ true → source_of k ≡ Automatic
by_automatic Single e = no (sym e)
by_automatic (Count n) e = no (sym e)
by_automatic AutoFill e = refl
by_automatic AutoFit e = refl

-- ---- the tracks of an axis

abbrev is_gutter : TrackSource → Bool
is_gutter Negative = false
is_gutter Template = false
is_gutter Automatic = false
is_gutter Area = false
is_gutter Positive = false
is_gutter Gutter = true

module _ (a : AxisTracks) (cs : List Component) (sp : List MinMax) (items : List ℕ) where
  -- as many tracks of the template by either count
  template-count : template_tracks a cs ≡ count_in a cs
  template-count = ap (λ (n : ℕ). min (explicit_of a) n) (length-written cs a.repetitions)

  source-explicit : (t : ℕ) → negative_of a ≤ t → t < negative_of a + template_tracks a cs → (track_at a cs sp t).source ≡ source_of (writer a cs (t - negative_of a))
  source-explicit t h k =
      let r = a.repetitions in
      let n = length-written cs r in
      ap source_in
      (track-explicit a cs sp (item_at items) t h (omega (arith, template-count)) ∙ sym (written_at_lem cs r (t - negative_of a) (omega arith)))
      ∙ source_written cs r (t - negative_of a) (omega arith)

  source-past : (t : ℕ) → negative_of a + template_tracks a cs ≤ t → (track_at a cs sp t).source ≡ cond (ltb t (negative_of a + explicit_of a)) Area Positive
  source-past t h = ap source_in (track-past a cs sp (item_at items) t (omega (arith, template-count)))

  track-source : (t : ℕ) → CssSource a cs t (track_at a cs sp t).source
  track-source t =
      record {
        before = λ h. ap source_in (track-negative a cs sp (item_at items) t h);
        written = λ h k e. source-explicit t h k ∙ by_template (writer a cs (t - negative_of a)) e;
        automatic = λ h k e. source-explicit t h k ∙ by_automatic (writer a cs (t - negative_of a)) e;
        area-only = λ h k. source-past t h ∙ ap (λ (b : Bool). cond b Area Positive) (lt-ltb t (negative_of a + explicit_of a) k);
        after = λ h. source-past t (omega arith) ∙ ap (λ (b : Bool). cond b Area Positive) (le-ltb t (negative_of a + explicit_of a) h);
      }

  -- no track has the source of a gutter
  no-gutter : (t : ℕ) → is_gutter (track_at a cs sp t).source ≡ false
  no-gutter t =
      ⊎_elim
      (λ (h : t < negative_of a). ap is_gutter (ap source_in (track-negative a cs sp (item_at items) t h)))
      (λ (h : negative_of a ≤ t).
      ⊎_elim
      (λ (k : t < negative_of a + template_tracks a cs). ap is_gutter (source-explicit t h k) ∙ of-count (writer a cs (t - negative_of a)))
      (λ (k : negative_of a + template_tracks a cs ≤ t). ap is_gutter (source-past t k) ∙ either (ltb t (negative_of a + explicit_of a)))
      (cases_lt t (negative_of a + template_tracks a cs)))
      (cases_lt t (negative_of a))
    where
      of-count : (k : RepetitionCount) → is_gutter (source_of k) ≡ false
      of-count Single = refl
      of-count (Count n) = refl
      of-count AutoFill = refl
      of-count AutoFit = refl

      either : (b : Bool) → is_gutter (cond b Area Positive) ≡ false
      either true = refl
      either false = refl

-- ---- the records of an axis

gutter_source : (gap : Sizing) (b : Bool) → (gutter_of gap b).source ≡ Gutter
gutter_source gap true = refl
gutter_source gap false = refl

-- a track keeps its source, open or collapsed
pub kept_source : (x : WrittenTrack) (b : Bool) → (track_of x b).source ≡ x.source
kept_source x true = refl
kept_source x false = refl

module _ (a : AxisTracks) (cs : List Component) (sp : List MinMax) where
  abbrev made : List ℕ → ℕ → GridTrack → TrackSource
  made items k d = (get_or (records_of a cs sp items) k d).source

  module _ (items : List ℕ) (k : ℕ) (d : GridTrack) (h : k < records_in a) where
    even-source : k % 2 ≡ 0 → made items k d ≡ Gutter
    even-source e =
        let l = all_tracks a cs sp in
        let b = shut_gutter (closed_in l (item_at items)) (fit_ends_in l) (length l) (k / 2) in
        let g : record_in l (item_at items) a.gap k ≡ gutter_of a.gap b = rw (eq-eqb (k % 2) 0 e) in
        ap (λ (x : GridTrack). x.source) (records-in a cs sp items k d h ∙ g) ∙ gutter_source a.gap b

    odd-source : (k % 2 ≡ 0 → ⊥) → made items k d ≡ (track_at a cs sp (k / 2)).source
    odd-source e =
        let l = all_tracks a cs sp in
        let x = get_or l (k / 2) no_track in
        let b = closed_in l (item_at items) (k / 2) in
        let g : record_in l (item_at items) a.gap k ≡ track_of x b = rw (ne_eqb (k % 2) 0 e) in
        ap (λ (y : GridTrack). y.source) (records-in a cs sp items k d h ∙ g) ∙ kept_source x b ∙ ap source_in (get-all a cs sp (k / 2) (omega arith))

    -- the source of record k is CSS's
    pub source-css : RecordSource a cs k (made items k d)
    source-css =
        record {
          gutter = (
            λ e. ⊎_elim
                (λ (z : k % 2 < 1). omega arith)
                (λ (z : 1 ≤ k % 2).
                no (sym (ap is_gutter (sym (odd-source (λ q. omega arith)) ∙ e)) ∙ no-gutter a cs sp items (k / 2)))
                (cases_lt (k % 2) 1),
            even-source,
          );
          track = λ z. rw (odd-source (λ q. omega arith)) (track-source a cs sp items (k / 2));
        }

  -- so it is in the answer of the call for one record
  pub answer-source : axis_refusal a ≡ 0 → (items : List ℕ) (k : ℕ) → k < records_in a → tracks_in a ≤ length items → RecordSource a cs k (record_answer_of a cs sp items k).track.source
  unfolding record_answer_of
  answer-source z items k h long = rw (eq-eqb (axis_refusal a) 0 z, lt-leb (records_in a) k h, le-ltb (length items) (tracks_in a) long) (source-css items k zero_grid_track h)

  -- whatever holds an item, and so whatever collapses, each record keeps its source
  pub collapse-keeps-source : (items others : List ℕ) (k : ℕ) (d : GridTrack) → k < records_in a → made items k d ≡ made others k d
  collapse-keeps-source items others k d h =
      ⊎_elim
      (λ (z : k % 2 < 1). let e : k % 2 ≡ 0 = omega arith in even-source items k d h e ∙ sym (even-source others k d h e))
      (λ (z : 1 ≤ k % 2). odd-source items k d h (λ q. omega arith) ∙ sym (odd-source others k d h (λ q. omega arith)))
      (cases_lt (k % 2) 1)
