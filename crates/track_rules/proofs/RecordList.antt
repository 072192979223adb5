-- The list of an axis's records by its elements. Assumes nothing.
use Prim.Native.Nat.{ℕ, zero, suc, ◌-◌, ◌/◌, ◌%◌, ◌≤◌, ◌<◌}
use native.Mathlib.Omega.{arith}
use mathlib.Core.Path.{◌≡◌, refl, sym, ap, ap₂, ◌∙◌}
use mathlib.Core.Logic.{⊎_elim}
use mathlib.Core.Bool.{Bool, true, not, ◌||◌}
use mathlib.Core.List.{List, []}
use lib.Dec.{leb, eqb}
use lib.ListN.{length, get_or}
use borrow.Author.Tests.{eq-eqb, ne_eqb}
use Rattle.std.proofs.lemmas.Bool.{cases_lt}
use Rattle.sizing.specs.declared.MinMax.{MinMax}
use Rattle.template_rules.specs.Template.{Component}
use Rattle.track_rules.specs.declared.GridTrack.{GridTrack}
use Rattle.track_rules.specs.declared.WrittenTrack.{WrittenTrack}
use Rattle.track_rules.specs.declared.AxisTracks.{AxisTracks}
use Rattle.track_rules.specs.declared.Cursor.{Cursor}
use Rattle.track_rules.specs.declared.Plan.{Plan}
use Rattle.track_rules.specs.declared.TrackWalk.{TrackWalk}
use Rattle.track_rules.specs.Tracks.{gutter_of, track_of}
use Rattle.track_rules.specs.Records.{tracks_in, records_in, all_tracks, no_track, item_at, closed_by, closed_in, open_to, fit_ends_in, shut_gutter, record_in, records_of}
use Rattle.track_rules.specs.Steps.{totals_of, track_with, cursor_at, track_at, closed_at, plan_of, pair_with, record_with, record_of, state_at}
use Rattle.track_rules.proofs.Lists.{length-listed, get-listed}
use Rattle.track_rules.proofs.Opened.{open_same, gutter-late, not_fit}
use Rattle.track_rules.proofs.AllTracks.{count_in, length-all, get-all, closed_any}

module _ (a : AxisTracks) (cs : List Component) (sp : List MinMax) (item : ℕ → Bool) where
  pub plan-written : (plan_of a cs item).written ≡ count_in a cs
  unfolding plan_of
  plan-written = refl

  pub plan-opened : (plan_of a cs item).opened ≡ open_to (closed_at a cs sp item) (tracks_in a)
  unfolding plan_of
  plan-opened = open_same (closed_at a cs [] item) (closed_at a cs sp item) (tracks_in a) (λ t h. closed_any a cs [] sp item t)

  closed_same : (t : ℕ) → t < tracks_in a → closed_in (all_tracks a cs sp) item t ≡ closed_at a cs sp item t
  closed_same t h = ap (λ (x : WrittenTrack). closed_by item x t) (get-all a cs sp t h)

  open-all : open_to (closed_in (all_tracks a cs sp) item) (length (all_tracks a cs sp)) ≡ (plan_of a cs item).opened
  open-all = ap (open_to (closed_in (all_tracks a cs sp) item)) (length-all a cs sp)
      ∙ open_same (closed_in (all_tracks a cs sp) item) (closed_at a cs sp item) (tracks_in a) closed_same ∙ sym plan-opened

  -- a record after the first, by the track that it is or follows
  pub record-later : (i : ℕ) → record_of a cs sp item (suc i) ≡ pair_with a.gap (eqb (suc i % 2) 0) (track_at a cs sp (i / 2)) (closed_at a cs sp item (i / 2)) (leb (plan_of a cs item).opened (suc i / 2))
  unfolding record_of track_at plan_of
  record-later i = let z : suc i - 1 ≡ i = omega arith in rw z

  pub record_first : record_of a cs sp item 0 ≡ gutter_of a.gap true
  unfolding record_of
  record_first = refl

  -- one record of the list
  pub record_same : (i : ℕ) → i < records_in a → record_in (all_tracks a cs sp) item a.gap i ≡ record_of a cs sp item i
  record_same zero h = sym record_first
  record_same (suc i) h =
      let l = all_tracks a cs sp in
      let f = closed_in l item in
      let o = (plan_of a cs item).opened in
      ⊎_elim
      (λ (k : suc i % 2 < 1).
      let z : suc i % 2 ≡ 0 = omega arith in
      let g : suc i / 2 ≡ suc (i / 2) = omega arith in
      let t : i / 2 < tracks_in a = omega arith in
      let t₂ : i / 2 < length l = omega (arith, length-all a cs sp) in
      let late = gutter-late f (length l) (i / 2) (fit_ends_in l) t₂ (λ e. not_fit (fit_ends_in l) (not (item (length l - 1))) e) in
      let same : (f (i / 2) || leb (open_to f (length l)) (suc (i / 2))) ≡ (closed_at a cs sp item (i / 2) || leb o (suc (i / 2))) =
      ap₂ (λ (x : Bool) (y : ℕ). x || leb y (suc (i / 2))) (closed_same (i / 2) t) open-all in
      let x : record_in l item a.gap (suc i) ≡ gutter_of a.gap (shut_gutter f (fit_ends_in l) (length l) (suc (i / 2))) = rw (eq-eqb (suc i % 2) 0 z, g) in
      let y : pair_with a.gap (eqb (suc i % 2) 0) (track_at a cs sp (i / 2)) (closed_at a cs sp item (i / 2)) (leb o (suc i / 2)) ≡ gutter_of a.gap (closed_at a cs sp item (i / 2) || leb o (suc (i / 2))) = rw (eq-eqb (suc i % 2) 0 z, g) in
      x ∙ ap (gutter_of a.gap) (late ∙ same) ∙ sym (record-later i ∙ y))
      (λ (k : 1 ≤ suc i % 2).
      let g : suc i / 2 ≡ i / 2 = omega arith in
      let t : i / 2 < tracks_in a = omega arith in
      let x : record_in l item a.gap (suc i) ≡ track_of (get_or l (i / 2) no_track) (closed_in l item (i / 2)) = rw (ne_eqb (suc i % 2) 0 (λ z. omega arith), g) in
      let y : pair_with a.gap (eqb (suc i % 2) 0) (track_at a cs sp (i / 2)) (closed_at a cs sp item (i / 2)) (leb o (suc i / 2)) ≡ track_of (track_at a cs sp (i / 2)) (closed_at a cs sp item (i / 2)) = rw (ne_eqb (suc i % 2) 0 (λ z. omega arith)) in
      x ∙ ap (λ (w : WrittenTrack). track_of w (closed_by item w (i / 2))) (get-all a cs sp (i / 2) t) ∙ sym (record-later i ∙ y))
      (cases_lt (suc i % 2) 1)

-- the list of records
module _ (a : AxisTracks) (cs : List Component) (sp : List MinMax) (items : List ℕ) where
  pub records-length : length (records_of a cs sp items) ≡ records_in a
  unfolding records_of
  records-length = length-listed (record_in (all_tracks a cs sp) (item_at items) a.gap) (records_in a)

  pub records-in : (i : ℕ) (d : GridTrack) → i < records_in a → get_or (records_of a cs sp items) i d ≡ record_in (all_tracks a cs sp) (item_at items) a.gap i
  unfolding records_of
  records-in i d h = get-listed (record_in (all_tracks a cs sp) (item_at items) a.gap) (records_in a) i d h

  -- element i of the list is the record that the rule gives for i
  pub records-at : (i : ℕ) (d : GridTrack) → i < records_in a → get_or (records_of a cs sp items) i d ≡ record_of a cs sp (item_at items) i
  records-at i d h = records-in i d h ∙ record_same a cs sp (item_at items) i h

-- what a record is made of
module _ (a : AxisTracks) (p : Plan) (cs : List Component) (sp : List MinMax) (item : ℕ → Bool) (u : Cursor) where
  with-later : (i : ℕ) → (i ≡ 0 → ⊥) → record_with a p cs sp item u i
      ≡ pair_with a.gap (eqb (i % 2) 0) (track_with a p.written cs sp u ((i - 1) / 2)) (closed_by item (track_with a p.written cs sp u ((i - 1) / 2)) ((i - 1) / 2)) (leb p.opened (i / 2))
  with-later zero h = absurd (h refl)
  with-later (suc i) h = let s : suc i - 1 ≡ i = omega arith in rw s

  module _ (i : ℕ) (later : i ≡ 0 → ⊥) (x : WrittenTrack) (shut : Bool) (is_track_lem : x ≡ track_with a p.written cs sp u ((i - 1) / 2)) (is-shut : shut ≡ closed_by item x ((i - 1) / 2)) where
    pub gutter-record : (r : GridTrack) (both : Bool) → i % 2 ≡ 0 → both ≡ (shut || leb p.opened (i / 2)) → r ≡ gutter_of a.gap both → r ≡ record_with a p cs sp item u i
    gutter-record r both even e g =
        g ∙ ap (gutter_of a.gap) (e ∙ ap (λ (b : Bool). b || leb p.opened (i / 2)) (is-shut ∙ ap (λ (y : WrittenTrack). closed_by item y ((i - 1) / 2)) is_track_lem))
        ∙ sym (with-later i later ∙ rw (eq-eqb (i % 2) 0 even))

    pub track-record : (r : GridTrack) → (i % 2 ≡ 0 → ⊥) → r ≡ track_of x shut → r ≡ record_with a p cs sp item u i
    track-record r odd g =
        g ∙ ap (track_of x) is-shut ∙ ap (λ (y : WrittenTrack). track_of y (closed_by item y ((i - 1) / 2))) is_track_lem
        ∙ sym (with-later i later ∙ rw (ne_eqb (i % 2) 0 odd))

-- with the plan and the cursor of its place, it is the record of the axis
pub record_of_lem : (a : AxisTracks) (cs : List Component) (sp : List MinMax) (item : ℕ → Bool) (i : ℕ) (p : Plan) (u : Cursor) →
    p ≡ plan_of a cs item → u ≡ cursor_at a (totals_of a.repetitions cs) ((i - 1) / 2) → record_with a p cs sp item u i ≡ record_of a cs sp item i
unfolding record_of
record_of_lem a cs sp item i p u e g =
    ap (λ (q : Plan). record_with a q cs sp item u i) e ∙ ap (λ (v : Cursor). record_with a (plan_of a cs item) cs sp item v i) g

abbrev carried : AxisTracks → Plan → Cursor → TrackWalk
carried a p u = record { axis = a; plan = p; cursor = u }

-- what is carried to a record, by the plan and the cursor of its place
pub carried-of : (a : AxisTracks) (cs : List Component) (item : ℕ → Bool) (i : ℕ) (p : Plan) (u : Cursor) →
    p ≡ plan_of a cs item → u ≡ cursor_at a (totals_of a.repetitions cs) ((i - 1) / 2) → carried a p u ≡ state_at a cs item i
unfolding state_at
carried-of a cs item i p u e f = ap₂ (carried a) e f

-- with it, it is the record of the axis
pub carried-record : (a : AxisTracks) (cs : List Component) (sp : List MinMax) (item : ℕ → Bool) (i : ℕ) (s : TrackWalk) → s ≡ state_at a cs item i
    → record_with s.axis s.plan cs sp item s.cursor i ≡ record_of a cs sp item i
unfolding state_at
carried-record a cs sp item i s e = rw e (record_of_lem a cs sp item i (plan_of a cs item) (cursor_at a (totals_of a.repetitions cs) ((i - 1) / 2)) refl refl)
