-- The walk over the records that an axis carries is the walk over the list of its records. Assumes nothing.
use Rattle.std.specs.Prelude.{Float, Option}
use Prim.Native.Nat.{ℕ, suc, ◌+◌, ◌*◌, ◌-◌, ◌/◌, ◌%◌, ◌≤◌, ◌<◌}
use native.Mathlib.Omega.{arith}
use mathlib.Core.Path.{◌≡◌, refl, sym, ap, subst, ◌∙◌}
use mathlib.Core.Bool.{Bool, true, false, ◌||◌}
use mathlib.Core.List.{List}
use lib.Dec.{leb}
use lib.ListN.{length}
use borrow.Author.Tests.{eq-eqb, ne_eqb}
use Rattle.sizing.specs.declared.MinMax.{MinMax}
use Rattle.template_rules.specs.Template.{Component}
use Rattle.track_rules.specs.declared.GridTrack.{GridTrack}
use Rattle.track_rules.specs.declared.TrackWalk.{TrackWalk}
use Rattle.track_rules.specs.declared.AxisTracks.{AxisTracks}
use Rattle.track_rules.specs.declared.WrittenTrack.{WrittenTrack}
use Rattle.track_rules.specs.declared.Cursor.{Cursor}
use Rattle.track_rules.specs.declared.Plan.{Plan}
use Rattle.track_rules.specs.Tracks.{gutter_of, track_of, zero_grid_track}
use Rattle.track_rules.specs.Records.{tracks_in, records_in, item_at, closed_by}
use Rattle.track_rules.specs.Steps.{totals_of, track_with, cursor_at, plan_of, record_with}
use Rattle.track_run.specs.Steps.{state_at, state_record}
use Rattle.track_rules.proofs.RecordList.{records-length}
use Rattle.axis_tables.specs.declared.AxisGrid.{AxisGrid}
use Rattle.panel_rules.specs.Calls.{axis_tracks, template_in, spares_in}
use Rattle.panel_calls.specs.Carried.{carried_to, carried_record, carried_on}
use Rattle.panel_calls.proofs.Carried.{carried_on_lem, carried-record}
use Rattle.line_positions.specs.declared.Span.{Span}
use Rattle.line_positions.specs.declared.LineWalk.{LineWalk}
use Rattle.line_positions.specs.Positions.{tracks_among}
use Rattle.line_positions.specs.Steps.{position_step, walked_to}
use Rattle.line_positions.proofs.Walk.{walked_on}
use Rattle.panel_positions.specs.Cursor.{records_on}

-- the gutter after a track, by the track's record
shut_is : (x : WrittenTrack) (closed : Bool) → (track_of x closed).collapsed ≡ closed
shut_is x true = refl
shut_is x false = refl

with_pair : (a : AxisTracks) (p : Plan) (cs : List Component) (sp : List MinMax) (item : ℕ → Bool) (u : Cursor) (d : ℕ)
    → gutter_of a.gap ((record_with a p cs sp item u (2 * d + 1)).collapsed || leb p.opened (d + 1)) ≡ record_with a p cs sp item u (2 * d + 2)
with_pair a p cs sp item u d =
    let odd : 2 * d + 1 ≡ suc (2 * d) = omega arith in
    let even : 2 * d + 2 ≡ suc (2 * d + 1) = omega arith in
    let half : 2 * d / 2 ≡ d = omega arith in
    let same : (2 * d + 1) / 2 ≡ d = omega arith in
    let more : suc (2 * d + 1) / 2 ≡ d + 1 = omega arith in
    let x = track_with a p.written cs sp u d in
    let track : record_with a p cs sp item u (2 * d + 1) ≡ track_of x (closed_by item x d) =
    ap (record_with a p cs sp item u) odd ∙ rw (ne_eqb (suc (2 * d) % 2) 0 (λ e. omega arith), half) in
    let gutter : record_with a p cs sp item u (2 * d + 2) ≡ gutter_of a.gap (closed_by item x d || leb p.opened (d + 1)) =
    ap (record_with a p cs sp item u) even ∙ rw (eq-eqb (suc (2 * d + 1) % 2) 0 (omega arith), same, more) in
    ap (λ (t : Bool). gutter_of a.gap (t || leb p.opened (d + 1))) (ap (λ (r : GridTrack). r.collapsed) track ∙ shut_is x (closed_by item x d)) ∙ sym gutter

module _ (g : AxisGrid) (words items : List ℕ) where
  pub records-on : length (records_on g words items) ≡ records_in (axis_tracks g)
  records-on = records-length (axis_tracks g) (template_in g words) (spares_in g words) items

  -- the tracks among the records are those of the axis
  pub tracks-among : tracks_among (records_on g words items) ≡ tracks_in (axis_tracks g)
  tracks-among = rw records-on (omega arith)

  -- at most 30,000
  pub few-tracks : tracks_in (axis_tracks g) ≤ 30000
  few-tracks = omega arith

  -- a count of them, by the state
  pub few-count : (n : ℕ) (t : AxisTracks) → n ≡ tracks_in t → t ≡ axis_tracks g → n ≤ 30000
  few-count n t e f = subst (λ (m : ℕ). m ≤ 30000) (sym (e ∙ ap tracks_in f)) few-tracks

  -- the records of an axis by pairs: what is carried to a track is carried to the gutter after it
  carried_same : (i j : ℕ) → (i - 1) / 2 ≡ (j - 1) / 2 → carried_to g words items i ≡ carried_to g words items j
  unfolding state_at
  carried_same i j e =
      let a = axis_tracks g in
      let cs = template_in g words in
      ap (λ (n : ℕ). carried (plan_of a cs (item_at items)) (cursor_at a (totals_of a.repetitions cs) n)) e
    where
      carried : Plan → Cursor → TrackWalk
      carried p u = record { axis = axis_tracks g; plan = p; cursor = u }

  gutter-is : (d : ℕ) (at : TrackWalk) (track : GridTrack) → track ≡ carried_record g words items at (2 * d + 1)
      → gutter_of at.axis.gap (track.collapsed || leb at.plan.opened (d + 1)) ≡ carried_record g words items at (2 * d + 2)
  unfolding state_record
  gutter-is d at track t =
      ap (λ (r : GridTrack). gutter_of at.axis.gap (r.collapsed || leb at.plan.opened (d + 1))) t
      ∙ with_pair at.axis at.plan (template_in g words) (spares_in g words) (item_at items) at.cursor d

  module _ (span : Span Float) (inner : Option Float) (count : ℕ) (all : count ≡ tracks_in (axis_tracks g)) where
    at-step : (i : ℕ) → i ≤ 2 * count → (w : LineWalk) (track : GridTrack) → track ≡ carried_record g words items (carried_to g words items i) i → w ≡ walked_to span inner (records_on g words items) i
        → position_step span inner w (2 * count) i track ≡ walked_to span inner (records_on g words items) (i + 1)
    at-step i h w track e f =
        let r = records_on g words items in
        let few = few-tracks in
        let inside : i < records_in (axis_tracks g) = omega arith in
        let last : 2 * count ≡ 2 * tracks_among r = omega (arith, tracks-among) in
        let odd : length r ≡ 2 * tracks_among r + 1 = omega (arith, records-on, tracks-among) in
        rw (last, f, e ∙ carried-record g words items i zero_grid_track inside) (walked_on span inner r i zero_grid_track odd (omega (arith, records-on)) (omega arith))

    -- before the first track: what is carried to it, and what the first gutter adds
    pub first_on : (at : TrackWalk) (first : GridTrack) (begun walk : LineWalk) → at ≡ carried_to g words items 0 → first ≡ gutter_of (axis_tracks g).gap true → begun ≡ walked_to span inner (records_on g words items) 0
        → walk ≡ position_step span inner begun (2 * count) 0 first → (at ≡ carried_to g words items 1) × (walk ≡ walked_to span inner (records_on g words items) 1)
    unfolding state_record
    first_on at first begun walk e f b w = (e ∙ carried_same 0 1 refl, w ∙ at-step 0 (omega arith) begun first f b)

    -- a track and the gutter after it further: what is carried, and what is gathered
    module _ (d : ℕ) (h : d < count) (at next : TrackWalk) (track after : GridTrack) (w met walk : LineWalk) (e : at ≡ carried_to g words items (2 * d + 1)) (f : w ≡ walked_to span inner (records_on g words items) (2 * d + 1)) where
      pub pair-on : track ≡ carried_record g words items at (2 * d + 1) → after ≡ gutter_of at.axis.gap (track.collapsed || leb at.plan.opened (d + 1))
          → met ≡ position_step span inner w (2 * count) (2 * d + 1) track → walk ≡ position_step span inner met (2 * count) (2 * d + 2) after → next ≡ carried_on g words at (2 * d + 2)
          → (next ≡ carried_to g words items (2 * (d + 1) + 1)) × (walk ≡ walked_to span inner (records_on g words items) (2 * (d + 1) + 1))
      pair-on t s m p n =
          let few = few-tracks in
          let c : carried_to g words items (2 * d + 1) ≡ carried_to g words items (2 * d + 2) = carried_same (2 * d + 1) (2 * d + 2) (omega arith) in
          let two : 2 * d + 2 + 1 ≡ 2 * (d + 1) + 1 = omega arith in
          let one : 2 * d + 1 + 1 ≡ 2 * d + 2 = omega arith in
          let reach : met ≡ walked_to span inner (records_on g words items) (2 * d + 2) =
          m ∙ at-step (2 * d + 1) (omega arith) w track (t ∙ ap (λ (a : TrackWalk). carried_record g words items a (2 * d + 1)) e) f ∙ ap (walked_to span inner (records_on g words items)) one in
          let gutter : after ≡ carried_record g words items (carried_to g words items (2 * d + 2)) (2 * d + 2) =
          s ∙ gutter-is d at track t ∙ ap (λ (a : TrackWalk). carried_record g words items a (2 * d + 2)) (e ∙ c) in (
            n ∙ ap (λ (a : TrackWalk). carried_on g words a (2 * d + 2)) (e ∙ c) ∙ carried_on_lem g words items (2 * d + 2) (omega arith) ∙ ap (carried_to g words items) two,
            p ∙ at-step (2 * d + 2) (omega arith) met after gutter reach ∙ ap (walked_to span inner (records_on g words items)) two,
          )
