-- What is carried through the records of an axis gives each of them. Assumes nothing.
use Prim.Native.Nat.{ℕ, ◌+◌, ◌≤◌, ◌<◌}
use native.Mathlib.Omega.{arith}
use mathlib.Core.Path.{◌≡◌, refl, sym, ◌∙◌}
use mathlib.Core.List.{List}
use lib.ListN.{length, get_or}
use Rattle.coordinates.specs.Refusals.{no_refusal}
use Rattle.track_rules.specs.declared.GridTrack.{GridTrack}
use Rattle.track_rules.specs.Records.{tracks_in, records_in, item_at, records_of}
use Rattle.track_rules.proofs.RecordList.{records-at}
use Rattle.track_rules.proofs.Answers.{answer-held}
use Rattle.track_run.proofs.Filling.{state-record, advanced}
use Rattle.axis_tables.specs.declared.AxisGrid.{AxisGrid}
use Rattle.axis_tables.specs.Runs.{part_of}
use Rattle.panel_rules.proofs.AxisBack.{state-unrefused}
use Rattle.panel_rules.specs.Calls.{axis_tracks, template_in, spares_in, track_record}
use Rattle.panel_calls.specs.Carried.{carried_to, carried_record, carried_on}

-- an axis has at most 60,001 records
pub few_records : (s : AxisGrid) → records_in (axis_tracks s) ≤ 60001
few_records s = omega arith

module _ (s : AxisGrid) (words items : List ℕ) where
  -- carried on from record i, it is what is carried to the next
  pub carried_on_lem : (i : ℕ) → i < 18446744073709551615 → carried_on s words (carried_to s words items i) i ≡ carried_to s words items (i + 1)
  carried_on_lem i h = advanced (axis_tracks s) (part_of words 0 s.template.components) (part_of words 64 s.template.tracks) (part_of words 2112 s.template.tracks) (item_at items) i h

  -- the record that it gives is element i of the axis's records
  pub carried-record : (i : ℕ) (d : GridTrack) → i < records_in (axis_tracks s) →
      carried_record s words items (carried_to s words items i) i ≡ get_or (records_of (axis_tracks s) (template_in s words) (spares_in s words) items) i d
  carried-record i d h =
      state-record (axis_tracks s) (template_in s words) (item_at items) (spares_in s words) i
      ∙ sym (records-at (axis_tracks s) (template_in s words) (spares_in s words) items i d h)

  -- and what the call for one record answers
  pub carried-answer : (i : ℕ) → i < records_in (axis_tracks s) → tracks_in (axis_tracks s) ≤ length items →
      record { refusal = no_refusal; track = carried_record s words items (carried_to s words items i) i } ≡ track_record s words items i
  unfolding track_record
  carried-answer i h k =
      answer-held (axis_tracks s) (template_in s words) (spares_in s words) items i (state-unrefused s) h k no_refusal (carried_record s words items (carried_to s words items i) i) refl
      (state-record (axis_tracks s) (template_in s words) (item_at items) (spares_in s words) i)
