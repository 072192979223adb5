-- The answer of the call for one record, case by case. Assumes nothing.
use Prim.Native.Nat.{ℕ, ◌≤◌, ◌<◌}
use mathlib.Core.Path.{◌≡◌, sym, ap₂, ◌∙◌}
use mathlib.Core.List.{List}
use lib.Dec.{T}
use lib.ListN.{length}
use lib.Ieee.Bits.{is_true}
use borrow.Author.Tests.{lt-ltb, le-ltb, le-leb, lt-leb, eq-eqb, ne_eqb}
use Rattle.coordinates.specs.Refusals.{Refusal, no_refusal, count, short}
use Rattle.sizing.specs.Ranges.{sizing_in_range}
use Rattle.sizing.specs.declared.MinMax.{MinMax}
use Rattle.template_rules.specs.Template.{Component}
use Rattle.track_rules.specs.declared.GridTrack.{GridTrack}
use Rattle.track_rules.specs.declared.AxisTracks.{AxisTracks}
use Rattle.track_rules.specs.Tracks.{RecordAnswer}
use Rattle.track_rules.specs.Tracks.{zero_grid_track, refused_record}
use Rattle.track_rules.specs.Records.{negative_of, explicit_of, positive_of, tracks_in, records_in, item_at, axis_refusal, record_answer_of}
use Rattle.track_rules.specs.Steps.{record_of}
use Rattle.track_rules.proofs.RecordList.{records-at}

abbrev answer : Refusal → GridTrack → RecordAnswer
answer x y = record { refusal = x; track = y }

-- an axis whose gap and counts are in range is not refused
pub axis_unrefused : (a : AxisTracks) → T (sizing_in_range a.gap) → negative_of a ≤ 10000 → explicit_of a ≤ 10000 → positive_of a ≤ 10000 → axis_refusal a ≡ 0
unfolding axis_refusal
axis_unrefused a g n e p = rw (is_true (sizing_in_range a.gap) g, le-leb (negative_of a) 10000 n, le-leb (explicit_of a) 10000 e, le-leb (positive_of a) 10000 p)

module _ (a : AxisTracks) (cs : List Component) (sp : List MinMax) (items : List ℕ) (index : ℕ) where
  pub answer-refused : (axis_refusal a ≡ 0 → ⊥) → record_answer_of a cs sp items index ≡ refused_record (axis_refusal a)
  unfolding record_answer_of
  answer-refused z = rw (ne_eqb (axis_refusal a) 0 z)

  pub answer-past : axis_refusal a ≡ 0 → records_in a ≤ index → record_answer_of a cs sp items index ≡ refused_record count
  unfolding record_answer_of
  answer-past z h = rw (eq-eqb (axis_refusal a) 0 z, le-leb (records_in a) index h)

  pub answer-short : axis_refusal a ≡ 0 → index < records_in a → length items < tracks_in a → record_answer_of a cs sp items index ≡ refused_record short
  unfolding record_answer_of
  answer-short z h k = rw (eq-eqb (axis_refusal a) 0 z, lt-leb (records_in a) index h, lt-ltb (length items) (tracks_in a) k)

  pub answer-held : axis_refusal a ≡ 0 → index < records_in a → tracks_in a ≤ length items → (x : Refusal) (r : GridTrack) → x ≡ no_refusal → r ≡ record_of a cs sp (item_at items) index →
      answer x r ≡ record_answer_of a cs sp items index
  unfolding record_answer_of
  answer-held z h k x r e g =
      rw (eq-eqb (axis_refusal a) 0 z, lt-leb (records_in a) index h, le-ltb (length items) (tracks_in a) k) (ap₂ answer e (g ∙ sym (records-at a cs sp items index zero_grid_track h)))
