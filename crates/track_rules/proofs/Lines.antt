-- What stands after a template line: the third demand's track claim. Assumes nothing.
use Prim.Native.Nat.{ℕ, ◌+◌, ◌*◌, ◌-◌, ◌/◌, ◌%◌, ◌≤◌, ◌<◌}
use native.Mathlib.Omega.{arith}
use mathlib.Core.Path.{◌≡◌, refl, sym, ap, ◌∙◌}
use mathlib.Core.Bool.{Bool, true, false, not, ◌&&◌}
use mathlib.Core.List.{List}
use lib.Dec.{eqb}
use lib.ListN.{length, get_or}
use borrow.Author.Tests.{ne_eqb, eqb-true, eqb-false}
use Rattle.sizing.specs.declared.MinMax.{MinMax}
use Rattle.template_rules.specs.Template.{Component}
use Rattle.track_rules.specs.declared.GridTrack.{GridTrack}
use Rattle.track_rules.specs.declared.WrittenTrack.{WrittenTrack}
use Rattle.track_rules.specs.declared.AxisTracks.{AxisTracks}
use Rattle.track_rules.specs.Tracks.{track_of}
use Rattle.track_rules.specs.Written.{written_out}
use Rattle.track_rules.specs.Records.{negative_of, explicit_of, tracks_in, all_tracks, no_track, item_at, records_of}
use Rattle.track_rules.specs.Steps.{totals_of, cursor_of, written_at}
use Rattle.track_rules.specs.Lines.{Stands}
use Rattle.track_rules.proofs.Cursors.{length-written, written_at_lem}
use Rattle.track_rules.proofs.AllTracks.{get-all, track-explicit}
use Rattle.track_rules.proofs.RecordList.{records-in}

-- what a track record says of its track
stands : (x : WrittenTrack) (byte : ℕ) → Stands x byte (track_of x (x.fit && not (not (eqb byte 0))))
stands x byte = go x.fit refl (eqb byte 0) refl
  where
    go : (f : Bool) → x.fit ≡ f → (z : Bool) → eqb byte 0 ≡ z → Stands x byte (track_of x (f && not (not z)))
    go true e true q = record { is_track_lem = refl; source_kept = refl; as_written = λ n. absurd (n (e, eqb-true byte 0 q)); shut = λ n. (refl, refl) }
    go true e false q = record { is_track_lem = refl; source_kept = refl; as_written = λ n. (refl, refl); shut = λ n. absurd (eqb-false byte 0 q n.1) }
    go false e z q = record { is_track_lem = refl; source_kept = refl; as_written = λ n. (refl, refl); shut = λ n. let f = n.0 in let w : ◌≡◌ {A = ℕ} 0 1 = cc in absurd (omega arith) }

-- after line j of a template of at most as many tracks as the grid has stands record 2(m + j) - 1: track j
pub line_record : (a : AxisTracks) (cs : List Component) (sp : List MinMax) (items : List ℕ) (j : ℕ) (d : GridTrack) →
    1 ≤ j → j ≤ length (written_out cs a.repetitions) → length (written_out cs a.repetitions) ≤ explicit_of a →
    Stands (get_or (written_out cs a.repetitions) (j - 1) no_track) (get_or items (negative_of a + j - 1) 0) (get_or (records_of a cs sp items) (2 * (negative_of a + j) - 1) d)
line_record a cs sp items j d one low fits =
    let n = length-written cs a.repetitions in
    let t = negative_of a + j - 1 in
    let i = 2 * (negative_of a + j) - 1 in
    let l = all_tracks a cs sp in
    let x = get_or (written_out cs a.repetitions) (j - 1) no_track in
    let half : i / 2 ≡ t = omega arith in
    let odd : i % 2 ≡ 1 = omega arith in
    let in_all : t < tracks_in a = omega arith in
    let same : get_or l t no_track ≡ x =
    get-all a cs sp t in_all ∙ track-explicit a cs sp (item_at items) t (omega arith) (omega arith)
    ∙ ap (λ (o : ℕ). written_at cs (cursor_of (totals_of a.repetitions cs) o)) (let y : t - negative_of a ≡ j - 1 = omega arith in y)
    ∙ sym (written_at_lem cs a.repetitions (j - 1) (omega arith)) in
    let e : get_or (records_of a cs sp items) i d ≡ track_of x (x.fit && not (item_at items t)) =
    records-in a cs sp items i d (omega arith) ∙ rw (ne_eqb (i % 2) 0 (λ z. omega arith), half, same) in
    rw e (stands x (get_or items t 0))
