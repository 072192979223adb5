-- The track after each template line but the last is the one written there, or collapsed as CSS has it for the items. Assumes nothing.
use Prim.Native.Nat.{ℕ, ◌+◌, ◌*◌, ◌-◌, ◌≤◌}
use mathlib.Core.Path.{◌≡◌, refl, sym, ap}
use mathlib.Core.Logic.{⊎_elim}
use mathlib.Core.Bool.{cond}
use mathlib.Core.List.{List, [], ◌∷◌, ◌++◌, map}
use native.Mathlib.Omega.{arith}
use borrow.Author.Tests.{lt-leb, le-ltb, eq-eqb}
use lib.ListN.{length, get_or}
use Rattle.coordinates.specs.declared.axis.Axis.{Axis}
use Rattle.coordinates.specs.Refusals.{no_refusal}
use Rattle.template_rules.specs.Template.{Component}
use Rattle.template_rules.specs.Counts.{is_automatic, automatic_count}
use Rattle.template_rules.specs.declared.RepetitionCount.{RepetitionCount}
use Rattle.template_rules.specs.declared.RepetitionCount.TheVariants.{Single, Count, AutoFill, AutoFit}
use Rattle.template_rules.proofs.Valid.{one_at_most}
use Rattle.track_rules.specs.declared.GridTrack.{GridTrack}
use Rattle.track_rules.specs.Tracks.{RecordAnswer}
use Rattle.track_rules.specs.declared.WrittenTrack.{WrittenTrack}
use Rattle.track_rules.specs.Tracks.{zero_grid_track}
use Rattle.track_rules.specs.Written.{repeats_of, copies, once_of, written_out}
use Rattle.track_rules.specs.Records.{tracks_in, records_in, no_track, records_of, axis_refusal, record_answer_of}
use Rattle.track_rules.specs.Lines.{Stands}
use Rattle.track_rules.proofs.Lines.{line_record}
use Rattle.track_run.specs.Run.{run_after}
use Rattle.track_run.proofs.Filling.{run-line-record}
use Rattle.axis_tables.specs.View.{AxisView, sizes_of, components_of}
use Rattle.axis_tables.proofs.Fits.{Fits}
use Rattle.panel_tables.specs.View.{PanelView}
use Rattle.panel_tables.specs.Axes.{view_in}
use Rattle.sheet_rules.specs.Sheet.{size_of, explicit_of}
use Rattle.panel_rules.specs.Runs.{Call}
use Rattle.panel_rules.specs.Views.{tracks_after, record_after}
use Rattle.sheet_rules.specs.Valid.{CssCounted}
use Rattle.panel_rules.specs.Book.{CssTemplate, sheet_tracks, RegularTemplate}
use Rattle.panel_rules.proofs.Book as Book

-- without an automatic repeat the repetitions play no part
plain : (cs : List Component) (n m : ℕ) → automatic_count cs ≡ 0 → written_out cs n ≡ written_out cs m
unfolding automatic_count written_out
plain [] n m e = refl
plain (c ∷ cs) n m e = go c.count e (plain cs n m)
  where
    go : (k : RepetitionCount) → cond (is_automatic k) 1 0 + automatic_count cs ≡ 0 → (automatic_count cs ≡ 0 → written_out cs n ≡ written_out cs m)
        → copies (repeats_of n k) (once_of c) ++ written_out cs n ≡ copies (repeats_of m k) (once_of c) ++ written_out cs m
    go Single e f = ap (λ (l : List WrittenTrack). copies 1 (once_of c) ++ l) (f (Book.left_none (automatic_count cs) e))
    go (Count t) e f = ap (λ (l : List WrittenTrack). copies t (once_of c) ++ l) (f (Book.left_none (automatic_count cs) e))
    go AutoFill e f = absurd (omega arith)
    go AutoFit e f = absurd (omega arith)

module _ (m : CssTemplate) (v : PanelView) (a : Axis) (calls : List Call) (f : Fits (view_in v a)) (css : CssCounted (view_in v a).template m.template)
    (r : RegularTemplate m (view_in v a).line) where
  abbrev va : AxisView
  va = view_in v a

  abbrev cs : List Component
  cs = components_of m.template

  -- the tracks that the template writes out, the automatic repeat as often as CSS has it
  abbrev pub written_tracks : List WrittenTrack
  written_tracks = written_out cs m.repetitions

  written-found : written_out cs (size_of va).repetitions ≡ written_tracks
  written-found =
      ⊎_elim
      (λ (e : automatic_count cs ≡ 0). plain cs (size_of va).repetitions m.repetitions e)
      (λ (e : automatic_count cs ≡ 1). ap (written_out cs) (Book.found-css m v a calls f css r e))
      (one_at_most cs (Book.valid m v a calls f css r))

  -- as many as the book counts
  pub written-tracks : length written_tracks ≡ sheet_tracks m
  unfolding sheet_tracks
  written-tracks = sym (Book.items_tracks m.template m.repetitions (Book.small m v a calls f css r))

  within : length (written_out cs (size_of va).repetitions) ≤ explicit_of va
  within = let e = Book.tracks-found m v a calls f css r in omega arith

  module _ (unrefused : axis_refusal (tracks_after va) ≡ 0) (items : List ℕ) (long : tracks_in (tracks_after va) ≤ length items) (j : ℕ) (from : 1 ≤ j) (to : j ≤ length written_tracks) where
    abbrev index : ℕ
    index = 2 * (va.negative + j) - 1

    abbrev pub StandsThere : GridTrack → Type 0
    StandsThere t = Stands (get_or written_tracks (j - 1) no_track) (get_or items (va.negative + j - 1) 0) t

    inside : j ≤ length (written_out cs (size_of va).repetitions)
    inside = rw written-found to

    answered : record_after va items index ≡ record { refusal = no_refusal; track = get_or (records_of (tracks_after va) cs (map sizes_of va.spares) items) index zero_grid_track }
    unfolding record_after record_answer_of
    answered =
        let w = within in
        let i = inside in
        rw (Book.counted_same m v a calls f css r, eq-eqb (axis_refusal (tracks_after va)) 0 unrefused, lt-leb (records_in (tracks_after va)) index (omega arith), le-ltb (length items) (tracks_in (tracks_after va)) long)

    -- record 2(m + j) - 1, m the negative tracks, is not refused and is track j
    pub track-accepted : (record_after va items index).refusal ≡ no_refusal
    track-accepted = ap (λ (x : RecordAnswer). x.refusal) answered

    pub track-after : StandsThere (record_after va items index).track
    track-after =
        rw (answered, ← written-found)
        (line_record (tracks_after va) cs (map sizes_of va.spares) items j zero_grid_track from inside within)

    -- and so it is in a lent run
    pub track-run : (run : List GridTrack) → records_in (tracks_after va) ≤ length run
        → StandsThere (get_or (run_after (tracks_after va) cs (map sizes_of va.spares) items run) index zero_grid_track)
    track-run run room =
        rw (← written-found)
        (run-line-record (tracks_after va) cs (map sizes_of va.spares) items run unrefused room long j zero_grid_track from inside within)
