-- Laws of what the filling loop carries and leaves. Assumes nothing.
use Prim.Native.Nat.{ℕ, suc, ◌+◌, ◌*◌, ◌-◌, ◌/◌, ◌%◌, ◌≤◌, ◌<◌}
use native.Mathlib.Omega.{arith}
use native.Mathlib.Numerals.{add-one}
use mathlib.Core.Path.{◌≡◌, refl, sym, ap, ◌∙◌}
use mathlib.Core.Logic.{⊎_elim}
use mathlib.Core.Bool.{Bool, true, false, cond}
use mathlib.Core.List.{List, [], ◌∷◌, ◌++◌, append_assoc}
use lib.Dec.{eqb, ltb}
use lib.ListN.{length, get_or, set, take, drop, replicate, length-append, length-drop, drop_of_length-le, get_or-append}
use Rattle.std.proofs.lemmas.Bool.{cases_lt}
use Rattle.std.proofs.lemmas.List.{length-take-le}
use lib.Seq.{drop-cons, set_at}
use borrow.Author.Tests.{ltb-false, lt-ltb, le-ltb, eq-eqb, ne_eqb}
use Rattle.std.specs.Prelude.{Err}
use Rattle.coordinates.specs.Refusals.{no_refusal, short}
use Rattle.coordinates.specs.declared.refusal.Fault.{Fault}
use Rattle.sizing.specs.declared.MinMax.{MinMax}
use Rattle.template_rules.specs.Template.{Component, template_of}
use Rattle.track_rules.specs.declared.GridTrack.{GridTrack}
use Rattle.track_rules.specs.declared.AxisTracks.{AxisTracks}
use Rattle.track_rules.specs.declared.Cursor.{Cursor}
use Rattle.track_rules.specs.declared.Plan.{Plan}
use Rattle.track_rules.specs.Tracks.{zero_grid_track}
use Rattle.track_rules.specs.Written.{written_out}
use Rattle.track_rules.specs.Records.{listed, negative_of, explicit_of, tracks_in, records_in, all_tracks, no_track, item_at, record_in, records_of, axis_refusal}
use Rattle.track_rules.specs.Steps.{totals_of, word_totals, cursor_of, next_of, cursor_at, plan_of, record_of}
use Rattle.track_rules.specs.Lines.{Stands}
use Rattle.track_rules.proofs.Lists.{length-listed, listed_same}
use Rattle.coordinates.proofs.Faults.{fault_some}
use Rattle.track_rules.proofs.Words.{totals_words}
use Rattle.track_rules.proofs.Cursors.{next-cursor}
use Rattle.track_rules.proofs.RecordList.{record_same, records-length, record_of_lem}
use Rattle.track_rules.proofs.Lines.{line_record}
use Rattle.track_rules.specs.declared.TrackWalk.{TrackWalk}
use Rattle.track_run.specs.Run.{FillAnswer, refused_fill, answered_fill, fill_answer_of, run_after, zero_records}
use Rattle.track_run.specs.Steps.{fill_count, filled_to, state_at, state_record, advance_of}

module _ (a : AxisTracks) (cs : List Component) (item : ℕ → Bool) where
  abbrev state : Plan → Cursor → TrackWalk
  state p u = record { axis = a; plan = p; cursor = u }

  -- the loop's record is the axis's
  pub state-record : (sp : List MinMax) (i : ℕ) → state_record cs sp item (state_at a cs item i) i ≡ record_of a cs sp item i
  unfolding state_at state_record
  state-record sp i = record_of_lem a cs sp item i (plan_of a cs item) (cursor_at a (totals_of a.repetitions cs) ((i - 1) / 2)) refl refl

  -- one record further
  next-state : (ns : List ℕ) → ns ≡ totals_of a.repetitions cs → (i : ℕ) → i < 18446744073709551615 → advance_of ns (state_at a cs item i) i ≡ state_at a cs item (i + 1)
  unfolding state_at advance_of
  next-state ns same i h =
      let r = totals_of a.repetitions cs in
      let m = negative_of a in
      let at : ℕ → TrackWalk = λ t. state (plan_of a cs item) (cursor_of r t) in
      let k : (i + 1 - 1) / 2 ≡ i / 2 = omega arith in
      rw k
      (⊎_elim
      (λ (x : i % 2 < 1).
      ⊎_elim
      (λ (y : i < 2 * m + 2).
      let z : (i - 1) / 2 - m ≡ i / 2 - m = omega arith in
      rw (ne_eqb (i % 2) 1 (λ e. omega arith), lt-ltb i (2 * m + 2) y) (ap at z))
      (λ (y : 2 * m + 2 ≤ i).
      let z : (i - 1) / 2 - m + 1 ≡ i / 2 - m = omega arith in
      rw (ne_eqb (i % 2) 1 (λ e. omega arith), le-ltb i (2 * m + 2) y)
      (ap (λ (l : List ℕ). state (plan_of a cs item) (next_of l (cursor_of r ((i - 1) / 2 - m)))) same
      ∙ ap (λ (u : Cursor). state (plan_of a cs item) u) (next-cursor r ((i - 1) / 2 - m) (omega arith)) ∙ ap at z))
      (cases_lt i (2 * m + 2)))
      (λ (x : 1 ≤ i % 2).
      let z : (i - 1) / 2 ≡ i / 2 = omega arith in
      rw (eq-eqb (i % 2) 1 (omega arith), z))
      (cases_lt (i % 2) 1))

state_axis : (a : AxisTracks) (cs : List Component) (item : ℕ → Bool) (i : ℕ) → (state_at a cs item i).axis ≡ a
unfolding state_at
state_axis a cs item i = refl

-- the state that `advance` gives, from words
pub advanced : (a : AxisTracks) (ws mi ma : List ℕ) (item : ℕ → Bool) (i : ℕ) → i < 18446744073709551615 →
    let s = state_at a (template_of ws mi ma) item i in
    advance_of (word_totals s.axis.repetitions ws) s i ≡ state_at a (template_of ws mi ma) item (i + 1)
advanced a ws mi ma item i h =
    let s = state_at a (template_of ws mi ma) item i in
    next-state a (template_of ws mi ma) item (word_totals s.axis.repetitions ws)
    (ap (λ (x : AxisTracks). word_totals x.repetitions ws) (state_axis a (template_of ws mi ma) item i) ∙ sym (totals_words a.repetitions ws mi ma)) i h

module _ (a : AxisTracks) (cs : List Component) (sp : List MinMax) (item : ℕ → Bool) where
  pub filled-length : (n : ℕ) (run : List GridTrack) → n ≤ length run → length (filled_to a cs sp item n run) ≡ length run
  filled-length n run h = length-append (listed (record_of a cs sp item) n) (drop n run) ∙ omega (arith, length-listed (record_of a cs sp item) n, length-drop n run)

  pub filled_next : (i : ℕ) (run : List GridTrack) → i < length run → set (filled_to a cs sp item i run) i (record_of a cs sp item i) ≡ filled_to a cs sp item (i + 1) run
  filled_next i run h =
      rw (add-one, drop-cons run i (record_of a cs sp item i))
      (set_at (listed (record_of a cs sp item) i) (get_or run i (record_of a cs sp item i)) (drop (suc i) run) (record_of a cs sp item i) i (length-listed (record_of a cs sp item) i)
      ∙ sym (append_assoc (listed (record_of a cs sp item) i) (record_of a cs sp item i ∷ []) (drop (suc i) run)))

-- a refusal has count 0 beside it
pub refused-none : (n : ℕ) → (refused_fill n).count ≡ 0
refused-none n = refl

-- a refused call leaves the run
pub refused-run : (a : AxisTracks) (cs : List Component) (sp : List MinMax) (items : List ℕ) (run : List GridTrack) (fault : Fault) →
    answered_fill (Err fault) ≡ fill_answer_of a (length run) (length items) → run ≡ run_after a cs sp items run
unfolding fill_answer_of run_after
refused-run a cs sp items run fault e = go (eqb (axis_refusal a) 0) (ltb (length run) (records_in a)) (ltb (length items) (tracks_in a)) e
  where
    go : (w x y : Bool) →
        answered_fill (Err fault) ≡ cond w (cond x (refused_fill short) (cond y (refused_fill short) (record { refusal = no_refusal; count = records_in a }))) (refused_fill (axis_refusal a)) →
        run ≡ cond w (cond x run (cond y run (records_of a cs sp items ++ drop (records_in a) run))) run
    go false x y e = refl
    go true true y e = refl
    go true false true e = refl
    go true false false e = absurd (fault_some fault (ap (λ (u : FillAnswer). u.refusal.number) e))

-- the part that is written, before the rest of the run
pub filled-part : (a : AxisTracks) (cs : List Component) (sp : List MinMax) (item : ℕ → Bool) (n : ℕ) (run : List GridTrack) → n ≤ length run →
    filled_to a cs sp item n (take n run) ++ drop n run ≡ filled_to a cs sp item n run
filled-part a cs sp item n run h =
    append_assoc (listed (record_of a cs sp item) n) (drop n (take n run)) (drop n run)
    ∙ ap (λ (l : List GridTrack). listed (record_of a cs sp item) n ++ (l ++ drop n run)) (drop_of_length-le (take n run) {i = n} (omega (arith, length-take-le n run h)))

-- a count is within the run that is lent
pub count-within : (a : AxisTracks) (lent items : ℕ) → fill_count a lent items ≤ lent
unfolding fill_count
count-within a lent items = within-if (eqb (axis_refusal a) 0) (ltb lent (records_in a)) (ltb items (tracks_in a)) (λ e. ltb-false lent (records_in a) e)
  where
    within-if : (w x y : Bool) → (x ≡ false → records_in a ≤ lent) → cond w (cond x 0 (cond y 0 (records_in a))) 0 ≤ lent
    within-if false x y h = omega arith
    within-if true true y h = omega arith
    within-if true false true h = omega arith
    within-if true false false h = h refl

module _ (a : AxisTracks) (cs : List Component) (sp : List MinMax) (items : List ℕ) where
  listed-records : listed (record_of a cs sp (item_at items)) (records_in a) ≡ records_of a cs sp items
  unfolding records_of
  listed-records = listed_same (record_of a cs sp (item_at items)) (record_in (all_tracks a cs sp) (item_at items) a.gap) (records_in a) (λ i h. sym (record_same a cs sp (item_at items) i h))

  -- the loop leaves the run that the call promises
  pub filled-run : (run : List GridTrack) → filled_to a cs sp (item_at items) (fill_count a (length run) (length items)) run ≡ run_after a cs sp items run
  unfolding fill_count run_after
  filled-run run = go (eqb (axis_refusal a) 0) (ltb (length run) (records_in a)) (ltb (length items) (tracks_in a))
    where
      go : (w x y : Bool) → listed (record_of a cs sp (item_at items)) (cond w (cond x 0 (cond y 0 (records_in a))) 0) ++ drop (cond w (cond x 0 (cond y 0 (records_in a))) 0) run
          ≡ cond w (cond x run (cond y run (records_of a cs sp items ++ drop (records_in a) run))) run
      go false x y = refl
      go true true y = refl
      go true false true = refl
      go true false false = ap (λ (l : List GridTrack). l ++ drop (records_in a) run) listed-records

  -- where it is accepted, the records of the axis and then the rest of the run
  pub run-accepted : (run : List GridTrack) → axis_refusal a ≡ 0 → records_in a ≤ length run → tracks_in a ≤ length items → run_after a cs sp items run ≡ records_of a cs sp items ++ drop (records_in a) run
  unfolding run_after
  run-accepted run z h k = rw (eq-eqb (axis_refusal a) 0 z, le-ltb (length run) (records_in a) h, le-ltb (length items) (tracks_in a) k)

  -- the third demand's track claim, of the lent run after the call
  pub run-line-record : (run : List GridTrack) → axis_refusal a ≡ 0 → records_in a ≤ length run → tracks_in a ≤ length items → (j : ℕ) (d : GridTrack) →
      1 ≤ j → j ≤ length (written_out cs a.repetitions) → length (written_out cs a.repetitions) ≤ explicit_of a →
      Stands (get_or (written_out cs a.repetitions) (j - 1) no_track) (get_or items (negative_of a + j - 1) 0) (get_or (run_after a cs sp items run) (2 * (negative_of a + j) - 1) d)
  run-line-record run z h k j d one low fits =
      let i = 2 * (negative_of a + j) - 1 in
      let in_list : i < length (records_of a cs sp items) = omega (arith, records-length a cs sp items) in
      let e : get_or (run_after a cs sp items run) i d ≡ get_or (records_of a cs sp items) i d =
      ap (λ (l : List GridTrack). get_or l i d) (run-accepted run z h k) ∙ get_or-append (records_of a cs sp items) (drop (records_in a) run) d i in_list in
      rw e (line_record a cs sp items j d one low fits)

-- an array of zero records
pub zero-run : (n : ℕ) (r : GridTrack) → r ≡ zero_grid_track → replicate n r ≡ zero_records n
unfolding zero_records
zero-run n r e = ap (replicate n) e
