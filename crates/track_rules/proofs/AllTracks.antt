-- The list of an axis's tracks by its elements, and which of them are open. Assumes nothing.
use Prim.Native.Nat.{ℕ, ◌+◌, ◌-◌, ◌≤◌, ◌<◌, min}
use native.Mathlib.Omega.{arith}
use mathlib.Core.Path.{◌≡◌, sym, ap, ap₂, ◌∙◌}
use mathlib.Core.Logic.{⊎_elim}
use mathlib.Core.Bool.{Bool, false, cond}
use mathlib.Core.List.{List, [], ◌++◌}
use lib.Dec.{ltb}
use lib.ListN.{length, get_or, length-append, length-take, get_or-append}
use lib.Seq.{get_or-take}
use borrow.Author.Tests.{lt-ltb, le-ltb}
use Rattle.std.proofs.lemmas.Bool.{cases_lt}
use Rattle.sizing.specs.declared.MinMax.{MinMax}
use Rattle.template_rules.specs.Template.{Component}
use Rattle.track_rules.specs.declared.WrittenTrack.{WrittenTrack}
use Rattle.track_rules.specs.declared.TrackSource.TheVariants.{Area, Positive}
use Rattle.track_rules.specs.declared.AxisTracks.{AxisTracks}
use Rattle.track_rules.specs.declared.Plan.{Plan}
use Rattle.track_rules.specs.Written.{written_out}
use Rattle.track_rules.specs.Records.{listed, negative_of, explicit_of, positive_of, tracks_in, implicit, spare_at, negative_at, explicit_tracks, area_count, positive_run, all_tracks, no_track, closed_by, open_to}
use Rattle.track_rules.specs.Steps.{totals_of, sum_of, written_at, written_count, cursor_at, track_at, closed_at, plan_of}
use Rattle.track_rules.proofs.Lists.{length-listed, get-listed, get-past}
use Rattle.track_rules.proofs.Cursors.{length-written, written_at_lem}
use Rattle.track_rules.proofs.Opened.{open_whole}

-- how many explicit tracks the template writes
abbrev pub count_in : AxisTracks → List Component → ℕ
count_in a cs = written_count a (totals_of a.repetitions cs)

abbrev pub plan_with : ℕ → ℕ → Plan
plan_with w o = record { written = w; opened = o }

two_lengths : {A : Type 0} (f g : ℕ → A) (n m : ℕ) → length (listed f n ++ listed g m) ≡ n + m
two_lengths f g n m = length-append (listed f n) (listed g m) ∙ omega (arith, length-listed f n, length-listed g m)

module _ (a : AxisTracks) (cs : List Component) (sp : List MinMax) where
  pub length-explicit : length (explicit_tracks a cs sp) ≡ count_in a cs
  length-explicit = length-take (explicit_of a) (written_out cs a.repetitions) ∙ ap (λ (n : ℕ). min (explicit_of a) n) (length-written cs a.repetitions)

  length_run : length (positive_run a cs sp) ≡ explicit_of a - count_in a cs + positive_of a
  length_run = two_lengths _ _ (area_count a cs sp) (positive_of a) ∙ ap (λ (k : ℕ). explicit_of a - k + positive_of a) length-explicit

  pub length-all : length (all_tracks a cs sp) ≡ tracks_in a
  unfolding all_tracks
  length-all =
      let m = listed (negative_at sp (negative_of a)) (negative_of a) in
      let e = explicit_tracks a cs sp in
      let p = positive_run a cs sp in
      omega (arith, length-append m (e ++ p), length-append e p, length-listed (negative_at sp (negative_of a)) (negative_of a), length-explicit, length_run)

  -- track i of the positive run
  get-run : (i : ℕ) → i < explicit_of a - count_in a cs + positive_of a →
      get_or (positive_run a cs sp) i no_track ≡ implicit (cond (ltb i (explicit_of a - count_in a cs)) Area Positive) (spare_at sp i)
  get-run i h =
      let n = area_count a cs sp in
      let en : n ≡ explicit_of a - count_in a cs = ap (λ (k : ℕ). explicit_of a - k) length-explicit in
      let f : ℕ → WrittenTrack = λ j. implicit Area (spare_at sp j) in
      let g : ℕ → WrittenTrack = λ j. implicit Positive (spare_at sp (n + j)) in
      let lf = length-listed f n in
      rw (sym en)
      (⊎_elim
      (λ (k : i < n).
      let k₂ : i < length (listed f n) = omega arith in
      rw (lt-ltb i n k) (get_or-append (listed f n) (listed g (positive_of a)) no_track i k₂ ∙ get-listed f n i no_track k))
      (λ (k : n ≤ i).
      let k₂ : length (listed f n) ≤ i = omega arith in
      let s : i - length (listed f n) ≡ i - n = ap (λ (j : ℕ). i - j) lf in
      let s₂ : n + (i - n) ≡ i = omega arith in
      rw (le-ltb i n k)
      (get-past (listed f n) (listed g (positive_of a)) i no_track k₂ ∙ ap (λ (j : ℕ). get_or (listed g (positive_of a)) j no_track) s
      ∙ get-listed g (positive_of a) (i - n) no_track (omega arith) ∙ ap (λ (j : ℕ). implicit Positive (spare_at sp j)) s₂))
      (cases_lt i n))

  -- track t of the list is the track that the rule gives for t
  pub get-all : (t : ℕ) → t < tracks_in a → get_or (all_tracks a cs sp) t no_track ≡ track_at a cs sp t
  unfolding all_tracks track_at
  get-all t h =
      let m = listed (negative_at sp (negative_of a)) (negative_of a) in
      let lm : length m ≡ negative_of a = length-listed (negative_at sp (negative_of a)) (negative_of a) in
      let e = explicit_tracks a cs sp in
      let le : length e ≡ count_in a cs = length-explicit in
      let p = positive_run a cs sp in
      let n = negative_of a + count_in a cs in
      ⊎_elim
      (λ (k : t < negative_of a).
      let g : t < length m = omega arith in
      get_or-append m (e ++ p) no_track t g ∙ get-listed (negative_at sp (negative_of a)) (negative_of a) t no_track k ∙ rw (lt-ltb t (negative_of a) k))
      (λ (k : negative_of a ≤ t).
      let g : length m ≤ t = omega arith in
      let s : t - length m ≡ t - negative_of a = ap (λ (j : ℕ). t - j) lm in
      rw (le-ltb t (negative_of a) k)
      (get-past m (e ++ p) t no_track g ∙ ap (λ (j : ℕ). get_or (e ++ p) j no_track) s
      ∙ ⊎_elim
      (λ (j : t < n).
      let g₁ : t - negative_of a < length e = omega arith in
      let g₂ : t - negative_of a < explicit_of a = omega arith in
      let g₃ : t - negative_of a < sum_of (totals_of a.repetitions cs) = omega arith in
      rw (lt-ltb t n j)
      (get_or-append e p no_track (t - negative_of a) g₁
      ∙ get_or-take (explicit_of a) (written_out cs a.repetitions) (t - negative_of a) no_track g₂
      ∙ written_at_lem cs a.repetitions (t - negative_of a) g₃))
      (λ (j : n ≤ t).
      let g₁ : length e ≤ t - negative_of a = omega arith in
      let s₂ : t - negative_of a - length e ≡ t - n = omega arith in
      rw (le-ltb t n j)
      (get-past e p (t - negative_of a) no_track g₁ ∙ ap (λ (i : ℕ). get_or p i no_track) s₂
      ∙ get-run (t - n) (omega arith)
      ∙ ap (λ (b : Bool). implicit (cond b Area Positive) (spare_at sp (t - n))) (same_test j)))
      (cases_lt t n)))
      (cases_lt t (negative_of a))
    where
      same_test : negative_of a + count_in a cs ≤ t → ltb (t - (negative_of a + count_in a cs)) (explicit_of a - count_in a cs) ≡ ltb t (negative_of a + explicit_of a)
      same_test h =
          ⊎_elim
          (λ (k : t < negative_of a + explicit_of a). lt-ltb (t - (negative_of a + count_in a cs)) (explicit_of a - count_in a cs) (omega arith) ∙ sym (lt-ltb t (negative_of a + explicit_of a) k))
          (λ (k : negative_of a + explicit_of a ≤ t). le-ltb (t - (negative_of a + count_in a cs)) (explicit_of a - count_in a cs) (omega arith) ∙ sym (le-ltb t (negative_of a + explicit_of a) k))
          (cases_lt t (negative_of a + explicit_of a))

module _ (a : AxisTracks) (cs : List Component) (sp : List MinMax) (item : ℕ → Bool) where
  -- the tracks before and after those of the template are open
  pub track-negative : (t : ℕ) → t < negative_of a → track_at a cs sp t ≡ negative_at sp (negative_of a) t
  unfolding track_at
  track-negative t h = rw (lt-ltb t (negative_of a) h)

  pub track-explicit : (t : ℕ) → negative_of a ≤ t → t < negative_of a + count_in a cs → track_at a cs sp t ≡ written_at cs (cursor_at a (totals_of a.repetitions cs) t)
  unfolding track_at
  track-explicit t h k = rw (le-ltb t (negative_of a) h, lt-ltb t (negative_of a + count_in a cs) k)

  pub track-past : (t : ℕ) → negative_of a + count_in a cs ≤ t →
      track_at a cs sp t ≡ implicit (cond (ltb t (negative_of a + explicit_of a)) Area Positive) (spare_at sp (t - (negative_of a + count_in a cs)))
  unfolding track_at
  track-past t h = rw (le-ltb t (negative_of a) (omega arith), le-ltb t (negative_of a + count_in a cs) h)

  pub closed-negative : (t : ℕ) → t < negative_of a → closed_at a cs sp item t ≡ false
  closed-negative t h = ap (λ (x : WrittenTrack). closed_by item x t) (track-negative t h)

  pub closed-past : (t : ℕ) → negative_of a + count_in a cs ≤ t → closed_at a cs sp item t ≡ false
  closed-past t h = ap (λ (x : WrittenTrack). closed_by item x t) (track-past t h)

  pub closed-explicit : (t : ℕ) → negative_of a ≤ t → t < negative_of a + count_in a cs → closed_at a cs sp item t ≡ closed_by item (written_at cs (cursor_at a (totals_of a.repetitions cs) t)) t
  closed-explicit t h k = ap (λ (x : WrittenTrack). closed_by item x t) (track-explicit t h k)

  pub open-negative : open_to (closed_at a cs sp item) (negative_of a) ≡ negative_of a
  open-negative = open_whole (closed_at a cs sp item) (negative_of a) (λ h. closed-negative (negative_of a - 1) (omega arith))

  -- where a track follows those of the template, the last one is open
  pub open-past : negative_of a + count_in a cs < tracks_in a → open_to (closed_at a cs sp item) (tracks_in a) ≡ tracks_in a
  open-past h = open_whole (closed_at a cs sp item) (tracks_in a) (λ k. closed-past (tracks_in a - 1) (omega arith))

-- a plan from its parts
pub plan_of_lem : (a : AxisTracks) (cs : List Component) (item : ℕ → Bool) (w o : ℕ) → w ≡ count_in a cs → o ≡ open_to (closed_at a cs [] item) (tracks_in a) → plan_with w o ≡ plan_of a cs item
unfolding plan_of
plan_of_lem a cs item w o e f = ap₂ plan_with e f

-- which tracks are open does not hang on the spare sizes
pub closed_any : (a : AxisTracks) (cs : List Component) (sp sp₂ : List MinMax) (item : ℕ → Bool) (t : ℕ) → closed_at a cs sp item t ≡ closed_at a cs sp₂ item t
closed_any a cs sp sp₂ item t =
    ⊎_elim
    (λ (h : t < negative_of a). closed-negative a cs sp item t h ∙ sym (closed-negative a cs sp₂ item t h))
    (λ (h : negative_of a ≤ t).
    ⊎_elim
    (λ (k : t < negative_of a + count_in a cs). closed-explicit a cs sp item t h k ∙ sym (closed-explicit a cs sp₂ item t h k))
    (λ (k : negative_of a + count_in a cs ≤ t). closed-past a cs sp item t k ∙ sym (closed-past a cs sp₂ item t k))
    (cases_lt t (negative_of a + count_in a cs)))
    (cases_lt t (negative_of a))
