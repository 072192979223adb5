-- The list of records, their sources left out, is what `initialize_grid_tracks` of the Rust makes, for every input, invalid templates beside areas included. Assumes nothing.
use Prim.Native.Nat.{ℕ, zero, suc, ◌+◌, ◌*◌, ◌-◌, ◌/◌, ◌%◌, ◌≤◌, ◌<◌, min}
use native.Mathlib.Omega.{arith}
use native.Mathlib.Nat.{mul_comm, mul-zero, mod-lt}
use mathlib.Core.Path.{◌≡◌, refl, sym, ap, ◌∙◌}
use mathlib.Core.Logic.{⊎_elim}
use mathlib.Core.Bool.{Bool, true, false, ◌&&◌, ◌||◌}
use mathlib.Core.List.{List, [], ◌∷◌, map}
use lib.Dec.{leb, eqb}
use lib.ListN.{length, get_or}
use borrow.Author.Tests.{lt-ltb, le-ltb, eq-eqb, ne_eqb}
use Rattle.std.proofs.lemmas.Bool.{cases_lt}
use Rattle.sizing.specs.declared.MinMax.{MinMax}
use Rattle.sizing.specs.declared.Sizing.{Sizing}
use Rattle.template_rules.specs.Template.{Component}
use Rattle.template_rules.specs.declared.RepetitionCount.{RepetitionCount}
use Rattle.template_rules.specs.declared.RepetitionCount.TheVariants.{Single, Count, AutoFill, AutoFit}
use Rattle.track_rules.specs.declared.WrittenTrack.{WrittenTrack}
use Rattle.track_rules.specs.declared.AxisTracks.{AxisTracks}
use Rattle.track_rules.specs.Tracks.{auto_size, gutter_of, track_of}
use Rattle.track_rules.specs.Written.{repeats_of, written, written_out}
use Rattle.track_rules.specs.Records.{listed, negative_of, explicit_of, positive_of, tracks_in, records_in, spare_at, all_tracks, no_track, item_at, closed_by, open_to, record_in, records_of}
use Rattle.track_rules.specs.Steps.{total_of, totals_of, sum_of, cursor_of, written_in, written_at, track_at, closed_at, plan_of, pair_with, record_of}
use Rattle.track_rules.specs.Rust.{RustTrack, bare, rust_gutter, rust_track, pushes, never, cycled, State, limit, room, plain_step, step, steps, negative_part, explicit_part, positive_part, close_first, close_last, in_order, initialize_grid_tracks}
use Rattle.track_rules.proofs.Lists.{listed_same, map-listed, get-map}
use Rattle.track_rules.proofs.Cursors.{sum_nil, sum_cons, written_at_lem, written_head, written_tail}
use Rattle.track_rules.proofs.Opened.{gutter-late}
use Rattle.track_rules.proofs.AllTracks.{count_in, track-negative, track-explicit, track-past, closed-negative, closed-past}
use Rattle.track_rules.proofs.RecordList.{plan-opened, record-later, record_first, record_same}
use Rattle.track_rules.proofs.Raw.{or_true, or-none, raw, shown, raw-push, raw-first, raw-last, raw-order}
use Rattle.track_rules.proofs.Between.{mixed, size_by, closed_for, Good, no, plain-good, fit-good}

-- a component's count as a product either way
room-swap : (x y k : ℕ) → min (x * y) k ≡ min (y * x) k
room-swap x y k = ap (λ (v : ℕ). min v k) (mul_comm x y)

-- track i of a component, by the cycle of its sizes
written-cycled : (r : ℕ) (c : Component) (i : ℕ) → i < total_of r c → written_in c i ≡ written c.count (cycled c.tracks i)
written-cycled r c i h =
    let pos : 0 < length c.tracks = ⊎_elim
    (λ (k : length c.tracks < 1).
    let z : length c.tracks ≡ 0 = omega arith in
    absurd (omega (arith, mul-zero (repeats_of r c.count), ap (λ (n : ℕ). repeats_of r c.count * n) z)))
    (λ (k : 1 ≤ length c.tracks). k)
    (cases_lt (length c.tracks) 1) in
    get-map (written c.count) c.tracks (i % length c.tracks) no_track auto_size (mod-lt i pos)

module _ (a : AxisTracks) (item : ℕ → Bool) (T : ℕ → WrittenTrack) where
  -- what a step has to know of its tracks
  abbrev Writes : Component → RepetitionCount → ℕ → ℕ → Type 0
  Writes c count n at = (i : ℕ) → i < n → T (at + i) ≡ written count (cycled c.tracks i)

  abbrev wanted : Component → State → ℕ
  wanted c s = min (total_of a.repetitions c) (limit a - s.at)

  abbrev Stepped : Component → State → State → Type 0
  Stepped c s r = (b : Bool) × Good a item T r b × (r.at ≡ s.at + wanted c s)

  room-wanted : (c : Component) (count : RepetitionCount) → c.count ≡ count → (s : State) → room a c (repeats_of a.repetitions count) s ≡ wanted c s
  room-wanted c count e s =
      room-swap (length c.tracks) (repeats_of a.repetitions count) (limit a - s.at)
      ∙ ap (λ (x : RepetitionCount). min (repeats_of a.repetitions x * length c.tracks) (limit a - s.at)) (sym e)

  plain_step_lem : (c : Component) (k : ℕ) (s : State) (b : Bool) → Good a item T s b → room a c k s ≡ wanted c s →
      ((i : ℕ) → i < wanted c s → cycled c.tracks i ≡ size_by T (s.at + i)) → ((i : ℕ) → i < wanted c s → false ≡ closed_for item T (s.at + i)) → Stepped c s (plain_step a c k s)
  plain_step_lem c k s b g q v w =
      (b, plain-good a item T s b g (cycled c.tracks) (room a c k s) (omega arith) (λ i h. v i (omega arith)) (λ i h. w i (omega arith)), ap (λ (m : ℕ). s.at + m) q)

  step-good : (c : Component) (count : RepetitionCount) → c.count ≡ count → (s : State) (b : Bool) → Good a item T s b → Writes c count (wanted c s) s.at → Stepped c s (step a item c count s)
  step-good c Single e s b g w =
      plain_step_lem c 1 s b g (room-wanted c Single e s) (λ i h. ap (λ (x : WrittenTrack). x.size) (sym (w i h))) (λ i h. ap (λ (x : WrittenTrack). closed_by item x (s.at + i)) (sym (w i h)))
  step-good c (Count k) e s b g w =
      plain_step_lem c k s b g (room-wanted c (Count k) e s) (λ i h. ap (λ (x : WrittenTrack). x.size) (sym (w i h))) (λ i h. ap (λ (x : WrittenTrack). closed_by item x (s.at + i)) (sym (w i h)))
  step-good c AutoFill e s b g w =
      plain_step_lem c a.repetitions s b g (room-wanted c AutoFill e s) (λ i h. ap (λ (x : WrittenTrack). x.size) (sym (w i h))) (λ i h. ap (λ (x : WrittenTrack). closed_by item x (s.at + i)) (sym (w i h)))
  step-good c AutoFit e s b g w =
      let n = room a c a.repetitions s in
      let q : n ≡ wanted c s = room-wanted c AutoFit e s in
      let v : (i : ℕ) → i < n → T (s.at + i) ≡ written AutoFit (cycled c.tracks i) = λ i h. w i (omega arith) in
      (eqb (s.at + n) (tracks_in a), fit-good a item T s b g (cycled c.tracks) n (omega arith) (λ i h. ap (λ (x : WrittenTrack). x.size) (sym (v i h))) (λ i h. ap (λ (x : WrittenTrack). closed_by item x (s.at + i)) (sym (v i h))), ap (λ (m : ℕ). s.at + m) q)

  abbrev Holds : List Component → ℕ → Type 0
  Holds cs at = (i : ℕ) → i < min (sum_of (totals_of a.repetitions cs)) (limit a - at) → T (at + i) ≡ get_or (written_out cs a.repetitions) i no_track

  first_step : (c : Component) (cs : List Component) (s : State) (b : Bool) → Good a item T s b → Holds (c ∷ cs) s.at → Stepped c s (step a item c c.count s)
  first_step c cs s b g h =
      let r = a.repetitions in
      let sum : sum_of (totals_of r (c ∷ cs)) ≡ total_of r c + sum_of (totals_of r cs) = sum_cons r c cs in
      step-good c c.count refl s b g (λ i k. h i (omega arith) ∙ written_head r c cs i (omega arith) ∙ written-cycled r c i (omega arith))

  rest-holds : (c : Component) (cs : List Component) (at at₂ : ℕ) → at₂ ≡ at + min (total_of a.repetitions c) (limit a - at) → Holds (c ∷ cs) at → Holds cs at₂
  rest-holds c cs at at₂ e h i k =
      let r = a.repetitions in
      let sum : sum_of (totals_of r (c ∷ cs)) ≡ total_of r c + sum_of (totals_of r cs) = sum_cons r c cs in
      let full : min (total_of r c) (limit a - at) ≡ total_of r c = omega arith in
      let x : at₂ + i ≡ at + (total_of r c + i) = omega arith in
      let y : total_of r c + i - total_of r c ≡ i = omega arith in
      ap T x ∙ h (total_of r c + i) (omega arith) ∙ written_tail r c cs (total_of r c + i) (omega arith) ∙ ap (λ (j : ℕ). get_or (written_out cs r) j no_track) y

  sum-up : (c : Component) (cs : List Component) (at at₂ end : ℕ) → at₂ ≡ at + min (total_of a.repetitions c) (limit a - at) →
      end ≡ at₂ + min (sum_of (totals_of a.repetitions cs)) (limit a - at₂) → end ≡ at + min (sum_of (totals_of a.repetitions (c ∷ cs))) (limit a - at)
  sum-up c cs at at₂ end e f = omega (arith, sum_cons a.repetitions c cs)

  abbrev Ended : List Component → State → ℕ → Type 0
  Ended cs s end = (d : Bool) × Good a item T (steps a item cs s) d × ((steps a item cs s).at ≡ end)

  abbrev end_of : List Component → ℕ → ℕ
  end_of cs at = at + min (sum_of (totals_of a.repetitions cs)) (limit a - at)

  go_on : (c : Component) (cs : List Component) (s s₂ : State) → Holds (c ∷ cs) s.at → Stepped c s s₂ →
      ((b : Bool) → Good a item T s₂ b → Holds cs s₂.at → Ended cs s₂ (end_of cs s₂.at)) → Ended cs s₂ (end_of (c ∷ cs) s.at)
  go_on c cs s s₂ h one rec =
      let rest = rec one.0 one.1 (rest-holds c cs s.at s₂.at one.2 h) in
      (rest.0, rest.1, sum-up c cs s.at s₂.at (steps a item cs s₂).at one.2 rest.2)

  steps-good : (cs : List Component) (s : State) (b : Bool) → Good a item T s b → Holds cs s.at → Ended cs s (end_of cs s.at)
  unfolding steps
  steps-good [] s b g h = (b, g, omega (arith, sum_nil a.repetitions))
  steps-good (c ∷ cs) s b g h = go_on c cs s (step a item c c.count s) h (first_step c cs s b g h) (λ d x y. steps-good cs (step a item c c.count s) d x y)

-- a record of the Rust is one of ours without its source
bare-gutter : (gap : Sizing) (b : Bool) → rust_gutter gap b ≡ bare (gutter_of gap b)
bare-gutter gap true = refl
bare-gutter gap false = refl

bare-track : (x : WrittenTrack) (b : Bool) → rust_track x.size b ≡ bare (track_of x b)
bare-track x true = refl
bare-track x false = refl

or_shift : (x y z : Bool) → (x || (false || (y || z))) ≡ (x || y || z)
or_shift true y z = refl
or_shift false true z = refl
or_shift false false z = refl

module _ (a : AxisTracks) (cs : List Component) (sp : List MinMax) (item : ℕ → Bool) where
  abbrev T : ℕ → WrittenTrack
  T t = track_at a cs sp t

  abbrev F : ℕ → Bool
  F t = closed_at a cs sp item t

  abbrev before : ℕ
  before = negative_of a + count_in a cs

  abbrev opened : ℕ
  opened = (plan_of a cs item).opened

  size-past : (i : ℕ) → (T (before + i)).size ≡ spare_at sp i
  size-past i =
      ap (λ (x : WrittenTrack). x.size) (track-past a cs sp item (before + i) (omega arith))
      ∙ ap (spare_at sp) (let e : negative_of a + count_in a cs + i - (negative_of a + count_in a cs) ≡ i = omega arith in e)

  first_good : Good a item T (negative_part a sp) false
  first_good =
      record {
        made_so =
            raw-push a.gap (size_by T) F (mixed F (tracks_in a) false) (λ i. cycled sp (length sp - negative_of a % length sp + i)) never 0 (negative_of a)
            (λ i h. let z : 0 + i ≡ i = omega arith in rw z (ap (λ (x : WrittenTrack). x.size) (sym (track-negative a cs sp item i h))))
            (λ i h. let z : 0 + i ≡ i = omega arith in rw z (sym (closed-negative a cs sp item i h)))
            (λ i h. or-none (F (0 + i)))
            ∙ ap (raw a.gap (size_by T) F (mixed F (tracks_in a) false)) (let z : 0 + negative_of a ≡ negative_of a = omega arith in z);
        within = omega arith;
        ended = λ e. no (sym e);
        last = λ e k pos. closed-negative a cs sp item (tracks_in a - 1) (omega arith);
      }

  explicit-good : (d : Bool) × Good a item T (explicit_part a cs item (negative_part a sp)) d × ((explicit_part a cs item (negative_part a sp)).at ≡ before)
  explicit-good =
      ⊎_elim
      (λ (h : 0 < explicit_of a).
      let r = steps-good a item T cs (negative_part a sp) false first_good
      (λ i k.
      let z : negative_of a + i - negative_of a ≡ i = omega arith in
      track-explicit a cs sp item (negative_of a + i) (omega arith) (omega arith)
      ∙ ap (λ (o : ℕ). written_at cs (cursor_of (totals_of a.repetitions cs) o)) z
      ∙ sym (written_at_lem cs a.repetitions i (omega arith))) in
      rw (lt-ltb 0 (explicit_of a) h) (r.0, r.1, omega (arith, r.2)))
      (λ (h : explicit_of a ≤ 0). rw (le-ltb 0 (explicit_of a) h) (false, first_good, omega arith))
      (cases_lt 0 (explicit_of a))

  abbrev closing : Bool → ℕ → Bool
  closing d g = eqb g (tracks_in a) || (eqb g 0 || mixed F (tracks_in a) d g)

  model-list : (s : State) (d : Bool) → Good a item T s d → s.at ≡ before →
      in_order (close_last (close_first (positive_part a sp s))) ≡ listed (shown a.gap (size_by T) F (closing d)) (records_in a)
  model-list s d g e =
      let k = positive_of a + (negative_of a + explicit_of a - s.at) in
      let all : s.at + k ≡ tracks_in a = omega (arith, g.within) in
      let pushed : positive_part a sp s ≡ raw a.gap (size_by T) F (mixed F (tracks_in a) d) (tracks_in a) =
      ap (pushes a.gap (cycled sp) never k) g.made_so
      ∙ raw-push a.gap (size_by T) F (mixed F (tracks_in a) d) (cycled sp) never s.at k
      (λ i h. rw e (sym (size-past i)))
      (λ i h. sym (closed-past a cs sp item (s.at + i) (omega arith)))
      (λ i h. flag d g.ended g.within i h)
      ∙ ap (raw a.gap (size_by T) F (mixed F (tracks_in a) d)) all in
      ap (λ (l : List RustTrack). in_order (close_last (close_first l))) pushed
      ∙ ap (λ (l : List RustTrack). in_order (close_last l)) (raw-first a.gap (size_by T) F (mixed F (tracks_in a) d) (tracks_in a))
      ∙ ap in_order (raw-last a.gap (size_by T) F (λ x. eqb x 0 || mixed F (tracks_in a) d x) (tracks_in a))
      ∙ raw-order a.gap (size_by T) F (closing d) (tracks_in a)
    where
      flag : (b : Bool) → (b ≡ true → s.at ≡ tracks_in a) → s.at ≤ limit a → (i : ℕ) → i < positive_of a + (negative_of a + explicit_of a - s.at) → mixed F (tracks_in a) b (suc (s.at + i)) ≡ F (s.at + i)
      flag true q w i h = absurd (omega (arith, q refl))
      flag false q w i h = or-none (F (s.at + i))

  closing-late : (s : State) (d : Bool) → Good a item T s d → s.at ≡ before → (t : ℕ) → t < tracks_in a → closing d (suc t) ≡ (F t || leb opened (suc t))
  closing-late s d g e t h =
      ap (λ (b : Bool). eqb (suc t) (tracks_in a) || (b || (F t || (d && leb (open_to F (tracks_in a)) (suc t))))) (ne_eqb (suc t) 0 (λ z. omega arith))
      ∙ or_shift (eqb (suc t) (tracks_in a)) (F t) (d && leb (open_to F (tracks_in a)) (suc t))
      ∙ gutter-late F (tracks_in a) t d h
      (λ q. ⊎_elim
      (λ (k : s.at < tracks_in a). closed-past a cs sp item (tracks_in a - 1) (omega arith))
      (λ (k : tracks_in a ≤ s.at). g.last q (omega (arith, g.within)) (omega arith))
      (cases_lt s.at (tracks_in a)))
      ∙ ap (λ (o : ℕ). F t || leb o (suc t)) (sym (plan-opened a cs sp item))

  shown-record : (s : State) (d : Bool) → Good a item T s d → s.at ≡ before → (i : ℕ) → i < records_in a → shown a.gap (size_by T) F (closing d) i ≡ bare (record_of a cs sp item i)
  shown-record s d g e zero h = ap (rust_gutter a.gap) (or_true (eqb 0 (tracks_in a))) ∙ ap bare (sym (record_first a cs sp item))
  shown-record s d g e (suc i) h =
      let o = leb opened (suc i / 2) in
      ⊎_elim
      (λ (k : suc i % 2 < 1).
      let z : suc i % 2 ≡ 0 = omega arith in
      let q : suc i / 2 ≡ suc (i / 2) = omega arith in
      let x : shown a.gap (size_by T) F (closing d) (suc i) ≡ rust_gutter a.gap (closing d (suc (i / 2))) = rw (eq-eqb (suc i % 2) 0 z, q) in
      let y : pair_with a.gap (eqb (suc i % 2) 0) (T (i / 2)) (F (i / 2)) o ≡ gutter_of a.gap (F (i / 2) || leb opened (suc (i / 2))) = rw (eq-eqb (suc i % 2) 0 z, q) in
      x ∙ ap (rust_gutter a.gap) (closing-late s d g e (i / 2) (omega arith)) ∙ bare-gutter a.gap (F (i / 2) || leb opened (suc (i / 2))) ∙ ap bare (sym (record-later a cs sp item i ∙ y)))
      (λ (k : 1 ≤ suc i % 2).
      let q : suc i / 2 ≡ i / 2 = omega arith in
      let x : shown a.gap (size_by T) F (closing d) (suc i) ≡ rust_track (size_by T (i / 2)) (F (i / 2)) = rw (ne_eqb (suc i % 2) 0 (λ z. omega arith), q) in
      let y : pair_with a.gap (eqb (suc i % 2) 0) (T (i / 2)) (F (i / 2)) o ≡ track_of (T (i / 2)) (F (i / 2)) = rw (ne_eqb (suc i % 2) 0 (λ z. omega arith)) in
      x ∙ bare-track (T (i / 2)) (F (i / 2)) ∙ ap bare (sym (record-later a cs sp item i ∙ y)))
      (cases_lt (suc i % 2) 1)

-- the list of records, their sources left out, is what the Rust makes
pub rust_records : (a : AxisTracks) (cs : List Component) (sp : List MinMax) (items : List ℕ) → initialize_grid_tracks a cs sp (item_at items) ≡ map bare (records_of a cs sp items)
unfolding initialize_grid_tracks records_of
rust_records a cs sp items =
    let item = item_at items in
    let r = explicit-good a cs sp item in
    let s = explicit_part a cs item (negative_part a sp) in
    model-list a cs sp item s r.0 r.1 r.2
    ∙ listed_same (shown a.gap (size_by (T a cs sp item)) (F a cs sp item) (closing a cs sp item r.0)) (λ i. bare (record_in (all_tracks a cs sp) item a.gap i)) (records_in a)
    (λ i h. shown-record a cs sp item s r.0 r.1 r.2 i h ∙ ap bare (sym (record_same a cs sp item i h)))
    ∙ sym (map-listed bare (record_in (all_tracks a cs sp) item a.gap) (records_in a))
