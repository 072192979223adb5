-- State and tables follow the view: an operation on those of a view leaves those of the view after the record, with its fault.
-- `Fits` keeps the guards of the code that no sheet can reach from firing.
use Prim.Native.Nat.{ℕ, zero, suc, ◌+◌, ◌<◌}
use mathlib.Core.Path.{◌≡◌, refl, sym, ap}
use mathlib.Core.List.{List, [], ◌∷◌, ◌++◌}
use mathlib.Core.Bool.{Bool, true, false}
use native.Mathlib.Omega.{arith}
use lib.Dec.{eqb, ltb}
use lib.ListN.{length, replicate, length-append}
use borrow.Author.Tests.{ltb-false, le-ltb, ne_eqb}
use Rattle.axis_tables.specs.Runs.{bytes_of}
use Rattle.axis_tables.specs.View.{Sizes, Item, repeat, Unended, none, inside, AxisView, tracks_in, tracks_of, components_of, NameRecord, name_of, names_of, with_template, repeat_kind, no_room, empty_axis, track_step, repeat_step, end_step, name_step, spare_step, item_step, extra_step, axis_step, accepted}
use Rattle.axis_tables.specs.Store.{zero_state, zero_reading, put_single, put_repeated, put_track, open_repeat, close_repeat, put_name, put_spare, put_item, put_extra, put_axis}
use Rattle.axis_tables.specs.Written.{record_word, regions_of, words_with, axis_words, names_store, state_of, reading_of, held_of, of_answer, of_words, of_marks, of_names}
use Rattle.axis_tables.proofs.Lays.{lay-none, pad-none}
use Rattle.axis_tables.proofs.Runs.{bytes-more}
use Rattle.axis_tables.proofs.Joins.{length_more}
use Rattle.axis_tables.proofs.More
use Rattle.axis_tables.proofs.Follow
use Rattle.axis_tables.proofs.Rooms.{Room, room}
use Rattle.axis_tables.proofs.Fits.{Fits, few-tracks}

pub positive : (n : ℕ) → 0 < n → eqb n 0 ≡ false
positive zero h = absurd (omega arith)
positive (suc n) h = ne_eqb (suc n) 0 (λ e. omega arith)

-- ---- `track`
track_of_lem : (v : AxisView) (is : List Item) (u : Unended) → Fits (with_template v is u) → (min max : ℕ)
    → of_words (with_template v is u) (put_track (state_of (with_template v is u)) (reading_of (with_template v is u)) (axis_words (with_template v is u)) min max)
    ≡ held_of (track_step (with_template v is u) min max)
unfolding put_track put_single put_repeated track_step held_of names_store
track_of_lem v is none f min max = go (ltb 63 (length (components_of is))) refl
  where
    go : (t : Bool) → ltb 63 (length (components_of is)) ≡ t
        → of_words (with_template v is none) (put_track (state_of (with_template v is none)) (reading_of (with_template v is none)) (axis_words (with_template v is none)) min max)
        ≡ held_of (track_step (with_template v is none) min max)
    go true e = rw e
    go false e =
        let t : Sizes = record { min = min; max = max } in
        let h : length (components_of is) < 64 = omega (arith, ltb-false 63 (length (components_of is)) e) in
        let k : length (tracks_of is) < 2048 = omega (arith, few-tracks is f.items) in
        let g : ltb 2047 (length (tracks_of is)) ≡ false = le-ltb 2047 (length (tracks_of is)) (omega arith) in
        simp (e, g, Follow.single-words v is t h k, More.track-components is t, More.track-tracks is t, More.track-names is t, length_more (tracks_of is) t)
track_of_lem v is (inside r) f min max = go (ltb 31 (length (tracks_in r.pieces))) refl
  where
    go : (t : Bool) → ltb 31 (length (tracks_in r.pieces)) ≡ t
        → of_words (with_template v is (inside r)) (put_track (state_of (with_template v is (inside r))) (reading_of (with_template v is (inside r))) (axis_words (with_template v is (inside r))) min max)
        ≡ held_of (track_step (with_template v is (inside r)) min max)
    go true e = rw e
    go false e =
        let t : Sizes = record { min = min; max = max } in
        let ts : List Sizes = tracks_of (is ++ (repeat r ∷ [])) in
        let k : length ts < 2048 =
        omega (arith, few-tracks is f.items, f.components, ltb-false 31 (length (tracks_in r.pieces)) e, ap length (More.repeat-tracks is r), length-append (tracks_of is) (tracks_in r.pieces)) in
        let g : ltb 2047 (length ts) ≡ false = le-ltb 2047 (length ts) (omega arith) in
        simp (e, g, Follow.repeated-words v is r t k, More.inner-track-tracks is r t, More.inner_track_names is r t, More.inner-track-length is r t, length_more ts t)

-- ---- `repeat`
repeat_of_lem : (v : AxisView) (is : List Item) (u : Unended) → Fits (with_template v is u) → (kind number : ℕ)
    → of_answer (with_template v is u) (open_repeat (state_of (with_template v is u)) (reading_of (with_template v is u)) kind number)
    ≡ held_of (repeat_step (with_template v is u) kind number)
unfolding open_repeat repeat_step held_of names_store words_with regions_of
repeat_of_lem v is none f kind number = go (ltb 65535 number) (ltb 63 (length (components_of is))) refl refl
  where
    go : (s t : Bool) → ltb 65535 number ≡ s → ltb 63 (length (components_of is)) ≡ t
        → of_answer (with_template v is none) (open_repeat (state_of (with_template v is none)) (reading_of (with_template v is none)) kind number)
        ≡ held_of (repeat_step (with_template v is none) kind number)
    go true t d e = rw d
    go false true d e = rw (d, e)
    go false false d e = simp (d, e, More.empty_tracks is (repeat_kind kind) number, More.empty_names is (repeat_kind kind) number)
repeat_of_lem v is (inside r) f kind number = refl

-- ---- `end`
end_of : (v : AxisView) (is : List Item) (u : Unended) → Fits (with_template v is u)
    → of_words (with_template v is u) (close_repeat (state_of (with_template v is u)) (reading_of (with_template v is u)) (axis_words (with_template v is u)))
    ≡ held_of (end_step (with_template v is u))
unfolding close_repeat end_step held_of names_store
end_of v is none f = refl
end_of v is (inside r) f =
    let h : length (components_of is) < 64 = omega (arith, f.components) in
    let e : ltb 63 (length (components_of is)) ≡ false = le-ltb 63 (length (components_of is)) (omega arith) in
    simp (e, Follow.closed-words v is r h, More.repeat-components is r)

-- ---- `name`
name_of_lem : (v : AxisView) (is : List Item) (u : Unended) → Fits (with_template v is u) → (n : List ℕ)
    → of_names (with_template v is u) (put_name (state_of (with_template v is u)) (reading_of (with_template v is u)) (axis_words (with_template v is u)) (names_store (with_template v is u)) n)
    ≡ held_of (name_step (with_template v is u) n)
unfolding put_name name_step held_of names_store
name_of_lem v is none f n = go (no_room 4096 32768 (length (names_of is)) (length (bytes_of name_of (names_of is))) (length n)) refl
  where
    go : (t : Bool) → no_room 4096 32768 (length (names_of is)) (length (bytes_of name_of (names_of is))) (length n) ≡ t
        → of_names (with_template v is none) (put_name (state_of (with_template v is none)) (reading_of (with_template v is none)) (axis_words (with_template v is none)) (names_store (with_template v is none)) n)
        ≡ held_of (name_step (with_template v is none) n)
    go true e = rw e
    go false e =
        let ns : List NameRecord = names_of is in
        let x : NameRecord = record { component = length (components_of is); place = 0; name = n } in
        let h : Room 4096 32768 (length ns) (length (bytes_of name_of ns)) (length n) = room 4096 32768 (length ns) (length (bytes_of name_of ns)) (length n) e in
        simp (
          e,
          Follow.name-words v is n h.free,
          Follow.more_bytes ns x h.bytes,
          More.name-components is n,
          More.name-tracks is n,
          More.name-names is n,
          length_more ns x,
          bytes-more record_word name_of ns x,
          length-append (bytes_of name_of ns) n,
        )
name_of_lem v is (inside r) f n = go (no_room 4096 32768 (length ms) (length (bytes_of name_of ms)) (length n)) refl
  where
    ms : List NameRecord
    ms = names_of (is ++ (repeat r ∷ []))

    go : (t : Bool) → no_room 4096 32768 (length (names_of (is ++ (repeat r ∷ [])))) (length (bytes_of name_of (names_of (is ++ (repeat r ∷ []))))) (length n) ≡ t
        → of_names (with_template v is (inside r)) (put_name (state_of (with_template v is (inside r))) (reading_of (with_template v is (inside r))) (axis_words (with_template v is (inside r))) (names_store (with_template v is (inside r))) n)
        ≡ held_of (name_step (with_template v is (inside r)) n)
    go true e = rw e
    go false e =
        let ns : List NameRecord = names_of (is ++ (repeat r ∷ [])) in
        let x : NameRecord = record { component = length (components_of is); place = length (tracks_in r.pieces) + 1; name = n } in
        let h : Room 4096 32768 (length ns) (length (bytes_of name_of ns)) (length n) = room 4096 32768 (length ns) (length (bytes_of name_of ns)) (length n) e in
        simp (
          e,
          Follow.inner-name-words v is r n h.free,
          Follow.more_bytes ns x h.bytes,
          More.inner_name_all is r n,
          More.inner-name-tracks is r n,
          More.inner_name_names is r n,
          length_more ns x,
          bytes-more record_word name_of ns x,
          length-append (bytes_of name_of ns) n,
        )

-- ---- `axis`
axis_of_lem : (v : AxisView) (is : List Item) (u : Unended) (definite inner rule gap : ℕ)
    → of_answer (with_template v is u) (put_axis (state_of (with_template v is u)) (reading_of (with_template v is u)) definite inner rule gap)
    ≡ held_of (axis_step (with_template v is u) definite inner rule gap)
unfolding axis_step held_of names_store words_with regions_of
axis_of_lem v is none definite inner rule gap = refl
axis_of_lem v is (inside r) definite inner rule gap = refl

-- ---- the laws
module _ (v : AxisView) where
  pub track-same : Fits v → (min max : ℕ) → of_words v (put_track (state_of v) (reading_of v) (axis_words v) min max) ≡ held_of (track_step v min max)
  track-same f min max = track_of_lem v v.template v.unended f min max

  pub repeat-same : Fits v → (kind number : ℕ) → of_answer v (open_repeat (state_of v) (reading_of v) kind number) ≡ held_of (repeat_step v kind number)
  repeat-same f kind number = repeat_of_lem v v.template v.unended f kind number

  pub end_same : Fits v → of_words v (close_repeat (state_of v) (reading_of v) (axis_words v)) ≡ held_of (end_step v)
  end_same f = end_of v v.template v.unended f

  pub name-same : Fits v → (n : List ℕ) → of_names v (put_name (state_of v) (reading_of v) (axis_words v) (names_store v) n) ≡ held_of (name_step v n)
  name-same f n = name_of_lem v v.template v.unended f n

  pub spare-same : (min max : ℕ) → of_words v (put_spare (state_of v) (reading_of v) (axis_words v) min max) ≡ held_of (spare_step v min max)
  unfolding put_spare spare_step held_of names_store
  spare-same min max = go (ltb 63 (length v.spares)) refl
    where
      go : (t : Bool) → ltb 63 (length v.spares) ≡ t → of_words v (put_spare (state_of v) (reading_of v) (axis_words v) min max) ≡ held_of (spare_step v min max)
      go true e = rw e
      go false e =
          let t : Sizes = record { min = min; max = max } in
          simp (e, Follow.spare_words v t (omega (arith, ltb-false 63 (length v.spares) e)), length_more v.spares t)

  pub item-same : (i : ℕ) → of_marks v (put_item (state_of v) (reading_of v) v.marks i) ≡ held_of (item_step v i)
  unfolding put_item item_step held_of names_store words_with regions_of
  item-same i = go (ltb 29999 i) refl
    where
      go : (t : Bool) → ltb 29999 i ≡ t → of_marks v (put_item (state_of v) (reading_of v) v.marks i) ≡ held_of (item_step v i)
      go true e = rw e
      go false e = rw e

  pub extra-same : (n p : ℕ) → of_answer v (put_extra (state_of v) (reading_of v) n p) ≡ held_of (extra_step v n p)
  unfolding extra_step held_of names_store words_with regions_of
  extra-same n p = refl

  pub axis-same : (definite inner rule gap : ℕ) → of_answer v (put_axis (state_of v) (reading_of v) definite inner rule gap) ≡ held_of (axis_step v definite inner rule gap)
  axis-same definite inner rule gap = axis_of_lem v v.template v.unended definite inner rule gap

-- the empty view is zeros
pub axis_empty : record { answer = record { fault = 0; state = zero_state; reading = zero_reading }; words = replicate 12480 0; marks = replicate 30000 0; bytes = replicate 32768 0 } ≡ held_of (accepted empty_axis)
unfolding empty_axis held_of names_store words_with regions_of
axis_empty = sym (rw (lay-none (64 ∷ 2048 ∷ 2048 ∷ 64 ∷ 64 ∷ 4096 ∷ 4096 ∷ []), pad-none 32768))
