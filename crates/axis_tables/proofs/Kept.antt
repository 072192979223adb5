-- Every record keeps `Fits`, and an empty axis fits. Assumes nothing.
use Prim.Native.Nat.{ℕ, ◌+◌, ◌≤◌, ◌<◌}
use mathlib.Core.Path.{◌≡◌, refl}
use mathlib.Core.List.{List, [], ◌∷◌, ◌++◌}
use mathlib.Core.Bool.{Bool, true, false, cond}
use native.Mathlib.Omega.{arith}
use lib.Dec.{eqb, ltb}
use lib.ListN.{length, length-append}
use borrow.Author.Tests.{ltb-false}
use Rattle.axis_tables.specs.Runs.{bytes_of}
use Rattle.axis_tables.specs.View.{Sizes, name, track, Repeat, Item, single, repeat, Unended, none, inside, AxisView, AxisOutcome, refused, accepted, tracks_in, components_of, NameRecord, name_of, names_of, with_template, with_item, with_piece, with_name, repeat_kind, no_room, named_fault, empty_axis, track_step, repeat_step, end_step, name_step, spare_step, item_step, extra_step, axis_step}
use Rattle.axis_tables.specs.Written.{record_word}
use Rattle.axis_tables.proofs.Runs.{bytes-more}
use Rattle.axis_tables.proofs.Joins.{length_more}
use Rattle.axis_tables.proofs.More
use Rattle.axis_tables.proofs.Rooms.{Room, room}
use Rattle.axis_tables.proofs.Fits.{Fits, SmallItems, Short}

fits-cond : (t : Bool) (a b : AxisOutcome) → (t ≡ true → Fits a.axis) → (t ≡ false → Fits b.axis) → Fits (cond t a b).axis
fits-cond true a b f g = f refl
fits-cond false a b f g = g refl

pub small-more : (is : List Item) (i : Item) → SmallItems is → SmallItems (i ∷ []) → SmallItems (is ++ (i ∷ []))
small-more [] i s h = h
small-more (single p ∷ is) i s h = small-more is i s h
small-more (repeat r ∷ is) i s h = (s.0, small-more is i s.1 h)

short-more : (ns : List NameRecord) (x : NameRecord) → Short ns → length x.name ≤ 32 → Short (ns ++ (x ∷ []))
short-more [] x s h = (h, tt)
short-more (n ∷ ns) x s h = (s.0, short-more ns x s.1 h)

kind_some : (kind : ℕ) → 0 < repeat_kind kind
kind_some kind = go (eqb kind 0) (eqb kind 1)
  where
    go : (s t : Bool) → 0 < cond s 1 (cond t 2 3)
    go true t = omega arith
    go false true = omega arith
    go false false = omega arith

kind_below : (kind : ℕ) → repeat_kind kind < 4
kind_below kind = go (eqb kind 0) (eqb kind 1)
  where
    go : (s t : Bool) → cond s 1 (cond t 2 3) < 4
    go true t = omega arith
    go false true = omega arith
    go false false = omega arith

-- names, bytes and lengths after one name more
module _ (ns : List NameRecord) (x : NameRecord) (h : Room 4096 32768 (length ns) (length (bytes_of name_of ns)) (length x.name)) where
  more-names : length (ns ++ (x ∷ [])) ≤ 4096
  more-names = omega (arith, length_more ns x, h.free)

  more_bytes : length (bytes_of name_of (ns ++ (x ∷ []))) ≤ 32768
  more_bytes = rw (bytes-more record_word name_of ns x) (omega (arith, length-append (bytes_of name_of ns) x.name, h.bytes))

track-kept : (v : AxisView) (is : List Item) (u : Unended) → Fits (with_template v is u) → (min max : ℕ) → Fits (track_step (with_template v is u) min max).axis
unfolding track_step
track-kept v is none f min max =
    let t : Sizes = record { min = min; max = max } in
    let w : AxisView = with_template v is none in
    fits-cond (ltb 63 (length (components_of is))) (refused 8 w) (accepted (with_item w (single (track t)))) (λ e. f)
    (λ e. record {
      items = small-more is (single (track t)) f.items tt;
      unended = tt;
      components = omega (arith, More.track-components is t, ltb-false 63 (length (components_of is)) e);
      spares = f.spares;
      names = rw (More.track-names is t) f.names;
      bytes = rw (More.track-names is t) f.bytes;
      short = rw (More.track-names is t) f.short;
    })
track-kept v is (inside r) f min max =
    let t : Sizes = record { min = min; max = max } in
    let w : AxisView = with_template v is (inside r) in
    fits-cond (ltb 31 (length (tracks_in r.pieces))) (refused 8 w) (accepted (with_piece w r (track t))) (λ e. f)
    (λ e. record {
      items = f.items;
      unended = record {
        some = f.unended.some;
        kinds = f.unended.kinds;
        number = f.unended.number;
        tracks = omega (arith, More.inner-track-length is r t, ltb-false 31 (length (tracks_in r.pieces)) e);
      };
      components = f.components;
      spares = f.spares;
      names = rw (More.inner_track_names is r t) f.names;
      bytes = rw (More.inner_track_names is r t) f.bytes;
      short = rw (More.inner_track_names is r t) f.short;
    })

repeat_kept : (v : AxisView) (is : List Item) (u : Unended) → Fits (with_template v is u) → (kind number : ℕ) → Fits (repeat_step (with_template v is u) kind number).axis
unfolding repeat_step
repeat_kept v is (inside r) f kind number = f
repeat_kept v is none f kind number =
    let w : AxisView = with_template v is none in
    let r : Repeat = record { kind = repeat_kind kind; number = number; pieces = [] } in
    let o : AxisOutcome = accepted (with_template v is (inside r)) in
    fits-cond (ltb 65535 number) (refused 4 w) (cond (ltb 63 (length (components_of is))) (refused 8 w) o) (λ e. f)
    (λ d. fits-cond (ltb 63 (length (components_of is))) (refused 8 w) o (λ e. f)
    (λ e. record {
      items = f.items;
      unended = record { some = kind_some kind; kinds = kind_below kind; number = ltb-false 65535 number d; tracks = omega arith };
      components = omega (arith, ltb-false 63 (length (components_of is)) e);
      spares = f.spares;
      names = rw (More.empty_names is (repeat_kind kind) number) f.names;
      bytes = rw (More.empty_names is (repeat_kind kind) number) f.bytes;
      short = rw (More.empty_names is (repeat_kind kind) number) f.short;
    }))

end_kept : (v : AxisView) (is : List Item) (u : Unended) → Fits (with_template v is u) → Fits (end_step (with_template v is u)).axis
unfolding end_step
end_kept v is none f = f
end_kept v is (inside r) f =
    record {
      items = small-more is (repeat r) f.items (f.unended, tt);
      unended = tt;
      components = omega (arith, More.repeat-components is r, f.components);
      spares = f.spares;
      names = f.names;
      bytes = f.bytes;
      short = f.short;
    }

name-kept : (v : AxisView) (is : List Item) (u : Unended) → Fits (with_template v is u) → (n : List ℕ) → Fits (name_step (with_template v is u) n).axis
unfolding name_step
name-kept v is none f n =
    let w : AxisView = with_template v is none in
    let ns : List NameRecord = names_of is in
    let x : NameRecord = record { component = length (components_of is); place = 0; name = n } in
    fits-cond (no_room 4096 32768 (length ns) (length (bytes_of name_of ns)) (length n)) (refused (named_fault (length n) 8) w) (accepted (with_name w none n)) (λ e. f)
    (λ e.
    let h : Room 4096 32768 (length ns) (length (bytes_of name_of ns)) (length n) = room 4096 32768 (length ns) (length (bytes_of name_of ns)) (length n) e in
    record {
      items = small-more is (single (name n)) f.items tt;
      unended = tt;
      components = rw (More.name-components is n) f.components;
      spares = f.spares;
      names = rw (More.name-names is n) (more-names ns x h);
      bytes = rw (More.name-names is n) (more_bytes ns x h);
      short = rw (More.name-names is n) (short-more ns x f.short h.short);
    })
name-kept v is (inside r) f n =
    let w : AxisView = with_template v is (inside r) in
    let ns : List NameRecord = names_of (is ++ (repeat r ∷ [])) in
    let x : NameRecord = record { component = length (components_of is); place = length (tracks_in r.pieces) + 1; name = n } in
    fits-cond (no_room 4096 32768 (length ns) (length (bytes_of name_of ns)) (length n)) (refused (named_fault (length n) 8) w) (accepted (with_name w (inside r) n)) (λ e. f)
    (λ e.
    let h : Room 4096 32768 (length ns) (length (bytes_of name_of ns)) (length n) = room 4096 32768 (length ns) (length (bytes_of name_of ns)) (length n) e in
    record {
      items = f.items;
      unended = record {
        some = f.unended.some;
        kinds = f.unended.kinds;
        number = f.unended.number;
        tracks = rw (More.inner-name-tracks is r n) f.unended.tracks;
      };
      components = f.components;
      spares = f.spares;
      names = rw (More.inner_name_names is r n) (more-names ns x h);
      bytes = rw (More.inner_name_names is r n) (more_bytes ns x h);
      short = rw (More.inner_name_names is r n) (short-more ns x f.short h.short);
    })

module _ (v : AxisView) (f : Fits v) where
  pub track-fits : (min max : ℕ) → Fits (track_step v min max).axis
  track-fits min max = track-kept v v.template v.unended f min max

  pub repeat-fits : (kind number : ℕ) → Fits (repeat_step v kind number).axis
  repeat-fits kind number = repeat_kept v v.template v.unended f kind number

  pub end_fits : Fits (end_step v).axis
  end_fits = end_kept v v.template v.unended f

  pub name-fits : (n : List ℕ) → Fits (name_step v n).axis
  name-fits n = name-kept v v.template v.unended f n

  pub spare-fits : (min max : ℕ) → Fits (spare_step v min max).axis
  unfolding spare_step
  spare-fits min max =
      let t : Sizes = record { min = min; max = max } in
      fits-cond (ltb 63 (length v.spares)) (refused 8 v) _ (λ e. f)
      (λ e. record {
        items = f.items;
        unended = f.unended;
        components = f.components;
        spares = omega (arith, length_more v.spares t, ltb-false 63 (length v.spares) e);
        names = f.names;
        bytes = f.bytes;
        short = f.short;
      })

  pub item-fits : (i : ℕ) → Fits (item_step v i).axis
  unfolding item_step
  item-fits i =
      fits-cond (ltb 29999 i) (refused 4 v) _ (λ e. f)
      (λ e. record { items = f.items; unended = f.unended; components = f.components; spares = f.spares; names = f.names; bytes = f.bytes; short = f.short })

  pub extra-fits : (n p : ℕ) → Fits (extra_step v n p).axis
  unfolding extra_step
  extra-fits n p = record { items = f.items; unended = f.unended; components = f.components; spares = f.spares; names = f.names; bytes = f.bytes; short = f.short }

  pub axis_fits : (definite inner rule gap : ℕ) → Fits (axis_step v definite inner rule gap).axis
  unfolding axis_step
  axis_fits definite inner rule gap =
      record { items = f.items; unended = f.unended; components = f.components; spares = f.spares; names = f.names; bytes = f.bytes; short = f.short }

pub empty_fits : Fits empty_axis
unfolding empty_axis
empty_fits = record { items = tt; unended = tt; components = omega arith; spares = omega arith; names = omega arith; bytes = omega arith; short = tt }
