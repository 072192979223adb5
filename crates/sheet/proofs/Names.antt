-- The names of an axis after a record: `name` writes one more, and no other record any. Assumes nothing.
use Prim.Native.Nat.{ℕ, ◌+◌, ◌*◌, ◌≤◌}
use mathlib.Core.Path.{◌≡◌, refl, ap, ◌∙◌}
use mathlib.Core.List.{List, [], ◌∷◌, ◌++◌}
use mathlib.Core.Bool.{Bool, true, false, cond}
use native.Mathlib.Omega.{arith}
use lib.Dec.{ltb}
use lib.ListN.{length, length-append}
use Rattle.axis_tables.specs.Runs.{bytes_of}
use Rattle.axis_tables.specs.View.{Item as TemplateItem, Unended, none, inside, AxisView, AxisOutcome, NameRecord, name_of, axis_names, axis_bytes, accepted, refused, with_template, with_name, no_room, named_fault, components_of, tracks_in, track_step, repeat_step, end_step, name_step, spare_step, item_step, extra_step, axis_step, repeat_kind, Repeat as TemplateRepeat}
use Rattle.axis_tables.specs.Written.{record_word}
use Rattle.axis_tables.proofs.More as More
use Rattle.axis_tables.proofs.Runs.{bytes-more}

-- ---- names that a sheet of n bytes can have

-- 8 bytes beside each name, which has at least one
pub record Within (n : ℕ) (ns : List NameRecord) : Type 0 where
  pub names : 9 * length ns ≤ n
  pub bytes : length (bytes_of name_of ns) + 8 * length ns ≤ n

-- more bytes have room for the same names
pub within_more : (m n : ℕ) (ns : List NameRecord) → m ≤ n → Within m ns → Within n ns
within_more m n ns h p = record { names = omega (arith, p.names); bytes = omega (arith, p.bytes) }

-- and k more, with the line of a name in them, for one more
within-name : (n k : ℕ) (ns : List NameRecord) (x : NameRecord) → 1 ≤ length x.name → length x.name + 8 ≤ k → Within n ns → Within (n + k) (ns ++ (x ∷ []))
within-name n k ns x h l p =
    let a : length (ns ++ (x ∷ [])) ≡ length ns + 1 = length-append ns (x ∷ []) in
    let b : length (bytes_of name_of (ns ++ (x ∷ []))) ≡ length (bytes_of name_of ns) + length x.name =
    ap length (bytes-more record_word name_of ns x) ∙ length-append (bytes_of name_of ns) x.name in
    record { names = omega (arith, p.names); bytes = omega (arith, p.bytes) }

-- ---- one record on an axis: `name` writes one more, no other any

-- refused or accepted
names-cond : (t : Bool) (x y : AxisOutcome) (ns : List NameRecord) → axis_names x.axis ≡ ns → axis_names y.axis ≡ ns → axis_names (cond t x y).axis ≡ ns
names-cond true x y ns a b = a
names-cond false x y ns a b = b

-- a track
pub track-names : (v : AxisView) (is : List TemplateItem) (u : Unended) (min max : ℕ) → axis_names (track_step (with_template v is u) min max).axis ≡ axis_names (with_template v is u)
unfolding track_step
track-names v is none min max =
    names-cond (ltb 63 (length (components_of is))) (refused 8 (with_template v is none)) _ _ refl (More.track-names is (record { min = min; max = max }))
track-names v is (inside r) min max =
    names-cond (ltb 31 (length (tracks_in r.pieces))) (refused 8 (with_template v is (inside r))) _ _ refl (More.inner_track_names is r (record { min = min; max = max }))

-- a repeat, and its end
pub repeat_names : (v : AxisView) (is : List TemplateItem) (u : Unended) (kind number : ℕ) → axis_names (repeat_step (with_template v is u) kind number).axis ≡ axis_names (with_template v is u)
unfolding repeat_step
repeat_names v is (inside r) kind number = refl
repeat_names v is none kind number =
    let w : AxisView = with_template v is none in
    let e : TemplateRepeat = record { kind = repeat_kind kind; number = number; pieces = [] } in
    names-cond (ltb 65535 number) (refused 4 w) _ _ refl
    (names-cond (ltb 63 (length (components_of is))) (refused 8 w) (accepted (with_template v is (inside e))) _ refl (More.empty_names is (repeat_kind kind) number))

pub end-names : (v : AxisView) (is : List TemplateItem) (u : Unended) → axis_names (end_step (with_template v is u)).axis ≡ axis_names (with_template v is u)
unfolding end_step
end-names v is none = refl
end-names v is (inside r) = refl

-- what the template does not hold
pub spare-names : (v : AxisView) (min max : ℕ) → axis_names (spare_step v min max).axis ≡ axis_names v
unfolding spare_step
spare-names v min max = names-cond (ltb 63 (length v.spares)) (refused 8 v) _ _ refl refl

pub item-names : (v : AxisView) (i : ℕ) → axis_names (item_step v i).axis ≡ axis_names v
unfolding item_step
item-names v i = names-cond (ltb 29999 i) (refused 4 v) _ _ refl refl

pub extra-names : (v : AxisView) (n p : ℕ) → axis_names (extra_step v n p).axis ≡ axis_names v
unfolding extra_step
extra-names v n p = refl

pub axis_names_lem : (v : AxisView) (definite inner rule gap : ℕ) → axis_names (axis_step v definite inner rule gap).axis ≡ axis_names v
unfolding axis_step
axis_names_lem v definite inner rule gap = refl

-- the same of the bytes
within-cond : (n : ℕ) (t : Bool) (x y : AxisOutcome) → Within n (axis_names x.axis) → Within n (axis_names y.axis) → Within n (axis_names (cond t x y).axis)
within-cond n true x y a b = a
within-cond n false x y a b = b

-- a name
pub name-within : (v : AxisView) (is : List TemplateItem) (u : Unended) (m : List ℕ) (n k : ℕ) → 1 ≤ length m → length m + 8 ≤ k
    → Within n (axis_names (with_template v is u)) → Within (n + k) (axis_names (name_step (with_template v is u) m).axis)
unfolding name_step
name-within v is none m n k h l p =
    let w : AxisView = with_template v is none in
    within-cond (n + k) (no_room 4096 32768 (length (axis_names w)) (length (axis_bytes w)) (length m)) (refused (named_fault (length m) 8) w) (accepted (with_name w none m))
    (within_more n (n + k) (axis_names w) (omega arith) p)
    (rw (More.name-names is m) (within-name n k (axis_names w) (record { component = length (components_of is); place = 0; name = m }) h l p))
name-within v is (inside r) m n k h l p =
    let w : AxisView = with_template v is (inside r) in
    within-cond (n + k) (no_room 4096 32768 (length (axis_names w)) (length (axis_bytes w)) (length m)) (refused (named_fault (length m) 8) w) (accepted (with_name w (inside r) m))
    (within_more n (n + k) (axis_names w) (omega arith) p)
    (rw (More.inner_name_names is r m) (within-name n k (axis_names w) (record { component = length (components_of is); place = length (tracks_in r.pieces) + 1; name = m }) h l p))
