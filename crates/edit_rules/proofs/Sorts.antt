-- Which lines may stand where, by their first field. Assumes nothing.
use Prim.Native.Nat.{ℕ, ◌≤◌}
use mathlib.Core.Path.{◌≡◌, refl, sym, ap, ◌∙◌}
use mathlib.Core.List.{List, []}
use mathlib.Core.Bool.{Bool, true, false, cond, ◌&&◌, ◌||◌, false≢true}
use mathlib.Core.Logic.{inl}
use native.Mathlib.Omega.{arith}
use lib.Dec.{eqb}
use lib.ListN.{get_or}
use borrow.Author.Tests.{eqb-true, le-ltb}
use Rattle.text.specs.Split.{same}
use Rattle.text.proofs.Which.{same_self}
use Rattle.sheet_forms.specs.Said.{AxisRecord, Record}
use Rattle.sheet_forms.specs.Said.{Fault, Axis as AxisLine, Area, Name, Track, Repeat, End, Spare, Extra, Item, Place, PictureRow, Cell}
use Rattle.sheet_forms.specs.declared.AreaRecord.{AreaRecord}
use Rattle.sheet_forms.specs.Words.{at, kind_words}
use Rattle.sheet_forms.specs.Forms.{Kind, axis, area, name, track, repeat, end, spare, extra, item, place, row, cell, kind_number}
use Rattle.sheet_forms.specs.Records.{fault_of}
use Rattle.panel_tables.specs.View.{PanelView}
use Rattle.sheet_rules.specs.Contents.{Line, is_of}
use Rattle.sheet_rules.specs.Lines.{late_at, stage_of, late_fault}
use Rattle.sheet_rules.proofs.Says.{Says}
use Rattle.sheet_rules.proofs.LineFields.{Reads}
use Rattle.sheet_rules.proofs.LineRows.{late-no}
use Rattle.edit_rules.specs.Theorem.{is_leading}
use Rattle.edit_rules.proofs.Alike.{Common}
use Rattle.edit_rules.proofs.Areas.{Later}
use Rattle.edit_rules.proofs.EditRecords.{EditRecord, fault as a_fault, area as an_area, track as a_track, place as a_place}

abbrev word : Kind → List ℕ
word k = get_or kind_words (kind_number k) []

-- the record of a line before all others
data LeadingRecord : Record → Type 0 where
  unread : (n : ℕ) → LeadingRecord (Fault n)
  an_axis : (a : AxisRecord) → LeadingRecord (AxisLine a)
  its_area : (a : AreaRecord) → LeadingRecord (Area a)
  a_row : (n : ℕ) → LeadingRecord (PictureRow n)

-- the record of an `area` line
pub data AreaSaid : Record → Type 0 where
  unsaid : (n : ℕ) → AreaSaid (Fault n)
  said : (a : AreaRecord) → AreaSaid (Area a)

module _ (fs : Line) where
  pub own_word : (k : Kind) → at fs 0 ≡ word k → is_of k fs ≡ true
  own_word k e = ap (λ (f : List ℕ). same f (word k)) e ∙ same_self (word k)

  other_word : (j k : Kind) → at fs 0 ≡ word j → same (word j) (word k) ≡ false → is_of k fs ≡ false
  other_word j k e h = ap (λ (f : List ℕ). same f (word k)) e ∙ h

  -- a line of another kind is none of the first
  not_leading : (j : Kind) → at fs 0 ≡ word j → same (word j) (word axis) ≡ false → same (word j) (word area) ≡ false → same (word j) (word row) ≡ false → is_leading fs ≡ true → ⊥
  not_leading j e x y z h = false≢true (sym others ∙ h)
    where
      others : is_leading fs ≡ false
      others = rw (other_word j axis e x, other_word j area e y, other_word j row e z)

  leading_record : (r : Record) → Says fs r → is_leading fs ≡ true → LeadingRecord r
  unfolding same
  leading_record (Fault n) s h = unread n
  leading_record (AxisLine a) s h = an_axis a
  leading_record (Area a) s h = its_area a
  leading_record (Name a) s h = absurd (not_leading name s.0.word refl refl refl h)
  leading_record (Track a min max) s h = absurd (not_leading track s.0.word refl refl refl h)
  leading_record (Repeat a n) s h = absurd (not_leading repeat s.0.word refl refl refl h)
  leading_record (End a) s h = absurd (not_leading end s.0.word refl refl refl h)
  leading_record (Spare a min max) s h = absurd (not_leading spare s.0.word refl refl refl h)
  leading_record (Extra a n p) s h = absurd (not_leading extra s.0.word refl refl refl h)
  leading_record (Item a i) s h = absurd (not_leading item s.0.word refl refl refl h)
  leading_record (Place a b e) s h = absurd (not_leading place s.0.word refl refl refl h)
  leading_record (PictureRow n) s h = a_row n
  leading_record (Cell cs ce rs re) s h = absurd (not_leading cell s.word refl refl refl h)

  pub leading_stage : (v : PanelView) (r : Record) → Says fs r → is_leading fs ≡ true → v.stage ≤ 2 → stage_of v r ≤ 2
  leading_stage v r s h k = go r (leading_record r s h)
    where
      go : (r : Record) → LeadingRecord r → stage_of v r ≤ 2
      go r (unread n) = k
      go r (an_axis a) = omega arith
      go r (its_area a) = omega arith
      go r (a_row n) = omega arith

  -- a line of none of them
  pub behind_later : (r : Record) → Says fs r → is_leading fs ≡ false → Later r
  unfolding same
  behind_later (Fault n) s h = tt
  behind_later (AxisLine a) s h = false≢true (sym h ∙ rw (own_word axis s.0.word))
  behind_later (Area a) s h = false≢true (sym h ∙ rw (other_word area axis s.word refl, own_word area s.word))
  behind_later (Name a) s h = tt
  behind_later (Track a min max) s h = tt
  behind_later (Repeat a n) s h = tt
  behind_later (End a) s h = tt
  behind_later (Spare a min max) s h = tt
  behind_later (Extra a n p) s h = tt
  behind_later (Item a i) s h = tt
  behind_later (Place a b e) s h = tt
  behind_later (PictureRow n) s h = false≢true (sym h ∙ rw (other_word row axis s.word refl, other_word row area s.word refl, own_word row s.word))
  behind_later (Cell cs ce rs re) s h = tt

  -- an `area` line says an area or nothing
  not_area_word : (j : Kind) → at fs 0 ≡ word j → same (word j) (word area) ≡ false → is_of area fs ≡ true → ⊥
  not_area_word j e x h = false≢true (sym (other_word j area e x) ∙ h)

  pub area_said : (r : Record) → Says fs r → is_of area fs ≡ true → AreaSaid r
  unfolding same
  area_said (Fault n) s h = unsaid n
  area_said (AxisLine a) s h = absurd (not_area_word axis s.0.word refl h)
  area_said (Area a) s h = said a
  area_said (Name a) s h = absurd (not_area_word name s.0.word refl h)
  area_said (Track a min max) s h = absurd (not_area_word track s.0.word refl h)
  area_said (Repeat a n) s h = absurd (not_area_word repeat s.0.word refl h)
  area_said (End a) s h = absurd (not_area_word end s.0.word refl h)
  area_said (Spare a min max) s h = absurd (not_area_word spare s.0.word refl h)
  area_said (Extra a n p) s h = absurd (not_area_word extra s.0.word refl h)
  area_said (Item a i) s h = absurd (not_area_word item s.0.word refl h)
  area_said (Place a b e) s h = absurd (not_area_word place s.0.word refl h)
  area_said (PictureRow n) s h = absurd (not_area_word row s.word refl h)
  area_said (Cell cs ce rs re) s h = absurd (not_area_word cell s.word refl h)

  -- the other edits may stand after all areas
  pub edit_later : (r : Record) → EditRecord r → Says fs r → is_of area fs ≡ false → Later r
  edit_later r (a_fault n) s h = tt
  edit_later r (an_area a) s h = false≢true (sym h ∙ own_word area s.word)
  edit_later r (a_track a min max) s h = tt
  edit_later r (a_place a b e) s h = tt

pub edit_common : (r : Record) → EditRecord r → Common r
edit_common r (a_fault n) = tt
edit_common r (an_area a) = tt
edit_common r (a_track a min max) = tt
edit_common r (a_place a b e) = tt

pub later_common : (r : Record) → Later r → Common r
later_common (Fault n) l = tt
later_common (AxisLine a) l = absurd l
later_common (Area a) l = tt
later_common (Name a) l = tt
later_common (Track a min max) l = tt
later_common (Repeat a n) l = tt
later_common (End a) l = tt
later_common (Spare a min max) l = tt
later_common (Extra a n p) l = tt
later_common (Item a i) l = tt
later_common (Place a b e) l = tt
later_common (PictureRow n) l = absurd l
later_common (Cell cs ce rs re) l = tt

-- ---- the kind order

last_place : (n : ℕ) → n ≤ 3 → ◌≡◌ {A = ℕ} (cond (late_at 3 n) 7 0) 0
last_place n h = rw (le-ltb 3 n h)

pub own_place : (n : ℕ) → ◌≡◌ {A = ℕ} (cond (late_at n n) 7 0) 0
own_place n = rw (le-ltb n n (omega arith)) (go (eqb n 2) (eqb n 1) refl refl)
  where
    go : (t u : Bool) → eqb n 2 ≡ t → eqb n 1 ≡ u → ◌≡◌ {A = ℕ} (cond (false || (t && u)) 7 0) 0
    go true true e f = absurd (omega (arith, eqb-true n 2 e, eqb-true n 1 f))
    go true false e f = refl
    go false u e f = refl

-- a line that may stand after all areas is never late
pub never_late : (v : PanelView) (r : Record) → Later r → v.stage ≤ 3 → late_fault v r ≡ 0
never_late v (Fault n) l h = own_place v.stage
never_late v (AxisLine a) l h = absurd l
never_late v (Area a) l h = absurd l
never_late v (Name a) l h = last_place v.stage h
never_late v (Track a min max) l h = last_place v.stage h
never_late v (Repeat a n) l h = last_place v.stage h
never_late v (End a) l h = last_place v.stage h
never_late v (Spare a min max) l h = last_place v.stage h
never_late v (Extra a n p) l h = last_place v.stage h
never_late v (Item a i) l h = last_place v.stage h
never_late v (Place a b e) l h = last_place v.stage h
never_late v (PictureRow n) l h = absurd l
never_late v (Cell cs ce rs re) l h = last_place v.stage h

-- after one every other line is late
pub timely_later : (v : PanelView) (r : Record) → v.stage ≡ 3 → late_at (stage_of v r) v.stage ≡ false → Later r
timely_later v (Fault n) e h = tt
timely_later v (AxisLine a) e h = late-no 0 v.stage h (inl (omega (arith, e)))
timely_later v (Area a) e h = late-no 1 v.stage h (inl (omega (arith, e)))
timely_later v (Name a) e h = tt
timely_later v (Track a min max) e h = tt
timely_later v (Repeat a n) e h = tt
timely_later v (End a) e h = tt
timely_later v (Spare a min max) e h = tt
timely_later v (Extra a n p) e h = tt
timely_later v (Item a i) e h = tt
timely_later v (Place a b f) e h = tt
timely_later v (PictureRow n) e h = late-no 2 v.stage h (inl (omega (arith, e)))
timely_later v (Cell cs ce rs re) e h = tt

pub later_place : (v : PanelView) (fs : Line) (r : Record) → Later r → Reads fs r → fault_of r ≡ 0 → stage_of v r ≡ 3
later_place v fs (Fault n) l x z = absurd (x z)
later_place v fs (AxisLine a) l x z = absurd l
later_place v fs (Area a) l x z = absurd l
later_place v fs (Name a) l x z = refl
later_place v fs (Track a min max) l x z = refl
later_place v fs (Repeat a n) l x z = refl
later_place v fs (End a) l x z = refl
later_place v fs (Spare a min max) l x z = refl
later_place v fs (Extra a n p) l x z = refl
later_place v fs (Item a i) l x z = refl
later_place v fs (Place a b e) l x z = refl
later_place v fs (PictureRow n) l x z = absurd l
later_place v fs (Cell cs ce rs re) l x z = refl
