-- A line that is cut once makes the record that its parts make, and its names lie where they were cut. Assumes nothing.
use Prim.Native.Nat.{ℕ, ◌≤◌, ◌<◌}
use mathlib.Core.Path.{◌≡◌, refl, sym, ◌∙◌}
use mathlib.Core.List.{List, [], ◌∷◌}
use mathlib.Core.Bool.{Bool, true, false, cond}
use native.Mathlib.Omega.{arith}
use lib.Dec.{eqb, leb}
use lib.ListN.{length}
use borrow.Author.Tests.{ne_eqb, leb-true, leb-false}
use Rattle.text.specs.Split.{split, onto, index}
use Rattle.text.specs.declared.fields.Place.{Place as Placed}
use Rattle.text.specs.Places.{part_at, place_by, field_by, fields_by}
use Rattle.text.proofs.Places.{starts_of, field_part, fields-parts, length_fields, at_field}
use Rattle.sheet_forms.specs.Said.{Record, Fault, Axis, Area, Name, Track, Repeat, End, Spare, Extra, Item, Place, PictureRow, Cell}
use Rattle.sheet_forms.specs.Words.{at, kind_words}
use Rattle.sheet_forms.specs.Names.{of_first, of_second, of_third, of_fourth}
use Rattle.sheet_forms.specs.Records.{axis_line, area_line, name_line, sizes_line, repeat_line, end_line, extra_line, item_line, place_line, row_line, cell_line, fixed_kind, by_kind, record_of}
use Rattle.sheet_lines.specs.declared.fields.Fields.{Fields}
use Rattle.sheet_lines.specs.Fields.{fields_of, CutAs}

-- field k, where there are so many
pub field_at : (starts line : List ℕ) (n k : ℕ) → k < length (fields_by starts line n) → field_by starts line k ≡ at (fields_by starts line n) k
field_at starts line n k h = sym (at_field starts line n n k refl (omega (arith, length_fields starts line 0 n, h)))

-- a text has at least one part
pub parts_some : (b : ℕ) (s : List ℕ) → 0 < length (split b s)
unfolding split onto
parts_some b [] = omega arith
parts_some b (x ∷ xs) = go (eqb x b) (split b xs)
  where
    go : (t : Bool) (ps : List (List ℕ)) → 0 < length (cond t ([] ∷ ps) (onto x ps))
    go true ps = omega arith
    go false [] = omega arith
    go false (p ∷ ps) = omega arith

-- a line of more than 13 fields is of no form that has a fixed number of them
module _ (fs : List (List ℕ)) (h : 13 < length fs) where
  other : (n : ℕ) → n ≤ 13 → eqb (length fs) n ≡ false
  other n l = ne_eqb (length fs) n (λ e. omega arith)

  both : (t : Bool) (r : Record) → r ≡ Fault 1 → cond t (Fault 1) r ≡ Fault 1
  both true r e = refl
  both false r e = e

  many : (k : ℕ) → fixed_kind k fs ≡ Fault 1
  unfolding fixed_kind axis_line area_line name_line sizes_line repeat_line end_line extra_line item_line place_line cell_line
  many k =
      rw (other 2 (omega arith), other 3 (omega arith), other 4 (omega arith), other 6 (omega arith), other 8 (omega arith), other 13 (omega arith))
      (both (eqb k 0) _ (both (eqb k 1) _ (both (eqb k 2) _ (both (eqb k 3) _ (both (eqb k 4) _ (both (eqb k 5) _
      (both (eqb k 6) _ (both (eqb k 7) _ (both (eqb k 8) _ (both (eqb k 9) _ (both (eqb k 11) _ refl)))))))))))

module _ (line : List ℕ) where
  -- the fields as they were cut
  abbrev cut : List (List ℕ)
  cut = fields_by (starts_of 9 line) line (length (split 9 line))

  -- the record of the kind with a number, of the fields as they were cut; that of a row, of its words
  abbrev cut_kind : ℕ → Record
  cut_kind k = cond (eqb k 10) (row_line (split 9 line)) (fixed_kind k cut)

  cut-fixed : (k : ℕ) → fixed_kind k cut ≡ fixed_kind k (split 9 line)
  cut-fixed k = go (leb (length (split 9 line)) 14) refl
    where
      go : (t : Bool) → leb (length (split 9 line)) 14 ≡ t → fixed_kind k cut ≡ fixed_kind k (split 9 line)
      go true e = rw (fields-parts 9 line (leb-true (length (split 9 line)) 14 e))
      go false e =
          let l = leb-false (length (split 9 line)) 14 e in
          many cut (omega (arith, length_fields (starts_of 9 line) line 0 (length (split 9 line)))) k ∙ sym (many (split 9 line) (omega arith) k)

  pub cut_record : cut_kind (index (field_by (starts_of 9 line) line 0) kind_words) ≡ record_of (split 9 line)
  unfolding record_of by_kind
  cut_record = rw (field_part 9 line 0 (omega arith), cut-fixed (index (at (split 9 line) 0) kind_words))

  -- where a name lies by the number of its field, 14 where there is none
  abbrev named : ℕ → List ℕ
  named k = part_at line (place_by (starts_of 9 line) k)

  pub first-there : (r : Record) → named (of_first 14 (λ k. k) r) ≡ of_first [] (at (split 9 line)) r
  unfolding place_by
  first-there (Fault n) = refl
  first-there (Axis a) = refl
  first-there (Area a) = field_part 9 line 1 (omega arith)
  first-there (Name a) = field_part 9 line 2 (omega arith)
  first-there (Track a min max) = refl
  first-there (Repeat a n) = refl
  first-there (End a) = refl
  first-there (Spare a min max) = refl
  first-there (Extra a n p) = refl
  first-there (Item a i) = refl
  first-there (Place a s e) = field_part 9 line 3 (omega arith)
  first-there (PictureRow n) = refl
  first-there (Cell cs ce rs re) = field_part 9 line 2 (omega arith)

  pub second-there : (r : Record) → named (of_second 14 (λ k. k) r) ≡ of_second [] (at (split 9 line)) r
  unfolding place_by
  second-there (Fault n) = refl
  second-there (Axis a) = refl
  second-there (Area a) = refl
  second-there (Name a) = refl
  second-there (Track a min max) = refl
  second-there (Repeat a n) = refl
  second-there (End a) = refl
  second-there (Spare a min max) = refl
  second-there (Extra a n p) = refl
  second-there (Item a i) = refl
  second-there (Place a s e) = field_part 9 line 6 (omega arith)
  second-there (PictureRow n) = refl
  second-there (Cell cs ce rs re) = field_part 9 line 5 (omega arith)

  pub third-there : (r : Record) → named (of_third 14 (λ k. k) r) ≡ of_third [] (at (split 9 line)) r
  unfolding place_by
  third-there (Fault n) = refl
  third-there (Axis a) = refl
  third-there (Area a) = refl
  third-there (Name a) = refl
  third-there (Track a min max) = refl
  third-there (Repeat a n) = refl
  third-there (End a) = refl
  third-there (Spare a min max) = refl
  third-there (Extra a n p) = refl
  third-there (Item a i) = refl
  third-there (Place a s e) = refl
  third-there (PictureRow n) = refl
  third-there (Cell cs ce rs re) = field_part 9 line 8 (omega arith)

  pub fourth-there : (r : Record) → named (of_fourth 14 (λ k. k) r) ≡ of_fourth [] (at (split 9 line)) r
  unfolding place_by
  fourth-there (Fault n) = refl
  fourth-there (Axis a) = refl
  fourth-there (Area a) = refl
  fourth-there (Name a) = refl
  fourth-there (Track a min max) = refl
  fourth-there (Repeat a n) = refl
  fourth-there (End a) = refl
  fourth-there (Spare a min max) = refl
  fourth-there (Extra a n p) = refl
  fourth-there (Item a i) = refl
  fourth-there (Place a s e) = refl
  fourth-there (PictureRow n) = refl
  fourth-there (Cell cs ce rs re) = field_part 9 line 11 (omega arith)

  -- a name lies where its field was cut
  pub name-there : {name : List ℕ} (starts : List ℕ) (k field : ℕ) (p : Placed) → starts ≡ starts_of 9 line → k ≡ field → p ≡ place_by starts k
      → named field ≡ name → part_at line p ≡ name
  name-there starts k field p es ek ep there = rw (ep, ek, es) there

  -- the record of the kind that the first field names is the line's
  pub said-there : (f : Fields) → CutAs line f → (first : List ℕ) (k : ℕ) (said : Record) → first ≡ at (fields_of f) 0 → k ≡ index first kind_words
      → said ≡ cond (eqb k 10) (row_line (split 9 f.line.now)) (fixed_kind k (fields_of f)) → said ≡ record_of (split 9 line)
  said-there f c first k said ef ek er =
      let zero : first ≡ field_by (starts_of 9 line) line 0 =
      ef ∙ sym (field_at f.starts f.line.now f.count 0 (omega (arith, length_fields f.starts f.line.now 0 f.count, c.some))) ∙ rw (c.starts, c.line) refl in
      er ∙ rw (ek, zero, c.line, c.starts, c.count) cut_record
