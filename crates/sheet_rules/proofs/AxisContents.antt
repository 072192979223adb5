-- What a line adds to what its axis says. Assumes nothing.
use Prim.Native.Nat.{ℕ, ◌-◌, ◌<◌, max}
use mathlib.Core.Path.{◌≡◌, refl, sym, ap, ap₂, ◌∙◌}
use mathlib.Core.List.{List, [], ◌∷◌, ◌++◌, map, map-append, append_assoc, append-nil}
use mathlib.Core.Bool.{Bool, true, false, cond, ◌&&◌, ◌||◌}
use native.Mathlib.Omega.{arith}
use lib.Dec.{eqb, ltb}
use lib.ListN.{length, get_or, set, length-set}
use lib.Seq.{get_or-set_same, get_or-set_other}
use borrow.Author.Tests.{eqb-true, eqb-false, ltb-false}
use Rattle.coordinates.specs.declared.axis.Axis.{Axis}
use Rattle.text.specs.Split.{same}
use Rattle.sheet_forms.specs.Words.{at, kind_words}
use Rattle.sheet_forms.specs.Forms.{Kind, axis, area, name, track, repeat, end, spare, extra, item, row, kind_number}
use Rattle.axis_tables.specs.View.{Sizes, Piece, name as a_name, track as a_track, Repeat as ARepeat, Item as AnItem, single, repeat as a_repeat, Unended, none, inside, AxisView, AxisOutcome, no_line, tracks_in, components_of, refused, accepted, with_template, with_name, with_item, with_piece, more_pieces, no_room, axis_names, axis_bytes, track_by, track_step, repeat_kind, repeat_by, repeat_step, end_by, end_step, name_step, spare_step, item_step, extra_step, axis_step, named_fault}
use Rattle.panel_tables.specs.View.{raised}
use Rattle.sheet_rules.specs.Contents.{Line, those, is_of, is_on, lines_with, lines_in, is_template, template_in, count_in, sizes_in, axis_line_in, words_in, drawn_in, span_in, TemplateLine, piece, opening, closing, template_line_in, item_lines, template_lines, last_of, largest, is_among}
use Rattle.sheet_rules.proofs.LineFields.{not-zero}

-- ---- one more at the end of a list

-- a line that is taken, or not
unfoldable pub more : Bool → List Line → Line → List Line
more true ls l = ls ++ (l ∷ [])
more false ls l = ls

pub those-more : (test : Line → Bool) (ls : List Line) (l : Line) → those test (ls ++ (l ∷ [])) ≡ more (test l) (those test ls) l
unfolding those more
those-more test [] l = go (test l)
  where
    go : (t : Bool) → cond t (l ∷ []) [] ≡ more t [] l
    go true = refl
    go false = refl
those-more test (m ∷ ls) l = rw (those-more test ls l) (go (test m) (test l))
  where
    go : (t u : Bool) → cond t (m ∷ more u (those test ls) l) (more u (those test ls) l) ≡ more u (cond t (m ∷ those test ls) (those test ls)) l
    go true true = refl
    go true false = refl
    go false true = refl
    go false false = refl

last_more : {A : Type 0} (d : A) (xs : List A) (x : A) → last_of d (xs ++ (x ∷ [])) ≡ x
unfolding last_of
last_more d [] x = refl
last_more d (y ∷ xs) x = last_more y xs x

largest-more : (ns : List ℕ) (n : ℕ) → largest (ns ++ (n ∷ [])) ≡ max (largest ns) n
unfolding largest
largest-more [] n = omega arith
largest-more (m ∷ ns) n = rw (largest-more ns n) (omega arith)

among-more : (i : ℕ) (ns : List ℕ) (n : ℕ) → is_among i (ns ++ (n ∷ [])) ≡ (is_among i ns || eqb i n)
unfolding is_among
among-more i [] n = go (eqb i n)
  where
    go : (t : Bool) → (t || false) ≡ t
    go true = refl
    go false = refl
among-more i (m ∷ ns) n = rw (among-more i ns n) (go (eqb i m))
  where
    go : (t : Bool) → (t || (is_among i ns || eqb i n)) ≡ ((t || is_among i ns) || eqb i n)
    go true = refl
    go false = refl

template-more : (is : List AnItem) (i : AnItem) → template_lines (is ++ (i ∷ [])) ≡ template_lines is ++ item_lines i
unfolding template_lines
template-more [] i = append-nil (item_lines i)
template-more (j ∷ is) i = ap (λ (l : List TemplateLine). item_lines j ++ l) (template-more is i) ∙ sym (append_assoc (item_lines j) (template_lines is) (item_lines i))

-- ---- the lines of an axis, by what they are about

pub record Chosen : Type 0 where
  pub axes : List Line
  pub template : List Line
  pub spares : List Line
  pub extras : List Line
  pub items : List Line
  pub areas : List Line
  pub rows : List Line

abbrev pub chosen : Axis → List Line → Chosen
chosen a ls = record { axes = lines_in axis a ls; template = template_in a ls; spares = lines_in spare a ls; extras = lines_in extra a ls; items = lines_in item a ls; areas = lines_with area ls; rows = lines_with row ls }

abbrev pub word : Kind → List ℕ
word k = get_or kind_words (kind_number k) []

-- one line more, of kind j; b where it is of the axis
abbrev pub grown : Kind → Bool → Chosen → Line → Chosen
grown j b c l =
    record {
      axes = more (same (word j) (word axis) && b) c.axes l;
      template = more ((same (word j) (word name) || (same (word j) (word track) || (same (word j) (word repeat) || same (word j) (word end)))) && b) c.template l;
      spares = more (same (word j) (word spare) && b) c.spares l;
      extras = more (same (word j) (word extra) && b) c.extras l;
      items = more (same (word j) (word item) && b) c.items l;
      areas = more (same (word j) (word area)) c.areas l;
      rows = more (same (word j) (word row)) c.rows l;
    }

pub chosen_more : (j : Kind) (b : Bool) (a : Axis) (ls : List Line) (l : Line) → at l 0 ≡ word j → is_on a l ≡ b → chosen a (ls ++ (l ∷ [])) ≡ grown j b (chosen a ls) l
chosen_more j b a ls l w o = λ i. record { axes = on axis i; template = templates i; spares = on spare i; extras = on extra i; items = on item i; areas = drawn area i; rows = drawn row i }
  where
    on : (k : Kind) → lines_in k a (ls ++ (l ∷ [])) ≡ more (same (word j) (word k) && b) (lines_in k a ls) l
    on k =
        those-more (λ m. is_of k m && is_on a m) ls l
        ∙ ap₂ (λ (f : List ℕ) (t : Bool). more (same f (word k) && t) (lines_in k a ls) l) w o

    templates : template_in a (ls ++ (l ∷ [])) ≡ more ((same (word j) (word name) || (same (word j) (word track) || (same (word j) (word repeat) || same (word j) (word end)))) && b) (template_in a ls) l
    templates =
        those-more (λ m. is_template m && is_on a m) ls l
        ∙ ap₂ (λ (f : List ℕ) (t : Bool). more ((same f (word name) || (same f (word track) || (same f (word repeat) || same f (word end)))) && t) (template_in a ls) l) w o

    drawn : (k : Kind) → lines_with k (ls ++ (l ∷ [])) ≡ more (same (word j) (word k)) (lines_with k ls) l
    drawn k = those-more (is_of k) ls l ∙ ap (λ (f : List ℕ). more (same f (word k)) (lines_with k ls) l) w

-- the lines of a repeat that has no end yet
abbrev pub open_lines : Unended → List TemplateLine
open_lines none = []
open_lines (inside r) = opening r.kind r.number ∷ map piece r.pieces

abbrev all_lines : AxisView → List TemplateLine
all_lines x = template_lines x.template ++ open_lines x.unended

abbrev item_in : Line → ℕ
item_in l = count_in (at l 2)

-- ---- an axis says what its lines say

pub record AxisAgrees (a : Axis) (c : Chosen) (x : AxisView) : Type 0 where
  pub line : x.line ≡ last_of no_line (map axis_line_in c.axes)
  pub template : all_lines x ≡ map template_line_in c.template
  pub spares : x.spares ≡ map sizes_in c.spares
  pub negative : x.negative ≡ last_of 0 (map (λ l. count_in (at l 2)) c.extras)
  pub positive : x.positive ≡ last_of 0 (map (λ l. count_in (at l 3)) c.extras)
  pub held : length x.marks ≡ 30000
  pub marks : (i : ℕ) → i < 30000 → get_or x.marks i 0 ≡ cond (is_among i (map item_in c.items)) 1 0
  pub areas : x.areas ≡ max (drawn_in a (map words_in c.rows)) (largest (map (span_in a) c.areas))

-- what a line of the template does: it is one line more, and nothing else changes
pub record Written (x : AxisView) (before : List TemplateLine) (t : TemplateLine) (y : AxisView) : Type 0 where
  pub items : List AnItem
  pub unended : Unended
  pub kept : y ≡ with_template x items unended
  pub lines : template_lines items ++ open_lines unended ≡ before ++ (t ∷ [])

-- an item more, where no repeat is open
item-more : (x : AxisView) (i : AnItem) (t : TemplateLine) → item_lines i ≡ t ∷ [] → template_lines (x.template ++ (i ∷ [])) ++ [] ≡ (template_lines x.template ++ []) ++ (t ∷ [])
item-more x i t e =
    append-nil (template_lines (x.template ++ (i ∷ [])))
    ∙ template-more x.template i
    ∙ ap₂ (λ (l m : List TemplateLine). l ++ m) (sym (append-nil (template_lines x.template))) e

-- a piece more in the repeat that is open
piece_more : (x : AxisView) (r : ARepeat) (p : Piece)
    → template_lines x.template ++ (opening r.kind r.number ∷ map piece (r.pieces ++ (p ∷ [])))
    ≡ (template_lines x.template ++ (opening r.kind r.number ∷ map piece r.pieces)) ++ (piece p ∷ [])
piece_more x r p =
    ap (λ (l : List TemplateLine). template_lines x.template ++ (opening r.kind r.number ∷ l)) (map-append piece r.pieces (p ∷ []))
    ∙ sym (append_assoc (template_lines x.template) (opening r.kind r.number ∷ map piece r.pieces) (piece p ∷ []))

-- a fault beside a name is one
pub fault_stays : (length fault : ℕ) → (fault ≡ 0 → ⊥) → named_fault length fault ≡ 0 → ⊥
fault_stays length fault h = go (ltb 32 length)
  where
    go : (t : Bool) → cond t 2 fault ≡ 0 → ⊥
    go true z = omega arith
    go false z = h z

module _ (x : AxisView) where
  pub name-written : (n : List ℕ) → (name_step x n).fault ≡ 0 → Written x (all_lines x) (piece (a_name n)) (name_step x n).axis
  unfolding name_step
  name-written n = go (no_room 4096 32768 (length (axis_names x)) (length (axis_bytes x)) (length n))
    where
      named : (u : Unended) → Written x (template_lines x.template ++ open_lines u) (piece (a_name n)) (with_name x u n)
      named none = record { items = x.template ++ (single (a_name n) ∷ []); unended = none; kept = refl; lines = item-more x (single (a_name n)) (piece (a_name n)) refl }
      named (inside r) = record { items = x.template; unended = inside (more_pieces r (a_name n)); kept = refl; lines = piece_more x r (a_name n) }

      by : Bool → AxisOutcome
      by t = cond t (refused (named_fault (length n) 8) x) (accepted (with_name x x.unended n))

      go : (t : Bool) → (by t).fault ≡ 0 → Written x (all_lines x) (piece (a_name n)) (by t).axis
      go true = λ z. absurd (fault_stays (length n) 8 (λ q. not-zero 7 q) z)
      go false = λ z. named x.unended

  pub track-written : (low high : ℕ) → (track_step x low high).fault ≡ 0 → Written x (all_lines x) (piece (a_track (record { min = low; max = high }))) (track_step x low high).axis
  unfolding track_step
  track-written low high = go x.unended
    where
      t : Sizes
      t = record { min = low; max = high }

      alone : (b : Bool) → (cond b (refused 8 x) (accepted (with_item x (single (a_track t))))).fault ≡ 0
          → Written x (template_lines x.template ++ []) (piece (a_track t)) (cond b (refused 8 x) (accepted (with_item x (single (a_track t))))).axis
      alone true = λ z. absurd (not-zero 7 z)
      alone false = λ z. record { items = x.template ++ (single (a_track t) ∷ []); unended = none; kept = refl; lines = item-more x (single (a_track t)) (piece (a_track t)) refl }

      within : (r : ARepeat) (b : Bool) → (cond b (refused 8 x) (accepted (with_piece x r (a_track t)))).fault ≡ 0
          → Written x (template_lines x.template ++ open_lines (inside r)) (piece (a_track t)) (cond b (refused 8 x) (accepted (with_piece x r (a_track t)))).axis
      within r true = λ z. absurd (not-zero 7 z)
      within r false = λ z. record { items = x.template; unended = inside (more_pieces r (a_track t)); kept = refl; lines = piece_more x r (a_track t) }

      go : (u : Unended) → (track_by x u t).fault ≡ 0 → Written x (template_lines x.template ++ open_lines u) (piece (a_track t)) (track_by x u t).axis
      go none = alone (ltb 63 (length (components_of x.template)))
      go (inside r) = within r (ltb 31 (length (tracks_in r.pieces)))

  pub repeat-written : (kind number : ℕ) → (repeat_step x kind number).fault ≡ 0 → Written x (all_lines x) (opening (repeat_kind kind) number) (repeat_step x kind number).axis
  unfolding repeat_step
  repeat-written kind number = go x.unended
    where
      opened : AxisView
      opened = with_template x x.template (inside (record { kind = repeat_kind kind; number = number; pieces = [] }))

      by : Bool → Bool → AxisOutcome
      by t u = cond t (refused 4 x) (cond u (refused 8 x) (accepted opened))

      alone : (t u : Bool) → (by t u).fault ≡ 0 → Written x (template_lines x.template ++ []) (opening (repeat_kind kind) number) (by t u).axis
      alone true u = λ z. absurd (not-zero 3 z)
      alone false true = λ z. absurd (not-zero 7 z)
      alone false false = λ z. record {
        items = x.template;
        unended = inside (record { kind = repeat_kind kind; number = number; pieces = [] });
        kept = refl;
        lines = ap (λ (l : List TemplateLine). l ++ (opening (repeat_kind kind) number ∷ [])) (sym (append-nil (template_lines x.template)));
      }

      go : (u : Unended) → (repeat_by x u kind number).fault ≡ 0 → Written x (template_lines x.template ++ open_lines u) (opening (repeat_kind kind) number) (repeat_by x u kind number).axis
      go none = alone (ltb 65535 number) (ltb 63 (length (components_of x.template)))
      go (inside r) = λ z. absurd (not-zero 0 z)

  pub end-written : (end_step x).fault ≡ 0 → Written x (all_lines x) closing (end_step x).axis
  unfolding end_step
  end-written = go x.unended
    where
      go : (u : Unended) → (end_by x u).fault ≡ 0 → Written x (template_lines x.template ++ open_lines u) closing (end_by x u).axis
      go none = λ z. absurd (not-zero 0 z)
      go (inside r) = λ z. record {
        items = x.template ++ (a_repeat r ∷ []);
        unended = none;
        kept = refl;
        lines =
            append-nil (template_lines (x.template ++ (a_repeat r ∷ [])))
            ∙ template-more x.template (a_repeat r)
            ∙ sym (append_assoc (template_lines x.template) (open_lines (inside r)) (closing ∷ []));
      }

module _ (a : Axis) (c : Chosen) (x : AxisView) (agrees : AxisAgrees a c x) (l : Line) where
  -- a line of the template; the lists of the others are as they were
  pub template-agrees : (t : TemplateLine) (y : AxisView) → Written x (all_lines x) t y → template_line_in l ≡ t
      → AxisAgrees a (record { axes = c.axes; template = c.template ++ (l ∷ []); spares = c.spares; extras = c.extras; items = c.items; areas = c.areas; rows = c.rows }) y
  template-agrees t y w e =
      rw w.kept
      (record {
        line = agrees.line;
        template =
            w.lines
            ∙ ap₂ (λ (m : List TemplateLine) (q : TemplateLine). m ++ (q ∷ [])) agrees.template (sym e)
            ∙ sym (map-append template_line_in c.template (l ∷ []));
        spares = agrees.spares;
        negative = agrees.negative;
        positive = agrees.positive;
        held = agrees.held;
        marks = agrees.marks;
        areas = agrees.areas;
      })

  pub spare-agrees : (low high : ℕ) → record { min = low; max = high } ≡ sizes_in l → (spare_step x low high).fault ≡ 0 → AxisAgrees a (grown spare true c l) (spare_step x low high).axis
  unfolding spare_step same more
  spare-agrees low high e = go (ltb 63 (length x.spares))
    where
      y : AxisView
      y =
          record {
            line = x.line;
            template = x.template;
            unended = x.unended;
            spares = x.spares ++ (record { min = low; max = high } ∷ []);
            negative = x.negative;
            positive = x.positive;
            marks = x.marks;
            areas = x.areas;
          }

      go : (t : Bool) → (cond t (refused 8 x) (accepted y)).fault ≡ 0 → AxisAgrees a (grown spare true c l) (cond t (refused 8 x) (accepted y)).axis
      go true = λ z. absurd (not-zero 7 z)
      go false = λ z. record {
        line = agrees.line;
        template = agrees.template;
        spares = ap₂ (λ (m : List Sizes) (q : Sizes). m ++ (q ∷ [])) agrees.spares e ∙ sym (map-append sizes_in c.spares (l ∷ []));
        negative = agrees.negative;
        positive = agrees.positive;
        held = agrees.held;
        marks = agrees.marks;
        areas = agrees.areas;
      }

  pub extra-agrees : (n p : ℕ) → n ≡ count_in (at l 2) → p ≡ count_in (at l 3) → AxisAgrees a (grown extra true c l) (extra_step x n p).axis
  unfolding extra_step same more
  extra-agrees n p d e = record {
    line = agrees.line;
    template = agrees.template;
    spares = agrees.spares;
    negative = last (λ m. count_in (at m 2)) d;
    positive = last (λ m. count_in (at m 3)) e;
    held = agrees.held;
    marks = agrees.marks;
    areas = agrees.areas;
  }
    where
      last : {k : ℕ} (f : Line → ℕ) → k ≡ f l → k ≡ last_of 0 (map f (c.extras ++ (l ∷ [])))
      last f q = q ∙ sym (ap (last_of 0) (map-append f c.extras (l ∷ [])) ∙ last_more 0 (map f c.extras) (f l))

  pub item-agrees : (i : ℕ) → i ≡ item_in l → (item_step x i).fault ≡ 0 → AxisAgrees a (grown item true c l) (item_step x i).axis
  unfolding item_step same more
  item-agrees i e = go (ltb 29999 i) refl
    where
      y : AxisView
      y =
          record {
            line = x.line;
            template = x.template;
            unended = x.unended;
            spares = x.spares;
            negative = x.negative;
            positive = x.positive;
            marks = set x.marks i 1;
            areas = x.areas;
          }

      marked : i < 30000 → (k : ℕ) → k < 30000 → get_or (set x.marks i 1) k 0 ≡ cond (is_among k (map item_in (c.items ++ (l ∷ [])))) 1 0
      marked h k q = rw (map-append item_in c.items (l ∷ []), among-more k (map item_in c.items) (item_in l), sym e) (pick (eqb k i) refl)
        where
          pick : (t : Bool) → eqb k i ≡ t → get_or (set x.marks i 1) k 0 ≡ cond (is_among k (map item_in c.items) || t) 1 0
          pick true d =
              let s : k ≡ i = eqb-true k i d in
              rw (s, get_or-set_same x.marks i 1 0 (omega (arith, agrees.held))) (either (is_among i (map item_in c.items)))
            where
              either : (u : Bool) → ◌≡◌ {A = ℕ} 1 (cond (u || true) 1 0)
              either true = refl
              either false = refl
          pick false d = get_or-set_other x.marks i k 1 0 (eqb-false k i d) ∙ agrees.marks k q ∙ neither (is_among k (map item_in c.items))
            where
              neither : (u : Bool) → ◌≡◌ {A = ℕ} (cond u 1 0) (cond (u || false) 1 0)
              neither true = refl
              neither false = refl

      go : (t : Bool) → ltb 29999 i ≡ t → (cond t (refused 4 x) (accepted y)).fault ≡ 0 → AxisAgrees a (grown item true c l) (cond t (refused 4 x) (accepted y)).axis
      go true d = λ z. absurd (not-zero 3 z)
      go false d = λ z. record {
        line = agrees.line;
        template = agrees.template;
        spares = agrees.spares;
        negative = agrees.negative;
        positive = agrees.positive;
        held = length-set x.marks i 1 ∙ agrees.held;
        marks = marked (omega (arith, ltb-false 29999 i d));
        areas = agrees.areas;
      }

  pub axis-agrees : (definite inner rule gap : ℕ) → record { seen = 1; definite = definite; inner = inner; rule = rule; gap = gap } ≡ axis_line_in l
      → AxisAgrees a (grown axis true c l) (axis_step x definite inner rule gap).axis
  unfolding axis_step same more
  axis-agrees definite inner rule gap e = record {
    line = e ∙ sym (ap (last_of no_line) (map-append axis_line_in c.axes (l ∷ [])) ∙ last_more no_line (map axis_line_in c.axes) (axis_line_in l));
    template = agrees.template;
    spares = agrees.spares;
    negative = agrees.negative;
    positive = agrees.positive;
    held = agrees.held;
    marks = agrees.marks;
    areas = agrees.areas;
  }

  -- an area, whatever its second field is
  pub area-agrees : (b : Bool) (n : ℕ) → n - 1 ≡ span_in a l → AxisAgrees a (grown area b c l) (raised x n)
  unfolding same more
  area-agrees b n e = record {
    line = agrees.line;
    template = agrees.template;
    spares = agrees.spares;
    negative = agrees.negative;
    positive = agrees.positive;
    held = agrees.held;
    marks = agrees.marks;
    areas =
        ap₂ max agrees.areas e
        ∙ joined (drawn_in a (map words_in c.rows)) (largest (map (span_in a) c.areas)) (span_in a l)
        ∙ ap (max (drawn_in a (map words_in c.rows))) (sym (ap largest (map-append (span_in a) c.areas (l ∷ [])) ∙ largest-more (map (span_in a) c.areas) (span_in a l)));
  }
    where
      joined : (m n k : ℕ) → max (max m n) k ≡ max m (max n k)
      joined m n k = omega arith

  -- a row, whatever its second field is
  pub row-agrees : (b : Bool) (n : ℕ) → max (drawn_in a (map words_in c.rows)) (n - 1) ≡ drawn_in a (map words_in (c.rows ++ (l ∷ []))) → AxisAgrees a (grown row b c l) (raised x n)
  unfolding same more
  row-agrees b n e = record {
    line = agrees.line;
    template = agrees.template;
    spares = agrees.spares;
    negative = agrees.negative;
    positive = agrees.positive;
    held = agrees.held;
    marks = agrees.marks;
    areas =
        ap (λ (m : ℕ). max m (n - 1)) agrees.areas
        ∙ turned (drawn_in a (map words_in c.rows)) (largest (map (span_in a) c.areas)) (n - 1)
        ∙ ap (λ (m : ℕ). max m (largest (map (span_in a) c.areas))) e;
  }
    where
      turned : (m n k : ℕ) → max (max m n) k ≡ max (max m k) n
      turned m n k = omega arith
