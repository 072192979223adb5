-- Direct entries on what is held once a sheet has ended follow the calls on a panel: the same refusal, and what those leave. Assumes nothing.
use Prim.Native.Nat.{ℕ, ◌+◌}
use mathlib.Core.Path.{◌≡◌, refl, sym, ap, ◌∙◌}
use mathlib.Core.List.{List, [], ◌∷◌, map}
use mathlib.Core.Bool.{Bool, true, false, cond}
use lib.Dec.{eqb}
use lib.ListN.{length}
use borrow.Author.Tests.{eqb-false}
use Rattle.coordinates.specs.declared.axis.Axis.{Axis}
use Rattle.coordinates.specs.declared.axis.Axis.TheVariants.{Column, Row}
use Rattle.coordinates.specs.Refusals.{Refusal}
use Rattle.name_rules.specs.Css.{Entry}
use Rattle.panel_tables.specs.View.{PanelView}
use Rattle.panel_tables.specs.Axes.{view_in}
use Rattle.panel_tables.specs.Written.{PanelHeld, PanelStepped}
use Rattle.sheet_rules.specs.Panels.{Tables, entry_words}
use Rattle.sheet_rules.specs.Read.{short_stores}
use Rattle.panel_rules.specs.Runs.{Held, Call, refusal_in, after, after_calls}
use Rattle.panel_rules.specs.Views.{bytes_after, held_after, both}
use Rattle.panel_rules.specs.Book.{same_axis, table_refusal}
use Rattle.panel_rules.specs.Added.{refusal_after, entries_with}
use Rattle.panel_rules.proofs.Fit.{EntriesFit}
use Rattle.panel_rules.proofs.AxisEntry.{length-bytes, more-entries}
use Rattle.panel_rules.proofs.OneCall.{refusal-held, after-held}
use Rattle.panel_rules.proofs.Held.{with-fit}
use Rattle.edit_rules.specs.Edits.{Edit, line, enter, unread, edit_of}
use Rattle.edit_rules.specs.Settled.{calls_of, more_on, calls_fault}
use Rattle.panel_edits.specs.Steps.{stepped_by}
use Rattle.panel_edits.specs.Entered.{call_entered, edit_entered, entered}

-- what is held as a panel with its tables, the names of both axes as stores
abbrev pub as_held : PanelHeld → Held
as_held h =
    record {
      panel = h.panel;
      tables = record {
        columns = h.columns;
        rows = h.rows;
        column_marks = h.column_marks;
        row_marks = h.row_marks;
        areas = h.areas;
        area_bytes = h.area_bytes;
        placements = h.placements;
        placement_bytes = h.placement_bytes;
        column_store = h.column_bytes;
        row_store = h.row_bytes;
      };
    }

-- an entry leaves what the call leaves, and is refused as the call is
call_after : (h : PanelHeld) (c : Call) → as_held (call_entered h c).held ≡ after (as_held h) c
call_after h c = refl

call_fault : (h : PanelHeld) (c : Call) → (call_entered h c).fault ≡ (refusal_in (as_held h) c).number
call_fault h c = refl

-- ---- the table's refusals look at the counts alone

more_same : (a : Axis) (n : ℕ) (f g : Axis → ℕ) → ((b : Axis) → f b ≡ g b) → (b : Axis) → more_on a n f b ≡ more_on a n g b
more_same a n f g e b = ap (λ (m : ℕ). cond (same_axis b a) (m + n) m) (e b)

pub calls_same : (entries used entries_too used_too : Axis → ℕ) (calls : List Call) → ((a : Axis) → entries a ≡ entries_too a) → ((a : Axis) → used a ≡ used_too a)
    → calls_fault entries used calls ≡ calls_fault entries_too used_too calls
unfolding calls_fault
calls_same entries used entries_too used_too [] e u = refl
calls_same entries used entries_too used_too (c ∷ calls) e u =
    rw (e c.axis, u c.axis)
    (ap (λ (n : ℕ). cond (eqb (table_refusal (entries_too c.axis) (used_too c.axis) c.line c.name) 0) n (table_refusal (entries_too c.axis) (used_too c.axis) c.line c.name))
    (calls_same (more_on c.axis 1 entries) (more_on c.axis (length c.name) used) (more_on c.axis 1 entries_too) (more_on c.axis (length c.name) used_too) calls
    (more_same c.axis 1 entries entries_too e)
    (more_same c.axis (length c.name) used used_too u)))

-- ---- after a view and further entries of both axes

module _ (w : PanelView) where
  -- how many entries an axis has then, and how many bytes
  abbrev pub entries_at : List Entry → List Entry → Axis → ℕ
  entries_at es rs a = length (entry_words (view_in w a)) + length (both es rs a)

  abbrev pub used_at : List Entry → List Entry → Axis → ℕ
  used_at es rs a = length (bytes_after (view_in w a) (both es rs a))

  -- one more that is accepted
  module _ (es rs : List Entry) where
    entries_more : (a : Axis) (number : ℕ) (name : List ℕ) → let c : Call = record { axis = a; line = number; name = name } in
        eqb (refusal_after (view_in w a) (both es rs a) c) 0 ≡ true → (b : Axis)
        → more_on a 1 (entries_at es rs) b ≡ entries_at (entries_with Column w.columns es c) (entries_with Row w.rows rs c) b
    entries_more Column number name e Column = rw e (sym (more-entries w.columns es (record { line = number; name = name })))
    entries_more Column number name e Row = refl
    entries_more Row number name e Column = refl
    entries_more Row number name e Row = rw e (sym (more-entries w.rows rs (record { line = number; name = name })))

    used_more : (a : Axis) (number : ℕ) (name : List ℕ) → let c : Call = record { axis = a; line = number; name = name } in
        eqb (refusal_after (view_in w a) (both es rs a) c) 0 ≡ true → (b : Axis)
        → more_on a (length name) (used_at es rs) b ≡ used_at (entries_with Column w.columns es c) (entries_with Row w.rows rs c) b
    used_more Column number name e Column = rw e (sym (length-bytes w.columns es (record { line = number; name = name })))
    used_more Column number name e Row = refl
    used_more Row number name e Column = refl
    used_more Row number name e Row = rw e (sym (length-bytes w.rows rs (record { line = number; name = name })))

  module _ (t : Tables) (long : short_stores t ≡ false) where
    -- the first refusal, and what is held where there is none
    pub record FollowsCalls (es rs : List Entry) (calls : List Call) (x : PanelStepped) : Type 0 where
      pub fault : x.fault ≡ calls_fault (entries_at es rs) (used_at es rs) calls
      pub held : x.fault ≡ 0 → as_held x.held ≡ after_calls (held_after w t es rs) calls

    -- what is held for further entries that fit
    pub record Holds (es rs : List Entry) (h : PanelHeld) : Type 0 where
      pub columns : EntriesFit w.columns es
      pub rows : EntriesFit w.rows rs
      pub same : as_held h ≡ held_after w t es rs

    module _ (texts : List (List ℕ)) (calls : List Call) (rest : (es rs : List Entry) (h : PanelHeld) → Holds es rs h → FollowsCalls es rs calls (stepped_by entered h texts)) where
      module _ (es rs : List Entry) (h : PanelHeld) (k : Holds es rs h) (c : Call) where
        abbrev refusal : ℕ
        refusal = refusal_after (view_in w c.axis) (both es rs c.axis) c

        abbrev more : List Entry
        more = entries_with Column w.columns es c

        abbrev more_rows : List Entry
        more_rows = entries_with Row w.rows rs c

        refused_with : (call_entered h c).fault ≡ refusal
        refused_with =
            call_fault h c
            ∙ ap (λ (x : Held). (refusal_in x c).number) k.same
            ∙ ap (λ (r : Refusal). r.number) (refusal-held w t es rs long k.columns k.rows c)

        next : Holds more more_rows (call_entered h c).held
        next =
            record {
              columns = with-fit Column w.columns es c k.columns;
              rows = with-fit Row w.rows rs c k.rows;
              same = call_after h c ∙ ap (λ (x : Held). after x c) k.same ∙ after-held w t es rs long k.columns k.rows c;
            }

        entered_next : FollowsCalls es rs (c ∷ calls) (cond (eqb (call_entered h c).fault 0) (stepped_by entered (call_entered h c).held texts) (call_entered h c))
        unfolding calls_fault after_calls
        entered_next = go (eqb (call_entered h c).fault 0) refl
          where
            by_table : (b : Bool) → eqb (call_entered h c).fault 0 ≡ b → eqb refusal 0 ≡ b
            by_table b e = ap (λ (n : ℕ). eqb n 0) (sym refused_with) ∙ e

            go : (b : Bool) → eqb (call_entered h c).fault 0 ≡ b → FollowsCalls es rs (c ∷ calls) (cond b (stepped_by entered (call_entered h c).held texts) (call_entered h c))
            go true e =
                let r = rest more more_rows (call_entered h c).held next in
                record {
                  fault = rw (by_table true e)
                      (r.fault
                      ∙ sym
                      (calls_same (more_on c.axis 1 (entries_at es rs)) (more_on c.axis (length c.name) (used_at es rs)) (entries_at more more_rows) (used_at more more_rows) calls
                      (entries_more es rs c.axis c.line c.name (by_table true e))
                      (used_more es rs c.axis c.line c.name (by_table true e))));
                  held = λ z. r.held z ∙ ap (λ (x : Held). after_calls x calls) (sym (after-held w t es rs long k.columns k.rows c));
                }
            go false e =
                record {
                  fault = rw (by_table false e) refused_with;
                  held = λ z. absurd (eqb-false (call_entered h c).fault 0 e z);
                }

    edit_next : (text : List ℕ) (texts : List (List ℕ)) (e : Edit) (edits : List Edit)
        → ((es rs : List Entry) (h : PanelHeld) → Holds es rs h → FollowsCalls es rs (calls_of edits) (stepped_by entered h texts))
        → (es rs : List Entry) (h : PanelHeld) → Holds es rs h
        → FollowsCalls es rs (calls_of (e ∷ edits)) (cond (eqb (edit_entered h e).fault 0) (stepped_by entered (edit_entered h e).held texts) (edit_entered h e))
    unfolding calls_of
    edit_next text texts (line fs) edits rest es rs h k = rest es rs h k
    edit_next text texts (enter c) edits rest es rs h k = entered_next texts (calls_of edits) rest es rs h k c
    edit_next text texts unread edits rest es rs h k = rest es rs h k

    pub entries_after : (texts : List (List ℕ)) (es rs : List Entry) (h : PanelHeld) → Holds es rs h → FollowsCalls es rs (calls_of (map edit_of texts)) (stepped_by entered h texts)
    unfolding stepped_by entered
    entries_after [] es rs h k = unfold calls_of calls_fault after_calls in record { fault = refl; held = λ z. k.same }
    entries_after (text ∷ texts) es rs h k = edit_next text texts (edit_of text) (map edit_of texts) (entries_after texts) es rs h k
