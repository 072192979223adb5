-- Accepted edits after a sheet give the panel of the sheet with their lines in it, and one more is refused as its line is there. Assumes nothing.
use Prim.Native.Nat.{ℕ, ◌≤◌}
use mathlib.Core.Path.{◌≡◌, refl, sym, ap, ◌∙◌, subst}
use mathlib.Core.List.{List, [], ◌∷◌, ◌++◌, append-nil, append_assoc, map}
use mathlib.Core.Bool.{Bool, true, false, cond, false≢true}
use mathlib.Core.Logic.{⊎_elim}
use native.Mathlib.Omega.{arith}
use lib.Dec.{eqb, leb, ltb}
use lib.ListN.{length}
use borrow.Author.Tests.{eqb-true, eqb-false, eq-eqb, le-ltb}
use Rattle.sheet_forms.specs.Said.{Record}
use Rattle.sheet_forms.specs.Said.{Area as AreaLine}
use Rattle.sheet_forms.specs.declared.AreaRecord.{AreaRecord}
use Rattle.sheet_forms.specs.Words.{at}
use Rattle.sheet_forms.specs.Forms.{area}
use Rattle.sheet_forms.specs.Records.{record_of, fault_of}
use Rattle.sheet_forms.proofs.Firsts.{none_or_some}
use Rattle.panel_tables.specs.declared.AreaEdges.{AreaEdges}
use Rattle.panel_tables.specs.View.{Area, PanelView, PanelOutcome, empty_view, has_area, refused, accepted, edges_outside, area_step}
use Rattle.panel_cells.specs.Steps.{first_sharing}
use Rattle.sheet_rules.specs.Contents.{Line, those, is_of, lines_with, lines_of}
use Rattle.sheet_rules.specs.Lines.{edges_of, record_step, twice_fault, late_fault, overlap_fault, at_stage, strict_fault, line_fault, line_step}
use Rattle.sheet_rules.proofs.Says.{record_says}
use Rattle.sheet_rules.proofs.LineFields.{Reads, record_reads}
use Rattle.sheet_rules.proofs.Pictures.{CleanLine, clean_line}
use Rattle.panel_rules.specs.Runs.{Call}
use Rattle.edit_rules.specs.Edits.{Edit, line, enter, unread, is_edit, edit_of}
use Rattle.edit_rules.specs.Replay.{reopened, edit_fault, edit_step, edited_by}
use Rattle.edit_rules.specs.Bases.{base_of}
use Rattle.edit_rules.specs.Theorem.{after_rows, taken_by, leading, behind, edit_lines, not_area, sheet_with, contents, AllEdits, LastLine, EditsAsSheet, EditAsSheet}
use Rattle.edit_rules.proofs.Alike.{Alike, AlikeLine, alike_self, alike_back, alike_then, contents_alike, added_alike, line_alike}
use Rattle.edit_rules.proofs.Areas.{with_area, area-taken, AllLater, Later, area_last}
use Rattle.edit_rules.proofs.EditRecords.{edit_record, edit_timely}
use Rattle.edit_rules.proofs.Appended.{taken_last}
use Rattle.edit_rules.proofs.Bases.{base_stage}
use Rattle.edit_rules.proofs.Sorts.{AreaSaid, unsaid, said, area_said, own_place, edit_later, later_common, never_late}
use Rattle.edit_rules.proofs.Texts.{texts_all}
use Rattle.edit_rules.proofs.Taken.{line_clean, rows_alike, rows_stage, taken_first, taken_one, taken_refused, taken_append, taken_former, taken_stage, taken_alike, later_areas, leading_behind, leading_taken, behind_all_later, sheet_taken}

-- ---- an area

-- an accepted one puts one more
area_added : (v : PanelView) (fs : Line) (a : AreaRecord) → record_of fs ≡ AreaLine a → line_fault v fs ≡ 0
    → Alike (line_step v fs).panel (with_area (at fs 1) (edges_of a) v) × ((line_step v fs).panel.stage ≡ 1)
unfolding record_step
area_added v fs a e z = go (subst (CleanLine v fs) e (clean_line v fs (line_clean v fs z)))
  where
    n : List ℕ
    n = at fs 1

    go : CleanLine v fs (AreaLine a) → Alike (line_step v fs).panel (with_area n (edges_of a) v) × ((line_step v fs).panel.stage ≡ 1)
    go c =
        let put : (line_step v fs).panel ≡ at_stage 1 (with_area n (edges_of a) v) = c.panel ∙ ap (at_stage 1) (area-taken n (edges_of a) v c.step) in (
          subst (λ (w : PanelView). Alike w (with_area n (edges_of a) v)) (sym put)
              (record { columns = refl; rows = refl; areas = refl; picture = refl; placements = refl; count = refl }),
          ap (λ (w : PanelView). w.stage) put,
        )

-- its faults look at the areas alone
module _ (v w : PanelView) (h : v.areas ≡ w.areas) where
  area_step_fault : (n : List ℕ) (e : AreaEdges) → (area_step v n e).fault ≡ (area_step w n e).fault
  unfolding area_step
  area_step_fault n e =
      go (edges_outside e) (ltb 32 (length n)) (ltb 32 (length n)) (leb 64 (length v.areas)) (leb 64 (length w.areas)) (ap (λ (l : List Area). leb 64 (length l)) h)
    where
      go : (s k t u x : Bool) → u ≡ x
          → (cond s (refused (cond k 2 4) v) (cond t (refused 2 v) (cond u (refused 8 v) (accepted (with_area n e v))))).fault
          ≡ (cond s (refused (cond k 2 4) w) (cond t (refused 2 w) (cond x (refused 8 w) (accepted (with_area n e w))))).fault
      go true k t u x q = refl
      go false k true u x q = refl
      go false k false true true q = refl
      go false k false true false q = absurd (false≢true (sym q))
      go false k false false true q = absurd (false≢true q)
      go false k false false false q = refl

  area_strict : (fs : Line) (r : Record) → AreaSaid r → late_fault v r ≡ late_fault w r → strict_fault v fs r ≡ strict_fault w fs r
  unfolding strict_fault record_step
  area_strict fs r (unsaid n) late = rw late
  area_strict fs r (said a) late =
      let twice : twice_fault v fs (AreaLine a) ≡ twice_fault w fs (AreaLine a) = ap (λ (l : List Area). cond (has_area (at fs 1) l) 6 0) h in
      let over : overlap_fault v (AreaLine a) ≡ overlap_fault w (AreaLine a) = ap (λ (l : List Area). cond (eqb (first_sharing (edges_of a) l) 0) 0 12) h in
      rw (twice, late, over, area_step_fault (at fs 1) (edges_of a))

-- among those that come before all other lines none is late
area_timely : (v : PanelView) (fs : Line) → v.stage ≤ 2 → is_of area fs ≡ true → (r : Record) → AreaSaid r → late_fault (after_rows v fs) r ≡ 0
area_timely v fs h e r (unsaid n) = own_place (after_rows v fs).stage
area_timely v fs h e r (said a) = rw e (go (eqb v.stage 2) refl)
  where
    go : (t : Bool) → eqb v.stage 2 ≡ t → late_fault (cond t (reopened v) v) (AreaLine a) ≡ 0
    go true f = refl
    go false f = rw (le-ltb 1 v.stage (omega (arith, h, eqb-false v.stage 2 f)))

-- ---- an edit on panels that are alike

pub record AlikeEdit (v w : PanelView) (fs : Line) : Type 0 where
  pub fault : edit_fault v fs ≡ edit_fault w fs
  pub panel : Alike (edit_step v fs).panel (edit_step w fs).panel

edit_taken : (v : PanelView) (fs : Line) → edit_fault v fs ≡ 0 → (edit_step v fs).panel ≡ (line_step (reopened v) fs).panel
unfolding edit_step
edit_taken v fs z = rw (eq-eqb (edit_fault v fs) 0 z)

edit_step_fault : (v : PanelView) (fs : Line) → (edit_step v fs).fault ≡ edit_fault v fs
unfolding edit_step
edit_step_fault v fs = go (eqb (edit_fault v fs) 0) refl
  where
    go : (t : Bool) → eqb (edit_fault v fs) 0 ≡ t → (cond t (accepted (line_step (reopened v) fs).panel) (refused (edit_fault v fs) v)).fault ≡ edit_fault v fs
    go true e = sym (eqb-true (edit_fault v fs) 0 e)
    go false e = refl

reopened_alike : (v : PanelView) → Alike v (reopened v)
reopened_alike v = record { columns = refl; rows = refl; areas = refl; picture = refl; placements = refl; count = refl }

-- ---- the sheet's lines before and behind the areas of edits, and the panel after those edits

record Sides (v : PanelView) (ls : List Line) (w : PanelView) : Type 0 where
  lead : v.stage ≤ 2
  later : AllLater ls
  fault : (taken_by v ls).fault ≡ 0
  alike : Alike (taken_by v ls).panel w

later_append : (ls : List Line) (fs : Line) → AllLater ls → Later (record_of fs) → AllLater (ls ++ (fs ∷ []))
later_append [] fs l k = (k, tt)
later_append (gs ∷ ls) fs l k = (l.0, later_append ls fs l.1 k)

module _ (v : PanelView) (ls : List Line) (w : PanelView) (s : Sides v ls w) (fs : Line) (edit : is_edit fs ≡ true) where
  abbrev x : PanelView
  x = after_rows v fs

  abbrev u : PanelView
  u = (taken_by v ls).panel

  module _ (e : is_of area fs ≡ true) where
    its_record : AreaSaid (record_of fs)
    its_record = area_said fs (record_of fs) (record_says fs) e

    area_same : line_fault x fs ≡ edit_fault w fs
    unfolding line_fault
    area_same =
        area_strict x (reopened w) ((rows_alike v fs).areas ∙ sym (later_areas v ls s.later) ∙ s.alike.areas) fs (record_of fs) its_record
        (area_timely v fs s.lead e (record_of fs) its_record ∙ sym (edit_timely w (edit_record fs edit)))

    area_sides : edit_fault w fs ≡ 0 → Sides (line_step x fs).panel ls (edit_step w fs).panel
    area_sides z = go (record_of fs) refl its_record (record_reads fs)
      where
        y : line_fault x fs ≡ 0
        y = area_same ∙ z

        own : fault_of (record_of fs) ≡ 0
        own = (clean_line x fs (line_clean x fs y)).own

        put : (a : AreaRecord) → record_of fs ≡ AreaLine a → Sides (line_step x fs).panel ls (edit_step w fs).panel
        put a q =
            let n = at fs 1 in
            let g = edges_of a in
            let added = area_added x fs a q y in
            let edited = area_added (reopened w) fs a q z in
            let last = area_last n g v ls s.later in
            let both =
            taken_alike (line_step x fs).panel (with_area n g v) ls (alike_then added.0 (added_alike x v (rows_alike v fs) n g))
            (omega (arith, added.1)) (omega (arith, s.lead)) s.later
            in
            record {
              lead = omega (arith, added.1);
              later = s.later;
              fault = both.fault ∙ ap (λ (o : PanelOutcome). o.fault) last ∙ s.fault;
              alike =
                  alike_then both.panel
                  (subst (λ (o : PanelOutcome). Alike o.panel (edit_step w fs).panel) (sym last)
                  (alike_then (added_alike u w s.alike n g)
                  (alike_then (added_alike w (reopened w) (reopened_alike w) n g)
                  (subst (λ (p : PanelView). Alike (with_area n g (reopened w)) p) (sym (edit_taken w fs z)) (alike_back edited.0)))));
            }

        go : (r : Record) → record_of fs ≡ r → AreaSaid r → Reads fs r → Sides (line_step x fs).panel ls (edit_step w fs).panel
        go r q (unsaid n) k = absurd (k (ap fault_of (sym q) ∙ own))
        go r q (said a) k = put a q

  module _ (e : is_of area fs ≡ false) where
    its_place : Later (record_of fs)
    its_place = edit_later fs (record_of fs) (edit_record fs edit) (record_says fs) e

    last : taken_by v (ls ++ (fs ∷ [])) ≡ taken_by u (fs ∷ [])
    last = taken_append v ls (fs ∷ []) s.fault

    last_stage : (after_rows u fs).stage ≤ 3
    last_stage = rows_stage u fs 3 (omega arith) (taken_stage v ls (omega (arith, s.lead)))

    last_alike : AlikeLine (after_rows u fs) (reopened w) fs
    last_alike =
        line_alike (after_rows u fs) (reopened w) (alike_then (rows_alike u fs) (alike_then s.alike (reopened_alike w))) fs (later_common (record_of fs) its_place)
        (never_late (after_rows u fs) (record_of fs) its_place last_stage ∙ sym (edit_timely w (edit_record fs edit)))

    other_same : (taken_by v (ls ++ (fs ∷ []))).fault ≡ edit_fault w fs
    other_same = ap (λ (o : PanelOutcome). o.fault) last ∙ taken_one u fs ∙ last_alike.fault

    other_sides : edit_fault w fs ≡ 0 → Sides v (ls ++ (fs ∷ [])) (edit_step w fs).panel
    unfolding taken_by
    other_sides z =
        record {
          lead = s.lead;
          later = later_append ls fs s.later its_place;
          fault = other_same ∙ z;
          alike =
              subst (λ (o : PanelOutcome). Alike o.panel (edit_step w fs).panel) (sym (last ∙ taken_first u fs [] (last_alike.fault ∙ z)))
              (subst (λ (p : PanelView). Alike (line_step (after_rows u fs) fs).panel p) (sym (edit_taken w fs z)) last_alike.step.panel);
        }

-- ---- all edits

-- their lines put in between and behind
abbrev put : PanelView → List Line → List Edit → PanelOutcome
put v ls edits = taken_by v (lines_with area (edit_lines edits) ++ (ls ++ those not_area (edit_lines edits)))

put_none : (v : PanelView) (ls : List Line) → put v ls [] ≡ taken_by v ls
unfolding edit_lines those
put_none v ls = ap (taken_by v) (append-nil ls)

put_enter : (v : PanelView) (ls : List Line) (c : Call) (edits : List Edit) → put v ls (enter c ∷ edits) ≡ put v ls edits
unfolding edit_lines
put_enter v ls c edits = refl

module _ (v : PanelView) (ls : List Line) (fs : Line) (edits : List Edit) where
  abbrev tail : List Line
  tail = lines_with area (edit_lines edits) ++ (ls ++ those not_area (edit_lines edits))

  put_area : is_of area fs ≡ true → put v ls (line fs ∷ edits) ≡ taken_by v (fs ∷ tail)
  unfolding edit_lines those
  put_area e = rw e

  put_other : is_of area fs ≡ false → put v ls (line fs ∷ edits) ≡ put v (ls ++ (fs ∷ [])) edits
  unfolding edit_lines those
  put_other e =
      rw e
      (ap (λ (l : List Line). taken_by v (lines_with area (edit_lines edits) ++ l)) (sym (append_assoc ls (fs ∷ []) (those not_area (edit_lines edits)))))

record EditedHead (w : PanelView) (fs : Line) (edits : List Edit) : Type 0 where
  fault : edit_fault w fs ≡ 0
  rest : edited_by w (line fs ∷ edits) ≡ edited_by (edit_step w fs).panel edits

edited_head : (w : PanelView) (fs : Line) (edits : List Edit) → (edited_by w (line fs ∷ edits)).fault ≡ 0 → EditedHead w fs edits
unfolding edited_by
edited_head w fs edits = go (eqb (edit_step w fs).fault 0) refl
  where
    go : (t : Bool) → eqb (edit_step w fs).fault 0 ≡ t → (cond t (edited_by (edit_step w fs).panel edits) (edit_step w fs)).fault ≡ 0 → EditedHead w fs edits
    go true e z = record { fault = sym (edit_step_fault w fs) ∙ eqb-true (edit_step w fs).fault 0 e; rest = rw e }
    go false e z = absurd (eqb-false (edit_step w fs).fault 0 e z)

edited_none : (w : PanelView) → edited_by w [] ≡ accepted w
unfolding edited_by
edited_none w = refl

edited_enter : (w : PanelView) (c : Call) (edits : List Edit) → edited_by w (enter c ∷ edits) ≡ edited_by w edits
unfolding edited_by
edited_enter w c edits = refl

edited_unread : (w : PanelView) (edits : List Edit) → (edited_by w (unread ∷ edits)).fault ≡ 0 → ⊥
unfolding edited_by
edited_unread w edits z = omega (arith, z)

record Put (v : PanelView) (ls : List Line) (w : PanelView) (edits : List Edit) : Type 0 where
  fault : (put v ls edits).fault ≡ 0
  alike : Alike (put v ls edits).panel (edited_by w edits).panel

-- what is put and what is edited may be replaced by what it is equal to
put_by : (v : PanelView) (ls : List Line) (w : PanelView) (edits : List Edit) (o p : PanelOutcome)
    → put v ls edits ≡ o → edited_by w edits ≡ p → o.fault ≡ 0 → Alike o.panel p.panel → Put v ls w edits
put_by v ls w edits o p e f z a =
    record {
      fault = ap (λ (x : PanelOutcome). x.fault) e ∙ z;
      alike = subst (λ (x : PanelOutcome). Alike x.panel (edited_by w edits).panel) (sym e) (subst (λ (x : PanelOutcome). Alike o.panel x.panel) (sym f) a);
    }

all_put : (edits : List Edit) → AllEdits edits → (v : PanelView) (ls : List Line) (w : PanelView) → Sides v ls w → (edited_by w edits).fault ≡ 0 → Put v ls w edits
all_put [] all v ls w s z = put_by v ls w [] (taken_by v ls) (accepted w) (put_none v ls) (edited_none w) s.fault s.alike
all_put (enter c ∷ edits) all v ls w s z =
    let i = all_put edits all v ls w s (ap (λ (o : PanelOutcome). o.fault) (sym (edited_enter w c edits)) ∙ z) in
    put_by v ls w (enter c ∷ edits) (put v ls edits) (edited_by w edits) (put_enter v ls c edits) (edited_enter w c edits) i.fault i.alike
all_put (unread ∷ edits) all v ls w s z = absurd (edited_unread w edits z)
all_put (line fs ∷ edits) all v ls w s z = go (λ ahead more t y. all_put edits all.1 ahead more (edit_step w fs).panel t y) (is_of area fs) refl
  where
    h : EditedHead w fs edits
    h = edited_head w fs edits z

    Rest : Type 0
    Rest = (ahead : PanelView) (more : List Line) → Sides ahead more (edit_step w fs).panel → (edited_by (edit_step w fs).panel edits).fault ≡ 0 → Put ahead more (edit_step w fs).panel edits

    next : Rest → (ahead : PanelView) (more : List Line) → Sides ahead more (edit_step w fs).panel → put v ls (line fs ∷ edits) ≡ put ahead more edits → Put v ls w (line fs ∷ edits)
    next all_rest ahead more t e =
        let i = all_rest ahead more t (ap (λ (o : PanelOutcome). o.fault) (sym h.rest) ∙ z) in
        put_by v ls w (line fs ∷ edits) (put ahead more edits) (edited_by (edit_step w fs).panel edits) e h.rest i.fault i.alike

    go : Rest → (t : Bool) → is_of area fs ≡ t → Put v ls w (line fs ∷ edits)
    go i true e =
        next i (line_step (after_rows v fs) fs).panel ls (area_sides v ls w s fs all.0 e h.fault)
        (put_area v ls fs edits e ∙ taken_first v fs (tail v ls fs edits) (area_same v ls w s fs all.0 e ∙ h.fault))
    go i false e = next i v (ls ++ (fs ∷ [])) (other_sides v ls w s fs all.0 e h.fault) (put_other v ls fs edits e)

-- one more
one_put : (v : PanelView) (ls : List Line) (w : PanelView) → Sides v ls w → (fs : Line) → is_edit fs ≡ true → edit_fault w fs ≡ (put v ls (line fs ∷ [])).fault
one_put v ls w s fs edit = go (is_of area fs) refl
  where
    area_fault : is_of area fs ≡ true → (taken_by v (fs ∷ tail v ls fs [])).fault ≡ edit_fault w fs
    area_fault e =
        ⊎_elim
        (λ z.
        let same = area_same v ls w s fs edit e in
        ap (λ (o : PanelOutcome). o.fault) (taken_first v fs (tail v ls fs []) (same ∙ z) ∙ put_none (line_step (after_rows v fs) fs).panel ls)
        ∙ (area_sides v ls w s fs edit e z).fault
        ∙ sym z)
        (λ z.
        let same = area_same v ls w s fs edit e in
        ap (λ (o : PanelOutcome). o.fault) (taken_refused v fs (tail v ls fs []) (λ k. z (sym same ∙ k))) ∙ same)
        (none_or_some (edit_fault w fs))

    go : (t : Bool) → is_of area fs ≡ t → edit_fault w fs ≡ (put v ls (line fs ∷ [])).fault
    go true e = sym (ap (λ (o : PanelOutcome). o.fault) (put_area v ls fs [] e) ∙ area_fault e)
    go false e = sym (ap (λ (o : PanelOutcome). o.fault) (put_other v ls fs [] e ∙ put_none v (ls ++ (fs ∷ []))) ∙ other_same v ls w s fs edit e)

last_put : (past : List Edit) → AllEdits past → (v : PanelView) (ls : List Line) (w : PanelView) → Sides v ls w → (edited_by w past).fault ≡ 0 → (fs : Line) → is_edit fs ≡ true
    → edit_fault (edited_by w past).panel fs ≡ (put v ls (past ++ (line fs ∷ []))).fault
last_put [] all v ls w s z fs edit = ap (λ (o : PanelOutcome). edit_fault o.panel fs) (edited_none w) ∙ one_put v ls w s fs edit
last_put (enter c ∷ past) all v ls w s z fs edit =
    ap (λ (o : PanelOutcome). edit_fault o.panel fs) (edited_enter w c past)
    ∙ last_put past all v ls w s (ap (λ (o : PanelOutcome). o.fault) (sym (edited_enter w c past)) ∙ z) fs edit
    ∙ ap (λ (o : PanelOutcome). o.fault) (sym (put_enter v ls c (past ++ (line fs ∷ []))))
last_put (unread ∷ past) all v ls w s z fs edit = absurd (edited_unread w past z)
last_put (line gs ∷ past) all v ls w s z fs edit = go (λ ahead more t y. last_put past all.1 ahead more (edit_step w gs).panel t y fs edit) (is_of area gs) refl
  where
    h : EditedHead w gs past
    h = edited_head w gs past z

    more_edits : List Edit
    more_edits = past ++ (line fs ∷ [])

    Rest : Type 0
    Rest =
        (ahead : PanelView) (more : List Line) → Sides ahead more (edit_step w gs).panel → (edited_by (edit_step w gs).panel past).fault ≡ 0
        → edit_fault (edited_by (edit_step w gs).panel past).panel fs ≡ (put ahead more more_edits).fault

    next : Rest → (ahead : PanelView) (more : List Line) → Sides ahead more (edit_step w gs).panel → put v ls (line gs ∷ more_edits) ≡ put ahead more more_edits
        → edit_fault (edited_by w (line gs ∷ past)).panel fs ≡ (put v ls (line gs ∷ more_edits)).fault
    next rest ahead more t e =
        ap (λ (o : PanelOutcome). edit_fault o.panel fs) h.rest
        ∙ rest ahead more t (ap (λ (o : PanelOutcome). o.fault) (sym h.rest) ∙ z)
        ∙ ap (λ (o : PanelOutcome). o.fault) (sym e)

    go : Rest → (t : Bool) → is_of area gs ≡ t → edit_fault (edited_by w (line gs ∷ past)).panel fs ≡ (put v ls (line gs ∷ more_edits)).fault
    go i true e =
        next i (line_step (after_rows v gs) gs).panel ls (area_sides v ls w s gs all.0 e h.fault)
        (put_area v ls gs more_edits e ∙ taken_first v gs (tail v ls gs more_edits) (area_same v ls w s gs all.0 e ∙ h.fault))
    go i false e = next i v (ls ++ (gs ∷ [])) (other_sides v ls w s gs all.0 e h.fault) (put_other v ls gs more_edits e)

-- ---- a sheet

module _ (s : List ℕ) (z : (base_of s).fault ≡ 0) where
  abbrev ahead : PanelView
  ahead = (taken_by empty_view (leading (lines_of s))).panel

  all_taken : taken_by empty_view (leading (lines_of s) ++ behind (lines_of s)) ≡ accepted (base_of s).view
  all_taken = ap (taken_by empty_view) (leading_behind (lines_of s)) ∙ sheet_taken s z

  ahead_taken : (taken_by empty_view (leading (lines_of s))).fault ≡ 0
  ahead_taken = taken_former empty_view (leading (lines_of s)) (behind (lines_of s)) (ap (λ (o : PanelOutcome). o.fault) all_taken)

  behind_taken : taken_by ahead (behind (lines_of s)) ≡ accepted (base_of s).view
  behind_taken = sym (taken_append empty_view (leading (lines_of s)) (behind (lines_of s)) ahead_taken) ∙ all_taken

  first_stage : empty_view.stage ≤ 2
  unfolding empty_view
  first_stage = omega arith

  sheet_sides : Sides ahead (behind (lines_of s)) (base_of s).view
  sheet_sides =
      let none = ap (λ (o : PanelOutcome). o.fault) behind_taken in
      record {
        lead = leading_taken empty_view (lines_of s) first_stage ahead_taken;
        later = behind_all_later ahead (lines_of s) none;
        fault = none;
        alike = subst (λ (o : PanelOutcome). Alike o.panel (base_of s).view) (sym behind_taken) (alike_self (base_of s).view);
      }

  sheet_put : (edits : List Edit) → sheet_with s edits ≡ put ahead (behind (lines_of s)) edits
  sheet_put edits =
      let areas = lines_with area (edit_lines edits) in
      let others = behind (lines_of s) ++ those not_area (edit_lines edits) in
      ap (taken_by empty_view) (append_assoc (leading (lines_of s)) areas others)
      ∙ taken_append empty_view (leading (lines_of s)) (areas ++ others) ahead_taken

  pub last_line : (fs : Line) → is_edit fs ≡ true → is_of area fs ≡ false → LastLine s fs
  last_line fs edit e =
      let all = sheet_taken s z in
      taken_append empty_view (lines_of s) (fs ∷ []) (ap (λ (o : PanelOutcome). o.fault) all)
      ∙ ap (λ (o : PanelOutcome). taken_by o.panel (fs ∷ [])) all
      ∙ taken_last (base_of s).view fs (base_stage s) edit e

  pub edits_as_sheet : (edits : List Edit) → AllEdits edits → (edited_by (base_of s).view edits).fault ≡ 0 → EditsAsSheet s edits
  edits_as_sheet edits all y =
      let p = all_put edits all ahead (behind (lines_of s)) (base_of s).view sheet_sides y in
      let e = sheet_put edits in
      record {
        accepted = ap (λ (o : PanelOutcome). o.fault) e ∙ p.fault;
        panel =
            sym (ap (λ (o : PanelOutcome). contents o.panel) e
            ∙ contents_alike (put ahead (behind (lines_of s)) edits).panel (edited_by (base_of s).view edits).panel p.alike);
      }

  pub edit_as_sheet : (past : List Edit) → AllEdits past → (edited_by (base_of s).view past).fault ≡ 0 → (fs : Line) → is_edit fs ≡ true → EditAsSheet s past fs
  edit_as_sheet past all y fs edit =
      last_put past all ahead (behind (lines_of s)) (base_of s).view sheet_sides y fs edit
      ∙ ap (λ (o : PanelOutcome). o.fault) (sym (sheet_put (past ++ (line fs ∷ []))))

-- ---- of any texts

pub texts_as_sheet : (s : List ℕ) → (base_of s).fault ≡ 0 → (texts : List (List ℕ)) → (edited_by (base_of s).view (map edit_of texts)).fault ≡ 0 → EditsAsSheet s (map edit_of texts)
texts_as_sheet s z texts = edits_as_sheet s z (map edit_of texts) (texts_all texts)
