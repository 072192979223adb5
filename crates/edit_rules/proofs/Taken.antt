-- Lines that are taken one after the other: in two parts, on panels that are alike, and as the lines of an accepted sheet. Assumes nothing.
use Prim.Native.Nat.{ℕ, ◌+◌, ◌≤◌}
use mathlib.Core.Path.{◌≡◌, refl, sym, ap, ◌∙◌, subst}
use mathlib.Core.List.{List, [], ◌∷◌, ◌++◌}
use mathlib.Core.Bool.{Bool, true, false, cond, ◌&&◌, false≢true}
use mathlib.Core.Logic.{inl}
use native.Mathlib.Omega.{arith}
use lib.Dec.{eqb, ltb}
use lib.ListN.{length}
use borrow.Author.Tests.{eqb-true, eqb-false, eq-eqb, ne_eqb}
use Rattle.text.specs.Split.{split}
use Rattle.sheet_forms.specs.Said.{Record}
use Rattle.sheet_forms.specs.Forms.{area}
use Rattle.sheet_forms.specs.Records.{record_of, fault_of}
use Rattle.panel_tables.specs.View.{PanelView, PanelOutcome, empty_view, refused, accepted}
use Rattle.sheet_rules.specs.Contents.{Line, is_of, lines_from, lines_of}
use Rattle.sheet_rules.specs.Lines.{late_at, stage_of, line_fault, shared_at, line_step}
use Rattle.sheet_rules.specs.Sheet.{outcome, no_overlap, overlap_at, overlap_from, overlap_of}
use Rattle.sheet_rules.proofs.Says.{record_says}
use Rattle.sheet_rules.proofs.LineFields.{Reads, record_reads}
use Rattle.sheet_rules.proofs.LineRows.{late-no}
use Rattle.sheet_rules.proofs.LineTheorem.{line-former}
use Rattle.sheet_rules.proofs.Pictures.{CleanLine, clean_line}
use Rattle.edit_rules.specs.Replay.{reopened}
use Rattle.edit_rules.specs.Bases.{lined, lined_sheet, base_of}
use Rattle.edit_rules.specs.Theorem.{after_rows, taken_by, is_leading, leading, behind}
use Rattle.edit_rules.proofs.Alike.{Alike, BothAlike, AlikeLine, alike_self, alike_back, alike_then, line_alike}
use Rattle.edit_rules.proofs.Areas.{AllLater, line_areas}
use Rattle.edit_rules.proofs.Bases.{base_parts}
use Rattle.edit_rules.proofs.Sorts.{AreaSaid, unsaid, said, area_said, leading_stage, behind_later, later_common, never_late, timely_later, later_place}
use Rattle.edit_rules.proofs.Stages.{line_stage}

-- ---- one line

-- without any fault there is none but for an overlap
pub line_clean : (v : PanelView) (fs : Line) → line_fault v fs ≡ 0 → (line_step v fs).fault ≡ 0
unfolding shared_at
line_clean v fs z = sym (line-former v fs (rw z)) ∙ z

pub rows_alike : (v : PanelView) (fs : Line) → Alike (after_rows v fs) v
rows_alike v fs = go (is_of area fs && eqb v.stage 2)
  where
    go : (t : Bool) → Alike (cond t (reopened v) v) v
    go true = record { columns = refl; rows = refl; areas = refl; picture = refl; placements = refl; count = refl }
    go false = alike_self v

pub rows_stage : (v : PanelView) (fs : Line) (n : ℕ) → 1 ≤ n → v.stage ≤ n → (after_rows v fs).stage ≤ n
rows_stage v fs n one h = go (is_of area fs && eqb v.stage 2)
  where
    go : (t : Bool) → (cond t (reopened v) v).stage ≤ n
    go true = one
    go false = h

pub rows_same : (v : PanelView) (fs : Line) → (v.stage ≡ 2 → ⊥) → after_rows v fs ≡ v
rows_same v fs h = rw (ne_eqb v.stage 2 h) (go (is_of area fs))
  where
    go : (t : Bool) → cond (t && false) (reopened v) v ≡ v
    go true = refl
    go false = refl

-- an accepted area follows no row
rows_none : (v : PanelView) (fs : Line) → CleanLine v fs (record_of fs) → after_rows v fs ≡ v
rows_none v fs c = go (is_of area fs) refl (eqb v.stage 2) refl
  where
    late : (r : Record) → AreaSaid r → Reads fs r → fault_of r ≡ 0 → late_at (stage_of v r) v.stage ≡ false → v.stage ≡ 2 → ⊥
    late r (unsaid n) x z h two = x z
    late r (said a) x z h two = late-no 1 v.stage h (inl (omega (arith, two)))

    go : (t : Bool) → is_of area fs ≡ t → (u : Bool) → eqb v.stage 2 ≡ u → cond (t && u) (reopened v) v ≡ v
    go true e true f = absurd (late (record_of fs) (area_said fs (record_of fs) (record_says fs) e) (record_reads fs) c.own c.timely (eqb-true v.stage 2 f))
    go true e false f = refl
    go false e u f = refl

-- ---- line after line

pub record TakenHead (v : PanelView) (fs : Line) (ls : List Line) : Type 0 where
  pub fault : line_fault (after_rows v fs) fs ≡ 0
  pub rest : taken_by v (fs ∷ ls) ≡ taken_by (line_step (after_rows v fs) fs).panel ls

pub taken_first : (v : PanelView) (fs : Line) (ls : List Line) → line_fault (after_rows v fs) fs ≡ 0 → taken_by v (fs ∷ ls) ≡ taken_by (line_step (after_rows v fs) fs).panel ls
unfolding taken_by
taken_first v fs ls z = rw (eq-eqb (line_fault (after_rows v fs) fs) 0 z)

pub taken_head : (v : PanelView) (fs : Line) (ls : List Line) → (taken_by v (fs ∷ ls)).fault ≡ 0 → TakenHead v fs ls
unfolding taken_by
taken_head v fs ls z = let none = go (eqb (line_fault (after_rows v fs) fs) 0) refl z in record { fault = none; rest = taken_first v fs ls none }
  where
    go : (t : Bool) → eqb (line_fault (after_rows v fs) fs) 0 ≡ t
        → (cond t (taken_by (line_step (after_rows v fs) fs).panel ls) (refused (line_fault (after_rows v fs) fs) v)).fault ≡ 0 → line_fault (after_rows v fs) fs ≡ 0
    go true e y = eqb-true (line_fault (after_rows v fs) fs) 0 e
    go false e y = y

-- a line alone
pub taken_one : (v : PanelView) (fs : Line) → (taken_by v (fs ∷ [])).fault ≡ line_fault (after_rows v fs) fs
unfolding taken_by
taken_one v fs = go (eqb (line_fault (after_rows v fs) fs) 0) refl
  where
    go : (t : Bool) → eqb (line_fault (after_rows v fs) fs) 0 ≡ t
        → (cond t (accepted (line_step (after_rows v fs) fs).panel) (refused (line_fault (after_rows v fs) fs) v)).fault ≡ line_fault (after_rows v fs) fs
    go true e = sym (eqb-true (line_fault (after_rows v fs) fs) 0 e)
    go false e = refl

-- after one that is refused no other is taken
pub taken_refused : (v : PanelView) (fs : Line) (ls : List Line) → (line_fault (after_rows v fs) fs ≡ 0 → ⊥) → taken_by v (fs ∷ ls) ≡ refused (line_fault (after_rows v fs) fs) v
unfolding taken_by
taken_refused v fs ls h = rw (ne_eqb (line_fault (after_rows v fs) fs) 0 h)

pub taken_append : (v : PanelView) (ls more : List Line) → (taken_by v ls).fault ≡ 0 → taken_by v (ls ++ more) ≡ taken_by (taken_by v ls).panel more
unfolding taken_by
taken_append v [] more z = refl
taken_append v (fs ∷ ls) more z =
    let h = taken_head v fs ls z in
    let y : (taken_by (line_step (after_rows v fs) fs).panel ls).fault ≡ 0 = ap (λ (o : PanelOutcome). o.fault) (sym h.rest) ∙ z in
    taken_first v fs (ls ++ more) h.fault
    ∙ taken_append (line_step (after_rows v fs) fs).panel ls more y
    ∙ ap (λ (o : PanelOutcome). taken_by o.panel more) (sym h.rest)

pub taken_former : (v : PanelView) (ls more : List Line) → (taken_by v (ls ++ more)).fault ≡ 0 → (taken_by v ls).fault ≡ 0
unfolding taken_by
taken_former v [] more z = refl
taken_former v (fs ∷ ls) more z =
    let h = taken_head v fs (ls ++ more) z in
    let y : (taken_by (line_step (after_rows v fs) fs).panel (ls ++ more)).fault ≡ 0 = ap (λ (o : PanelOutcome). o.fault) (sym h.rest) ∙ z in
    ap (λ (o : PanelOutcome). o.fault) (taken_first v fs ls h.fault) ∙ taken_former (line_step (after_rows v fs) fs).panel ls more y

-- ---- lines that may stand after all areas

pub taken_stage : (v : PanelView) (ls : List Line) → v.stage ≤ 3 → (taken_by v ls).panel.stage ≤ 3
unfolding taken_by
taken_stage v [] h = h
taken_stage v (fs ∷ ls) h =
    go (eqb (line_fault (after_rows v fs) fs) 0)
    (taken_stage (line_step (after_rows v fs) fs).panel ls (line_stage (after_rows v fs) fs (rows_stage v fs 3 (omega arith) h)))
  where
    go : (t : Bool) → (taken_by (line_step (after_rows v fs) fs).panel ls).panel.stage ≤ 3
        → (cond t (taken_by (line_step (after_rows v fs) fs).panel ls) (refused (line_fault (after_rows v fs) fs) v)).panel.stage ≤ 3
    go true i = i
    go false i = h

pub taken_alike : (v w : PanelView) (ls : List Line) → Alike v w → v.stage ≤ 3 → w.stage ≤ 3 → AllLater ls → BothAlike (taken_by v ls) (taken_by w ls)
unfolding taken_by
taken_alike v w [] h j k l = record { fault = refl; panel = h }
taken_alike v w (fs ∷ ls) h j k l =
    go (eqb (line_fault x fs) 0) (eqb (line_fault y fs) 0) (ap (λ (n : ℕ). eqb n 0) same.fault)
    (taken_alike (line_step x fs).panel (line_step y fs).panel ls same.step.panel (line_stage x fs sx) (line_stage y fs sy) l.1)
  where
    x : PanelView
    x = after_rows v fs

    y : PanelView
    y = after_rows w fs

    sx : x.stage ≤ 3
    sx = rows_stage v fs 3 (omega arith) j

    sy : y.stage ≤ 3
    sy = rows_stage w fs 3 (omega arith) k

    same : AlikeLine x y fs
    same =
        line_alike x y (alike_then (rows_alike v fs) (alike_then h (alike_back (rows_alike w fs)))) fs (later_common (record_of fs) l.0)
        (never_late x (record_of fs) l.0 sx ∙ sym (never_late y (record_of fs) l.0 sy))

    go : (t u : Bool) → t ≡ u → BothAlike (taken_by (line_step x fs).panel ls) (taken_by (line_step y fs).panel ls)
        → BothAlike (cond t (taken_by (line_step x fs).panel ls) (refused (line_fault x fs) v)) (cond u (taken_by (line_step y fs).panel ls) (refused (line_fault y fs) w))
    go true true e i = i
    go true false e i = absurd (false≢true (sym e))
    go false true e i = absurd (false≢true e)
    go false false e i = record { fault = same.fault; panel = h }

-- they change no area
pub later_areas : (v : PanelView) (ls : List Line) → AllLater ls → (taken_by v ls).panel.areas ≡ v.areas
unfolding taken_by
later_areas v [] l = refl
later_areas v (fs ∷ ls) l = go (eqb (line_fault x fs) 0) (later_areas (line_step x fs).panel ls l.1)
  where
    x : PanelView
    x = after_rows v fs

    go : (t : Bool) → (taken_by (line_step x fs).panel ls).panel.areas ≡ (line_step x fs).panel.areas
        → (cond t (taken_by (line_step x fs).panel ls) (refused (line_fault x fs) v)).panel.areas ≡ v.areas
    go true i = i ∙ line_areas x fs l.0 ∙ (rows_alike v fs).areas
    go false i = refl

-- ---- the lines of a sheet

pub leading_behind : (ls : List Line) → leading ls ++ behind ls ≡ ls
unfolding leading behind
leading_behind [] = refl
leading_behind (fs ∷ ls) = go (is_leading fs) (leading_behind ls)
  where
    go : (t : Bool) → leading ls ++ behind ls ≡ ls → cond t (fs ∷ leading ls) [] ++ cond t (behind ls) (fs ∷ ls) ≡ fs ∷ ls
    go true i = ap (λ (l : List Line). fs ∷ l) i
    go false i = refl

pub leading_taken : (v : PanelView) (ls : List Line) → v.stage ≤ 2 → (taken_by v (leading ls)).fault ≡ 0 → (taken_by v (leading ls)).panel.stage ≤ 2
unfolding leading taken_by
leading_taken v [] h z = h
leading_taken v (fs ∷ ls) h z = go (leading_taken (line_step (after_rows v fs) fs).panel ls) (is_leading fs) refl z
  where
    x : PanelView
    x = after_rows v fs

    next : is_leading fs ≡ true → line_fault x fs ≡ 0 → (line_step x fs).panel.stage ≤ 2
    next e y =
        let c = clean_line x fs (line_clean x fs y) in
        subst (λ (w : PanelView). w.stage ≤ 2) (sym c.panel) (leading_stage fs x (record_of fs) (record_says fs) e (rows_stage v fs 2 (omega arith) h))

    go : ((line_step x fs).panel.stage ≤ 2 → (taken_by (line_step x fs).panel (leading ls)).fault ≡ 0 → (taken_by (line_step x fs).panel (leading ls)).panel.stage ≤ 2)
        → (t : Bool) → is_leading fs ≡ t → (taken_by v (cond t (fs ∷ leading ls) [])).fault ≡ 0 → (taken_by v (cond t (fs ∷ leading ls) [])).panel.stage ≤ 2
    go i true e y =
        let t = taken_head v fs (leading ls) y in
        subst (λ (o : PanelOutcome). o.panel.stage ≤ 2) (sym t.rest) (i (next e t.fault) (ap (λ (o : PanelOutcome). o.fault) (sym t.rest) ∙ y))
    go i false e y = h

-- after one that stands behind, all do
tail_later : (v : PanelView) (ls : List Line) → v.stage ≡ 3 → (taken_by v ls).fault ≡ 0 → AllLater ls
tail_later v [] e z = tt
tail_later v (fs ∷ ls) e z =
    let t = taken_head v fs ls z in
    let x = after_rows v fs in
    let same : x.stage ≡ 3 = ap (λ (w : PanelView). w.stage) (rows_same v fs (λ two. absurd (omega (arith, e, two)))) ∙ e in
    let c = clean_line x fs (line_clean x fs t.fault) in
    let l = timely_later x (record_of fs) same c.timely in
    let next : (line_step x fs).panel.stage ≡ 3 = ap (λ (w : PanelView). w.stage) c.panel ∙ later_place x fs (record_of fs) l (record_reads fs) c.own in
    (l, tail_later (line_step x fs).panel ls next (ap (λ (o : PanelOutcome). o.fault) (sym t.rest) ∙ z))

pub behind_all_later : (v : PanelView) (ls : List Line) → (taken_by v (behind ls)).fault ≡ 0 → AllLater (behind ls)
unfolding behind
behind_all_later v [] z = tt
behind_all_later v (fs ∷ ls) z = go (behind_all_later v ls) (is_leading fs) refl z
  where
    x : PanelView
    x = after_rows v fs

    first : is_leading fs ≡ false → (taken_by v (fs ∷ ls)).fault ≡ 0 → AllLater (fs ∷ ls)
    first e y =
        let t = taken_head v fs ls y in
        let c = clean_line x fs (line_clean x fs t.fault) in
        let l = behind_later fs (record_of fs) (record_says fs) e in
        let next : (line_step x fs).panel.stage ≡ 3 = ap (λ (w : PanelView). w.stage) c.panel ∙ later_place x fs (record_of fs) l (record_reads fs) c.own in
        (l, tail_later (line_step x fs).panel ls next (ap (λ (o : PanelOutcome). o.fault) (sym t.rest) ∙ y))

    go : ((taken_by v (behind ls)).fault ≡ 0 → AllLater (behind ls))
        → (t : Bool) → is_leading fs ≡ t → (taken_by v (cond t (behind ls) (fs ∷ ls))).fault ≡ 0 → AllLater (cond t (behind ls) (fs ∷ ls))
    go i true e y = i y
    go i false e y = first e y

-- where no line is refused and no areas share a cell, all lines are taken
lined_taken : (n : ℕ) (ls : List (List ℕ)) (v : PanelView) → (lined n ls v).fault ≡ 0 → (overlap_from n ls v).later ≡ 0 → taken_by v (lines_from ls) ≡ accepted (lined n ls v).view
unfolding lined overlap_from lines_from taken_by
lined_taken n [] v z o = refl
lined_taken n (l ∷ []) v z o = go (eqb (length l) 0) z
  where
    go : (t : Bool) → (cond t (outcome 0 0 v) (outcome 1 n v)).fault ≡ 0 → accepted v ≡ accepted (cond t (outcome 0 0 v) (outcome 1 n v)).view
    go true y = refl
    go false y = refl
lined_taken n (l ∷ m ∷ ls) v z o = go (eqb a.fault 0) refl (eqb (shared_at v fs) 0) refl (lined_taken (n + 1) (m ∷ ls) a.panel) z o
  where
    fs : Line
    fs = split 9 l

    a : PanelOutcome
    a = line_step v fs

    go : (t : Bool) → eqb a.fault 0 ≡ t → (u : Bool) → eqb (shared_at v fs) 0 ≡ u
        → ((lined (n + 1) (m ∷ ls) a.panel).fault ≡ 0 → (overlap_from (n + 1) (m ∷ ls) a.panel).later ≡ 0 → taken_by a.panel (lines_from (m ∷ ls)) ≡ accepted (lined (n + 1) (m ∷ ls) a.panel).view)
        → (cond t (lined (n + 1) (m ∷ ls) a.panel) (outcome a.fault n v)).fault ≡ 0
        → (cond u (cond t (overlap_from (n + 1) (m ∷ ls) a.panel) no_overlap) (overlap_at (shared_at v fs) (length v.areas) n)).later ≡ 0
        → taken_by v (fs ∷ lines_from (m ∷ ls)) ≡ accepted (cond t (lined (n + 1) (m ∷ ls) a.panel) (outcome a.fault n v)).view
    go true e true f i y p =
        let step = eqb-true a.fault 0 e in
        let fault : line_fault v fs ≡ 0 = line-former v fs (eqb-true (shared_at v fs) 0 f) ∙ step in
        let place = rows_none v fs (clean_line v fs step) in
        taken_first v fs (lines_from (m ∷ ls)) (ap (λ (w : PanelView). line_fault w fs) place ∙ fault)
        ∙ ap (λ (w : PanelView). taken_by (line_step w fs).panel (lines_from (m ∷ ls))) place
        ∙ i y p
    go true e false f i y p = absurd (omega (arith, p))
    go false e u f i y p = absurd (eqb-false a.fault 0 e y)

parts_taken : (s : List ℕ) → (overlap_of s).later ≡ 0 → (lined_sheet s).fault ≡ 0 → taken_by empty_view (lines_of s) ≡ accepted (lined_sheet s).view
unfolding lined_sheet overlap_of
parts_taken s = go (ltb 32768 (length s))
  where
    go : (t : Bool) → (cond t no_overlap (overlap_from 1 (split 10 s) empty_view)).later ≡ 0 → (cond t (outcome 1 0 empty_view) (lined 1 (split 10 s) empty_view)).fault ≡ 0
        → taken_by empty_view (lines_of s) ≡ accepted (cond t (outcome 1 0 empty_view) (lined 1 (split 10 s) empty_view)).view
    go true o y = absurd (omega arith)
    go false o y = lined_taken 1 (split 10 s) empty_view y o

pub sheet_taken : (s : List ℕ) → (base_of s).fault ≡ 0 → taken_by empty_view (lines_of s) ≡ accepted (base_of s).view
unfolding base_of
sheet_taken s z = let p = base_parts s z in parts_taken s p.0 p.2
