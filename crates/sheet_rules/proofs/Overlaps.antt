-- The overlap that reading notes is the first pair of areas that share a cell; where it notes none, every cell lies in at most one area.
-- Assumes nothing.
use Prim.Native.Nat.{ℕ, zero, suc, ◌+◌, ◌≤◌}
use mathlib.Core.Path.{◌≡◌, refl, sym, ap, ◌∙◌, subst}
use mathlib.Core.List.{List, [], ◌∷◌, ◌++◌, map, map-append, append_assoc, append-nil}
use mathlib.Core.Bool.{Bool, true, false, cond}
use mathlib.Core.Logic.{inl, ⊎_elim}
use native.Mathlib.Omega.{arith}
use lib.Dec.{eqb, leb, ltb}
use lib.ListN.{length, take, drop, length-append}
use borrow.Author.Tests.{eqb-true, eqb-false, leb-true, leb-false}
use Rattle.text.specs.Split.{split, same}
use Rattle.sheet_forms.specs.declared.AreaRecord.{AreaRecord}
use Rattle.sheet_forms.specs.Said.{Record}
use Rattle.sheet_forms.specs.Said.{Fault, Axis as AxisLine, Area as AreaLine, Name, Track, Repeat, End, Spare, Extra, Item, Place, PictureRow, Cell}
use Rattle.sheet_forms.specs.Faults.{first_of}
use Rattle.sheet_forms.specs.Forms.{Kind, axis, area, name, track, repeat, end, spare, extra, item, place, row, cell}
use Rattle.sheet_forms.specs.Records.{record_of, fault_of}
use Rattle.sheet_forms.proofs.Firsts.{first_zero}
use Rattle.panel_tables.specs.declared.AreaEdges.{AreaEdges}
use Rattle.panel_tables.specs.View.{Area, PanelView, empty_view}
use Rattle.panel_cells.specs.Cells.{NoPair, FirstPair}
use Rattle.panel_cells.specs.Steps.{first_sharing}
use Rattle.panel_cells.proofs.Pairs.{none_more, first_more, none_empty, pair_stays}
use Rattle.sheet_rules.specs.declared.Overlap.{Overlap}
use Rattle.sheet_rules.specs.Lines.{edges_of, late_at, record_step, twice_fault, stage_of, late_fault, shared_with, overlap_fault, strict_fault, line_fault, shared_at, line_step}
use Rattle.sheet_rules.specs.Sheet.{outcome, run, fold_of, display_of, no_overlap, overlap_at, overlap_from, overlap_of}
use Rattle.sheet_rules.specs.Contents.{Line, lines_from, lines_of, those, is_of, lines_with, area_in, words_in, picture_in}
use Rattle.picture_rules.specs.Picture.{Picture}
use Rattle.sheet_rules.specs.Pictures.{areas_of}
use Rattle.sheet_rules.specs.Overlaps.{areas_to, PairAt}
use Rattle.sheet_rules.proofs.LineFields.{Reads, record_reads}
use Rattle.sheet_rules.proofs.Says.{Says, record_says}
use Rattle.sheet_rules.proofs.Contents.{Agrees, Apart, other_kind, own_kind, line-agrees, line-apart, empty_agrees, empty_apart, display_says, display_either}
use Rattle.sheet_rules.proofs.LineTheorem.{line-former}
use Rattle.sheet_rules.proofs.LineRows.{late-no}
use Rattle.sheet_rules.proofs.Chosen.{display_former_lem}
use Rattle.sheet_rules.proofs.Apart.{none_shared}
use Rattle.sheet_rules.proofs.Whole.{picture_none, whole-none}

-- ---- one line

abbrev drawn_by : List Line → List Area
drawn_by ls = map area_in (lines_with area ls)

module _ (before : List Line) (v : PanelView) (agrees : Agrees before v) (apart : Apart before v) (none : NoPair (drawn_by before)) (fs : Line) where
  abbrev after : List Line
  after = before ++ (fs ∷ [])

  -- before a row is drawn the areas are those of the `area` lines
  own-areas : v.stage ≤ 1 → v.areas ≡ drawn_by before
  own-areas h = agrees.areas ∙ ap (λ (p : Picture). areas_of p ++ drawn_by before) (agrees.picture ∙ ap (map words_in) (apart.undrawn h)) ∙ ap (λ (l : List Area). l ++ drawn_by before) picture_none

  -- an `area` line draws one more
  area-drawn : (a : AreaRecord) → record_of fs ≡ AreaLine a → drawn_by after ≡ drawn_by before ++ (area_in fs ∷ [])
  area-drawn a e =
      let says : Says fs (AreaLine a) = subst (Says fs) e (record_says fs) in
      ap (map area_in) (own_kind area before fs says.word) ∙ map-append area_in (lines_with area before) (fs ∷ [])

  -- any other none
  not-drawn : (k : Kind) → lines_with area after ≡ lines_with area before → NoPair (drawn_by after)
  not-drawn k e = subst NoPair (sym (ap (map area_in) e)) none

  -- the number searched for is that of the first pair
  shared-first : (r : Record) → record_of fs ≡ r → v.areas ≡ drawn_by before → (shared_with v r ≡ 0 → ⊥) → FirstPair (drawn_by after) (shared_with v r) (length v.areas + 1) × (length (drawn_by after) ≡ length v.areas + 1)
  shared-first (Fault n) e q h = absurd (h refl)
  shared-first (AxisLine a) e q h = absurd (h refl)
  shared-first (AreaLine a) e q h =
      let reads : edges_of a ≡ (area_in fs).edges = subst (Reads fs) e (record_reads fs) in
      let alike : first_sharing (area_in fs).edges v.areas ≡ first_sharing (edges_of a) v.areas = ap (λ (x : AreaEdges). first_sharing x v.areas) (sym reads) in
      let more : drawn_by after ≡ v.areas ++ (area_in fs ∷ []) = area-drawn a e ∙ ap (λ (l : List Area). l ++ (area_in fs ∷ [])) (sym q) in (
        subst (λ (l : List Area). FirstPair l (first_sharing (edges_of a) v.areas) (length v.areas + 1)) (sym more)
            (subst (λ (n : ℕ). FirstPair (v.areas ++ (area_in fs ∷ [])) n (length v.areas + 1)) alike (first_more v.areas (area_in fs) (subst NoPair (sym q) none) (λ z. h (sym alike ∙ z)))),
        ap length more ∙ length-append v.areas (area_in fs ∷ []),
      )
  shared-first (Name a) e q h = absurd (h refl)
  shared-first (Track a min max) e q h = absurd (h refl)
  shared-first (Repeat a n) e q h = absurd (h refl)
  shared-first (End a) e q h = absurd (h refl)
  shared-first (Spare a min max) e q h = absurd (h refl)
  shared-first (Extra a n p) e q h = absurd (h refl)
  shared-first (Item a i) e q h = absurd (h refl)
  shared-first (Place a s t) e q h = absurd (h refl)
  shared-first (PictureRow n) e q h = absurd (h refl)
  shared-first (Cell cs ce rs re) e q h = absurd (h refl)

  -- what is not late stands at its place or before
  in-time : late_at 1 v.stage ≡ false → v.stage ≤ 1
  in-time h = go (leb v.stage 1) refl
    where
      go : (t : Bool) → leb v.stage 1 ≡ t → v.stage ≤ 1
      go true e = leb-true v.stage 1 e
      go false e = absurd (late-no 1 v.stage h (inl (leb-false v.stage 1 e)))

  -- none is found: no pair
  shared-none : (r : Record) → Says fs r → Reads fs r → record_of fs ≡ r → fault_of r ≡ 0 → late_at (stage_of v r) v.stage ≡ false → shared_with v r ≡ 0 → NoPair (drawn_by after)
  unfolding same
  shared-none (Fault n) s x e f g z = absurd (x f)
  shared-none (AxisLine a) s x e f g z = not-drawn axis (other_kind axis area before fs s.0.word refl)
  shared-none (AreaLine a) s x e f g z =
      let own = own-areas (in-time g) in
      subst NoPair (sym (area-drawn a e)) (none_more (drawn_by before) (area_in fs) none (ap (first_sharing (area_in fs).edges) (sym own) ∙ ap (λ (y : AreaEdges). first_sharing y v.areas) (sym x) ∙ z))
  shared-none (Name a) s x e f g z = not-drawn name (other_kind name area before fs s.0.word refl)
  shared-none (Track a min max) s x e f g z = not-drawn track (other_kind track area before fs s.0.word refl)
  shared-none (Repeat a n) s x e f g z = not-drawn repeat (other_kind repeat area before fs s.0.word refl)
  shared-none (End a) s x e f g z = not-drawn end (other_kind end area before fs s.0.word refl)
  shared-none (Spare a min max) s x e f g z = not-drawn spare (other_kind spare area before fs s.0.word refl)
  shared-none (Extra a n p) s x e f g z = not-drawn extra (other_kind extra area before fs s.0.word refl)
  shared-none (Item a i) s x e f g z = not-drawn item (other_kind item area before fs s.0.word refl)
  shared-none (Place a u t) s x e f g z = not-drawn place (other_kind place area before fs s.0.word refl)
  shared-none (PictureRow n) s x e f g z = not-drawn row (other_kind row area before fs s.word refl)
  shared-none (Cell cs ce rs re) s x e f g z = not-drawn cell (other_kind cell area before fs s.word refl)

  -- a line at which an overlap is noted
  noted : (shared_at v fs ≡ 0 → ⊥) → FirstPair (drawn_by after) (shared_at v fs) (length v.areas + 1) × (length (drawn_by after) ≡ length v.areas + 1)
  unfolding shared_at
  noted h = go (eqb (line_fault v fs) 12) h
    where
      early : (t : Bool) → leb 2 v.stage ≡ t → v.stage ≤ 1
      early true e = absurd (h (none_shared v fs (leb-true 2 v.stage e)))
      early false e = omega (arith, leb-false 2 v.stage e)

      go : (t : Bool) → (cond t (shared_with v (record_of fs)) 0 ≡ 0 → ⊥)
          → FirstPair (drawn_by after) (cond t (shared_with v (record_of fs)) 0) (length v.areas + 1) × (length (drawn_by after) ≡ length v.areas + 1)
      go true h = shared-first (record_of fs) refl (own-areas (early (leb 2 v.stage) refl)) h
      go false h = absurd (h refl)

  -- a line without any fault
  clean : line_fault v fs ≡ 0 → NoPair (drawn_by after)
  unfolding line_fault strict_fault
  clean z =
      let r : Record = record_of fs in
      let p = first_zero (first_of (fault_of r) (first_of (twice_fault v fs r) (late_fault v r))) (first_of (overlap_fault v r) (record_step v fs r).fault) z in
      let own = first_zero (fault_of r) (first_of (twice_fault v fs r) (late_fault v r)) p.0 in
      let late = first_zero (twice_fault v fs r) (late_fault v r) own.1 in
      let over = first_zero (overlap_fault v r) (record_step v fs r).fault p.1 in
      shared-none r (record_says fs) (record_reads fs) refl own.0 (timely (late_at (stage_of v r) v.stage) late.1) (shared (shared_with v r) over.0)
    where
      timely : (t : Bool) → ◌≡◌ {A = ℕ} (cond t 7 0) 0 → t ≡ false
      timely true e = absurd (omega arith)
      timely false e = refl

      fault : Bool → ℕ
      fault t = cond t 0 12

      shared : (n : ℕ) → fault (eqb n 0) ≡ 0 → n ≡ 0
      shared n = go (eqb n 0) refl
        where
          go : (t : Bool) → eqb n 0 ≡ t → fault t ≡ 0 → n ≡ 0
          go true e y = eqb-true n 0 e
          go false e y = absurd (omega arith)

  -- an accepted line at which none is noted
  unnoted : shared_at v fs ≡ 0 → (line_step v fs).fault ≡ 0 → NoPair (drawn_by after)
  unnoted z f = clean (line-former v fs z ∙ f)

-- ---- the lines one after the other

-- lines as they are taken: one more
take-line : (k : ℕ) (before : List Line) (fs : Line) (ls : List Line) → (before ++ (fs ∷ [])) ++ take k ls ≡ before ++ take (suc k) (fs ∷ ls)
take-line k before fs ls = append_assoc before (fs ∷ []) (take k ls)

-- the pair that is noted, so many lines on
pub record NotedOn (before ls : List Line) (n : ℕ) (o : Overlap) : Type 0 where
  pub lines : ℕ
  pub line : o.line ≡ n + lines
  pub first : FirstPair (drawn_by (before ++ take (suc lines) ls)) o.earlier o.later
  pub own : o.later ≡ length (drawn_by (before ++ take (suc lines) ls))

run_noted : (n : ℕ) (parts : List (List ℕ)) (before : List Line) (v : PanelView) → Agrees before v → Apart before v → NoPair (drawn_by before) → ((overlap_from n parts v).later ≡ 0 → ⊥)
    → NotedOn before (lines_from parts) n (overlap_from n parts v)
unfolding overlap_from lines_from
run_noted n [] before v agrees apart none h = absurd (h refl)
run_noted n (l ∷ []) before v agrees apart none h = absurd (h refl)
run_noted n (l ∷ m ∷ ls) before v agrees apart none h =
    go (λ w p a q y. run_noted (n + 1) (m ∷ ls) (before ++ (split 9 l ∷ [])) w p a q y) (eqb (shared_at v (split 9 l)) 0) (eqb (line_step v (split 9 l)).fault 0) refl refl h
  where
    fs : Line
    fs = split 9 l

    rest : Overlap
    rest = overlap_from (n + 1) (m ∷ ls) (line_step v fs).panel

    here : Overlap
    here = overlap_at (shared_at v fs) (length v.areas) n

    go : ((w : PanelView) → Agrees (before ++ (fs ∷ [])) w → Apart (before ++ (fs ∷ [])) w → NoPair (drawn_by (before ++ (fs ∷ []))) → ((overlap_from (n + 1) (m ∷ ls) w).later ≡ 0 → ⊥)
        → NotedOn (before ++ (fs ∷ [])) (lines_from (m ∷ ls)) (n + 1) (overlap_from (n + 1) (m ∷ ls) w))
        → (t u : Bool) → eqb (shared_at v fs) 0 ≡ t → eqb (line_step v fs).fault 0 ≡ u
        → ((cond t (cond u rest no_overlap) here).later ≡ 0 → ⊥) → NotedOn before (fs ∷ lines_from (m ∷ ls)) n (cond t (cond u rest no_overlap) here)
    go on false u e f y =
        let p = noted before v agrees apart none fs (eqb-false (shared_at v fs) 0 e) in
        record { lines = 0; line = omega arith; first = p.0; own = sym p.1 }
    go on true false e f y = absurd (y refl)
    go on true true e f y =
        let z = eqb-true (line_step v fs).fault 0 f in
        let p = on (line_step v fs).panel (line-agrees before v agrees apart fs z) (line-apart before v apart fs z) (unnoted before v agrees apart none fs (eqb-true (shared_at v fs) 0 e) z) y in
        let q = take-line (suc p.lines) before fs (lines_from (m ∷ ls)) in
        record {
          lines = suc p.lines;
          line = omega (arith, p.line);
          first = subst (λ (x : List Line). FirstPair (drawn_by x) rest.earlier rest.later) q p.first;
          own = p.own ∙ ap (λ (x : List Line). length (drawn_by x)) q;
        }

-- none is noted, and nothing is refused
run_once : (n : ℕ) (parts : List (List ℕ)) (before : List Line) (v : PanelView) → Agrees before v → Apart before v → NoPair (drawn_by before) → (run n parts v).fault ≡ 0
    → (overlap_from n parts v).later ≡ 0 → NoPair (drawn_by (before ++ lines_from parts))
unfolding overlap_from run lines_from
run_once n [] before v agrees apart none z h = rw (append-nil before) none
run_once n (l ∷ []) before v agrees apart none z h = rw (append-nil before) none
run_once n (l ∷ m ∷ ls) before v agrees apart none z h =
    go (λ w p a q x y. run_once (n + 1) (m ∷ ls) (before ++ (split 9 l ∷ [])) w p a q x y) (eqb (shared_at v (split 9 l)) 0) (eqb (line_step v (split 9 l)).fault 0) refl refl z h
  where
    fs : Line
    fs = split 9 l

    rest : Overlap
    rest = overlap_from (n + 1) (m ∷ ls) (line_step v fs).panel

    here : Overlap
    here = overlap_at (shared_at v fs) (length v.areas) n

    go : ((w : PanelView) → Agrees (before ++ (fs ∷ [])) w → Apart (before ++ (fs ∷ [])) w → NoPair (drawn_by (before ++ (fs ∷ []))) → (run (n + 1) (m ∷ ls) w).fault ≡ 0
        → (overlap_from (n + 1) (m ∷ ls) w).later ≡ 0 → NoPair (drawn_by ((before ++ (fs ∷ [])) ++ lines_from (m ∷ ls))))
        → (t u : Bool) → eqb (shared_at v fs) 0 ≡ t → eqb (line_step v fs).fault 0 ≡ u
        → (cond u (run (n + 1) (m ∷ ls) (line_step v fs).panel) (outcome (line_step v fs).fault n v)).fault ≡ 0 → (cond t (cond u rest no_overlap) here).later ≡ 0
        → NoPair (drawn_by (before ++ (fs ∷ lines_from (m ∷ ls))))
    go on false u e f x y = absurd (omega arith)
    go on true false e f x y = absurd (eqb-false (line_step v fs).fault 0 f x)
    go on true true e f x y =
        let z = eqb-true (line_step v fs).fault 0 f in
        subst (λ (k : List Line). NoPair (drawn_by k)) (append_assoc before (fs ∷ []) (lines_from (m ∷ ls)))
        (on (line_step v fs).panel (line-agrees before v agrees apart fs z) (line-apart before v apart fs z) (unnoted before v agrees apart none fs (eqb-true (shared_at v fs) 0 e) z) x y)

-- ---- the laws

empty_none : NoPair (drawn_by [])
unfolding those
empty_none = none_empty

-- refusal 12 carries the first pair: its later area is that of the refused line
pub refused_pair : (s : List ℕ) → ((overlap_of s).later ≡ 0 → ⊥) → PairAt s (overlap_of s).line (overlap_of s).earlier (overlap_of s).later
unfolding overlap_of
refused_pair s = go (ltb 32768 (length s))
  where
    go : (t : Bool) → let o = cond t no_overlap (overlap_from 1 (split 10 s) empty_view) in (o.later ≡ 0 → ⊥) → PairAt s o.line o.earlier o.later
    go true h = absurd (h refl)
    go false h =
        let p = run_noted 1 (split 10 s) [] empty_view empty_agrees empty_apart empty_none h in
        let e : suc p.lines ≡ (overlap_from 1 (split 10 s) empty_view).line = omega (arith, p.line) in
        record {
          first = subst (λ (k : ℕ). FirstPair (areas_to k s) (overlap_from 1 (split 10 s) empty_view).earlier (overlap_from 1 (split 10 s) empty_view).later) e p.first;
          own = p.own ∙ ap (λ (k : ℕ). length (areas_to k s)) e;
        }

-- where no overlap is noted, no `area` lines share a cell
lines_once : (s : List ℕ) → (fold_of s).fault ≡ 0 → (overlap_of s).later ≡ 0 → NoPair (drawn_by (lines_of s))
unfolding overlap_of fold_of
lines_once s = go (ltb 32768 (length s))
  where
    go : (t : Bool) → (cond t (outcome 1 0 empty_view) (run 1 (split 10 s) empty_view)).fault ≡ 0 → (cond t no_overlap (overlap_from 1 (split 10 s) empty_view)).later ≡ 0 → NoPair (drawn_by (lines_of s))
    go true x z = absurd (omega arith)
    go false x z = run_once 1 (split 10 s) [] empty_view empty_agrees empty_apart empty_none x z

-- nor do the areas of a picture, so no areas of the sheet do
pub none_noted : (s : List ℕ) → (display_of s).fault ≡ 0 → (overlap_of s).later ≡ 0 → NoPair (display_of s).view.areas
none_noted s x z = subst NoPair (sym (display_says s x).areas) (⊎_elim lines rows (display_either s x))
  where
    lines : lines_with row (lines_of s) ≡ [] → NoPair (areas_of (picture_in (lines_of s)) ++ drawn_by (lines_of s))
    lines e =
        subst (λ (l : List Area). NoPair (l ++ drawn_by (lines_of s))) (sym (ap (λ (l : List Line). areas_of (map words_in l)) e ∙ picture_none))
        (lines_once s (display_former_lem s x).1 z)

    rows : lines_with area (lines_of s) ≡ [] → NoPair (areas_of (picture_in (lines_of s)) ++ drawn_by (lines_of s))
    rows e =
        subst (λ (l : List Line). NoPair (areas_of (picture_in (lines_of s)) ++ map area_in l)) (sym e)
        (subst NoPair (sym (append-nil (areas_of (picture_in (lines_of s))))) (subst (λ (p : Picture). NoPair (areas_of p)) (display_says s x).picture (whole-none s x)))

-- the first lines' areas stand first among all
those_app : (test : Line → Bool) (a b : List Line) → those test (a ++ b) ≡ those test a ++ those test b
unfolding those
those_app test [] b = refl
those_app test (l ∷ a) b = go (those_app test a b) (test l)
  where
    go : those test (a ++ b) ≡ those test a ++ those test b → (t : Bool) → cond t (l ∷ those test (a ++ b)) (those test (a ++ b)) ≡ cond t (l ∷ those test a) (those test a) ++ those test b
    go e true = ap (λ (x : List Line). l ∷ x) e
    go e false = e

take_all : (k : ℕ) (ls : List Line) → take k ls ++ drop k ls ≡ ls
take_all zero ls = refl
take_all (suc k) [] = refl
take_all (suc k) (l ∷ ls) = ap (λ (x : List Line). l ∷ x) (take_all k ls)

all-areas : (k : ℕ) (s : List ℕ) → areas_to k s ++ drawn_by (drop k (lines_of s)) ≡ drawn_by (lines_of s)
all-areas k s =
    sym (map-append area_in (lines_with area (take k (lines_of s))) (lines_with area (drop k (lines_of s))))
    ∙ ap (map area_in) (sym (those_app (is_of area) (take k (lines_of s)) (drop k (lines_of s))))
    ∙ ap drawn_by (take_all k (lines_of s))

-- a sheet that the display call accepts: the pair noted is the first of all its areas
pub display_noted : (s : List ℕ) → (display_of s).fault ≡ 0 → ((overlap_of s).later ≡ 0 → ⊥) → FirstPair (display_of s).view.areas (overlap_of s).earlier (overlap_of s).later
display_noted s z h =
    let o = overlap_of s in
    let p = pair_stays (areas_to o.line s) (drawn_by (drop o.line (lines_of s))) o.earlier o.later (refused_pair s h).first in
    let all : FirstPair (drawn_by (lines_of s)) o.earlier o.later = subst (λ (l : List Area). FirstPair l o.earlier o.later) (all-areas o.line s) p in
    subst (λ (l : List Area). FirstPair l o.earlier o.later) (sym (display_says s z).areas) (⊎_elim (lines all) (rows all) (display_either s z))
  where
    o : Overlap
    o = overlap_of s

    lines : FirstPair (drawn_by (lines_of s)) o.earlier o.later → lines_with row (lines_of s) ≡ [] → FirstPair (areas_of (picture_in (lines_of s)) ++ drawn_by (lines_of s)) o.earlier o.later
    lines all e = subst (λ (l : List Area). FirstPair (l ++ drawn_by (lines_of s)) o.earlier o.later) (sym (ap (λ (l : List Line). areas_of (map words_in l)) e ∙ picture_none)) all

    rows : FirstPair (drawn_by (lines_of s)) o.earlier o.later → lines_with area (lines_of s) ≡ [] → FirstPair (areas_of (picture_in (lines_of s)) ++ drawn_by (lines_of s)) o.earlier o.later
    rows all e = let q = all.pair in absurd (omega (arith, q.first, q.order, q.last, ap (λ (l : List Line). length (map area_in l)) e))
