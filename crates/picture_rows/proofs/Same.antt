-- On the table of a picture's areas a row does what picture_rules' step does to the picture. Assumes nothing.
use Prim.Native.Nat.{ℕ, suc, ◌+◌, ◌-◌, ◌≤◌, ◌<◌, max}
use mathlib.Core.Path.{◌≡◌, refl, sym, ap, ap₂, subst, ◌∙◌}
use mathlib.Core.List.{List, [], ◌∷◌}
use mathlib.Core.Bool.{Bool, true, false, cond, not}
use native.Mathlib.Omega.{arith}
use lib.Dec.{eqb, ltb}
use lib.ListN.{length, length-map}
use borrow.Author.Tests.{le-leb, le-ltb, lt-ltb, ltb-true, ltb-false, eqb-true, eqb-false}
use Rattle.text.specs.Split.{same}
use Rattle.sheet_forms.specs.Faults.{first_of}
use Rattle.sheet_forms.specs.Fields.{word_fault, words_fault, many_fault, row_fault}
use Rattle.sheet_forms.proofs.Firsts.{first_zero}
use Rattle.sheet_forms.proofs.WordRows.{word-named}
use Rattle.axis_tables.specs.Store.{with_areas}
use Rattle.panel_tables.specs.declared.Panel.{Panel}
use Rattle.panel_tables.specs.declared.AreaEdges.{AreaEdges}
use Rattle.panel_tables.specs.View.{edge_outside}
use Rattle.panel_tables.specs.Areas.{with_area}
use Rattle.panel_tables.specs.Written.{area_bytes_of, area_words, area_store}
use Rattle.panel_tables.proofs.Fits.{GoodArea}
use Rattle.picture_rules.specs.Picture.{Word, PictureArea, is_dots}
use Rattle.picture_rules.specs.Steps.{EqualRun, with_word, runs_of, run_box, grown, drawn, fits, PictureState, name_run_step, run_step, runs_from, row_step}
use Rattle.picture_areas.specs.Runs.{Drawn}
use Rattle.picture_areas.specs.Runs.{edges_of_box, InPicture, table_area, table_of, drawn_table}
use Rattle.picture_areas.proofs.Same.{TableFits, draw_same, drawn-fits}
use Rattle.picture_rows.specs.Steps.{joined, run_in, runs_in, refused_row, picture_edges, spanned, counted, row_in}
use Rattle.picture_rows.specs.Rows.{pictured, RowTaken}
use Rattle.picture_rows.proofs.Counts.{counted-refused, counted-so}

-- ---- the runs of a row

-- every name among them has at most 32 bytes
abbrev ShortNames : List EqualRun → Type 0
ShortNames [] = Unit {0}
ShortNames (y ∷ ys) = (is_dots y.word ≡ false → length y.word ≤ 32) × ShortNames ys

abbrev total : List EqualRun → ℕ
total [] = 0
total (y ∷ ys) = y.count + total ys

total-joined : (w : Word) (l : List EqualRun) → total (with_word w l) ≡ suc (total l)
unfolding with_word
total-joined w [] = refl
total-joined w (x ∷ xs) = go (same x.word w)
  where
    go : (t : Bool) → total (cond t (record { word = w; count = suc x.count } ∷ xs) (record { word = w; count = 1 } ∷ x ∷ xs)) ≡ suc (x.count + total xs)
    go true = omega arith
    go false = omega arith

-- as many words as the row has
total_runs : (ws : List Word) → total (runs_of ws) ≡ length ws
unfolding runs_of
total_runs [] = refl
total_runs (w ∷ ws) = total-joined w (runs_of ws) ∙ ap suc (total_runs ws)

short-joined : (w : Word) (l : List EqualRun) → (is_dots w ≡ false → length w ≤ 32) → ShortNames l → ShortNames (with_word w l)
unfolding with_word
short-joined w [] h k = (h, tt)
short-joined w (x ∷ xs) h k = go (same x.word w)
  where
    go : (t : Bool) → ShortNames (cond t (record { word = w; count = suc x.count } ∷ xs) (record { word = w; count = 1 } ∷ x ∷ xs))
    go true = (h, k.1)
    go false = (h, k)

short_runs : (ws : List Word) → words_fault ws ≡ 0 → ShortNames (runs_of ws)
unfolding runs_of words_fault
short_runs [] h = tt
short_runs (w ∷ ws) h = go (eqb (word_fault w) 0) refl h (short_runs ws)
  where
    go : (t : Bool) → eqb (word_fault w) 0 ≡ t → cond t (words_fault ws) (word_fault w) ≡ 0 → (words_fault ws ≡ 0 → ShortNames (runs_of ws)) → ShortNames (with_word w (runs_of ws))
    go true e g rest = short-joined w (runs_of ws) (λ d. (word-named w (eqb-true (word_fault w) 0 e) d).few) (rest g)
    go false e g rest = absurd (eqb-false (word_fault w) 0 e g)

-- ---- a run only adds areas

drawn-more : (run : PictureArea) (l : List PictureArea) → length l ≤ length (drawn run l)
unfolding drawn
drawn-more run [] = omega arith
drawn-more run (a ∷ rest) = go (same a.name run.name) (drawn-more run rest)
  where
    go : (t : Bool) → length rest ≤ length (drawn run rest) → suc (length rest) ≤ length (cond t (grown a run.box ∷ rest) (a ∷ drawn run rest))
    go true h = omega arith
    go false h = omega arith

step-more : (row column : ℕ) (y : EqualRun) (s : PictureState) → length s.areas ≤ length (run_step row column y s).areas
unfolding run_step
step-more row column y s = go (is_dots y.word)
  where
    run : PictureArea
    run = record { name = y.word; box = run_box row column y.count }

    go : (t : Bool) → length s.areas ≤ length (cond t s (name_run_step run s)).areas
    go true = omega arith
    go false = drawn-more run s.areas

runs_more : (row column : ℕ) (ys : List EqualRun) (s : PictureState) → length s.areas ≤ length (runs_from row column ys s).areas
unfolding runs_from
runs_more row column [] s = omega arith
runs_more row column (y ∷ ys) s = omega (arith, step-more row column y s, runs_more row (column + y.count) ys (run_step row column y s))

-- ---- tracks that a run raised, raised again by the whole picture

again : (a e w : ℕ) → e ≤ w + 1 → max (max a (e - 1)) (w + 1 - 1) ≡ max a (w + 1 - 1)
again a e w h = omega arith

module _ (width row : ℕ) where
  abbrev made : Panel → List PictureArea → ℕ → ℕ → Panel
  made p l columns rows =
      record {
        grid = record { columns = p.grid.columns; rows = p.grid.rows; areas = length (table_of l); placements = p.grid.placements; cells = p.grid.cells };
        room = record {
          columns = with_areas p.room.columns columns;
          rows = with_areas p.room.rows rows;
          areabytes = length (area_bytes_of (table_of l));
          placementbytes = p.room.placementbytes;
        };
      }

  area-pictured : (p : Panel) (l : List PictureArea) (e : AreaEdges) (n : ℕ) → e.columnend ≤ width + 1 → e.rowend ≤ row + 1 → pictured (with_area p e n) l width row ≡ pictured p l width row
  area-pictured p l e n h k = ap₂ (made p l) (again p.room.columns.areas e.columnend width h) (again p.room.rows.areas e.rowend row k)

  spanned-pictured : (p : Panel) (l : List PictureArea) → TableFits p l → spanned p (picture_edges width row) ≡ pictured p l width row
  spanned-pictured p l fit =
      ap₂ (λ (n u : ℕ). record {
        grid = record { columns = p.grid.columns; rows = p.grid.rows; areas = n; placements = p.grid.placements; cells = p.grid.cells };
        room = record {
          columns = with_areas p.room.columns (max p.room.columns.areas (width + 1 - 1));
          rows = with_areas p.room.rows (max p.room.rows.areas (row + 1 - 1));
          areabytes = u;
          placementbytes = p.room.placementbytes;
        };
      }) fit.count fit.used

-- ---- one run of a name

edge-inside : (e : ℕ) → 1 ≤ e → e ≤ 10001 → edge_outside e ≡ false
edge-inside e h k = rw (le-leb 1 e h, le-ltb 10001 e k)

run-good : (row column count : ℕ) (n : Word) → 1 ≤ row → row ≤ 10000 → 1 ≤ column → column + count ≤ 10001 → length n ≤ 32 → GoodArea (table_area (record { name = n; box = run_box row column count }))
run-good row column count n a b c d short =
    record {
      short = short;
      edges = rw (edge-inside row a (omega arith), edge-inside (row + 1) (omega arith) (omega arith), edge-inside column c (omega arith)) (edge-inside (column + count) (omega arith) d);
    }

-- what the table holds while runs are drawn
abbrev drawing : Panel → Bool → List PictureArea → InPicture
drawing p b l = record { answer = record { fault = 0; broken = b; panel = p }; words = area_words (table_of l); bytes = area_store (table_of l) }

module _ (row column : ℕ) (y : EqualRun) (p : Panel) (b : Bool) (l : List PictureArea) where
  abbrev area : PictureArea
  area = record { name = y.word; box = run_box row column y.count }

  abbrev here : InPicture
  here = run_in y.word (edges_of_box (run_box row column y.count)) (drawing p b l)

  here-dots : is_dots y.word ≡ true → here ≡ drawing p b l
  unfolding run_in
  here-dots h = rw h

  here-drawn : is_dots y.word ≡ false → TableFits p l → GoodArea (table_area area) → here ≡ joined b (drawn_table p l area)
  unfolding run_in
  here-drawn h fit fine = rw h (ap (joined b) (draw_same p l area fit fine))

  table-crowded : 64 < length (drawn area l) → (joined b (drawn_table p l area)).answer.fault ≡ 8
  unfolding drawn_table
  table-crowded h = rw (lt-ltb 64 (length (drawn area l)) h)

  table-room : length (drawn area l) ≤ 64 → joined b (drawn_table p l area) ≡ drawing (drawn_table p l area).answer.panel (cond b true (not (fits area l))) (drawn area l)
  unfolding drawn_table
  table-room h = rw (le-ltb 64 (length (drawn area l)) h)

  -- its panel, with the tracks of the whole picture
  panel-same : (width : ℕ) (k : List PictureArea) → length (drawn area l) ≤ 64 → column + y.count ≤ width + 1 → pictured (drawn_table p l area).answer.panel k width row ≡ pictured p k width row
  unfolding drawn_table
  panel-same width k few h = rw (le-ltb 64 (length (drawn area l)) few) (go (ltb (length l) (length (drawn area l))))
    where
      go : (t : Bool) → pictured (cond t (with_area p (edges_of_box (run_box row column y.count)) (length y.word)) p) k width row ≡ pictured p k width row
      go true = area-pictured width row p k (edges_of_box (run_box row column y.count)) (length y.word) h (omega arith)
      go false = refl

-- ---- all runs

-- the table after all runs; `former` is whether the picture was broken before the row
record AllDrawn (row width : ℕ) (former : Bool) (p : Panel) (s : PictureState) (x : InPicture) : Type 0 where
  fault : x.answer.fault ≡ 0
  broken : s.broken ≡ cond x.answer.broken true former
  words : x.words ≡ area_words (table_of s.areas)
  bytes : x.bytes ≡ area_store (table_of s.areas)
  fit : TableFits x.answer.panel s.areas
  panel : pictured x.answer.panel s.areas width row ≡ pictured p s.areas width row

-- taken, or refused where the areas would be more than 64
abbrev Answered : ℕ → ℕ → Bool → Panel → PictureState → InPicture → Type 0
Answered row width former p s x = (length s.areas ≤ 64 → AllDrawn row width former p s x) × (64 < length s.areas → x.answer.fault ≡ 8)

answered_from : (row width : ℕ) (former : Bool) (p q : Panel) (s : PictureState) (x : InPicture) → pictured q s.areas width row ≡ pictured p s.areas width row
    → Answered row width former q s x → Answered row width former p s x
answered_from row width former p q s x e a =
    (λ h. let d = a.0 h in record { fault = d.fault; broken = d.broken; words = d.words; bytes = d.bytes; fit = d.fit; panel = d.panel ∙ e }, a.1)

broken-joined : (b f former : Bool) → cond f (cond b true former) true ≡ cond (cond b true (not f)) true former
broken-joined true true former = refl
broken-joined true false former = refl
broken-joined false true former = refl
broken-joined false false former = refl

carry : (row width : ℕ) (former : Bool) (p : Panel) (s u : PictureState) (x z : InPicture) → s ≡ u → x ≡ z → Answered row width former p u z → Answered row width former p s x
carry row width former p s u x z e d a = subst (λ (v : PictureState). Answered row width former p v x) (sym e) (subst (λ (v : InPicture). Answered row width former p u v) (sym d) a)

-- the first of several runs: dots, a name for which there is room, one for which there is none
module _ (row column : ℕ) (y : EqualRun) (ys : List EqualRun) (s : PictureState) (p : Panel) (b : Bool) where
  abbrev list : List PictureArea
  list = s.areas

  abbrev run : PictureArea
  run = area row column y p b list

  from-dots : is_dots y.word ≡ true → runs_from row column (y ∷ ys) s ≡ runs_from row (column + y.count) ys s
  unfolding runs_from run_step
  from-dots h = rw h

  in-dots : is_dots y.word ≡ true → runs_in row column (y ∷ ys) (drawing p b list) ≡ runs_in row (column + y.count) ys (drawing p b list)
  unfolding runs_in
  in-dots h = rw (here-dots row column y p b list h)

  from-name : is_dots y.word ≡ false → runs_from row column (y ∷ ys) s ≡ runs_from row (column + y.count) ys (name_run_step run s)
  unfolding runs_from run_step
  from-name h = rw h

  in-room : is_dots y.word ≡ false → TableFits p list → GoodArea (table_area run) → length (drawn run list) ≤ 64
      → runs_in row column (y ∷ ys) (drawing p b list) ≡ runs_in row (column + y.count) ys (drawing (drawn_table p list run).answer.panel (cond b true (not (fits run list))) (drawn run list))
  unfolding runs_in
  in-room h fit fine few = rw (here-drawn row column y p b list h fit fine ∙ table-room row column y p b list few)

  in-crowded : is_dots y.word ≡ false → TableFits p list → GoodArea (table_area run) → 64 < length (drawn run list) → (runs_in row column (y ∷ ys) (drawing p b list)).answer.fault ≡ 8
  unfolding runs_in
  in-crowded h fit fine many =
      rw (here-drawn row column y p b list h fit fine, table-crowded row column y p b list many)

length_table : (l : List PictureArea) → length (table_of l) ≡ length l
length_table l = length-map l table_area

module _ (row width : ℕ) (above : 1 ≤ row) (few-rows : row ≤ 10000) (narrow : width ≤ 10000) (former : Bool) where
  abbrev Claim : List EqualRun → Type 0
  Claim ys =
      (column : ℕ) (s : PictureState) (p : Panel) (b : Bool) → 1 ≤ column → column + total ys ≤ width + 1 → ShortNames ys → TableFits p s.areas
      → s.broken ≡ cond b true former → Answered row width former p (runs_from row column ys s) (runs_in row column ys (drawing p b s.areas))

  no-runs : Claim []
  unfolding runs_from runs_in
  no-runs column s p b first inside short fit known =
      (λ h. record { fault = refl; broken = known; words = refl; bytes = refl; fit = fit; panel = refl }, λ h. absurd (omega (arith, h, fit.few, length_table s.areas)))

  more-runs : (y : EqualRun) (ys : List EqualRun) → Claim ys → Claim (y ∷ ys)
  more-runs y ys rest column s p b first inside short fit known = go (is_dots y.word) refl
    where
      x : PictureArea
      x = run row column y ys s p b

      go : (t : Bool) → is_dots y.word ≡ t → Answered row width former p (runs_from row column (y ∷ ys) s) (runs_in row column (y ∷ ys) (drawing p b s.areas))
      go true e =
          carry row width former p _ _ _ _ (from-dots row column y ys s p b e) (in-dots row column y ys s p b e)
          (rest (column + y.count) s p b (omega arith) (omega arith) short.1 fit known)
      go false e = at (ltb 64 (length (drawn x s.areas))) refl
        where
          fine : GoodArea (table_area x)
          fine = run-good row column y.count y.word above few-rows first (omega arith) (short.0 e)

          at : (t : Bool) → ltb 64 (length (drawn x s.areas)) ≡ t → Answered row width former p (runs_from row column (y ∷ ys) s) (runs_in row column (y ∷ ys) (drawing p b s.areas))
          at true g =
              let many = ltb-true 64 (length (drawn x s.areas)) g in
              let more = runs_more row (column + y.count) ys (name_run_step x s) in
              (λ h. absurd (omega (arith, many, more, ap (λ (u : PictureState). length u.areas) (from-name row column y ys s p b e), h)), λ h. in-crowded row column y ys s p b e fit fine many)
          at false g =
              let few = ltb-false 64 (length (drawn x s.areas)) g in
              carry row width former p _ _ _ _ (from-name row column y ys s p b e) (in-room row column y ys s p b e fit fine few)
              (answered_from row width former p (drawn_table p s.areas x).answer.panel _ _
              (panel-same row column y p b s.areas width (runs_from row (column + y.count) ys (name_run_step x s)).areas few (omega arith))
              (rest (column + y.count) (name_run_step x s) (drawn_table p s.areas x).answer.panel (cond b true (not (fits x s.areas))) (omega arith) (omega arith) short.1
              (drawn-fits p s.areas x fit fine few) (ap (λ (u : Bool). cond (fits x s.areas) u true) known ∙ broken-joined b (fits x s.areas) former)))

  runs_same : (ys : List EqualRun) → Claim ys
  runs_same [] = no-runs
  runs_same (y ∷ ys) = more-runs y ys (runs_same ys)

-- ---- a row

module _ (p : Panel) (s : PictureState) (ws : List Word) where
  abbrev before : InPicture
  before = drawing p false s.areas

  abbrev after : InPicture
  after = row_in p (area_words (table_of s.areas)) (area_store (table_of s.areas)) ws (s.rows + 1)

  abbrev runs : InPicture
  runs = runs_in (s.rows + 1) 1 (runs_of ws) before

  abbrev last : PictureState
  last = runs_from (s.rows + 1) 1 (runs_of ws) s

  -- the areas of a row are those that its runs leave
  row-areas : (row_step s ws).areas ≡ last.areas
  unfolding row_step
  row-areas = refl

  row-broken : (row_step s ws).broken ≡ last.broken
  unfolding row_step
  row-broken = refl

  runs-answered : TableFits p s.areas → words_fault ws ≡ 0 → length ws ≤ 10000 → s.rows < 10000 → Answered (s.rows + 1) (length ws) s.broken p last runs
  runs-answered fit named narrow few =
      runs_same (s.rows + 1) (length ws) (omega arith) (omega arith) narrow s.broken (runs_of ws) 1 s p false (omega arith) (omega (arith, total_runs ws)) (short_runs ws named) fit refl

  in_range : length ws ≤ 10000 → s.rows < 10000 → after ≡ counted p (picture_edges (length ws) (s.rows + 1)) runs
  unfolding row_in
  in_range narrow few = rw (le-ltb 10000 (length ws) narrow, le-ltb 10000 (s.rows + 1) (omega arith))

  taken : (x : InPicture) → x ≡ counted p (picture_edges (length ws) (s.rows + 1)) runs → AllDrawn (s.rows + 1) (length ws) s.broken p last runs
      → RowTaken p s ws x × TableFits x.answer.panel (row_step s ws).areas
  unfolding row_step
  taken x e d = (
    record {
      fault = ap (λ (a : Drawn). a.fault) answer ∙ d.fault;
      broken = d.broken ∙ ap (λ (t : Bool). cond t true s.broken) (sym (ap (λ (a : Drawn). a.broken) answer));
      panel = ap (λ (a : Drawn). a.panel) answer ∙ spanned-pictured (length ws) (s.rows + 1) runs.answer.panel last.areas d.fit ∙ d.panel;
      words = ap (λ (z : InPicture). z.words) e ∙ d.words;
      bytes = ap (λ (z : InPicture). z.bytes) e ∙ d.bytes;
    },
    subst (λ (q : Panel). TableFits q last.areas) (sym (ap (λ (a : Drawn). a.panel) answer)) (record { good = d.fit.good; few = d.fit.few; count = d.fit.count; used = d.fit.used }),
  )
    where
      answer : x.answer ≡ record { fault = runs.answer.fault; broken = runs.answer.broken; panel = spanned runs.answer.panel (picture_edges (length ws) (s.rows + 1)) }
      answer = ap (λ (z : InPicture). z.answer) e ∙ sym (counted-so p (picture_edges (length ws) (s.rows + 1)) runs.answer d.fault _ refl)

  refused-crowded : (x : InPicture) → x ≡ counted p (picture_edges (length ws) (s.rows + 1)) runs → runs.answer.fault ≡ 8 → x.answer ≡ refused_row 8 p
  refused-crowded x e h =
      ap (λ (z : InPicture). z.answer) e
      ∙ sym (counted-refused p (picture_edges (length ws) (s.rows + 1)) runs.answer (λ z. absurd (omega (arith, z, h))) _ refl)
      ∙ ap (λ (n : ℕ). refused_row n p) h

  -- a row without a fault of its own is taken where the areas after it are at most 64, and their table fits as well; else it is refused by 8, and what the table
  -- then holds is not said: the sheet drops it
  pub row_same : TableFits p s.areas → row_fault ws ≡ 0 → s.rows < 10000
      → (length (row_step s ws).areas ≤ 64 → RowTaken p s ws after × TableFits after.answer.panel (row_step s ws).areas)
      × (64 < length (row_step s ws).areas → after.answer ≡ refused_row 8 p)
  row_same fit fault few =
      let z = parts fault in
      let a = runs-answered fit z.0 z.1 few in
      let e = in_range z.1 few in
      (λ h. taken after e (a.0 (omega (arith, h, ap length row-areas))), λ h. refused-crowded after e (a.1 (omega (arith, h, ap length row-areas))))
    where
      many : (t : Bool) → ltb 10000 (length ws) ≡ t → ◌≡◌ {A = ℕ} (cond t 4 0) 0 → length ws ≤ 10000
      many true e h = absurd (omega arith)
      many false e h = ltb-false 10000 (length ws) e

      parts : row_fault ws ≡ 0 → (words_fault ws ≡ 0) × (length ws ≤ 10000)
      parts h = let g = first_zero (words_fault ws) (many_fault (length ws)) (opened h) in (g.0, many (ltb 10000 (length ws)) refl g.1)
        where
          opened : row_fault ws ≡ 0 → first_of (words_fault ws) (many_fault (length ws)) ≡ 0
          opened = unfold row_fault in λ k. k
