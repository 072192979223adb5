-- What an answer of a placing means, and that there is no other. Assumes nothing.
use mathlib.Core.Path.{◌≡◌, refl, sym, ap, ap₂, ◌∙◌}
use mathlib.Core.List.{List, [], ◌∷◌}
use Prim.Native.Nat.{ℕ, suc, ◌+◌, ◌≤◌, ◌<◌}
use native.Mathlib.Omega.{arith}
use lib.ListN.{length, get_or, drop, get_or-append}
use lib.Seq.{sets, sets-eq, get_or-set_other}
use Rattle.std.specs.Prelude.{Option, Result, Ok, Err}
use Rattle.coordinates.specs.declared.refusal.Fault.{Fault}
use Rattle.name_resolver.specs.Placements.{resolved_ends}
use Rattle.panel_tables.specs.declared.Grid.{Grid}
use Rattle.sheet_rules.specs.declared.LineFault.{LineFault}
use Rattle.panel_hits.specs.Settled.{Lent, settled}
use Rattle.cell_sides.specs.declared.Side.{Side}
use Rattle.cell_sides.proofs.Sides.{side_unique}
use Rattle.free_cells.specs.Words.{rectangle_of, rectangle_in}
use Rattle.free_cells.specs.Free.{last_row_line}
use Rattle.cell_placing.specs.declared.Item.{Item}
use Rattle.cell_placing.specs.declared.Packing.{Packing}
use Rattle.cell_placing.specs.Items.{group_of}
use Rattle.cell_placing.specs.Css.{AllLand, Answers, placed, refused}
use Rattle.cell_placing.proofs.Cut.{first-there, answers-there}
use Rattle.cell_placing.proofs.Theorems.{all-unique, outcome-unique, lands-inside, lands-fixed, lands-apart}
use Rattle.panel_placing.specs.Cells.{cells_in, SidesOf, AllSides, cells_check, answer_of, CellsAnswered, answered}
use Rattle.panel_placing.specs.Cells as Cells
use Rattle.panel_placing.specs.Theorem.{placed_cells, CellsTheorem}
use Rattle.panel_placing.proofs.Answer.{few_cells, passed_not}

-- ---- written words

-- words written from the first place on are read there, and those past them stay
read_written : (lent vs : List ℕ) (k : ℕ) → length vs ≤ length lent → k < length vs → get_or (sets lent 0 vs) k 0 ≡ get_or vs k 0
read_written lent vs k h b =
    ap (λ (l : List ℕ). get_or l k 0) (sets-eq vs lent 0 (omega arith)) ∙ get_or-append vs (drop (0 + length vs) lent) 0 k b

read_past : (vs lent : List ℕ) (i k : ℕ) → i + length vs ≤ k → get_or (sets lent i vs) k 0 ≡ get_or lent k 0
read_past [] lent i k h = refl
read_past (v ∷ vs) lent i k h = read_past vs _ (suc i) k (omega arith) ∙ get_or-set_other lent i k v 0 (λ e. omega arith)

-- ---- a cell has its sides

item-unique : (g : Grid) (l : Lent) (i : ℕ) (x y : Item) → SidesOf g l i x → SidesOf g l i y → x ≡ y
item-unique g l i x y a b =
    ap₂ {C = Item} (λ (c r : Option Side). record { column = c; row = r })
    (side_unique g.columns.size.explicit (g.columns.size.explicit + 1) (resolved_ends (settled g l i).line) x.column y.column a.column b.column)
    (side_unique g.rows.size.explicit last_row_line (resolved_ends (settled g l (i + 1)).line) x.row y.row a.row b.row)

module _ (g : Grid) (l : Lent) (packing : Packing) where
  abbrev last : ℕ
  last = g.columns.size.explicit + 1

  abbrev cells : ℕ
  cells = length (cells_in g l)

  alike : (here there : ℕ → Item) → AllSides g l here → AllSides g l there → (k : ℕ) → k < cells → here k ≡ there k
  alike here there a b k h = item-unique g l (get_or (cells_in g l) k 0) (here k) (there k) (a k h) (b k h)

  -- ---- what was placed

  -- an answer of cells that land
  record Landed (before after : List ℕ) (r : Result ℕ LineFault) : Type 0 where
    counted : placed_cells r ≡ cells
    items : ℕ → Item
    sides : AllSides g l items
    words : List ℕ
    whole : length words ≡ cells
    every : AllLand packing last cells items (rectangle_in words)
    written : after ≡ sets before 0 words

  -- what is answered of no cells has none that lands
  none-placed : (n : ℕ) (outcome : Result (Unit {0}) ℕ) (r : Result ℕ LineFault) (k : ℕ) → outcome ≡ Err k → r ≡ answer_of l n outcome → placed_cells r ≡ 0
  none-placed n outcome r k o e = rw (e, o) refl

  landed : (before after : List ℕ) (r : Result ℕ LineFault) → CellsAnswered g l packing before after r → 0 < placed_cells r → Landed before after r
  landed before after r (Cells.refused fault e same q) h = absurd (let z : placed_cells r ≡ 0 = rw q refl in omega arith)
  landed before after r (answered none items a outcome (refused k f same o) q) h = absurd (let z = none-placed cells outcome r k o q in omega arith)
  landed before after r (answered none items a outcome (placed words len every written o) q) h =
      record { counted = rw (q, o) refl; items = items; sides = a; words = words; whole = len; every = every; written = written }

  past : (before after : List ℕ) (r : Result ℕ LineFault) → CellsAnswered g l packing before after r → (k : ℕ) → placed_cells r ≤ k → get_or after k 0 ≡ get_or before k 0
  past before after r (Cells.refused fault e same q) k h = ap (λ (x : List ℕ). get_or x k 0) same
  past before after r (answered none items a outcome (refused i f same o) q) k h = ap (λ (x : List ℕ). get_or x k 0) same
  past before after r (answered none items a outcome (placed words len every written o) q) k h =
      let z : placed_cells r ≡ cells = rw (q, o) refl in
      ap (λ (x : List ℕ). get_or x k 0) written ∙ read_past words before 0 k (omega arith)

  land-read : {before after : List ℕ} {r : Result ℕ LineFault} → length before ≡ 256 → (d : Landed before after r) → (k : ℕ) → k < cells → rectangle_in after k ≡ rectangle_in d.words k
  land-read {before} long d k h =
      let f = few_cells g l in
      let w = d.whole in
      ap rectangle_of (ap (λ (x : List ℕ). get_or x k 0) d.written ∙ read_written before d.words k (omega arith) (omega arith))

  -- ---- one answer

  -- cells of the same sides land alike
  all-land-same : (here there : ℕ → Item) → AllSides g l here → AllSides g l there → (words list : List ℕ) → length words ≡ cells → length list ≡ cells
      → AllLand packing last cells here (rectangle_in words) → AllLand packing last cells there (rectangle_in list) → (k : ℕ) → k < cells → rectangle_in list k ≡ rectangle_in words k
  all-land-same here there a b words list e f u v =
      all-unique packing last cells here (rectangle_in list) (rectangle_in words)
      (λ i h. first-there packing last cells there here (alike there here b a) (rectangle_in list) i h (rectangle_in list i) (v i h)) u

  -- the same outcome of other lent words
  rebased : (items : ℕ → Item) (outcome : Result (Unit {0}) ℕ) (before after lent : List ℕ) → Answers packing last cells items before after outcome
      → (other : List ℕ) × Answers packing last cells items lent other outcome
  rebased items outcome before after lent (placed words len every written o) = (sets lent 0 words, placed words len every refl o)
  rebased items outcome before after lent (refused i f same o) = (lent, refused i f refl o)

  -- a refusal at no line of the sheet
  abbrev told : Result (Unit {0}) Fault → Result ℕ LineFault
  told (Ok passed) = Ok 0
  told (Err f) = Err (record { fault = f; line = 0 })

  one-answer : (before after lent other : List ℕ) (r s : Result ℕ LineFault) → CellsAnswered g l packing before after r → CellsAnswered g l packing lent other s → s ≡ r
  one-answer before after lent other r s (Cells.refused f e same q) (Cells.refused f' e' stay p) = p ∙ ap told (sym e' ∙ e) ∙ sym q
  one-answer before after lent other r s (Cells.refused f e same q) (answered none items a outcome w p) = absurd (passed_not (sym none ∙ e))
  one-answer before after lent other r s (answered none items a outcome w q) (Cells.refused f e stay p) = absurd (passed_not (sym none ∙ e))
  one-answer before after lent other r s (answered none items a outcome w q) (answered none' them b outcome' v p) =
      let same = answers-there packing last cells them items (alike them items b a) lent other outcome' v in
      let here = rebased items outcome before after lent w in
      p ∙ ap (answer_of l cells) (outcome-unique packing last cells items lent other here.0 outcome' outcome (few_cells g l) same here.1) ∙ sym q

  pub cells-theorem : (before after : List ℕ) (r : Result ℕ LineFault) → length before ≡ 256 → CellsAnswered g l packing before after r → CellsTheorem g l packing before after r
  cells-theorem before after r long c =
      record {
        inside = λ k h. let d = here k h in let w = within k h in rw (land-read long d k w) (lands-inside packing last cells d.items (rectangle_in d.words) d.every k w);
        fixed = λ k item h s.
            let d = here k h in
            let w = within k h in
            rw (land-read long d k w, item-unique g l (get_or (cells_in g l) k 0) item (d.items k) s (d.sides k w)) (lands-fixed packing last cells d.items (rectangle_in d.words) d.every k w);
        apart = λ i j item column row h k other s auto a b.
            let d = here i h in
            let w = within i h in
            let v = within j k in
            let e = item-unique g l (get_or (cells_in g l) i 0) item (d.items i) s (d.sides i w) in
            lands-apart packing last cells d.items (rectangle_in d.words) d.every i j column row (few_cells g l) w v other
            (λ z. auto (ap group_of e ∙ z)) (rw (land-read long d i w) at a) (rw (land-read long d j v) at b);
        past = past before after r c;
        only = λ lent other s len a.
            let same = one-answer before after lent other r s c a in (
              same,
              λ k h.
                  let d = here k h in
                  let e = landed lent other s a (rw same (omega arith)) in
                  let w = within k h in
                  land-read len e k w ∙ one-land d e k w ∙ sym (land-read long d k w),
            );
      }
    where
      here : (k : ℕ) → k < placed_cells r → Landed before after r
      here k h = landed before after r c (omega arith)

      within : (k : ℕ) → k < placed_cells r → k < cells
      within k h = omega (arith, (here k h).counted)

      one-land : {lent other : List ℕ} {s : Result ℕ LineFault} → (d : Landed before after r) (e : Landed lent other s) → (k : ℕ) → k < cells → rectangle_in e.words k ≡ rectangle_in d.words k
      one-land {lent} {other} d e k h = all-land-same d.items e.items d.sides e.sides d.words e.words d.whole e.whole d.every e.every k h
