-- One run more: the cells that it adds, and the areas with it. Assumes nothing.
use Prim.Native.Nat.{ℕ, ◌+◌, ◌-◌, ◌≤◌, ◌<◌}
use mathlib.Core.Path.{◌≡◌, refl, sym, ap, ◌∙◌}
use mathlib.Core.List.{List, [], ◌∷◌, ◌++◌}
use mathlib.Core.Bool.{true, false, false≢true}
use mathlib.Core.Logic.{◌⊎◌, inl, inr, ⊎_elim}
use native.Mathlib.Omega.{arith}
use lib.ListN.{length, replicate, length-append, length-replicate}
use Rattle.picture_rules.specs.Picture.{Word, Picture, ElementAt, CellIn, NameIn, is_dots, Box, Filled, AllFilled, PictureArea, Among, OtherName, FirstBefore, NamesOf, AreasOf}
use Rattle.picture_rules.specs.Steps.{run_box, continues, longer, grown}
use Rattle.picture_rules.proofs.Cells.{le_or_lt, element-left, element-right, element-cases, element-repeated, element-repeats, cell-before, cell-here, cell-cases}
use Rattle.picture_rules.proofs.Boxes.{first_cell}
use Rattle.picture_rules.proofs.Lists.{among_left, among-right, among_cases, pairs_more, pairs-before, pairs-after, pairs-swap}
use Rattle.picture_rules.proofs.Drawn.{continues_so, continues_if}
use Rattle.picture_rules.proofs.Continue.{row-meets, start-meets, end-meets}

-- the picture with a last row
abbrev pub under : Picture → List Word → Picture
under p row = p ++ (row ∷ [])

-- a last row is the last
last_row : (p : Picture) (row : List Word) (r c : ℕ) (n : Word) → CellIn (under p row) r c n → CellIn p r c n ⊎ ((r ≡ length p + 1) × ElementAt [] row c n)
last_row p row r c n h =
    ⊎_elim (λ a. inl a) (λ b. ⊎_elim (λ a. inr a) (λ k. absurd (omega (arith, h.1.1, length-append p (row ∷ [])))) b) (cell-cases p row [] r c n h)

-- two pictures whose names have the same cells have the same names and the same areas
module _ (p q : Picture) (l : List PictureArea)
    (to : (r c : ℕ) (n : Word) → is_dots n ≡ false → CellIn p r c n → CellIn q r c n)
    (from : (r c : ℕ) (n : Word) → is_dots n ≡ false → CellIn q r c n → CellIn p r c n) where
  pub names_same : NamesOf p l → NamesOf q l
  names_same a =
      record {
        stands = λ x m. let h = a.stands x m in record { name = h.name; row = h.row; column = h.column; cell = to _ _ _ h.name h.cell };
        every = λ n h. a.every n (record { name = h.name; row = h.row; column = h.column; cell = from _ _ n h.name h.cell });
        once = a.once;
      }

  pub areas-same : AreasOf p l → AreasOf q l
  areas-same a =
      record {
        names = names_same a.names;
        filled = λ x m.
            let f = a.filled x m in
            let d = (a.names.stands x m).name in
            record { rows = f.rows; columns = f.columns; cells = λ r c. (λ h. (f.cells r c).0 (from r c x.name d h), λ i. to r c x.name d ((f.cells r c).1 i)) };
        order = a.order;
      }

-- an empty last row adds no cell
empty_none : (p : Picture) (r c : ℕ) (n : Word) → is_dots n ≡ false → CellIn (under p []) r c n → CellIn p r c n
empty_none p r c n d h = ⊎_elim (λ k. k) (λ k. absurd (omega (arith, k.1.0, k.1.1))) (last_row p [] r c n h)

pub empty_names : (p : Picture) (l : List PictureArea) → NamesOf p l → NamesOf (under p []) l
empty_names p l a = names_same p (under p []) l (λ r c n d h. cell-before p [] [] r c n h) (empty_none p) a

pub empty_row : (p : Picture) (l : List PictureArea) → AreasOf p l → AreasOf (under p []) l
empty_row p l a = areas-same p (under p []) l (λ r c n d h. cell-before p [] [] r c n h) (empty_none p) a

module _ (p : Picture) (done : List Word) (count : ℕ) (w : Word) where
  abbrev before : Picture
  before = under p done

  abbrev after : Picture
  after = under p (done ++ replicate count w)

  grow-old : (r c : ℕ) (n : Word) → CellIn before r c n → CellIn after r c n
  grow-old r c n h =
      ⊎_elim (λ k. cell-before p _ [] r c n k)
      (λ k. rw k.0 (cell-here p _ [] c n (element-left [] done (replicate count w) c n k.1)))
      (last_row p done r c n h)

  grow-new : (c : ℕ) → length done < c → c ≤ length done + count → CellIn after (length p + 1) c w
  grow-new c h k =
      let e : length done + (c - length done) ≡ c = omega arith in
      cell-here p _ [] c w (rw e at (element-right [] done (replicate count w) (c - length done) w (element-repeated [] count w (c - length done) (omega arith) (omega arith))))

  grow-cases : (r c : ℕ) (n : Word) → CellIn after r c n → CellIn before r c n ⊎ ((r ≡ length p + 1) × (length done < c) × (c ≤ length done + count) × (w ≡ n))
  grow-cases r c n h = ⊎_elim (λ k. inl (cell-before p _ [] r c n k)) here (last_row p _ r c n h)
    where
      here : (r ≡ length p + 1) × ElementAt [] (done ++ replicate count w) c n → CellIn before r c n ⊎ ((r ≡ length p + 1) × (length done < c) × (c ≤ length done + count) × (w ≡ n))
      here k = ⊎_elim (λ i. inl (rw k.0 (cell-here p done [] c n i))) new (element-cases [] done (replicate count w) c n k.1)
        where
          new : ((j : ℕ) × (c ≡ length done + j) × ElementAt [] (replicate count w) j n) → CellIn before r c n ⊎ ((r ≡ length p + 1) × (length done < c) × (c ≤ length done + count) × (w ≡ n))
          new i = let g = element-repeats [] count w i.0 n i.2 in inr (k.0, omega (arith, i.1, g.0), omega (arith, i.1, g.1), g.2)

  -- another name has the cells that it had
  grow-other : (n : Word) → (n ≡ w → ⊥) → (r c : ℕ) → CellIn after r c n → CellIn before r c n
  grow-other n o r c h = ⊎_elim (λ k. k) (λ k. absurd (o (sym k.3))) (grow-cases r c n h)

  filled-other : (n : Word) (b : Box) → (n ≡ w → ⊥) → Filled before n b → Filled after n b
  filled-other n b o f =
      record { rows = f.rows; columns = f.columns; cells = λ r c. (λ h. (f.cells r c).0 (grow-other n o r c h), λ i. grow-old r c n ((f.cells r c).1 i)) }

  -- a cell before the run stands above its row or left of it
  seen-bounds : (r c : ℕ) (n : Word) → CellIn before r c n → (r ≤ length p) ⊎ ((r ≡ length p + 1) × (c ≤ length done))
  seen-bounds r c n h = ⊎_elim (λ k. inl k.1.1) (λ k. inr (k.0, k.1.1)) (last_row p done r c n h)

  -- ---- dots

  dots-none : is_dots w ≡ true → (r c : ℕ) (n : Word) → is_dots n ≡ false → CellIn after r c n → CellIn before r c n
  dots-none d r c n e h = grow-other n (λ q. false≢true (sym e ∙ ap is_dots q ∙ d)) r c h

  pub dots-names : (l : List PictureArea) → is_dots w ≡ true → NamesOf before l → NamesOf after l
  dots-names l d a = names_same before after l (λ r c n e h. grow-old r c n h) (dots-none d) a

  pub dots-keep : (l : List PictureArea) → is_dots w ≡ true → AreasOf before l → AreasOf after l
  dots-keep l d a = areas-same before after l (λ r c n e h. grow-old r c n h) (dots-none d) a

  -- ---- a name

  abbrev run_area : PictureArea
  run_area = record { name = w; box = run_box (length p + 1) (length done + 1) count }

  -- what stood before the run stands after it
  still : (n : Word) → NameIn before n → NameIn after n
  still n h = record { name = h.name; row = h.row; column = h.column; cell = grow-old _ _ n h.cell }

  -- a name stands before the run, or is the run's
  named-cases : (n : Word) → NameIn after n → NameIn before n ⊎ (w ≡ n)
  named-cases n h = ⊎_elim (λ k. inl (record { name = h.name; row = h.row; column = h.column; cell = k })) (λ k. inr k.3) (grow-cases _ _ n h.cell)

  module _ (some : 1 ≤ count) (name : is_dots w ≡ false) where
    run-stands : NameIn after w
    run-stands = record { name = name; row = length p + 1; column = length done + 1; cell = grow-new (length done + 1) (omega arith) (omega arith) }

    pub new-names : (l : List PictureArea) → ((x : PictureArea) → Among x l → OtherName x run_area) → NamesOf before l → NamesOf after (l ++ (run_area ∷ []))
    new-names l other a =
        record {
          stands = λ x m. ⊎_elim (λ k. still x.name (a.stands x k)) (last x) (among_cases x l _ m);
          every = λ n h. ⊎_elim (λ k. let i = a.every n k in (i.0, among_left _ l _ i.1)) (here n) (named-cases n h);
          once = pairs_more OtherName run_area l other a.once;
        }
      where
        last : (x : PictureArea) → Among x (run_area ∷ []) → NameIn after x.name
        last x (inl e) = rw (← e) run-stands
        last x (inr m) = absurd m

        here : (n : Word) → w ≡ n → (b : Box) × Among (record { name = n; box = b }) (l ++ (run_area ∷ []))
        here n e = (run_area.box, among-right _ l _ (inl (ap (λ (v : Word). record { name = v; box = run_area.box }) e)))

    -- an area of that name in the place of another
    pub known-names : (front : List PictureArea) (x : PictureArea) (back : List PictureArea) (b : Box) → x.name ≡ w
        → NamesOf before (front ++ x ∷ back) → NamesOf after (front ++ record { name = x.name; box = b } ∷ back)
    known-names front x back b e a =
        record {
          stands = λ z m. ⊎_elim (λ k. still z.name (a.stands z (among_left z front _ k))) (rest z) (among_cases z front _ m);
          every = λ n h. moved n (⊎_elim (λ k. a.every n k) (λ q. (x.box, among-right _ front _ (inl (ap (λ (v : Word). record { name = v; box = x.box }) (e ∙ q))))) (named-cases n h));
          once = pairs-swap OtherName x back y front (λ z o. o) (λ z o. o) a.once;
        }
      where
        y : PictureArea
        y = record { name = x.name; box = b }

        rest : (z : PictureArea) → Among z (y ∷ back) → NameIn after z.name
        rest z (inl q) = rw (← q) (still x.name (a.stands x (among-right x front (x ∷ back) (inl refl))))
        rest z (inr m) = still z.name (a.stands z (among-right z front _ (inr m)))

        -- the area of a name is there still, or is the one that took the place
        moved : (n : Word) → ((i : Box) × Among (record { name = n; box = i }) (front ++ x ∷ back)) → (i : Box) × Among (record { name = n; box = i }) (front ++ y ∷ back)
        moved n k = ⊎_elim (λ i. (k.0, among_left _ front _ i)) right (among_cases _ front _ k.1)
          where
            right : Among (record { name = n; box = k.0 }) (x ∷ back) → (i : Box) × Among (record { name = n; box = i }) (front ++ y ∷ back)
            right (inl q) = (b, among-right _ front _ (inl (ap (λ (v : PictureArea). record { name = v.name; box = b }) q)))
            right (inr m) = (k.0, among-right _ front _ (inr m))

    -- a new name has the cells of its run
    new-filled : ((r c : ℕ) → CellIn before r c w → ⊥) → Filled after w run_area.box
    new-filled none =
        record {
          rows = omega arith;
          columns = omega arith;
          cells = λ r c. (
            λ h. ⊎_elim (λ k. absurd (none r c k)) (λ k. (omega (arith, k.0), omega (arith, k.0), omega (arith, k.1), omega (arith, k.2))) (grow-cases r c w h),
            λ i. let e : r ≡ length p + 1 = omega (arith, i.0, i.1) in rw e (grow-new c (omega (arith, i.2)) (omega (arith, i.3))),
          );
        }

    pub new-keep : (l : List PictureArea) → ((x : PictureArea) → Among x l → OtherName x run_area) → AreasOf before l → AreasOf after (l ++ (run_area ∷ []))
    new-keep l other a =
        record {
          names = new-names l other a.names;
          filled = λ x m. ⊎_elim (λ k. filled-other x.name x.box (other x k) (a.filled x k)) (last x) (among_cases x l _ m);
          order = pairs_more FirstBefore run_area l earlier a.order;
        }
      where
        none : (r c : ℕ) → CellIn before r c w → ⊥
        none r c h = let k = a.names.every w (record { name = name; row = r; column = c; cell = h }) in other _ k.1 refl

        last : (x : PictureArea) → Among x (run_area ∷ []) → Filled after x.name x.box
        last x (inl e) = rw (← e) (new-filled none)
        last x (inr m) = absurd m

        earlier : (x : PictureArea) → Among x l → FirstBefore x run_area
        earlier x m =
            let f = a.filled x m in
            ⊎_elim (λ k. inl (omega arith)) (λ k. inr (k.0, omega (arith, k.1)))
            (seen-bounds _ _ x.name ((f.cells _ _).1 (first_cell x.box f.rows f.columns)))

    -- a box that the run continues has the cells of the name with it
    longer-filled : (b : Box) → Filled before w b → continues b run_area.box ≡ true → Filled after w (longer b run_area.box)
    longer-filled b f h =
        let e = continues_so b run_area.box h in
        record {
          rows = omega (arith, f.rows, e.0);
          columns = f.columns;
          cells = λ r c. (
            λ k. ⊎_elim
                (λ i. let j = (f.cells r c).0 i in (j.0, omega (arith, j.1, e.0), j.2, j.3))
                (λ i. (omega (arith, i.0, f.rows, e.0), omega (arith, i.0), omega (arith, i.1, e.1), omega (arith, i.2, e.2)))
                (grow-cases r c w k),
            λ i. ⊎_elim
                (λ k. grow-old r c w ((f.cells r c).1 (i.0, omega (arith, e.0), i.2, i.3)))
                (λ k. let g : r ≡ length p + 1 = omega (arith, i.1) in rw g (grow-new c (omega (arith, i.2, e.1)) (omega (arith, i.3, e.2))))
                (le_or_lt r (length p)),
          );
        }

    pub known-keep : (front : List PictureArea) (x : PictureArea) (back : List PictureArea) → x.name ≡ w → continues x.box run_area.box ≡ true
        → AreasOf before (front ++ x ∷ back) → AreasOf after (front ++ grown x run_area.box ∷ back)
    known-keep front x back e h a =
        record {
          names = known-names front x back y.box e a.names;
          filled = λ z m. ⊎_elim (λ k. kept z (among_left z front _ k) (pairs-before OtherName x back front z a.names.once k)) (rest z) (among_cases z front _ m);
          order = pairs-swap FirstBefore x back y front (λ z o. rw h o) (λ z o. rw h o) a.order;
        }
      where
        y : PictureArea
        y = grown x run_area.box

        kept : (z : PictureArea) → Among z (front ++ x ∷ back) → OtherName z x → Filled after z.name z.box
        kept z m o = filled-other z.name z.box (λ q. o (q ∙ sym e)) (a.filled z m)

        now : Filled after y.name y.box
        now = rw (h, e) (longer-filled x.box (rw e at (a.filled x (among-right x front (x ∷ back) (inl refl)))) h)

        rest : (z : PictureArea) → Among z (y ∷ back) → Filled after z.name z.box
        rest z (inl q) = rw (← q) now
        rest z (inr m) = kept z (among-right z front _ (inr m)) (λ q. pairs-after OtherName x back front z a.names.once m (sym q))

-- ---- where the whole picture is filled, the run continues the box

module _ (p : Picture) (done : List Word) (count : ℕ) (w : Word) (rest : List Word) (q : Picture)
    (fresh : ElementAt [] done (length done) w → ⊥) (ended : ElementAt [] rest 1 w → ⊥) (some : 1 ≤ count) where
  abbrev row : List Word
  row = done ++ (replicate count w ++ rest)

  abbrev whole : Picture
  whole = p ++ row ∷ q

  into : (r c : ℕ) → CellIn (under p done) r c w → CellIn whole r c w
  into r c h = ⊎_elim (λ k. cell-before p row q r c w k) (λ k. rw k.0 (cell-here p row q c w (element-left [] done _ c w k.1))) (last_row p done r c w h)

  back : (r c : ℕ) → r ≤ length p → CellIn whole r c w → CellIn (under p done) r c w
  back r c l h = ⊎_elim (λ k. cell-before p done [] r c w k) (λ k. absurd (⊎_elim (λ i. omega (arith, i.0)) (λ i. omega arith) k)) (cell-cases p row q r c w h)

  run_in : (c : ℕ) → length done < c → c ≤ length done + count → CellIn whole (length p + 1) c w
  run_in c h k =
      let e : length done + (c - length done) ≡ c = omega arith in
      cell-here p row q c w (rw e at (element-right [] done (replicate count w ++ rest) (c - length done) w (element-left [] (replicate count w) rest (c - length done) w (element-repeated [] count w (c - length done) (omega arith) (omega arith)))))

  -- a cell in the row of the run
  in_row : (c : ℕ) → CellIn whole (length p + 1) c w → ElementAt [] row c w
  in_row c h = ⊎_elim (λ k. absurd (omega (arith, k.1.1))) (λ k. ⊎_elim (λ i. i.1) (λ i. absurd (omega arith)) k) (cell-cases p row q (length p + 1) c w h)

  not-before : CellIn whole (length p + 1) (length done) w → ⊥
  not-before h = ⊎_elim fresh (λ k. omega (arith, k.1, k.2.0)) (element-cases [] done _ (length done) w (in_row (length done) h))

  not_after : CellIn whole (length p + 1) (length done + count + 1) w → ⊥
  not_after h = ⊎_elim (λ k. omega (arith, k.1)) past (element-cases [] done (replicate count w ++ rest) (length done + count + 1) w (in_row _ h))
    where
      past : ((j : ℕ) × (length done + count + 1 ≡ length done + j) × ElementAt [] (replicate count w ++ rest) j w) → ⊥
      past k = ⊎_elim (λ i. omega (arith, k.1, i.1, length-replicate count w)) next (element-cases [] (replicate count w) rest k.0 w k.2)
        where
          next : ((i : ℕ) × (k.0 ≡ length (replicate count w) + i) × ElementAt [] rest i w) → ⊥
          next i = let e : i.0 ≡ 1 = omega (arith, k.1, i.1, length-replicate count w) in ended (rw e at i.2)

  pub filled-continues : is_dots w ≡ false → (b : Box) → Filled (under p done) w b → AllFilled whole → continues b (run_box (length p + 1) (length done + 1) count) ≡ true
  filled-continues d b f all =
      let e = all w (record { name = d; row = length p + 1; column = length done + 1; cell = run_in (length done + 1) (omega arith) (omega arith) }) in
      let seen : (r c : ℕ) → CellIn (under p done) r c w → (r ≤ length p) ⊎ ((r ≡ length p + 1) × (c ≤ length done)) = λ r c h. seen-bounds p done count w r c w h in
      continues_if b (run_box (length p + 1) (length done + 1) count)
      (row-meets (λ r c. CellIn (under p done) r c w) (λ r c. CellIn whole r c w) (length p) (length done) count b e.0 some f.rows f.columns f.cells e.1.cells into back seen run_in not-before not_after)
      (start-meets (λ r c. CellIn (under p done) r c w) (λ r c. CellIn whole r c w) (length p) (length done) count b e.0 some f.rows f.columns f.cells e.1.cells into back seen run_in not-before not_after)
      (end-meets (λ r c. CellIn (under p done) r c w) (λ r c. CellIn whole r c w) (length p) (length done) count b e.0 some f.rows f.columns f.cells e.1.cells into back seen run_in not-before not_after)
