-- The cells of a run, one after the other. Assumes nothing.
use mathlib.Core.Path.{◌≡◌, refl, ap, ◌∙◌}
use mathlib.Core.Bool.{Bool, true, false, cond}
use mathlib.Core.List.{List, [], ◌∷◌, ◌++◌, append-nil}
use mathlib.Core.Logic.{⊎_elim}
use Prim.Native.Nat.{ℕ, zero, suc, ◌+◌, ◌≤◌, ◌<◌}
use native.Mathlib.Omega.{arith}
use lib.ListN.{length, get_or, set, length-append, get_or-append}
use lib.Seq.{get_or-set_same, get_or-set_other, get_or-append-add}
use Rattle.coordinates.proofs.Lines.{lt_or_ge}
use Rattle.placement_hits.specs.Steps.{passing}
use Rattle.cell_placing.specs.declared.Item.{Item}
use Rattle.cell_placing.specs.Items.{item_word}
use Rattle.panel_placing.specs.declared.gather.Settled.{Settled}
use Rattle.panel_placing.specs.Cells.{is_cell}
use Rattle.panel_placing.specs.Steps.{cells_before, ItemAt, WordAt, Collected}

-- one more number
passing_more : (t : ℕ → Bool) (a n : ℕ) → passing t a (suc n) ≡ passing t a n ++ cond (t (a + n)) ((a + n) ∷ []) []
unfolding passing
passing_more t a zero = let z : a + 0 ≡ a = omega arith in rw z
passing_more t a (suc n) =
    let z : a + suc n ≡ a + 1 + n = omega arith in
    rw (z, passing_more t (a + 1) n) (go (t a))
  where
    go : (b : Bool) → cond b (a ∷ passing t (a + 1) n ++ cond (t (a + 1 + n)) ((a + 1 + n) ∷ []) []) (passing t (a + 1) n ++ cond (t (a + 1 + n)) ((a + 1 + n) ∷ []) [])
        ≡ cond b (a ∷ passing t (a + 1) n) (passing t (a + 1) n) ++ cond (t (a + 1 + n)) ((a + 1 + n) ∷ []) []
    go true = refl
    go false = refl

module _ (s : Settled) (most : ℕ) where
  abbrev cells : ℕ → List ℕ
  cells i = cells_before s.words.now i

  cells_more : (i : ℕ) → cells (i + 1) ≡ cells i ++ cond (is_cell s.words.now i) (i ∷ []) []
  unfolding cells_before
  cells_more i =
      let z : i + 1 ≡ suc i = omega arith in
      let y : 0 + i ≡ i = omega arith in
      ap (λ (n : ℕ). passing (is_cell s.words.now) 0 n) z ∙ (rw y at (passing_more (is_cell s.words.now) 0 i))

  no_cells : cells 0 ≡ []
  unfolding cells_before passing
  no_cells = refl

  pub collected-begins : (items : List ℕ) → Collected s most 0 items 0
  collected-begins items = record { counted = rw no_cells (omega arith); each = λ k h. absurd (omega arith) }

  -- cell k where another placement is looked at, whether it is a cell or not
  cell_kept : (i k : ℕ) → k < length (cells i) → get_or (cells (i + 1)) k 0 ≡ get_or (cells i) k 0
  cell_kept i k h =
      ap (λ (l : List ℕ). get_or l k 0) (cells_more i) ∙ get_or-append (cells i) (cond (is_cell s.words.now i) (i ∷ []) []) 0 k h

  kept : (i count : ℕ) (items : List ℕ) → Collected s most i items count → (k : ℕ) → k < count
      → (get_or (cells (i + 1)) k 0 < i + 1) × WordAt s (get_or (cells (i + 1)) k 0) (get_or items k 0)
  kept i count items c k h =
      let e = cell_kept i k (omega (arith, c.counted)) in
      let d = c.each k h in
      rw e (omega (arith, d.0), d.1)

  -- one that is no cell
  pub collected-other : (i count : ℕ) (items : List ℕ) → is_cell s.words.now i ≡ false → Collected s most i items count → Collected s most (i + 1) items count
  collected-other i count items e c =
      let z : cells (i + 1) ≡ cells i = cells_more i ∙ rw e (append-nil (cells i)) in
      record { counted = rw z c.counted; each = kept i count items c }

  -- as many as are counted
  pub collected-full : (i count : ℕ) (items : List ℕ) → most ≤ count → Collected s most i items count → Collected s most (i + 1) items count
  collected-full i count items h c =
      let n = ap length (cells_more i) ∙ length-append (cells i) (cond (is_cell s.words.now i) (i ∷ []) []) in
      record { counted = omega (arith, c.counted, n); each = kept i count items c }

  -- a cell
  pub collected-more : (i count : ℕ) (items : List ℕ) (item : Item) → is_cell s.words.now i ≡ true → count < most → count < length items
      → ItemAt s.numbers.now s.columns s.rows i item → Collected s most i items count → Collected s most (i + 1) (set items count (item_word item)) (count + 1)
  collected-more i count items item e h room sides c =
      record {
        counted = rw m (omega (arith, length-append (cells i) (i ∷ []), n));
        each = λ k v. ⊎_elim (before k) (last k v) (lt_or_ge k count);
      }
    where
      w : ℕ
      w = item_word item

      n : count ≡ length (cells i)
      n = omega (arith, c.counted)

      m : cells (i + 1) ≡ cells i ++ (i ∷ [])
      m = cells_more i ∙ rw e refl

      before : (k : ℕ) → k < count → (get_or (cells (i + 1)) k 0 < i + 1) × WordAt s (get_or (cells (i + 1)) k 0) (get_or (set items count w) k 0)
      before k u = rw (get_or-set_other items count k w 0 (λ z. omega arith)) (kept i count items c k u)

      last : (k : ℕ) → k < count + 1 → count ≤ k → (get_or (cells (i + 1)) k 0 < i + 1) × WordAt s (get_or (cells (i + 1)) k 0) (get_or (set items count w) k 0)
      last k v u =
          let z : k ≡ length (cells i) + 0 = omega (arith, n) in
          let y : k ≡ count = omega arith in
          let p : get_or (cells (i + 1)) k 0 ≡ i = ap (λ (l : List ℕ). get_or l k 0) m ∙ ap (λ (x : ℕ). get_or (cells i ++ (i ∷ [])) x 0) z ∙ get_or-append-add (cells i) (i ∷ []) 0 0 in
          let q : get_or (set items count w) k 0 ≡ w = ap (λ (x : ℕ). get_or (set items count w) x 0) y ∙ get_or-set_same items count w 0 room in
          rw (p, q) (omega arith, record { item = item; sides = sides; word = refl })
