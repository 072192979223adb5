-- Document 02, Req 10: there is one answer; and what it means for cells. Assumes nothing.
use mathlib.Core.Path.{◌≡◌, sym, ap, ◌∙◌}
use mathlib.Core.List.{List}
use mathlib.Core.Logic.{⊎_elim}
use Prim.Native.Nat.{ℕ, zero, suc, ◌+◌, ◌≤◌, ◌<◌}
use native.Mathlib.Omega.{arith}
use Rattle.cell_sides.specs.declared.Side.{Side}
use Rattle.cell_sides.specs.declared.Side.TheVariants.{Free, Fixed}
use Rattle.coordinates.specs.Types.{LinePair}
use Rattle.free_cells.specs.declared.Rectangle.{Rectangle}
use Rattle.free_cells.specs.declared.Place.{Place}
use Rattle.free_cells.specs.Words.{rectangle_in}
use Rattle.free_cells.specs.Free.{Overlap, Covers, last_row_line}
use Rattle.free_cells.proofs.Places.{order}
use Rattle.free_cells.proofs.Unique.{same_start}
use Rattle.cell_placing.specs.declared.Item.{Item}
use Rattle.cell_placing.specs.declared.Packing.{Packing}
use Rattle.std.specs.Prelude.{Option, Some, None, Result, Err}
use Rattle.cell_placing.specs.Items.{group_of}
use Rattle.cell_placing.specs.Css.{turn, Earlier, Keeps, On, start_of, First, AllLand, FirstStuck, Answers, placed, refused}
use Rattle.cell_placing.proofs.Lands.{same_rectangle, same_lines}
use Rattle.cell_placing.proofs.Placed.{first-same, stuck-same, one-turn}

-- ---- a cell has one land

same_side : (s : Option Side) (l m : LinePair) → Keeps s l → Keeps s m → l.start ≡ m.start → l ≡ m
same_side None l m f g e = absurd f
same_side (Some (Free k)) l m f g e = same_lines l m e (f ∙ ap (λ (n : ℕ). n + k) e ∙ sym g)
same_side (Some (Fixed own)) l m f g e = same_lines l m e (f.1 ∙ sym g.1)

module _ (packing : Packing) (last count : ℕ) (items : ℕ → Item) where
  -- the first candidate is one
  first-unique : (lands : ℕ → Rectangle) (i : ℕ) (q r : Rectangle) → First packing last count items lands i q → First packing last count items lands i r → q ≡ r
  first-unique lands i q r f g =
      let e : start_of q ≡ start_of r = same_start (start_of q) (start_of r) (f.first r g.one) (g.first q f.one) in
      same_rectangle q r
      (same_side (items i).column q.columns r.columns f.one.fits.columns g.one.fits.columns (ap (λ (p : Place). p.column) e))
      (same_side (items i).row q.rows r.rows f.one.fits.rows g.one.fits.rows (ap (λ (p : Place). p.row) e))

  -- all cells with a turn before this time land alike
  agree : (here there : ℕ → Rectangle) (time : ℕ)
      → ((i : ℕ) → i < count → turn items i < time → First packing last count items here i (here i))
      → ((i : ℕ) → i < count → turn items i < time → First packing last count items there i (there i))
      → (i : ℕ) → i < count → turn items i < time → here i ≡ there i
  agree here there zero f g i h w = absurd (omega arith)
  agree here there (suc time) f g i h w =
      first-unique there i (here i) (there i)
      (first-same packing last count items here there i
      (λ j e. agree here there time (λ k u v. f k u (omega arith)) (λ k u v. g k u (omega arith)) j e.held (omega (arith, e.order)))
      (here i) (f i h w))
      (g i h w)

  -- "lands-unique": the lands are one
  pub all-unique : (here there : ℕ → Rectangle) → AllLand packing last count items here → AllLand packing last count items there → (i : ℕ) → i < count → here i ≡ there i
  all-unique here there f g i h = agree here there (suc (turn items i)) (λ k u v. f k u) (λ k u v. g k u) i h (omega arith)

  -- what is stuck does not land, whatever the lands
  pub stuck-lands : (i : ℕ) (there : ℕ → Rectangle) → FirstStuck packing last count items i
      → ((j : ℕ) → Earlier count items j i → First packing last count items there j (there j)) → (r : Rectangle) → First packing last count items there i r → ⊥
  stuck-lands i there s g r f =
      stuck-same packing last count items s.lands there i same s.stuck r f.one
    where
      same : (j : ℕ) → Earlier count items j i → s.lands j ≡ there j
      same j e =
          agree s.lands there (turn items i) (λ k u v. s.before k (record { held = u; order = v })) (λ k u v. g k (record { held = u; order = v })) j e.held e.order

  pub stuck-not-all : (i : ℕ) (there : ℕ → Rectangle) → FirstStuck packing last count items i → AllLand packing last count items there → ⊥
  stuck-not-all i there s g = stuck-lands i there s (λ j e. g j e.held) (there i) (g i s.held)

  -- the first that is stuck is one
  pub stuck-unique : (i j : ℕ) → count ≤ 256 → FirstStuck packing last count items i → FirstStuck packing last count items j → i ≡ j
  stuck-unique i j few s t = ⊎_elim before (λ h. ⊎_elim past (λ k. same h k) (order (turn items j) (turn items i))) (order (turn items i) (turn items j))
    where
      before : turn items i < turn items j → i ≡ j
      before h =
          absurd (stuck-lands i t.lands s (λ k e. t.before k (record { held = e.held; order = omega (arith, e.order) })) (t.lands i) (t.before i (record { held = s.held; order = h })))

      past : turn items j < turn items i → i ≡ j
      past h =
          absurd (stuck-lands j s.lands t (λ k e. s.before k (record { held = e.held; order = omega (arith, e.order) })) (s.lands j) (s.before j (record { held = t.held; order = h })))

      same : turn items j ≤ turn items i → turn items i ≤ turn items j → i ≡ j
      same h k = let u = s.held in let v = t.held in (one-turn (group_of (items i)) (group_of (items j)) i j (omega arith) (omega arith) (omega arith)).1

  -- so a call has one outcome
  pub outcome-unique : (before after other : List ℕ) (o p : Result (Unit {0}) ℕ) → count ≤ 256 → Answers packing last count items before after o → Answers packing last count items before other p → o ≡ p
  outcome-unique before after other o p few (placed u a b d e) (placed v f g h k) = e ∙ sym k
  outcome-unique before after other o p few (placed u a b d e) (refused i s h k) = absurd (stuck-not-all i (rectangle_in u) s b)
  outcome-unique before after other o p few (refused i s h k) (placed u a b d e) = absurd (stuck-not-all i (rectangle_in u) s b)
  outcome-unique before after other o p few (refused i s h k) (refused j t g l) = k ∙ ap {B = Result (Unit {0}) ℕ} (λ (k : ℕ). Err k) (stuck-unique i j few s t) ∙ sym l

  -- ---- what it means

  module _ (lands : ℕ → Rectangle) (land : AllLand packing last count items lands) where
    -- every cell lands inside the columns and the rows
    pub lands-inside : (i : ℕ) → i < count → On last (lands i).columns × On last_row_line (lands i).rows
    lands-inside i h = ((land i h).one.fits.across, (land i h).one.fits.down)

    -- and keeps its sides: its lines, or its tracks
    pub lands-fixed : (i : ℕ) → i < count → Keeps (items i).column (lands i).columns × Keeps (items i).row (lands i).rows
    lands-fixed i h = ((land i h).one.fits.columns, (land i h).one.fits.rows)

    -- a cell lies in at most one of two items of which one is automatic
    pub lands-apart : (i j column row : ℕ) → count ≤ 256 → i < count → j < count → (i ≡ j → ⊥) → (group_of (items i) ≡ 0 → ⊥) → Covers (lands i) column row → Covers (lands j) column row → ⊥
    lands-apart i j column row few h k apart auto a b = ⊎_elim i-first (λ w. ⊎_elim j-first (λ v. same w v) (order (turn items j) (turn items i))) (order (turn items i) (turn items j))
      where
        share : (x y : Rectangle) → Covers x column row → Covers y column row → Overlap x y
        share x y p q =
            record {
              columns = record { before = omega (arith, p.left, q.right); after = omega (arith, q.left, p.right) };
              rows = record { before = omega (arith, p.top, q.bottom); after = omega (arith, q.top, p.bottom) };
            }

        j-first : turn items j < turn items i → ⊥
        j-first w = (land i h).one.free auto j (record { held = k; order = w }) (share (lands j) (lands i) b a)

        i-first : turn items i < turn items j → ⊥
        i-first w =
            (land j k).one.free (λ z. auto (omega (arith, z))) i (record { held = h; order = w }) (share (lands i) (lands j) a b)

        same : turn items j ≤ turn items i → turn items i ≤ turn items j → ⊥
        same w v = apart (one-turn (group_of (items i)) (group_of (items j)) i j (omega arith) (omega arith) (omega arith)).1
