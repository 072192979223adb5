-- The first free line and the first free place are one; rectangles overlap where they share a cell. Assumes nothing.
use mathlib.Core.Path.{◌≡◌, sym, ap, ◌∙◌}
use mathlib.Core.Logic.{◌⊎◌, inl, inr, ◌↔◌, ⊎_elim}
use Prim.Native.Nat.{ℕ, ◌≤◌, ◌<◌, max}
use native.Mathlib.Omega.{arith}
use Rattle.free_cells.specs.declared.Rectangle.{Rectangle}
use Rattle.free_cells.specs.declared.Place.{Place}
use Rattle.free_cells.specs.Free.{Overlap, Covers, FirstOr0, first, nowhere, AtOrAfter, FirstPlace, earliest, no_place}
use Rattle.free_cells.proofs.Places.{order}

-- ---- the first line

pub first_line_unique : (These : ℕ → Type 0) (m n : ℕ) → FirstOr0 These m → FirstOr0 These n → m ≡ n
first_line_unique These m n (first p f) (first q g) =
    ⊎_elim (λ (h : m < n). absurd (g m h p)) (λ h. ⊎_elim (λ (k : n < m). absurd (f n k q)) (λ k. omega arith) (order n m)) (order m n)
first_line_unique These m n (first p f) (nowhere e g) = absurd (g m p)
first_line_unique These m n (nowhere e f) (first q g) = absurd (f n q)
first_line_unique These m n (nowhere e f) (nowhere k g) = e ∙ sym k

-- ---- the first place

-- two places of which neither is before the other are one
pub same_start : (p q : Place) → AtOrAfter p q → AtOrAfter q p → p ≡ q
same_start p q f g = join (same_rows (order p.row q.row) (order q.row p.row))
  where
    same_rows : (p.row < q.row) ⊎ (q.row ≤ p.row) → (q.row < p.row) ⊎ (p.row ≤ q.row) → p.row ≡ q.row
    same_rows (inl h) k = absurd (g (inl h))
    same_rows (inr h) (inl k) = absurd (f (inl k))
    same_rows (inr h) (inr k) = omega arith

    same-columns : p.row ≡ q.row → (p.column < q.column) ⊎ (q.column ≤ p.column) → (q.column < p.column) ⊎ (p.column ≤ q.column) → p.column ≡ q.column
    same-columns e (inl h) k = absurd (g (inr (e, h)))
    same-columns e (inr h) (inl k) = absurd (f (inr (sym e, k)))
    same-columns e (inr h) (inr k) = omega arith

    join : p.row ≡ q.row → p ≡ q
    join e = let k = same-columns e (order p.column q.column) (order q.column p.column) in
        ap {B = Place} (λ (r : ℕ). record { row = r; column = p.column }) e ∙ ap {B = Place} (λ (c : ℕ). record { row = q.row; column = c }) k

pub first_place_unique : (These : Place → Type 0) (p q : Place) → FirstPlace These p → FirstPlace These q → p ≡ q
first_place_unique These p q (earliest h f) (earliest k g) = same_start p q (λ b. f q b k) (λ b. g p b h)
first_place_unique These p q (earliest h f) (no_place e g) = absurd (g p h)
first_place_unique These p q (no_place e f) (earliest k g) = absurd (f q k)
first_place_unique These p q (no_place e f) (no_place k g) = e ∙ sym k

-- ---- cells

-- a rectangle with a cell at least
pub record Proper (r : Rectangle) : Type 0 where
  pub columns : r.columns.start < r.columns.end
  pub rows : r.rows.start < r.rows.end

-- two rectangles overlap exactly where a cell lies in both
pub overlap_exactly : (a b : Rectangle) → Proper a → Proper b → Overlap a b ↔ ((column : ℕ) × (row : ℕ) × Covers a column row × Covers b column row)
overlap_exactly a b p q = (to, back)
  where
    to : Overlap a b → (column : ℕ) × (row : ℕ) × Covers a column row × Covers b column row
    to o = (
      max a.columns.start b.columns.start,
      max a.rows.start b.rows.start,
      record {
        left = omega arith;
        right = omega (arith, p.columns, o.columns.after);
        top = omega arith;
        bottom = omega (arith, p.rows, o.rows.after);
      },
      record {
        left = omega arith;
        right = omega (arith, q.columns, o.columns.before);
        top = omega arith;
        bottom = omega (arith, q.rows, o.rows.before);
      },
    )

    back : (column : ℕ) × (row : ℕ) × Covers a column row × Covers b column row → Overlap a b
    back (column, row, x, y) =
        record {
          columns = record { before = omega (arith, x.left, y.right); after = omega (arith, y.left, x.right) };
          rows = record { before = omega (arith, x.top, y.bottom); after = omega (arith, y.top, x.bottom) };
        }
