-- From turn to turn: what was placed stays where CSS puts it. Assumes nothing.
use mathlib.Core.Path.{◌≡◌, refl, sym, ap, ◌∙◌}
use mathlib.Core.Bool.{Bool, true, false, cond}
use mathlib.Core.List.{List}
use mathlib.Core.Logic.{⊎_elim}
use Prim.Native.Nat.{ℕ, zero, suc, ◌+◌, ◌*◌, ◌≤◌, ◌<◌}
use native.Mathlib.Omega.{arith}
use lib.ListN.{length, get_or, set, take, replicate, length-set, length-take, length-replicate, get_or-replicate}
use lib.Seq.{sets, get_or-set_same, get_or-set_other, get_or-take}
use Rattle.free_cells.specs.declared.Rectangle.{Rectangle}
use Rattle.free_cells.specs.Words.{rectangle_of, rectangle_word, rectangle_in}
use Rattle.free_cells.specs.Free.{last_row_line}
use Rattle.free_cells.proofs.Words.{rectangle_back}
use Rattle.free_cells.proofs.Places.{order}
use Rattle.cell_placing.specs.declared.Item.{Item}
use Rattle.cell_placing.specs.declared.Packing.{Packing}
use Rattle.cell_placing.specs.declared.Packing.TheVariants.{Sparse, Dense}
use Rattle.std.specs.Prelude.{Ok}
use Rattle.cell_placing.specs.Items.{is_lined, item_in, group_of}
use Rattle.cell_placing.specs.Css.{turn, Earlier, Fits, start_of, Unoccupied, PastInRow, LastOfRest, PastCursor, Past, Candidate, First, Stuck, AllLand, FirstStuck, Answers}
use Rattle.cell_placing.proofs.Lands.{on_small}
use Rattle.cell_placing.specs.Css as Css
use Rattle.cell_placing.specs.Steps.{Going, Ready}

-- ---- only what was placed before a cell counts for it

module _ (packing : Packing) (last count : ℕ) (items : ℕ → Item) (here there : ℕ → Rectangle) (i : ℕ) (same : (j : ℕ) → Earlier count items j i → here j ≡ there j) where
  past_same : (g : ℕ) (r : Rectangle) → Past packing g count items here i r → Past packing g count items there i r
  past_same g r h = go packing g h
    where
      go : (p : Packing) (g : ℕ) → Past p g count items here i r → Past p g count items there i r
      go Dense g h = tt
      go Sparse zero h = tt
      go Sparse (suc zero) h = λ j e f q. rw (← same j e) (h j e f (rw (← same j e) at q))
      go Sparse (suc (suc g)) h = λ j e. rw (← same j e.earlier) (h j e)

  pub candidate-same : (r : Rectangle) → Candidate packing last count items here i r → Candidate packing last count items there i r
  candidate-same r c =
      record {
        fits = c.fits;
        free = λ out j e o. c.free out j e (rw (← same j e) at o);
        past = past_same (group_of (items i)) r c.past;
      }

module _ (packing : Packing) (last count : ℕ) (items : ℕ → Item) (here there : ℕ → Rectangle) (i : ℕ) (same : (j : ℕ) → Earlier count items j i → here j ≡ there j) where
  pub first-same : (r : Rectangle) → First packing last count items here i r → First packing last count items there i r
  first-same r f =
      record {
        one = candidate-same packing last count items here there i same r f.one;
        first = λ q c. f.first q (candidate-same packing last count items there here i (λ j e. sym (same j e)) q c);
      }

  pub stuck-same : Stuck packing last count items here i → Stuck packing last count items there i
  stuck-same s q c = s q (candidate-same packing last count items there here i (λ j e. sym (same j e)) q c)

-- ---- turns

-- cells have turns of their own
pub one-turn : (g h i j : ℕ) → i < 256 → j < 256 → g * 256 + i ≡ h * 256 + j → (g ≡ h) × (i ≡ j)
one-turn g h i j u v e = ⊎_elim (λ (l : g < h). absurd (omega arith)) (λ l. ⊎_elim (λ (k : h < g). absurd (omega arith)) (λ k. let z : g ≡ h = omega arith in (z, omega arith)) (order h g)) (order g h)

pub group_most : (item : Item) → group_of item < 3
unfolding group_of
group_most item = go (is_lined item.row) (is_lined item.column)
  where
    go : (a b : Bool) → cond a (cond b 0 1) 2 < 3
    go true true = omega arith
    go true false = omega arith
    go false b = omega arith

module _ (packing : Packing) (last count : ℕ) (items placed : List ℕ) where
  -- nothing is placed yet
  pub going-begins : count ≤ 256 → placed ≡ take count (replicate 256 0) → Going packing last count items placed 0
  going-begins few e =
      record {
        few = few;
        whole = ap length e ∙ length-take count (replicate {A = ℕ} 256 0) ∙ omega (arith, length-replicate {A = ℕ} 256 0);
        landed = λ j h w. absurd (omega arith);
        later = λ j h w. ap (λ (l : List ℕ). get_or l j 0) e ∙ get_or-take count (replicate 256 0) j 0 h ∙ get_or-replicate 256 j 0 0 (omega arith);
      }

  -- a cell of another group
  pub going-other : (group i : ℕ) → i < count → (group_of (item_in items i) ≡ group → ⊥) → Going packing last count items placed (group * 256 + i)
      → Going packing last count items placed (group * 256 + i + 1)
  going-other group i held other g =
      record {
        few = g.few;
        whole = g.whole;
        landed = λ j h w.
            ⊎_elim
            (λ (l : turn (item_in items) j < group * 256 + i). g.landed j h l)
            (λ l.
            let f = g.few in
            let e : turn (item_in items) j ≡ group * 256 + i = omega arith in
            let t = one-turn (group_of (item_in items j)) group j i (omega arith) (omega arith) e in
            absurd (other (rw t.1 at t.0)))
            (order (turn (item_in items) j) (group * 256 + i));
        later = λ j h w. g.later j h (omega arith);
      }

  -- in its turn
  pub ready_for : (group i : ℕ) → i < count → group_of (item_in items i) ≡ group → Going packing last count items placed (group * 256 + i) → Ready packing last count items placed i
  ready_for group i held e g = record { held = held; going = rw e g }

  pub turn-stuck : (i : ℕ) → Ready packing last count items placed i → Stuck packing last count (item_in items) (rectangle_in placed) i → FirstStuck packing last count (item_in items) i
  turn-stuck i r s = record { lands = rectangle_in placed; held = r.held; before = λ j e. r.going.landed j e.held e.order; stuck = s }

  -- the word of a land gives it back
  word-back : (item : Item) (r : Rectangle) → last < 65536 → Fits last item r → rectangle_of (rectangle_word r) ≡ r
  word-back item r h f = rectangle_back r (on_small last r.columns h f.across) (on_small last_row_line r.rows (omega arith) f.down)

  pub turn-placed : (i w : ℕ) (land : Rectangle) → last < 65536 → Ready packing last count items placed i → First packing last count (item_in items) (rectangle_in placed) i land
      → w ≡ rectangle_word land → Going packing last count items (set placed i w) (turn (item_in items) i + 1)
  turn-placed i w land h r f is =
      record { few = few; whole = length-set placed i w ∙ g.whole; landed = landed; later = λ j h l. get_or-set_other placed i j w 0 (apart j l) ∙ g.later j h (omega arith) }
    where
      g : Going packing last count items placed (turn (item_in items) i)
      g = r.going

      few : count ≤ 256
      few = g.few

      apart : (j : ℕ) → turn (item_in items) i + 1 ≤ turn (item_in items) j → j ≡ i → ⊥
      apart j l e = let z : turn (item_in items) j ≡ turn (item_in items) i = ap (turn (item_in items)) e in omega arith

      before : (j : ℕ) → turn (item_in items) j < turn (item_in items) i → j ≡ i → ⊥
      before j l e = let z : turn (item_in items) j ≡ turn (item_in items) i = ap (turn (item_in items)) e in omega arith

      kept : (j : ℕ) → turn (item_in items) j < turn (item_in items) i → rectangle_in placed j ≡ rectangle_in (set placed i w) j
      kept j l = sym (ap rectangle_of (get_or-set_other placed i j w 0 (before j l)))

      here : rectangle_in (set placed i w) i ≡ land
      here = ap rectangle_of (get_or-set_same placed i w 0 (omega (arith, g.whole, r.held)) ∙ is) ∙ word-back (item_in items i) land h f.one.fits

      landed : (j : ℕ) → j < count → turn (item_in items) j < turn (item_in items) i + 1
          → First packing last count (item_in items) (rectangle_in (set placed i w)) j (rectangle_in (set placed i w) j)
      landed j h l = ⊎_elim earlier now (order (turn (item_in items) j) (turn (item_in items) i))
        where
          earlier : turn (item_in items) j < turn (item_in items) i → First packing last count (item_in items) (rectangle_in (set placed i w)) j (rectangle_in (set placed i w) j)
          earlier u =
              rw (← kept j u)
              (first-same packing last count (item_in items) (rectangle_in placed) (rectangle_in (set placed i w)) j (λ k e. kept k (omega (arith, e.order))) (rectangle_in placed j) (g.landed j h u))

          now : turn (item_in items) i ≤ turn (item_in items) j → First packing last count (item_in items) (rectangle_in (set placed i w)) j (rectangle_in (set placed i w) j)
          now u =
              let e : turn (item_in items) j ≡ turn (item_in items) i = omega arith in
              let i-held = r.held in
              let z : j ≡ i = (one-turn (group_of (item_in items j)) (group_of (item_in items i)) j i (omega arith) (omega arith) e).1 in
              rw (z, here)
              (first-same packing last count (item_in items) (rectangle_in placed) (rectangle_in (set placed i w)) i (λ k e. kept k e.order) land f)

  -- the end of all
  pub all-land : Going packing last count items placed (3 * 256) → AllLand packing last count (item_in items) (rectangle_in placed)
  all-land g i h = let m = group_most (item_in items i) in let f = g.few in g.landed i h (omega arith)

  pub answer-placed : (lent : List ℕ) → Going packing last count items placed (3 * 256)
      → Answers packing last count (item_in items) lent (sets lent 0 placed) (Ok tt)
  answer-placed lent g = Css.placed placed g.whole (all-land g) refl refl

-- ---- what a turn and a pass came to
