-- Cells past the count play no part: what is answered for some is answered for any that agree with them up to the count. Assumes nothing.
use mathlib.Core.Path.{◌≡◌, sym, ap}
use mathlib.Core.List.{List}
use Prim.Native.Nat.{ℕ, zero, suc, ◌<◌, min}
use native.Mathlib.Omega.{arith}
use lib.ListN.{length, take, length-take}
use lib.Seq.{get_or-take}
use Rattle.std.specs.Prelude.{Result}
use Rattle.free_cells.specs.declared.Rectangle.{Rectangle}
use Rattle.cell_placing.specs.declared.Item.{Item}
use Rattle.cell_placing.specs.declared.Packing.{Packing}
use Rattle.cell_placing.specs.declared.Packing.TheVariants.{Sparse, Dense}
use Rattle.cell_placing.specs.Items.{item_of, item_in, group_of}
use Rattle.cell_placing.specs.Css.{Earlier, LastOfRest, Past, Candidate, First, FirstStuck, Answers, placed, refused}

module _ (count : ℕ) (here there : ℕ → Item) (same : (j : ℕ) → j < count → here j ≡ there j) (i : ℕ) (held : i < count) where
  earlier-here : (j : ℕ) → Earlier count there j i → Earlier count here j i
  earlier-here j e = record { held = e.held; order = rw (same j e.held, same i held) e.order }

  earlier-there : (j : ℕ) → Earlier count here j i → Earlier count there j i
  earlier-there j e = record { held = e.held; order = rw (← same j e.held, ← same i held) e.order }

  last-here : (j : ℕ) → LastOfRest count there j i → LastOfRest count here j i
  last-here j l =
      record {
        earlier = earlier-here j l.earlier;
        rest = rw (same j l.earlier.held) l.rest;
        last = λ k e r. l.last k (earlier-there k e) (rw (same k e.held) at r);
      }

  past-there : (p : Packing) (g : ℕ) (lands : ℕ → Rectangle) (r : Rectangle) → Past p g count here lands i r → Past p g count there lands i r
  past-there Dense g lands r h = tt
  past-there Sparse zero lands r h = tt
  past-there Sparse (suc zero) lands r h = λ j e f q. h j (earlier-here j e) (rw (same j e.held) f) q
  past-there Sparse (suc (suc g)) lands r h = λ j l. h j (last-here j l)

  candidate-there : (packing : Packing) (last : ℕ) (lands : ℕ → Rectangle) (r : Rectangle) → Candidate packing last count here lands i r → Candidate packing last count there lands i r
  candidate-there packing last lands r c =
      record {
        fits = rw (same i held) at c.fits;
        free = λ out j e o. c.free (rw (same i held) out) j (earlier-here j e) o;
        past = past-there packing (group_of (there i)) lands r (rw (same i held) at c.past);
      }

module _ (packing : Packing) (last count : ℕ) (here there : ℕ → Item) (same : (j : ℕ) → j < count → here j ≡ there j) where
  back : (j : ℕ) → j < count → there j ≡ here j
  back j h = sym (same j h)

  pub first-there : (lands : ℕ → Rectangle) (i : ℕ) → i < count → (r : Rectangle) → First packing last count here lands i r → First packing last count there lands i r
  first-there lands i h r f =
      record {
        one = candidate-there count here there same i h packing last lands r f.one;
        first = λ q c. f.first q (candidate-there count there here back i h packing last lands q c);
      }

  stuck-there : (i : ℕ) → FirstStuck packing last count here i → FirstStuck packing last count there i
  stuck-there i s =
      record {
        lands = s.lands;
        held = s.held;
        before = λ j e. first-there s.lands j e.held (s.lands j) (s.before j (earlier-here count here there same i s.held j e));
        stuck = λ q c. s.stuck q (candidate-there count there here back i s.held packing last s.lands q c);
      }

  pub answers-there : (lent after : List ℕ) (outcome : Result (Unit {0}) ℕ) → Answers packing last count here lent after outcome → Answers packing last count there lent after outcome
  answers-there lent after outcome (placed words e all w o) = placed words e (λ i h. first-there _ i h _ (all i h)) w o
  answers-there lent after outcome (refused i s w o) = refused i (stuck-there i s) w o

-- so the cells may be cut at the count
pub cut-item : (items : List ℕ) (count : ℕ) (j : ℕ) → j < count → item_in (take count items) j ≡ item_in items j
cut-item items count j h = ap item_of (get_or-take count items j 0 h)

pub answers-cut : (packing : Packing) (last count : ℕ) (items lent after : List ℕ) (outcome : Result (Unit {0}) ℕ)
    → Answers packing last count (item_in (take count items)) lent after outcome → Answers packing last count (item_in items) lent after outcome
answers-cut packing last count items lent after outcome a =
    answers-there packing last count (item_in (take count items)) (item_in items) (cut-item items count) lent after outcome a

-- where they are cut at so many that a call takes
pub answers-held : (packing : Packing) (last held : ℕ) (items lent after : List ℕ) (outcome : Result (Unit {0}) ℕ) → held ≡ min (length items) 256
    → Answers packing last (length (take held items)) (item_in (take held items)) lent after outcome
    → Answers packing last (min (length items) 256) (item_in items) lent after outcome
answers-held packing last held items lent after outcome e a =
    let n : length (take held items) ≡ held = omega (arith, e, length-take held items) in
    rw (← e) (answers-cut packing last held items lent after outcome (rw n at a))
