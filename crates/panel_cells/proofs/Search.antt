-- The search over the table, area by area, and that it finds what the search over the list finds. Assumes nothing.
use Prim.Native.Nat.{ℕ, zero, suc, ◌+◌, ◌≤◌, ◌<◌, min}
use mathlib.Core.Path.{◌≡◌, refl, sym, ap, ◌∙◌}
use mathlib.Core.List.{List, [], ◌∷◌}
use mathlib.Core.Bool.{Bool, true, false, cond}
use Rattle.std.specs.Prelude.{Option, Some}
use Rattle.std.specs.List.{find, range_with_len}
use native.Mathlib.Omega.{arith}
use lib.ListN.{length, get_or, drop, drop_of_length-le}
use Rattle.axis_tables.proofs.Runs.{All}
use Rattle.panel_tables.specs.declared.AreaEdges.{AreaEdges}
use Rattle.panel_tables.specs.View.{Area, no_area}
use Rattle.panel_tables.specs.Areas.{area_at}
use Rattle.panel_tables.specs.Written.{area_words}
use Rattle.panel_tables.proofs.Fits.{GoodArea}
use Rattle.panel_tables.proofs.Back.{area-held}
use Rattle.panel_cells.specs.Steps.{shares, sharing_from, first_sharing, sharing_in, first_sharing_in, area_number_of}

-- ---- the table of a list

-- an element and those after it
drop_more : (list : List Area) (i : ℕ) → i < length list → drop i list ≡ get_or list i no_area ∷ drop (suc i) list
drop_more [] i h = absurd (omega arith)
drop_more (a ∷ list) zero h = refl
drop_more (a ∷ list) (suc i) h = drop_more list i (omega arith)

module _ (list : List Area) (good : All GoodArea list) (few : length list ≤ 64) (e : AreaEdges) where
  sharing-to : (k i : ℕ) → i + k ≡ length list → sharing_in (area_words list) e k i ≡ sharing_from (i + 1) e (drop i list)
  unfolding sharing_in sharing_from
  sharing-to zero i h = sym (ap (sharing_from (i + 1) e) (drop_of_length-le list {i = i} (omega arith)))
  sharing-to (suc k) i h =
      ap (λ (a : Area). cond (shares a.edges e) (i + 1) (sharing_in (area_words list) e k (i + 1))) (area-held list good few i (omega arith))
      ∙ ap (λ (n : ℕ). cond (shares (get_or list i no_area).edges e) (i + 1) n) (sharing-to k (i + 1) (omega arith) ∙ ap (λ (j : ℕ). sharing_from (i + 1 + 1) e (drop j list)) after)
      ∙ sym (ap (sharing_from (i + 1) e) (drop_more list i (omega arith)))
    where
      after : i + 1 ≡ suc i
      after = omega arith

  pub sharing-back : first_sharing_in (length list) (area_words list) e ≡ first_sharing e list
  sharing-back =
      let z : min (length list) 64 ≡ length list = omega arith in
      ap (λ (k : ℕ). sharing_in (area_words list) e k 0) z ∙ sharing-to (length list) 0 (omega arith)

-- the search as one through the numbers of the areas
pub sharing_find : (w : List ℕ) (e : AreaEdges) (k i : ℕ) → sharing_in w e k i ≡ area_number_of (find (λ (n : ℕ). shares (area_at w n).edges e) (range_with_len i k))
unfolding sharing_in
sharing_find w e zero i = refl
sharing_find w e (suc k) i = go _ (shares (area_at w i).edges e) (sharing_find w e k (i + 1))
  where
    go : {m : ℕ} (o : Option ℕ) (b : Bool) → m ≡ area_number_of o → cond b (i + 1) m ≡ area_number_of (cond b (Some i) o)
    go o true h = refl
    go o false h = h
