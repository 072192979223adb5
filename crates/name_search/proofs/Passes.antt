-- Passes over the entries and over the drawn areas. Assumes nothing.
use mathlib.Core.Path.{◌≡◌, sym, ◌∙◌}
use mathlib.Core.Bool.{Bool, false, ◌||◌}
use mathlib.Core.List.{List, ◌++◌}
use Prim.Native.Nat.{ℕ}
use lib.Dec.{eqb}
use Rattle.coordinates.specs.declared.axis.Axis.{Axis}
use Rattle.name_rules.specs.Css.{Bytes, Side, edge, Entry, Area}
use Rattle.name_rules.specs.Rule.{any, written?}
use Rattle.name_lines.specs.Areas.{edge_in, area_of, edged_by, bears_joined}
use Rattle.name_lines.specs.Suffixes.{tail_of}
use Rattle.name_lines.proofs.Tables.{edge-line}
use Rattle.name_search.specs.Nearest.{number_at, Nearest}
use Rattle.name_lines.specs.declared.Way.{Way}
use Rattle.name_search.proofs.Distances.{nearest_none, nearest_same, nearest_both}
use Rattle.std.specs.Prelude.{Option}
use Rattle.name_lines.specs.declared.GridAreaEnd.{GridAreaEnd}

-- what is still to be passed: of the test p, the part q is left
abbrev pub Rest : (ℕ → Bool) → (ℕ → Bool) → ℕ → ℕ → Type 0
Rest q p limit best = (r : ℕ) → Nearest q best r → Nearest p limit r

-- one more is passed
pub rest-step : (q s t p : ℕ → Bool) (limit best b : ℕ) → ((d : ℕ) → q d ≡ (s d || t d)) → Rest q p limit best → Nearest s best b → Rest t p limit b
rest-step q s t p limit best b e f n r k = f r (nearest_same (λ d. s d || t d) q best r (λ d. sym (e d)) (nearest_both s t best b r n k))

-- nothing is left
pub rest_end : (q p : ℕ → Bool) (limit best : ℕ) → ((d : ℕ) → q d ≡ false) → Rest q p limit best → Nearest p limit best
rest_end q p limit best e f = f best (nearest_none q best (λ d l. e d))

-- the edge of an area that lies in the tables
pub edge_near : (way : Way) (f best r : ℕ) (axis : Axis) (w n : ℕ) (store : List ℕ) (s : Side) (line : ℕ) → line ≡ edge_in axis s w
    → Nearest (λ d. eqb line (number_at way f d)) best r → Nearest (λ d. eqb (edge (area_of axis w n store) s) (number_at way f d)) best r
edge_near way f best r axis w n store s line e k = rw (e ∙ edge-line axis w n store s) at k

-- a name in two parts: the entries, then the edge sought of the areas
pub near_joined : (book : List Entry) (areas : List Area) (stem : Bytes) (sought : Option GridAreaEnd) (number : ℕ → ℕ) (limit best r : ℕ)
    → Nearest (λ d. any (written? (stem ++ tail_of sought) (number d)) book) limit best
    → Nearest (λ d. edged_by areas stem sought (number d)) best r
    → Nearest (λ d. bears_joined book areas stem sought (number d)) limit r
unfolding bears_joined
near_joined book areas stem sought number limit best r n k = nearest_both _ _ limit best r n k
