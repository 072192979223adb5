-- The template that name records and components stand for: names, tracks and repeats in order (CSS Grid Level 2, 7.2).
use Rattle.std.specs.Prelude.{ℕ, zero, suc, ◌+◌, ◌≤◌, true, false, cond, List, [], ◌∷◌, ◌++◌, map, leb, take, drop}
use Rattle.template_rules.specs.Template.{component_of}
use Rattle.template_rules.specs.declared.RepetitionCount.{RepetitionCount}
use Rattle.template_rules.specs.declared.RepetitionCount.TheVariants.{Single, Count, AutoFill, AutoFit}
use Rattle.name_rules.specs.Css.{Bytes}
use Rattle.name_rules.specs.Template.{Piece, label, track, Item, single, repeat}
use Rattle.name_entries.specs.Places.{name_place}
use Rattle.name_template.specs.Records.{names_at, names_after}

-- the name of a record
abbrev pub name_of : List ℕ → ℕ → Bytes
name_of store w = take (name_place w).length (drop (name_place w).offset store)

abbrev pub labels : List ℕ → List ℕ → List Piece
labels store names = map (λ (w : ℕ). label (name_of store w)) names

abbrev pub singles : List Piece → List Item
singles pieces = map single pieces

-- how many of the first records stand at most i tracks into their repeat
unfoldable pub reached : ℕ → List ℕ → ℕ
reached i [] = 0
reached i (w ∷ l) = cond (leb (name_place w).place (i + 1)) (suc (reached i l)) 0

-- the pieces of a repeat from i tracks on, with n tracks to come
unfoldable pub pieces_from : List ℕ → ℕ → ℕ → List ℕ → List Piece
pieces_from store i zero names = labels store names
pieces_from store i (suc n) names =
    labels store (take (reached i names) names) ++ (track ∷ pieces_from store (suc i) n (drop (reached i names) names))

-- a component with the names inside it
abbrev pub item_of : List ℕ → ℕ → RepetitionCount → ℕ → List ℕ → Item
item_of store repetitions Single tracks names = single track
item_of store repetitions (Count n) tracks names = repeat n (pieces_from store 0 tracks names)
item_of store repetitions AutoFill tracks names = repeat repetitions (pieces_from store 0 tracks names)
item_of store repetitions AutoFit tracks names = repeat repetitions (pieces_from store 0 tracks names)

-- from component k on: the names before it, it with the names inside it, and so on
unfoldable pub items_from : List ℕ → ℕ → ℕ → List ℕ → List ℕ → List Item
items_from store repetitions k names [] = singles (labels store (names_at false k names))
items_from store repetitions k names (w ∷ components) =
    let rest = names_after false k names in
    singles (labels store (names_at false k names))
    ++ (item_of store repetitions (component_of w).count (component_of w).length (names_at true k rest)
    ∷ items_from store repetitions (suc k) (names_after true k rest) components)

-- places that never fall, from `low` to `last`
abbrev pub Ordered : ℕ → ℕ → List ℕ → Type 0
Ordered low last [] = Unit {0}
Ordered low last (w ∷ l) = (low ≤ (name_place w).place) × ((name_place w).place ≤ last) × Ordered (name_place w).place last l

-- the records inside each component stand in order, none after its last track
unfoldable pub InOrder : ℕ → List ℕ → List ℕ → Type 0
InOrder k names [] = Unit {0}
InOrder k names (w ∷ components) =
    let rest = names_after false k names in
    Ordered 1 ((component_of w).length + 1) (names_at true k rest) × InOrder (suc k) (names_after true k rest) components
