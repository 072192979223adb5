-- `NamedLineResolver::new` of named.rs for one axis, loop by loop: to be read beside the Rust. specs/Template.antt has its rule.
use Rattle.std.specs.Prelude.{cond, List, [], ◌∷◌, ◌++◌, map, ◌≡◌, ℕ, zero, suc, pred, ◌+◌, ltb, length}
use Rattle.name_rules.specs.Css.{Bytes, Entry}
use Rattle.name_rules.specs.Template.{Piece, label, track, Item, single, repeat}

-- a component: a single track, or a repeat with its repetitions, its tracks and its sets of names, one set for each of its lines
pub data Component : Type 0 where
  one : Component
  many : ℕ → ℕ → List (List Bytes) → Component

-- a component with the set of names before it
pub record Part : Type 0 where
  pub names : List Bytes
  pub component : Component

-- `current_line`, and the pairs pushed so far
pub record Walk : Type 0 where
  pub line : ℕ
  pub pairs : List Entry

-- `for line_name in line_names`
abbrev pub set_on : ℕ → List Bytes → List Entry
set_on line [] = []
set_on line (n ∷ l) = record { line = line; name = n } ∷ set_on line l

-- `for (line, line_name_set) in (current_line..).zip(repeat.lines_names())`
abbrev pub sets_from : ℕ → List (List Bytes) → List Entry
sets_from line [] = []
sets_from line (s ∷ l) = set_on line s ++ sets_from (suc line) l

-- `current_line += 1`, and the set's names
abbrev pub enter_set : List Bytes → Walk → Walk
enter_set s w = record { line = suc w.line; pairs = w.pairs ++ set_on (suc w.line) s }

-- `for _ in 0..repeat_count`, with its `break`
unfoldable pub repetitions : ℕ → ℕ → List (List Bytes) → Walk → Walk
repetitions zero tracks sets w = w
repetitions (suc n) tracks sets w =
    let v : Walk = record { line = w.line + tracks; pairs = w.pairs ++ sets_from w.line sets } in
    cond (ltb 10000 v.line) v (repetitions n tracks sets v)

-- `if repeat_count > 0 { current_line = current_line.saturating_sub(1) }`
abbrev pub collapse : ℕ → Walk → Walk
collapse zero w = w
collapse (suc n) w = record { line = pred w.line; pairs = w.pairs }

-- `column_tracks.next()`
abbrev pub enter_component : Component → Walk → Walk
enter_component one w = w
enter_component (many n tracks sets) w = collapse n (repetitions n tracks sets w)

-- `for line_names in column_line_names_iter`; the last set has no component after it
unfoldable pub walk : List Part → List Bytes → Walk → Walk
walk [] last w = enter_set last w
walk (p ∷ l) last w = walk l last (enter_component p.component (enter_set p.names w))

-- the same template as names, tracks and repeats: a repeat has a track between two sets
abbrev pub labels : List Bytes → List Piece
labels s = map label s

abbrev pub tracks_and : List (List Bytes) → List Piece
tracks_and [] = []
tracks_and (s ∷ l) = track ∷ (labels s ++ tracks_and l)

abbrev pub pieces : List (List Bytes) → List Piece
pieces [] = []
pieces (s ∷ l) = labels s ++ tracks_and l

abbrev pub item_of : Component → Item
item_of one = single track
item_of (many n tracks sets) = repeat n (pieces sets)

unfoldable pub items_of : List Part → List Bytes → List Item
items_of [] last = map single (labels last)
items_of (p ∷ l) last = map single (labels p.names) ++ (item_of p.component ∷ items_of l last)

-- `assert!`: each repeat has one set more than tracks (the Rust also takes no sets at all, for as many empty ones)
abbrev pub SetsFit : Component → Type 0
SetsFit one = Unit {0}
SetsFit (many n tracks sets) = length sets ≡ suc tracks

abbrev pub AllFit : List Part → Type 0
AllFit [] = Unit {0}
AllFit (p ∷ l) = SetsFit p.component × AllFit l
