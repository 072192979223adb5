-- The walk of named.rs over name sets and components pushes the rule's entries, in its order. Assumes nothing.
use mathlib.Core.Path.{◌≡◌, refl, sym, ◌∙◌, ap}
use mathlib.Core.Logic.{⊎_elim}
use mathlib.Core.List.{List, [], ◌∷◌, ◌++◌, map, append_assoc, append-nil}
use Prim.Native.Nat.{ℕ, zero, suc, pred, ◌+◌, ◌≤◌, ◌<◌}
use native.Mathlib.Omega.{arith}
use borrow.Author.Tests.{lt-ltb, le-ltb}
use lib.ListN.{length}
use Rattle.coordinates.proofs.Lines.{lt_or_ge}
use Rattle.name_rules.specs.Css.{Bytes, Entry}
use Rattle.name_rules.specs.Template.{Piece, Item, single, tracks_in, book_from, repeated, passed, rule_from}
use Rattle.name_rules.specs.Walk.{Component, one, many, Part, Walk, set_on, sets_from, enter_set, repetitions}
use Rattle.name_rules.specs.Walk.{enter_component, walk, labels, tracks_and, pieces, item_of, items_of, SetsFit, AllFit}
use Rattle.name_rules.proofs.Written.{passed_lies}

-- names one after the other
labels-tracks : (s : List Bytes) (b : List Piece) → tracks_in (labels s ++ b) ≡ tracks_in b
labels-tracks [] b = refl
labels-tracks (n ∷ s) b = labels-tracks s b

labels-book : (line : ℕ) (s : List Bytes) (b : List Piece) → book_from line (labels s ++ b) ≡ set_on line s ++ book_from line b
labels-book line [] b = refl
labels-book line (n ∷ s) b = ap (λ (r : List Entry). record { line = line; name = n } ∷ r) (labels-book line s b)

labels_rule : (line : ℕ) (s : List Bytes) (l : List Item) → rule_from line (map single (labels s) ++ l) ≡ set_on line s ++ rule_from line l
unfolding rule_from
labels_rule line [] l = refl
labels_rule line (n ∷ s) l = ap (λ (r : List Entry). record { line = line; name = n } ∷ r) (labels_rule line s l)

last_rule : (line : ℕ) (s : List Bytes) → rule_from line (map single (labels s)) ≡ set_on line s
unfolding rule_from
last_rule line [] = refl
last_rule line (n ∷ s) = ap (λ (r : List Entry). record { line = line; name = n } ∷ r) (last_rule line s)

-- a repeat's tracks, and one repetition of its names
sets_tracks : (l : List (List Bytes)) → tracks_in (tracks_and l) ≡ length l
sets_tracks [] = refl
sets_tracks (s ∷ l) = ap suc (labels-tracks s (tracks_and l) ∙ sets_tracks l)

sets_book : (line : ℕ) (l : List (List Bytes)) → book_from line (tracks_and l) ≡ sets_from (suc line) l
sets_book line [] = refl
sets_book line (s ∷ l) = labels-book (suc line) s (tracks_and l) ∙ ap (λ (r : List Entry). set_on (suc line) s ++ r) (sets_book (suc line) l)

pieces-tracks : (tracks : ℕ) (sets : List (List Bytes)) → length sets ≡ suc tracks → tracks_in (pieces sets) ≡ tracks
pieces-tracks tracks [] fit = absurd (omega arith)
pieces-tracks tracks (s ∷ l) fit = labels-tracks s (tracks_and l) ∙ sets_tracks l ∙ omega arith

pieces-book : (line : ℕ) (sets : List (List Bytes)) → book_from line (pieces sets) ≡ sets_from line sets
pieces-book line [] = refl
pieces-book line (s ∷ l) = labels-book line s (tracks_and l) ∙ ap (λ (r : List Entry). set_on line s ++ r) (sets_book line l)

-- the repetitions of a repeat
module _ (tracks : ℕ) (sets : List (List Bytes)) (fit : length sets ≡ suc tracks) where
  repetitions-rule : (n : ℕ) (w : Walk)
      → ((repetitions n tracks sets w).line ≡ passed n w.line (pieces sets))
      × ((repetitions n tracks sets w).pairs ≡ w.pairs ++ repeated n w.line (pieces sets))
  unfolding repetitions passed repeated
  repetitions-rule zero w = (refl, sym (append-nil w.pairs))
  repetitions-rule (suc n) w =
      let v : Walk = record { line = w.line + tracks; pairs = w.pairs ++ sets_from w.line sets } in
      let r = repetitions-rule n v in
      ⊎_elim
      (λ (h : 10000 < w.line + tracks).
      rw (pieces-tracks tracks sets fit, lt-ltb 10000 (w.line + tracks) h, pieces-book w.line sets, append-nil (sets_from w.line sets))
      (refl, refl))
      (λ (h : w.line + tracks ≤ 10000).
      rw (pieces-tracks tracks sets fit, le-ltb 10000 (w.line + tracks) h, pieces-book w.line sets)
      (r.0, r.1 ∙ append_assoc w.pairs (sets_from w.line sets) (repeated n (w.line + tracks) (pieces sets))))
      (lt_or_ge 10000 (w.line + tracks))

-- what a component does, seen from the rest of the template: `current_line` is raised before the next set
component_rule : (c : Component) (w : Walk) (l : List Item) → 1 ≤ w.line → SetsFit c
    → (enter_component c w).pairs ++ rule_from (suc (enter_component c w).line) l ≡ w.pairs ++ rule_from w.line (item_of c ∷ l)
unfolding rule_from repetitions
component_rule one w l h fit = refl
component_rule (many zero tracks sets) w l h fit = refl
component_rule (many (suc n) tracks sets) w l h fit =
    let r = repetitions-rule tracks sets fit (suc n) w in
    let p = passed_lies (suc n) w.line (pieces sets) in
    let e : suc (pred (repetitions (suc n) tracks sets w).line) ≡ passed (suc n) w.line (pieces sets) = omega (arith, r.0) in
    ap (λ (a : List Entry). a ++ rule_from (suc (pred (repetitions (suc n) tracks sets w).line)) l) r.1
    ∙ ap (λ (k : ℕ). (w.pairs ++ repeated (suc n) w.line (pieces sets)) ++ rule_from k l) e
    ∙ append_assoc w.pairs (repeated (suc n) w.line (pieces sets)) (rule_from (passed (suc n) w.line (pieces sets)) l)

pub walk_rule : (l : List Part) (last : List Bytes) (w : Walk) → AllFit l
    → (walk l last w).pairs ≡ w.pairs ++ rule_from (suc w.line) (items_of l last)
unfolding walk items_of rule_from
walk_rule [] last w fit = ap (λ (r : List Entry). w.pairs ++ r) (sym (last_rule (suc w.line) last))
walk_rule (p ∷ l) last w fit =
    let v : Walk = enter_set p.names w in
    walk_rule l last (enter_component p.component v) fit.1
    ∙ component_rule p.component v (items_of l last) (omega arith) fit.0
    ∙ append_assoc w.pairs (set_on (suc w.line) p.names) (rule_from (suc w.line) (item_of p.component ∷ items_of l last))
    ∙ ap (λ (r : List Entry). w.pairs ++ r) (sym (labels_rule (suc w.line) p.names (item_of p.component ∷ items_of l last)))

-- from the start: `current_line` is 0 and nothing is pushed
pub walk_pairs : (l : List Part) (last : List Bytes) → AllFit l → (walk l last (record { line = 0; pairs = [] })).pairs ≡ rule_from 1 (items_of l last)
walk_pairs l last fit = walk_rule l last (record { line = 0; pairs = [] }) fit
