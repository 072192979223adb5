-- The pieces of a repeat: its tracks, and the entries of one repetition.
use mathlib.Core.Path.{◌≡◌, refl, sym, ◌∙◌, ap}
use mathlib.Core.Logic.{⊎_elim, ◌⊎◌, inl, inr}
use mathlib.Core.List.{List, [], ◌∷◌, ◌++◌, map, append-nil}
use Prim.Native.Nat.{ℕ, zero, suc, ◌+◌, ◌-◌, ◌≤◌, ◌<◌}
use native.Mathlib.Decide.{dec_lt}
use native.Mathlib.Omega.{arith}
use borrow.Author.Tests.{le-leb, lt-leb}
use lib.ListN.{take, drop, take-append-drop}
use Rattle.name_rules.specs.Css.{Entry}
use Rattle.name_rules.specs.Template.{Piece, track, tracks_in, book_from}
use Rattle.name_entries.specs.declared.NameEntry.{NameEntry}
use Rattle.name_entries.specs.Entries.{named_entry}
use Rattle.name_entries.specs.Places.{name_place}
use Rattle.name_template.specs.Writing.{entries_on}
use Rattle.name_template.specs.Items.{name_of, labels, reached, pieces_from, Ordered}

-- the entries with their names
abbrev pub named : List ℕ → List NameEntry → List Entry
named store l = map (named_entry store) l

pub named-append : (store : List ℕ) (l m : List NameEntry) → named store (l ++ m) ≡ named store l ++ named store m
named-append store [] m = refl
named-append store (e ∷ l) m = rw (named-append store l m)

-- all on one line
unfoldable pub on_one : ℕ → List ℕ → List ℕ → List Entry
on_one line store names = map (λ (w : ℕ). record { line = line; name = name_of store w }) names

book-labels : (line : ℕ) (store names : List ℕ) (rest : List Piece) → book_from line (labels store names ++ rest) ≡ on_one line store names ++ book_from line rest
unfolding on_one
book-labels line store [] rest = refl
book-labels line store (w ∷ l) rest = rw (book-labels line store l rest)

tracks-labels : (store names : List ℕ) (rest : List Piece) → tracks_in (labels store names ++ rest) ≡ tracks_in rest
tracks-labels store [] rest = refl
tracks-labels store (w ∷ l) rest = tracks-labels store l rest

pub pieces-tracks : (store : List ℕ) (i n : ℕ) (names : List ℕ) → tracks_in (pieces_from store i n names) ≡ n
unfolding pieces_from
pieces-tracks store i zero names = ap tracks_in (sym (append-nil (labels store names))) ∙ tracks-labels store names []
pieces-tracks store i (suc n) names =
    tracks-labels store (take (reached i names) names) (track ∷ pieces_from store (suc i) n (drop (reached i names) names))
    ∙ ap suc (pieces-tracks store (suc i) n (drop (reached i names) names))

-- records at one place
same_place : (b i : ℕ) (store names : List ℕ) → Ordered (i + 1) (i + 1) names → on_one (b + i) store names ≡ named store (entries_on b names)
unfolding on_one
same_place b i store [] h = refl
same_place b i store (w ∷ l) h =
    let x = h.0 in let y = h.1 in
    let p : (name_place w).place ≡ i + 1 = omega arith in
    let e : b + ((name_place w).place - 1) ≡ b + i = omega arith in
    rw (e, same_place b i store l (rw p at h.2))

-- the records up to i tracks, and those after
either : (p i : ℕ) → (p ≤ i + 1) ⊎ (i + 1 < p)
either p i = elim (dec_lt (i + 1) p) [ yes g ↦ inr g | no g ↦ inl (omega arith) ]

taken_ordered : (i last : ℕ) (names : List ℕ) → Ordered (i + 1) last names → Ordered (i + 1) (i + 1) (take (reached i names) names)
unfolding reached
taken_ordered i last [] h = tt
taken_ordered i last (w ∷ l) h =
    ⊎_elim
    (λ (g : (name_place w).place ≤ i + 1).
    let x = h.0 in
    let p : (name_place w).place ≡ i + 1 = omega arith in
    rw (le-leb (name_place w).place (i + 1) g) (x, g, rw p (taken_ordered i last l (rw p at h.2))))
    (λ (g : i + 1 < (name_place w).place). rw (lt-leb (name_place w).place (i + 1) g) tt)
    (either (name_place w).place i)

dropped_ordered : (i last : ℕ) (names : List ℕ) → Ordered (i + 1) last names → Ordered (suc i + 1) last (drop (reached i names) names)
unfolding reached
dropped_ordered i last [] h = tt
dropped_ordered i last (w ∷ l) h =
    ⊎_elim
    (λ (g : (name_place w).place ≤ i + 1).
    let x = h.0 in
    let p : (name_place w).place ≡ i + 1 = omega arith in
    rw (le-leb (name_place w).place (i + 1) g) (dropped_ordered i last l (rw p at h.2)))
    (λ (g : i + 1 < (name_place w).place). rw (lt-leb (name_place w).place (i + 1) g) (omega arith, h.1, h.2))
    (either (name_place w).place i)

on_append : (b : ℕ) (l m : List ℕ) → entries_on b (l ++ m) ≡ entries_on b l ++ entries_on b m
on_append b [] m = refl
on_append b (w ∷ l) m = rw (on_append b l m)

-- a repetition's entries, where it begins on line b
pub pieces-book : (store : List ℕ) (i n b : ℕ) (names : List ℕ) → Ordered (i + 1) (i + n + 1) names
    → book_from (b + i) (pieces_from store i n names) ≡ named store (entries_on b names)
unfolding pieces_from on_one
pieces-book store i zero b names h =
    let e : i + 0 + 1 ≡ i + 1 = omega arith in
    ap (book_from (b + i)) (sym (append-nil (labels store names))) ∙ book-labels (b + i) store names []
    ∙ append-nil (on_one (b + i) store names) ∙ same_place b i store names (rw e at h)
pieces-book store i (suc n) b names h =
    let r = reached i names in
    let e : i + suc n + 1 ≡ suc i + n + 1 = omega arith in
    let f : b + suc i ≡ suc (b + i) = omega arith in
    let rest = pieces_from store (suc i) n (drop r names) in
    let later : book_from (b + i) (track ∷ rest) ≡ named store (entries_on b (drop r names)) =
    ap (λ (l : ℕ). book_from l rest) (sym f) ∙ pieces-book store (suc i) n b (drop r names) (rw e at (dropped_ordered i (i + suc n + 1) names h)) in
    book-labels (b + i) store (take r names) (track ∷ rest)
    ∙ rw (same_place b i store (take r names) (taken_ordered i (i + suc n + 1) names h), later)
    (sym (named-append store (entries_on b (take r names)) (entries_on b (drop r names)))
    ∙ rw (← on_append b (take r names) (drop r names), take-append-drop))
