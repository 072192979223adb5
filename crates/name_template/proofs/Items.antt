-- What is written out is the template's rule (named.rs) over the names, tracks and repeats that the records and components stand for.
use mathlib.Core.Path.{◌≡◌, refl, sym, ◌∙◌, ap}
use mathlib.Core.Bool.{Bool, true, false, cond}
use mathlib.Core.Logic.{⊎_elim}
use mathlib.Core.List.{List, [], ◌∷◌, ◌++◌, append-nil}
use Prim.Native.Nat.{ℕ, zero, suc, ◌+◌, ◌-◌, ◌≤◌, ◌<◌}
use native.Mathlib.Numerals.{add-one}
use native.Mathlib.Omega.{arith}
use borrow.Author.Tests.{lt-ltb, le-ltb, eqb-true}
use lib.Dec.{eqb}
use lib.ListN.{take}
use Rattle.template_rules.specs.Template.{component_of}
use Rattle.template_rules.specs.declared.RepetitionCount.{RepetitionCount}
use Rattle.template_rules.specs.declared.RepetitionCount.TheVariants.{Single, Count, AutoFill, AutoFit}
use Rattle.name_rules.specs.Css.{Entry}
use Rattle.name_rules.specs.Template.{Piece, Item, repeat, tracks_in, book_from, repeated, passed, rule_from}
use Rattle.std.proofs.lemmas.Bool.{and_parts}
use Rattle.name_entries.specs.Places.{name_place}
use Rattle.name_template.specs.Records.{stands, leading, names_at, names_after}
use Rattle.name_template.specs.Writing.{entries_on, repeated_names, line_after_repeat, line_after, times_of, written_from}
use Rattle.name_template.specs.Items.{labels, singles, pieces_from, item_of, items_from, Ordered, InOrder}
use Rattle.name_template.proofs.Repeats.{past}
use Rattle.name_template.proofs.Pieces.{named, named-append, on_one, pieces-tracks, pieces-book}

-- the names before a component stand on its line
before-names : (store : List ℕ) (k line : ℕ) (names : List ℕ) → on_one line store (names_at false k names) ≡ named store (entries_on line (names_at false k names))
unfolding leading stands on_one
before-names store k line [] = refl
before-names store k line (w ∷ l) = by (stands false k w) refl (before-names store k line l)
  where
    zero-place : stands false k w ≡ true → (name_place w).place ≡ 0
    zero-place e = eqb-true (name_place w).place 0 (and_parts (eqb (name_place w).component k) (eqb (name_place w).place 0) e).1

    by : (t : Bool) → stands false k w ≡ t → on_one line store (names_at false k l) ≡ named store (entries_on line (names_at false k l))
        → on_one line store (take (cond t (suc (leading false k l)) 0) (w ∷ l)) ≡ named store (entries_on line (take (cond t (suc (leading false k l)) 0) (w ∷ l)))
    by true e h = let z = zero-place e in let s : line + ((name_place w).place - 1) ≡ line = omega arith in rw (s, h)
    by false e h = refl

rule_singles : (line : ℕ) (store names : List ℕ) (rest : List Item) → rule_from line (singles (labels store names) ++ rest) ≡ on_one line store names ++ rule_from line rest
unfolding rule_from on_one
rule_singles line store [] rest = refl
rule_singles line store (w ∷ l) rest = rw (rule_singles line store l rest)

-- a repeat
module _ (store : List ℕ) (t : ℕ) (names : List ℕ) (pieces : List Piece) (book : (b : ℕ) → book_from b pieces ≡ named store (entries_on b names))
    (tracks : tracks_in pieces ≡ t) where
  repeat-written : (n line : ℕ) → repeated n line pieces ≡ named store (repeated_names n line t names)
  unfolding repeated repeated_names
  repeat-written zero line = refl
  repeat-written (suc n) line =
      rw (tracks, book line)
      (⊎_elim
      (λ (g : 10000 < line + t). rw (lt-ltb 10000 (line + t) g, append-nil (entries_on line names), append-nil (named store (entries_on line names))))
      (λ (g : line + t ≤ 10000).
      rw (le-ltb 10000 (line + t) g, repeat-written n (line + t)) (sym (named-append store (entries_on line names) (repeated_names n (line + t) t names))))
      (past (line + t)))

  repeat-passed : (n line : ℕ) → passed n line pieces ≡ line_after_repeat n line t
  unfolding passed line_after_repeat
  repeat-passed zero line = refl
  repeat-passed (suc n) line =
      rw tracks
      (⊎_elim
      (λ (g : 10000 < line + t). rw (lt-ltb 10000 (line + t) g))
      (λ (g : line + t ≤ 10000). rw (le-ltb 10000 (line + t) g) (repeat-passed n (line + t)))
      (past (line + t)))

  repeat-rule : (n line : ℕ) (rest : List Item)
      → named store (repeated_names n line t names) ++ rule_from (line_after n line t) rest ≡ rule_from line (repeat n pieces ∷ rest)
  unfolding rule_from repeated_names
  repeat-rule zero line rest = rw (add-one line)
  repeat-rule (suc n) line rest = rw (repeat-written (suc n) line, repeat-passed (suc n) line)

whole : (store : List ℕ) (t : ℕ) (names : List ℕ) → Ordered 1 (t + 1) names → (b : ℕ) → book_from b (pieces_from store 0 t names) ≡ named store (entries_on b names)
whole store t names h b =
    let e : t + 1 ≡ 0 + t + 1 = omega arith in
    let f : b ≡ b + 0 = omega arith in
    ap (λ (n : ℕ). book_from n (pieces_from store 0 t names)) f ∙ pieces-book store 0 t b names (rw e at h)

-- a component
item_rule : (store : List ℕ) (repetitions : ℕ) (count : RepetitionCount) (t line : ℕ) (names : List ℕ) (rest : List Item) → Ordered 1 (t + 1) names
    → named store (repeated_names (times_of repetitions count) line t names) ++ rule_from (line_after (times_of repetitions count) line t) rest
    ≡ rule_from line (item_of store repetitions count t names ∷ rest)
unfolding rule_from repeated_names
item_rule store repetitions Single t line names rest h = rw (add-one line)
item_rule store repetitions (Count n) t line names rest h =
    repeat-rule store t names (pieces_from store 0 t names) (whole store t names h) (pieces-tracks store 0 t names) n line rest
item_rule store repetitions AutoFill t line names rest h =
    repeat-rule store t names (pieces_from store 0 t names) (whole store t names h) (pieces-tracks store 0 t names) repetitions line rest
item_rule store repetitions AutoFit t line names rest h =
    repeat-rule store t names (pieces_from store 0 t names) (whole store t names h) (pieces-tracks store 0 t names) repetitions line rest

none : (line : ℕ) (l : List Entry) → l ++ rule_from line [] ≡ l
unfolding rule_from
none line l = append-nil l

-- what is written out is the rule's
pub written_rule : (store : List ℕ) (repetitions k line : ℕ) (names components : List ℕ) → InOrder k names components
    → named store (written_from repetitions k line names components) ≡ rule_from line (items_from store repetitions k names components)
unfolding written_from items_from InOrder on_one
written_rule store repetitions k line names [] h =
    sym (ap (rule_from line) (sym (append-nil (singles (labels store (names_at false k names))))) ∙ rule_singles line store (names_at false k names) []
    ∙ rw (before-names store k line names) (none line (named store (entries_on line (names_at false k names)))))
written_rule store repetitions k line names (w ∷ components) h =
    let count = (component_of w).count in
    let t = (component_of w).length in
    let here = names_at false k names in
    let rest = names_after false k names in
    let inner = names_at true k rest in
    let next = line_after (times_of repetitions count) line t in
    let after = written_from repetitions (suc k) next (names_after true k rest) components in
    let items = items_from store repetitions (suc k) (names_after true k rest) components in
    let two = repeated_names (times_of repetitions count) line t inner in
    named-append store (entries_on line here) (two ++ after)
    ∙ rw (
      named-append store two after,
      written_rule store repetitions (suc k) next (names_after true k rest) components h.1,
      item_rule store repetitions count t line inner items h.0,
      ← before-names store k line names,
    )
    (sym (rule_singles line store here (item_of store repetitions count t inner ∷ items)))
