-- Lines of a window marked one after the other. Assumes nothing.
use mathlib.Core.Path.{◌≡◌, refl, ◌∙◌}
use mathlib.Core.Bool.{Bool, false, ◌||◌}
use mathlib.Core.List.{List, ◌++◌}
use Prim.Native.Nat.{ℕ, suc, ◌+◌}
use Rattle.name_rules.specs.Css.{Bytes, Entry, Area}
use Rattle.name_rules.specs.Rule.{any, written?}
use Rattle.name_lines.specs.Areas.{edged?, bears_joined, side_of}
use Rattle.name_lines.specs.Suffixes.{tail_of}
use Rattle.name_lines.specs.declared.GridAreaEnd.{GridAreaEnd}
use Rattle.name_lines.proofs.Marking.{or_false, mark-both, mark-same, Rest, rest-start, rest-step, rest_end}
use Rattle.name_search.specs.Marked.{Marked}
use Rattle.name_search.specs.declared.marks.Marks.{Marks}
use Rattle.std.specs.Prelude.{Option, Some, None}

-- what is still to be marked: of the lines whose numbers p holds of, those of q are left
abbrev pub Left : Marks → Marks → (ℕ → Bool) → (ℕ → Bool) → Type 0
Left before now q p =
    (now.window ≡ before.window) × Rest before.marked now.marked (λ k. q (suc (before.window.low + k))) (λ k. p (suc (before.window.low + k)))

pub left-start : (a : Marks) (q p : ℕ → Bool) → ((n : ℕ) → q n ≡ p n) → Left a a q p
left-start a q p e = (refl, rest-start a.marked _ _ (λ k. e (suc (a.window.low + k))))

pub left-step : (a b c : Marks) (q r s p : ℕ → Bool) → ((n : ℕ) → q n ≡ (r n || s n)) → Left a b q p → Marked b c r → Left a c s p
left-step a b c q r s p e f g =
    (g.window ∙ f.0, rest-step a.marked b.marked c.marked _ _ _ _ (λ k. e (suc (a.window.low + k))) f.1 (rw f.0 at g.adds))

pub left_end : (a b : Marks) (q p : ℕ → Bool) → ((n : ℕ) → q n ≡ false) → Left a b q p → Marked a b p
left_end a b q p e f = record { window = f.0; adds = rest_end a.marked b.marked _ _ (λ k. e (suc (a.window.low + k))) f.1 }

-- marks of a name in two parts: the entries, then the edge sought of the areas
pub marked_both : (a b c : Marks) (book : List Entry) (areas : List Area) (stem : Bytes) (sought : Option GridAreaEnd) (side : GridAreaEnd) → sought ≡ Some side
    → Marked a b (λ n. any (written? (stem ++ tail_of sought) n) book) → Marked b c (λ n. any (edged? stem (side_of side) n) areas)
    → Marked a c (λ n. bears_joined book areas stem sought n)
unfolding bears_joined
marked_both a b c book areas stem sought side e f g =
    rw e (record { window = g.window ∙ f.window; adds = mark-both a.marked b.marked c.marked _ _ (rw e at f.adds) (rw f.window at g.adds) })

pub marked_plain : (a b : Marks) (book : List Entry) (areas : List Area) (stem : Bytes) (sought : Option GridAreaEnd) → sought ≡ None
    → Marked a b (λ n. any (written? (stem ++ tail_of sought) n) book) → Marked a b (λ n. bears_joined book areas stem sought n)
unfolding bears_joined
marked_plain a b book areas stem sought e f =
    rw e (record { window = f.window; adds = mark-same a.marked b.marked _ _ (λ k. rw (or_false (any (written? (stem ++ tail_of None) (suc (a.window.low + k))) book))) (rw e at f.adds) })
