-- The count of repetitions in steps is layer 3's, and one walk gathers the whole of a template. Assumes nothing.
use Rattle.std.proofs.lemmas.Bool.{and_parts}
use Rattle.std.specs.Prelude.{Option, Some, None}
use Prim.Native.Nat.{ℕ, ◌*◌, ◌^◌, ◌≤◌, ◌<◌, min, max}
use mathlib.Core.Path.{◌≡◌, refl, sym, ◌∙◌}
use mathlib.Core.Bool.{Bool, true, false, cond, not, ◌&&◌, ◌||◌, true≢false}
use mathlib.Core.List.{List}
use native.Mathlib.Omega.{arith}
use borrow.Author.Tests.{leb-true, leb-false, eqb-true, not-true}
use lib.Dec.{eqb, leb}
use lib.Ieee.{Float, lt}
use lib.ListN.{length, get_or, length-map}
use Rattle.sizing.specs.Definite.{gap_of}
use Rattle.sizing.specs.declared.Sizing.{Sizing}
use Rattle.template_rules.specs.Template.{component_of, with_tracks, template_of}
use Rattle.template_rules.specs.Summary.{meaning_of, no_components, steps_in, first_part}
use Rattle.template_rules.specs.Repetitions.{room, first_space, quotient, whole_of, one_more, wanted_of, fitting_of, held_of, repetitions_of}
use Rattle.template_rules.specs.Explicit.{valid_of, template_size_of}
use Rattle.template_rules.specs.Bounds.{Gathered}
use Rattle.template_rules.specs.declared.AutoRepeatStrategy.{AutoRepeatStrategy}
use Rattle.template_rules.specs.declared.TemplateSummary.{TemplateSummary}
use Rattle.template_rules.proofs.FirstPart.{first_part_all, most-steps}
use Rattle.template_rules.proofs.Held.{room-some, room_most}
use Rattle.template_rules.proofs.Tests.{above_test}
use Rattle.explicit_size.specs.Repeat.{gathered_of, asks_of}
use Rattle.explicit_size.specs.Steps.{spaces_by, most_of, count_by}

-- ---- the walk
module _ (words minimums maximums : List ℕ) where
  pub length-template : length (template_of words minimums maximums) ≡ length words
  unfolding template_of
  length-template = length-map words (λ (w : ℕ). with_tracks minimums maximums (component_of w))

  -- there are no more steps than it is given
  whole : ((i : ℕ) → get_or words i 0 < 2 ^ 64) → length words ≤ 64 → first_part 4194304 (template_of words minimums maximums) ≡ template_of words minimums maximums
  whole known h = first_part_all 4194304 (template_of words minimums maximums) (enough (steps_in (template_of words minimums maximums)) (length words) (most-steps words minimums maximums known) h)
    where
      enough : (n m : ℕ) → n ≤ m * 65536 → m ≤ 64 → n ≤ 4194304
      enough n m e h = omega arith

  pub whole-gathered : (inner : Float) (s : TemplateSummary) → ((i : ℕ) → get_or words i 0 < 2 ^ 64)
      → s ≡ cond (leb (length words) 64) (meaning_of inner (first_part 4194304 (template_of words minimums maximums))) no_components
      → s ≡ gathered_of inner (template_of words minimums maximums)
  unfolding gathered_of
  whole-gathered inner s known e = e ∙ go (leb (length words) 64) refl
    where
      go : (t : Bool) → leb (length words) 64 ≡ t
          → cond (leb (length words) 64) (meaning_of inner (first_part 4194304 (template_of words minimums maximums))) no_components
          ≡ cond (leb (length (template_of words minimums maximums)) 64) (meaning_of inner (template_of words minimums maximums)) no_components
      go true h = rw (length-template, whole known (leb-true (length words) 64 h))
      go false h = rw (length-template, h)

-- ---- the count
none_of : (n : ℕ) → 0 ≡ min n 0
none_of n = omega arith

-- what is held is the smaller of what is wanted and of the most
held_smaller : (p k n : ℕ) → 0 < k → 1 ≤ n → held_of p k n ≡ min n (held_of p k 10000)
unfolding held_of
held_smaller p k n h some = go (leb 10000 p) refl
  where
    free : (n r : ℕ) → 1 ≤ n → 1 ≤ r → r ≤ 10000 → max 1 (min n r) ≡ min n (max 1 (min 10000 r))
    free n r a b c = omega arith

    go : (t : Bool) → leb 10000 p ≡ t → cond (leb 10000 p) 0 (max 1 (min n (room p k))) ≡ min n (cond (leb 10000 p) 0 (max 1 (min 10000 (room p k))))
    go true e = rw e (none_of n)
    go false e = let g : p < 10000 = leb-false 10000 p e in rw e (free n (room p k) some (room-some p k h g) (room_most p k h g))

-- at least one repetition is wanted
wanted_some : (inner : Option Float) (strategy : AutoRepeatStrategy) (gap : Sizing) (s : TemplateSummary) → 1 ≤ wanted_of inner strategy gap s
unfolding fitting_of
wanted_some (Some x) strategy gap s = go (lt x (first_space s (gap_of gap x))) (whole_of strategy (quotient s x (gap_of gap x)))
  where
    go : (t : Bool) (n : ℕ) → 1 ≤ cond t 1 (one_more n)
    go true n = omega arith
    go false n = omega arith
wanted_some None strategy gap s = omega arith

-- a valid template with automatic repeats has one
one_automatic : (a b c d : Bool) → (a && (b || (c && d))) ≡ true → b ≡ false → c ≡ true
one_automatic true false true d e h = refl
one_automatic true false false d e h = absurd (true≢false (sym e))
one_automatic true true c d e h = absurd (true≢false h)
one_automatic false b c d e h = absurd (true≢false (sym e))

module _ (s : TemplateSummary) (h : Gathered 64 s) where
  -- layer 3's count
  pub counted : (inner : Option Float) (strategy : AutoRepeatStrategy) (gap : Sizing) (g : Float)
      → (template_size_of inner strategy gap s).repetitions ≡ min (wanted_of inner strategy gap s) (most_of (spaces_by s g))
  unfolding template_size_of spaces_by repetitions_of
  counted inner strategy gap g = go (valid_of s) refl (eqb s.automatic 0) refl
    where
      go : (v : Bool) → valid_of s ≡ v → (z : Bool) → eqb s.automatic 0 ≡ z → (template_size_of inner strategy gap s).repetitions ≡ min (wanted_of inner strategy gap s) (most_of (spaces_by s g))
      go false e z f = rw e (none_of _)
      go true e true f = let n = eqb-true s.automatic 0 f in rw (e, f) (rw n (none_of _))
      go true e false f =
          let o = one_automatic (not s.empty) (eqb s.automatic 0) (eqb s.automatic 1) s.fixed e f in
          let full : s.empty ≡ false = not-true s.empty (and_parts (not s.empty) _ e).0 in
          rw (e, f, o) (held_smaller s.before s.repeated (wanted_of inner strategy gap s) (h.filled full (above_test s.automatic f)) (wanted_some inner strategy gap s))

  -- at an inner size it is the count of the steps
  pub counted-at : (x : Float) (strategy : AutoRepeatStrategy) (gap : Sizing) → (template_size_of (Some x) strategy gap s).repetitions ≡ count_by strategy x (spaces_by s (gap_of gap x))
  unfolding count_by spaces_by fitting_of
  counted-at x strategy gap = counted (Some x) strategy gap (gap_of gap x) ∙ go (asks_of s) refl
    where
      go : (t : Bool) → asks_of s ≡ t → min (wanted_of (Some x) strategy gap s) (most_of (spaces_by s (gap_of gap x))) ≡ count_by strategy x (spaces_by s (gap_of gap x))
      go true e = rw e
      go false e = rw e (sym (none_of _))
