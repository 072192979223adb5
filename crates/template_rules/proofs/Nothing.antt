-- A template with components gives 0 tracks exactly if it is invalid: no flag is needed to tell what counts as none. Assumes nothing.
use Rattle.std.proofs.lemmas.Bool.{or_parts}
use Rattle.std.proofs.Common.{◌≡◌, ℕ, ◌+◌, ◌*◌, ◌<◌, ◌≤◌, min, max, Bool, true, false, cond, eqb, leb, ◌⊎◌, ◌↔◌, List, [], ◌∷◌, length, refl, ap, inl, inr, ⊎_elim, true≢false, mul-pos, arith, leb-false, leb-true, Float, Option}
use Rattle.sizing.specs.declared.Sizing.{Sizing}
use Rattle.template_rules.specs.Template.{Component}
use Rattle.template_rules.specs.Counts.{is_automatic, outside_of, is_empty, outside_count, automatic_count, before_count, automatic_tracks, any_empty}
use Rattle.template_rules.specs.Summary.{meaning_of}
use Rattle.template_rules.specs.Repetitions.{room, wanted_of, held_of, repetitions_of}
use Rattle.template_rules.specs.Explicit.{inner_value, size_of, template_size_of}
use Rattle.template_rules.specs.Css.{Valid}
use Rattle.template_rules.specs.declared.AutoRepeatStrategy.{AutoRepeatStrategy}
use Rattle.template_rules.specs.declared.RepetitionCount.{RepetitionCount}
use Rattle.template_rules.specs.declared.RepetitionCount.TheVariants.{Single, Count, AutoFill, AutoFit}
use Rattle.template_rules.specs.declared.TemplateSize.{TemplateSize}
use Rattle.template_rules.proofs.Tests.{above_test}
use Rattle.template_rules.proofs.Valid.{none_empty, one_at_most}
use Rattle.template_rules.proofs.Answer.{repeat_has_tracks, size-invalid, size-counted, size-repeated}

-- ---- a valid template with a component has a track

-- a component outside the automatic repeat has one
component-outside : (k : RepetitionCount) (n : ℕ) → is_empty k n ≡ false → is_automatic k ≡ false → 0 < outside_of k n
component-outside Single n e a = omega arith
component-outside (Count times) n e a = let p = or_parts (eqb n 0) (eqb times 0) e in mul-pos (above_test times p.1) (above_test n p.0)
component-outside AutoFill n e a = absurd (true≢false a)
component-outside AutoFit n e a = absurd (true≢false a)

outside-some : (c : Component) (cs : List Component) → any_empty (c ∷ cs) ≡ false → automatic_count (c ∷ cs) ≡ 0 → 0 < outside_count (c ∷ cs)
unfolding any_empty automatic_count outside_count
outside-some c cs e a =
    more (outside_of c.count (length c.tracks)) (outside_count cs)
    (component-outside c.count (length c.tracks) (or_parts (is_empty c.count (length c.tracks)) (any_empty cs) e).0 (plain (is_automatic c.count) (automatic_count cs) a))
  where
    more : (m n : ℕ) → 0 < m → 0 < m + n
    more m n h = omega arith

    plain : (t : Bool) (n : ℕ) → cond t 1 0 + n ≡ 0 → t ≡ false
    plain true n e = absurd (omega arith)
    plain false n e = refl

-- the tracks before the automatic repeat lie outside it
before-outside : (cs : List Component) → before_count cs ≤ outside_count cs
unfolding before_count outside_count
before-outside [] = omega arith
before-outside (c ∷ cs) = go (is_automatic c.count) (outside_of c.count (length c.tracks)) (before_count cs) (outside_count cs) (before-outside cs)
  where
    go : (t : Bool) (k m n : ℕ) → m ≤ n → cond t 0 (k + m) ≤ k + n
    go true k m n h = omega arith
    go false k m n h = omega arith

-- the automatic repeat is written once at least, unless the tracks before it fill the grid
held-some : (p k n : ℕ) → p < 10000 → 1 ≤ held_of p k n
unfolding held_of
held-some p k n h = go (leb 10000 p) refl
  where
    go : (t : Bool) → leb 10000 p ≡ t → 1 ≤ cond t 0 (max 1 (min n (room p k)))
    go true e = absurd (let l = leb-true 10000 p e in omega arith)
    go false e = omega arith

-- so there is a track outside it, or in it
repeated-some : (outside before repeated n : ℕ) → before ≤ outside → 0 < repeated → 0 < outside + repeated * held_of before repeated n
repeated-some outside before repeated n h some = go (leb 10000 before) refl
  where
    go : (t : Bool) → leb 10000 before ≡ t → 0 < outside + repeated * held_of before repeated n
    go true e = let l = leb-true 10000 before e in omega arith
    go false e = let l = mul-pos some (held-some before repeated n (leb-false 10000 before e)) in omega arith

-- an empty template has none, and no repetition
nothing : (inner : Option Float) (strategy : AutoRepeatStrategy) (gap : Sizing) → template_size_of inner strategy gap (meaning_of (inner_value inner) []) ≡ size_of 0 0
unfolding template_size_of outside_count automatic_count any_empty
nothing inner strategy gap = refl

module _ (inner : Option Float) (strategy : AutoRepeatStrategy) (gap : Sizing) where
  valid-some : (c : Component) (cs : List Component) → Valid (c ∷ cs) → 0 < (template_size_of inner strategy gap (meaning_of (inner_value inner) (c ∷ cs))).tracks
  unfolding repetitions_of
  valid-some c cs v =
      ⊎_elim
      (λ (e : automatic_count (c ∷ cs) ≡ 0). rw (size-counted inner strategy gap 0 (c ∷ cs) v e) (outside-some c cs (none_empty (c ∷ cs) v) e))
      (λ (e : automatic_count (c ∷ cs) ≡ 1). rw (size-repeated inner strategy gap 0 (c ∷ cs) v e) (repeated e))
      (one_at_most (c ∷ cs) v)
    where
      repeated : automatic_count (c ∷ cs) ≡ 1
          → 0 < outside_count (c ∷ cs) + length (automatic_tracks (c ∷ cs)) * repetitions_of inner strategy gap (meaning_of (inner_value inner) (c ∷ cs))
      repeated e =
          repeated-some (outside_count (c ∷ cs)) (before_count (c ∷ cs)) (length (automatic_tracks (c ∷ cs)))
          (wanted_of inner strategy gap (meaning_of (inner_value inner) (c ∷ cs))) (before-outside (c ∷ cs))
          (repeat_has_tracks (c ∷ cs) (none_empty (c ∷ cs) v) (one (automatic_count (c ∷ cs)) e))
        where
          one : (n : ℕ) → n ≡ 1 → 0 < n
          one n e = omega arith

  -- without a component, and where it is invalid, a template gives nothing
  empty-nothing : (cs : List Component) → (cs ≡ []) ⊎ (Valid cs → ⊥) → template_size_of inner strategy gap (meaning_of (inner_value inner) cs) ≡ size_of 0 0
  empty-nothing cs (inl e) = rw e (nothing inner strategy gap)
  empty-nothing cs (inr h) = size-invalid inner strategy gap 0 cs h

  no-track : (cs : List Component) → (template_size_of inner strategy gap (meaning_of (inner_value inner) cs)).tracks ≡ 0 → (cs ≡ []) ⊎ (Valid cs → ⊥)
  no-track [] e = inl refl
  no-track (c ∷ cs) e = inr (λ v. let h = valid-some c cs v in omega arith)

  -- 0 tracks exactly where there is no component, or the template is invalid in CSS's words
  pub none_exactly : (cs : List Component) → ((template_size_of inner strategy gap (meaning_of (inner_value inner) cs)).tracks ≡ 0) ↔ ((cs ≡ []) ⊎ (Valid cs → ⊥))
  none_exactly cs = (no-track cs, λ h. ap (λ (t : TemplateSize). t.tracks) (empty-nothing cs h))

  -- and then no repetition either
  pub none-repeated : (cs : List Component) → (template_size_of inner strategy gap (meaning_of (inner_value inner) cs)).tracks ≡ 0
      → (template_size_of inner strategy gap (meaning_of (inner_value inner) cs)).repetitions ≡ 0
  none-repeated cs e = ap (λ (t : TemplateSize). t.repetitions) (empty-nothing cs (no-track cs e))
