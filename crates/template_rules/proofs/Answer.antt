-- The answer of the call against CSS: its repetitions, and its counts, for valid and invalid templates. Assumes nothing.
use Rattle.std.proofs.lemmas.Bool.{or_parts}
use Rattle.std.proofs.Common.{◌≡◌, ℕ, ◌+◌, ◌<◌, ◌≤◌, max, Bool, true, false, cond, T, leb, List, [], ◌∷◌, length, sym, refl, ap, ◌∙◌, arith, eq-eqb, ne_eqb, leb-true, Float, Option}
use lib.Ieee.Bits.{is_true}
use Rattle.coordinates.specs.Refusals.{no_refusal, count}
use Rattle.sizing.specs.declared.Sizing.{Sizing}
use Rattle.template_rules.specs.Template.{Component}
use Rattle.template_rules.specs.Counts.{is_automatic, is_empty, outside_count, automatic_count, automatic_tracks, any_empty}
use Rattle.template_rules.specs.Summary.{meaning_of}
use Rattle.template_rules.specs.Repetitions.{repetitions_of}
use Rattle.template_rules.specs.Explicit.{SizeAnswer, inner_value, valid_of, size_of, repeated_size, template_size_of, refused_size, with_areas, crowded_by, explicit_size_of, space_in_range, explicit_answer_of}
use Rattle.template_rules.specs.Css.{Valid, Repetitions}
use Rattle.template_rules.specs.declared.AutoRepeatStrategy.{AutoRepeatStrategy}
use Rattle.template_rules.specs.declared.RepetitionCount.{RepetitionCount}
use Rattle.template_rules.specs.declared.RepetitionCount.TheVariants.{Single, Count, AutoFill, AutoFit}
use Rattle.template_rules.specs.declared.TemplateSize.{TemplateSize}
use Rattle.template_rules.proofs.Tests.{above_test}
use Rattle.template_rules.proofs.Valid.{none_empty, valid_css}
use Rattle.template_rules.proofs.Css.{repetitions_css}

-- a refusal has zeros beside it
pub refused-zeros : (n : ℕ) → ((refused_size n).repetitions ≡ 0) × ((refused_size n).template ≡ 0) × ((refused_size n).explicit ≡ 0)
refused-zeros n = (refl, refl, refl)

-- an automatic repeat that is not empty has tracks
pub repeat_has_tracks : (cs : List Component) → any_empty cs ≡ false → 0 < automatic_count cs → 0 < length (automatic_tracks cs)
unfolding any_empty automatic_count automatic_tracks
repeat_has_tracks [] e h = absurd (never h)
  where
    never : 0 < 0 → ⊥
    never h = omega arith
repeat_has_tracks (d ∷ cs) e h = let p = or_parts (is_empty d.count (length d.tracks)) (any_empty cs) e in go d.count p.1 p.0 h (repeat_has_tracks cs)
  where
    rest : (n : ℕ) → 0 < 0 + n → 0 < n
    rest n h = omega arith

    go : (k : RepetitionCount) → any_empty cs ≡ false → is_empty k (length d.tracks) ≡ false → 0 < cond (is_automatic k) 1 0 + automatic_count cs
        → (any_empty cs ≡ false → 0 < automatic_count cs → 0 < length (automatic_tracks cs)) → 0 < length (cond (is_automatic k) d.tracks (automatic_tracks cs))
    go Single e f h ih = ih e (rest (automatic_count cs) h)
    go (Count n) e f h ih = ih e (rest (automatic_count cs) h)
    go AutoFill e f h ih = above_test (length d.tracks) f
    go AutoFit e f h ih = above_test (length d.tracks) f

-- for every valid template with an automatic repeat the repetitions are CSS's number
pub valid_repetitions_css : (inner : Option Float) (strategy : AutoRepeatStrategy) (gap : Sizing) (cs : List Component) → Valid cs → automatic_count cs ≡ 1
    → Repetitions inner strategy gap cs (repetitions_of inner strategy gap (meaning_of (inner_value inner) cs))
valid_repetitions_css inner strategy gap cs v e = repetitions_css inner strategy gap cs (repeat_has_tracks cs (none_empty cs v) (some (automatic_count cs) e))
  where
    some : (n : ℕ) → n ≡ 1 → 0 < n
    some n e = omega arith

-- too many components are refused, whatever the areas
crowded-refused : (areas : ℕ) → ◌≡◌ {A = ℕ} 0 (crowded_by areas) → ⊥
crowded-refused areas = go (leb areas 10000)
  where
    go : (t : Bool) → ◌≡◌ {A = ℕ} 0 (cond t 8 4) → ⊥
    go true h = omega arith
    go false h = omega arith

-- an answer that is not refused is that of the template and the areas
chosen : (t : TemplateSize) (areas : ℕ) (a b : Bool) (r : SizeAnswer)
    → r ≡ cond a (cond b (record { refusal = no_refusal; repetitions = t.repetitions; template = t.tracks; explicit = max t.tracks areas }) (refused_size count)) (refused_size (crowded_by areas))
    → r.refusal.number ≡ 0 → (r.repetitions ≡ t.repetitions) × (r.template ≡ t.tracks) × (r.explicit ≡ max t.tracks areas)
chosen t areas true true r e z = (ap (λ (x : SizeAnswer). x.repetitions) e, ap (λ (x : SizeAnswer). x.template) e, ap (λ (x : SizeAnswer). x.explicit) e)
chosen t areas true false r e z = absurd (never (sym z ∙ ap (λ (x : SizeAnswer). x.refusal.number) e))
  where
    never : ◌≡◌ {A = ℕ} 0 4 → ⊥
    never h = omega arith
chosen t areas false b r e z = absurd (crowded-refused areas (sym z ∙ ap (λ (x : SizeAnswer). x.refusal.number) e))

-- and it has at most 10,000 tracks
few-tracks : (size : SizeAnswer) (n areas : ℕ) (a b : Bool) (r : SizeAnswer) → leb (max n areas) 10000 ≡ b → r ≡ cond a (cond b size (refused_size count)) (refused_size (crowded_by areas)) → r.refusal.number ≡ 0 → n ≤ 10000
few-tracks size n areas true true r t e z = both n areas (leb-true (max n areas) 10000 t)
  where
    both : (n m : ℕ) → max n m ≤ 10000 → n ≤ 10000
    both n m h = omega arith
few-tracks size n areas true false r t e z = absurd (never (sym z ∙ ap (λ (x : SizeAnswer). x.refusal.number) e))
  where
    never : ◌≡◌ {A = ℕ} 0 4 → ⊥
    never h = omega arith
few-tracks size n areas false b r t e z = absurd (crowded-refused areas (sym z ∙ ap (λ (x : SizeAnswer). x.refusal.number) e))

module _ (inner : Option Float) (strategy : AutoRepeatStrategy) (gap : Sizing) (areas : ℕ) (cs : List Component) where
  abbrev pub size : TemplateSize
  size = template_size_of inner strategy gap (meaning_of (inner_value inner) cs)

  abbrev pub answer : SizeAnswer
  answer = explicit_size_of inner strategy gap areas cs

  -- a caller whose inner size and gap are in range has this answer
  pub answer-in-range : T (space_in_range inner gap) → explicit_answer_of inner strategy gap areas cs ≡ answer
  unfolding explicit_answer_of
  answer-in-range h = rw (is_true (space_in_range inner gap) h)

  pub accepted : answer.refusal.number ≡ 0 → (answer.repetitions ≡ size.repetitions) × (answer.template ≡ size.tracks) × (answer.explicit ≡ max size.tracks areas)
  unfolding explicit_size_of with_areas
  accepted z = chosen size areas (leb (length cs) 64) (leb (max size.tracks areas) 10000) answer refl z

  pub accepted-few : answer.refusal.number ≡ 0 → size.tracks ≤ 10000
  unfolding explicit_size_of with_areas
  accepted-few z =
      few-tracks (record { refusal = no_refusal; repetitions = size.repetitions; template = size.tracks; explicit = max size.tracks areas }) size.tracks areas (leb (length cs) 64) (leb (max size.tracks areas) 10000)
      answer refl refl z

  -- a template that is not valid in CSS's words gives nothing
  pub size-invalid : (Valid cs → ⊥) → size ≡ size_of 0 0
  unfolding template_size_of
  size-invalid v = rw (test (valid_of (meaning_of (inner_value inner) cs)) refl)
    where
      test : (t : Bool) → valid_of (meaning_of (inner_value inner) cs) ≡ t → t ≡ false
      test true e = absurd (v ((valid_css (inner_value inner) cs).0 e))
      test false e = refl

  -- a valid one without automatic repeat gives its tracks
  pub size-counted : Valid cs → automatic_count cs ≡ 0 → size ≡ size_of 0 (outside_count cs)
  unfolding template_size_of
  size-counted v e = rw ((valid_css (inner_value inner) cs).1 v, eq-eqb (automatic_count cs) 0 e)

  -- a valid one with an automatic repeat
  pub size-repeated : Valid cs → automatic_count cs ≡ 1 → size ≡ repeated_size (meaning_of (inner_value inner) cs) (repetitions_of inner strategy gap (meaning_of (inner_value inner) cs))
  unfolding template_size_of
  size-repeated v e = rw ((valid_css (inner_value inner) cs).1 v, ne_eqb (automatic_count cs) 0 (apart (automatic_count cs) e))
    where
      apart : (n : ℕ) → n ≡ 1 → n ≡ 0 → ⊥
      apart n e f = omega arith

  -- and its repetitions in the call's answer are CSS's number
  pub answer-css : Valid cs → automatic_count cs ≡ 1 → answer.refusal.number ≡ 0 → Repetitions inner strategy gap cs answer.repetitions
  answer-css v e z = rw ((accepted z).0, size-repeated v e) (valid_repetitions_css inner strategy gap cs v e)
