-- An axis is answered its least resize where it can be asked, and is refused elsewhere; its count is CSS's at every size. Assumes nothing.
use Rattle.std.proofs.lemmas.Bool.{and_parts}
use Rattle.std.specs.Prelude.{Some, Option, None}
use Prim.Native.Nat.{ℕ, ◌≤◌, ◌<◌}
use mathlib.Core.Path.{◌≡◌, refl, sym, ap, ◌∙◌, subst}
use mathlib.Core.Logic.{⊎_elim}
use mathlib.Core.Bool.{Bool, true, false, cond, ◌&&◌, true≢false}
use mathlib.Core.List.{List}
use native.Mathlib.Omega.{arith}
use borrow.Author.Tests.{le-leb, leb-true, eq-eqb, eqb-true, eqb-false, ne_eqb}
use lib.Dec.{eqb, leb}
use lib.ListN.{length}
use lib.Ieee.{Float}
use Rattle.sizing.specs.Definite.{length_alone}
use Rattle.sizing.specs.Words.{zero32, float_up_to, largest_bits}
use Rattle.sizing.specs.declared.Sizing.{Sizing}
use Rattle.sizing.specs.declared.Sizing.TheVariants as Size
use Rattle.template_rules.specs.Template.{Component}
use Rattle.template_rules.specs.Counts.{automatic_count}
use Rattle.template_rules.specs.Space.{whole32}
use Rattle.template_rules.specs.Summary.{meaning_of, no_components}
use Rattle.template_rules.specs.Repetitions.{repetitions_of}
use Rattle.template_rules.specs.Explicit.{valid_of, template_size_of}
use Rattle.template_rules.specs.Css.{Valid, Repetitions}
use Rattle.template_rules.specs.declared.AutoRepeatStrategy.{AutoRepeatStrategy}
use Rattle.template_rules.specs.declared.TemplateSize.{TemplateSize}
use Rattle.template_rules.proofs.Valid.{valid_css, in_count, one_at_most, automatic_component}
use Rattle.template_rules.proofs.Answer.{valid_repetitions_css, size-repeated}
use Rattle.explicit_size.specs.Repeat.{gathered_of, asks_of, repeats_automatically, repetitions_in}
use Rattle.least_resize.specs.Search.{repetitions_at, least_resize}
use Rattle.least_resize.specs.Whole.{IsPixels, whole_size_of}
use Rattle.least_resize.specs.Answer.{size_now, refused_resize, resize_by, resize_answer, definite_number, bits_of_inner, inner_by}
use Rattle.least_resize.specs.Asked.{Asked, ResizeAnswered, resize_found, resize_refused}
use Rattle.least_resize.proofs.Least.{search-least}
use Rattle.least_resize.proofs.Pixels.{whole_exactly}

-- ---- the repeat: the template is valid and has one
one_repeat : (cs : List Component) → Valid cs → 0 < automatic_count cs → automatic_count cs ≡ 1
one_repeat cs v h = ⊎_elim (λ (e : automatic_count cs ≡ 0). absurd (none (automatic_count cs) e h)) (λ (e : automatic_count cs ≡ 1). e) (one_at_most cs v)
  where
    none : (n : ℕ) → n ≡ 0 → 0 < n → ⊥
    none n e h = omega arith

repeat_asks : (cs : List Component) → Valid cs → length cs ≤ 64 → 0 < automatic_count cs → repeats_automatically cs ≡ true
unfolding repeats_automatically gathered_of
repeat_asks cs v few h =
    rw (le-leb (length cs) 64 few) (both (valid_of (meaning_of zero32 cs)) (eqb (automatic_count cs) 1) ((valid_css zero32 cs).1 v) (eq-eqb (automatic_count cs) 1 (one_repeat cs v h)))
  where
    both : (a b : Bool) → a ≡ true → b ≡ true → (a && b) ≡ true
    both a b p q = cc

asks_repeat : (cs : List Component) → repeats_automatically cs ≡ true → Valid cs × (length cs ≤ 64) × (automatic_count cs ≡ 1)
unfolding repeats_automatically gathered_of
asks_repeat cs e = go (leb (length cs) 64) refl e
  where
    go : (t : Bool) → leb (length cs) 64 ≡ t → asks_of (cond t (meaning_of zero32 cs) no_components) ≡ true → Valid cs × (length cs ≤ 64) × (automatic_count cs ≡ 1)
    go true h f =
        let p = and_parts (valid_of (meaning_of zero32 cs)) (eqb (automatic_count cs) 1) f in
        ((valid_css zero32 cs).0 p.0, leb-true (length cs) 64 h, eqb-true (automatic_count cs) 1 p.1)
    go false h f = absurd (true≢false (sym f))

-- ---- the gap
length-only : (gap : Sizing) (v : Float) → length_alone gap ≡ Some v → gap ≡ Size.Length v
length-only (Size.Length w) v e = cc
length-only (Size.Percent p) v e = cc
length-only (Size.Fraction w) v e = cc
length-only Size.Auto v e = cc
length-only Size.MinContent v e = cc
length-only Size.MaxContent v e = cc
length-only (Size.FitContentLength w) v e = cc
length-only (Size.FitContentPercent p) v e = cc

-- ---- the size
some_size : (definite inner n : ℕ) → size_now definite inner ≡ Some n → (definite ≡ 0 → ⊥) × IsPixels (float_up_to largest_bits inner) n
some_size definite inner n e = go (eqb definite 0) refl e
  where
    other : None ≡ Some n → ⊥
    other e = let z : ◌≡◌ {A = ℕ} 0 1 = cc in omega arith

    go : (t : Bool) → eqb definite 0 ≡ t → cond t None (whole_size_of (float_up_to largest_bits inner)) ≡ Some n → (definite ≡ 0 → ⊥) × IsPixels (float_up_to largest_bits inner) n
    go true h f = absurd (other f)
    go false h f = (eqb-false definite 0 h, (whole_exactly inner n).0 f)

size-some : (definite inner n : ℕ) → (definite ≡ 0 → ⊥) → IsPixels (float_up_to largest_bits inner) n → size_now definite inner ≡ Some n
size-some definite inner n h p = rw (ne_eqb definite 0 h) ((whole_exactly inner n).1 p)

-- an inner size that two numbers give is the one that they say
pub inner-by : (definite inner : ℕ) (strategy : AutoRepeatStrategy) (gap : Sizing) (cs : List Component) (r : Option ℕ) → r ≡ inner_by definite inner
    → resize_answer (definite_number r) (bits_of_inner r) strategy gap cs ≡ resize_answer definite inner strategy gap cs
unfolding resize_answer
inner-by definite inner strategy gap cs r e = ap (λ (s : Option ℕ). cond (repeats_automatically cs) (resize_by strategy (length_alone gap) s cs) refused_resize) (go (eqb definite 0) refl)
  where
    go : (t : Bool) → eqb definite 0 ≡ t → size_now (definite_number r) (bits_of_inner r) ≡ size_now definite inner
    go true h = rw (e, h)
    go false h = rw (e, h)

-- ---- the answer
module _ (definite inner : ℕ) (strategy : AutoRepeatStrategy) (gap : Sizing) (cs : List Component) where
  asked-repeats : (size : ℕ) (between : Float) → Asked definite inner gap cs size between → repeats_automatically cs ≡ true
  asked-repeats size between a = let c = a.repeat in repeat_asks cs a.valid a.few (in_count cs c.0 c.1 c.2)

  answered-by : (b : Bool) → repeats_automatically cs ≡ b → (l : Option Float) → length_alone gap ≡ l → (s : Option ℕ) → size_now definite inner ≡ s
      → ResizeAnswered definite inner strategy gap cs (cond b (resize_by strategy l s cs) refused_resize)
  answered-by false e l f s g = resize_refused (λ size between a. true≢false (sym (asked-repeats size between a) ∙ e))
  answered-by true e None f s g = resize_refused (λ size between a. other (sym (ap length_alone a.apart) ∙ f))
    where
      other : {v : Float} → Some v ≡ None → ⊥
      other e = let z : ◌≡◌ {A = ℕ} 0 1 = cc in omega arith
  answered-by true e (Some v) f None g = resize_refused (λ size between a. other (sym (size-some definite inner size a.sized a.pixels) ∙ g))
    where
      other : {n : ℕ} → Some n ≡ None → ⊥
      other e = let z : ◌≡◌ {A = ℕ} 0 1 = cc in omega arith
  answered-by true e (Some v) f (Some n) g =
      let q = asks_repeat cs e in
      let p = some_size definite inner n g in
      resize_found n v (least_resize (repetitions_at strategy v cs) n)
      (record { valid = q.0; few = q.1; repeat = automatic_component cs (some (automatic_count cs) q.2); sized = p.0; pixels = p.1; apart = length-only gap v f })
      (search-least (repetitions_at strategy v cs) n p.1.within)
    where
      some : (n : ℕ) → n ≡ 1 → 0 < n
      some n e = omega arith

  pub resize-answered : ResizeAnswered definite inner strategy gap cs (resize_answer definite inner strategy gap cs)
  unfolding resize_answer
  resize-answered = answered-by (repeats_automatically cs) refl (length_alone gap) refl (size_now definite inner) refl

  -- the count is CSS's at every size
  module _ (size : ℕ) (between : Float) (a : Asked definite inner gap cs size between) (s : ℕ) where
    one : automatic_count cs ≡ 1
    one = let c = a.repeat in one_repeat cs a.valid (in_count cs c.0 c.1 c.2)

    count-is : repetitions_at strategy between cs s ≡ repetitions_of (Some (whole32 s)) strategy (Size.Length between) (meaning_of (whole32 s) cs)
    unfolding repetitions_in gathered_of
    count-is =
        ap (λ (t : Bool). (template_size_of (Some (whole32 s)) strategy (Size.Length between) (cond t (meaning_of (whole32 s) cs) no_components)).repetitions) (le-leb (length cs) 64 a.few)
        ∙ ap (λ (t : TemplateSize). t.repetitions) (size-repeated (Some (whole32 s)) strategy (Size.Length between) 0 cs a.valid one)

    pub count-css : Repetitions (Some (whole32 s)) strategy (Size.Length between) cs (repetitions_at strategy between cs s)
    count-css =
        subst (Repetitions (Some (whole32 s)) strategy (Size.Length between) cs) (sym count-is)
        (valid_repetitions_css (Some (whole32 s)) strategy (Size.Length between) cs a.valid one)
