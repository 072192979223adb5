-- The steps of the search count as layer 3 does at each size, so they find what trying finds. Assumes nothing.
use Prim.Native.Nat.{ℕ, zero, suc, ◌+◌, ◌-◌}
use mathlib.Core.Path.{◌≡◌, refl, sym, ap, ◌∙◌, subst}
use mathlib.Core.Bool.{Bool, true, false, cond, ◌||◌}
use mathlib.Core.List.{List}
use lib.Ieee.{Float}
use Rattle.std.proofs.lemmas.Bool.{or_parts}
use Rattle.sizing.specs.Words.{zero32}
use Rattle.sizing.specs.declared.Sizing.TheVariants.{Length}
use Rattle.template_rules.specs.Template.{Component, template_of}
use Rattle.template_rules.specs.Space.{whole32}
use Rattle.template_rules.specs.Bounds.{Gathered}
use Rattle.template_rules.specs.declared.AutoRepeatStrategy.{AutoRepeatStrategy}
use Rattle.template_rules.specs.declared.TemplateSummary.{TemplateSummary}
use Rattle.explicit_size.specs.Repeat.{gathered_of, repetitions_in}
use Rattle.explicit_size.specs.Steps.{spaces_by, count_by}
use Rattle.explicit_size.proofs.Counted.{counted-at}
use Rattle.least_resize.specs.declared.search.SizedRepeat.{SizedRepeat}
use Rattle.least_resize.specs.Search.{repetitions_at, differs_from, at_distance, search_from, least_resize}
use Rattle.least_resize.specs.Percentages.{has_percentage}
use Rattle.least_resize.specs.Steps.{repeat_of, count_in, differs_in}
use Rattle.least_resize.proofs.Constant.{gathered-constant}

module _ (words minimums maximums : List ℕ) (strategy : AutoRepeatStrategy) (gap : Float) where
  abbrev cs : List Component
  cs = template_of words minimums maximums

  module _ (g : Gathered 64 (gathered_of zero32 (template_of words minimums maximums))) where
    -- the count at a size
    count-right : (t : ℕ) → count_in (repeat_of words minimums maximums strategy gap) cs t ≡ repetitions_at strategy gap cs t
    unfolding count_in repetitions_in
    count-right t = go (has_percentage minimums || has_percentage maximums) refl
      where
        go : (b : Bool) → (has_percentage minimums || has_percentage maximums) ≡ b
            → cond b (repetitions_at strategy gap cs t) (count_by strategy (whole32 t) (spaces_by (gathered_of zero32 cs) gap)) ≡ repetitions_at strategy gap cs t
        go true e = refl
        go false e =
            let p = or_parts (has_percentage minimums) (has_percentage maximums) e in
            let c : gathered_of zero32 cs ≡ gathered_of (whole32 t) cs = gathered-constant minimums maximums p.0 p.1 zero32 (whole32 t) words in
            ap (λ (s : TemplateSummary). count_by strategy (whole32 t) (spaces_by s gap)) c
            ∙ sym (counted-at (gathered_of (whole32 t) cs) (subst (Gathered 64) c g) (whole32 t) strategy (Length gap))

-- a search asks nothing but its test
pub same_search : (p q : ℕ → Bool) → ((t : ℕ) → p t ≡ q t) → (size k d : ℕ) → search_from p size d k ≡ search_from q size d k
unfolding search_from at_distance
same_search p q h size zero d = refl
same_search p q h size (suc k) d = rw (h (size + d), h (size - d), same_search p q h size k (d + 1))

module _ (words minimums maximums : List ℕ) (strategy : AutoRepeatStrategy) (gap : Float) (r : SizedRepeat) (n size : ℕ)
    (g : Gathered 64 (gathered_of zero32 (template_of words minimums maximums))) (e : r ≡ repeat_of words minimums maximums strategy gap)
    (f : n ≡ count_in r (template_of words minimums maximums) size) where
  -- the search by steps is that by trying
  pub steps-search : search_from (differs_in r (template_of words minimums maximums) n) size 1 65535 ≡ least_resize (repetitions_at strategy gap (template_of words minimums maximums)) size
  unfolding least_resize differs_in
  steps-search = same_search (differs_in r t n) (differs_from (repetitions_at strategy gap t) (repetitions_at strategy gap t size)) each size 65535 1
    where
      t : List Component
      t = template_of words minimums maximums

      count : (k : ℕ) → count_in r t k ≡ repetitions_at strategy gap t k
      count k = ap (λ (s : SizedRepeat). count_in s t k) e ∙ count-right words minimums maximums strategy gap g k

      each : (k : ℕ) → differs_in r t n k ≡ differs_from (repetitions_at strategy gap t) (repetitions_at strategy gap t size) k
      each k = rw (count k, f ∙ count size)
