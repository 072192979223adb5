-- The walk over a template: one more component, and what each gathered field means in document 01's words. Assumes nothing.
use Rattle.std.proofs.Common.{◌≡◌, ℕ, ◌+◌, Bool, true, false, cond, ◌&&◌, ◌||◌, eqb, List, [], ◌∷◌, ◌++◌, map, length, sym, refl, ap, ◌∙◌, append_assoc, append-nil, add-zero, add_assoc, zero-add, arith, eqb-true}
use mathlib.Core.Bool.{and-true, and_assoc, or_assoc, or-false}
use mathlib.Core.List.{foldl, foldl-append, map-append}
use lib.Ieee.{Float, binary32, add}
use Rattle.sizing.specs.Words.{zero32}
use Rattle.sizing.specs.Sums.{sum_from}
use Rattle.sizing.proofs.Sums.{sum_one_more}
use Rattle.sizing.specs.Definite.{fixed_track}
use Rattle.sizing.specs.declared.MinMax.{MinMax}
use Rattle.template_rules.specs.Template.{Component}
use Rattle.template_rules.specs.Counts.{is_automatic, outside_of, is_empty, outside_count, automatic_count, before_count, automatic_tracks, any_empty, all_fixed, every_fixed}
use Rattle.template_rules.specs.Space.{track_space, space_in, space_of, repeated_track_space, outside_space, repetition_space}
use Rattle.template_rules.specs.Summary.{meaning_of, no_components}
use Rattle.template_rules.specs.Steps.{no_tracks, track_step, summary_step, summary_of}
use Rattle.template_rules.specs.declared.RepetitionCount.{RepetitionCount}
use Rattle.template_rules.specs.declared.RepetitionCount.TheVariants.{Single, Count, AutoFill, AutoFit}
use Rattle.template_rules.specs.declared.TrackTotals.{TrackTotals}
use Rattle.template_rules.specs.declared.TemplateSummary.{TemplateSummary}
use Rattle.template_rules.proofs.Tests.{test_above}

-- one more component
pub summary_one_more : (inner : Float) (cs : List Component) (c : Component) → summary_of inner (cs ++ (c ∷ [])) ≡ summary_step inner (summary_of inner cs) c
unfolding summary_of
summary_one_more inner cs c = foldl-append (summary_step inner) no_components cs (c ∷ [])

-- the tracks of a component: whether all are fixed, and their sum in order
pub totals_from : (count : RepetitionCount) (inner : Float) (s : TrackTotals) (ts : List MinMax)
    → foldl (track_step count inner) s ts ≡ record { fixed = s.fixed && all_fixed ts; space = sum_from s.space (map (λ (t : MinMax). space_in count (track_space inner t)) ts) }
unfolding all_fixed sum_from
totals_from count inner s [] = rw (and-true s.fixed)
totals_from count inner s (t ∷ ts) = totals_from count inner (track_step count inner s t) ts ∙ rw (and_assoc s.fixed (fixed_track t) (all_fixed ts))

-- each field with one more component
abbrev one : RepetitionCount → List MinMax → List Component
one count ts = record { count = count; tracks = ts } ∷ []

empty_more : (cs : List Component) (count : RepetitionCount) (ts : List MinMax) → any_empty (cs ++ one count ts) ≡ (any_empty cs || is_empty count (length ts))
unfolding any_empty
empty_more [] count ts = or-false (is_empty count (length ts))
empty_more (d ∷ cs) count ts = rw (empty_more cs count ts, or_assoc (is_empty d.count (length d.tracks)) (any_empty cs) (is_empty count (length ts)))

fixed_more : (cs : List Component) (count : RepetitionCount) (ts : List MinMax) → every_fixed (cs ++ one count ts) ≡ (every_fixed cs && all_fixed ts)
unfolding every_fixed
fixed_more [] count ts = and-true (all_fixed ts)
fixed_more (d ∷ cs) count ts = rw (fixed_more cs count ts, and_assoc (all_fixed d.tracks) (every_fixed cs) (all_fixed ts))

automatic_more : (cs : List Component) (count : RepetitionCount) (ts : List MinMax) → automatic_count (cs ++ one count ts) ≡ automatic_count cs + cond (is_automatic count) 1 0
unfolding automatic_count
automatic_more [] count ts = omega arith
automatic_more (d ∷ cs) count ts = rw (automatic_more cs count ts, add_assoc)

outside-more : (cs : List Component) (count : RepetitionCount) (ts : List MinMax) → outside_count (cs ++ one count ts) ≡ outside_count cs + outside_of count (length ts)
unfolding outside_count
outside-more [] count ts = omega arith
outside-more (d ∷ cs) count ts = rw (outside-more cs count ts, add_assoc)

some : (n : ℕ) → eqb (1 + n) 0 ≡ false
some n = test_above (1 + n) (omega arith)

before_more : (cs : List Component) (count : RepetitionCount) (ts : List MinMax)
    → before_count (cs ++ one count ts) ≡ before_count cs + cond (eqb (automatic_count cs) 0) (cond (is_automatic count) 0 (outside_of count (length ts))) 0
unfolding before_count automatic_count
before_more [] count ts = go (is_automatic count) (outside_of count (length ts))
  where
    go : (t : Bool) (n : ℕ) → cond t 0 (n + 0) ≡ 0 + cond t 0 n
    go true n = refl
    go false n = omega arith
before_more (d ∷ cs) count ts = rw (before_more cs count ts) (go (is_automatic d.count) (outside_of d.count (length d.tracks)) (automatic_count cs) (before_count cs) (cond (is_automatic count) 0 (outside_of count (length ts))))
  where
    go : (t : Bool) (n a b x : ℕ) → cond t 0 (n + (b + cond (eqb a 0) x 0)) ≡ cond t 0 (n + b) + cond (eqb (cond t 1 0 + a) 0) x 0
    go true n a b x = rw (some a)
    go false n a b x = rw (zero-add, add_assoc)

tracks-more : (cs : List Component) (count : RepetitionCount) (ts : List MinMax)
    → automatic_tracks (cs ++ one count ts) ≡ cond (eqb (automatic_count cs) 0) (cond (is_automatic count) ts []) (automatic_tracks cs)
unfolding automatic_tracks automatic_count
tracks-more [] count ts = refl
tracks-more (d ∷ cs) count ts = rw (tracks-more cs count ts) (go (is_automatic d.count) (automatic_count cs) (cond (is_automatic count) ts []))
  where
    go : (t : Bool) (a : ℕ) (x : List MinMax) → cond t d.tracks (cond (eqb a 0) x (automatic_tracks cs)) ≡ cond (eqb (cond t 1 0 + a) 0) x (cond t d.tracks (automatic_tracks cs))
    go true a x = rw (some a)
    go false a x = rw (zero-add)

-- a component that is not automatic leaves the tracks of the repeat
none-repeated : (cs : List Component) → automatic_count cs ≡ 0 → automatic_tracks cs ≡ []
unfolding automatic_tracks automatic_count
none-repeated [] e = refl
none-repeated (d ∷ cs) e = go (is_automatic d.count) e (none-repeated cs)
  where
    never : (n : ℕ) → 1 + n ≡ 0 → ⊥
    never n e = omega arith

    rest : (n : ℕ) → 0 + n ≡ 0 → n ≡ 0
    rest n e = omega arith

    go : (t : Bool) → cond t 1 0 + automatic_count cs ≡ 0 → (automatic_count cs ≡ 0 → automatic_tracks cs ≡ []) → cond t d.tracks (automatic_tracks cs) ≡ []
    go true e ih = absurd (never (automatic_count cs) e)
    go false e ih = ih (rest (automatic_count cs) e)

same-tracks : (cs : List Component) → cond (eqb (automatic_count cs) 0) [] (automatic_tracks cs) ≡ automatic_tracks cs
same-tracks cs = go (eqb (automatic_count cs) 0) (λ e. none-repeated cs (eqb-true (automatic_count cs) 0 e))
  where
    go : (t : Bool) → (t ≡ true → automatic_tracks cs ≡ []) → cond t [] (automatic_tracks cs) ≡ automatic_tracks cs
    go true f = sym (f refl)
    go false f = refl

used_more : (inner : Float) (cs : List Component) (count : RepetitionCount) (ts : List MinMax) → outside_space inner (cs ++ one count ts) ≡ add binary32 (outside_space inner cs) (space_of inner count ts)
unfolding outside_space
used_more inner cs count ts =
    ap (sum_from zero32) (map-append (λ (c : Component). space_of inner c.count c.tracks) cs (one count ts))
    ∙ sum_one_more zero32 (map (λ (c : Component). space_of inner c.count c.tracks) cs) (space_of inner count ts)

-- eight fields that agree
abbrev summary : Bool → Bool → ℕ → ℕ → ℕ → ℕ → Float → Float → TemplateSummary
summary e f a o b r u w = record { empty = e; fixed = f; automatic = a; outside = o; before = b; repeated = r; used = u; once = w }

-- one more component outside the automatic repeat
outside_means : (inner : Float) (cs : List Component) (count : RepetitionCount) (ts : List MinMax) → is_automatic count ≡ false
    → summary (any_empty cs || is_empty count (length ts)) (every_fixed cs && all_fixed ts) (automatic_count cs) (outside_count cs + outside_of count (length ts))
    (before_count cs + cond (eqb (automatic_count cs) 0) (outside_of count (length ts)) 0) (length (automatic_tracks cs)) (add binary32 (outside_space inner cs) (space_of inner count ts)) (repetition_space inner cs)
    ≡ meaning_of inner (cs ++ one count ts)
unfolding repetition_space
outside_means inner cs count ts e =
    rw (empty_more cs count ts, fixed_more cs count ts, automatic_more cs count ts, outside-more cs count ts, before_more cs count ts, tracks-more cs count ts, used_more inner cs count ts, e, same-tracks cs, add-zero)

choose : {A B : Type 0} (f : A → B) (t : Bool) (a b : A) → f (cond t a b) ≡ cond t (f a) (f b)
choose f true a b = refl
choose f false a b = refl

same_choice : (t : Bool) → cond {A = ℕ} t 0 0 ≡ 0
same_choice true = refl
same_choice false = refl

-- one more automatic repeat
automatic_means : (inner : Float) (cs : List Component) (count : RepetitionCount) (ts : List MinMax) → is_automatic count ≡ true
    → summary (any_empty cs || is_empty count (length ts)) (every_fixed cs && all_fixed ts) (automatic_count cs + 1) (outside_count cs + outside_of count (length ts))
    (before_count cs) (cond (eqb (automatic_count cs) 0) (length ts) (length (automatic_tracks cs))) (add binary32 (outside_space inner cs) (space_of inner count ts))
    (cond (eqb (automatic_count cs) 0) (sum_from zero32 (map (repeated_track_space inner) ts)) (repetition_space inner cs))
    ≡ meaning_of inner (cs ++ one count ts)
unfolding repetition_space
automatic_means inner cs count ts e =
    rw (
      empty_more cs count ts,
      fixed_more cs count ts,
      automatic_more cs count ts,
      outside-more cs count ts,
      before_more cs count ts,
      tracks-more cs count ts,
      used_more inner cs count ts,
      e,
      same_choice (eqb (automatic_count cs) 0),
      add-zero,
      choose length (eqb (automatic_count cs) 0) ts (automatic_tracks cs),
      choose (λ (l : List MinMax). sum_from zero32 (map (repeated_track_space inner) l)) (eqb (automatic_count cs) 0) ts (automatic_tracks cs),
    )

-- one more component, of each kind
step_means : (inner : Float) (cs : List Component) (count : RepetitionCount) (ts : List MinMax)
    → summary_step inner (meaning_of inner cs) (record { count = count; tracks = ts }) ≡ meaning_of inner (cs ++ one count ts)
unfolding summary_step
step_means inner cs Single ts = outside_means inner cs Single ts refl
step_means inner cs (Count n) ts = rw (totals_from (Count n) inner no_tracks ts) (outside_means inner cs (Count n) ts refl)
step_means inner cs AutoFill ts = rw (totals_from AutoFill inner no_tracks ts, ← add-zero (outside_count cs)) (automatic_means inner cs AutoFill ts refl)
step_means inner cs AutoFit ts = rw (totals_from AutoFit inner no_tracks ts, ← add-zero (outside_count cs)) (automatic_means inner cs AutoFit ts refl)

none : (inner : Float) → no_components ≡ meaning_of inner []
unfolding any_empty every_fixed automatic_count outside_count before_count automatic_tracks outside_space repetition_space
none inner = refl

-- the walk gathers what each field means: after any first part, and so after the whole template
walk_means : (inner : Float) (pre cs : List Component) → foldl (summary_step inner) (meaning_of inner pre) cs ≡ meaning_of inner (pre ++ cs)
walk_means inner pre [] = rw append-nil
walk_means inner pre (c ∷ cs) =
    ap (λ (s : TemplateSummary). foldl (summary_step inner) s cs) (step_means inner pre c.count c.tracks)
    ∙ walk_means inner (pre ++ (c ∷ [])) cs
    ∙ ap (meaning_of inner) (append_assoc pre (c ∷ []) cs)

pub summary_means : (inner : Float) (cs : List Component) → summary_of inner cs ≡ meaning_of inner cs
unfolding summary_of
summary_means inner cs = ap (λ (s : TemplateSummary). foldl (summary_step inner) s cs) (none inner) ∙ walk_means inner [] cs
