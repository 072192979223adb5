-- The first part of a template after so many steps: all of it, one step more, and what is gathered after it. Assumes nothing.
use Rattle.std.proofs.Common.{◌≡◌, ℕ, zero, suc, ◌+◌, ◌-◌, ◌*◌, ◌^◌, ◌<◌, ◌≤◌, Bool, true, false, cond, ltb, List, [], ◌∷◌, ◌++◌, length, get_or, take, sym, refl, ap, arith, take_all, take-suc, ltb-false, ltb-true, ne_eqb}
use mathlib.Core.List.{foldl-append}
use lib.Dec.{eqb-suc-zero}
use lib.Ieee.{Float}
use Rattle.sizing.specs.declared.MinMax.{MinMax}
use Rattle.template_rules.specs.Template.{Component, component_of, track_at, tracks_from, with_tracks, template_of}
use Rattle.template_rules.specs.Summary.{meaning_of, steps_inside, steps_in, first_tracks, first_part, OneMore}
use Rattle.template_rules.specs.Summary.OneMore.{another, further}
use Rattle.template_rules.specs.Steps.{no_tracks, track_step, totals_of, summary_of, cut_after}
use Rattle.template_rules.specs.Bounds.{CountOfWord, OfWord}
use Rattle.template_rules.specs.declared.RepetitionCount.{RepetitionCount}
use Rattle.template_rules.specs.declared.RepetitionCount.TheVariants.{Single, Count, AutoFill, AutoFit}
use Rattle.template_rules.specs.declared.GridTemplateComponent.{GridTemplateComponent}
use Rattle.template_rules.proofs.Walk.{summary_means}
use Rattle.template_rules.proofs.Bounds.{length-tracks, of_word}

-- the steps inside a component of a template, and the component after k of them
abbrev inside : Component → ℕ
inside c = steps_inside c.count (length c.tracks)

abbrev cut : ℕ → Component → Component
cut k c = record { count = c.count; tracks = first_tracks k c.count c.tracks }

-- no step, and at least one
pub part_none : (cs : List Component) → first_part 0 cs ≡ []
unfolding first_part
part_none [] = refl
part_none (c ∷ cs) = refl

pub part_step_lem : (k : ℕ) (c : Component) (cs : List Component) → first_part (suc k) (c ∷ cs) ≡ cut k c ∷ first_part (k - inside c) cs
unfolding first_part
part_step_lem k c cs = let less : suc k - 1 ≡ k = omega arith in rw (eqb-suc-zero k, less)

-- all steps
all-tracks : (k : ℕ) (count : RepetitionCount) (ts : List MinMax) → steps_inside count (length ts) ≤ k → first_tracks k count ts ≡ ts
all-tracks k Single ts h = refl
all-tracks k (Count n) ts h = take_all k ts h
all-tracks k AutoFill ts h = take_all k ts h
all-tracks k AutoFit ts h = take_all k ts h

pub first_part_all : (k : ℕ) (cs : List Component) → steps_in cs ≤ k → first_part k cs ≡ cs
unfolding first_part steps_in
first_part_all k [] h = refl
first_part_all k (c ∷ cs) h =
    let within : inside c ≤ k - 1 = omega arith in
    let rest : steps_in cs ≤ k - 1 - inside c = omega arith in
    rw (ne_eqb k 0 none, all-tracks (k - 1) c.count c.tracks within, first_part_all (k - 1 - inside c) cs rest)
  where
    none : k ≡ 0 → ⊥
    none e = omega arith

-- after the components `before`, the next one and j steps inside it
pub first_part_at : (before : List Component) (c : Component) (cs : List Component) (j : ℕ) → j ≤ inside c → first_part (steps_in before + 1 + j) (before ++ (c ∷ cs)) ≡ before ++ (cut j c ∷ [])
unfolding steps_in
first_part_at [] c cs j h =
    let one : 0 + 1 + j ≡ suc j = omega arith in
    let none : j - inside c ≡ 0 = omega arith in
    rw (one, part_step_lem j c cs, none, part_none cs)
first_part_at (d ∷ before) c cs j h =
    let one : 1 + inside d + steps_in before + 1 + j ≡ suc (inside d + (steps_in before + 1 + j)) = omega arith in
    let within : inside d ≤ inside d + (steps_in before + 1 + j) = omega arith in
    let rest : inside d + (steps_in before + 1 + j) - inside d ≡ steps_in before + 1 + j = omega arith in
    rw (one, part_step_lem (inside d + (steps_in before + 1 + j)) d (before ++ (c ∷ cs)), all-tracks (inside d + (steps_in before + 1 + j)) d.count d.tracks within, rest, first_part_at before c cs j h)

-- one step more
not_single : (count : RepetitionCount) (n : ℕ) → 0 < steps_inside count n → count ≡ Single → ⊥
not_single count n h e = nothing (steps_inside count n) (rw e) h
  where
    nothing : (m : ℕ) → m ≡ 0 → 0 < m → ⊥
    nothing m e h = omega arith

begun : (count : RepetitionCount) (ts : List MinMax) → steps_inside count (length (first_tracks 0 count ts)) ≡ 0
begun Single ts = refl
begun (Count n) ts = refl
begun AutoFill ts = refl
begun AutoFit ts = refl

-- one track more of a repeat
next-track : (count : RepetitionCount) (ts : List MinMax) (j : ℕ) (t : MinMax) → j < steps_inside count (length ts) → first_tracks (suc j) count ts ≡ first_tracks j count ts ++ (get_or ts j t ∷ [])
next-track Single ts j t h = absurd (never j h)
  where
    never : (j : ℕ) → j < 0 → ⊥
    never j h = omega arith
next-track (Count n) ts j t h = take-suc ts j t h
next-track AutoFill ts j t h = take-suc ts j t h
next-track AutoFit ts j t h = take-suc ts j t h

behind : (c : Component) (part more : List Component) → OneMore part more → OneMore (c ∷ part) (c ∷ more)
behind c part more (another d e) = another d e
behind c part more (further before count ts t r e) = further (c ∷ before) count ts t r (ap (λ (l : List Component). c ∷ l) e)

-- any track, for a place past the end
abbrev any_track : MinMax
any_track = track_at [] [] 0

pub first_part_one_more : (k : ℕ) (cs : List Component) → k < steps_in cs → OneMore (first_part k cs) (first_part (suc k) cs)
unfolding steps_in
first_part_one_more k [] h = absurd (never k h)
  where
    never : (k : ℕ) → k < 0 → ⊥
    never k h = omega arith
first_part_one_more zero (c ∷ cs) h =
    let none : 0 - inside c ≡ 0 = omega arith in
    rw (part_none (c ∷ cs), part_step_lem 0 c cs, none, part_none cs) (another (cut 0 c) (begun c.count c.tracks))
first_part_one_more (suc k) (c ∷ cs) h = go (ltb k (inside c)) refl (first_part_one_more (k - inside c) cs)
  where
    go : (t : Bool) → ltb k (inside c) ≡ t → (k - inside c < steps_in cs → OneMore (first_part (k - inside c) cs) (first_part (suc (k - inside c)) cs))
        → OneMore (first_part (suc k) (c ∷ cs)) (first_part (suc (suc k)) (c ∷ cs))
    go true e ih =
        let l : k < inside c = ltb-true k (inside c) e in
        let some : 0 < inside c = omega arith in
        let now : k - inside c ≡ 0 = omega arith in
        let next : suc k - inside c ≡ 0 = omega arith in
        rw (part_step_lem k c cs, part_step_lem (suc k) c cs, now, next, part_none cs, next-track c.count c.tracks k any_track l)
        (further [] c.count (first_tracks k c.count c.tracks) (get_or c.tracks k any_track) (not_single c.count (length c.tracks) some) refl)
    go false e ih =
        let l : inside c ≤ k = ltb-false k (inside c) e in
        let m : inside c ≤ suc k = omega arith in
        let next : suc k - inside c ≡ suc (k - inside c) = omega arith in
        let rest : k - inside c < steps_in cs = omega arith in
        rw (part_step_lem k c cs, part_step_lem (suc k) c cs, next, all-tracks k c.count c.tracks l, all-tracks (suc k) c.count c.tracks m)
        (behind c (first_part (k - inside c) cs) (first_part (suc (k - inside c)) cs) (ih rest))

-- what the walk gathers after any number of steps is the summary of the template cut there
pub gathered_first_part : (inner : Float) (k : ℕ) (cs : List Component) → summary_of inner (first_part k cs) ≡ meaning_of inner (first_part k cs)
gathered_first_part inner k cs = summary_means inner (first_part k cs)

-- what one step more adds to it: a component by `summary_one_more`, and a track of the last repeat so
pub totals_one_more : (inner : Float) (count : RepetitionCount) (ts : List MinMax) (t : MinMax) → (count ≡ Single → ⊥) → totals_of inner count (ts ++ (t ∷ [])) ≡ track_step count inner (totals_of inner count ts) t
totals_one_more inner Single ts t h = absurd (h refl)
totals_one_more inner (Count n) ts t h = foldl-append (track_step (Count n) inner) no_tracks ts (t ∷ [])
totals_one_more inner AutoFill ts t h = foldl-append (track_step AutoFill inner) no_tracks ts (t ∷ [])
totals_one_more inner AutoFit ts t h = foldl-append (track_step AutoFit inner) no_tracks ts (t ∷ [])

-- the first tracks by their places in the tables
take-tracks : (minimums maximums : List ℕ) (place k n : ℕ) → k ≤ n → take k (tracks_from minimums maximums place n) ≡ tracks_from minimums maximums place k
unfolding tracks_from
take-tracks minimums maximums place zero n h = refl
take-tracks minimums maximums place (suc k) zero h = absurd (never k h)
  where
    never : (k : ℕ) → suc k ≤ 0 → ⊥
    never k h = omega arith
take-tracks minimums maximums place (suc k) (suc n) h =
    let l : k ≤ n = omega arith in
    ap (λ (ts : List MinMax). track_at minimums maximums place ∷ ts) (take-tracks minimums maximums (suc place) k n l)

-- no more steps are inside a component than it has tracks
few-steps : (count : RepetitionCount) (n : ℕ) → steps_inside count n ≤ n
few-steps Single n = omega arith
few-steps (Count times) n = omega arith
few-steps AutoFill n = omega arith
few-steps AutoFit n = omega arith

-- a component cut by its place in the tables
module _ (k : ℕ) (c : GridTemplateComponent) where
  abbrev steps : ℕ
  steps = steps_inside c.count c.length

  abbrev shorter : GridTemplateComponent
  shorter = record { count = c.count; first = c.first; length = k }

  -- it has k of its tracks, or all
  cut-either : (P : GridTemplateComponent → Type 0) → (k < steps → P shorter) → (steps ≤ k → P c) → P (cut_after k c)
  cut-either P f g = go (ltb k steps) refl
    where
      go : (t : Bool) → ltb k steps ≡ t → P (cond t shorter c)
      go true e = f (ltb-true k steps e)
      go false e = g (ltb-false k steps e)

  -- a single has no steps inside
  no-single : k < 0 → ⊥
  no-single h = omega arith

  -- its tracks are those of the component of the template cut
  short-tracks : (minimums maximums : List ℕ) (count : RepetitionCount) → k < steps_inside count c.length
      → tracks_from minimums maximums c.first k ≡ first_tracks k count (tracks_from minimums maximums c.first c.length)
  short-tracks minimums maximums Single h = absurd (no-single h)
  short-tracks minimums maximums (Count n) h = let l : k ≤ c.length = omega arith in sym (take-tracks minimums maximums c.first k c.length l)
  short-tracks minimums maximums AutoFill h = let l : k ≤ c.length = omega arith in sym (take-tracks minimums maximums c.first k c.length l)
  short-tracks minimums maximums AutoFit h = let l : k ≤ c.length = omega arith in sym (take-tracks minimums maximums c.first k c.length l)

  pub cut-tracks : (minimums maximums : List ℕ) → with_tracks minimums maximums (cut_after k c) ≡ cut k (with_tracks minimums maximums c)
  cut-tracks minimums maximums = cut-either (λ d. with_tracks minimums maximums d ≡ cut k (with_tracks minimums maximums c)) short whole
    where
      short : k < steps → with_tracks minimums maximums shorter ≡ cut k (with_tracks minimums maximums c)
      short h = rw (short-tracks minimums maximums c.count h)

      whole : steps ≤ k → with_tracks minimums maximums c ≡ cut k (with_tracks minimums maximums c)
      whole h =
          let ts = tracks_from minimums maximums c.first c.length in
          let l : steps_inside c.count (length ts) ≤ k = rw (length-tracks minimums maximums c.first c.length) h in
          rw (all-tracks k c.count ts l)

  -- its steps, and what k leaves after them
  short-steps : (count : RepetitionCount) (n : ℕ) → k < steps_inside count n → steps_inside count k ≡ k
  short-steps Single n h = absurd (no-single h)
  short-steps (Count times) n h = refl
  short-steps AutoFill n h = refl
  short-steps AutoFit n h = refl

  pub cut-steps : (steps_inside (cut_after k c).count (cut_after k c).length ≤ k) × (k - steps_inside (cut_after k c).count (cut_after k c).length ≡ k - steps)
  cut-steps = cut-either (λ d. (steps_inside d.count d.length ≤ k) × (k - steps_inside d.count d.length ≡ k - steps)) short (λ h. (h, refl))
    where
      short : k < steps → (steps_inside c.count k ≤ k) × (k - steps_inside c.count k ≡ k - steps)
      short h = rw (short-steps c.count c.length h) (omega arith, omega arith)

  -- it holds the numbers of a word where the component does
  short-counted : (count : RepetitionCount) → k < steps_inside count c.length → CountOfWord count c.length → CountOfWord count k
  short-counted Single h n = absurd (no-single h)
  short-counted (Count times) h n = n
  short-counted AutoFill h n = n
  short-counted AutoFit h n = n

  pub cut-of-word : OfWord c → OfWord (cut_after k c)
  cut-of-word w = cut-either OfWord short (λ h. w)
    where
      short : k < steps → OfWord shorter
      short h = let l : steps ≤ c.length = few-steps c.count c.length in record { counted = short-counted c.count h w.counted; first = w.first; length = omega (arith, w.length) }

-- the steps of a template of so many words
pub most-steps : (words minimums maximums : List ℕ) → ((i : ℕ) → get_or words i 0 < 2 ^ 64) → steps_in (template_of words minimums maximums) ≤ length words * 65536
unfolding template_of steps_in
most-steps [] minimums maximums h = omega arith
most-steps (w ∷ words) minimums maximums h =
    let c = component_of w in
    let n : steps_inside c.count (length (tracks_from minimums maximums c.first c.length)) ≤ c.length =
    rw (length-tracks minimums maximums c.first c.length) (few-steps c.count c.length) in
    let l : c.length ≤ 65535 = (of_word w (h 0)).length in
    let rest : steps_in (template_of words minimums maximums) ≤ length words * 65536 = most-steps words minimums maximums (λ i. h (suc i)) in
    omega arith
