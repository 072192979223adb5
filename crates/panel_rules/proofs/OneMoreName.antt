-- One more accepted entry call after any run moves little. Assumes nothing.
use Prim.Native.Nat.{ℕ, ◌<◌}
use mathlib.Core.Path.{◌≡◌, refl, sym, ap, ap₂, ◌∙◌}
use mathlib.Core.Logic.{⊎_elim}
use mathlib.Core.Bool.{Bool, true, false, cond}
use mathlib.Core.List.Memᴰ
use mathlib.Core.List.{List, [], ◌∷◌, ◌++◌, Memᴰ, append_assoc}
use native.Mathlib.Omega.{arith}
use lib.Dec.{ltb}
use lib.ListN.{length}
use borrow.Author.Tests.{lt-ltb, eq-eqb}
use Rattle.coordinates.specs.declared.axis.Axis.{Axis}
use Rattle.coordinates.specs.declared.axis.Axis.TheVariants.{Column, Row}
use Rattle.coordinates.specs.Refusals.{Refusal, count}
use Rattle.name_rules.specs.Css.{Entry, AxisNames, ResolvedEnds}
use Rattle.name_rules.specs.OneMore.{OneMoreEntry}
use Rattle.name_rules.specs.CssMarks.{HeldEnds}
use Rattle.name_rules.specs.Rule.{named?, resolve, held_ends}
use Rattle.name_rules.proofs.OneMore.{moves-little}
use Rattle.name_resolver.specs.Placements.{resolved_ends}
use Rattle.name_resolver.proofs.Theorems.{ends_back}
use Rattle.panel_tables.specs.View.{Placement, PanelView}
use Rattle.sheet_rules.specs.Sheet.{entries_of, sheet_of}
use Rattle.sheet_rules.specs.Panels.{Tables}
use Rattle.panel_rules.specs.Placing.{PlacementAnswer}
use Rattle.panel_rules.specs.Placing.{refused_placement}
use Rattle.panel_rules.specs.Runs.{Call, Accepted, run_of, placement_of}
use Rattle.panel_rules.specs.Views.{names_after, css_end, placement_at, answer_at, placement_after}
use Rattle.panel_rules.specs.Book.{same_axis}
use Rattle.panel_rules.specs.Added.{sheet_axis, added, call_entry, refusal_after}
use Rattle.panel_rules.specs.OneMoreName.{names_at, with_call, Unused, elsewhere, unnamed, OneMoreCall, AnswersIndexes, OneMoreName}
use Rattle.panel_rules.proofs.AxisEntry.{table_accepted}
use Rattle.panel_rules.proofs.Sheets.{accepted_sheet}
use Rattle.panel_rules.proofs.Held.{added-last, run_refusal_lem}
use Rattle.panel_rules.proofs.Runs.{few-tracks, run-sizes, run-records, run-placements, run-filled}

-- two axes are one
same_axis_lem : (a b : Axis) → same_axis a b ≡ true → a ≡ b
same_axis_lem Column Column e = refl
same_axis_lem Column Row e = let z : ◌≡◌ {A = ℕ} 0 1 = cc in absurd (omega arith)
same_axis_lem Row Column e = let z : ◌≡◌ {A = ℕ} 0 1 = cc in absurd (omega arith)
same_axis_lem Row Row e = refl

own_axis : (a : Axis) → same_axis a a ≡ true
own_axis Column = refl
own_axis Row = refl

-- an element put last, in place of first
module _ {A : Type 0} (e : A) where
  last-first : (l m : List A) (a : A) → Memᴰ a (l ++ (m ++ (e ∷ []))) → Memᴰ a (e ∷ (l ++ m))
  last-first l m a h =
      ⊎_elim (λ (u : Memᴰ a (l ++ m)). Memᴰ.tail u)
      (λ (u : Memᴰ a (e ∷ [])). ⊎_elim (λ (v : a ≡ e). Memᴰ.head v) (λ v. absurd (Memᴰ.not-nil v)) (Memᴰ.cases_cons u))
      (Memᴰ.append_cases (l ++ m) (rw (← (append_assoc l m (e ∷ []))) at h))

  first-last : (l m : List A) (a : A) → Memᴰ a (e ∷ (l ++ m)) → Memᴰ a (l ++ (m ++ (e ∷ [])))
  first-last l m a h =
      rw (← (append_assoc l m (e ∷ [])))
      (⊎_elim (λ (u : a ≡ e). Memᴰ.append_right (l ++ m) (Memᴰ.head u)) (λ u. Memᴰ.append_left (e ∷ []) u) (Memᴰ.cases_cons h))

-- what a placement of two ends is answered, by what it is resolved to
abbrev answered : PanelView → ℕ → ResolvedEnds → HeldEnds → PlacementAnswer
answered v i r h = cond (ltb i (length v.placements)) (answer_at (placement_at v i) r h) (refused_placement count)

module _ (v : PanelView) (i : ℕ) where
  abbrev p : Placement
  p = placement_at v i

  abbrev resolved_over : AxisNames → ResolvedEnds
  resolved_over x = resolve x.explicit (named? x) (css_end p.start) (css_end p.end)

  abbrev marked_over : AxisNames → HeldEnds
  marked_over x = held_ends x.explicit (named? x) (css_end p.start) (css_end p.end)

  by_names : (es : Axis → List Entry)
      → placement_after v es i ≡ answered v i (resolved_over (names_after v p.axis (es p.axis))) (marked_over (names_after v p.axis (es p.axis)))
  unfolding placement_after
  by_names es = refl

-- the answers for a name with an index
module _ (s : List ℕ) (t : Tables) (calls : List Call) (ok : Accepted s t) where
  ends_of_lem : (i : ℕ) → i < length (sheet_of s).view.placements
      → resolved_ends (placement_of (run_of s t calls) i).line ≡ resolved_over (sheet_of s).view i (names_at s calls (placement_at (sheet_of s).view i).axis)
  ends_of_lem i h =
      ap (λ (r : PlacementAnswer). resolved_ends r.line) (run-placements s t calls ok i ∙ by_names (sheet_of s).view i (λ a. added s a calls))
      ∙ rw (lt-ltb i (length (sheet_of s).view.placements) h) (ends_back _)

  answers-indexes : AnswersIndexes s t calls
  answers-indexes =
      record {
        starts = λ i nm k h e. ap (λ (r : ResolvedEnds). r.first) (ends_of_lem i h) ∙ rw e refl;
        ends = λ i nm k h e. ap (λ (r : ResolvedEnds). r.last) (ends_of_lem i h) ∙ rw e refl;
      }

module _ (s : List ℕ) (t : Tables) (calls : List Call) (c : Call) (more : OneMoreCall s t calls c) where
  good : (sheet_of s).fault ≡ 0
  good = (accepted_sheet s t more.sheet).0

  -- the table refuses nothing
  free : refusal_after (sheet_axis s c.axis) (added s c.axis calls) c ≡ 0
  free = ap (λ (r : Refusal). r.number) (sym (run_refusal_lem s t calls c more.sheet) ∙ more.call)

  -- the entries of the call's axis have one more, those of the other are the same
  entries-more : added s c.axis (with_call calls c) ≡ added s c.axis calls ++ (call_entry c ∷ [])
  entries-more = added-last s c.axis calls c ∙ rw (own_axis c.axis, eq-eqb _ 0 free) refl

  entries-else : (a : Axis) → same_axis a c.axis ≡ false → added s a (with_call calls c) ≡ added s a calls
  entries-else a e = added-last s a calls c ∙ rw e refl

  names_more : OneMoreEntry (names_at s calls c.axis) (names_at s (with_call calls c) c.axis) (call_entry c)
  names_more =
      record {
        explicit = refl;
        areas = λ a. (λ m. m, λ m. m);
        entries = λ d. (
          λ m. last-first (call_entry c) (entries_of (sheet_axis s c.axis)) (added s c.axis calls) d (rw entries-more at m),
          λ m. rw entries-more (first-last (call_entry c) (entries_of (sheet_axis s c.axis)) (added s c.axis calls) d m),
        );
        first = (table_accepted _ _ c.line c.name free).from;
        last = more.explicit;
      }

  others_same : (i : ℕ) → Unused c (placement_at (sheet_of s).view i)
      → (resolved_over (sheet_of s).view i (names_at s (with_call calls c) (placement_at (sheet_of s).view i).axis)
      ≡ resolved_over (sheet_of s).view i (names_at s calls (placement_at (sheet_of s).view i).axis))
      × (marked_over (sheet_of s).view i (names_at s (with_call calls c) (placement_at (sheet_of s).view i).axis)
      ≡ marked_over (sheet_of s).view i (names_at s calls (placement_at (sheet_of s).view i).axis))
  others_same i u = go (same_axis (placement_at (sheet_of s).view i).axis c.axis) refl u
    where
      go : (b : Bool) → same_axis (placement_at (sheet_of s).view i).axis c.axis ≡ b → Unused c (placement_at (sheet_of s).view i)
          → (resolved_over (sheet_of s).view i (names_at s (with_call calls c) (placement_at (sheet_of s).view i).axis) ≡ resolved_over (sheet_of s).view i (names_at s calls (placement_at (sheet_of s).view i).axis))
          × (marked_over (sheet_of s).view i (names_at s (with_call calls c) (placement_at (sheet_of s).view i).axis) ≡ marked_over (sheet_of s).view i (names_at s calls (placement_at (sheet_of s).view i).axis))
      go false e w = (
        ap (λ (es : List Entry). resolved_over (sheet_of s).view i (names_after (sheet_of s).view (placement_at (sheet_of s).view i).axis es)) (entries-else (placement_at (sheet_of s).view i).axis e),
        ap (λ (es : List Entry). marked_over (sheet_of s).view i (names_after (sheet_of s).view (placement_at (sheet_of s).view i).axis es)) (entries-else (placement_at (sheet_of s).view i).axis e),
      )
      go true e (elsewhere w) = absurd (w (same_axis_lem (placement_at (sheet_of s).view i).axis c.axis e))
      go true e (unnamed f l) =
          let h : (placement_at (sheet_of s).view i).axis ≡ c.axis = same_axis_lem (placement_at (sheet_of s).view i).axis c.axis e in
          rw h
          ((moves-little (names_at s calls c.axis) (names_at s (with_call calls c) c.axis) (call_entry c) names_more (few-tracks s good c.axis)
          ).others (css_end (placement_at (sheet_of s).view i).start) (css_end (placement_at (sheet_of s).view i).end) f l)

  placement-same : (i : ℕ) → Unused c (placement_at (sheet_of s).view i) → placement_of (run_of s t (with_call calls c)) i ≡ placement_of (run_of s t calls) i
  placement-same i u =
      run-placements s t (with_call calls c) more.sheet i
      ∙ by_names (sheet_of s).view i (λ a. added s a (with_call calls c))
      ∙ ap₂ (answered (sheet_of s).view i) (others_same i u).0 (others_same i u).1
      ∙ sym (by_names (sheet_of s).view i (λ a. added s a calls))
      ∙ sym (run-placements s t calls more.sheet i)

  -- document 02, request 13
  pub one-more-name : OneMoreName s t calls c
  one-more-name =
      record {
        answers = answers-indexes s t calls more.sheet;
        answers_more = answers-indexes s t (with_call calls c) more.sheet;
        moves = moves-little (names_at s calls c.axis) (names_at s (with_call calls c) c.axis) (call_entry c) names_more (few-tracks s good c.axis);
        others = placement-same;
        sizes = λ a. run-sizes s t (with_call calls c) more.sheet a ∙ sym (run-sizes s t calls more.sheet a);
        records = λ a items i. run-records s t (with_call calls c) more.sheet a items i ∙ sym (run-records s t calls more.sheet a items i);
        lent = λ a items run. run-filled s t (with_call calls c) more.sheet a items run ∙ sym (run-filled s t calls more.sheet a items run);
      }
