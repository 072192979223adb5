-- What the resolver answers is what CSS counts to, and the order of the entries plays no part. Assumes nothing.
use mathlib.Core.Path.{◌≡◌, refl, ◌∙◌, ap, ap₂}
use mathlib.Core.Bool.{cond}
use mathlib.Core.List.{List}
use Prim.Native.Nat.{ℕ, ◌≤◌, ◌<◌}
use borrow.Author.Tests.{le-leb, lt-leb}
use lib.Dec.{leb}
use Rattle.coordinates.specs.Refusals.{no_refusal}
use Rattle.name_rules.specs.Css.{start, end, AxisNames, Placement, Resolved, free, at_line, spanning, ResolvedEnds, CssEnds}
use Rattle.name_rules.specs.CssMarks.{HeldEnds, CssMarks}
use Rattle.name_rules.specs.Conditions.{UsedNamesLie, SameNames, AgreeOn}
use Rattle.name_rules.specs.Rule.{named?, resolve, held_ends}
use Rattle.name_rules.proofs.Resolve.{resolve-css}
use Rattle.name_rules.proofs.Order.{resolve_same, resolve-agrees-on, marks-same, held-agrees-on}
use Rattle.name_rules.proofs.Unique.{ends_unique}
use Rattle.name_rules.proofs.Held.{marks-css, marks_unique}
use Rattle.name_resolver.specs.Placements.{placement_of, resolved_of, answer_of, ends_of, held_answer, held_marks, resolved_ends, resolved_line, held_line, refused_resolution, resolution_of}
use Rattle.name_resolver.specs.Types.{WrittenLine}
use Rattle.name_resolver.specs.Placements.{Resolution, answered_resolution, zero_line, no_marks}
use Rattle.coordinates.specs.declared.refusal.Fault.{Fault}
use Rattle.std.specs.Prelude.{Err}

-- a resolved end says what it was made of
resolved_back : (r : Resolved) → resolved_of (answer_of r) ≡ r
resolved_back free = refl
resolved_back (at_line g) = refl
resolved_back (spanning k) = refl

pub ends_back : (r : ResolvedEnds) → resolved_ends (ends_of r) ≡ r
ends_back r = rw (resolved_back r.first, resolved_back r.last)

-- a refusal has the zero value and no mark beside it
pub refused-zeros : (fault : Fault) → ((answered_resolution (Err fault)).line ≡ zero_line) × ((answered_resolution (Err fault)).held ≡ no_marks)
refused-zeros fault = (refl, refl)

module _ (x : AxisNames) (names : List ℕ) (l : WrittenLine) where
  -- at most 10,000 explicit tracks: nothing is refused
  pub resolution-accepted : x.explicit ≤ 10000 → resolution_of x names l ≡ record { refusal = no_refusal; line = resolved_line x names l; held = held_line x names l }
  unfolding resolution_of
  resolution-accepted h = rw (le-leb x.explicit 10000 h)

  -- more: 4, line 0, the zero value, and no mark
  pub resolution-refused : 10000 < x.explicit → resolution_of x names l ≡ refused_resolution
  unfolding resolution_of
  resolution-refused h = rw (lt-leb x.explicit 10000 h)

  -- (a) where the lines of the names that the placement uses are explicit and no end writes line 0, the answer is what CSS counts to
  pub resolve-line-names-css : x.explicit ≤ 10000 → UsedNamesLie x start (placement_of names l.start) → UsedNamesLie x end (placement_of names l.end)
      → CssEnds x (placement_of names l.start) (placement_of names l.end) (resolved_ends (resolution_of x names l).line)
  resolve-line-names-css h p q =
      rw (resolution-accepted h, ends_back (resolve x.explicit (named? x) (placement_of names l.start) (placement_of names l.end)))
      (resolve-css x h (placement_of names l.start) (placement_of names l.end) p q)

  -- and CSS counts to nothing else
  pub resolve-line-names-only : x.explicit ≤ 10000 → UsedNamesLie x start (placement_of names l.start) → UsedNamesLie x end (placement_of names l.end)
      → (t : ResolvedEnds) → CssEnds x (placement_of names l.start) (placement_of names l.end) t → resolved_ends (resolution_of x names l).line ≡ t
  resolve-line-names-only h p q t c =
      ends_unique x (placement_of names l.start) (placement_of names l.end) (resolved_ends (resolution_of x names l).line) t (resolve-line-names-css h p q) c

  -- and its marks are those of CSS's counting, which has no others
  pub resolve-line-names-marks : x.explicit ≤ 10000 → UsedNamesLie x start (placement_of names l.start) → UsedNamesLie x end (placement_of names l.end)
      → CssMarks x (placement_of names l.start) (placement_of names l.end) (held_marks (resolution_of x names l).held)
  resolve-line-names-marks h p q = rw (resolution-accepted h) (marks-css x h (placement_of names l.start) (placement_of names l.end) p q)

  pub resolve-line-names-marked : x.explicit ≤ 10000 → UsedNamesLie x start (placement_of names l.start) → UsedNamesLie x end (placement_of names l.end)
      → (t : HeldEnds) → CssMarks x (placement_of names l.start) (placement_of names l.end) t → held_marks (resolution_of x names l).held ≡ t
  resolve-line-names-marked h p q t c =
      marks_unique x (placement_of names l.start) (placement_of names l.end) (held_marks (resolution_of x names l).held) t (resolve-line-names-marks h p q) c

-- the answer, from what the rule comes to
abbrev answer : ℕ → ResolvedEnds → HeldEnds → Resolution
answer n r h = cond (leb n 10000) (record { refusal = no_refusal; line = ends_of r; held = held_answer h }) refused_resolution

-- (b) the same entries and areas in any order, and any number of times, are resolved alike
pub resolve_line_names_same : (x y : AxisNames) (names : List ℕ) (l : WrittenLine) → SameNames x y → resolution_of x names l ≡ resolution_of y names l
unfolding resolution_of
resolve_line_names_same x y names l s =
    let p : Placement = placement_of names l.start in
    let q : Placement = placement_of names l.end in
    ap (λ (n : ℕ). answer n (resolve x.explicit (named? x) p q) (held_ends x.explicit (named? x) p q)) s.explicit
    ∙ ap₂ (answer y.explicit) (resolve_same x y s p q) (marks-same x y s p q)

-- only which lines bear the names that the placement uses counts
pub resolve_line_names_agrees : (x y : AxisNames) (names : List ℕ) (l : WrittenLine) → x.explicit ≡ y.explicit
    → AgreeOn (named? x) (named? y) start (placement_of names l.start) → AgreeOn (named? x) (named? y) end (placement_of names l.end)
    → resolution_of x names l ≡ resolution_of y names l
unfolding resolution_of
resolve_line_names_agrees x y names l e f g =
    let p : Placement = placement_of names l.start in
    let q : Placement = placement_of names l.end in
    ap₂ (answer x.explicit) (resolve-agrees-on x.explicit (named? x) (named? y) p q f g) (held-agrees-on x.explicit (named? x) (named? y) p q f g)
    ∙ ap (λ (n : ℕ). answer n (resolve n (named? y) p q) (held_ends n (named? y) p q)) e
