-- What is asked for and answered is what the rule comes to. Assumes nothing.
use mathlib.Core.Path.{◌≡◌, refl, ◌∙◌, ap, ap₂}
use mathlib.Core.Bool.{Bool, true, false, cond, ◌||◌}
use mathlib.Core.List.{List, ◌++◌}
use Prim.Native.Nat.{ℕ, zero, suc, pred, ◌+◌, ◌≤◌, max, min}
use lib.IntN.{ℤ, pos, negsuc, ◌+ℤ◌, ◌-ℤ◌}
use Rattle.coordinates.specs.Lines.{held, outside, to_origin_zero, to_grid_line}
use Rattle.coordinates.specs.Refusals.{no_refusal}
use Rattle.name_rules.specs.Css.{Bytes, Side, start, end, suffix, Placement, auto, line, named, span, nspan, Resolved, at_line}
use Rattle.name_rules.specs.Rule.{Seek, at, left, seek, settle, up_from, marks, or_first, found, forwards, backwards, span_counted}
use Rattle.name_rules.specs.Rule.{line_at, numbered, beside, resolved, resolve, line_held, beside_held, mark_of, held_ends}
use Rattle.name_lines.specs.Areas.{side_of}
use Rattle.name_lines.specs.Suffixes.{side_edge}
use Rattle.name_lines.specs.Marks.{back}
use Rattle.name_lines.specs.declared.GridAreaEnd.{GridAreaEnd}
use Rattle.name_lines.specs.declared.GridAreaEnd.TheVariants as Placed
use Rattle.name_resolver.specs.Counts.{first_line, found_line}
use Rattle.name_resolver.specs.Placements.{grid_line_of, name_of, placement_of, answer_of, ends_of, held_answer}
use Rattle.name_resolver.specs.Steps.{end_on_line, found_end, is_named_span, line_of_end, start_beside, end_beside, first_end, second_end, both_ends, resolved_ends_in}
use Rattle.name_resolver.specs.Steps.{question_ahead, question_back, named_question, span_question_from, span_question, placement_question, question_of}
use Rattle.name_resolver.specs.Questions.{edge_found, or_else, found_by, answered, answered_line}
use Rattle.name_resolver.specs.declared.Name.{Name}
use Rattle.name_resolver.specs.declared.End.{End}
use Rattle.name_resolver.specs.Types.{WrittenLine, ResolvedEnd}
use Rattle.name_resolver.specs.Placements.{Resolution}
use Rattle.name_resolver.specs.declared.GridPlacement.{GridPlacement}
use Rattle.name_resolver.specs.declared.GridPlacement.TheVariants as Written
use Rattle.name_resolver.proofs.Integers.{grid_line_answer_lem, origin_zero_answer_lem, conversion_mark}
use Rattle.name_resolver.proofs.Finding.{forwards_first, backwards-line}
use Rattle.std.specs.Prelude.{None}

-- the edge of an area at a side
edge-found : (explicit : ℕ) (names : Bytes → ℕ → Bool) (nm : Bytes) (s : Side)
    → edge_found names nm (side_edge s) ≡ seek (marks explicit names (nm ++ suffix s)) 20000 0 0
edge-found explicit names nm start = refl
edge-found explicit names nm end = refl

-- the line and the mark of an end that was resolved beside no line
line_of_answer : (explicit : ℕ) (names : Bytes → ℕ → Bool) (s : Side) (p : Placement)
    → (line_of_end (answer_of (resolved explicit names s (pos 0) p))).0 ≡ line_at p
line_of_answer explicit names s auto = refl
line_of_answer explicit names s (line g) = refl
line_of_answer explicit names s (named nm i) = refl
line_of_answer explicit names s (span n) = refl
line_of_answer explicit names s (nspan nm n) = refl

mark_of_line : (explicit : ℕ) (names : Bytes → ℕ → Bool) (s : Side) (p : Placement) → mark_of explicit names s (pos 0) false p ≡ line_held explicit names s p
mark_of_line explicit names s auto = refl
mark_of_line explicit names s (line g) = refl
mark_of_line explicit names s (named nm i) = refl
mark_of_line explicit names s (span n) = refl
mark_of_line explicit names s (nspan nm n) = refl

-- an answer to both ends is no refusal, whichever comes first
pub answered-accepted : (names : Bytes → ℕ → Bool) (bytes : List ℕ) (explicit : ℕ) (l : WrittenLine) → (answered_line names bytes explicit l).refusal ≡ no_refusal
unfolding answered_line resolved_ends_in
answered-accepted names bytes explicit l = go (is_named_span l.start) _ _
  where
    go : (b : Bool) (f s : ResolvedEnd) → (cond b (both_ends s f) (both_ends f s)).refusal ≡ no_refusal
    go true f s = refl
    go false f s = refl

-- an end with its mark
abbrev end_of : Resolved → Bool → ResolvedEnd
end_of r h = record { value = answer_of r; held = h }

module _ (names : Bytes → ℕ → Bool) (bytes : List ℕ) (explicit : ℕ) (h : explicit ≤ 10000) where
  -- an end on a line that is held here, or before
  abbrev held_end : Bool → ℤ → ResolvedEnd
  held_end m z = end_of (at_line (to_grid_line explicit (held z))) (m || outside z)

  on_line : (m : Bool) (z : ℤ) → end_on_line explicit m z ≡ held_end m z
  on_line m z = rw (grid_line_answer_lem explicit z h)

  -- a count on from a line
  ahead : (name : Name) (first : ℤ) (over : ℕ) (m : Bool) → answered names bytes explicit (question_ahead name None first over m)
      ≡ held_end m (forwards explicit (marks explicit names (name_of bytes name)) first over)
  unfolding found_end found_by
  ahead name first over m =
      on_line m (pos (up_from explicit (marks explicit names (name_of bytes name)) (first_line first) over))
      ∙ ap (held_end m) (forwards_first explicit (marks explicit names (name_of bytes name)) first over)

  -- a count back from a line
  backward : (name : Name) (last : ℤ) (over : ℕ) (m : Bool) → answered names bytes explicit (question_back explicit name last over m)
      ≡ held_end m (backwards explicit (marks explicit names (name_of bytes name)) last over)
  unfolding found_end found_by
  backward name (pos l) over m =
      on_line m (found_line (back (marks explicit names (name_of bytes name)) 0 (min (suc (min l explicit)) 20000) over))
      ∙ ap (held_end m) (backwards-line explicit (marks explicit names (name_of bytes name)) l over h)
  backward name (negsuc k) over m = on_line m (negsuc (k + over))

  -- an edge that is found, else the first line of the name
  edge-or-first : (nm : Bytes) (k : Seek) → end_on_line explicit false (pos (settle (max 0 (suc explicit)) (or_else k (seek (marks explicit names nm) 20000 0 0))))
      ≡ held_end false (or_first explicit names nm k)
  edge-or-first nm (at l) = on_line false (pos l)
  edge-or-first nm (left r) = on_line false (pos (settle (max 0 (suc explicit)) (seek (marks explicit names nm) 20000 0 0)))

  -- a name with an index
  named-answer : (name : Name) (i : ℤ) (s : Side) → answered names bytes explicit (named_question explicit name i s)
      ≡ held_end false (found explicit names (name_of bytes name) s i)
  unfolding found_end found_by
  named-answer name (pos zero) s = rw (edge-found explicit names (name_of bytes name) s) (edge-or-first (name_of bytes name) (seek (marks explicit names (name_of bytes name ++ suffix s)) 20000 0 0))
  named-answer name (pos (suc i)) s = ahead name (pos 0) i false
  named-answer name (negsuc i) s = backward name (pos explicit) i false

  -- a span of a name beside a line, and beside a grid line
  span-from : (name : Name) (n : ℕ) (s : Side) (o : ℤ) (m : Bool) → answered names bytes explicit (span_question_from explicit name n s o m)
      ≡ held_end m (span_counted explicit names s (name_of bytes name) n o)
  span-from name n start o m = backward name (o -ℤ pos 1) (pred n) m
  span-from name n end o m = ahead name (o +ℤ pos 1) (pred n) m

  span-answer : (name : Name) (n : ℕ) (s : Side) (g : ℤ) (m : Bool) → answered names bytes explicit (span_question explicit name n s g m)
      ≡ end_of (beside explicit names g (span_counted explicit names s (name_of bytes name) n)) (beside_held explicit names g m (span_counted explicit names s (name_of bytes name) n))
  span-answer name n s (pos zero) m = refl
  span-answer name n s (pos (suc g)) m = rw (origin_zero_answer_lem explicit (pos (suc g)) h refl) (span-from name n s (to_origin_zero explicit (pos (suc g))) m)
  span-answer name n s (negsuc g) m = rw (origin_zero_answer_lem explicit (negsuc g) h refl) (span-from name n s (to_origin_zero explicit (negsuc g)) m)

  -- what an end beside a grid line, held or not, is resolved to, with its mark
  abbrev beside_line : Side → ℤ → Bool → Placement → ResolvedEnd
  beside_line s g m p = end_of (resolved explicit names s g (numbered explicit names s p)) (mark_of explicit names s g m p)

  -- any end
  placement-answer : (s : Side) (g : ℤ) (m : Bool) (p : GridPlacement) → answered names bytes explicit (placement_question explicit s g m p)
      ≡ beside_line s g m (placement_of bytes p)
  placement-answer s g m Written.Auto = refl
  placement-answer s g m (Written.Line written) = ap (end_of (at_line written.0)) (conversion_mark explicit written.0 h)
  placement-answer s g m (Written.NamedLine name i) = named-answer name i s
  placement-answer s g m (Written.Span n) = refl
  placement-answer s g m (Written.NamedSpan name n) = span-answer name n s g m

  pub end-answer : (e : End) → answered names bytes explicit (question_of explicit e)
      ≡ beside_line (side_of e.side) e.beside.value.0 e.beside.held (placement_of bytes e.placement)
  unfolding question_of
  end-answer e = placement-answer (side_of e.side) e.beside.value.0 e.beside.held e.placement

  -- an end beside one that was resolved beside no line
  beside-answer : (p : GridPlacement) (side : GridAreaEnd) (s : Side) (q : Placement) (f : ResolvedEnd) → f ≡ beside_line s (pos 0) false q
      → answered names bytes explicit (question_of explicit (record { placement = p; side = side; beside = record { value = line_of_end f.value; held = f.held } }))
      ≡ beside_line (side_of side) (line_at (numbered explicit names s q)) (line_held explicit names s q) (placement_of bytes p)
  beside-answer p side s q f e =
      end-answer (record { placement = p; side = side; beside = record { value = line_of_end f.value; held = f.held } })
      ∙ ap₂ (λ (g : ℤ) (m : Bool). beside_line (side_of side) g m (placement_of bytes p))
      (ap (λ (r : ResolvedEnd). (line_of_end r.value).0) e ∙ line_of_answer explicit names s (numbered explicit names s q))
      (ap (λ (r : ResolvedEnd). r.held) e ∙ mark_of_line explicit names s q)

  both : (a b c d : ResolvedEnd) → a ≡ c → b ≡ d → both_ends a b ≡ both_ends c d
  both a b c d e f = rw (e, f)

  -- what the rule comes to for both ends
  abbrev ruled : Placement → Placement → Resolution
  ruled p q = record { refusal = no_refusal; line = ends_of (resolve explicit names p q); held = held_answer (held_ends explicit names p q) }

  -- the start first
  start_first : (l : WrittenLine) → beside_line start (pos 0) false (placement_of bytes l.start)
      ≡ beside_line start (line_at (numbered explicit names end (placement_of bytes l.end))) (line_held explicit names end (placement_of bytes l.end)) (placement_of bytes l.start)
      → (let f = answered names bytes explicit (question_of explicit (start_beside l (grid_line_of (pos 0)) false)) in
      both_ends f (answered names bytes explicit (question_of explicit (end_beside l (line_of_end f.value) f.held))))
      ≡ ruled (placement_of bytes l.start) (placement_of bytes l.end)
  start_first l q =
      let e = end-answer (start_beside l (grid_line_of (pos 0)) false) in
      both _ _ _ _ (e ∙ q) (beside-answer l.end Placed.End start (placement_of bytes l.start) _ e)

  -- the end first
  end_first : (q : GridPlacement) (name : Name) (n : ℕ) → let l : WrittenLine = record { start = Written.NamedSpan name n; end = q } in
      (let f = answered names bytes explicit (question_of explicit (end_beside l (grid_line_of (pos 0)) false)) in
      both_ends (answered names bytes explicit (question_of explicit (start_beside l (line_of_end f.value) f.held))) f)
      ≡ ruled (placement_of bytes l.start) (placement_of bytes l.end)
  end_first q name n =
      let l : WrittenLine = record { start = Written.NamedSpan name n; end = q } in
      let e = end-answer (end_beside l (grid_line_of (pos 0)) false) in
      both _ _ _ _ (beside-answer l.start Placed.Start end (placement_of bytes q) _ e) e

  ends-answer : (p q : GridPlacement) → answered_line names bytes explicit (record { start = p; end = q }) ≡ ruled (placement_of bytes p) (placement_of bytes q)
  unfolding answered_line first_end second_end resolved_ends_in
  ends-answer Written.Auto q = start_first (record { start = Written.Auto; end = q }) refl
  ends-answer (Written.Line g) q = start_first (record { start = Written.Line g; end = q }) refl
  ends-answer (Written.NamedLine name i) q = start_first (record { start = Written.NamedLine name i; end = q }) refl
  ends-answer (Written.Span n) q = start_first (record { start = Written.Span n; end = q }) refl
  ends-answer (Written.NamedSpan name n) q = end_first q name n

  -- both ends of a placement
  pub line-answer : (l : WrittenLine) → answered_line names bytes explicit l
      ≡ record {
        refusal = no_refusal;
        line = ends_of (resolve explicit names (placement_of bytes l.start) (placement_of bytes l.end));
        held = held_answer (held_ends explicit names (placement_of bytes l.start) (placement_of bytes l.end));
      }
  line-answer l = ends-answer l.start l.end
