use Rattle.std.specs.Prelude.{Option}
use Prim.Native.Nat.{ℕ, ◌+◌, ◌-◌}
use mathlib.Core.Path.{◌≡◌, refl, sym, ap, ◌∙◌}
use mathlib.Core.List.{List}
use native.Mathlib.Omega.{arith}
use lib.ListN.{length, take, drop, length-take, length-drop}
use lib.Seq.{take_all}
use Rattle.text.specs.Split.{split}
use Rattle.text.proofs.Laws.{find-le, split-more, split-no-more, split-end}
use Rattle.coordinates.specs.declared.refusal.Fault.{Fault}
use Rattle.coordinates.specs.Refusals.{number_of, fault_number}
use Rattle.panel_tables.specs.Written.{PanelHeld, PanelStepped}
use Rattle.sheet_rules.specs.declared.Overlap.{Overlap}
use Rattle.sheet_rules.specs.Answers.{noted, NumberedPair}
use Rattle.sheet_rules.specs.Sheet.{no_overlap}
use Rattle.sheet_faults.specs.Lines.{line_in}
use Rattle.sheet_rules.specs.Contents.{lines_from}
use Rattle.panel_cells.specs.Steps.{area_number_of}
use Rattle.sheet_step.specs.Drafts.{held_of}
use Rattle.sheet.specs.Steps.{line_or_none}
use Rattle.sheet.specs.Runs.{held_run, noted_at, or_else, held_overlap, or_line, held_broken}
use Rattle.sheet.proofs.Steps.{shared-few, run-next, run-stop, run-open, run-last, has_number, noted-after, numbered-after, settled, held-areas, overlap-next, overlap-stop, overlap-last, broken-next, broken-stop, broken-last, none-later, held_note}
use Rattle.sheet.proofs.lines.read_lines.Goals as goal

pub returns-then-end-sheet : goal.returns-then-end-sheet
returns-then-end-sheet c =
    let s = c.args.sheet.now in
    let l = c.loop-at in
    let h : PanelHeld = held_of l.draft in
    let f = c.part_end-end in
    let parts = split-no-more 10 s l.at f.result (omega arith) f.ensures c.if-end-sheet.true in rw c.refused_at.ensures record {
      lines = sym
          (l.invariant.lines
          ∙ ap (λ (ps : List (List ℕ)). held_run l.line ps h) parts
          ∙ run-open l.line (take (f.result - l.at) (drop l.at s)) h (λ z. omega (arith, length-take (f.result - l.at) (drop l.at s), length-drop l.at s)));
      overlap = sym
          (l.invariant.overlap
          ∙ ap (λ (ps : List (List ℕ)). or_else (noted l.overlap) (held_overlap l.line ps h)) parts
          ∙ ap (or_else (noted l.overlap)) (overlap-last l.line (take (f.result - l.at) (drop l.at s)) h)
          ∙ settled l.overlap l.invariant.numbered);
      numbered = l.invariant.numbered;
      picture = sym
          (l.invariant.picture
          ∙ ap (λ (ps : List (List ℕ)). or_line (line_or_none l.broken) (held_broken l.line ps h)) parts
          ∙ ap (or_line (line_or_none l.broken)) (broken-last l.line (take (f.result - l.at) (drop l.at s)) h)
          ∙ none-later (line_or_none l.broken));
      positive = l.invariant.positive;
    }

pub slice_bounds-text-end : goal.slice_bounds-text-end
slice_bounds-text-end c = find-le 10 _ c.loop-at.at c.part_end-end.result (omega arith) c.part_end-end.ensures

pub overlap_at-requires : goal.overlap_at-requires
overlap_at-requires c = rw c.read_line-read.ensures.overlap (shared-few (held_of c.loop-at.draft) _)

pub returns-in-Some : goal.returns-in-Some
returns-in-Some c =
    let s = c.args.sheet.now in
    let l = c.loop-at in
    let h : PanelHeld = held_of l.draft in
    let f = c.part_end-end in
    let k = c.read_line-read in
    let x : PanelStepped = record { fault = number_of c.in-Some.fault; held = held_of k.new.draft } in
    let parts = split-more 10 s l.at f.result (omega arith) f.ensures c.if-end-sheet.false in
    let first = take (f.result - l.at) (drop l.at s) in
    let rest = drop (f.result + 1) s in
    let e : x ≡ line_in h (split 9 first) = ap (λ (o : Option Fault). record { fault = fault_number o; held = held_of k.new.draft }) (sym c.in-Some.is) ∙ k.ensures.read in
    let z = has_number c.in-Some.fault in
    let note : noted c.or-overlap.result ≡ or_else (noted l.overlap) (noted_at (area_number_of k.result.shared) l.draft.panel.grid.areas l.line) =
    noted-after l.overlap c.overlap_at.result l.invariant.numbered c.or-overlap.result c.or-overlap.ensures _ c.overlap_at.ensures.overlap in
    let numbered : NumberedPair c.or-overlap.result = numbered-after l.overlap c.overlap_at.result l.invariant.numbered c.or-overlap.result c.or-overlap.ensures c.overlap_at.ensures.numbered in rw c.refused_at-in-Some.ensures record {
      lines = sym
          (l.invariant.lines
          ∙ ap (λ (ps : List (List ℕ)). held_run l.line ps h) parts
          ∙ run-stop l.line first h 10 rest x e z);
      overlap = sym
          (l.invariant.overlap
          ∙ ap (λ (ps : List (List ℕ)). or_else (noted l.overlap) (held_overlap l.line ps h)) parts
          ∙ overlap-stop l.line first h (noted l.overlap) 10 rest x e (area_number_of k.result.shared) l.draft.panel.grid.areas k.ensures.overlap (held-areas l.draft) z
          ∙ ap (λ (o : Overlap). or_else o no_overlap) (sym note)
          ∙ settled c.or-overlap.result numbered);
      numbered = numbered;
      picture = sym
          (l.invariant.picture
          ∙ ap (λ (ps : List (List ℕ)). or_line (line_or_none l.broken) (held_broken l.line ps h)) parts
          ∙ broken-stop l.line first h (line_or_none l.broken) 10 rest x e z);
      positive = l.invariant.positive;
    }

pub loop-at-preserved : goal.loop-at-preserved
loop-at-preserved c =
    let s = c.args.sheet.now in
    let l = c.loop-at in
    let h : PanelHeld = held_of l.draft in
    let f = c.part_end-end in
    let k = c.read_line-read in
    let x : PanelStepped = record { fault = 0; held = held_of k.new.draft } in
    let parts = split-more 10 s l.at f.result (omega arith) f.ensures c.if-end-sheet.false in
    let first = take (f.result - l.at) (drop l.at s) in
    let rest = drop (f.result + 1) s in
    let tail : take (length s - (f.result + 1)) rest ≡ rest = take_all (length s - (f.result + 1)) rest (omega (arith, length-drop (f.result + 1) s)) in
    let e : x ≡ line_in h (split 9 first) = ap (λ (o : Option Fault). record { fault = fault_number o; held = held_of k.new.draft }) (sym c.in_default.is) ∙ k.ensures.read in
    let note : noted c.or-overlap.result ≡ or_else (noted l.overlap) (noted_at (area_number_of k.result.shared) l.draft.panel.grid.areas l.line) =
    noted-after l.overlap c.overlap_at.result l.invariant.numbered c.or-overlap.result c.or-overlap.ensures _ c.overlap_at.ensures.overlap in record {
      within = omega (arith, find-le 10 s l.at f.result (omega arith) f.ensures, c.if-end-sheet.false);
      few = l.invariant.few;
      first = omega arith;
      line = omega (arith, f.ensures);
      lines = l.invariant.lines
          ∙ ap (λ (ps : List (List ℕ)). held_run l.line ps h) parts
          ∙ run-next l.line first h 10 rest x e refl;
      overlap = l.invariant.overlap
          ∙ ap (λ (ps : List (List ℕ)). or_else (noted l.overlap) (held_overlap l.line ps h)) parts
          ∙ overlap-next l.line first h (noted l.overlap) 10 rest x e (area_number_of k.result.shared) l.draft.panel.grid.areas k.ensures.overlap (held-areas l.draft) refl
          ∙ ap (λ (o : Overlap). or_else o (held_overlap (l.line + 1) (split 10 rest) x.held)) (sym note);
      numbered = numbered-after l.overlap c.overlap_at.result l.invariant.numbered c.or-overlap.result c.or-overlap.ensures c.overlap_at.ensures.numbered;
      picture = l.invariant.picture
          ∙ ap (λ (ps : List (List ℕ)). or_line (line_or_none l.broken) (held_broken l.line ps h)) parts
          ∙ broken-next l.line first h (line_or_none l.broken) 10 rest x e refl
          ∙ ap (λ (n : ℕ). or_line n (held_broken (l.line + 1) (split 10 rest) x.held))
          (held_note k.new.draft (line_or_none l.broken) (split 9 first) (lines_from (split 10 rest)) l.line ∙ sym (rw tail at c.broken_line-broken.ensures.line));
      positive = c.broken_line-broken.ensures.positive;
    }

pub returns : goal.returns
returns c =
    let s = c.args.sheet.now in
    let l = c.loop-at in
    let h : PanelHeld = held_of l.draft in
    let parts = split-end 10 s l.at (omega arith) in record {
      lines = sym (l.invariant.lines ∙ ap (λ (ps : List (List ℕ)). held_run l.line ps h) parts ∙ run-last l.line h);
      overlap = sym
          (l.invariant.overlap
          ∙ ap (λ (ps : List (List ℕ)). or_else (noted l.overlap) (held_overlap l.line ps h)) parts
          ∙ ap (or_else (noted l.overlap)) (overlap-last l.line _ h)
          ∙ settled l.overlap l.invariant.numbered);
      numbered = l.invariant.numbered;
      picture = sym
          (l.invariant.picture
          ∙ ap (λ (ps : List (List ℕ)). or_line (line_or_none l.broken) (held_broken l.line ps h)) parts
          ∙ ap (or_line (line_or_none l.broken)) (broken-last l.line _ h)
          ∙ none-later (line_or_none l.broken));
      positive = l.invariant.positive;
    }
