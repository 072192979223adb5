-- Two inputs that are longer than a sheet may be have the same answer. Assumes nothing.
use Rattle.std.proofs.Common.{◌≡◌, ℕ, ◌<◌, ◌≤◌, Bool, true, false, ltb, List, [], ◌++◌, length, take, Option, Some, None, IfSome, Result, Ok, Err, refl, sym, subst, ap, ◌∙◌, append-nil, length-append, arith}
use Rattle.std.specs.Prelude.{OnOk}
use Rattle.std.specs.Result.{result_and}
use borrow.Author.Tests.{lt-ltb, ltb-true, ltb-false}
use lib.Seq.{length-take-le}
use Rattle.std.specs.Io.KnownBytes.{Consumes, IsAtEnd}
use Rattle.sheet_rules.specs.Panels.{Tables}
use Rattle.sheet_rules.specs.Read.{SheetRead, read_sheet, strict_by}
use Rattle.sheet_rules.specs.Sheet.{broken_of, display_of, fold_of, no_overlap, outcome, overlap_of, with_broken}
use Rattle.panel_tables.specs.View.{empty_view}
use Rattle.panel_answer.specs.Printed.{Printed, PrintedFor}
use Rattle.panel_program.specs.Printed.{zero_tables, zero_lands, PrintsAnswer}

long_read : (s : List ℕ) (t : Tables) → 32768 < length s → read_sheet s t ≡ strict_by no_overlap (with_broken 0 (outcome 1 0 empty_view)) t
unfolding read_sheet overlap_of display_of fold_of broken_of
long_read s t h = rw (lt-ltb 32768 (length s) h)

pub long_same : (s r : List ℕ) (t : Tables) (before text : List ℕ) → 32768 < length s → 32768 < length r → PrintedFor s t before text → PrintedFor r t before text
long_same s r t before text h g p = subst (λ (x : SheetRead). Printed x before text) (long_read s t h ∙ sym (long_read r t g)) p

long_prints : (s r : List ℕ) (had has : Option (List ℕ)) → 32768 < length s → 32768 < length r → PrintsAnswer s had has → PrintsAnswer r had has
long_prints s r had has h g p = record { text = p.text; answer = long_same s r zero_tables zero_lands p.text h g p.answer; printed = p.printed }

-- what is read of an input, all of it or more than a sheet may have, has the answer of the whole
pub read_whole : (before after had has : Option (List ℕ)) (buffer : List ℕ) (done : ℕ) → length buffer ≡ 32769 → done ≤ length buffer
    → Consumes before after (take done buffer) → (done < length buffer → IsAtEnd after) → PrintsAnswer (take done buffer) had has
    → IfSome before (λ sheet. PrintsAnswer sheet had has)
read_whole None after had has buffer done l h c e a = tt
read_whole (Some xs) None had has buffer done l h c e a = absurd c
read_whole (Some xs) (Some ys) had has buffer done l h c e a = go (ltb done (length buffer)) refl
  where
    part : length (take done buffer) ≡ done
    part = length-take-le done buffer h

    go : (b : Bool) → ltb done (length buffer) ≡ b → PrintsAnswer xs had has
    go true q =
        let none : ys ≡ [] = e (ltb-true done (length buffer) q) in
        subst (λ (s : List ℕ). PrintsAnswer s had has) (sym (c ∙ ap (λ (z : List ℕ). take done buffer ++ z) none ∙ append-nil (take done buffer))) a
    go false q =
        let full = ltb-false done (length buffer) q in
        let long : 32768 < length (take done buffer) = omega (arith, part, l, full) in
        let longer : 32768 < length xs = omega (arith, long, ap length c ∙ length-append (take done buffer) ys) in
        long_prints (take done buffer) xs had has long longer a

-- so where neither a read nor a write failed
pub whole_answered : {A B E : Type 0} {r : Result B E} (s : Result A E) (t : Result B E) (before after had has : Option (List ℕ)) (buffer : List ℕ) (done : ℕ)
    → r ≡ result_and s t → length buffer ≡ 32769 → done ≤ length buffer → Consumes before after (take done buffer) → OnOk s (done < length buffer → IsAtEnd after)
    → OnOk t (PrintsAnswer (take done buffer) had has) → OnOk r (IfSome before (λ sheet. PrintsAnswer sheet had has))
whole_answered {A} {B} {E} s t before after had has buffer done e l h c p q =
    subst (λ z. OnOk z (IfSome before (λ sheet. PrintsAnswer sheet had has))) (sym e) (go s t p q)
  where
    go : (x : Result A E) (y : Result B E) → OnOk x (done < length buffer → IsAtEnd after) → OnOk y (PrintsAnswer (take done buffer) had has)
        → OnOk (result_and x y) (IfSome before (λ sheet. PrintsAnswer sheet had has))
    go (Ok a) (Ok b) u v = read_whole before after had has buffer done l h c u v
    go (Ok a) (Err d) u v = tt
    go (Err d) y u v = tt
