-- Lines are written one after the other until none is left, or any line might not fit.
use Prim.Native.Nat.{ℕ, ◌+◌, ◌-◌, ◌≤◌, ◌<◌}
use mathlib.Core.Path.{◌≡◌, refl, sym, ap, ap₂, ◌∙◌}
use mathlib.Core.Bool.{true, false, true≢false}
use mathlib.Core.List.{List, [], ◌++◌, append-nil, append_assoc}
use native.Mathlib.Omega.{arith}
use lib.ListN.{length, take, drop, length-append, length-drop, drop_of_length-le}
use lib.Seq.{sets, sets-eq, length-sets, drop-drop, take_all}
use Rattle.name_template.proofs.Placing.{sets_append}
use Rattle.std.specs.Prelude.{Option, Some, None, is_some}
use Rattle.coordinates.specs.declared.axis.Axis.TheVariants.{Column, Row}
use Rattle.panel_text.specs.Written.{WritesLine}
use Rattle.panel_answer.specs.declared.AnswerLine.{AnswerLine as Told}
use Rattle.panel_answer.specs.declared.AnswerLine.TheVariants.{Refused as ToldRefused, Size as ToldSize, Record as ToldRecord, Place as ToldPlace, Cell as ToldCell}
use Rattle.panel_answer.specs.Listed.{AnswerLine, Refused, Size, Record, Place, Cell, End, answered_line, answered_next}
use Rattle.panel_answer.specs.Answer.{GridHeld}
use Rattle.panel_answer.specs.Walk.{is_end, line_text, line_after}
use Rattle.panel_answer.specs.declared.Filled.{Filled}
use Rattle.panel_answer.specs.Text.{lines_from, text_from, WritesUpTo, FillsText}
use Rattle.panel_answer.proofs.Text.{one_fewer, text-next}

-- bytes that are written from a place on, in the part that starts there
pub sets_part : (l vs : List ℕ) (i : ℕ) → i + length vs ≤ length l → take i l ++ sets (drop i l) 0 vs ≡ sets l i vs
sets_part l vs i g =
    let z : 0 + length vs ≡ length vs = omega arith in
    let e : drop (0 + length vs) (drop i l) ≡ drop (i + length vs) l = ap (λ (n : ℕ). drop n (drop i l)) z ∙ drop-drop (length vs) i l in
    ap (λ (z : List ℕ). take i l ++ z) (sets-eq vs (drop i l) 0 (rw length-drop (omega arith)) ∙ ap (λ (z : List ℕ). vs ++ z) e)
    ∙ sym (append_assoc (take i l) vs (drop (i + length vs) l))
    ∙ sym (sets-eq vs l i g)

-- all bytes from a place on, lent and back
pub rest-lent : (out : List ℕ) (count : ℕ) → take (length out - count) (drop count out) ≡ drop count out
rest-lent out count = take_all (length out - count) (drop count out) (rw length-drop (omega arith))

pub rest_back : (out seg : List ℕ) (count : ℕ) → take count out ++ (seg ++ drop (length out - count) (drop count out)) ≡ take count out ++ seg
rest_back out seg count =
    let l : length (drop count out) ≤ length out - count = rw length-drop (omega arith) in
    let e : drop (length out - count) (drop count out) ≡ [] = drop_of_length-le (drop count out) l in
    ap (λ (z : List ℕ). take count out ++ z) (ap (λ (z : List ℕ). seg ++ z) e ∙ append-nil seg)

-- a line that is told is not the end
pub not-end : (at : Told) → is_end (answered_line at) ≡ false
not-end (ToldRefused f) = refl
not-end (ToldSize a) = refl
not-end (ToldRecord a i s) = refl
not-end (ToldPlace i) = refl
not-end (ToldCell k) = refl

-- where a line is told one is left, and else none
pub told-left : (n : Option Told) → is_some n ≡ true → is_end (answered_next n) ≡ false
told-left None e = absurd (true≢false (sym e))
told-left (Some at) e = not-end at

pub none-left : (n : Option Told) → is_some n ≡ false → answered_next n ≡ End
none-left None e = refl
none-left (Some at) e = absurd (true≢false e)

-- a line is left before the end
pub some_left : (h : GridHeld) (at : AnswerLine) → is_end at ≡ false → 1 ≤ lines_from h at
some_left h (Refused r) e = omega arith
some_left h (Size Column) e = omega arith
some_left h (Size Row) e = omega arith
some_left h (Record Column i s) e = omega arith
some_left h (Record Row i s) e = omega arith
some_left h (Place i) e = omega arith
some_left h (Cell k) e = omega arith
some_left h End e = absurd (true≢false e)

pub at-end : (at : AnswerLine) → is_end at ≡ true → at ≡ End
at-end (Refused r) e = absurd (true≢false (sym e))
at-end (Size a) e = absurd (true≢false (sym e))
at-end (Record a i s) e = absurd (true≢false (sym e))
at-end (Place i) e = absurd (true≢false (sym e))
at-end (Cell k) e = absurd (true≢false (sym e))
at-end End e = refl

-- what is written on the way: the lines left are no more than at first, and fewer once anything was written
pub record Writing (before : List ℕ) (h : GridHeld) (at next : AnswerLine) (after : List ℕ) (count : ℕ) : Type 0 where
  pub written : WritesUpTo before h at next after count
  pub left : lines_from h next ≤ lines_from h at
  pub fewer : 1 ≤ count → lines_from h next < lines_from h at

module _ (out₀ : List ℕ) (h : GridHeld) (at : AnswerLine) where
  pub none_written : WritesUpTo out₀ h at at out₀ 0
  none_written = record { part = []; bytes = refl; counted = refl; fits = omega arith; whole = refl }

  -- one line more
  pub line-written : (next : AnswerLine) (out seg : List ℕ) (count n : ℕ) → WritesUpTo out₀ h at next out count → is_end next ≡ false → count + 128 ≤ length out₀
      → WritesLine (drop count out) (line_text h next) seg n → WritesUpTo out₀ h at (line_after h next) (take count out ++ seg) (count + n)
  line-written next out seg count n w e g l =
      let line : List ℕ = line_text h next in
      let room : count + length line ≤ length out₀ = omega (arith, l.whole, l.fits) in
      let same : length out ≡ length out₀ = ap length w.bytes ∙ length-sets out₀ 0 w.part in
      let put : take count out ++ seg ≡ sets out count line = ap (λ (z : List ℕ). take count out ++ z) l.bytes ∙ sets_part out line count (omega (arith, room, same)) in
      record {
        part = w.part ++ line;
        bytes = put ∙ ap₂ (λ (o : List ℕ) (i : ℕ). sets o i line) w.bytes (omega (arith, w.counted)) ∙ sym (sets_append out₀ 0 w.part line);
        counted = ap₂ ◌+◌ w.counted l.whole ∙ sym (length-append w.part line);
        fits = rw (length-append w.part line) (omega (arith, room, w.counted));
        whole = append_assoc w.part line (text_from h (line_after h next)) ∙ ap (λ (z : List ℕ). w.part ++ z) (sym (text-next h next (some_left h next e))) ∙ w.whole;
      }

  pub begun : Writing out₀ h at at out₀ 0
  begun = record { written = none_written; left = omega arith; fewer = λ (k : 1 ≤ 0). absurd (omega (arith, k)) }

  -- and so one fewer is left
  pub line-more : (next : AnswerLine) (out seg : List ℕ) (count n : ℕ) → Writing out₀ h at next out count → is_end next ≡ false → count + 128 ≤ length out₀
      → WritesLine (drop count out) (line_text h next) seg n → Writing out₀ h at (line_after h next) (take count out ++ seg) (count + n)
  line-more next out seg count n w e g l =
      let f = one_fewer h next (some_left h next e) in
      record {
        written = line-written next out seg count n w.written e g l;
        left = omega (arith, f, w.left);
        fewer = λ (k : 1 ≤ count + n). omega (arith, f, w.left);
      }

  -- where nothing is left, fewer lines are than there were
  pub none_left : (next : AnswerLine) → is_end next ≡ true → is_end at ≡ false → lines_from h next < lines_from h at
  none_left next e g =
      let z : lines_from h next ≡ 0 = ap (lines_from h) (at-end next e) in
      omega (arith, z, some_left h at g)

  -- the bytes are as many as they were, and what is written lies in them
  pub same-room : (next : AnswerLine) (out : List ℕ) (count : ℕ) → WritesUpTo out₀ h at next out count → (length out ≡ length out₀) × (count ≤ length out₀)
  same-room next out count w = (ap length w.bytes ∙ length-sets out₀ 0 w.part, omega (arith, w.counted, w.fits))

  -- so all three are kept together
  pub in_room : (next : AnswerLine) (out : List ℕ) (count : ℕ) → Writing out₀ h at next out count → (length out ≡ length out₀) × (count ≤ length out₀) × Writing out₀ h at next out count
  in_room next out count w = let r = same-room next out count w.written in (r.0, r.1, w)

-- the bytes are as many as they were
pub same_bytes : {before after : List ℕ} {h : GridHeld} {at : AnswerLine} {filled : Filled} → FillsText before h at after filled → length after ≡ length before
same_bytes {before} {after} {h} {at} {filled} f = (same-room before h at (answered_next filled.next) after filled.count f.written).0
