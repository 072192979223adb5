-- Bytes that are read into a buffer, and a text that is printed part after part. Assumes nothing.
use Rattle.std.proofs.Common.{◌≡◌, ℕ, ◌+◌, ◌≤◌, List, [], ◌++◌, length, take, Option, Result, Ok, Err, refl, sym, subst, ap, ◌∙◌, append_assoc, append-nil, arith}
use Rattle.std.specs.Prelude.{OnOk}
use Rattle.std.specs.Result.{result_and}
use Rattle.std.specs.Io.KnownBytes.{Appends}
use Rattle.std.proofs.KnownBytes.{Appends-nil, Appends-trans}
use Rattle.panel_answer.specs.Listed.{AnswerLine, answered_next}
use Rattle.panel_answer.specs.declared.Filled.{Filled}
use Rattle.panel_answer.specs.Answer.{GridHeld}
use Rattle.panel_answer.specs.Text.{FillsText, text_from}
use Rattle.panel_answer.specs.Printed.{PrintedFor}
use Rattle.panel_program.specs.Printed.{zero_tables, zero_lands, PrintsAnswer}
use lib.Seq.{sets-eq, take-append-add, take-append_seam, length-take-le}

-- what was read before and some bytes more
pub read_more : (buffer seg : List ℕ) (done n : ℕ) → done ≤ length buffer → take (done + n) (take done buffer ++ seg) ≡ take done buffer ++ take n seg
read_more buffer seg done n h =
    subst (λ (k : ℕ). take (k + n) (take done buffer ++ seg) ≡ take done buffer ++ take n seg) (length-take-le done buffer h) (take-append-add (take done buffer) seg n)

-- ---- a text that is printed part after part

-- a part of a text was printed, and so much is left
pub record PrintedUpTo (before after : Option (List ℕ)) (left whole : List ℕ) : Type 0 where
  pub part : List ℕ
  pub printed : Appends before after part
  pub rest : part ++ left ≡ whole

pub none_printed : (before : Option (List ℕ)) (whole : List ℕ) → PrintedUpTo before before whole whole
none_printed before whole = record { part = []; printed = Appends-nil before; rest = refl }

pub more-printed : {before mid after : Option (List ℕ)} {left less whole : List ℕ} (part : List ℕ) → PrintedUpTo before mid left whole → Appends mid after part
    → part ++ less ≡ left → PrintedUpTo before after less whole
more-printed {before} {mid} {after} {left} {less} {whole} part p q e =
    record {
      part = p.part ++ part;
      printed = Appends-trans before mid after p.part part p.printed q;
      rest = append_assoc p.part part less ∙ ap (λ (z : List ℕ). p.part ++ z) e ∙ p.rest;
    }

pub all_printed : {before after : Option (List ℕ)} {left whole : List ℕ} → PrintedUpTo before after left whole → left ≡ [] → Appends before after whole
all_printed {before} {after} {left} {whole} p e =
    subst (Appends before after) (sym (append-nil p.part) ∙ ap (λ (z : List ℕ). p.part ++ z) (sym e) ∙ p.rest) p.printed

-- the part that was filled
pub filled_part : {before after : List ℕ} {h : GridHeld} {at : AnswerLine} {filled : Filled} (f : FillsText before h at after filled) → take filled.count after ≡ f.written.part
filled_part {before} {after} {h} {at} {filled} f =
    let w = f.written in
    rw (w.counted, w.bytes, sets-eq w.part before 0 (omega (arith, w.fits))) (take-append_seam w.part _)

-- that, where nothing failed
pub record PrintedOk (A E : Type 0) (r : Result A E) (before after : Option (List ℕ)) (left whole : List ℕ) : Type 0 where
  pub if_ok : OnOk r (PrintedUpTo before after left whole)

pub none_ok : {A E : Type 0} (a : A) (before : Option (List ℕ)) (whole : List ℕ) → PrintedOk A E (Ok a) before before whole whole
none_ok a before whole = record { if_ok = none_printed before whole }

-- one part more
pub part_ok : {A E : Type 0} {s r : Result A E} (t : Result A E) {out₀ out : List ℕ} {h : GridHeld} {at : AnswerLine} {filled : Filled} {before mid : Option (List ℕ)} (after : Option (List ℕ)) {whole : List ℕ}
    → FillsText out₀ h at out filled → r ≡ result_and s t → PrintedOk A E s before mid (text_from h at) whole → OnOk t (Appends mid after (take filled.count out))
    → PrintedOk A E r before after (text_from h (answered_next filled.next)) whole
part_ok {A} {E} {s} {r} t {out₀} {out} {h} {at} {filled} {before} {mid} after {whole} f e p q =
    subst (λ z. PrintedOk A E z before after (text_from h (answered_next filled.next)) whole) (sym e) (go s t p.if_ok q)
  where
    go : (x y : Result A E) → OnOk x (PrintedUpTo before mid (text_from h at) whole) → OnOk y (Appends mid after (take filled.count out))
        → PrintedOk A E (result_and x y) before after (text_from h (answered_next filled.next)) whole
    go (Ok a) (Ok b) u v = record { if_ok = more-printed f.written.part u (subst (Appends mid after) (filled_part f) v) f.written.whole }
    go (Ok a) (Err d) u v = record { if_ok = tt }
    go (Err d) y u v = record { if_ok = tt }

-- the whole text, where nothing is left of it
pub ok_whole : {A E : Type 0} {r : Result A E} {before after : Option (List ℕ)} {left whole : List ℕ} (sheet : List ℕ) → PrintedOk A E r before after left whole → left ≡ []
    → PrintedFor sheet zero_tables zero_lands whole
    → OnOk r (PrintsAnswer sheet before after)
ok_whole {A} {E} {r} {before} {after} {left} {whole} sheet p e w = go r p.if_ok
  where
    go : (x : Result A E) → OnOk x (PrintedUpTo before after left whole) → OnOk x (PrintsAnswer sheet before after)
    go (Ok a) u = record { text = whole; answer = w; printed = all_printed u e }
    go (Err d) u = tt
