-- `picture_words::check_words` meets its contract: the words passed have no fault. Assumes nothing.
use Rattle.std.proofs.Common.{rules, tests, arith, ◌≡◌, ◌<◌, ◌∙◌, Err, sym, ap, eqb, length, get_or, drop, ℕ}
use Rattle.std.specs.List.{slice_split}
use Rattle.std.proofs.lemmas.List.{length_push}
use Rattle.std.proofs.lemmas.Iterator.Consumers.{YieldsList-turn, YieldsList-end, YieldsList-at}
use Rattle.std.proofs.lemmas.Iterator.Splits.{YieldsList-from_slice_split}
use Rattle.std.proofs.lemmas.Iterator.Adapters.{YieldsList-from_skip}
use Rattle.coordinates.specs.Refusals.{number_of, refused_by}
use Rattle.coordinates.proofs.Faults.{fault_some}
use Rattle.text.proofs.Library.{split_parts}
use Rattle.picture_words.specs.Words.{words_of}
use Rattle.sheet_forms.specs.Fields.{word_fault, words_fault}
use Rattle.picture_words.proofs.Faults.{fault_past, fault-here, fault-next}
use Rattle.picture_words.proofs.row.check_words.Goals as goal

pub returns-in_err-check_word : goal.returns-in_err-check_word
returns-in_err-check_word c =
    let line = c.args.line.now in
    let l = c.loop-word in
    let words = drop 1 (slice_split (λ b. eqb b 9) line) in
    let t : (length l.yielded < length words) × (c.in-Some.word.now ≡ get_or words (length l.yielded) c.in-Some.word.now) =
    YieldsList-turn (YieldsList-at c.into_iter-word-iterator.ensures.into_iter_gives (YieldsList-from_skip 1 (YieldsList-at c.skip-word-items.ensures.source (YieldsList-from_slice_split _ (λ b. eqb b 9) line c.split.ensures.rest c.split.ensures.done c.split.ensures.closure (λ x r q k. search (rules, tests)))) c.skip-word-items.ensures.count)) l.yielded _ l.yielded_by _ _ c.in-Some.word c.in-Some.is c.next.ensures.steps in
    let u : (length l.yielded < length (words_of line)) × (c.in-Some.word.now ≡ get_or (words_of line) (length l.yielded) c.in-Some.word.now) = rw (split_parts 9 line) at t in
    let f = c.in_err-check_word.field-0.0 in
    let fault : c.from_residual.result ≡ Err f = search rules in
    let there : number_of f ≡ word_fault c.in-Some.word.now = ap refused_by (sym c.in_err-check_word.was) ∙ c.check_word.ensures in
    rw fault (there ∙ sym (l.invariant ∙ fault-here _ _ _ u.0 u.1 (λ z. fault_some f (there ∙ z))))

pub loop-word-preserved : goal.loop-word-preserved
loop-word-preserved c =
    let line = c.args.line.now in
    let l = c.loop-word in
    let words = drop 1 (slice_split (λ b. eqb b 9) line) in
    let t : (length l.yielded < length words) × (c.in-Some.word.now ≡ get_or words (length l.yielded) c.in-Some.word.now) =
    YieldsList-turn (YieldsList-at c.into_iter-word-iterator.ensures.into_iter_gives (YieldsList-from_skip 1 (YieldsList-at c.skip-word-items.ensures.source (YieldsList-from_slice_split _ (λ b. eqb b 9) line c.split.ensures.rest c.split.ensures.done c.split.ensures.closure (λ x r q k. search (rules, tests)))) c.skip-word-items.ensures.count)) l.yielded _ l.yielded_by _ _ c.in-Some.word c.in-Some.is c.next.ensures.steps in
    let u : (length l.yielded < length (words_of line)) × (c.in-Some.word.now ≡ get_or (words_of line) (length l.yielded) c.in-Some.word.now) = rw (split_parts 9 line) at t in
    l.invariant ∙ fault-next _ _ _ u.0 u.1 (sym c.check_word.ensures ∙ ap refused_by c.in_ok-check_word.was)
    ∙ ap (λ (k : ℕ). words_fault (drop k (words_of line))) (sym (length_push l.yielded c.in-Some.word))

pub returns : goal.returns
returns c =
    let line = c.args.line.now in
    let l = c.loop-word in
    let t = YieldsList-end (YieldsList-at c.into_iter-word-iterator.ensures.into_iter_gives (YieldsList-from_skip 1 (YieldsList-at c.skip-word-items.ensures.source (YieldsList-from_slice_split _ (λ b. eqb b 9) line c.split.ensures.rest c.split.ensures.done c.split.ensures.closure (λ x r q k. search (rules, tests)))) c.skip-word-items.ensures.count)) l.yielded _ l.yielded_by _ _ c.in-None.is c.next.ensures.steps in
    let n : length l.yielded ≡ length (words_of line) = rw (split_parts 9 line) at t.1 in
    sym (l.invariant ∙ fault_past (words_of line) (length l.yielded) (omega (arith, n)))
