-- The test of a line's kind is right. Assumes nothing.
use Prim.Native.Nat.{ℕ}
use mathlib.Core.Path.{◌≡◌}
use mathlib.Core.List.{List, []}
use mathlib.Core.Bool.{true}
use mathlib.Core.Logic.{◌↔◌}
use lib.ListN.{length, get_or}
use Rattle.std.proofs.lemmas.Bool.{and_parts, and_from}
use borrow.Author.Tests.{eq-eqb, eqb-true, le-leb, leb-true}
use Rattle.text.specs.Split.{same}
use Rattle.text.proofs.Which.{same_equal, same_self}
use Rattle.sheet_forms.specs.Words.{at, kind_words}
use Rattle.sheet_forms.specs.Forms.{Kind, axis, area, name, track, repeat, end, spare, extra, item, place, row, cell, kind_number, Fields, Of}
use Rattle.sheet_rules.specs.Kinds.{has_fields, is_kind}

fields_yes : (k : Kind) (n : ℕ) → has_fields k n ≡ true → Fields k n
fields_yes axis n e = eqb-true n 6 e
fields_yes area n e = eqb-true n 6 e
fields_yes name n e = eqb-true n 3 e
fields_yes track n e = eqb-true n 6 e
fields_yes repeat n e = eqb-true n 3 e
fields_yes end n e = eqb-true n 2 e
fields_yes spare n e = eqb-true n 6 e
fields_yes extra n e = eqb-true n 4 e
fields_yes item n e = eqb-true n 3 e
fields_yes place n e = eqb-true n 8 e
fields_yes row n e = leb-true 2 n e
fields_yes cell n e = eqb-true n 13 e

yes_fields : (k : Kind) (n : ℕ) → Fields k n → has_fields k n ≡ true
yes_fields axis n e = eq-eqb n 6 e
yes_fields area n e = eq-eqb n 6 e
yes_fields name n e = eq-eqb n 3 e
yes_fields track n e = eq-eqb n 6 e
yes_fields repeat n e = eq-eqb n 3 e
yes_fields end n e = eq-eqb n 2 e
yes_fields spare n e = eq-eqb n 6 e
yes_fields extra n e = eq-eqb n 4 e
yes_fields item n e = eq-eqb n 3 e
yes_fields place n e = eq-eqb n 8 e
yes_fields row n e = le-leb 2 n e
yes_fields cell n e = eq-eqb n 13 e

pub kind_exactly : (k : Kind) (fs : List (List ℕ)) → (is_kind k fs ≡ true) ↔ Of fs k
unfolding is_kind
kind_exactly k fs = (
  λ e. record {
    word = same_equal (at fs 0) (get_or kind_words (kind_number k) []) (and_parts (same (at fs 0) (get_or kind_words (kind_number k) [])) (has_fields k (length fs)) e).0;
    fields = fields_yes k (length fs) (and_parts (same (at fs 0) (get_or kind_words (kind_number k) [])) (has_fields k (length fs)) e).1;
  },
  λ o. and_from (same (at fs 0) (get_or kind_words (kind_number k) [])) (has_fields k (length fs)) (rw o.word (same_self (get_or kind_words (kind_number k) []))) (yes_fields k (length fs) o.fields),
)
