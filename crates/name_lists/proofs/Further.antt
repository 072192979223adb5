-- One entry further, as the loops over entries that ascend take them.
use mathlib.Core.Path.{◌≡◌, refl, sym, ◌∙◌, ap}
use mathlib.Core.Bool.{Bool, true, false}
use mathlib.Core.List.{List, [], ◌∷◌}
use Prim.Native.Nat.{ℕ, zero, suc, ◌+◌, ◌≤◌, ◌<◌}
use native.Mathlib.Numerals.{add-one}
use native.Mathlib.Omega.{arith}
use borrow.Author.Tests.{le-leb, lt-leb}
use lib.Dec.{leb}
use lib.ListN.{length, get_or}
use Rattle.std.specs.List.{prefix_len, IsAllAdjacentAnswer}
use Rattle.std.specs.Prelude.{Some}
use Rattle.std.specs.Ordering.{nat_cmp, is_le, is_some_and}
use Rattle.std.proofs.Math.Bool.{and-false}
use Rattle.std.specs.Cmp.{nat_cmp_is}
use Rattle.std.proofs.Common.{Less, Equal}
use Rattle.std.proofs.lemmas.Map.Keys.{le_from_is_le}
use native.Mathlib.Decide.{dec_lt}
use Rattle.name_entries.specs.Entries.{entry_of}
use Rattle.name_lists.specs.Ascending.{ascends_from, count_up_to}

-- the line of an entry
abbrev pub line_at : ℕ → ℕ
line_at w = (entry_of w).line

-- entries of which none lies before the one before it ascend
all-ascend : (line : ℕ) (words : List ℕ) → (0 < length words → line ≤ line_at (get_or words 0 0))
    → ((k : ℕ) → suc k < length words → line_at (get_or words k 0) ≤ line_at (get_or words (suc k) 0)) → ascends_from line words ≡ true
unfolding ascends_from
all-ascend line [] f h = refl
all-ascend line (w ∷ words) f h =
    rw (le-leb line (line_at w) (f (omega arith)))
    (all-ascend (line_at w) words (λ g. h 0 (omega arith)) (λ k g. h (suc k) (omega arith)))

-- and where one does, they do not
one-falls : (k line : ℕ) (words : List ℕ) → suc k < length words → line_at (get_or words (suc k) 0) < line_at (get_or words k 0) → ascends_from line words ≡ false
unfolding ascends_from
one-falls k line [] h g = absurd (omega arith)
one-falls zero line (w ∷ []) h g = absurd (omega arith)
one-falls zero line (w ∷ (v ∷ words)) h g = rw (lt-leb (line_at w) (line_at v) g) (and-false (leb line (line_at w)))
one-falls (suc k) line (w ∷ words) h g = rw (one-falls k (line_at w) words (omega arith) g) (and-false (leb line (line_at w)))

-- a number is tested not to be above another
le_tested : (x y : ℕ) → x ≤ y → is_le (nat_cmp x y) ≡ true
le_tested x y h = by (dec_lt x y)
  where
    by : Dec (x < y) → is_le (nat_cmp x y) ≡ true
    by (yes g) = ap is_le (sym (nat_cmp_is x y Less g))
    by (no g) = let e : x ≡ y = omega arith in ap is_le (sym (nat_cmp_is x y Equal e))

-- the test of neighbours tells whether entries ascend
pub ascends-tested : (words : List ℕ) (r : Bool) → IsAllAdjacentAnswer (λ x y b. b ≡ is_some_and is_le (Some (nat_cmp (line_at x) (line_at y)))) words r → r ≡ ascends_from 0 words
ascends-tested words true h = sym (all-ascend 0 words (λ g. omega arith) (λ k g. le_from_is_le _ _ (sym (rw add-one at (h k 0 (omega arith))))))
ascends-tested words false h =
    let no' : line_at (get_or words h.0 0) ≤ line_at (get_or words (suc h.0) 0) → ⊥ = λ l. let e : ◌≡◌ {A = Bool} false true = (rw add-one at (h.2 0)) ∙ le_tested _ _ l in cc in
    sym (one-falls h.0 0 words (omega (arith, h.1)) (omega (arith, no')))

-- whether an entry's line is at most a line
abbrev pub reaches : ℕ → ℕ → Bool
reaches line w = leb (entry_of w).line line

pub count_prefix : (line : ℕ) (words : List ℕ) → count_up_to line words ≡ prefix_len (reaches line) words
unfolding count_up_to
count_prefix line [] = refl
count_prefix line (w ∷ words) =
    let e : suc (prefix_len (reaches line) words) ≡ 1 + prefix_len (reaches line) words = omega arith in
    rw (count_prefix line words, e)
