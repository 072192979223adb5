-- A first field that names no kind: it is none of the words of its length. Assumes nothing.
use Rattle.std.specs.Prelude.{ℕ, ◌≡◌, ◌<◌, List, [], false, get_or, length}
use Rattle.std.proofs.Common.{arith}
use Rattle.text.specs.Split.{same, index}
use Rattle.text.proofs.Which.{same_length}
use Rattle.sheet_forms.specs.Words.{kind_words}

module _ (f : List ℕ) where
  -- the word of kind k is another
  abbrev pub Unlike : ℕ → Type 0
  Unlike k = same (get_or kind_words k []) f ≡ false

  -- of four bytes
  pub four : length f ≡ 4 → Unlike 0 → Unlike 1 → Unlike 2 → Unlike 8 → Unlike 11 → 12 ≡ index f kind_words
  unfolding index
  four long axis area name item cell =
      simp (
        axis,
        area,
        name,
        same_length (get_or kind_words 3 []) f (λ e. omega (arith, e, long)),
        same_length (get_or kind_words 4 []) f (λ e. omega (arith, e, long)),
        same_length (get_or kind_words 5 []) f (λ e. omega (arith, e, long)),
        same_length (get_or kind_words 6 []) f (λ e. omega (arith, e, long)),
        same_length (get_or kind_words 7 []) f (λ e. omega (arith, e, long)),
        item,
        same_length (get_or kind_words 9 []) f (λ e. omega (arith, e, long)),
        same_length (get_or kind_words 10 []) f (λ e. omega (arith, e, long)),
        cell,
      )

  -- of five
  pub five : length f ≡ 5 → Unlike 3 → Unlike 6 → Unlike 7 → Unlike 9 → 12 ≡ index f kind_words
  unfolding index
  five long track spare extra place =
      simp (
        same_length (get_or kind_words 0 []) f (λ e. omega (arith, e, long)),
        same_length (get_or kind_words 1 []) f (λ e. omega (arith, e, long)),
        same_length (get_or kind_words 2 []) f (λ e. omega (arith, e, long)),
        track,
        same_length (get_or kind_words 4 []) f (λ e. omega (arith, e, long)),
        same_length (get_or kind_words 5 []) f (λ e. omega (arith, e, long)),
        spare,
        extra,
        same_length (get_or kind_words 8 []) f (λ e. omega (arith, e, long)),
        place,
        same_length (get_or kind_words 10 []) f (λ e. omega (arith, e, long)),
        same_length (get_or kind_words 11 []) f (λ e. omega (arith, e, long)),
      )

  -- longer than every word but `repeat`
  pub more : 5 < length f → Unlike 4 → 12 ≡ index f kind_words
  unfolding index
  more long repeat =
      simp (
        same_length (get_or kind_words 0 []) f (λ e. omega (arith, e, long)),
        same_length (get_or kind_words 1 []) f (λ e. omega (arith, e, long)),
        same_length (get_or kind_words 2 []) f (λ e. omega (arith, e, long)),
        same_length (get_or kind_words 3 []) f (λ e. omega (arith, e, long)),
        repeat,
        same_length (get_or kind_words 5 []) f (λ e. omega (arith, e, long)),
        same_length (get_or kind_words 6 []) f (λ e. omega (arith, e, long)),
        same_length (get_or kind_words 7 []) f (λ e. omega (arith, e, long)),
        same_length (get_or kind_words 8 []) f (λ e. omega (arith, e, long)),
        same_length (get_or kind_words 9 []) f (λ e. omega (arith, e, long)),
        same_length (get_or kind_words 10 []) f (λ e. omega (arith, e, long)),
        same_length (get_or kind_words 11 []) f (λ e. omega (arith, e, long)),
      )
