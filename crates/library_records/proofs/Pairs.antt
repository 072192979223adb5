-- Pairs of a track and its gutter one after the other, and what a loop that writes them leaves. Assumes nothing.
use Prim.Native.Nat.{ℕ, zero, suc, ◌+◌, ◌*◌, ◌-◌, ◌%◌, ◌≤◌, ◌<◌}
use native.Mathlib.Omega.{arith}
use native.Mathlib.Nat.{add-zero, sub-zero, mul-zero, mul-suc, mul-add}
use native.Mathlib.Numerals.{add-one}
use mathlib.Core.Path.{◌≡◌, refl, sym, ap, ap₂, ◌∙◌}
use mathlib.Core.Bool.{Bool, not, ◌&&◌, ◌||◌}
use lib.Dec.{leb}
use mathlib.Core.List.{List, [], ◌∷◌, ◌++◌, append_assoc, append-nil}
use lib.ListN.{length, get_or, set, length-append}
use lib.Seq.{sets}
use Rattle.sizing.specs.Words.{min_max_of}
use Rattle.track_rules.specs.declared.WrittenTrack.{WrittenTrack}
use Rattle.track_rules.specs.Records.{item_at}
use Rattle.track_rules.specs.Numbers.{source_number}
use Rattle.library_numbers.specs.Records.{size_word}
use Rattle.library_records.specs.declared.Gutters.{Gutters}
use Rattle.track_record.specs.declared.Repeated.{Repeated}
use Rattle.library_records.specs.Pairs.{record_numbers, pair_words, joined, part_pair}

-- one run after another
pub sets_on : (l : List ℕ) (place : ℕ) (a b : List ℕ) → sets l place (a ++ b) ≡ sets (sets l place a) (place + length a) b
sets_on l place [] b = ap (λ (n : ℕ). sets l n b) (sym (add-zero place))
sets_on l place (x ∷ a) b =
    let e : suc place + length a ≡ place + suc (length a) = omega arith in
    sets_on (set l place x) (suc place) a b ∙ ap (λ (n : ℕ). sets (sets (set l place x) (suc place) a) n b) e

-- two records are a pair
pub put_two : (l once twice : List ℕ) (place : ℕ) (a b : List ℕ) → length a ≡ 3 → once ≡ sets l place a → twice ≡ sets once (place + 3) b → twice ≡ sets l place (a ++ b)
put_two l once twice place a b three e f =
    f ∙ ap₂ (λ (x : List ℕ) (n : ℕ). sets x (place + n) b) e (sym three) ∙ sym (sets_on l place a b)

pub put_pair : (g : Gutters) (item : ℕ → Bool) (t : ℕ) (w : WrittenTrack) (l once twice : List ℕ) (place : ℕ) (closed shut : Bool) (source low high : ℕ) →
    source ≡ source_number w.source → closed ≡ (w.fit && not (item t)) → shut ≡ (closed || leb g.opened (t + 1)) → low ≡ size_word w.size.min → high ≡ size_word w.size.max →
    once ≡ sets l place (record_numbers 0 source closed low high) → twice ≡ sets once (place + 3) (record_numbers 1 5 shut g.gap g.gap) →
    twice ≡ sets l place (pair_words g item t w)
put_pair g item t w l once twice place closed shut source low high s e f m n x y =
    put_two l once twice place (record_numbers 0 source closed low high) (record_numbers 1 5 shut g.gap g.gap) refl x y ∙ rw (f, s, e, m, n, add-one t)

module _ (pair : ℕ → List ℕ) where
  pub joined-none : (t : ℕ) → joined pair t 0 ≡ []
  unfolding joined
  joined-none t = refl

  pub put-none : (l : List ℕ) (place t n : ℕ) → n ≡ 0 → l ≡ sets l place (joined pair t n)
  put-none l place t n e = rw (e, joined-none t)

  pub joined-one : (t : ℕ) → joined pair t 1 ≡ pair t
  unfolding joined
  joined-one t = append-nil (pair t)

  joined_length : (k : ℕ) → ((u : ℕ) → length (pair u) ≡ k) → (t n : ℕ) → length (joined pair t n) ≡ k * n
  unfolding joined
  joined_length k all t zero = sym (mul-zero k)
  joined_length k all t (suc n) = length-append (pair t) (joined pair (suc t) n) ∙ omega (arith, all t, joined_length k all (suc t) n, mul-suc k n)

  pub joined-split : (t m n : ℕ) → joined pair t (m + n) ≡ joined pair t m ++ joined pair (t + m) n
  unfolding joined
  joined-split t zero n = let e : 0 + n ≡ n = omega arith in rw (e, add-zero t)
  joined-split t (suc m) n =
      let e : suc m + n ≡ suc (m + n) = omega arith in
      let f : t + suc m ≡ suc t + m = omega arith in
      rw (e, f) (ap (λ (l : List ℕ). pair t ++ l) (joined-split (suc t) m n) ∙ sym (append_assoc (pair t) (joined pair (suc t) m) (joined pair (suc t + m) n)))

  -- what is written when i of `count` pairs are there
  abbrev pub written : List ℕ → ℕ → ℕ → ℕ → ℕ → List ℕ
  written lent place track count i = sets lent (place + 6 * i) (joined pair (track + i) (count - i))

  pub written_none : (lent : List ℕ) (place track count : ℕ) → written lent place track count 0 ≡ sets lent place (joined pair track count)
  written_none lent place track count = let e : place + 6 * 0 ≡ place = omega arith in rw (e, add-zero track, sub-zero count)

  pub written_all : (lent : List ℕ) (place track count i : ℕ) → count ≤ i → written lent place track count i ≡ lent
  written_all lent place track count i h = let e : count - i ≡ 0 = omega arith in rw (e, joined-none (track + i))

  -- m more
  pub written-more : ((u : ℕ) → length (pair u) ≡ 6) → (lent after : List ℕ) (place track count i m : ℕ) → i + m ≤ count →
      after ≡ sets lent (place + 6 * i) (joined pair (track + i) m) → written after place track count (i + m) ≡ written lent place track count i
  written-more six lent after place track count i m h e =
      let left : count - i ≡ m + (count - (i + m)) = omega arith in
      let at : place + 6 * (i + m) ≡ place + 6 * i + 6 * m = omega arith in
      let t : track + (i + m) ≡ track + i + m = omega arith in
      let rest = joined pair (track + i + m) (count - (i + m)) in
      rw (left, at, t, e)
      (sym
      (ap (sets lent (place + 6 * i)) (joined-split (track + i) m (count - (i + m)))
      ∙ sets_on lent (place + 6 * i) (joined pair (track + i) m) rest
      ∙ ap (λ (n : ℕ). sets (sets lent (place + 6 * i) (joined pair (track + i) m)) (place + 6 * i + n) rest) (joined_length 6 six (track + i) m)))

  -- m of them, and then the rest
  sets-split : (k : ℕ) → ((u : ℕ) → length (pair u) ≡ k) → (lent after : List ℕ) (place t n m : ℕ) → m ≤ n → after ≡ sets lent place (joined pair t m) →
      sets after (place + k * m) (joined pair (t + m) (n - m)) ≡ sets lent place (joined pair t n)
  sets-split k all lent after place t n m h e =
      let whole : m + (n - m) ≡ n = omega arith in
      let rest = joined pair (t + m) (n - m) in
      ap₂ (λ (l : List ℕ) (i : ℕ). sets l (place + i) rest) e (sym (joined_length k all t m)) ∙ sym (sets_on lent place (joined pair t m) rest)
      ∙ ap (sets lent place) (sym (joined-split t m (n - m)) ∙ ap (joined pair t) whole)

  -- two runs one after the other
  pub two_runs : (k : ℕ) → ((u : ℕ) → length (pair u) ≡ k) → (lent once twice : List ℕ) (place t count m : ℕ) → m ≤ count →
      once ≡ sets lent place (joined pair t m) → twice ≡ sets once (place + k * m) (joined pair (t + m) (count - m)) → twice ≡ sets lent place (joined pair t count)
  two_runs k all lent once twice place t count m h e f = f ∙ sets-split k all lent once place t count m h e

  -- three runs one after the other
  pub three-runs : (k : ℕ) → ((u : ℕ) → length (pair u) ≡ k) → (lent once twice thrice : List ℕ) (place t count m n : ℕ) → m ≤ count → n ≤ count - m →
      once ≡ sets lent place (joined pair t m) → twice ≡ sets once (place + k * m) (joined pair (t + m) n) →
      thrice ≡ sets twice (place + k * (m + n)) (joined pair (t + m + n) (count - m - n)) → thrice ≡ sets lent place (joined pair t count)
  three-runs k all lent once twice thrice place t count m n h small e f g =
      let at : place + k * (m + n) ≡ place + k * m + k * n = omega (arith, mul-add k m n) in
      g ∙ ap (λ (i : ℕ). sets twice i (joined pair (t + m + n) (count - m - n))) at
      ∙ sets-split k all once twice (place + k * m) (t + m) (count - m) n small f ∙ sets-split k all lent once place t count m h e

-- the same pairs
pub joined_same : (f g : ℕ → List ℕ) (t n : ℕ) → ((j : ℕ) → j < n → f (t + j) ≡ g (t + j)) → joined f t n ≡ joined g t n
unfolding joined
joined_same f g t zero h = refl
joined_same f g t (suc n) h =
    ap₂ ◌++◌ (rw (add-zero t) at (h 0 (omega arith)))
    (joined_same f g (suc t) n (λ j k. let e : suc t + j ≡ t + suc j = omega arith in rw e (h (suc j) (omega arith))))

-- the track at a place among those that repeat
abbrev placed : List ℕ → List ℕ → Repeated → ℕ → WrittenTrack
placed mi ma part inner =
    record { size = min_max_of (get_or mi (part.first + inner) 0) (get_or ma (part.first + inner) 0); source = part.source; fit = part.fit }

pub part_at_lem : (mi ma items : List ℕ) (part : Repeated) (offset t : ℕ) (g : Gutters) (i inner : ℕ) → inner ≡ (offset + i) % part.length →
    pair_words g (item_at items) (t + i) (placed mi ma part inner) ≡ part_pair mi ma items part offset t g (t + i)
part_at_lem mi ma items part offset t g i inner e =
    let z : t + i - t ≡ i = omega arith in
    ap (λ (n : ℕ). pair_words g (item_at items) (t + i) (placed mi ma part n)) (e ∙ ap (λ (n : ℕ). (offset + n) % part.length) (sym z))
