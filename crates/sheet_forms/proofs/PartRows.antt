-- The fault of each part of a line is the number of the row of that part that comes first. Assumes nothing.
use Prim.Native.Nat.{ℕ, zero, suc, ◌≤◌, ◌<◌}
use mathlib.Core.Path.{◌≡◌, refl, sym, ap, ap₂, ◌∙◌}
use mathlib.Core.List.{List, []}
use mathlib.Core.Bool.{Bool, true, false, cond, not, ◌&&◌, true≢false, false≢true}
use mathlib.Core.Logic.{inl, inr, ⊎_elim}
use native.Mathlib.Omega.{arith}
use lib.IntN.{pos}
use lib.ListN.{length, get_or}
use borrow.Author.Tests.{eq-eqb, ne_eqb, ltb-true, ltb-false, le-leb}
use Rattle.text.specs.Split.{same, index}
use Rattle.text.proofs.Which.{same_equal, unequal, index_word}
use Rattle.std.specs.Prelude.{Option, Some, None}
use Rattle.text.specs.Whole.{none, digits_of, natural_of, non_negative, whole_of}
use Rattle.text.specs.Hexadecimal.{bits_of}
use Rattle.text.specs.Spelling.{WritesBits}
use Rattle.text.proofs.Decimals.{whole-unread}
use Rattle.text.proofs.Hexadecimals.{hex_read, hex_written}
use Rattle.sizing.specs.Ranges.{maximum_only, is_kind, minimum_kind, value_in_range, length_in_range}
use Rattle.sheet_forms.specs.declared.Position.{Position}
use Rattle.sheet_forms.specs.declared.Position.TheVariants.{Minimum, Maximum, Gap}
use Rattle.sheet_forms.specs.Answers.{Field}
use Rattle.sheet_forms.specs.Words.{at, dash, axis_words, rule_words, size_words, repeat_words}
use Rattle.sheet_forms.specs.Fields.{word_of, axis_of, rule_of, count_of, repetition_at, repetition_of, name_fault}
use Rattle.sheet_forms.specs.Sizes.{kind_of, allowed_at, faulty_size, value_field, size_field, size_of, no_inner, some_inner, inner_field, inner_of}
use Rattle.sheet_forms.specs.Forms.{Part, an_axis, a_name, a_count, an_inner, a_rule, a_size, a_repetition, OneOf, Size, SizeKind, Allowed, Formed}
use Rattle.sheet_forms.specs.Rows.{Row, unread, bad_name, bad_value, bad_count, bad_area, First, NameOutside, ValueOutside, CountOutside}
use Rattle.sheet_forms.proofs.Firsts.{at_none, at-unread, at_name, at_value, at_count}
use Rattle.sheet_forms.proofs.FieldRows.{below_or, one_of, of_one, word_good, word_value, word_bad, axis_good, axis_bad, name_range, never, counted_rows, Counted, unspelt, outside, inside, count-counted}

-- a row of one part of a line
abbrev pub PartHolds : List (List ℕ) → Part → Row → Type 0
PartHolds fs p unread = Formed fs p → ⊥
PartHolds fs p bad_name = NameOutside fs p
PartHolds fs p bad_value = ValueOutside fs p
PartHolds fs p bad_count = CountOutside fs p
PartHolds fs p bad_area = ⊥

pub axis_first : (fs : List (List ℕ)) (k : ℕ) → First (PartHolds fs (an_axis k)) (axis_of (at fs k)).fault
unfolding axis_of
axis_first fs k =
    ⊎_elim
    (λ h. at_none (axis_good (index (at fs k) axis_words) h) (λ u. u (one_of (at fs k) axis_words h)) never never never never)
    (λ h. at-unread (axis_bad (index (at fs k) axis_words) h) (λ f. omega (arith, of_one (at fs k) axis_words f)))
    (below_or (index (at fs k) axis_words) 2)

pub rule_first : (fs : List (List ℕ)) (k : ℕ) → First (PartHolds fs (a_rule k)) (rule_of (at fs k)).fault
unfolding rule_of
rule_first fs k =
    ⊎_elim
    (λ h. at_none (word_good 2 (index (at fs k) rule_words) h) (λ u. u (one_of (at fs k) rule_words h)) never never never never)
    (λ h. at-unread (word_bad 2 (index (at fs k) rule_words) h) (λ f. omega (arith, of_one (at fs k) rule_words f)))
    (below_or (index (at fs k) rule_words) 2)

pub name_first : (fs : List (List ℕ)) (k : ℕ) → First (PartHolds fs (a_name k)) (name_fault (at fs k))
name_first fs k =
    ⊎_elim
    (λ (e, n). at_none e (λ u. u tt) (λ h. h n) never never never)
    (λ (e, h). at_name e h (λ u. u tt))
    (name_range (at fs k))

pub count_first : (fs : List (List ℕ)) (least most k : ℕ) → First (PartHolds fs (a_count least most k)) (count_of least most (at fs k)).fault
count_first fs least most k = counted_rows (λ x. x) (λ x. x) (λ x. x) (λ x. x) never never never (count-counted least most (at fs k))

-- ---- bits

no_bits : (f : List ℕ) → bits_of f ≡ None → Size f → ⊥
no_bits f e (b, w) = let p = hex_written f b w in let z : ◌≡◌ {A = ℕ} 0 1 = cc in omega arith

bits_once : (f : List ℕ) (a b : ℕ) → bits_of f ≡ Some a → WritesBits f b → a ≡ b
bits_once f a b e w = let p = hex_written f b w in cc

pub inner_first : (fs : List (List ℕ)) (k : ℕ) → First (PartHolds fs (an_inner k)) (inner_of (at fs k)).fault
unfolding inner_of
inner_first fs k = dashed (same (at fs k) dash) refl
  where
    ranged : (b : ℕ) (t : Bool) → bits_of (at fs k) ≡ Some b → length_in_range b ≡ t → First (PartHolds fs (an_inner k)) (cond t (some_inner b) (no_inner 3)).fault
    ranged b true e q = at_none refl (λ u. u (inr (b, hex_read (at fs k) b e))) never (λ (c, w, r). true≢false (sym q ∙ ap length_in_range (bits_once (at fs k) b c e w) ∙ r)) never never
    ranged b false e q = at_value refl (b, hex_read (at fs k) b e, q) (λ u. u (inr (b, hex_read (at fs k) b e))) never

    spelt : (v : Option ℕ) → bits_of (at fs k) ≡ v → same (at fs k) dash ≡ false → First (PartHolds fs (an_inner k)) (inner_field v).fault
    spelt None e q = at-unread refl (⊎_elim (unequal (at fs k) dash q) (no_bits (at fs k) e))
    spelt (Some b) e q = ranged b (length_in_range b) e refl

    dashed : (t : Bool) → same (at fs k) dash ≡ t → First (PartHolds fs (an_inner k)) (cond t (no_inner 0) (inner_field (bits_of (at fs k)))).fault
    dashed true q =
        let d : (at fs k) ≡ dash = same_equal (at fs k) dash q in
        at_none refl (λ u. u (inl d)) never (λ (b, w, r). let l : length (at fs k) ≡ 1 = ap length d in omega (arith, w.eight)) never never
    dashed false q = spelt (bits_of (at fs k)) refl q

-- ---- a kind and its value

kind_place : (j : ℕ) → j < 8 → index (get_or size_words j []) size_words ≡ j
unfolding index same
kind_place zero h = refl
kind_place (suc zero) h = refl
kind_place (suc (suc zero)) h = refl
kind_place (suc (suc (suc zero))) h = refl
kind_place (suc (suc (suc (suc zero)))) h = refl
kind_place (suc (suc (suc (suc (suc zero))))) h = refl
kind_place (suc (suc (suc (suc (suc (suc zero)))))) h = refl
kind_place (suc (suc (suc (suc (suc (suc (suc zero))))))) h = refl
kind_place (suc (suc (suc (suc (suc (suc (suc (suc j)))))))) h = absurd (omega arith)

kind_index : (j : ℕ) (f : List ℕ) → SizeKind j f → index f size_words ≡ j
kind_index j f (h, e) = ap (λ (l : List ℕ). index l size_words) e ∙ kind_place j h

allowed_yes : (p : Position) (i : ℕ) → allowed_at p i ≡ true → Allowed p i
unfolding minimum_kind
allowed_yes Minimum i e = go (maximum_only i) refl e
  where
    go : (t : Bool) → maximum_only i ≡ t → not t && is_kind i ≡ true → maximum_only i ≡ false
    go true q k = absurd (false≢true k)
    go false q k = q
allowed_yes Maximum i e = tt
allowed_yes Gap i e = ltb-true i 2 e

allowed_no : (p : Position) (i : ℕ) → i < 8 → allowed_at p i ≡ false → Allowed p i → ⊥
unfolding minimum_kind
allowed_no Minimum i h e a = true≢false (sym (le-leb i 7 (omega arith)) ∙ sym (ap (λ (t : Bool). not t && is_kind i) a) ∙ e)
allowed_no Maximum i h e a = omega (arith, ltb-false i 8 e)
allowed_no Gap i h e a = omega (arith, ltb-false i 2 e)

abbrev size_at : Bool → Bool → ℕ
size_at allowed in_range = cond allowed (cond in_range 0 3) 1

size_known : (p : Position) (kind : Field) (i b : ℕ) → kind.fault ≡ 0 → kind.value ≡ i → (size_field p kind (Some b)).fault ≡ size_at (allowed_at p i) (value_in_range i b)
size_known p kind i b e v = rw (eq-eqb kind.fault 0 e, v) (go (allowed_at p i) (value_in_range i b) refl)
  where
    go : (t u : Bool) → value_in_range i b ≡ u → (cond t (value_field i b) (faulty_size 1)).fault ≡ size_at t u
    go true true q = rw q
    go true false q = rw q
    go false u q = refl

size_unknown : (p : Position) (kind : Field) (b : ℕ) → kind.fault ≡ 1 → (size_field p kind (Some b)).fault ≡ 1
size_unknown p kind b e = rw (ne_eqb kind.fault 0 (λ z. omega arith))

pub size_first : (fs : List (List ℕ)) (p : Position) (k : ℕ) → First (PartHolds fs (a_size p k)) (size_of p (at fs k) (at fs (suc k))).fault
unfolding size_of kind_of
size_first fs p k = go (bits_of (at fs (suc k))) refl
  where
    known : (n b : ℕ) (t u : Bool) → index (at fs k) size_words < 8 → bits_of (at fs (suc k)) ≡ Some b
        → allowed_at p (index (at fs k) size_words) ≡ t → value_in_range (index (at fs k) size_words) b ≡ u → n ≡ size_at t u → First (PartHolds fs (a_size p k)) n
    known n b true true h e q r m =
        let w = hex_read (at fs (suc k)) b e in
        let s : SizeKind (index (at fs k) size_words) (at fs k) = (h, index_word (at fs k) size_words h) in
        at_none m (λ x. x ((index (at fs k) size_words, s, allowed_yes p (index (at fs k) size_words) q), (b, w))) never
        (λ (j, c, s', w', o). true≢false (sym r ∙ ap₂ value_in_range (kind_index j (at fs k) s') (bits_once (at fs (suc k)) b c e w') ∙ o)) never never
    known n b true false h e q r m =
        let w = hex_read (at fs (suc k)) b e in
        let s : SizeKind (index (at fs k) size_words) (at fs k) = (h, index_word (at fs k) size_words h) in
        at_value m (index (at fs k) size_words, b, s, w, r) (λ x. x ((index (at fs k) size_words, s, allowed_yes p (index (at fs k) size_words) q), (b, w))) never
    known n b false u h e q r m =
        at-unread m (λ ((j, s, a), w). allowed_no p j s.0 (ap (allowed_at p) (sym (kind_index j (at fs k) s)) ∙ q) a)

    go : (v : Option ℕ) → bits_of (at fs (suc k)) ≡ v → First (PartHolds fs (a_size p k)) (size_field p (word_of 8 (index (at fs k) size_words)) v).fault
    go None e = at-unread refl (λ (x, s). no_bits (at fs (suc k)) e s)
    go (Some b) e =
        ⊎_elim
        (λ h. known _ b (allowed_at p (index (at fs k) size_words)) (value_in_range (index (at fs k) size_words) b) h e refl refl
        (size_known p (word_of 8 (index (at fs k) size_words)) (index (at fs k) size_words) b (word_good 8 (index (at fs k) size_words) h) (word_value 8 (index (at fs k) size_words) h)))
        (λ h. at-unread (size_unknown p (word_of 8 (index (at fs k) size_words)) b (word_bad 8 (index (at fs k) size_words) h))
        (λ ((j, s, a), w). omega (arith, kind_index j (at fs k) s, s.0)))
        (below_or (index (at fs k) size_words) 8)

-- ---- a repetition

no_whole : (f : List ℕ) → OneOf repeat_words f → whole_of f ≡ none
unfolding whole_of natural_of digits_of non_negative
no_whole f (inl e) = rw e
no_whole f (inr (inl e)) = rw e
no_whole f (inr (inr h)) = absurd h

word_repetition : (i : ℕ) (c : Field) → i < 2 → (repetition_at i c).fault ≡ 0
word_repetition zero c h = refl
word_repetition (suc zero) c h = refl
word_repetition (suc (suc i)) c h = absurd (omega arith)

count_repetition : (i : ℕ) (c : Field) → 2 ≤ i → (repetition_at i c).fault ≡ c.fault
count_repetition i c h = rw (ne_eqb i 0 (λ e. omega arith), ne_eqb i 1 (λ e. omega arith))

pub repetition_first : (fs : List (List ℕ)) (k : ℕ) → First (PartHolds fs (a_repetition k)) (repetition_of (at fs k)).fault
unfolding repetition_of
repetition_first fs k =
    ⊎_elim
    (λ h. let o = one_of (at fs k) repeat_words h in
    at_none (word_repetition (index (at fs k) repeat_words) (count_of 0 65535 (at fs k)) h) (λ u. u (inl o)) never never
    (λ (z, w, r). whole-unread (at fs k) (no_whole (at fs k) o) z w) never)
    (λ h. go (count_repetition (index (at fs k) repeat_words) (count_of 0 65535 (at fs k)) h) h (count-counted 0 65535 (at fs k)))
    (below_or (index (at fs k) repeat_words) 2)
  where
    go : {n m : ℕ} → n ≡ m → 2 ≤ index (at fs k) repeat_words → Counted (pos 0) (pos 65535) (at fs k) m → First (PartHolds fs (a_repetition k)) n
    go p h (unspelt e u) = at-unread (p ∙ e) (⊎_elim (λ o. omega (arith, of_one (at fs k) repeat_words o)) u)
    go p h (outside e (z, w, r)) = at_count (p ∙ e) (z, w, r) (λ u. u (inr (z, w))) never never
    go p h (inside e w r) = at_none (p ∙ e) (λ u. u (inr w)) never never r never
