-- Laws of the words that hold components and sizes. Assumes nothing.
use Prim.Native.Nat.{ℕ, zero, suc, ◌+◌, ◌*◌, ◌/◌, ◌%◌, ◌≤◌, ◌<◌}
use native.Mathlib.Omega.{arith}
use native.Mathlib.Nat.{mul-le-mul, mod-lt}
use mathlib.Core.Path.{◌≡◌, refl, ap, ap₂, ◌∙◌}
use mathlib.Core.Bool.{Bool, true, false, cond}
use mathlib.Core.List.{List, [], ◌∷◌}
use lib.Dec.{eqb}
use lib.ListN.{length, get_or, drop, length-map, get_or-eq_default}
use lib.Seq.{drop-cons}
use Rattle.sizing.specs.declared.MinMax.{MinMax}
use Rattle.template_rules.specs.Template.{Component, component_of, track_at, tracks_from, with_tracks, template_of}
use Rattle.template_rules.specs.declared.RepetitionCount.TheVariants.{Single, Count, AutoFill, AutoFit}
use Rattle.track_rules.specs.Tracks.{auto_size}
use Rattle.track_rules.specs.Written.{repeats_of, written, once_of, spares_of}
use Rattle.track_rules.specs.Records.{spare_at, no_track}
use Rattle.track_rules.specs.Steps.{total_of, totals_of, word_total, word_totals, no_component, written_in}
use Rattle.track_rules.proofs.Lists.{get-map}

-- tables of sizes
length_from : (mi ma : List ℕ) (f n : ℕ) → length (tracks_from mi ma f n) ≡ n
unfolding tracks_from
length_from mi ma f zero = refl
length_from mi ma f (suc n) = ap suc (length_from mi ma (suc f) n)

get_from : (mi ma : List ℕ) (f n i : ℕ) (d : MinMax) → i < n → get_or (tracks_from mi ma f n) i d ≡ track_at mi ma (f + i)
unfolding tracks_from
get_from mi ma f zero i d h = absurd (omega arith)
get_from mi ma f (suc n) zero d h = let e : f + 0 ≡ f = omega arith in rw e
get_from mi ma f (suc n) (suc i) d h = let e : f + suc i ≡ suc f + i = omega arith in rw e (get_from mi ma (suc f) n i d (omega arith))

pub spares_length : (mi ma : List ℕ) → length (spares_of mi ma) ≡ length mi
unfolding spares_of
spares_length mi ma = length_from mi ma 0 (length mi)

pub spares_none : (mi ma : List ℕ) (i : ℕ) → length mi ≡ 0 → spare_at (spares_of mi ma) i ≡ auto_size
spares_none mi ma i h =
    let g : length (spares_of mi ma) ≤ i % length (spares_of mi ma) = omega (arith, spares_length mi ma) in
    get_or-eq_default (spares_of mi ma) auto_size g

spares_held : (mi ma : List ℕ) (k : ℕ) → k < length mi → get_or (spares_of mi ma) k auto_size ≡ track_at mi ma k
unfolding spares_of
spares_held mi ma k g = get_from mi ma 0 (length mi) k auto_size g ∙ ap (track_at mi ma) (let e : 0 + k ≡ k = omega arith in e)

pub spares_get : (mi ma : List ℕ) (i : ℕ) → (length mi ≡ 0 → ⊥) → spare_at (spares_of mi ma) i ≡ track_at mi ma (i % length mi)
spares_get mi ma i h =
    let pos : 0 < length mi = omega arith in
    ap (λ (n : ℕ). get_or (spares_of mi ma) (i % n) auto_size) (spares_length mi ma) ∙ spares_held mi ma (i % length mi) (mod-lt i pos)

-- the template
pub template-length : (ws mi ma : List ℕ) → length (template_of ws mi ma) ≡ length ws
unfolding template_of
template-length ws mi ma = length-map ws (λ (w : ℕ). with_tracks mi ma (component_of w))

pub template-get : (ws mi ma : List ℕ) (k : ℕ) (d : Component) → k < length ws → get_or (template_of ws mi ma) k d ≡ with_tracks mi ma (component_of (get_or ws k 0))
unfolding template_of
template-get ws mi ma k d h = get-map (λ (w : ℕ). with_tracks mi ma (component_of w)) ws k d 0 h

pub template-past : (ws mi ma : List ℕ) (k : ℕ) → length ws ≤ k → get_or (template_of ws mi ma) k no_component ≡ no_component
template-past ws mi ma k h = let g : length (template_of ws mi ma) ≤ k = omega (arith, template-length ws mi ma) in get_or-eq_default (template_of ws mi ma) no_component g

word_total_lem : (r : ℕ) (mi ma : List ℕ) (w : ℕ) → total_of r (with_tracks mi ma (component_of w)) ≡ word_total r w
unfolding word_total
word_total_lem r mi ma w = ap (λ (n : ℕ). repeats_of r (component_of w).count * n) (length_from mi ma (component_of w).first (component_of w).length)

-- the totals of a template need only its words
pub totals_words : (r : ℕ) (ws mi ma : List ℕ) → totals_of r (template_of ws mi ma) ≡ word_totals r ws
unfolding template_of totals_of word_totals
totals_words r [] mi ma = refl
totals_words r (w ∷ ws) mi ma = ap₂ (λ (n : ℕ) (ns : List ℕ). n ∷ ns) (word_total_lem r mi ma w) (totals_words r ws mi ma)

pub words_length : (r : ℕ) (ws : List ℕ) → length (word_totals r ws) ≡ length ws
unfolding word_totals
words_length r [] = refl
words_length r (w ∷ ws) = ap suc (words_length r ws)

words_get : (r : ℕ) (ws : List ℕ) (k : ℕ) → k < length ws → get_or (word_totals r ws) k 0 ≡ word_total r (get_or ws k 0)
unfolding word_totals
words_get r [] k h = absurd (omega arith)
words_get r (w ∷ ws) zero h = refl
words_get r (w ∷ ws) (suc k) h = words_get r ws k (omega arith)

pub words_drop : (r : ℕ) (ws : List ℕ) (k : ℕ) → k < length ws → drop k (word_totals r ws) ≡ word_total r (get_or ws k 0) ∷ drop (suc k) (word_totals r ws)
words_drop r ws k h =
    let l : k < length (word_totals r ws) = omega (arith, words_length r ws) in
    drop-cons (word_totals r ws) k 0 l ∙ ap (λ (n : ℕ). n ∷ drop (suc k) (word_totals r ws)) (words_get r ws k h)

-- bounds of a component's fields
pub first_fits : (w : ℕ) → (component_of w).first < 65536
unfolding component_of
first_fits w = omega arith

length-within : (b : Bool) (n : ℕ) → n < 65536 → cond b 1 n < 65536
length-within true n h = omega arith
length-within false n h = h

pub length-fits : (w : ℕ) → w < 18446744073709551616 → (component_of w).length < 65536
unfolding component_of
length-fits w h = length-within (eqb (w / 65536 % 4) 0) (w / 281474976710656) (omega arith)

repeats_within : (r n : ℕ) (a b c : Bool) → r < 4294967296 → n < 4294967296 → repeats_of r (cond a Single (cond b (Count n) (cond c AutoFill AutoFit))) < 4294967296
repeats_within r n true b c h k = omega arith
repeats_within r n false true c h k = k
repeats_within r n false false true h k = h
repeats_within r n false false false h k = h

pub repeats_fits : (r w : ℕ) → r < 4294967296 → repeats_of r (component_of w).count < 4294967296
unfolding component_of
repeats_fits r w h = repeats_within r (w % 65536) (eqb (w / 65536 % 4) 0) (eqb (w / 65536 % 4) 1) (eqb (w / 65536 % 4) 2) h (omega arith)

pub total-fits : (a b : ℕ) → a < 4294967296 → b < 65536 → a * b < 18446744073709551616
total-fits a b h k =
    let x : a ≤ 4294967295 = omega arith in
    let y : b ≤ 65535 = omega arith in
    let p : a * b ≤ 4294967295 * 65535 = mul-le-mul x y in
    omega arith

-- a track of a component, from its word
pub track_in : (mi ma : List ℕ) (w o : ℕ) → ((component_of w).length ≡ 0 → ⊥) →
    written_in (with_tracks mi ma (component_of w)) o ≡ written (component_of w).count (track_at mi ma ((component_of w).first + o % (component_of w).length))
track_in mi ma w o h =
    let c = component_of w in
    let pos : 0 < c.length = omega arith in
    let k : o % c.length < length (tracks_from mi ma c.first c.length) = omega (arith, length_from mi ma c.first c.length, mod-lt o pos) in
    ap (λ (n : ℕ). get_or (once_of (with_tracks mi ma c)) (o % n) no_track) (length_from mi ma c.first c.length)
    ∙ get-map (written c.count) (tracks_from mi ma c.first c.length) (o % c.length) no_track auto_size k
    ∙ ap (written c.count) (get_from mi ma c.first c.length (o % c.length) auto_size (mod-lt o pos))

pub no-tracks : (mi ma : List ℕ) (w o : ℕ) → (component_of w).length ≡ 0 → written_in (with_tracks mi ma (component_of w)) o ≡ no_track
no-tracks mi ma w o h =
    let c = with_tracks mi ma (component_of w) in
    let k : length (once_of c) ≤ o % length c.tracks = omega (arith, length-map c.tracks (written c.count), length_from mi ma (component_of w).first (component_of w).length) in
    get_or-eq_default (once_of c) no_track k
