-- Lists that a function makes, lists n times over, and their elements. Assumes nothing.
use Prim.Native.Nat.{ℕ, zero, suc, ◌+◌, ◌*◌, ◌-◌, ◌%◌, ◌≤◌, ◌<◌}
use native.Mathlib.Omega.{arith}
use native.Mathlib.Nat.{mod-eq_of_lt, mod-eq-sub-mod, zero-mul, suc-mul}
use mathlib.Core.Path.{◌≡◌, refl, sym, ap, ap₂, ◌∙◌}
use mathlib.Core.Logic.{⊎_elim}
use mathlib.Core.List.{List, [], ◌∷◌, ◌++◌, map, map-append}
use lib.ListN.{length, get_or, drop, length-append, get_or-append}
use lib.Seq.{get_or-append-add, get_or-append_seam}
use Rattle.std.proofs.lemmas.Bool.{cases_lt}
use Rattle.track_rules.specs.Written.{copies}
use Rattle.track_rules.specs.Records.{listed}

pub length-listed : {A : Type 0} (f : ℕ → A) (n : ℕ) → length (listed f n) ≡ n
length-listed f zero = refl
length-listed f (suc n) = length-append (listed f n) (f n ∷ []) ∙ omega (arith, length-listed f n)

pub get-listed : {A : Type 0} (f : ℕ → A) (n i : ℕ) (d : A) → i < n → get_or (listed f n) i d ≡ f i
get-listed f zero i d h = absurd (omega arith)
get-listed f (suc n) i d h =
    ⊎_elim
    (λ (k : i < n). let g : i < length (listed f n) = omega (arith, length-listed f n) in get_or-append (listed f n) (f n ∷ []) d i g ∙ get-listed f n i d k)
    (λ (k : n ≤ i).
    let e : i ≡ length (listed f n) = omega (arith, length-listed f n) in
    let g : i ≡ n = omega arith in
    ap (λ (j : ℕ). get_or (listed f n ++ (f n ∷ [])) j d) e ∙ get_or-append_seam (listed f n) (f n) [] d ∙ ap f (sym g))
    (cases_lt i n)

pub listed_same : {A : Type 0} (f g : ℕ → A) (n : ℕ) → ((i : ℕ) → i < n → f i ≡ g i) → listed f n ≡ listed g n
listed_same f g zero h = refl
listed_same {A} f g (suc n) h = ap₂ (λ (l : List A) (x : A). l ++ (x ∷ [])) (listed_same f g n (λ i k. h i (omega arith))) (h n (omega arith))

pub map-listed : {A B : Type 0} (f : A → B) (g : ℕ → A) (n : ℕ) → map f (listed g n) ≡ listed (λ i. f (g i)) n
map-listed f g zero = refl
map-listed {A} {B} f g (suc n) = map-append f (listed g n) (g n ∷ []) ∙ ap (λ (l : List B). l ++ (f (g n) ∷ [])) (map-listed f g n)

pub map-copies : {A B : Type 0} (f : A → B) (n : ℕ) (l : List A) → map f (copies n l) ≡ copies n (map f l)
map-copies f zero l = refl
map-copies {A} {B} f (suc n) l = map-append f l (copies n l) ∙ ap (λ (m : List B). map f l ++ m) (map-copies f n l)

-- the element past a first part
pub get-past : {A : Type 0} (l m : List A) (i : ℕ) (d : A) → length l ≤ i → get_or (l ++ m) i d ≡ get_or m (i - length l) d
get-past l m i d h = let e : i ≡ length l + (i - length l) = omega arith in ap (λ (j : ℕ). get_or (l ++ m) j d) e ∙ get_or-append-add l m (i - length l) d

pub length-copies : {A : Type 0} (n : ℕ) (l : List A) → length (copies n l) ≡ n * length l
length-copies zero l = sym (zero-mul (length l))
length-copies (suc n) l = length-append l (copies n l) ∙ omega (arith, length-copies n l, suc-mul n (length l))

pub get-copies : {A : Type 0} (n : ℕ) (l : List A) (i : ℕ) (d : A) → i < n * length l → get_or (copies n l) i d ≡ get_or l (i % length l) d
get-copies zero l i d h = absurd (omega (arith, zero-mul (length l)))
get-copies (suc n) l i d h =
    ⊎_elim
    (λ (k : i < length l). get_or-append l (copies n l) d i k ∙ sym (ap (λ (j : ℕ). get_or l j d) (mod-eq_of_lt k)))
    (λ (k : length l ≤ i).
    get-past l (copies n l) i d k
    ∙ get-copies n l (i - length l) d (omega (arith, suc-mul n (length l)))
    ∙ sym (ap (λ (j : ℕ). get_or l j d) (mod-eq-sub-mod k)))
    (cases_lt i (length l))

pub get-map : {A B : Type 0} (f : A → B) (l : List A) (i : ℕ) (d : B) (e : A) → i < length l → get_or (map f l) i d ≡ f (get_or l i e)
get-map f [] i d e h = absurd (omega arith)
get-map f (x ∷ l) zero d e h = refl
get-map f (x ∷ l) (suc i) d e h = get-map f l i d e (omega arith)

pub drop_tail : {A : Type 0} (l : List A) (k : ℕ) (x : A) (m : List A) → drop k l ≡ x ∷ m → drop (suc k) l ≡ m
drop_tail [] zero x m e = cc
drop_tail [] (suc k) x m e = cc
drop_tail (y ∷ l) zero x m e = cc
drop_tail (y ∷ l) (suc k) x m e = drop_tail l k x m e

pub drop_head : {A : Type 0} (l : List A) (k : ℕ) (x : A) (m : List A) (d : A) → drop k l ≡ x ∷ m → get_or l k d ≡ x
drop_head [] zero x m d e = let z : ◌≡◌ {A = ℕ} 0 1 = cc in absurd (omega arith)
drop_head [] (suc k) x m d e = let z : ◌≡◌ {A = ℕ} 0 1 = cc in absurd (omega arith)
drop_head (y ∷ l) zero x m d e = cc
drop_head (y ∷ l) (suc k) x m d e = drop_head l k x m d e
