-- Laws of lists laid one after the other. Assumes nothing.
use Prim.Native.Nat.{ℕ, zero, suc, ◌+◌, ◌-◌, ◌≤◌, ◌<◌}
use mathlib.Core.Path.{◌≡◌, refl, sym, ap, ◌∙◌}
use mathlib.Core.List.{List, [], ◌∷◌, ◌++◌, append_assoc, append-nil, map}
use mathlib.Core.Bool.{Bool, true, false}
use lib.Dec.{ltb}
use borrow.Author.Tests.{ltb-true, ltb-false}
use native.Mathlib.Numerals.{add-one}
use native.Mathlib.Omega.{arith}
use lib.ListN.{length, get_or, take, drop, set, replicate, length-append, length-drop, length-take, length-replicate, replicate-append-replicate, get_or-replicate, get_or-append, get_or-eq_default}
use lib.Seq.{take-append-add, sets-eq, drop-append-add, drop-drop, take-append-le, take-set-lt, set-append_seam, set-append_left, get_or-take, get_or-append-add, take_all, take-take, take_at, sets}
use Rattle.axis_tables.specs.Lay.{pad, Region, region, lay, start_of, held_at, joined}

pub length-pad : (n : ℕ) (l : List ℕ) → length (pad n l) ≡ n
unfolding pad
length-pad n l = simp (length-take, length-append, length-replicate) (omega arith)

-- one number more
pub pad-put : (n : ℕ) (l : List ℕ) (x : ℕ) → length l < n → set (pad n l) (length l) x ≡ pad n (l ++ (x ∷ []))
unfolding pad
pad-put zero l x h = absurd (omega arith)
pad-put (suc m) l x h =
    sym (take-set-lt (suc m) (l ++ replicate (suc m) 0) (length l) x h)
    ∙ ap (take (suc m)) (set-append_seam l 0 (replicate m 0) x)
    ∙ ap (take (suc m)) (sym (append_assoc l (x ∷ []) (replicate m 0)))
    ∙ sym (take-append-le (suc m) ((l ++ (x ∷ [])) ++ replicate m 0) (0 ∷ []) (simp (length-append, length-replicate) (omega arith)))
    ∙ ap (take (suc m)) (append_assoc (l ++ (x ∷ [])) (replicate m 0) (replicate 1 0))
    ∙ ap (λ (r : List ℕ). take (suc m) ((l ++ (x ∷ [])) ++ r)) (replicate-append-replicate m 1 0)
    ∙ ap (λ (k : ℕ). take (suc m) ((l ++ (x ∷ [])) ++ replicate k 0)) (add-one m)

-- many more
pub pad_puts : (n : ℕ) (ys l : List ℕ) → length l + length ys ≤ n → sets (pad n l) (length l) ys ≡ pad n (l ++ ys)
pad_puts n [] l h = ap (pad n) (sym (append-nil l))
pad_puts n (y ∷ ys) l h =
    let e : length (l ++ (y ∷ [])) ≡ suc (length l) = simp length-append (omega arith) in
    ap (λ (s : List ℕ). sets s (suc (length l)) ys) (pad-put n l y (omega arith))
    ∙ ap (λ (k : ℕ). sets (pad n (l ++ (y ∷ []))) k ys) (sym e)
    ∙ pad_puts n ys (l ++ (y ∷ [])) (omega arith)
    ∙ ap (pad n) (append_assoc l (y ∷ []) ys)

pub pad-get : (n : ℕ) (l : List ℕ) (i : ℕ) → i < n → get_or (pad n l) i 0 ≡ get_or l i 0
unfolding pad
pad-get n l i h = get_or-take n (l ++ replicate n 0) i 0 h ∙ go (ltb i (length l)) refl
  where
    go : (t : Bool) → ltb i (length l) ≡ t → get_or (l ++ replicate n 0) i 0 ≡ get_or l i 0
    go true e = get_or-append l (replicate n 0) 0 i (ltb-true i (length l) e)
    go false e =
        let k : length l ≤ i = ltb-false i (length l) e in
        let z : i ≡ length l + (i - length l) = omega arith in
        ap (λ (j : ℕ). get_or (l ++ replicate n 0) j 0) z
        ∙ get_or-append-add l (replicate n 0) (i - length l) 0
        ∙ get_or-replicate n (i - length l) 0 0 (omega arith)
        ∙ sym (get_or-eq_default l 0 k)

-- what was held is first
pub pad-take : (n : ℕ) (l : List ℕ) → length l ≤ n → take (length l) (pad n l) ≡ l
unfolding pad
pad-take n l h = take-take (length l) n (l ++ replicate n 0) h ∙ take_at l (replicate n 0) (length l) refl

pub pad-none : (n : ℕ) → pad n [] ≡ replicate n 0
unfolding pad
pad-none n = take_all n (replicate n 0) (simp length-replicate (omega arith))

set_append_add : (xs ys : List ℕ) (n a : ℕ) → set (xs ++ ys) (length xs + n) a ≡ xs ++ set ys n a
set_append_add [] ys n a =
    let e : 0 + n ≡ n = omega arith in
    ap (λ (k : ℕ). set ys k a) e
set_append_add (x ∷ xs) ys n a =
    let e : suc (length xs) + n ≡ suc (length xs + n) = omega arith in
    ap (λ (k : ℕ). set (x ∷ (xs ++ ys)) k a) e
    ∙ ap (λ (r : List ℕ). x ∷ r) (set_append_add xs ys n a)

pub lay-put : (rs : List Region) (k x n p : ℕ) → length (held_at rs k).held ≡ n → n < (held_at rs k).room → p ≡ start_of rs k + n
    → set (lay rs) p x ≡ lay (joined rs k x)
unfolding lay
lay-put [] k x n p e h q = absurd (omega arith)
lay-put (r ∷ rs) zero x n p e h q =
    let z : p ≡ length r.held = omega arith in
    ap (λ (j : ℕ). set (pad r.room r.held ++ lay rs) j x) z
    ∙ set-append_left (pad r.room r.held) (lay rs) (length r.held) x (omega (arith, length-pad r.room r.held))
    ∙ ap (λ (l : List ℕ). l ++ lay rs) (pad-put r.room r.held x (omega arith))
lay-put (r ∷ rs) (suc k) x n p e h q =
    let z : p ≡ length (pad r.room r.held) + (start_of rs k + n) = omega (arith, length-pad r.room r.held) in
    ap (λ (j : ℕ). set (pad r.room r.held ++ lay rs) j x) z
    ∙ set_append_add (pad r.room r.held) (lay rs) (start_of rs k + n) x
    ∙ ap (λ (l : List ℕ). pad r.room r.held ++ l) (lay-put rs k x n (start_of rs k + n) e h refl)

pub lay-get : (rs : List Region) (k i p : ℕ) → i < (held_at rs k).room → p ≡ start_of rs k + i → get_or (lay rs) p 0 ≡ get_or (held_at rs k).held i 0
unfolding lay
lay-get [] k i p h q = absurd (omega arith)
lay-get (r ∷ rs) zero i p h q =
    let z : p ≡ i = omega arith in
    ap (λ (j : ℕ). get_or (pad r.room r.held ++ lay rs) j 0) z
    ∙ get_or-append (pad r.room r.held) (lay rs) 0 i (omega (arith, length-pad r.room r.held))
    ∙ pad-get r.room r.held i h
lay-get (r ∷ rs) (suc k) i p h q =
    let z : p ≡ length (pad r.room r.held) + (start_of rs k + i) = omega (arith, length-pad r.room r.held) in
    ap (λ (j : ℕ). get_or (pad r.room r.held ++ lay rs) j 0) z
    ∙ get_or-append-add (pad r.room r.held) (lay rs) (start_of rs k + i) 0
    ∙ lay-get rs k i (start_of rs k + i) h refl

-- nothing held: zeros
abbrev pub bare : ℕ → Region
bare n = region n []

abbrev pub total : List ℕ → ℕ
total [] = 0
total (n ∷ ns) = n + total ns

pub lay-none : (ns : List ℕ) → lay (map bare ns) ≡ replicate (total ns) 0
unfolding lay
lay-none [] = refl
lay-none (n ∷ ns) =
    ap (λ (l : List ℕ). l ++ lay (map bare ns)) (pad-none n)
    ∙ ap (λ (l : List ℕ). replicate n 0 ++ l) (lay-none ns)
    ∙ replicate-append-replicate n (total ns) 0

-- many more in a store whose rest is kept, as a direct entry leaves it
pub pasted_puts : (b l s : List ℕ) → length b + length l ≤ length s
    → sets (b ++ drop (length b) s) (length b) l ≡ (b ++ l) ++ drop (length (b ++ l)) s
pasted_puts b l s h =
    let e : length (b ++ drop (length b) s) ≡ length s = length-append b (drop (length b) s) ∙ ap (λ (n : ℕ). length b + n) (length-drop (length b) s) ∙ omega arith in
    sets-eq l (b ++ drop (length b) s) (length b) (omega arith)
    ∙ rw (take_at b (drop (length b) s) (length b) refl, drop-append-add b (drop (length b) s) (length l), drop-drop (length l) (length b) s, length-append b l)

-- what was held, and the rest
pub pad-is : (n : ℕ) (l : List ℕ) → length l ≤ n → pad n l ≡ l ++ take (n - length l) (replicate n 0)
unfolding pad
pad-is n l h =
    let e : n ≡ length l + (n - length l) = omega arith in
    ap (λ (k : ℕ). take k (l ++ replicate n 0)) e ∙ take-append-add l (replicate n 0) (n - length l)

-- a region, cut to what it holds
pub lay_part : (rs : List Region) (k n p : ℕ) → length (held_at rs k).held ≡ n → n ≤ (held_at rs k).room → p ≡ start_of rs k
    → take n (drop p (lay rs)) ≡ (held_at rs k).held
unfolding lay
lay_part [] k n p e h q =
    let z : n ≡ 0 = omega arith in
    ap (λ (m : ℕ). take m (drop p [])) z
lay_part (r ∷ rs) zero n p e h q =
    let z : p ≡ 0 = omega arith in
    ap (λ (j : ℕ). take n (drop j (pad r.room r.held ++ lay rs))) z
    ∙ take-append-le n (pad r.room r.held) (lay rs) (omega (arith, length-pad r.room r.held))
    ∙ ap (λ (m : ℕ). take m (pad r.room r.held)) (sym e)
    ∙ pad-take r.room r.held (omega arith)
lay_part (r ∷ rs) (suc k) n p e h q =
    let z : p ≡ length (pad r.room r.held) + start_of rs k = omega (arith, length-pad r.room r.held) in
    ap (λ (j : ℕ). take n (drop j (pad r.room r.held ++ lay rs))) z
    ∙ ap (take n) (drop-append-add (pad r.room r.held) (lay rs) (start_of rs k))
    ∙ lay_part rs k n (start_of rs k) e h refl
