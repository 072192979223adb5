-- Texts that are added to a line one after the other. Assumes nothing.
use Rattle.std.proofs.Common.{◌≡◌, ℕ, suc, ◌+◌, ◌≤◌, min, List, [], ◌∷◌, ◌++◌, length, take, drop, refl, sym, ap, ap₂, ◌∙◌, append_assoc, append-nil, arith, length-append, length-drop, take-append-drop}
use Rattle.std.proofs.lemmas.List.{length-take-le, set_past, take-take}
use Rattle.std.proofs.lemmas.List.Edits.{sets}
use lib.Seq.{sets-eq, length-sets}
use Rattle.name_template.proofs.Placing.{sets_append}
use Rattle.panel_text.specs.Written.{Adds, AddsField, AddsTwo, WritesLine}

-- a text and one after it
pub add_then : {a b c s t : List ℕ} {m n : ℕ} → Adds a s b m → Adds b t c n → Adds a (s ++ t) c (m + n)
add_then {a} {b} {c} {s} {t} p q =
    record {
      whole = λ (h : length a + length (s ++ t) ≤ 128).
          let e : b ≡ a ++ s = p.whole (omega (arith, h, length-append s t)) in
          q.whole (rw e (omega (arith, h, length-append s t, length-append a s))) ∙ rw e (append_assoc a s t);
      near = omega (arith, p.near, q.near, length-append s t);
    }

-- the bound may be larger
pub add_near : {a s b : List ℕ} {m n : ℕ} → Adds a s b m → m ≤ n → Adds a s b n
add_near p h = record { whole = p.whole; near = omega (arith, p.near) }

-- texts that are equal
pub add_as : {a b s t : List ℕ} {m : ℕ} → s ≡ t → Adds a s b m → Adds a t b m
add_as e p = rw (sym e) p

-- a field, and a text after it
pub field_then : {a b c f t : List ℕ} {e n : ℕ} → AddsField a f e b → Adds b t c n → Adds a (f ++ (e ∷ t)) c (16 + n)
field_then {f = f} {t} {e} p q = rw (sym (append_assoc f (e ∷ []) t)) (add_then p.added q)

pub two_then : {a b c f g t : List ℕ} {n : ℕ} → AddsTwo a f g b → Adds b t c n → Adds a (f ++ (9 ∷ (g ++ (9 ∷ t)))) c (32 + n)
two_then {f = f} {g} {t} p q =
    add_as (append_assoc f (9 ∷ (g ++ (9 ∷ []))) t ∙ ap (λ (l : List ℕ). f ++ (9 ∷ l)) (append_assoc g (9 ∷ []) t)) (add_then p.added q)

-- nothing is added
pub nothing_added : (a : List ℕ) (m : ℕ) → Adds a [] a m
nothing_added a m = record { whole = λ (h : length a + 0 ≤ 128). sym (append-nil a); near = omega arith }

-- ---- a whole line

-- a text of at most 128 bytes was added to a line of which nothing was written, and that was written at the start of bytes
pub line-put : {a b out after line : List ℕ} {k m : ℕ} → a ≡ [] → Adds a line b m → m ≤ 128 → after ≡ sets out 0 b → k ≡ length b → WritesLine out line after k
line-put {a} {b} {line = line} e p h w l =
    let t : b ≡ line = p.whole (rw e (omega (arith, p.near))) ∙ rw e in
    record { bytes = rw (← t) w; whole = rw (← t) l; fits = omega (arith, p.near, rw t at l) }

-- in 128 bytes or more nothing is cut: the line, and then what was there
pub nothing-cut : {a line b : List ℕ} {k : ℕ} → WritesLine a line b k → 128 ≤ length a → b ≡ line ++ drop k a
nothing-cut {a} {line} {b} {k} w h =
    let e : 0 + length line ≡ k = omega (arith, w.whole) in
    w.bytes ∙ sets-eq line a 0 (omega (arith, w.whole, w.fits)) ∙ rw e

-- ---- bytes that are written at the start of others, cut where these end

sets-past : (l : List ℕ) (i : ℕ) (vs : List ℕ) → length l ≤ i → sets l i vs ≡ l
sets-past l i [] h = refl
sets-past l i (v ∷ vs) h = rw (set_past l i v h) (sets-past l (suc i) vs (omega arith))

-- nothing is left to write, or no byte to write it to
none_left : (l vs : List ℕ) (i : ℕ) → (1 ≤ length vs → length l ≤ i) → sets l i vs ≡ l
none_left l [] i h = refl
none_left l (v ∷ vs) i h = sets-past l i (v ∷ vs) (h (omega arith))

pub cut-put : (l vs : List ℕ) (n : ℕ) → n ≡ min (length vs) (length l) → take n vs ++ drop n l ≡ sets l 0 vs
cut-put l vs n e =
    let part : length (take n vs) ≡ n = length-take-le n vs (omega arith) in
    let first : sets l 0 (take n vs) ≡ take n vs ++ drop n l =
    sets-eq (take n vs) l 0 (omega (arith, part)) ∙ ap (λ (k : ℕ). take n vs ++ drop k l) (omega (arith, part)) in
    let same : length (take n vs ++ drop n l) ≡ length l = ap length (sym first) ∙ length-sets l 0 (take n vs) in
    sym (ap (sets l 0) (sym (take-append-drop n vs)) ∙ sets_append l 0 (take n vs) (drop n vs)
    ∙ ap₂ (λ (x : List ℕ) (k : ℕ). sets x k (drop n vs)) first (omega (arith, part))
    ∙ none_left (take n vs ++ drop n l) (drop n vs) n (λ (h : 1 ≤ length (drop n vs)). omega (arith, h, same, length-drop n vs)))

-- a line that is written there from its bytes
pub line_cut : (bytes out line : List ℕ) (count n : ℕ) → take count bytes ≡ line → count ≤ length bytes → n ≡ min count (length out)
    → take n bytes ++ drop n out ≡ sets out 0 line
line_cut bytes out line count n e h m =
    let l : length (take count bytes) ≡ count = length-take-le count bytes h in
    ap (λ (x : List ℕ). x ++ drop n out) (sym (take-take n count bytes (omega (arith, m))))
    ∙ cut-put out (take count bytes) n (m ∙ ap (λ (k : ℕ). min k (length out)) (sym l)) ∙ ap (sets out 0) e
