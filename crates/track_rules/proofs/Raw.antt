-- The records of n tracks with the last one first, as the Rust's vector is held, and what its steps do to them. Assumes nothing.
use Prim.Native.Nat.{ℕ, zero, suc, ◌+◌, ◌*◌, ◌/◌, ◌%◌, ◌≤◌, ◌<◌}
use native.Mathlib.Omega.{arith}
use native.Mathlib.Nat.{add-zero, add-suc}
use mathlib.Core.Path.{◌≡◌, refl, sym, ap, ap₂, ◌∙◌}
use mathlib.Core.Bool.{Bool, true, false, cond, ◌&&◌, ◌||◌}
use mathlib.Core.List.{List, [], ◌∷◌, ◌++◌}
use lib.Dec.{leb, eqb}
use borrow.Author.Tests.{le-leb, lt-leb, eq-eqb, ne_eqb}
use Rattle.sizing.specs.declared.MinMax.{MinMax}
use Rattle.sizing.specs.declared.Sizing.{Sizing}
use Rattle.track_rules.specs.Records.{listed, open_to}
use Rattle.track_rules.specs.Rust.{RustTrack, rust_gutter, rust_track, pushes, close_back, close_first, close_last, in_order}
use Rattle.track_rules.proofs.Opened.{open_le, open_closed, open_last}

pub or_true : (b : Bool) → (b || true) ≡ true
or_true true = refl
or_true false = refl

pub or-none : (b : Bool) → (b || false) ≡ b
or-none true = refl
or-none false = refl

pub or-twice : (x b y : Bool) → ((x || (b && y)) || y) ≡ (x || (true && y))
or-twice true b y = refl
or-twice false true true = refl
or-twice false true false = refl
or-twice false false y = refl

-- the records of n tracks, last one first: gutter g collapsed by gs, track t by f
abbrev pub raw : Sizing → (ℕ → MinMax) → (ℕ → Bool) → (ℕ → Bool) → ℕ → List RustTrack
raw gap size f gs zero = rust_gutter gap (gs 0) ∷ []
raw gap size f gs (suc n) = rust_gutter gap (gs (suc n)) ∷ rust_track (size n) (f n) ∷ raw gap size f gs n

module _ (gap : Sizing) (size : ℕ → MinMax) (f : ℕ → Bool) where
  pub raw_same : (gs hs : ℕ → Bool) (n : ℕ) → ((g : ℕ) → g ≤ n → gs g ≡ hs g) → raw gap size f gs n ≡ raw gap size f hs n
  raw_same gs hs zero h = ap (λ (b : Bool). rust_gutter gap b ∷ []) (h 0 (omega arith))
  raw_same gs hs (suc n) h =
      ap₂ (λ (b : Bool) (l : List RustTrack). rust_gutter gap b ∷ rust_track (size n) (f n) ∷ l) (h (suc n) (omega arith)) (raw_same gs hs n (λ g k. h g (omega arith)))

  pub raw-push : (gs : ℕ → Bool) (s : ℕ → MinMax) (c : ℕ → Bool) (n k : ℕ) → ((i : ℕ) → i < k → s i ≡ size (n + i)) → ((i : ℕ) → i < k → c i ≡ f (n + i)) → ((i : ℕ) → i < k → gs (suc (n + i)) ≡ f (n + i)) →
      pushes gap s c k (raw gap size f gs n) ≡ raw gap size f gs (n + k)
  raw-push gs s c n zero hs hc hg = rw (add-zero n)
  raw-push gs s c n (suc k) hs hc hg =
      rw (add-suc n k, hs k (omega arith), hc k (omega arith), hg k (omega arith))
      (ap (λ (l : List RustTrack). rust_gutter gap (f (n + k)) ∷ rust_track (size (n + k)) (f (n + k)) ∷ l) (raw-push gs s c n k (λ i h. hs i (omega arith)) (λ i h. hc i (omega arith)) (λ i h. hg i (omega arith))))

  gutter-closes : (b : Bool) (l : List RustTrack) → close_back (rust_gutter gap b ∷ l) ≡ rust_gutter gap true ∷ close_back l
  gutter-closes true l = refl
  gutter-closes false l = refl

  pub raw-close : (gs : ℕ → Bool) (n : ℕ) → close_back (raw gap size f gs n) ≡ raw gap size f (λ g. gs g || leb (open_to f n) g) n
  raw-close gs zero = gutter-closes (gs 0) [] ∙ ap (λ (b : Bool). rust_gutter gap b ∷ []) (sym (ap (λ (b : Bool). gs 0 || b) (le-leb (open_to f 0) 0 (open_le f 0)) ∙ or_true (gs 0)))
  raw-close gs (suc n) =
      gutter-closes (gs (suc n)) (rust_track (size n) (f n) ∷ raw gap size f gs n)
      ∙ ap₂ (λ (b : Bool) (l : List RustTrack). rust_gutter gap b ∷ l)
      (sym (ap (λ (b : Bool). gs (suc n) || b) (le-leb (open_to f (suc n)) (suc n) (open_le f (suc n))) ∙ or_true (gs (suc n))))
      (go (raw-close gs n) (f n) refl)
    where
      go : close_back (raw gap size f gs n) ≡ raw gap size f (λ g. gs g || leb (open_to f n) g) n → (b : Bool) → f n ≡ b →
          close_back (rust_track (size n) (f n) ∷ raw gap size f gs n) ≡ rust_track (size n) (f n) ∷ raw gap size f (λ g. gs g || leb (open_to f (suc n)) g) n
      go rec true e = rw (e, open_closed f n e) (ap (λ (l : List RustTrack). rust_track (size n) true ∷ l) rec)
      go rec false e =
          rw e (ap (λ (l : List RustTrack). rust_track (size n) false ∷ l)
          (raw_same gs (λ g. gs g || leb (open_to f (suc n)) g) n (λ g h. sym (ap (λ (b : Bool). gs g || b) (lt-leb (open_to f (suc n)) g (omega (arith, open_last f n e))) ∙ or-none (gs g)))))

  -- the ends
  pub raw-first : (gs : ℕ → Bool) (n : ℕ) → close_first (raw gap size f gs n) ≡ raw gap size f (λ g. eqb g 0 || gs g) n
  raw-first gs zero = gutter-first (gs 0)
    where
      gutter-first : (b : Bool) → close_first (rust_gutter gap b ∷ []) ≡ rust_gutter gap true ∷ []
      gutter-first true = refl
      gutter-first false = refl
  raw-first gs (suc n) =
      below n ∙ ap₂ (λ (b : Bool) (l : List RustTrack). rust_gutter gap b ∷ rust_track (size n) (f n) ∷ l)
      (sym (ap (λ (b : Bool). b || gs (suc n)) (ne_eqb (suc n) 0 (λ e. omega arith)))) (raw-first gs n)
    where
      below : (m : ℕ) → close_first (rust_gutter gap (gs (suc n)) ∷ rust_track (size n) (f n) ∷ raw gap size f gs m) ≡ rust_gutter gap (gs (suc n)) ∷ rust_track (size n) (f n) ∷ close_first (raw gap size f gs m)
      below zero = refl
      below (suc m) = refl

  pub raw-last : (gs : ℕ → Bool) (n : ℕ) → close_last (raw gap size f gs n) ≡ raw gap size f (λ g. eqb g n || gs g) n
  raw-last gs zero = gutter-last (gs 0)
    where
      gutter-last : (b : Bool) → close_last (rust_gutter gap b ∷ []) ≡ rust_gutter gap true ∷ []
      gutter-last true = refl
      gutter-last false = refl
  raw-last gs (suc n) =
      top (gs (suc n)) ∙ ap₂ (λ (b : Bool) (l : List RustTrack). rust_gutter gap b ∷ rust_track (size n) (f n) ∷ l)
      (sym (ap (λ (b : Bool). b || gs (suc n)) (eq-eqb (suc n) (suc n) refl)))
      (raw_same gs (λ g. eqb g (suc n) || gs g) n (λ g h. sym (ap (λ (b : Bool). b || gs g) (ne_eqb g (suc n) (λ e. omega arith)))))
    where
      top : (b : Bool) → close_last (rust_gutter gap b ∷ rust_track (size n) (f n) ∷ raw gap size f gs n) ≡ rust_gutter gap true ∷ rust_track (size n) (f n) ∷ raw gap size f gs n
      top true = refl
      top false = refl

  -- in order
  abbrev pub shown : (ℕ → Bool) → ℕ → RustTrack
  shown gs i = cond (eqb (i % 2) 0) (rust_gutter gap (gs (i / 2))) (rust_track (size (i / 2)) (f (i / 2)))

  pub raw-order : (gs : ℕ → Bool) (n : ℕ) → in_order (raw gap size f gs n) ≡ listed (shown gs) (2 * n + 1)
  raw-order gs zero = refl
  raw-order gs (suc n) =
      let k : 2 * suc n + 1 ≡ suc (suc (2 * n + 1)) = omega arith in
      let o : (2 * n + 1) % 2 ≡ 1 = omega arith in
      let p : (2 * n + 1) / 2 ≡ n = omega arith in
      let q : suc (2 * n + 1) % 2 ≡ 0 = omega arith in
      let r : suc (2 * n + 1) / 2 ≡ suc n = omega arith in
      let x : shown gs (2 * n + 1) ≡ rust_track (size n) (f n) = rw (ne_eqb ((2 * n + 1) % 2) 0 (λ e. omega arith), p) in
      let y : shown gs (suc (2 * n + 1)) ≡ rust_gutter gap (gs (suc n)) = rw (eq-eqb (suc (2 * n + 1) % 2) 0 q, r) in
      rw (k, x, y) (ap (λ (l : List RustTrack). (l ++ (rust_track (size n) (f n) ∷ [])) ++ (rust_gutter gap (gs (suc n)) ∷ [])) (raw-order gs n))
