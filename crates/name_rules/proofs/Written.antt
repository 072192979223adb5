-- How often the rule writes a repeat out, how many entries it writes and on which lines; and where each repeat has tracks and is
-- written out at least once and there are at most 10,000 tracks, its entries are the book's. Assumes nothing.
use mathlib.Core.Path.{◌≡◌, refl, sym, ◌∙◌, ap}
use mathlib.Core.Logic.{⊎_elim}
use mathlib.Core.Bool.{Bool, true, false, cond}
use mathlib.Core.List.Memᴰ
use mathlib.Core.List.{List, [], ◌∷◌, ◌++◌, Memᴰ}
use Prim.Native.Nat.{ℕ, zero, suc, ◌+◌, ◌-◌, ◌*◌, ◌/◌, ◌≤◌, ◌<◌, min, max}
use native.Mathlib.Nat.{add-zero, add-suc, suc-add, zero-mul, suc-mul, div-eq_of_lt, div-eq-sub-div}
use native.Mathlib.Omega.{arith}
use borrow.Author.Tests.{lt-ltb, le-ltb, ne_eqb}
use lib.Dec.{ltb, eqb}
use lib.ListN.{length, length-append}
use Rattle.coordinates.proofs.Lines.{lt_or_ge}
use Rattle.name_rules.specs.Css.{Entry}
use Rattle.name_rules.specs.Template.{Piece, label, track, Item, single, repeat, tracks_in, names_in, copies, flat, book_from}
use Rattle.name_rules.specs.Template.{repeated, passed, rule_from, times_written, entry_count_from, entry_count, reach}
use Rattle.name_rules.specs.Template.{WrittenOut}

-- pieces one after the other, and copies of them
book-append : (line : ℕ) (a b : List Piece) → book_from line (a ++ b) ≡ book_from line a ++ book_from (line + tracks_in a) b
book-append line [] b = rw (add-zero line)
book-append line (label n ∷ a) b = ap (λ (l : List Entry). record { line = line; name = n } ∷ l) (book-append line a b)
book-append line (track ∷ a) b = rw (add-suc line (tracks_in a), ← (suc-add line (tracks_in a))) (book-append (suc line) a b)

pub tracks-append : (a b : List Piece) → tracks_in (a ++ b) ≡ tracks_in a + tracks_in b
tracks-append [] b = omega arith
tracks-append (label n ∷ a) b = tracks-append a b
tracks-append (track ∷ a) b = omega (arith, tracks-append a b)

pub tracks-copies : (n : ℕ) (ps : List Piece) → tracks_in (copies n ps) ≡ n * tracks_in ps
tracks-copies zero ps = omega (arith, zero-mul (tracks_in ps))
tracks-copies (suc n) ps = omega (arith, tracks-append ps (copies n ps), tracks-copies n ps, suc-mul n (tracks_in ps))

book-length : (line : ℕ) (l : List Piece) → length (book_from line l) ≡ names_in l
book-length line [] = refl
book-length line (label n ∷ l) = ap suc (book-length line l)
book-length line (track ∷ l) = book-length (suc line) l

names-append : (a b : List Piece) → names_in (a ++ b) ≡ names_in a + names_in b
names-append [] b = omega arith
names-append (label n ∷ a) b = omega (arith, names-append a b)
names-append (track ∷ a) b = names-append a b

names-copies : (n : ℕ) (ps : List Piece) → names_in (copies n ps) ≡ n * names_in ps
names-copies zero ps = omega (arith, zero-mul (names_in ps))
names-copies (suc n) ps = omega (arith, names-append ps (copies n ps), names-copies n ps, suc-mul n (names_in ps))

-- one repetition: the last where it ends past line 10,000
times_none : (line k : ℕ) → times_written 0 line k ≡ 0
times_none line k = go (ltb 10000 line) (eqb k 0)
  where
    go : (a b : Bool) → cond a (min 0 1) (cond b 0 (min 0 (suc ((10000 - line) / k)))) ≡ 0
    go true b = refl
    go false true = refl
    go false false = omega arith

times-last : (n line k : ℕ) → 10000 < line + k → times_written (suc n) line k ≡ 1
times-last n line k h =
    ⊎_elim
    (λ (a : 10000 < line). rw (lt-ltb 10000 line a) (omega arith))
    (λ (a : line ≤ 10000). rw (le-ltb 10000 line a, ne_eqb k 0 (λ e. omega arith)) (omega (arith, div-eq_of_lt {n = 10000 - line} {m = k} (omega arith))))
    (lt_or_ge 10000 line)

times-next : (n line k : ℕ) → line + k ≤ 10000 → times_written (suc n) line k ≡ suc (times_written n (line + k) k)
times-next n line k h = rw (le-ltb 10000 line (omega arith), le-ltb 10000 (line + k) h) (go k h)
  where
    go : (k : ℕ) → line + k ≤ 10000
        → cond (eqb k 0) (suc n) (min (suc n) (suc ((10000 - line) / k))) ≡ suc (cond (eqb k 0) n (min n (suc ((10000 - (line + k)) / k))))
    go zero h = refl
    go (suc k) h =
        rw (ne_eqb (suc k) 0 (λ e. omega arith))
        (let e : 10000 - line - suc k ≡ 10000 - (line + suc k) = omega arith in
        omega (arith, rw e at (div-eq-sub-div {m = suc k} {n = 10000 - line} (omega arith) (omega arith))))

-- the rule writes a repeat out `times_written` times
module _ (ps : List Piece) where
  pub repeated-times : (n line : ℕ) → repeated n line ps ≡ book_from line (copies (times_written n line (tracks_in ps)) ps)
  unfolding repeated
  repeated-times zero line = rw (times_none line (tracks_in ps))
  repeated-times (suc n) line =
      ⊎_elim
      (λ (h : 10000 < line + tracks_in ps).
      rw (lt-ltb 10000 (line + tracks_in ps) h, times-last n line (tracks_in ps) h) (sym (book-append line ps [])))
      (λ (h : line + tracks_in ps ≤ 10000).
      rw (le-ltb 10000 (line + tracks_in ps) h, times-next n line (tracks_in ps) h, repeated-times n (line + tracks_in ps))
      (sym (book-append line ps (copies (times_written n (line + tracks_in ps) (tracks_in ps)) ps))))
      (lt_or_ge 10000 (line + tracks_in ps))

  pub passed-times : (n line : ℕ) → passed n line ps ≡ line + times_written n line (tracks_in ps) * tracks_in ps
  unfolding passed
  passed-times zero line = rw (times_none line (tracks_in ps)) (omega (arith, zero-mul (tracks_in ps)))
  passed-times (suc n) line =
      ⊎_elim
      (λ (h : 10000 < line + tracks_in ps).
      rw (lt-ltb 10000 (line + tracks_in ps) h, times-last n line (tracks_in ps) h) (omega arith))
      (λ (h : line + tracks_in ps ≤ 10000).
      rw (le-ltb 10000 (line + tracks_in ps) h, times-next n line (tracks_in ps) h)
      (omega (arith, passed-times n (line + tracks_in ps), suc-mul (times_written n (line + tracks_in ps) (tracks_in ps)) (tracks_in ps))))
      (lt_or_ge 10000 (line + tracks_in ps))

  repeated-length : (n line : ℕ) → length (repeated n line ps) ≡ times_written n line (tracks_in ps) * names_in ps
  repeated-length n line =
      ap (λ (l : List Entry). length l) (repeated-times n line)
      ∙ book-length line (copies (times_written n line (tracks_in ps)) ps)
      ∙ names-copies (times_written n line (tracks_in ps)) ps

-- how many entries the rule writes
pub entry_count_from_lem : (line : ℕ) (l : List Item) → entry_count_from line l ≡ length (rule_from line l)
unfolding entry_count_from rule_from
entry_count_from_lem line [] = refl
entry_count_from_lem line (single (label n) ∷ l) = ap suc (entry_count_from_lem line l)
entry_count_from_lem line (single track ∷ l) = entry_count_from_lem (suc line) l
entry_count_from_lem line (repeat zero ps ∷ l) =
    rw (times_none line (tracks_in ps), zero-mul (names_in ps)) (omega (arith, entry_count_from_lem (suc line) l))
entry_count_from_lem line (repeat (suc n) ps ∷ l) =
    rw (← (passed-times ps (suc n) line), entry_count_from_lem (passed (suc n) line ps) l, ← (repeated-length ps (suc n) line))
    (sym (length-append (repeated (suc n) line ps) (rule_from (passed (suc n) line ps) l)))

pub entry-count : (l : List Item) → entry_count l ≡ length (rule_from 1 l)
entry-count l = entry_count_from_lem 1 l

-- a repeat within the limit is written out whole
times-whole : (n line k : ℕ) → 1 ≤ k → line + n * k ≤ 10001 → times_written n line k ≡ n
times-whole zero line k one fits = times_none line k
times-whole (suc n) line k one fits =
    let e = suc-mul n k in
    ⊎_elim
    (λ (h : 10000 < line + k). times-last n line k h ∙ last n (omega arith))
    (λ (h : line + k ≤ 10000). times-next n line k h ∙ ap suc (times-whole n (line + k) k one (omega arith)))
    (lt_or_ge 10000 (line + k))
  where
    last : (n : ℕ) → n * k ≡ 0 → 1 ≡ suc n
    last zero e = refl
    last (suc n) e = absurd (omega (arith, suc-mul n k))

pub rule_book : (line : ℕ) (l : List Item) → WrittenOut l → line + tracks_in (flat l) ≤ 10001 → rule_from line l ≡ book_from line (flat l)
unfolding rule_from
rule_book line [] w fits = refl
rule_book line (single (label n) ∷ l) w fits = ap (λ (r : List Entry). record { line = line; name = n } ∷ r) (rule_book line l w fits)
rule_book line (single track ∷ l) w fits = rule_book (suc line) l w (omega arith)
rule_book line (repeat zero ps ∷ l) w fits = absurd (omega (arith, w.0))
rule_book line (repeat (suc n) ps ∷ l) w fits =
    let parts = tracks-append (copies (suc n) ps) (flat l) in
    let c = tracks-copies (suc n) ps in
    let t : times_written (suc n) line (tracks_in ps) ≡ suc n = times-whole (suc n) line (tracks_in ps) w.1 (omega arith) in
    let r : repeated (suc n) line ps ≡ book_from line (copies (suc n) ps) = rw t at (repeated-times ps (suc n) line) in
    let p : passed (suc n) line ps ≡ line + tracks_in (copies (suc n) ps) = rw (t, ← c) at (passed-times ps (suc n) line) in
    rw (book-append line (copies (suc n) ps) (flat l), r, p)
    (ap (λ (e : List Entry). book_from line (copies (suc n) ps) ++ e) (rule_book (line + tracks_in (copies (suc n) ps)) l w.2 (omega arith)))

-- a template's names lie on its lines
pub book_lies : (line : ℕ) (l : List Piece) (e : Entry) → Memᴰ e (book_from line l) → (line ≤ e.line) × (e.line ≤ line + tracks_in l)
book_lies line [] e m = absurd (Memᴰ.not-nil m)
book_lies line (label n ∷ l) e m =
    ⊎_elim (λ (q : e ≡ record { line = line; name = n }). let h : e.line ≡ line = ap (λ (r : Entry). r.line) q in (omega arith, omega arith))
    (λ h. book_lies line l e h) (Memᴰ.cases_cons m)
book_lies line (track ∷ l) e m = let h = book_lies (suc line) l e m in (omega arith, omega arith)

-- the rule's entries lie from the first line on, and no further past line 10,000 than the tracks of each repeat, written once, go
repeated_lies : (n line : ℕ) (ps : List Piece) (e : Entry) → Memᴰ e (repeated n line ps)
    → (line ≤ e.line) × (e.line ≤ max line 10000 + tracks_in ps)
unfolding repeated
repeated_lies zero line ps e m = absurd (Memᴰ.not-nil m)
repeated_lies (suc n) line ps e m =
    ⊎_elim
    (λ b. let h = book_lies line ps e b in (omega arith, omega arith))
    (λ b.
    ⊎_elim
    (λ (h : 10000 < line + tracks_in ps). absurd (Memᴰ.not-nil (rw (lt-ltb 10000 (line + tracks_in ps) h) at b)))
    (λ (h : line + tracks_in ps ≤ 10000).
    let r = repeated_lies n (line + tracks_in ps) ps e (rw (le-ltb 10000 (line + tracks_in ps) h) at b) in (omega arith, omega arith))
    (lt_or_ge 10000 (line + tracks_in ps)))
    (Memᴰ.append_cases _ m)

pub passed_lies : (n line : ℕ) (ps : List Piece) → (line ≤ passed n line ps) × (passed n line ps ≤ max line 10000 + tracks_in ps)
unfolding passed
passed_lies zero line ps = (omega arith, omega arith)
passed_lies (suc n) line ps =
    ⊎_elim
    (λ (h : 10000 < line + tracks_in ps). rw (lt-ltb 10000 (line + tracks_in ps) h) (omega arith, omega arith))
    (λ (h : line + tracks_in ps ≤ 10000).
    let r = passed_lies n (line + tracks_in ps) ps in rw (le-ltb 10000 (line + tracks_in ps) h) (omega arith, omega arith))
    (lt_or_ge 10000 (line + tracks_in ps))

pub rule_lies : (line : ℕ) (l : List Item) (e : Entry) → Memᴰ e (rule_from line l) → (line ≤ e.line) × (e.line ≤ max line 10000 + reach l)
unfolding rule_from
rule_lies line [] e m = absurd (Memᴰ.not-nil m)
rule_lies line (single (label n) ∷ l) e m =
    ⊎_elim (λ (q : e ≡ record { line = line; name = n }). let h : e.line ≡ line = ap (λ (r : Entry). r.line) q in (omega arith, omega arith))
    (λ h. rule_lies line l e h) (Memᴰ.cases_cons m)
rule_lies line (single track ∷ l) e m = let h = rule_lies (suc line) l e m in (omega arith, omega arith)
rule_lies line (repeat zero ps ∷ l) e m = let h = rule_lies (suc line) l e m in (omega arith, omega arith)
rule_lies line (repeat (suc n) ps ∷ l) e m =
    let p = passed_lies (suc n) line ps in
    ⊎_elim
    (λ b. let h = repeated_lies (suc n) line ps e b in (omega arith, omega arith))
    (λ b. let h = rule_lies (passed (suc n) line ps) l e b in (omega arith, omega arith))
    (Memᴰ.append_cases _ m)
