-- Listed entries, and the n-th of their lines. Assumes nothing.
use mathlib.Core.Logic.{⊎_elim}
use mathlib.Core.Path.{◌≡◌, refl, sym, ◌∙◌}
use mathlib.Core.Bool.{Bool, true, false, ◌&&◌, ◌||◌}
use mathlib.Core.List.{List, [], ◌∷◌}
use Prim.Native.Nat.{ℕ, zero, suc, ◌+◌, ◌-◌, ◌≤◌, ◌<◌, min}
use native.Mathlib.Omega.{arith}
use borrow.Author.Tests.{lt-ltb, ltb-true, leb-true, eqb-true, eq-eqb}
use lib.Dec.{eqb, ltb, leb}
use lib.ListN.{length, get_or}
use Rattle.coordinates.proofs.Lines.{lt_or_ge}
use Rattle.name_rules.specs.Css.{Bytes}
use Rattle.name_rules.specs.Rule.{any, at, left, eq_bytes, written?}
use Rattle.name_entries.specs.Entries.{entry_of, entries_of, name_in}
use Rattle.name_entries.specs.declared.NameEntry.{NameEntry}
use Rattle.name_lines.specs.Marks.{walk, start_of}
use Rattle.name_lines.specs.declared.Way.TheVariants.{Up, Down}
use Rattle.name_lines.proofs.Suffixes.{never, both, eq_bytes_lem, and_no, and_yes}
use Rattle.name_groups.specs.Listed.{listed_from, listed}
use Rattle.panel_resolving.specs.Listing.{line_at, LinesAscend, up_to, on_line, first_named}
use Rattle.panel_resolving.proofs.Counting.{Marking, all-below}
use Rattle.panel_resolving.proofs.Ascending.{forwards, backwards}
use Rattle.panel_resolving.proofs.Places.{Ascending, count-parted}

-- a listed entry has the name, on a line above n
pub record Lists (store : List ℕ) (nm : Bytes) (n w : ℕ) : Type 0 where
  pub name : eq_bytes (name_in store (entry_of w)) nm ≡ true
  pub above : n < (entry_of w).line
  pub last : (entry_of w).line ≤ 20000

module _ (store : List ℕ) (nm : Bytes) where
  -- the first entry, and those after it
  first-listed : (n w : ℕ) (ws : List ℕ) → listed_from store nm n (w ∷ ws) ≡ true → Lists store nm n w × (listed_from store nm (entry_of w).line ws ≡ true)
  unfolding listed_from
  first-listed n w ws h =
      let line : ℕ = (entry_of w).line in
      let named : Bool = eq_bytes (name_in store (entry_of w)) nm in
      let a = both (named && (ltb n line && leb line 20000)) (listed_from store nm line ws) h in
      let b = both named (ltb n line && leb line 20000) a.0 in
      let d = both (ltb n line) (leb line 20000) b.1 in
      (record { name = b.0; above = ltb-true n line d.0; last = leb-true line 20000 d.1 }, a.1)

  -- the entry at a place
  listed_at : (n : ℕ) (ws : List ℕ) → listed_from store nm n ws ≡ true → (i : ℕ) → i < length ws → Lists store nm n (get_or ws i 0)
  listed_at n [] h i a = absurd (omega arith)
  listed_at n (w ∷ ws) h zero a = (first-listed n w ws h).0
  listed_at n (w ∷ ws) h (suc i) a =
      let f = first-listed n w ws h in
      let r = listed_at (entry_of w).line ws f.1 i (omega arith) in
      record { name = r.name; above = omega (arith, r.above, f.0.above); last = r.last }

  -- each line is above those before it
  listed-rises : (n : ℕ) (ws : List ℕ) → listed_from store nm n ws ≡ true → Ascending ws
  listed-rises n [] h i j a b = absurd (omega arith)
  listed-rises n (w ∷ ws) h i zero a b = absurd (omega arith)
  listed-rises n (w ∷ ws) h zero (suc j) a b = (listed_at (entry_of w).line ws (first-listed n w ws h).1 j (omega arith)).above
  listed-rises n (w ∷ ws) h (suc i) (suc j) a b = listed-rises (entry_of w).line ws (first-listed n w ws h).1 i j (omega arith) (omega arith)

  -- each entry has a name where the listed name is that
  listed-named : (n : ℕ) (ws : List ℕ) → listed_from store nm n ws ≡ true → (other : Bytes) (l : ℕ)
      → any (written? other (suc l)) (entries_of ws store) ≡ (on_line ws l && eq_bytes nm other)
  unfolding entries_of
  listed-named n [] h other l = refl
  listed-named n (w ∷ ws) h other l =
      let f = first-listed n w ws h in
      let e : name_in store (entry_of w) ≡ nm = eq_bytes_lem (name_in store (entry_of w)) nm f.0.name in
      rw (e, listed-named (entry_of w).line ws f.1 other l) (either (eqb (entry_of w).line (suc l)) (on_line ws l) (eq_bytes nm other))
    where
      either : (a b d : Bool) → ((a && d) || (b && d)) ≡ ((a || b) && d)
      either true true true = refl
      either true true false = refl
      either true false true = refl
      either true false false = refl
      either false b d = refl

module _ (store ws : List ℕ) (h : listed store ws ≡ true) where
  -- the name of the first entry
  abbrev first_name : Bytes
  first_name = name_in store (entry_of (get_or ws 0 0))

  -- the lines ascend from 1 to 20,000
  pub ascends : LinesAscend ws
  unfolding listed
  ascends =
      record {
        first = λ i a. (listed_at store first_name 0 ws h i a).above;
        last = λ i a. (listed_at store first_name 0 ws h i a).last;
        rises = listed-rises store first_name 0 ws h;
      }

  -- where the first entry has the name, the lines that have it are those of the entries
  pub all_named : (nm : Bytes) → first_named store ws nm ≡ true → (l : ℕ) → any (written? nm (suc l)) (entries_of ws store) ≡ on_line ws l
  unfolding listed
  all_named nm e l = listed-named store first_name 0 ws h nm l ∙ rw (both (ltb 0 (length ws)) (eq_bytes first_name nm) e).1 (and_yes (on_line ws l))

  -- where it has another, no line has it
  pub none_named : (nm : Bytes) → first_named store ws nm ≡ false → (l : ℕ) → any (written? nm (suc l)) (entries_of ws store) ≡ false
  unfolding listed
  none_named nm e l = listed-named store first_name 0 ws h nm l ∙ other (length ws) refl
    where
      other : (k : ℕ) → length ws ≡ k → (on_line ws l && eq_bytes first_name nm) ≡ false
      other zero z = rw (nothing ws z)
        where
          nothing : (xs : List ℕ) → length xs ≡ 0 → on_line xs l ≡ false
          nothing [] q = refl
          nothing (x ∷ xs) q = absurd (omega (arith, q))
      other (suc k) z =
          let a : ltb 0 (length ws) ≡ true = lt-ltb 0 (length ws) (omega (arith, z)) in
          let b : eq_bytes first_name nm ≡ false = rw a at e in
          rw b (and_no (on_line ws l))

-- the lines of entries that ascend, from a line on and before one
module _ (ws : List ℕ) (h : LinesAscend ws) where
  -- an entry on a line has a place
  on-at : (xs : List ℕ) (l : ℕ) → on_line xs l ≡ true → (i : ℕ) × (i < length xs) × (line_at xs i ≡ suc l)
  on-at [] l g = never g
  on-at (x ∷ xs) l g = go (eqb (entry_of x).line (suc l)) refl g (on-at xs l)
    where
      go : (b : Bool) → eqb (entry_of x).line (suc l) ≡ b → (b || on_line xs l) ≡ true → (on_line xs l ≡ true → (i : ℕ) × (i < length xs) × (line_at xs i ≡ suc l))
          → (i : ℕ) × (i < length (x ∷ xs)) × (line_at (x ∷ xs) i ≡ suc l)
      go true e g rec = (0, omega arith, eqb-true (entry_of x).line (suc l) e)
      go false e g rec = let r = rec g in (suc r.0, omega (arith, r.1), r.2)

  -- where none is on it, none at a place is
  none-on : (xs : List ℕ) (l i : ℕ) → on_line xs l ≡ false → i < length xs → line_at xs i ≡ suc l → ⊥
  none-on [] l i g a q = omega arith
  none-on (x ∷ xs) l i g a q = go (eqb (entry_of x).line (suc l)) refl g (λ j n b. none-on xs l j n b) i a q
    where
      go : (b : Bool) → eqb (entry_of x).line (suc l) ≡ b → (b || on_line xs l) ≡ false → ((j : ℕ) → on_line xs l ≡ false → j < length xs → line_at xs j ≡ suc l → ⊥)
          → (i : ℕ) → i < length (x ∷ xs) → line_at (x ∷ xs) i ≡ suc l → ⊥
      go true e g rec i a q = never (sym g)
      go false e g rec zero a q = never (sym e ∙ eq-eqb (entry_of x).line (suc l) q)
      go false e g rec (suc i) a q = rec i g (omega arith) q

  marking : Marking (line_at ws) (length ws) (on_line ws)
  marking = record { hit = λ l g. on-at ws l g; miss = λ l i g a q. none-on ws l i g a q }

  -- no line is past number 20,000
  held-count : (n : ℕ) → up_to (min n 20000) ws ≡ up_to n ws
  held-count n =
      ⊎_elim
      (λ g. let s : min n 20000 ≡ n = omega arith in rw s)
      (λ g. all (min n 20000) (omega arith) ∙ sym (all n g))
      (lt_or_ge n 20000)
    where
      all : (k : ℕ) → 20000 ≤ k → up_to k ws ≡ length ws
      all k g = all-below (line_at ws) (length ws) h (λ j. up_to j ws) (count-parted ws h.rises) k g

  -- no more lines are at most a number than there are
  pub count-within : (number below : ℕ) → below ≡ up_to number ws → below ≤ length ws
  count-within number below e = omega (arith, (count-parted ws h.rises number).within)

  -- a line is at least 1
  pub line_first : (e : NameEntry) (i : ℕ) → e ≡ entry_of (get_or ws i 0) → i < length ws → 1 ≤ e.line
  line_first e i q a = rw q (h.first i a)

  module _ (number m below : ℕ) (b : below ≡ up_to number ws) where
    -- forwards: the line of an entry
    pub ahead-at : (e : NameEntry) → e ≡ entry_of (get_or ws (below + m) 0) → m < length ws - below → at (e.line - 1) ≡ walk Up (on_line ws) (start_of Up number) m
    ahead-at e q a = rw q (sym ((rw (← b) at (forwards (line_at ws) (length ws) h (on_line ws) marking (λ n. up_to n ws) (count-parted ws h.rises) (20000 - number) number m (omega arith))).there (omega arith)))

    -- or what is left where there are too few
    pub ahead-left : length ws - below ≤ m → left (m - (length ws - below)) ≡ walk Up (on_line ws) (start_of Up number) m
    ahead-left a = sym ((rw (← b) at (forwards (line_at ws) (length ws) h (on_line ws) marking (λ n. up_to n ws) (count-parted ws h.rises) (20000 - number) number m (omega arith))).past (omega arith))

    -- backwards: the line of an entry
    pub behind-at : (e : NameEntry) → e ≡ entry_of (get_or ws (below - 1 - m) 0) → m < below → at (e.line - 1) ≡ walk Down (on_line ws) (start_of Down number) m
    behind-at e q a = rw q (sym ((rw (held-count number, ← b) at (backwards (line_at ws) (length ws) h (on_line ws) marking (λ j. up_to j ws) (count-parted ws h.rises) (min number 20000) m)).there a))

    -- or what is left
    pub behind-left : below ≤ m → left (m - below) ≡ walk Down (on_line ws) (start_of Down number) m
    behind-left a = sym ((rw (held-count number, ← b) at (backwards (line_at ws) (length ws) h (on_line ws) marking (λ j. up_to j ws) (count-parted ws h.rises) (min number 20000) m)).past a)
