-- The written entries lie on lines 1 to 20,000, and the table gives them back.
use mathlib.Core.Path.{◌≡◌, refl}
use mathlib.Core.Bool.{Bool, true, false}
use mathlib.Core.Logic.{⊎_elim}
use mathlib.Core.List.{List, [], ◌∷◌, ◌++◌, map}
use Prim.Native.Nat.{ℕ, zero, suc, ◌+◌, ◌*◌, ◌≤◌, ◌<◌}
use native.Mathlib.Nat.{le_refl}
use native.Mathlib.Omega.{arith}
use borrow.Author.Tests.{lt-ltb, le-ltb}
use lib.ListN.{length, take, drop, length-map}
use lib.Seq.{sets, sets-eq, take_at}
use Rattle.coordinates.specs.Refusals.{no_refusal}
use Rattle.template_rules.specs.Template.{component_of}
use Rattle.name_entries.specs.declared.NameEntry.{NameEntry}
use Rattle.name_entries.specs.Entries.{named_entry, entries_of}
use Rattle.name_entries.specs.Enter.{Within}
use Rattle.name_entries.proofs.Entering.{entry-word, entries_cons, entries_nil}
use Rattle.name_entries.specs.Places.{name_place}
use Rattle.name_template.specs.Records.{leading, names_at, names_after}
use Rattle.name_template.specs.Writing.{names_written, entries_on, repeated_names, line_after_repeat, line_after, times_of, written_from, written_entries, entry_word}
use Rattle.name_template.specs.Lines.{Placed, Below, FewTracks}
use Rattle.name_template.proofs.Repeats.{past, line_bound}
use Rattle.name_template.proofs.Placing.{small-place, small-offset, small-length}

below-take : (used n : ℕ) (names : List ℕ) → Below used names → Below used (take n names)
below-take used zero names h = tt
below-take used (suc n) [] h = tt
below-take used (suc n) (w ∷ l) h = (h.0, below-take used n l h.1)

below-drop : (used n : ℕ) (names : List ℕ) → Below used names → Below used (drop n names)
below-drop used zero names h = h
below-drop used (suc n) [] h = tt
below-drop used (suc n) (w ∷ l) h = below-drop used n l h.1

below_at : (used : ℕ) (inside : Bool) (k : ℕ) (names : List ℕ) → Below used names → Below used (names_at inside k names)
below_at used inside k names h = below-take used (leading inside k names) names h

below-after : (used : ℕ) (inside : Bool) (k : ℕ) (names : List ℕ) → Below used names → Below used (names_after inside k names)
below-after used inside k names h = below-drop used (leading inside k names) names h

placed-more : (last more used : ℕ) (l : List NameEntry) → last ≤ more → Placed last used l → Placed more used l
placed-more last more used [] le h = tt
placed-more last more used (e ∷ l) le h = let k = h.1 in (h.0, omega arith, h.2, h.3, h.4, placed-more last more used l le h.5)

placed-both : (last used : ℕ) (l m : List NameEntry) → Placed last used l → Placed last used m → Placed last used (l ++ m)
placed-both last used [] m h g = g
placed-both last used (e ∷ l) m h g = (h.0, h.1, h.2, h.3, h.4, placed-both last used l m h.5 g)

on_placed : (line last used : ℕ) (names : List ℕ) → Below used names → 1 ≤ line → line + 254 ≤ last → Placed last used (entries_on line names)
on_placed line last used [] below h g = tt
on_placed line last used (w ∷ l) below h g =
    let x = small-place w (name_place w) refl in
    let y = small-offset w (name_place w) refl in
    let z = small-length w (name_place w) refl in
    (omega arith, omega arith, below.0, omega arith, omega arith, on_placed line last used l below.1 h g)

repeat_placed : (n line t b used : ℕ) (names : List ℕ) → Below used names → 1 ≤ line → line ≤ b → 10000 ≤ b
    → Placed (b + 254) used (repeated_names n line t names)
unfolding repeated_names
repeat_placed zero line t b used names below h g k = tt
repeat_placed (suc n) line t b used names below h g k =
    placed-both (b + 254) used (entries_on line names) _ (on_placed line (b + 254) used names below h (omega arith))
    (⊎_elim
    (λ (p : 10000 < line + t). rw (lt-ltb 10000 (line + t) p) tt)
    (λ (p : line + t ≤ 10000). rw (le-ltb 10000 (line + t) p) (repeat_placed n (line + t) t b used names below (omega arith) (omega arith) k))
    (past (line + t)))

after_from : (n line t : ℕ) → line ≤ line_after_repeat n line t
unfolding line_after_repeat
after_from zero line t = le_refl line
after_from (suc n) line t =
    ⊎_elim
    (λ (p : 10000 < line + t). rw (lt-ltb 10000 (line + t) p) (omega arith))
    (λ (p : line + t ≤ 10000). rw (le-ltb 10000 (line + t) p) (let k = after_from n (line + t) t in omega arith))
    (past (line + t))

line_from : (n line t : ℕ) → line ≤ line_after n line t
line_from zero line t = omega arith
line_from (suc n) line t = after_from (suc n) line t

written-placed : (repetitions k line b used : ℕ) (names components : List ℕ) → Below used names → 1 ≤ line → line ≤ b → 10000 ≤ b → FewTracks components
    → Placed (b + 33 * length components + 254) used (written_from repetitions k line names components)
unfolding written_from
written-placed repetitions k line b used names [] below h g m few =
    on_placed line _ used (names_at false k names) (below_at used false k names below) h (omega arith)
written-placed repetitions k line b used names (w ∷ components) below h g m few =
    let times = times_of repetitions (component_of w).count in
    let tracks = (component_of w).length in
    let t : tracks ≤ 32 = few.0 in
    let rest = names_after false k names in
    let below_rest : Below used rest = below-after used false k names below in
    let last = b + 33 * length (w ∷ components) + 254 in
    let next = line_after times line tracks in
    let up = line_bound times line tracks b g m in
    let from = line_from times line tracks in
    let one = entries_on line (names_at false k names) in
    let two = repeated_names times line tracks (names_at true k rest) in
    let three = written_from repetitions (suc k) next (names_after true k rest) components in
    placed-both last used one (two ++ three) (on_placed line last used (names_at false k names) (below_at used false k names below) h (omega arith))
    (placed-both last used two three
    (placed-more (b + 254) last used two (omega arith)
    (repeat_placed times line tracks b used (names_at true k rest) (below_at used true k rest below_rest) h g m))
    (placed-more (b + 33 + 33 * length components + 254) last used three (omega arith)
    (written-placed repetitions (suc k) next (b + 33) used (names_after true k rest) components (below-after used true k rest below_rest) (omega arith) (omega arith) (omega arith) few.1)))

-- a template of at most 64 components with at most 32 tracks each
pub written-lines : (names components : List ℕ) (repetitions used : ℕ) → Below used names → length components ≤ 64 → FewTracks components
    → Placed 20000 used (written_entries names components repetitions)
written-lines names components repetitions used below h few =
    placed-more (10000 + 33 * length components + 254) 20000 used (written_entries names components repetitions) (omega arith)
    (written-placed repetitions 0 1 10000 used names components below (omega arith) (omega arith) (omega arith) few)

-- entries that fit their words are read back
pub read_back : (used : ℕ) (l : List NameEntry) (store : List ℕ) → Placed 20000 used l → entries_of (map entry_word l) store ≡ map (named_entry store) l
read_back used [] store h = entries_nil store
read_back used (e ∷ l) store h =
    let f = h.1 in let g = h.3 in let i = h.4 in
    rw (entries_cons, entry-word e.line e.offset e.length (omega arith) g i, read_back used l store h.5)

read_within : (used : ℕ) (l : List NameEntry) → Placed 20000 used l → Within used (map entry_word l)
read_within used [] h = tt
read_within used (e ∷ l) h =
    let f = h.1 in let g = h.3 in let i = h.4 in
    (rw (entry-word e.line e.offset e.length (omega arith) g i) h.2, read_within used l h.5)

-- the table's first places hold the entries
module _ (names components entries : List ℕ) (repetitions used : ℕ) (below : Below used names) (few : length components ≤ 64) (tracks : FewTracks components)
    (fits : length (written_entries names components repetitions) ≤ 4096) (room : length (written_entries names components repetitions) ≤ length entries) where
  written : List NameEntry
  written = written_entries names components repetitions

  first-places : take (length written) (sets entries 0 (map entry_word written)) ≡ map entry_word written
  unfolding written
  first-places =
      let e : length (map entry_word written) ≡ length written = length-map written entry_word in
      rw (sets-eq (map entry_word written) entries 0 (rw e (omega arith)))
      (take_at (map entry_word written) (drop (0 + length (map entry_word written)) entries) (length written) e)

  pub table_accepted : (names_written names components repetitions entries).answer.refusal ≡ no_refusal
  unfolding written names_written
  table_accepted = rw (le-ltb 4096 (length written) fits)

  pub table-entries : (store : List ℕ) → let after = names_written names components repetitions entries in
      entries_of (take after.answer.count after.entries) store ≡ map (named_entry store) (written_entries names components repetitions)
  unfolding written names_written
  table-entries store =
      rw (le-ltb 4096 (length written) fits, first-places)
      (read_back used written store (written-lines names components repetitions used below few tracks))

  pub table-within : let after = names_written names components repetitions entries in Within used (take after.answer.count after.entries)
  unfolding written names_written
  table-within =
      rw (le-ltb 4096 (length written) fits, first-places)
      (read_within used written (written-lines names components repetitions used below few tracks))
