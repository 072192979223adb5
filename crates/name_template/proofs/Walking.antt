-- The names of one component, as the walk over the records meets them, and what is written out of them.
use mathlib.Core.Path.{◌≡◌, refl}
use mathlib.Core.Bool.{Bool, true, false, cond}
use mathlib.Core.Logic.{⊎_elim, ◌⊎◌, inl, inr}
use mathlib.Core.List.{List, [], ◌∷◌, ◌++◌, map, append_assoc}
use Prim.Native.Nat.{ℕ, zero, suc, ◌+◌, ◌-◌, ◌*◌, ◌/◌, ◌%◌, ◌≤◌, ◌<◌, min}
use native.Mathlib.Nat.{suc-mul}
use native.Mathlib.Numerals.{add-one}
use native.Mathlib.Decide.{dec_lt}
use native.Mathlib.Omega.{arith}
use borrow.Author.Tests.{ne_eqb}
use lib.Dec.{eqb}
use lib.ListN.{length, take, drop, length-append, length-drop, length-map, drop_of_length-le}
use lib.Seq.{drop-drop, sets, length-take-le}
use Rattle.template_rules.specs.Template.{component_of}
use Rattle.name_template.specs.declared.ComponentNames.{ComponentNames}
use Rattle.name_entries.specs.Places.{name_place}
use Rattle.name_template.specs.Records.{stands, leading}
use Rattle.name_template.specs.Writing.{entries_on, line_after, times_of, written_from, entry_word}
use Rattle.name_template.specs.Steps.{repetitions_written, copies_on, component_names, component_count, component_entries, Writable}
use Rattle.name_template.proofs.Placing.{placed-append, part_length}
use Rattle.name_template.proofs.Leading.{leading_le}
use Rattle.name_template.proofs.Repeats.{written-copies, after-written, after_bound, line_bound}

-- a word holds few tracks
pub component-small : (w : ℕ) → w < 18446744073709551616 → (component_of w).length ≤ 65535
unfolding component_of
component-small w h = by (eqb (w / 65536 % 4) 0)
  where
    by : (b : Bool) → cond b 1 (w / 281474976710656) ≤ 65535
    by true = omega arith
    by false = omega arith

-- the records of one kind end within the table
pub ends_within : (inside : Bool) (k : ℕ) (names : List ℕ) (at : ℕ) → at ≤ length names → at + leading inside k (drop at names) ≤ length names
ends_within inside k names at h = let g = leading_le inside k (drop at names) in let e = length-drop at names in omega arith

-- no record names a component from 256 on
none_stand : (inside : Bool) (k w : ℕ) → 256 ≤ k → stands inside k w ≡ false
unfolding stands name_place
none_stand inside k w h = rw (ne_eqb (w % 256) k (λ e. omega arith))

none_lead : (inside : Bool) (k : ℕ) (names : List ℕ) → 256 ≤ k → leading inside k names ≡ 0
unfolding leading
none_lead inside k [] h = refl
none_lead inside k (w ∷ l) h = rw (none_stand inside k w h)

copies-none : (n line t : ℕ) → copies_on n line t [] ≡ []
unfolding copies_on
copies-none zero line t = refl
copies-none (suc n) line t = copies-none n (line + t) t

pub no_copies : (n line t : ℕ) (names : List ℕ) → length names ≡ 0 → copies_on n line t names ≡ []
no_copies n line t [] e = copies-none n line t
no_copies n line t (w ∷ l) e = absurd (omega arith)

none_written : (repetitions k line : ℕ) (names components : List ℕ) → 256 ≤ k → written_from repetitions k line names components ≡ []
unfolding written_from
none_written repetitions k line names [] h = rw (none_lead false k names h)
none_written repetitions k line names (w ∷ l) h =
    let times = times_of repetitions (component_of w).count in
    let tracks = (component_of w).length in
    rw (
      none_lead false k names h,
      none_lead true k names h,
      written-copies times line tracks [],
      copies-none (repetitions_written times line tracks) line tracks,
      none_written repetitions (suc k) (line_after times line tracks) names l (omega arith),
    )

-- the names after the last component
pub last_written : (repetitions k line : ℕ) (names components : List ℕ) → k ≡ min 256 (length components)
    → written_from repetitions k line names (drop k components) ≡ entries_on line (take (leading false k names) names)
unfolding written_from
last_written repetitions k line names components e =
    ⊎_elim
    (λ (g : length components ≤ k). rw (drop_of_length-le components g))
    (λ (g : 256 ≤ k). rw (none_written repetitions k line names (drop k components) g, none_lead false k names g))
    (by (dec_lt k 256))
  where
    by : Dec (k < 256) → (length components ≤ k) ⊎ (256 ≤ k)
    by (yes g) = inl (omega arith)
    by (no g) = inr (omega arith)

pub last-length : (repetitions k line at : ℕ) (names components : List ℕ) → k ≡ min 256 (length components)
    → length (written_from repetitions k line (drop at names) (drop k components)) ≡ leading false k (drop at names)
last-length repetitions k line at names components e =
    rw (last_written repetitions k line (drop at names) components e, length-map)
    (length-take-le (leading false k (drop at names)) (drop at names) (leading_le false k (drop at names)))

pub copies_length : (n line t : ℕ) (names : List ℕ) → length (copies_on n line t names) ≡ n * length names
unfolding copies_on
copies_length zero line t names = omega arith
copies_length (suc n) line t names =
    rw (length-append, length-map, copies_length n (line + t) t names, suc-mul n (length names)) (omega arith)

module _ (names : List ℕ) (at w k line repetitions : ℕ) (r : ComponentNames) (met : r ≡ component_names names at w k line repetitions)
    (within : at ≤ length names) where
  pub met-before : at ≤ r.before
  unfolding component_names
  met-before = rw met (omega arith)

  pub met-inside : r.before ≤ r.inside
  unfolding component_names
  met-inside = rw met (omega arith)

  pub met-within : r.inside ≤ length names
  unfolding component_names
  met-within = rw met (ends_within true k names _ (ends_within false k names at within))

  -- what is written from this component on
  pub met-written : (components : List ℕ)
      → written_from repetitions k line (drop at names) (w ∷ components)
      ≡ component_entries names at r line ++ written_from repetitions (k + 1) r.line (drop r.inside names) components
  unfolding component_names written_from
  met-written components =
      let b = leading false k (drop at names) in
      let i = leading true k (drop (at + b) names) in
      let x : at + b - at ≡ b = omega arith in
      let y : at + b + i - (at + b) ≡ i = omega arith in
      rw (append_assoc, add-one k, met, x, y, ← drop-drop i (at + b) names, ← drop-drop b at names, ← written-copies _ line _ _)

  pub met-count : length (component_entries names at r line) ≡ component_count at r
  met-count =
      let x = met-before in let y = met-inside in let z = met-within in
      let p = part_length names at r.before x (omega arith) in
      let q = part_length names r.before r.inside y z in
      rw (length-append, length-map, p, copies_length, q)

  pub met-length : (components : List ℕ)
      → length (written_from repetitions k line (drop at names) (w ∷ components))
      ≡ component_count at r + length (written_from repetitions (k + 1) r.line (drop r.inside names) components)
  met-length components = rw (met-written components, length-append _ (written_from repetitions (k + 1) r.line (drop r.inside names) components), met-count)

  -- its entries are placed, and then what remains
  pub met-placed : (components d : List ℕ) (o : ℕ)
      → sets d o (map entry_word (written_from repetitions k line (drop at names) (w ∷ components)))
      ≡ sets (sets d o (map entry_word (component_entries names at r line))) (o + component_count at r)
      (map entry_word (written_from repetitions (k + 1) r.line (drop r.inside names) components))
  met-placed components d o =
      let rest = written_from repetitions (k + 1) r.line (drop r.inside names) components in
      rw (met-written components, placed-append d o (component_entries names at r line) rest, met-count)

  -- lines stay small
  few-tracks : r.tracks ≤ 65535 → (component_of w).length ≤ 65535
  unfolding component_names
  few-tracks f = rw met at f

  pub met-line : (b : ℕ) → r.tracks ≤ 65535 → line ≤ b → 10000 ≤ b → r.line ≤ b + 65536
  unfolding component_names
  met-line b f h g =
      let s = few-tracks f in
      let t = line_bound (times_of repetitions (component_of w).count) line (component_of w).length b h g in
      rw met (omega arith)

  pub met-last : (b : ℕ) → r.tracks ≤ 65535 → line ≤ b → 10000 ≤ b → line + r.times * r.tracks ≤ b + 65535
  unfolding component_names
  met-last b f h g =
      let s = few-tracks f in
      let n = times_of repetitions (component_of w).count in
      let t = after_bound n line (component_of w).length b h g in
      let e = after-written n line (component_of w).length in
      rw met (omega arith)

-- where a walk stands: within the records, on a line that is no later than its components allow
pub record Stands (names : List ℕ) (at line k : ℕ) : Type 0 where
  pub placed : at ≤ length names
  pub low : line ≤ 10001 + 65536 * k

pub stands-next : (names : List ℕ) (at w k line repetitions : ℕ) (r : ComponentNames) → r ≡ component_names names at w k line repetitions
    → r.tracks ≤ 65535 → Stands names at line k → Stands names r.inside r.line (k + 1)
stands-next names at w k line repetitions r met f h =
    let t = met-line names at w k line repetitions r met h.placed (10001 + 65536 * k) f h.low (omega arith) in
    record { placed = met-within names at w k line repetitions r met h.placed; low = omega arith }

-- the next component can be written where there is room for what remains
pub writable : (names : List ℕ) (at w k line repetitions : ℕ) (r : ComponentNames) → r ≡ component_names names at w k line repetitions
    → r.tracks ≤ 65535 → Stands names at line k → k ≤ 256 → (room : ℕ) → component_count at r ≤ room → Writable names at r line room
writable names at w k line repetitions r met f h few room fits =
    let t = met-last names at w k line repetitions r met h.placed (10001 + 65536 * k) f h.low (omega arith) in
    record {
      from = met-before names at w k line repetitions r met h.placed;
      to = met-inside names at w k line repetitions r met h.placed;
      within = met-within names at w k line repetitions r met h.placed;
      low = omega arith;
      fits = fits;
    }
