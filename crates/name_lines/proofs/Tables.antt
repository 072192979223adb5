-- The lent tables as a loop reads them, and the lines that a suffixed name has. Assumes nothing.
use mathlib.Core.Path.{◌≡◌, refl, sym, ◌∙◌, ap}
use mathlib.Core.Bool.{Bool, true, false, ◌&&◌, ◌||◌}
use mathlib.Core.List.{List, [], ◌∷◌, ◌++◌, append-nil}
use Prim.Native.Nat.{ℕ, suc, ◌+◌, ◌-◌, ◌≤◌, ◌<◌}
use native.Mathlib.Nat.{add-zero}
use native.Mathlib.Numerals.{add-one}
use native.Mathlib.Omega.{arith}
use lib.Dec.{eqb}
use lib.ListN.{length, get_or, drop, drop_of_length-le}
use lib.Seq.{drop-cons, drop-drop, get_or-drop, take_all}
use Rattle.coordinates.specs.declared.axis.Axis.{Axis}
use Rattle.name_rules.specs.Css.{Bytes, Side, start, end, suffix, edge, Entry, Area}
use Rattle.name_rules.specs.Rule.{any, eq_bytes, written?, drawn?}
use Rattle.name_entries.specs.Entries.{entry_of, name_in, named_entry, entries_of}
use Rattle.name_lines.specs.Areas.{side_of, edge_in, area_of, areas_of, edged?, bears, bears_in, bears_joined, sought_in}
use Rattle.name_lines.specs.Marks.{Adds, lies_in}
use Rattle.name_lines.specs.Suffixes.{ends_with, edge_of, side_edge, stem_of, tail_of}
use Rattle.name_lines.proofs.Marking.{or_false, mark-both, mark-same, mark_if, mark-not, mark-outside}
use Rattle.name_lines.proofs.Suffixes.{stems, other_ends, bytes-differ, not-joined, and_no, MadeOf, made_of}
use Rattle.std.specs.Prelude.{Option, Some, None}
use Rattle.name_lines.specs.declared.GridAreaEnd.{GridAreaEnd}
use Rattle.name_lines.specs.declared.GridAreaEnd.TheVariants.{Start, End}

-- the entries from i on
pub entries-step : (p : Entry → Bool) (words store : List ℕ) (i : ℕ) → i < length words
    → any p (entries_of (drop i words) store) ≡ (p (named_entry store (entry_of (get_or words i 0))) || any p (entries_of (drop (i + 1) words) store))
unfolding entries_of
entries-step p words store i h = rw (drop-cons words i 0 h, add-one i)

pub entries-end : (p : Entry → Bool) (words store : List ℕ) (i : ℕ) → length words ≤ i → any p (entries_of (drop i words) store) ≡ false
unfolding entries_of
entries-end p words store i h = rw (drop_of_length-le words h)

-- the areas from i on
module _ (p : Area → Bool) (axis : Axis) (edges areas store : List ℕ) where
  pub areas-step : (i : ℕ) → i < length edges
      → any p (areas_of axis (drop i edges) (drop i areas) store) ≡ (p (area_of axis (get_or edges i 0) (get_or areas i 0) store) || any p (areas_of axis (drop (i + 1) edges) (drop (i + 1) areas) store))
  unfolding areas_of
  areas-step i h = rw (drop-cons edges i 0 h, drop-drop 1 i areas, get_or-drop i areas 0 0, add-zero i, add-one i)

  pub areas-end : (i : ℕ) → length edges ≤ i → any p (areas_of axis (drop i edges) (drop i areas) store) ≡ false
  unfolding areas_of
  areas-end i h = rw (drop_of_length-le edges h)

any_same : {A : Type 0} (f g : A → Bool) (l : List A) → ((a : A) → f a ≡ g a) → any f l ≡ any g l
any_same f g [] e = refl
any_same f g (a ∷ l) e = rw (e a, any_same f g l e)

any_none : {A : Type 0} (f : A → Bool) (l : List A) → ((a : A) → f a ≡ false) → any f l ≡ false
any_none f [] e = refl
any_none f (a ∷ l) e = rw (e a) (any_none f l e)

-- of the edges of an area only that of the suffix has the name
drawn-edge : (nm : Bytes) (s : Side) (number : ℕ) (a : Area) → drawn? (nm ++ suffix s) number a ≡ edged? nm s number a
drawn-edge nm start number a =
    rw (stems a.name nm (suffix start), bytes-differ (a.name ++ suffix end) (nm ++ suffix start) (λ e. other_ends nm a.name (sym e)), and_no (eqb a.to number))
    (or_false (eqb a.from number && eq_bytes a.name nm))
drawn-edge nm end number a =
    rw (stems a.name nm (suffix end), bytes-differ (a.name ++ suffix start) (nm ++ suffix end) (other_ends a.name nm), and_no (eqb a.from number))

bears-edge : (book : List Entry) (areas : List Area) (nm : Bytes) (s : Side) (number : ℕ)
    → (any (written? (nm ++ suffix s) number) book || any (edged? nm s number) areas) ≡ bears book areas (nm ++ suffix s) number
unfolding bears
bears-edge book areas nm s number = rw (any_same (edged? nm s number) (drawn? (nm ++ suffix s) number) areas (λ a. sym (drawn-edge nm s number a)))

-- the number of an edge of an area that lies in the tables
pub edge-line : (axis : Axis) (w n : ℕ) (store : List ℕ) (s : Side) → edge_in axis s w ≡ edge (area_of axis w n store) s
edge-line axis w n store start = refl
edge-line axis w n store end = refl

-- an edge of an area that lies in the tables
module _ (ms : List Bool) (low : ℕ) (axis : Axis) (w n : ℕ) (store : List ℕ) (s : Side) (nm : Bytes) where
  pub edge-marked : (after : List Bool) (line : ℕ) → line ≡ edge_in axis s w → eq_bytes (name_in store (entry_of n)) nm ≡ true → Adds ms after (λ k. eqb line (suc (low + k)))
      → Adds ms after (λ k. edged? nm s (suc (low + k)) (area_of axis w n store))
  edge-marked after line e yea f =
      mark_if ms after low (edge (area_of axis w n store) s) (eq_bytes (name_in store (entry_of n)) nm) yea (rw (e ∙ edge-line axis w n store s) at f)

  pub edge-passed : eq_bytes (name_in store (entry_of n)) nm ≡ false → Adds ms ms (λ k. edged? nm s (suc (low + k)) (area_of axis w n store))
  edge-passed nay = mark-not ms low (edge (area_of axis w n store) s) (eq_bytes (name_in store (entry_of n)) nm) nay

  pub edge-outside : (line : ℕ) → line ≡ edge_in axis s w → lies_in low (length ms) line ≡ false → Adds ms ms (λ k. edged? nm s (suc (low + k)) (area_of axis w n store))
  edge-outside line e o = mark-outside ms low (edge (area_of axis w n store) s) (eq_bytes (name_in store (entry_of n)) nm) (rw (e ∙ edge-line axis w n store s) at o)

-- no drawn area has an edge of a name that ends in neither suffix
bears-plain : (book : List Entry) (areas : List Area) (nm : Bytes) (number : ℕ) → ends_with nm (suffix start) ≡ false → ends_with nm (suffix end) ≡ false
    → any (written? nm number) book ≡ bears book areas nm number
unfolding bears
bears-plain book areas nm number h g =
    rw (any_none (drawn? nm number) areas (λ a. rw (not-joined a.name nm (suffix start) h, not-joined a.name nm (suffix end) g, and_no (eqb a.from number), and_no (eqb a.to number))))
    (sym (or_false (any (written? nm number) book)))

-- a name in two parts, for each side
joined_side : (book : List Entry) (areas : List Area) (nm : Bytes) (s : Side) (number : ℕ)
    → bears_joined book areas nm (side_edge s) number ≡ bears book areas (nm ++ suffix s) number
unfolding bears_joined
joined_side book areas nm start number = bears-edge book areas nm start number
joined_side book areas nm end number = bears-edge book areas nm end number

-- and by the edge that the name itself stands for
joined-name : (book : List Entry) (areas : List Area) (nm : Bytes) (number : ℕ)
    → bears_joined book areas (stem_of nm (edge_of nm)) (edge_of nm) number ≡ bears book areas nm number
unfolding bears_joined
joined-name book areas nm number = go (edge_of nm) (made_of nm)
  where
    go : (e : Option GridAreaEnd) → MadeOf nm e → bears_joined book areas (stem_of nm e) e number ≡ bears book areas nm number
    go (Some Start) m = bears-edge book areas (stem_of nm (Some Start)) start number ∙ ap (λ (l : Bytes). bears book areas l number) m
    go (Some End) m = bears-edge book areas (stem_of nm (Some End)) end number ∙ ap (λ (l : Bytes). bears book areas l number) m
    go None m =
        rw (take_all (length nm - 0) nm (omega arith), append-nil nm)
        (or_false (any (written? nm number) book) ∙ bears-plain book areas nm number m.0 m.1)

-- the same by the lent tables
module _ (axis : Axis) (entries store edges areas areastore : List ℕ) where
  pub sought-side : (nm : Bytes) (s : Side) (l : ℕ)
      → sought_in axis entries store edges areas areastore nm (side_edge s) l ≡ bears_in axis entries store edges areas areastore (nm ++ suffix s) (suc l)
  unfolding sought_in
  sought-side nm s l = joined_side (entries_of entries store) (areas_of axis edges areas areastore) nm s (suc l)

  pub sought-name : (nm : Bytes) (l : ℕ)
      → sought_in axis entries store edges areas areastore (stem_of nm (edge_of nm)) (edge_of nm) l ≡ bears_in axis entries store edges areas areastore nm (suc l)
  unfolding sought_in
  sought-name nm l = joined-name (entries_of entries store) (areas_of axis edges areas areastore) nm (suc l)

-- marks of a name in two parts, by its edge
module _ (axis : Axis) (entries store edges areas areastore : List ℕ) (stem : Bytes) (low : ℕ) (sought : Option GridAreaEnd) where
  pub mark-side : (a b c : List Bool) (side : GridAreaEnd) → sought ≡ Some side
      → Adds a b (λ k. any (written? (stem ++ tail_of (Some side)) (suc (low + k))) (entries_of entries store))
      → Adds b c (λ k. any (edged? stem (side_of side) (suc (low + k))) (areas_of axis edges areas areastore))
      → Adds a c (λ k. sought_in axis entries store edges areas areastore stem sought (low + k))
  unfolding sought_in bears_joined
  mark-side a b c side e f g = rw e (mark-both a b c _ _ f g)

  pub mark-plain : (a b : List Bool) → sought ≡ None
      → Adds a b (λ k. any (written? (stem ++ []) (suc (low + k))) (entries_of entries store))
      → Adds a b (λ k. sought_in axis entries store edges areas areastore stem sought (low + k))
  unfolding sought_in bears_joined
  mark-plain a b e f = rw e (mark-same a b _ _ (λ k. sym (or_false (any (written? (stem ++ []) (suc (low + k))) (entries_of entries store)))) f)
