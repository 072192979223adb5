-- What is read of a line-name store, and what is entered in it, lies in the bytes that an entry reaches. Assumes nothing.
use Prim.Native.Nat.{ℕ, zero, suc, ◌+◌, ◌/◌, ◌%◌, ◌≤◌, ◌<◌, min}
use mathlib.Core.Path.{◌≡◌, refl, sym, ap, ap₂, ◌∙◌}
use mathlib.Core.Bool.{Bool, true, false, cond}
use mathlib.Core.Logic.{⊎_elim}
use mathlib.Core.List.{List, [], ◌∷◌}
use native.Mathlib.Omega.{arith}
use borrow.Author.Tests.{lt-ltb, le-ltb}
use lib.Dec.{eqb}
use lib.ListN.{length, take, drop, set, length-take}
use lib.Seq.{sets, take-take}
use Rattle.coordinates.specs.declared.axis.Axis.{Axis}
use Rattle.coordinates.specs.declared.axis.Axis.TheVariants.{Column, Row}
use Rattle.coordinates.specs.Refusals.{no_refusal, refusal_of}
use Rattle.coordinates.proofs.Lines.{lt_or_ge}
use Rattle.name_rules.specs.Css.{Bytes}
use Rattle.name_entries.specs.Entries.{entry_of, named_entry, entries_of}
use Rattle.name_entries.specs.Enter.{entry_refusal}
use Rattle.axis_tables.specs.declared.AxisState.{AxisState}
use Rattle.panel_tables.specs.declared.Grid.{Grid}
use Rattle.panel_tables.specs.declared.Panel.{Panel}
use Rattle.panel_tables.specs.Axes.{state_in, with_state}
use Rattle.panel_tables.specs.Placements.{placement_at}
use Rattle.panel_rules.specs.Calls.{NameTables, NamedWords, EnteredName, shorter_store, short_names, names_in, with_entry, entered_in, enter_refusal, enter_name}
use Rattle.panel_rules.specs.Placing.{resolve_placement}
use Rattle.panel_trial.specs.Stores.{reached, reached_tables}

-- ---- an entry

-- a part that ends before the cut
part_before : (o l n : ℕ) (s : List ℕ) → o + l ≤ n → take l (drop o (take n s)) ≡ take l (drop o s)
part_before zero l n s h = take-take l n s (omega arith)
part_before (suc o) l zero s h = absurd (omega arith)
part_before (suc o) l (suc n) [] h = refl
part_before (suc o) l (suc n) (x ∷ s) h = part_before o l n s (omega arith)

entry-reached : (w : ℕ) (store : List ℕ) → named_entry (reached store) (entry_of w) ≡ named_entry store (entry_of w)
unfolding entry_of reached
entry-reached w store =
    let h : w / 65536 % 65536 + w / 4294967296 % 256 ≤ 65790 = omega arith in
    ap (λ (nm : Bytes). record { line = w % 65536; name = nm }) (part_before (w / 65536 % 65536) (w / 4294967296 % 256) 65790 store h)

entries-reached : (words store : List ℕ) → entries_of words (reached store) ≡ entries_of words store
unfolding entries_of
entries-reached [] store = refl
entries-reached (w ∷ words) store = ap₂ ◌∷◌ (entry-reached w store) (entries-reached words store)

-- ---- the names of an axis, and the placements

pub names-reached : (g : Grid) (t : NameTables) (areas : NamedWords) (a : Axis) → names_in g (reached_tables t) areas a ≡ names_in g t areas a
names-reached g t areas Column = rw (entries-reached _ t.column_store)
names-reached g t areas Row = rw (entries-reached _ t.row_store)

-- the shorter store is below 32,768 bytes exactly if it was
shorter_reached : (t : NameTables) → shorter_store (reached_tables t) ≡ min (min 65790 (length t.column_store)) (min 65790 (length t.row_store))
unfolding reached
shorter_reached t = ap₂ min (length-take 65790 t.column_store) (length-take 65790 t.row_store)

pub short-reached : (t : NameTables) → short_names (reached_tables t) ≡ short_names t
short-reached t = ⊎_elim below above (lt_or_ge (shorter_store t) 32768)
  where
    below : shorter_store t < 32768 → short_names (reached_tables t) ≡ short_names t
    below h = lt-ltb (shorter_store (reached_tables t)) 32768 (omega (arith, shorter_reached t)) ∙ sym (lt-ltb (shorter_store t) 32768 h)

    above : 32768 ≤ shorter_store t → short_names (reached_tables t) ≡ short_names t
    above h = le-ltb (shorter_store (reached_tables t)) 32768 (omega (arith, shorter_reached t)) ∙ sym (le-ltb (shorter_store t) 32768 h)

pub placement_reached : (g : Grid) (t : NameTables) (areas placements : NamedWords) (i : ℕ) → resolve_placement g (reached_tables t) areas placements i ≡ resolve_placement g t areas placements i
unfolding resolve_placement
placement_reached g t areas placements i =
    let place = placement_at placements.words i in
    rw (names-reached g t areas place.axis, short-reached t)

-- ---- an entry that is entered

take-set : (n : ℕ) (l : List ℕ) (i v : ℕ) → set (take n l) i v ≡ take n (set l i v)
take-set zero l i v = refl
take-set (suc n) [] i v = refl
take-set (suc n) (x ∷ l) zero v = refl
take-set (suc n) (x ∷ l) (suc i) v = ap (λ (r : List ℕ). x ∷ r) (take-set n l i v)

take_sets : (n : ℕ) (l : List ℕ) (i : ℕ) (vs : List ℕ) → sets (take n l) i vs ≡ take n (sets l i vs)
take_sets n l i [] = refl
take_sets n l i (v ∷ vs) = ap (λ (r : List ℕ). sets r (suc i) vs) (take-set n l i v) ∙ take_sets n (set l i v) (suc i) vs

entered-reached : (t : NameTables) (a : Axis) (s : AxisState) (line : ℕ) (name : Bytes) → entered_in (reached_tables t) a s line name ≡ reached_tables (entered_in t a s line name)
unfolding reached
entered-reached t Column s line name = rw (take_sets 65790 t.column_store s.room.used name)
entered-reached t Row s line name = rw (take_sets 65790 t.row_store s.room.used name)

refusal_reached : (p : Panel) (t : NameTables) (a : Axis) (line : ℕ) (name : Bytes) → enter_refusal p (reached_tables t) a line name ≡ enter_refusal p t a line name
unfolding enter_refusal entry_refusal
refusal_reached p t a line name = rw (short-reached t)

-- what is entered on the bytes that an entry reaches is what is entered on all, as far as an entry reaches
abbrev pub reached_entry : EnteredName → EnteredName
reached_entry e = record { answer = e.answer; tables = reached_tables e.tables }

module _ (p q : Panel) where
  -- the entry's answer by its number: the panel q and the tables u where it is accepted, else the panel p and the tables t
  abbrev answered : ℕ → NameTables → NameTables → EnteredName
  answered n u t = cond (eqb n 0) (record { answer = record { refusal = no_refusal; panel = q }; tables = u }) (record { answer = record { refusal = refusal_of n; panel = p }; tables = t })

  answered-reached : (n : ℕ) (u t : NameTables) → answered n (reached_tables u) (reached_tables t) ≡ reached_entry (answered n u t)
  answered-reached n u t = go (eqb n 0)
    where
      go : (b : Bool)
          → cond b (record { answer = record { refusal = no_refusal; panel = q }; tables = reached_tables u }) (record { answer = record { refusal = refusal_of n; panel = p }; tables = reached_tables t })
          ≡ reached_entry (cond b (record { answer = record { refusal = no_refusal; panel = q }; tables = u }) (record { answer = record { refusal = refusal_of n; panel = p }; tables = t }))
      go true = refl
      go false = refl

pub enter_reached : (p : Panel) (t : NameTables) (a : Axis) (line : ℕ) (name : Bytes) → enter_name p (reached_tables t) a line name ≡ reached_entry (enter_name p t a line name)
unfolding enter_name
enter_reached p t a line name =
    let q : Panel = with_state p a (with_entry (state_in p a) (length name)) in
    ap₂ (λ (n : ℕ) (u : NameTables). answered p q n u (reached_tables t)) (refusal_reached p t a line name) (entered-reached t a (state_in p a) line name)
    ∙ answered-reached p q (enter_refusal p t a line name) (entered_in t a (state_in p a) line name) t
