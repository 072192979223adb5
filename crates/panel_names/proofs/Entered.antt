-- What an entry call answers and leaves, from what it computes. Assumes nothing.
use Prim.Native.Nat.{ℕ, ◌+◌, ◌-◌, ◌≤◌, ◌<◌}
use native.Mathlib.Omega.{arith}
use mathlib.Core.Path.{◌≡◌, ap, ap₂, ◌∙◌}
use mathlib.Core.List.{List}
use mathlib.Core.Bool.{Bool, true, false, cond}
use lib.Dec.{eqb}
use lib.ListN.{length, set}
use lib.Seq.{sets}
use borrow.Author.Tests.{le-ltb, eq-eqb, ne_eqb}
use Rattle.coordinates.specs.declared.axis.Axis.{Axis}
use Rattle.coordinates.specs.declared.axis.Axis.TheVariants.{Column, Row}
use Rattle.coordinates.specs.declared.refusal.Fault.{Fault}
use Rattle.coordinates.specs.Refusals.{number_of, no_refusal, refusal_of}
use Rattle.std.specs.Prelude.{Ok, Err}
use Rattle.coordinates.proofs.Faults.{fault_some}
use Rattle.name_entries.specs.Enter.{entry_refusal}
use Rattle.name_entries.specs.LineNames.{of_axis}
use Rattle.name_entries.specs.Entries.{word_of}
use Rattle.name_entries.proofs.Accepted.{Accepted, accepted}
use Rattle.axis_tables.specs.declared.AxisState.{AxisState}
use Rattle.axis_tables.specs.Runs.{put_bytes}
use Rattle.axis_tables.proofs.Regions.{set-inside, set_before, set_after}
use Rattle.panel_tables.specs.declared.Panel.{Panel}
use Rattle.panel_tables.specs.Axes.{state_in, with_state}
use Rattle.panel_tables.specs.Regions.{first_word, axis_words_in, area_words_in, placement_words_in}
use Rattle.panel_rules.specs.Calls.{name_tables_in, entered_in, NameTables, shorter_store, store_in, with_entry, enter_refusal, enter_name, answered_entry, EnteredName}
use Rattle.panel_names.specs.Entered.{Roomy, EnteredAxis, entered_on, entered_name}

-- bytes that have room are written
pub bytes-put : (store : List ℕ) (at : ℕ) (name : List ℕ) → at + length name ≤ length store → put_bytes store at name ≡ sets store at name
unfolding put_bytes
bytes-put store at name h = rw (le-ltb (length store) at (omega arith), le-ltb (length store - at) (length name) (omega arith))

-- tables with other words
abbrev with_words : List ℕ → List ℕ → List ℕ → List ℕ → NameTables
with_words column_store row_store columns rows = record { columns = columns; rows = rows; column_store = column_store; row_store = row_store }

-- one word of an axis is set: it is set in its words
own-word : (words : List ℕ) (a : Axis) (i v : ℕ) → i < 12480 → axis_words_in a (set words (first_word a + i) v) ≡ set (axis_words_in a words) i v
unfolding axis_words_in
own-word words a i v h = set-inside words (first_word a) 12480 v i h

-- and the other axis's words are as they were
other_words : (words : List ℕ) (a : Axis) (i v : ℕ) → i < 12480 → axis_words_in (of_axis a Row Column) (set words (first_word a + i) v) ≡ axis_words_in (of_axis a Row Column) words
unfolding axis_words_in
other_words words Column i v h = set_before words (first_word Row) 12480 v (first_word Column + i) (omega arith)
other_words words Row i v h = set_after words (first_word Column) 12480 v (first_word Row + i) (omega arith)

-- the view of the words after an entry is the view before it with the entry
pub words_entered : (words column_store row_store : List ℕ) (a : Axis) (s : AxisState) (line : ℕ) (name : List ℕ) → s.grid.entries < 4096 →
    name_tables_in (set words (first_word a + (8384 + s.grid.entries)) (word_of line s.room.used (length name)))
    (of_axis a (sets column_store s.room.used name) column_store)
    (of_axis a row_store (sets row_store s.room.used name))
    ≡ entered_in (name_tables_in words column_store row_store) a s line name
words_entered words column_store row_store Column s line name h =
    let v = word_of line s.room.used (length name) in
    ap₂ (with_words (sets column_store s.room.used name) row_store)
    (own-word words Column (8384 + s.grid.entries) v (omega arith)) (other_words words Column (8384 + s.grid.entries) v (omega arith))
words_entered words column_store row_store Row s line name h =
    let v = word_of line s.room.used (length name) in
    ap₂ (with_words column_store (sets row_store s.room.used name))
    (other_words words Row (8384 + s.grid.entries) v (omega arith)) (own-word words Row (8384 + s.grid.entries) v (omega arith))

-- and the words of areas and placements are as they were
others_stay : (words : List ℕ) (a : Axis) (i v : ℕ) → i < 12480 →
    (area_words_in (set words (first_word a + i) v) ≡ area_words_in words) × (placement_words_in (set words (first_word a + i) v) ≡ placement_words_in words)
unfolding area_words_in placement_words_in
others_stay words a i v h =
    let below : first_word a + i < 24960 = within a in
    (set_before words 24960 128 v (first_word a + i) below, set_before words 25088 1280 v (first_word a + i) (omega arith))
  where
    within : (b : Axis) → first_word b + i < 24960
    within Column = omega arith
    within Row = omega arith

module _ (p : Panel) (t : NameTables) (line : ℕ) (name : List ℕ) where
  module _ (a : Axis) where
    -- the number that the call computes
    pub refusal_is : (s : AxisState) (shorter number : ℕ) → s ≡ state_in p a → shorter ≡ shorter_store t →
        number ≡ entry_refusal shorter s.grid.entries s.room.used line name → number ≡ enter_refusal p t a line name
    unfolding enter_refusal
    refusal_is s shorter number e f g =
        g ∙ ap (λ (x : AxisState). entry_refusal shorter x.grid.entries x.room.used line name) e
        ∙ ap (λ (n : ℕ). entry_refusal n (state_in p a).grid.entries (state_in p a).room.used line name) f

    -- a refused call leaves everything as it came
    pub refused : (fault : Fault) → number_of fault ≡ enter_refusal p t a line name →
        record { answer = answered_entry p (Err fault); tables = t } ≡ enter_name p t a line name
    unfolding enter_name
    refused fault e = rw (← e, ne_eqb (number_of fault) 0 (fault_some fault))

    -- what it leaves of a panel that is lent is the panel as it came
    pub kept : (fault : Fault) (after : Panel) (left : NameTables) →
        record { answer = record { refusal = refusal_of (number_of fault); panel = after }; tables = left } ≡ enter_name p t a line name →
        record { answer = answered_entry p (Err fault); tables = left } ≡ enter_name p t a line name
    unfolding enter_name
    kept fault after left e = go (eqb (enter_refusal p t a line name) 0) e
      where
        entered-answer : EnteredName
        entered-answer =
            record {
              answer = record { refusal = no_refusal; panel = with_state p a (with_entry (state_in p a) (length name)) };
              tables = entered_in t a (state_in p a) line name;
            }

        refused-answer : EnteredName
        refused-answer = record { answer = record { refusal = refusal_of (enter_refusal p t a line name); panel = p }; tables = t }

        go : (accepted : Bool) → record { answer = record { refusal = refusal_of (number_of fault); panel = after }; tables = left } ≡ cond accepted entered-answer refused-answer →
            record { answer = answered_entry p (Err fault); tables = left } ≡ cond accepted entered-answer refused-answer
        go true h = absurd (fault_some fault (ap (λ (x : EnteredName). x.answer.refusal.number) h))
        go false h = ap (λ (x : EnteredName). record { answer = record { refusal = x.answer.refusal; panel = p }; tables = x.tables }) h

    -- an accepted one enters
    pub made : enter_refusal p t a line name ≡ 0 → entered_name p t a line name ≡ enter_name p t a line name
    unfolding enter_name
    made e = rw (eq-eqb (enter_refusal p t a line name) 0 e)

    -- and has room for it
    pub roomy : enter_refusal p t a line name ≡ 0 → Roomy (state_in p a) (length (store_in t a)) name
    unfolding enter_refusal
    roomy e = within (accepted (shorter_store t) (state_in p a).grid.entries (state_in p a).room.used line name e)
      where
        longer : (b : Axis) → shorter_store t ≤ length (store_in t b)
        longer Column = omega arith
        longer Row = omega arith

        within : Accepted (shorter_store t) (state_in p a).grid.entries (state_in p a).room.used line name → Roomy (state_in p a) (length (store_in t a)) name
        within k = record { short = k.short; few = k.few; fits = k.fits; wide = let h = longer a in omega (arith, h, k.wide) }

-- an entry written to one axis
module _ (words column_store row_store : List ℕ) (line : ℕ) (name : List ℕ) (e : EnteredAxis) where
  -- is an entry of the panel
  pub entered : (p : Panel) (a : Axis) → (state_in p a).grid.entries < 4096 → e ≡ entered_on (state_in p a) a words (of_axis a column_store row_store) line name →
      record { answer = answered_entry p (Ok (with_state p a e.state)); tables = name_tables_in e.words (of_axis a e.store column_store) (of_axis a row_store e.store) }
      ≡ entered_name p (name_tables_in words column_store row_store) a line name
  entered p Column h g = rw (g, words_entered words column_store row_store Column (state_in p Column) line name h)
  entered p Row h g = rw (g, words_entered words column_store row_store Row (state_in p Row) line name h)

  -- and leaves the words of areas and placements as they were
  pub others-entered : (s : AxisState) (a : Axis) (store : List ℕ) → s.grid.entries < 4096 → e ≡ entered_on s a words store line name →
      (area_words_in e.words ≡ area_words_in words) × (placement_words_in e.words ≡ placement_words_in words)
  others-entered s a store h g = rw g (others_stay words a (8384 + s.grid.entries) (word_of line s.room.used (length name)) (omega arith))
