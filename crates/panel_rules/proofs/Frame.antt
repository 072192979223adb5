-- What no entry call changes, whatever is held and refused or not: the marks, the areas and the placements with their bytes, all counts but
-- the entries and the bytes used, and the words before the entries. Assumes nothing.
use Prim.Native.Nat.{ℕ, ◌+◌}
use mathlib.Core.Path.{◌≡◌, refl, ap, ◌∙◌}
use mathlib.Core.Bool.{Bool, true, false, cond}
use mathlib.Core.List.{List, [], ◌∷◌}
use native.Mathlib.Omega.{arith}
use lib.Dec.{eqb}
use lib.ListN.{length, take}
use lib.Seq.{take-set-le}
use Rattle.coordinates.specs.declared.axis.Axis.{Axis}
use Rattle.coordinates.specs.declared.axis.Axis.TheVariants.{Column, Row}
use Rattle.name_rules.specs.Css.{Bytes}
use Rattle.name_entries.specs.Entries.{word_of}
use Rattle.axis_tables.specs.declared.AxisState.{AxisState}
use Rattle.panel_tables.specs.declared.Panel.{Panel}
use Rattle.panel_tables.specs.Axes.{state_in, with_state}
use Rattle.sheet_rules.specs.Panels.{Tables}
use Rattle.panel_rules.specs.Calls.{NameTables, words_in, with_entries, with_entry, entered_in, EnteredName, enter_refusal, enter_name, explicit_size}
use Rattle.panel_rules.specs.Runs.{Held, names_of, with_names, areas_of, placements_of, marks_of, Call, after, after_calls, sheet_held, run_of, size_of}

-- the counts of a panel
pub record SameCounts (p q : Panel) : Type 0 where
  pub areas : p.grid.areas ≡ q.grid.areas
  pub areabytes : p.room.areabytes ≡ q.room.areabytes
  pub placements : p.grid.placements ≡ q.grid.placements
  pub cells : p.grid.cells ≡ q.grid.cells
  pub placementbytes : p.room.placementbytes ≡ q.room.placementbytes
  -- of an axis's state, the entries and the bytes used alone may differ
  pub state : (a : Axis) → state_in p a ≡ with_entries (state_in q a) (state_in p a).grid.entries (state_in p a).room.used

-- everything that is held, but for the entries, the bytes used and the line-name stores
pub record SameFrame (h k : Held) : Type 0 where
  pub panel : SameCounts h.panel k.panel
  pub words : (a : Axis) → take 8384 (words_in (names_of h.tables) a) ≡ take 8384 (words_in (names_of k.tables) a)
  pub marks : (a : Axis) → marks_of h.tables a ≡ marks_of k.tables a
  pub areas : areas_of h.tables ≡ areas_of k.tables
  pub placements : placements_of h.tables ≡ placements_of k.tables

-- ---- one after the other

join_counts : (p q r : Panel) → SameCounts p q → SameCounts q r → SameCounts p r
join_counts p q r x y =
    record {
      areas = x.areas ∙ y.areas;
      areabytes = x.areabytes ∙ y.areabytes;
      placements = x.placements ∙ y.placements;
      cells = x.cells ∙ y.cells;
      placementbytes = x.placementbytes ∙ y.placementbytes;
      state = λ a. x.state a ∙ ap (λ (s : AxisState). with_entries s (state_in p a).grid.entries (state_in p a).room.used) (y.state a);
    }

join : (h k l : Held) → SameFrame h k → SameFrame k l → SameFrame h l
join h k l x y =
    record {
      panel = join_counts h.panel k.panel l.panel x.panel y.panel;
      words = λ a. x.words a ∙ y.words a;
      marks = λ a. x.marks a ∙ y.marks a;
      areas = x.areas ∙ y.areas;
      placements = x.placements ∙ y.placements;
    }

-- ---- one call

same_counts : (p : Panel) → SameCounts p p
same_counts p = record { areas = refl; areabytes = refl; placements = refl; cells = refl; placementbytes = refl; state = λ a. refl }

-- one entry more on an axis
state-entered : (p : Panel) (length : ℕ) (a b : Axis) → let q : Panel = with_state p a (with_entry (state_in p a) length) in
    state_in q b ≡ with_entries (state_in p b) (state_in q b).grid.entries (state_in q b).room.used
state-entered p length Column Column = refl
state-entered p length Column Row = refl
state-entered p length Row Column = refl
state-entered p length Row Row = refl

panel-entered : (p : Panel) (a : Axis) (length : ℕ) → SameCounts (with_state p a (with_entry (state_in p a) length)) p
panel-entered p Column length = record { areas = refl; areabytes = refl; placements = refl; cells = refl; placementbytes = refl; state = state-entered p length Column }
panel-entered p Row length = record { areas = refl; areabytes = refl; placements = refl; cells = refl; placementbytes = refl; state = state-entered p length Row }

words_entered : (t : NameTables) (s : AxisState) (line : ℕ) (name : Bytes) (a b : Axis) → take 8384 (words_in (entered_in t a s line name) b) ≡ take 8384 (words_in t b)
words_entered t s line name Column Column = take-set-le 8384 t.columns (8384 + s.grid.entries) (word_of line s.room.used (length name)) (omega arith)
words_entered t s line name Column Row = refl
words_entered t s line name Row Column = refl
words_entered t s line name Row Row = take-set-le 8384 t.rows (8384 + s.grid.entries) (word_of line s.room.used (length name)) (omega arith)

-- what a call leaves, by what it answers
abbrev leaves : Held → EnteredName → Held
leaves h x = record { panel = x.answer.panel; tables = with_names h.tables x.tables }

frame_of : (h : Held) (p : Panel) (n : NameTables) → SameCounts p h.panel
    → ((a : Axis) → take 8384 (words_in n a) ≡ take 8384 (words_in (names_of h.tables) a)) → SameFrame (record { panel = p; tables = with_names h.tables n }) h
frame_of h p n f w = record { panel = f; words = w; marks = λ a. refl; areas = refl; placements = refl }

either_frame : (h : Held) (t : Bool) (x y : EnteredName) → SameFrame (leaves h x) h → SameFrame (leaves h y) h → SameFrame (leaves h (cond t x y)) h
either_frame h true x y f g = f
either_frame h false x y f g = g

-- a call, on anything
pub after_frame : (h : Held) (c : Call) → SameFrame (after h c) h
unfolding enter_name
after_frame h c =
    let s : AxisState = state_in h.panel c.axis in
    either_frame h (eqb (enter_refusal h.panel (names_of h.tables) c.axis c.line c.name) 0) _ _
    (frame_of h _ _ (panel-entered h.panel c.axis (length c.name)) (words_entered (names_of h.tables) s c.line c.name c.axis))
    (frame_of h _ _ (same_counts h.panel) (λ a. refl))

-- any list of calls, on anything
pub calls_frame : (h : Held) (calls : List Call) → SameFrame (after_calls h calls) h
unfolding after_calls
calls_frame h [] = record { panel = same_counts h.panel; words = λ a. refl; marks = λ a. refl; areas = refl; placements = refl }
calls_frame h (c ∷ calls) = join (after_calls (after h c) calls) (after h c) h (calls_frame (after h c) calls) (after_frame h c)

-- a run changes nothing of that since its sheet
pub run_frame : (s : List ℕ) (t : Tables) (calls : List Call) → SameFrame (run_of s t calls) (sheet_held s t)
run_frame s t calls = calls_frame (sheet_held s t) calls

-- and so no explicit size
pub same_size_lem : (h k : Held) → SameFrame h k → (a : Axis) → size_of h a ≡ size_of k a
unfolding explicit_size
same_size_lem h k f a = ap (λ (s : AxisState). s.grid.size) (f.panel.state a)

pub run-size : (s : List ℕ) (t : Tables) (calls : List Call) (a : Axis) → size_of (run_of s t calls) a ≡ size_of (sheet_held s t) a
run-size s t calls a = same_size_lem (run_of s t calls) (sheet_held s t) (run_frame s t calls) a
