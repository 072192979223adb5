-- The line after the last once more, on an axis as the sheet and further entries left it, with the inner size that it has or another. Assumes nothing.
use Rattle.std.specs.Prelude.{Option}
use Prim.Native.Nat.{ℕ, ◌+◌, ◌-◌, ◌≤◌}
use mathlib.Core.Path.{◌≡◌, refl, sym, ap, ◌∙◌}
use mathlib.Core.Bool.{Bool, true, false, cond}
use mathlib.Core.List.{List, ◌++◌, map}
use native.Mathlib.Omega.{arith}
use borrow.Author.Tests.{eq-eqb, ne_eqb, eqb-true, eqb-false, ltb-false}
use lib.Dec.{eqb, ltb}
use lib.ListN.{length}
use lib.Seq.{sets}
use Rattle.coordinates.specs.Refusals.{crowded, value}
use Rattle.sizing.specs.Ranges.{length_in_range}
use Rattle.name_rules.specs.Css.{Entry}
use Rattle.name_template.specs.Writing.{entry_word}
use Rattle.axis_tables.specs.declared.AxisState.{AxisState}
use Rattle.axis_tables.specs.Runs.{words_from, part_of}
use Rattle.axis_tables.specs.Readings.{OpenRepeat, AxisReading}
use Rattle.axis_tables.specs.Store.{zero_reading}
use Rattle.axis_tables.specs.View.{Unended, none, AxisView, axis_bytes}
use Rattle.axis_tables.specs.Written.{regions_of, words_with, axis_words, state_of, repeat_of, reading_of}
use Rattle.axis_tables.proofs.Fits.{Fits}
use Rattle.axis_tables.proofs.Runs.{length-words}
use Rattle.sheet_rules.specs.Sheet.{axis_fault}
use Rattle.sheet_rules.specs.Panels.{entry_words, sized_state}
use Rattle.sheet_end.specs.End.{size_in, entries_by, entries_in, sized_by, end_fault_in, EndedAxis, end_in}
use Rattle.sheet_end.proofs.Entries.{none_open}
use Rattle.sheet_end.proofs.Same.{end_fault_lem, end_same}
use Rattle.panel_rules.specs.Calls.{with_entries}
use Rattle.panel_rules.specs.Views.{entry_name, entry_word_at, words_after, state_after}
use Rattle.panel_sizes.specs.Sizes.{state_at}
use Rattle.panel_sizes.specs.Runs.{resized}
use Rattle.panel_resized.specs.Axes.{ended_again, written_count, unended_words, direct_count, direct_words, with_direct, direct_after, resized_axis}
use Rattle.panel_resized.specs.Theorem.{entries_crowd, resize_fault}
use Rattle.panel_resized.proofs.Words.{unended, entries-more, further-back}

-- ---- the end of an axis

-- an axis as it was read, with what calls change of it
abbrev later : AxisState → AxisState → AxisState
later s u =
    record {
      grid = record { space = s.grid.space; template = u.grid.template; implicit = s.grid.implicit; entries = u.grid.entries; size = u.grid.size };
      room = record { template = s.room.template; names = s.room.names; used = u.room.used; areas = s.room.areas };
    }

-- the end asks of the reading only whether a repeat is open
closed-end : (s : AxisState) (r q : AxisReading) (w : List ℕ) → r.unended ≡ q.unended → end_in s r w ≡ end_in s q w
unfolding end_in end_fault_in
closed-end s r q w e = ap (λ (o : Option OpenRepeat). end_in s (record { seen = q.seen; unended = o }) w) e

module _ (s u : AxisState) (r : AxisReading) (w : List ℕ) where
  abbrev ended_by : AxisState → Bool → EndedAxis
  ended_by x b =
      cond b
      (record {
        answer = record { fault = 0; state = sized_by x (length (entries_in s w)) (size_in s w) };
        words = sets w 8384 (map entry_word (entries_in s w));
      })
      (record { answer = record { fault = end_fault_in s r w; state = x }; words = w })

  -- and of the state only what was read
  own_end : end_in s r w ≡ ended_by s (eqb (end_fault_in s r w) 0)
  unfolding end_in
  own_end = refl

  later_end : end_in (later s u) r w ≡ ended_by (later s u) (eqb (end_fault_in s r w) 0)
  unfolding end_in end_fault_in size_in entries_by
  later_end = refl

  later-fault : (end_in (later s u) r w).answer.fault ≡ end_fault_in s r w
  later-fault = ap (λ (y : EndedAxis). y.answer.fault) later_end ∙ go (eqb (end_fault_in s r w) 0) refl
    where
      go : (b : Bool) → eqb (end_fault_in s r w) 0 ≡ b → (ended_by (later s u) b).answer.fault ≡ end_fault_in s r w
      go true q = sym (eqb-true (end_fault_in s r w) 0 q)
      go false q = refl

  later-ended : (x : AxisState) (ws : List ℕ) → end_in s r w ≡ record { answer = record { fault = 0; state = x }; words = ws }
      → end_in (later s u) r w ≡ record { answer = record { fault = 0; state = with_entries x x.grid.entries u.room.used }; words = ws }
  later-ended x ws e = later_end ∙ go (eqb (end_fault_in s r w) 0) refl (sym own_end ∙ e)
    where
      go : (b : Bool) → eqb (end_fault_in s r w) 0 ≡ b → ended_by s b ≡ record { answer = record { fault = 0; state = x }; words = ws }
          → ended_by (later s u) b ≡ record { answer = record { fault = 0; state = with_entries x x.grid.entries u.room.used }; words = ws }
      go true q z =
          ap (λ (y : EndedAxis). record { answer = record { fault = 0; state = with_entries y.answer.state y.answer.state.grid.entries u.room.used }; words = y.words }) z
      go false q z = absurd (eqb-false (end_fault_in s r w) 0 q (ap (λ (y : EndedAxis). y.answer.fault) z))

-- ---- of a view that the words held before their entries
module _ (x : AxisView) (f : Fits x) (closed : x.unended ≡ none) (u : AxisState) (w : List ℕ) (cleared : unended_words w ≡ axis_words x) where
  to-end : ended_again (later (state_of x) u) w ≡ end_in (later (state_of x) u) (reading_of x) (axis_words x)
  to-end =
      ap (λ (l : List ℕ). end_in (later (state_of x) u) zero_reading l) cleared
      ∙ closed-end (later (state_of x) u) zero_reading (reading_of x) (axis_words x) (sym (ap (λ (y : Unended). (repeat_of x.line.seen x.template y).unended) closed))

  again-fault : (ended_again (later (state_of x) u) w).answer.fault ≡ axis_fault x
  again-fault = ap (λ (y : EndedAxis). y.answer.fault) to-end ∙ later-fault (state_of x) u (reading_of x) (axis_words x) ∙ end_fault_lem x f

  again : axis_fault x ≡ 0
      → ended_again (later (state_of x) u) w
      ≡ record { answer = record { fault = 0; state = with_entries (sized_state x) (sized_state x).grid.entries u.room.used }; words = words_with x (entry_words x) }
  again ok = to-end ∙ later-ended (state_of x) u (reading_of x) (axis_words x) (sized_state x) (words_with x (entry_words x)) (end_same x f ok)

-- ---- direct entries behind an end
module _ (s : AxisState) (e : EndedAxis) (count : ℕ) (direct : List ℕ) where
  direct-refused : (e.answer.fault ≡ 0 → ⊥) → direct_after s e count direct ≡ e
  direct-refused h = rw (ne_eqb e.answer.fault 0 h)

  direct-crowded : e.answer.fault ≡ 0 → ltb 4096 (e.answer.state.grid.entries + count) ≡ true → (direct_after s e count direct).answer.fault ≡ crowded
  direct-crowded z q = rw (eq-eqb e.answer.fault 0 z, q)

  direct-added : e.answer.fault ≡ 0 → ltb 4096 (e.answer.state.grid.entries + count) ≡ false
      → direct_after s e count direct ≡ with_direct e (e.answer.state.grid.entries + count) direct
  direct-added z q = rw (eq-eqb e.answer.fault 0 z, q)

-- ---- an axis of a view without fault, with further entries
module _ (v : AxisView) (f : Fits v) (ok : axis_fault v ≡ 0) (es : List Entry) (few : length (entry_words v) + length es ≤ 4096) where
  abbrev state : AxisState
  state = state_after v es

  abbrev words : List ℕ
  words = words_after v es

  abbrev direct : List ℕ
  direct = words_from entry_word_at entry_name (length (axis_bytes v)) es

  length-direct : length direct ≡ length es
  length-direct = length-words entry_word_at entry_name (length (axis_bytes v)) es

  cleared : unended_words words ≡ axis_words v
  unfolding words_after
  cleared = unended v (entry_words v ++ direct)

  -- the sheet's entries are those that it writes out, and the direct ones come after them
  written : written_count state words ≡ length (entry_words v)
  unfolding written_count state_after sized_state
  written = ap (λ (y : EndedAxis). y.answer.state.grid.entries) (again v f (none_open v ok) state words cleared ok)

  counted : direct_count state words ≡ length es
  unfolding state_after
  counted =
      let n : length (entry_words v) + length es - length (entry_words v) ≡ length es = omega arith in
      ap (λ (k : ℕ). state.grid.entries - k) written ∙ n

  read-direct : direct_words state words ≡ direct
  unfolding words_after
  read-direct =
      ap (λ (k : ℕ). part_of words (8384 + k) (direct_count state words)) written
      ∙ ap (λ (k : ℕ). part_of words (8384 + length (entry_words v)) k) (counted ∙ sym length-direct)
      ∙ further-back v f (entry_words v) direct (omega (arith, length-direct))

  module _ (inner : ℕ) where
    -- the axis with that inner size
    abbrev anew : AxisView
    anew = resized v inner

    fits-anew : Fits anew
    fits-anew = record { items = f.items; unended = f.unended; components = f.components; spares = f.spares; names = f.names; bytes = f.bytes; short = f.short }

    cleared-anew : unended_words words ≡ axis_words anew
    unfolding words_with regions_of
    cleared-anew = cleared

    abbrev all_entries : ℕ
    all_entries = length (entry_words anew) + length es

    -- the end's answer
    fault-anew : (ended_again (state_at state inner) words).answer.fault ≡ axis_fault anew
    unfolding state_after sized_state
    fault-anew = again-fault anew fits-anew (none_open v ok) state words cleared-anew

    abbrev end_anew : EndedAxis
    end_anew =
        record { answer = record { fault = 0; state = with_entries (sized_state anew) (sized_state anew).grid.entries state.room.used }; words = words_with anew (entry_words anew) }

    ended-anew : axis_fault anew ≡ 0 → resized_axis state words inner ≡ direct_after (state_at state inner) end_anew (length es) direct
    unfolding resized_axis state_after sized_state
    ended-anew z =
        ap (λ (e : EndedAxis). direct_after (state_at state inner) e (direct_count state words) (direct_words state words)) (again anew fits-anew (none_open v ok) state words cleared-anew z)
        ∙ ap (λ (n : ℕ). direct_after (state_at state inner) end_anew n (direct_words state words)) counted
        ∙ ap (λ (l : List ℕ). direct_after (state_at state inner) end_anew (length es) l) read-direct

    -- refused by the end, by the number of all entries, or not at all
    refused-axis : (axis_fault anew ≡ 0 → ⊥) → (resized_axis state words inner).answer.fault ≡ axis_fault anew
    unfolding resized_axis
    refused-axis h =
        ap (λ (y : EndedAxis). y.answer.fault)
        (direct-refused (state_at state inner) (ended_again (state_at state inner) words) (direct_count state words) (direct_words state words) (λ z. h (sym fault-anew ∙ z)))
        ∙ fault-anew

    crowded-axis : axis_fault anew ≡ 0 → ltb 4096 all_entries ≡ true → (resized_axis state words inner).answer.fault ≡ crowded
    unfolding sized_state
    crowded-axis z q = ap (λ (y : EndedAxis). y.answer.fault) (ended-anew z) ∙ direct-crowded (state_at state inner) end_anew (length es) direct refl q

    pub held-axis : axis_fault anew ≡ 0 → ltb 4096 all_entries ≡ false
        → resized_axis state words inner ≡ record { answer = record { fault = 0; state = state_after anew es }; words = words_after anew es }
    unfolding state_after sized_state words_after
    held-axis z q =
        ended-anew z
        ∙ direct-added (state_at state inner) end_anew (length es) direct refl q
        ∙ ap (λ (l : List ℕ). record { answer = record { fault = 0; state = state_after anew es }; words = l })
        (entries-more anew direct (entry_words anew) (8384 + length (entry_words anew)) refl (omega (arith, length-direct, ltb-false 4096 all_entries q)))

    -- what refuses the axis
    pub axis-refusal : (resized_axis state words inner).answer.fault ≡ cond (eqb (axis_fault anew) 0) (entries_crowd anew es) (axis_fault anew)
    axis-refusal = go (eqb (axis_fault anew) 0) (ltb 4096 all_entries) refl refl
      where
        go : (b c : Bool) → eqb (axis_fault anew) 0 ≡ b → ltb 4096 all_entries ≡ c → (resized_axis state words inner).answer.fault ≡ cond b (cond c crowded 0) (axis_fault anew)
        go false c q p = refused-axis (eqb-false (axis_fault anew) 0 q)
        go true true q p = crowded-axis (eqb-true (axis_fault anew) 0 q) p
        go true false q p = ap (λ (y : EndedAxis). y.answer.fault) (held-axis (eqb-true (axis_fault anew) 0 q) p)

    -- what nothing refuses: the bits are in range, the end has no fault, and all entries have room
    pub unrefused : resize_fault v es inner ≡ 0 → (length_in_range inner ≡ true) × (axis_fault anew ≡ 0) × (ltb 4096 all_entries ≡ false)
    unfolding resize_fault
    unrefused z = go (length_in_range inner) (eqb (axis_fault anew) 0) (ltb 4096 all_entries) refl refl refl z
      where
        go : (a b c : Bool) → length_in_range inner ≡ a → eqb (axis_fault anew) 0 ≡ b → ltb 4096 all_entries ≡ c → cond a (cond b (cond c crowded 0) (axis_fault anew)) value ≡ 0
            → (length_in_range inner ≡ true) × (axis_fault anew ≡ 0) × (ltb 4096 all_entries ≡ false)
        go false b c r q p y = absurd (omega (arith, y))
        go true false c r q p y = absurd (eqb-false (axis_fault anew) 0 q y)
        go true true true r q p y = absurd (omega (arith, y))
        go true true false r q p y = (r, eqb-true (axis_fault anew) 0 q, p)
