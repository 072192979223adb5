-- The faults of the end of a sheet, as the code finds them, and what the code answers. Assumes nothing.
use Rattle.std.specs.Prelude.{Some, None, Ok, Err}
use Prim.Native.Nat.{ℕ, ◌≤◌, ◌<◌}
use mathlib.Core.Path.{◌≡◌, refl, ap}
use mathlib.Core.Bool.{Bool, true, false, cond}
use mathlib.Core.List.{List, map}
use native.Mathlib.Omega.{arith}
use borrow.Author.Tests.{eqb-false, ltb-false}
use lib.Dec.{ltb}
use lib.ListN.{length}
use lib.Seq.{sets}
use Rattle.coordinates.specs.declared.refusal.Fault.{Fault}
use Rattle.coordinates.specs.Refusals.{no_refusal, refusal_of, number_of}
use Rattle.template_rules.specs.declared.ExplicitSize.{ExplicitSize}
use Rattle.template_rules.specs.Explicit.{answered_size}
use Rattle.name_entries.specs.declared.NameEntry.{NameEntry}
use Rattle.name_template.specs.Writing.{answered_names, entry_word}
use Rattle.sheet_forms.proofs.Together.{fault_number}
use Rattle.axis_tables.specs.declared.AxisState.{AxisState}
use Rattle.axis_tables.specs.Readings.{AxisReading, OpenRepeat}
use Rattle.sheet_end.specs.End.{size_in, entries_by, EntriesPut, entries_put, sized_by, end_fault_in, EndedAxis, answered_end, end_in}

-- a limit that gives no fault is kept
pub kept : (most n number : ℕ) → 0 < number → cond (ltb most n) number 0 ≡ 0 → n ≤ most
kept most n number h e = go (ltb most n) refl e
  where
    go : (t : Bool) → ltb most n ≡ t → cond t number 0 ≡ 0 → n ≤ most
    go true q z = absurd (omega arith)
    go false q z = ltb-false most n q

module _ (s : AxisState) (r : AxisReading) (w : List ℕ) where
  -- a repeat is open
  pub open_end : (o : OpenRepeat) → r.unended ≡ Some o → ◌≡◌ {A = EndedAxis} (record { answer = record { fault = 1; state = s }; words = w }) (end_in s r w)
  unfolding end_in end_fault_in
  open_end o e = rw e

  module _ (closed : r.unended ≡ None) where
    -- the size is refused
    unsized-fault : (f : Fault) → answered_size (Err f) ≡ size_in s w → end_fault_in s r w ≡ number_of f
    unfolding end_fault_in
    unsized-fault f e = rw (closed, ← e, fault_number f)

    pub unsized_end : (f : Fault) → answered_size (Err f) ≡ size_in s w → ◌≡◌ {A = EndedAxis} (record { answer = answered_end s (Err f); words = w }) (end_in s r w)
    unfolding end_in
    unsized_end f e = rw (unsized-fault f e, fault_number f)

    -- entries put into the words, beside a size
    module _ (size : ExplicitSize) (sized : answered_size (Ok size) ≡ size_in s w) (after : List ℕ) where
      abbrev entries : List NameEntry
      entries = entries_by s w (answered_size (Ok size))

      abbrev put_by : Bool → EntriesPut
      put_by t =
          cond t (record { answer = record { refusal = refusal_of 8; count = 0 }; words = w })
          (record { answer = record { refusal = no_refusal; count = length entries }; words = sets w 8384 (map entry_word entries) })

      crowded_by : (f : Fault) (t : Bool) → ltb 4096 (length entries) ≡ t → ◌≡◌ {A = EntriesPut} (record { answer = answered_names (Err f); words = after }) (put_by t)
          → ◌≡◌ {A = EndedAxis} (record { answer = answered_end s (Err f); words = after }) (end_in s r w)
      unfolding end_in end_fault_in
      crowded_by f true q z = rw (closed, ← sized, q, ap (λ (x : EntriesPut). x.answer.refusal.number) z, ap (λ (x : EntriesPut). x.words) z)
      crowded_by f false q z = absurd (eqb-false (number_of f) 0 (fault_number f) (ap (λ (x : EntriesPut). x.answer.refusal.number) z))

      pub crowded_end : (f : Fault) → ◌≡◌ {A = EntriesPut} (record { answer = answered_names (Err f); words = after }) (entries_put w entries)
          → ◌≡◌ {A = EndedAxis} (record { answer = answered_end s (Err f); words = after }) (end_in s r w)
      crowded_end f e = crowded_by f (ltb 4096 (length entries)) refl e

      accepted_by : (n : ℕ) (t : Bool) → ltb 4096 (length entries) ≡ t → ◌≡◌ {A = EntriesPut} (record { answer = answered_names (Ok n); words = after }) (put_by t)
          → ◌≡◌ {A = EndedAxis} (record { answer = record { fault = 0; state = sized_by s n (answered_size (Ok size)) }; words = after }) (end_in s r w)
      unfolding end_in end_fault_in
      accepted_by n true q z = absurd (omega (arith, ap (λ (x : EntriesPut). x.answer.refusal.number) z))
      accepted_by n false q z = rw (closed, ← sized, q, ap (λ (x : EntriesPut). x.words) z, ap (λ (x : EntriesPut). x.answer.count) z)

      pub accepted-end : (n : ℕ) → ◌≡◌ {A = EntriesPut} (record { answer = answered_names (Ok n); words = after }) (entries_put w entries)
          → ◌≡◌ {A = EndedAxis} (record { answer = record { fault = 0; state = sized_by s n (answered_size (Ok size)) }; words = after }) (end_in s r w)
      accepted-end n e = accepted_by n (ltb 4096 (length entries)) refl e
