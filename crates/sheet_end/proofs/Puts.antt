-- The entries as the code puts them: written into a table, and copied from there. Assumes nothing.
use Rattle.template_rules.specs.Explicit.{SizeAnswer}
use Prim.Native.Nat.{ℕ, ◌+◌, ◌≤◌}
use mathlib.Core.Path.{◌≡◌, refl, sym, ap, ◌∙◌}
use mathlib.Core.Bool.{Bool, true, false, cond}
use mathlib.Core.List.{List, map}
use Rattle.std.specs.Prelude.{Ok, Err}
use Rattle.coordinates.specs.declared.refusal.Fault.{Fault}
use Rattle.coordinates.specs.Refusals.{no_refusal, refusal_of, number_of}
use Rattle.sheet_forms.proofs.Together.{fault_number}
use native.Mathlib.Omega.{arith}
use borrow.Author.Tests.{ne_eqb, eqb-false, ltb-false}
use lib.Dec.{eqb, ltb}
use lib.ListN.{length, drop, length-map}
use lib.Seq.{sets, length-sets, sets-eq, take_at}
use Rattle.name_entries.specs.declared.NameEntry.{NameEntry}
use Rattle.name_template.specs.Writing.{answered_names, written_entries, entry_word, TableAfter, names_written}
use Rattle.axis_tables.specs.declared.AxisState.{AxisState}
use Rattle.axis_tables.specs.Readings.{AxisReading}
use Rattle.axis_tables.specs.Runs.{part_of}
use Rattle.sheet_end.specs.End.{components_in, names_in, entries_by, EntriesPut, entries_put, EndedAxis, end_fault_in, entries_in, end_in}

-- no template, nothing to put
pub none-put : (s : AxisState) (w : List ℕ) (size : SizeAnswer) → size.template ≡ 0
    → ◌≡◌ {A = EntriesPut} (record { answer = answered_names (Ok 0); words = w }) (entries_put w (entries_by s w size))
unfolding entries_by
none-put s w size z = rw z

-- a template that counts
pub some-entries : (s : AxisState) (w : List ℕ) (size : SizeAnswer) → (size.template ≡ 0 → ⊥)
    → entries_by s w size ≡ written_entries (names_in s w) (components_in s w) size.repetitions
unfolding entries_by
some-entries s w size h = rw (ne_eqb size.template 0 h)

-- a table of entries, put into the words as far as it holds them
module _ (names components d after w : List ℕ) (repetitions : ℕ) where
  abbrev entries : List NameEntry
  entries = written_entries names components repetitions

  abbrev written_by : Bool → TableAfter
  written_by t =
      cond t (record { answer = record { refusal = refusal_of 8; count = 0 }; entries = d })
      (record { answer = record { refusal = no_refusal; count = length entries }; entries = sets d 0 (map entry_word entries) })

  abbrev put_by : Bool → EntriesPut
  put_by t =
      cond t (record { answer = record { refusal = refusal_of 8; count = 0 }; words = w })
      (record { answer = record { refusal = no_refusal; count = length entries }; words = sets w 8384 (map entry_word entries) })

  pub crowded-put : (f : Fault) → ◌≡◌ {A = TableAfter} (record { answer = answered_names (Err f); entries = after }) (names_written names components repetitions d)
      → ◌≡◌ {A = EntriesPut} (record { answer = answered_names (Err f); words = w }) (entries_put w entries)
  unfolding names_written
  crowded-put f e = go (ltb 4096 (length entries)) e
    where
      go : (t : Bool) → ◌≡◌ {A = TableAfter} (record { answer = answered_names (Err f); entries = after }) (written_by t)
          → ◌≡◌ {A = EntriesPut} (record { answer = answered_names (Err f); words = w }) (put_by t)
      go true z = ap (λ (x : TableAfter). record { answer = x.answer; words = w }) z
      go false z = absurd (eqb-false (number_of f) 0 (fault_number f) (ap (λ (x : TableAfter). x.answer.refusal.number) z))

  pub counted-put : (n : ℕ) → 4096 ≤ length d → ◌≡◌ {A = TableAfter} (record { answer = answered_names (Ok n); entries = after }) (names_written names components repetitions d)
      → ◌≡◌ {A = EntriesPut} (record { answer = answered_names (Ok n); words = sets w 8384 (part_of after 0 n) }) (entries_put w entries)
  unfolding names_written
  counted-put n room e = go (ltb 4096 (length entries)) refl e
    where
      go : (t : Bool) → ltb 4096 (length entries) ≡ t → ◌≡◌ {A = TableAfter} (record { answer = answered_names (Ok n); entries = after }) (written_by t)
          → ◌≡◌ {A = EntriesPut} (record { answer = answered_names (Ok n); words = sets w 8384 (part_of after 0 n) }) (put_by t)
      go true q z = absurd (omega (arith, ap (λ (x : TableAfter). x.answer.refusal.number) z))
      go false q z =
          let c : n ≡ length entries = ap (λ (x : TableAfter). x.answer.count) z in
          let few : length entries ≤ 4096 = ltb-false 4096 (length entries) q in
          let l : length (map entry_word entries) ≡ n = length-map entries entry_word ∙ sym c in
          let s : after ≡ sets d 0 (map entry_word entries) = ap (λ (x : TableAfter). x.entries) z in
          let p : part_of after 0 n ≡ map entry_word entries =
          rw (s, sets-eq (map entry_word entries) d 0 (omega arith)) (take_at (map entry_word entries) (drop (0 + length (map entry_word entries)) d) n l) in
          rw p (ap (λ (m : ℕ). record { answer = record { refusal = no_refusal; count = m }; words = sets w 8384 (map entry_word entries) }) c)

-- the end of an axis keeps the length of its words
pub end-length : (s : AxisState) (r : AxisReading) (w : List ℕ) → length (end_in s r w).words ≡ length w
unfolding end_in
end-length s r w = go (eqb (end_fault_in s r w) 0) _ _ (length-sets w 8384 (map entry_word (entries_in s w))) refl
  where
    go : (t : Bool) (a b : EndedAxis) → length a.words ≡ length w → length b.words ≡ length w → length (cond t a b).words ≡ length w
    go true a b x y = x
    go false a b x y = y
