-- One accepted entry more on an axis: its words, its store and its state are those with that entry last. Assumes nothing.
use Prim.Native.Nat.{ℕ, ◌+◌, ◌≤◌, ◌<◌}
use mathlib.Core.Path.{◌≡◌, sym, ap, ◌∙◌}
use mathlib.Core.List.{List, [], ◌∷◌, ◌++◌, append_assoc}
use native.Mathlib.Omega.{arith}
use lib.ListN.{length, set, drop, length-append, length-drop}
use lib.Seq.{sets}
use borrow.Author.Tests.{le-ltb}
use Rattle.name_rules.specs.Css.{Bytes, Entry}
use Rattle.name_entries.specs.Enter.{entry_refusal}
use Rattle.name_entries.proofs.Accepted.{Accepted, accepted}
use Rattle.axis_tables.specs.Runs.{bytes_of, words_from}
use Rattle.axis_tables.specs.View.{AxisView, axis_bytes}
use Rattle.axis_tables.specs.Written.{regions_of, words_with}
use Rattle.axis_tables.proofs.Lays.{lay-put, pasted_puts}
use Rattle.axis_tables.proofs.Runs.{bytes-more, length-words, words_more}
use Rattle.axis_tables.proofs.Joins.{length_more}
use Rattle.sheet_rules.specs.Panels.{entry_words}
use Rattle.panel_rules.specs.Calls.{with_entry}
use Rattle.panel_rules.specs.Views.{entry_name, entry_word_at, words_after, bytes_after, store_after, state_after}
use Rattle.panel_rules.specs.Book.{table_refusal}
use Rattle.panel_rules.proofs.Fit.{InRange, EntriesFit}

-- stores that are long enough refuse what the table refuses
pub table_refusal_lem : (bytes count used line : ℕ) (name : Bytes) → 32768 ≤ bytes
    → entry_refusal bytes count used line name ≡ table_refusal count used line name
unfolding entry_refusal table_refusal
table_refusal_lem bytes count used line name h = rw (le-ltb bytes 32768 h)

-- a store keeps its length
pub length_store : (v : AxisView) (es : List Entry) (store : List ℕ) → length (bytes_after v es) ≤ length store → length (store_after v es store) ≡ length store
unfolding store_after
length_store v es store h =
    length-append (bytes_after v es) (drop (length (bytes_after v es)) store)
    ∙ ap (λ (n : ℕ). length (bytes_after v es) + n) (length-drop (length (bytes_after v es)) store)
    ∙ omega arith

-- what the table does not refuse has a short name and a line from 1 to 20,000, and fits
pub table_accepted : (count used line : ℕ) (name : Bytes) → table_refusal count used line name ≡ 0 → Accepted 32768 count used line name
table_accepted count used line name ok = accepted 32768 count used line name (table_refusal_lem 32768 count used line name (omega arith) ∙ ok)

-- one entry in range more
range_more : (es : List Entry) (e : Entry) → InRange es → 1 ≤ e.line → e.line ≤ 20000 → length e.name ≤ 32 → InRange (es ++ (e ∷ []))
range_more [] e r a b s = (a, b, s, tt)
range_more (x ∷ es) e (a1, b1, s1, r) a b s = (a1, b1, s1, range_more es e r a b s)

-- what an accepted entry leaves on its axis
pub record Entered (v : AxisView) (es : List Entry) (e : Entry) (store : List ℕ) : Type 0 where
  pub state : with_entry (state_after v es) (length e.name) ≡ state_after v (es ++ (e ∷ []))
  pub words : set (words_after v es) (8384 + (state_after v es).grid.entries) (entry_word_at e (state_after v es).room.used) ≡ words_after v (es ++ (e ∷ []))
  pub bytes : sets (store_after v es store) (state_after v es).room.used e.name ≡ store_after v (es ++ (e ∷ [])) store

module _ (v : AxisView) (es : List Entry) (e : Entry) where
  -- the bytes of the axis, and how many bytes and entries it has then
  bytes_after_lem : bytes_after v (es ++ (e ∷ [])) ≡ bytes_after v es ++ e.name
  bytes_after_lem =
      ap (λ (b : List ℕ). axis_bytes v ++ b) (bytes-more entry_word_at entry_name es e) ∙ sym (append_assoc (axis_bytes v) (bytes_of entry_name es) e.name)

  pub length-bytes : length (bytes_after v (es ++ (e ∷ []))) ≡ length (bytes_after v es) + length e.name
  length-bytes = ap length bytes_after_lem ∙ length-append (bytes_after v es) e.name

  pub more-entries : length (entry_words v) + length (es ++ (e ∷ [])) ≡ length (entry_words v) + length es + 1
  more-entries = omega (arith, length_more es e)

  -- the entry's word at the next place of the entries
  words_entered : length (entry_words v) + length es < 4096
      → set (words_after v es) (8384 + (length (entry_words v) + length es)) (entry_word_at e (length (bytes_after v es))) ≡ words_after v (es ++ (e ∷ []))
  unfolding words_after words_with regions_of
  words_entered h =
      let at : ℕ = length (axis_bytes v) in
      let ws : List ℕ = words_from entry_word_at entry_name at es in
      let n : ℕ = length (entry_words v) + length es in
      let p : ℕ = length (bytes_after v es) in
      let k : length (entry_words v ++ ws) ≡ n = length-append (entry_words v) ws ∙ ap (λ (m : ℕ). length (entry_words v) + m) (length-words entry_word_at entry_name at es) in
      lay-put (regions_of v (entry_words v ++ ws)) 6 (entry_word_at e p) n (8384 + n) k h (omega arith)
      ∙ sym (rw (words_more entry_word_at entry_name at es e p (length-append (axis_bytes v) (bytes_of entry_name es)), append_assoc (entry_words v) ws (entry_word_at e p ∷ [])))

  -- its bytes after those used
  bytes-entered : (store : List ℕ) → length (bytes_after v es) + length e.name ≤ length store
      → sets (store_after v es store) (length (bytes_after v es)) e.name ≡ store_after v (es ++ (e ∷ [])) store
  unfolding store_after
  bytes-entered store h =
      pasted_puts (bytes_after v es) e.name store h ∙ ap (λ (b : List ℕ). b ++ drop (length b) store) (sym bytes_after_lem)

  -- and its two counts
  state-entered : with_entry (state_after v es) (length e.name) ≡ state_after v (es ++ (e ∷ []))
  unfolding state_after
  state-entered = sym (rw (length-bytes, more-entries))

  -- an entry that the table does not refuse
  module _ (ok : table_refusal (length (entry_words v) + length es) (length (bytes_after v es)) e.line e.name ≡ 0) where
    fitting : Accepted 32768 (length (entry_words v) + length es) (length (bytes_after v es)) e.line e.name
    fitting = table_accepted (length (entry_words v) + length es) (length (bytes_after v es)) e.line e.name ok

    -- it leaves the axis with the entry last
    pub axis-entered : (store : List ℕ) → 32768 ≤ length store → Entered v es e store
    unfolding state_after
    axis-entered store h = record { state = state-entered; words = words_entered fitting.few; bytes = bytes-entered store (omega (arith, fitting.fits)) }

    -- and the entries still fit
    pub entered-fit : EntriesFit v es → EntriesFit v (es ++ (e ∷ []))
    entered-fit f =
        record {
          few = omega (arith, more-entries, fitting.few);
          bytes = omega (arith, length-bytes, fitting.fits);
          range = range_more es e f.range fitting.from fitting.to fitting.short;
        }
