-- The name entries written out of a view's words are those of the view. Assumes nothing.
use Prim.Native.Nat.{ℕ, ◌+◌, ◌≤◌}
use mathlib.Core.Path.{◌≡◌, refl, sym, ap, ◌∙◌}
use mathlib.Core.Bool.{Bool, true, false, cond}
use mathlib.Core.List.{List, [], ◌∷◌, ◌++◌, map}
use native.Mathlib.Omega.{arith}
use lib.Dec.{eqb}
use lib.ListN.{length, length-map}
use Rattle.name_rules.specs.Template.{rule_from}
use Rattle.name_entries.specs.declared.NameEntry.{NameEntry}
use Rattle.name_entries.specs.Entries.{named_entry, entries_of as held_entries}
use Rattle.name_entries.specs.Places.{name_place}
use Rattle.name_template.specs.Writing.{written_entries, entry_word}
use Rattle.name_template.specs.Lines.{Below}
use Rattle.name_template.proofs.Placing.{small-offset, small-length}
use Rattle.name_template.proofs.Lines.{written-lines, read_back}
use Rattle.name_template.proofs.Pieces.{named}
use Rattle.name_template.proofs.Items.{written_rule}
use Rattle.sheet_forms.specs.Faults.{first_of}
use Rattle.sheet_forms.proofs.Firsts.{first_zero}
use Rattle.axis_tables.specs.View.{Unended, none, inside, AxisView, tracks_of, components_of, names_of, written, axis_bytes}
use Rattle.axis_tables.specs.Written.{components_from}
use Rattle.axis_tables.specs.Reads.{name_record_in}
use Rattle.axis_tables.proofs.Joins.{length-components}
use Rattle.axis_tables.proofs.Fits.{Fits, few-tracks}
use Rattle.axis_tables.proofs.Back.{name-words-back, names-back}
use Rattle.sheet_rules.specs.Sheet.{size_of, counted, items_of, entries_of, open_fault, count_fault, entries_fault, axis_fault}
use Rattle.sheet_rules.specs.Panels.{name_words, name_entries, entry_words}
use Rattle.sheet_end.proofs.Items.{few-held, items-read, order-read}

-- an axis without fault has no open repeat
no_open : (u : Unended) → open_fault u ≡ 0 → u ≡ none
no_open none e = refl
no_open (inside r) e = absurd (never e)
  where
    never : ◌≡◌ {A = ℕ} 1 0 → ⊥
    never h = omega arith

pub none_open : (v : AxisView) → axis_fault v ≡ 0 → v.unended ≡ none
none_open v e = no_open v.unended (first_zero (open_fault v.unended) (first_of (count_fault v) (entries_fault v)) e).0

-- any record's bytes lie below that
below-any : (ws : List ℕ) → Below 65790 ws
below-any [] = tt
below-any (w ∷ ws) = let x = small-offset w (name_place w) refl in let y = small-length w (name_place w) refl in (omega arith, below-any ws)

module _ (v : AxisView) (f : Fits v) where
  -- the limits of a view that fits
  pub few-components : length (components_of v.template) ≤ 64
  few-components = let h = f.components in omega arith

  few : 0 + length (tracks_of v.template) ≤ 65535
  few = let h = few-components in let t = few-tracks v.template f.items in omega arith

  module _ (closed : v.unended ≡ none) (rest : List ℕ) where
    abbrev store : List ℕ
    store = axis_bytes v ++ rest

    -- the words of its names read as its names
    words-read : map (name_record_in store) (name_words v) ≡ names_of v.template
    words-read =
        ap (map (name_record_in store)) (sym (name-words-back v f [])) ∙ names-back v f [] rest
        ∙ ap (λ (u : Unended). names_of (written v.template u)) closed

    -- the entries that are written out, with their names, are the rule's over the view's items
    rule-named : named store (written_entries (name_words v) (components_from 0 v.template) (size_of v).repetitions) ≡ rule_from 1 (items_of (size_of v).repetitions v.template)
    rule-named =
        written_rule store (size_of v).repetitions 0 1 (name_words v) (components_from 0 v.template)
        (order-read store v.template 0 0 (name_words v) f.items few words-read)
        ∙ ap (rule_from 1) (items-read store (size_of v).repetitions v.template 0 0 (name_words v) f.items few words-read)

    -- and where the template counts as none there are none on either side
    pub entries-named : named store (name_entries v) ≡ entries_of v
    unfolding name_entries entries_of counted rule_from
    entries-named = go (eqb (size_of v).tracks 0)
      where
        whole : List NameEntry
        whole = written_entries (name_words v) (components_from 0 v.template) (size_of v).repetitions

        go : (t : Bool) → named store (cond t [] whole) ≡ rule_from 1 (items_of (size_of v).repetitions (cond t [] v.template))
        go true = refl
        go false = rule-named

  -- as many as the view has
  pub entries-count : v.unended ≡ none → length (name_entries v) ≡ length (entries_of v)
  entries-count closed = sym (length-map (name_entries v) (named_entry (axis_bytes v ++ []))) ∙ ap length (entries-named closed [])

-- the words of the entries, read with the names' bytes
pub entries_read : (v : AxisView) → Fits v → axis_fault v ≡ 0 → (rest : List ℕ) → held_entries (entry_words v) (axis_bytes v ++ rest) ≡ entries_of v
unfolding entry_words name_entries held_entries
entries_read v f e rest = words_back (eqb (size_of v).tracks 0) ∙ entries-named v f (none_open v e) rest
  where
    store : List ℕ
    store = axis_bytes v ++ rest

    whole : List NameEntry
    whole = written_entries (name_words v) (components_from 0 v.template) (size_of v).repetitions

    c : length (components_from 0 v.template) ≤ 64
    c = rw (length-components 0 v.template) (few-components v f)

    words_back : (t : Bool) → held_entries (map entry_word (cond t [] whole)) store ≡ named store (cond t [] whole)
    words_back true = refl
    words_back false =
        read_back 65790 whole store
        (written-lines (name_words v) (components_from 0 v.template) (size_of v).repetitions 65790 (below-any (name_words v)) c (few-held v.template 0 f.items (few v f)))
