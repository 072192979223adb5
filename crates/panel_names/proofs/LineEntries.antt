-- The entry of a name lies where the name does. Assumes nothing.
use Prim.Native.Nat.{ℕ}
use mathlib.Core.Path.{◌≡◌, refl, sym, ap, ◌∙◌}
use mathlib.Core.Bool.{Bool, true, false, cond}
use mathlib.Core.List.{List, []}
use lib.ListN.{get_or}
use Rattle.coordinates.specs.declared.axis.Axis.{Axis}
use Rattle.coordinates.specs.declared.axis.Axis.TheVariants.{Column, Row}
use Rattle.name_entries.specs.declared.NameEntry.{NameEntry}
use Rattle.name_entries.specs.Entries.{name_in}
use Rattle.name_entries.specs.LineNames.{explicit_line_names, of_axis}
use Rattle.name_entries.specs.LineEntries.{no_entry, explicit_line_entries}
use Rattle.name_entries.proofs.Showing.{entry-name}
use Rattle.panel_tables.specs.declared.Grid.{Grid}
use Rattle.panel_tables.specs.Axes.{grid_in}
use Rattle.panel_tables.specs.Regions.{axis_words_in}
use Rattle.panel_rules.specs.Calls.{NameTables, words_in, store_in, short_names, entry_words_in, book_in, line_name_in}
use Rattle.std.specs.Prelude.{Option, Some, None}
use Rattle.std.specs.Option.{unwrap_or}
use Rattle.std.specs.List.{slice_get}
use Rattle.std.proofs.lemmas.Option.{unwrap_or-slice_get}
use Rattle.panel_names.specs.LineEntries.{line_entry_in, shown_entry_in}

-- the entry that is shown is the line's, and where there is none it is one of no name
pub shown-entry : (p : Grid) (t : NameTables) (a : Axis) (line place : ℕ) → unwrap_or (shown_entry_in p t a line place) no_entry ≡ line_entry_in p t a line place
unfolding line_entry_in shown_entry_in
shown-entry p t a line place = go (short_names t)
  where
    go : (b : Bool) →
        unwrap_or (cond b None (slice_get (explicit_line_entries (grid_in p a).size.explicit (entry_words_in (grid_in p a) (words_in t a)) (store_in t a) line) place)) no_entry
        ≡ cond b no_entry (get_or (explicit_line_entries (grid_in p a).size.explicit (entry_words_in (grid_in p a) (words_in t a)) (store_in t a) line) place no_entry)
    go true = refl
    go false = unwrap_or-slice_get _ place no_entry

-- its name is the name of the line
pub line_entry_name : (p : Grid) (t : NameTables) (a : Axis) (line place : ℕ) → name_in (store_in t a) (line_entry_in p t a line place) ≡ line_name_in p t a line place
unfolding line_entry_in line_name_in
line_entry_name p t a line place = go (short_names t)
  where
    go : (b : Bool) →
        name_in (store_in t a) (cond b no_entry (get_or (explicit_line_entries (grid_in p a).size.explicit (entry_words_in (grid_in p a) (words_in t a)) (store_in t a) line) place no_entry))
        ≡ cond b [] (get_or (explicit_line_names (grid_in p a).size.explicit (book_in p t a) line) place [])
    go true = refl
    go false = entry-name line (store_in t a) (grid_in p a).size.explicit place (entry_words_in (grid_in p a) (words_in t a))

-- so is that of the entry that is shown, and where there is none the name of the line is empty
module _ (p : Grid) (t : NameTables) (a : Axis) (line place : ℕ) (o : Option NameEntry) (told : o ≡ shown_entry_in p t a line place) where
  pub shown-name : (e : NameEntry) → o ≡ Some e → name_in (store_in t a) e ≡ line_name_in p t a line place
  shown-name e f = ap (λ (x : Option NameEntry). name_in (store_in t a) (unwrap_or x no_entry)) (sym f ∙ told) ∙ ap (name_in (store_in t a)) (shown-entry p t a line place) ∙ line_entry_name p t a line place

  pub no-name : o ≡ None → [] ≡ line_name_in p t a line place
  no-name f = ap (λ (x : Option NameEntry). name_in (store_in t a) (unwrap_or x no_entry)) (sym f ∙ told) ∙ ap (name_in (store_in t a)) (shown-entry p t a line place) ∙ line_entry_name p t a line place

-- the words of an axis by a choice between both
pub words_of : (a : Axis) (words : List ℕ) → of_axis a (axis_words_in Column words) (axis_words_in Row words) ≡ axis_words_in a words
words_of Column words = refl
words_of Row words = refl
