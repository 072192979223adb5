-- What the code has on the way: as much of the line-name stores as an entry reaches.
use Rattle.std.specs.Prelude.{ℕ, min, ◌≡◌, List, length, take}
use Rattle.panel_rules.specs.Calls.{NameTables}
use Rattle.panel_hits.specs.Settled.{Lent}
use Rattle.panel_trial.specs.Trial.{with_tables}

-- an entry's offset has 16 bits and its length 8, so that no entry, whatever its word, reaches past these bytes of a store
unfoldable pub reached : List ℕ → List ℕ
reached store = take 65790 store

abbrev pub reached_tables : NameTables → NameTables
reached_tables t = record { columns = t.columns; rows = t.rows; column_store = reached t.column_store; row_store = reached t.row_store }

abbrev pub reached_lent : Lent → Lent
reached_lent l = with_tables l (reached_tables l.names)

-- so many bytes of a copy are what an entry reaches of a store
pub record Copied (store copy : List ℕ) (count : ℕ) : Type 0 where
  pub counted : count ≡ min (length store) 65790
  pub same : take count copy ≡ reached store
