-- Entries that list the lines of one name (document 01, layer 4): the n-th is found without a look at the others.
use Rattle.std.specs.Prelude.{ℕ, Bool, true, ◌&&◌, List, [], ◌∷◌, ltb, leb, get_or}
use Rattle.name_rules.specs.Css.{Bytes}
use Rattle.name_rules.specs.Rule.{eq_bytes}
use Rattle.name_entries.specs.Entries.{entry_of, name_in}

-- an entry has the name, on a line above n and among the 20,000 that a name can lie on (document 01, panel ranges: entered lines)
abbrev pub lists_next : List ℕ → Bytes → ℕ → ℕ → Bool
lists_next store nm n w = eq_bytes (name_in store (entry_of w)) nm && (ltb n (entry_of w).line && leb (entry_of w).line 20000)

-- every entry has the name, each on a line above that of the one before
unfoldable pub listed_from : List ℕ → Bytes → ℕ → List ℕ → Bool
listed_from store nm n [] = true
listed_from store nm n (w ∷ ws) = lists_next store nm n w && listed_from store nm (entry_of w).line ws

-- the entries list the lines of the first one's name
unfoldable pub listed : List ℕ → List ℕ → Bool
listed store ws = listed_from store (name_in store (entry_of (get_or ws 0 0))) 0 ws
