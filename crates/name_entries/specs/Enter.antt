-- A direct entry of a line and a name (document 01, layer 4 and "Panel ranges"): its refusal.
use Rattle.std.specs.Prelude.{ℕ, ◌+◌, ◌≤◌, cond, not, ◌&&◌, ◌||◌, List, [], ◌∷◌, leb, ltb, length}
use Rattle.name_rules.specs.Css.{Bytes}
use Rattle.name_entries.specs.Names.{is_name}
use Rattle.name_entries.specs.Entries.{entry_of}

-- the refusal's number, 0 where there is none: not a name, a line outside 1 to 20,000, one entry more than 4,096 or bytes beyond
-- 32,768, a store of fewer bytes than 32,768
unfoldable pub entry_refusal : ℕ → ℕ → ℕ → ℕ → Bytes → ℕ
entry_refusal bytes count used line name =
    cond (not (is_name name)) 2
    (cond (not (leb 1 line && leb line 20000)) 4
    (cond (leb 4096 count || ltb 32768 (used + length name)) 8
    (cond (ltb bytes 32768) 10 0)))

-- the bytes of every entry lie below `used`
abbrev pub Within : ℕ → List ℕ → Type 0
Within used [] = Unit {0}
Within used (w ∷ l) = ((entry_of w).offset + (entry_of w).length ≤ used) × Within used l
