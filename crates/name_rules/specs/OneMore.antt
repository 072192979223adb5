-- Document 02, request 13: how little one more name moves. Two axes that differ by one entry, on an explicit line.
use Rattle.std.specs.Prelude.{◌≡◌, ◌⊎◌, ℕ, suc, ◌-◌, ◌≤◌, ℤ, pos, negsuc, ◌≤ℤ◌}
use mathlib.Core.List.{◌∷◌, ◌++◌, Memᴰ}
use Rattle.coordinates.specs.Lines.{held}
use Rattle.name_rules.specs.Css.{Bytes, Entry, Side, start, end, suffix, AxisNames, Named, Placement}
use Rattle.name_rules.specs.Conditions.{used_names, NameLies, SameMembers}
use Rattle.name_rules.specs.Rule.{named?, found, resolve, held_ends}

-- y is x with one entry more, in any place: "adding one entry for a name, on an explicit line with the explicit count unchanged"
pub record OneMoreEntry (x y : AxisNames) (e : Entry) : Type 0 where
  pub explicit : y.explicit ≡ x.explicit
  pub areas : SameMembers y.areas x.areas
  pub entries : SameMembers y.book (e ∷ x.book)
  pub first : 1 ≤ e.line
  pub last : e.line ≤ suc x.explicit

-- the line that a name with an index is resolved to, origin-zero and held: document 01's layer 4
abbrev pub line_of_index : AxisNames → Bytes → Side → ℤ → ℤ
line_of_index x nm s i = held (found x.explicit (named? x) nm s i)

-- the area of that name has an edge on this side
abbrev pub HasEdge : AxisNames → Bytes → Side → Type 0
HasEdge x nm s = (l : ℕ) × (l ≤ 19999) × Named x (nm ++ suffix s) (suc l)

-- what the entry e moves, on lines in their order; "with all names on explicit lines" is needed of its own name alone
pub record MovesLittle (x y : AxisNames) (e : Entry) : Type 0 where
  -- "moves the answer for positive index k of that name no later, and for k above 1 no earlier than the answer for k - 1 was"
  pub no_later : NameLies x e.name → (s : Side) (k : ℕ) → line_of_index y e.name s (pos (suc k)) ≤ℤ line_of_index x e.name s (pos (suc k))
  pub no_earlier : NameLies x e.name → (s : Side) (k : ℕ) → line_of_index x e.name s (pos (suc k)) ≤ℤ line_of_index y e.name s (pos (suc (suc k)))
  -- "negative indexes mirror this"
  pub back_no_earlier : NameLies x e.name → (s : Side) (k : ℕ) → line_of_index x e.name s (negsuc k) ≤ℤ line_of_index y e.name s (negsuc k)
  pub back_no_later : NameLies x e.name → (s : Side) (k : ℕ) → line_of_index y e.name s (negsuc (suc k)) ≤ℤ line_of_index x e.name s (negsuc k)
  -- "placements using neither that name nor, through its suffix, its area are unchanged", the marks of held lines too
  pub others : (p q : Placement) → (Memᴰ e.name (used_names start p) → ⊥) → (Memᴰ e.name (used_names end q) → ⊥)
      → (resolve y.explicit (named? y) p q ≡ resolve x.explicit (named? x) p q)
      × (held_ends y.explicit (named? y) p q ≡ held_ends x.explicit (named? x) p q)
  -- "index 0 of that area either keeps its line or takes the new one"
  pub area : (nm : Bytes) (t s : Side) → e.name ≡ nm ++ suffix t
      → (line_of_index y nm s (pos 0) ≡ line_of_index x nm s (pos 0)) ⊎ (line_of_index y nm s (pos 0) ≡ pos (e.line - 1))
  -- "index 0 of the name itself keeps its area edge or moves as index 1"
  pub edge : (s : Side) → HasEdge x e.name s → line_of_index y e.name s (pos 0) ≡ line_of_index x e.name s (pos 0)
  pub bare : (s : Side) → (HasEdge x e.name s → ⊥)
      → (line_of_index x e.name s (pos 0) ≡ line_of_index x e.name s (pos 1)) × (line_of_index y e.name s (pos 0) ≡ line_of_index y e.name s (pos 1))
