-- What the theorems ask of names and placements.
use Rattle.std.specs.Prelude.{◌≡◌, Bool, ℕ, zero, suc, ◌≤◌, pos, negsuc}
use mathlib.Core.List.{List, [], ◌∷◌, ◌++◌, Memᴰ}
use Rattle.name_rules.specs.Css.{Bytes, Side, suffix, AxisNames, Named, Placement, auto, line, named, span, nspan}

-- the names that an end uses: its name; for a name alone, with number 0, also that name with -start at the start, -end at the end
abbrev pub used_names : Side → Placement → List Bytes
used_names s auto = []
used_names s (line g) = []
used_names s (named nm (pos zero)) = nm ∷ (nm ++ suffix s) ∷ []
used_names s (named nm (pos (suc i))) = nm ∷ []
used_names s (named nm (negsuc i)) = nm ∷ []
used_names s (span n) = []
used_names s (nspan nm n) = nm ∷ []

-- every line of a name is explicit
abbrev pub NameLies : AxisNames → Bytes → Type 0
NameLies x nm = (k : ℕ) → Named x nm (suc k) → k ≤ x.explicit

-- an end does not write line 0
abbrev pub NoZero : Placement → Type 0
NoZero auto = Unit {0}
NoZero (line g) = g ≡ pos 0 → ⊥
NoZero (named nm i) = Unit {0}
NoZero (span n) = Unit {0}
NoZero (nspan nm n) = Unit {0}

-- the lines of the names that an end uses are explicit, and it writes no line 0
pub record UsedNamesLie (x : AxisNames) (s : Side) (p : Placement) : Type 0 where
  pub lies : (nm : Bytes) → Memᴰ nm (used_names s p) → NameLies x nm
  pub nonzero : NoZero p

-- every name lies on an explicit line, and there are at most 10,000 explicit tracks
pub record OnExplicitLines (x : AxisNames) : Type 0 where
  pub small : x.explicit ≤ 10000
  pub lies : (nm : Bytes) → NameLies x nm

-- two predicates that say which lines have which name agree on a name
abbrev pub Agree : (Bytes → ℕ → Bool) → (Bytes → ℕ → Bool) → Bytes → Type 0
Agree a b nm = (l : ℕ) → a nm (suc l) ≡ b nm (suc l)

-- they agree on the names that an end uses
abbrev pub AgreeOn : (Bytes → ℕ → Bool) → (Bytes → ℕ → Bool) → Side → Placement → Type 0
AgreeOn a b s p = (nm : Bytes) → Memᴰ nm (used_names s p) → Agree a b nm

-- the same members, in any order and any number of times
abbrev pub SameMembers : {A : Type 0} → List A → List A → Type 0
SameMembers {A = A} l m = (a : A) → (Memᴰ a l → Memᴰ a m) × (Memᴰ a m → Memᴰ a l)

-- the same explicit count, entries and areas
pub record SameNames (x y : AxisNames) : Type 0 where
  pub explicit : x.explicit ≡ y.explicit
  pub entries : SameMembers x.book y.book
  pub areas : SameMembers x.areas y.areas
