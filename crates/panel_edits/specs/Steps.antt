-- Texts one after the other on what is held.
use Rattle.std.specs.Prelude.{ℕ, List, [], ◌∷◌, cond, eqb}
use Rattle.panel_tables.specs.Written.{PanelHeld, PanelStepped}

-- what a text does: its refusal, and what is held then
abbrev pub TextStep : Type 0
TextStep = PanelHeld → List ℕ → PanelStepped

-- until one is refused
unfoldable pub stepped_by : TextStep → PanelHeld → List (List ℕ) → PanelStepped
stepped_by f h [] = record { fault = 0; held = h }
stepped_by f h (text ∷ texts) = cond (eqb (f h text).fault 0) (stepped_by f (f h text).held texts) (f h text)
