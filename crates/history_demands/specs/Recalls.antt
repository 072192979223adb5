-- A recall after any acts (document 02, request 14): "Recall should bring back any earlier panel". proofs/ proves it.
use Rattle.std.specs.Prelude.{ℕ, ◌≤◌, ◌<◌, ◌≡◌, ◌↔◌, List, map, take}
use Rattle.coordinates.specs.declared.axis.Axis.TheVariants.{Column, Row}
use Rattle.panel_tables.specs.declared.Panel.{Panel}
use Rattle.panel_tables.specs.Axes.{room_in}
use Rattle.sheet_rules.specs.Panels.{Tables}
use Rattle.edit_rules.specs.Edits.{edit_of}
use Rattle.history_demands.specs.Acts.{InHand, recall, refusal_to, after_act, Reached, all_steps, HistoryRun, AcceptedRun, reached_by, panel_held}
use Rattle.history_demands.specs.Run.{GivenBy}

-- ---- the same panel again

-- the used bytes of a store are the same; those past them are nobody's
pub record SameTables (p : Panel) (t u : Tables) : Type 0 where
  pub columns : t.columns ≡ u.columns
  pub rows : t.rows ≡ u.rows
  pub column_marks : t.column_marks ≡ u.column_marks
  pub row_marks : t.row_marks ≡ u.row_marks
  pub areas : t.areas ≡ u.areas
  pub area_bytes : t.area_bytes ≡ u.area_bytes
  pub placements : t.placements ≡ u.placements
  pub placement_bytes : t.placement_bytes ≡ u.placement_bytes
  pub column_store : take (room_in p.room Column).used t.column_store ≡ take (room_in p.room Column).used u.column_store
  pub row_store : take (room_in p.room Row).used t.row_store ≡ take (room_in p.room Row).used u.row_store

pub record BroughtBack (h g : InHand) : Type 0 where
  pub panel : g.panel ≡ h.panel
  pub history : g.history ≡ h.history
  pub tables : SameTables h.panel g.tables h.tables
  pub bytes : g.bytes ≡ h.bytes

-- ---- a recall to a step that there is

pub record RecallTheorem (s : List ℕ) (t : Tables) (r : Reached) (k : ℕ) : Type 0 where
  -- it is never refused
  pub accepted : refusal_to s r.held (recall k) ≡ 0
  -- "yields the panel that those first edits alone give"
  pub panel : GivenBy s t (map edit_of (take k (all_steps r.steps))) (panel_held (after_act s r.held (recall k)))
  pub history : (after_act s r.held (recall k)).history ≡ record { step = k; last = r.held.history.last }
  -- no byte of the history changes
  pub bytes : (after_act s r.held (recall k)).bytes ≡ r.held.bytes
  -- and a recall of the step before it brings that panel back
  pub back : BroughtBack r.held (after_act s (after_act s r.held (recall k)) (recall r.held.history.step))

abbrev pub RecallStep : Type 0
RecallStep =
    (r : HistoryRun) → AcceptedRun r → (k : ℕ) → k ≤ (reached_by r).held.history.last
    → RecallTheorem r.sheet r.tables (reached_by r) k

-- ---- "a step above the last by 17"

abbrev pub Seventeen : Type 0
Seventeen =
    (r : HistoryRun) → AcceptedRun r → (k : ℕ)
    → (refusal_to r.sheet (reached_by r).held (recall k) ≡ 17) ↔ ((reached_by r).held.history.last < k)
