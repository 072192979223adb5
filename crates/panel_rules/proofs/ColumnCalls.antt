-- What the entry calls on the columns answer, from the columns of the sheet and those calls alone. Assumes nothing.
use mathlib.Core.Path.{◌≡◌, refl, ap, ap₂, ◌∙◌}
use mathlib.Core.List.{List, [], ◌∷◌}
use mathlib.Core.Bool.{false, cond}
use Rattle.coordinates.specs.declared.axis.Axis.{Axis}
use Rattle.coordinates.specs.declared.axis.Axis.TheVariants.{Column, Row}
use Rattle.coordinates.specs.Refusals.{Refusal, refusal_of}
use Rattle.name_rules.specs.Css.{Entry}
use Rattle.axis_tables.specs.View.{AxisView}
use Rattle.panel_tables.specs.View.{PanelView}
use Rattle.sheet_rules.specs.Panels.{Tables}
use Rattle.sheet_rules.specs.Read.{short_stores}
use Rattle.panel_rules.specs.Runs.{Held, Call, after}
use Rattle.panel_rules.specs.Views.{held_after}
use Rattle.panel_rules.specs.Book.{same_axis}
use Rattle.panel_rules.specs.Added.{refusal_after, entries_with}
use Rattle.panel_rules.specs.Alone.{column_calls, column_refusals}
use Rattle.panel_rules.proofs.Fit.{EntriesFit}
use Rattle.panel_rules.proofs.OneCall.{refusal-held, after-held}
use Rattle.panel_rules.proofs.Held.{with-fit}

-- what the table answers to the calls on the columns, one after the other, after further entries `es` there
unfoldable pub refusals_after : AxisView → List Entry → List Call → List Refusal
refusals_after x es [] = []
refusals_after x es (c ∷ cs) = cond (same_axis Column c.axis) (refusal_of (refusal_after x es c) ∷ refusals_after x (entries_with Column x es c) cs) (refusals_after x es cs)

abbrev on_axis : Call → Axis → Call
on_axis c a = record { axis = a; line = c.line; name = c.name }

-- a call on the columns answers by the entries there and adds to them; one on the rows leaves them
module _ (v : PanelView) (t : Tables) (long : short_stores t ≡ false) where
  calls-answer : (cs : List Call) (es rs : List Entry) → EntriesFit v.columns es → EntriesFit v.rows rs
      → column_refusals (held_after v t es rs) cs ≡ refusals_after v.columns es cs
  unfolding column_refusals refusals_after
  calls-answer [] es rs f g = refl
  calls-answer (c ∷ cs) es rs f g = go c.axis (calls-answer cs)
    where
      h : Held
      h = held_after v t es rs

      next : (a : Axis)
          → ((x y : List Entry) → EntriesFit v.columns x → EntriesFit v.rows y → column_refusals (held_after v t x y) cs ≡ refusals_after v.columns x cs)
          → column_refusals (after h (on_axis c a)) cs ≡ refusals_after v.columns (entries_with Column v.columns es (on_axis c a)) cs
      next a ih =
          let d : Call = on_axis c a in
          ap (λ (k : Held). column_refusals k cs) (after-held v t es rs long f g d)
          ∙ ih (entries_with Column v.columns es d) (entries_with Row v.rows rs d) (with-fit Column v.columns es d f) (with-fit Row v.rows rs d g)

      go : (a : Axis)
          → ((x y : List Entry) → EntriesFit v.columns x → EntriesFit v.rows y → column_refusals (held_after v t x y) cs ≡ refusals_after v.columns x cs)
          → column_refusals h (on_axis c a ∷ cs) ≡ refusals_after v.columns es (on_axis c a ∷ cs)
      go Column ih = ap₂ (λ (r : Refusal) (rs : List Refusal). r ∷ rs) (refusal-held v t es rs long f g (on_axis c Column)) (next Column ih)
      go Row ih = next Row ih

-- so the calls on the rows can be dropped
answers-kept : (x : AxisView) (cs : List Call) (es : List Entry) → refusals_after x es cs ≡ refusals_after x es (column_calls cs)
unfolding refusals_after column_calls
answers-kept x [] es = refl
answers-kept x (c ∷ cs) es = go c.axis (answers-kept x cs)
  where
    go : (a : Axis) → ((l : List Entry) → refusals_after x l cs ≡ refusals_after x l (column_calls cs))
        → refusals_after x es (on_axis c a ∷ cs) ≡ refusals_after x es (column_calls (on_axis c a ∷ cs))
    go Column ih = ap (λ (rs : List Refusal). refusal_of (refusal_after x es (on_axis c Column)) ∷ rs) (ih (entries_with Column x es (on_axis c Column)))
    go Row ih = ih es

pub columns_refusals : (v : PanelView) (t : Tables) (cs : List Call) → short_stores t ≡ false → EntriesFit v.columns [] → EntriesFit v.rows []
    → column_refusals (held_after v t [] []) cs ≡ refusals_after v.columns [] (column_calls cs)
columns_refusals v t cs long f g = calls-answer v t long cs [] [] f g ∙ answers-kept v.columns cs []
