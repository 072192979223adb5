-- The size of an axis, and whatever is read of its template, is that of what counts as the template. Assumes nothing.
use mathlib.Core.Path.{◌≡◌, refl, sym, ap, ◌∙◌, subst}
use mathlib.Core.Logic.{inl, ⊎_elim}
use mathlib.Core.List.{List, []}
use Rattle.sizing.specs.Words.{zero32, sizing_of}
use Rattle.template_rules.specs.Summary.{meaning_of}
use Rattle.template_rules.specs.Counts.{automatic_count, any_empty}
use Rattle.template_rules.specs.Explicit.{template_size_of, inner_value}
use Rattle.template_rules.specs.declared.TemplateSize.{TemplateSize}
use Rattle.template_rules.specs.Css.{Valid}
use Rattle.template_rules.proofs.Valid.{valid_css}
use Rattle.template_rules.proofs.Nothing.{none_exactly, none-repeated}
use Rattle.axis_tables.specs.View.{Item, AxisLine, AxisView, components_of}
use Rattle.axis_tables.proofs.Fits.{SmallItems}
use Rattle.sheet_rules.specs.Sheet.{inner_of, strategy_of, size_of, counted}
use Rattle.sheet_rules.specs.Valid.{ValidTemplate, CssCounted}
use Rattle.sheet_rules.proofs.Counted.{template_or_not, counted-valid, counted_css, invalid_nothing}

-- ---- what a valid template counts as

pub valid-counted : (is : List Item) → ValidTemplate is → CssCounted is is
valid-counted is v = record { valid = λ _. refl; invalid = λ h. absurd (h v) }

-- ---- an empty template

empty_valid : Valid []
unfolding automatic_count any_empty
empty_valid = (valid_css zero32 []).0 refl

-- layer 3's answer for an `axis` record and items
abbrev pub size_for : AxisLine → List Item → TemplateSize
size_for l is = template_size_of (inner_of l) (strategy_of l) (sizing_of l.gap) (meaning_of (inner_value (inner_of l)) (components_of is))

no_size : {t u : TemplateSize} → t.repetitions ≡ u.repetitions → t.tracks ≡ u.tracks → t ≡ u
no_size p q i = record { repetitions = p i; tracks = q i }

-- ---- what counts
module _ (v : AxisView) where
  -- it is valid
  pub counted-components : Valid (components_of (counted v))
  counted-components =
      ⊎_elim
      (λ (t : ValidTemplate v.template). subst (λ (is : List Item). Valid (components_of is)) (sym (counted-valid v t)) t.components)
      (λ (h : ValidTemplate v.template → ⊥). subst (λ (is : List Item). Valid (components_of is)) (sym ((counted_css v).invalid h)) empty_valid)
      (template_or_not v.template)

  -- the size is its size
  whole-size : counted v ≡ v.template → size_of v ≡ size_for v.line (counted v)
  unfolding size_of
  whole-size e = ap (size_for v.line) (sym e)

  empty-size : (ValidTemplate v.template → ⊥) → size_of v ≡ size_for v.line (counted v)
  empty-size h =
      let n = invalid_nothing v h in
      let inner = inner_of v.line in
      let strategy = strategy_of v.line in
      let gap = sizing_of v.line.gap in
      let tracks : (size_for v.line []).tracks ≡ 0 = (none_exactly inner strategy gap []).1 (inl refl) in
      no_size (n.repetitions ∙ sym (none-repeated inner strategy gap [] tracks)) (n.tracks ∙ sym tracks) ∙ ap (size_for v.line) (sym n.template)

  pub counted-size : size_of v ≡ size_for v.line (counted v)
  counted-size = ⊎_elim (λ t. whole-size (counted-valid v t)) empty-size (template_or_not v.template)

  pub counted-small : SmallItems v.template → SmallItems (counted v)
  counted-small s =
      ⊎_elim (λ t. subst SmallItems (sym (counted-valid v t)) s) (λ h. subst SmallItems (sym ((counted_css v).invalid h)) tt) (template_or_not v.template)
