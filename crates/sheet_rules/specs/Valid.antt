-- CSS Grid Level 2, 7.2: which templates are valid, with their names, and what counts as the template where one isn't.
use Rattle.std.specs.Prelude.{◌≡◌, List, []}
use Rattle.template_rules.specs.Css.{Valid}
use Rattle.axis_tables.specs.View.{Item, components_of}

-- the tracks and repeats are valid, and "names without any track are no template"; an empty template is valid
pub record ValidTemplate (is : List Item) : Type 0 where
  pub components : Valid (components_of is)
  pub named : components_of is ≡ [] → is ≡ []

-- t is what CSS takes for the template: "otherwise the declaration is invalid, and the template counts as none"
pub record CssCounted (is t : List Item) : Type 0 where
  pub valid : ValidTemplate is → t ≡ is
  pub invalid : (ValidTemplate is → ⊥) → t ≡ []
