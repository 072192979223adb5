-- A placement beside the index of the entries is resolved as beside the entries. Assumes nothing.
use mathlib.Core.Path.{◌≡◌, refl, ◌∙◌, ap, fun_ext}
use mathlib.Core.Bool.{Bool, true, false, cond, ◌||◌}
use mathlib.Core.List.{List}
use Prim.Native.Nat.{ℕ}
use borrow.Author.Tests.{leb-true}
use lib.Dec.{leb}
use Rattle.coordinates.specs.declared.axis.Axis.{Axis}
use Rattle.coordinates.specs.Refusals.{no_refusal}
use Rattle.name_rules.specs.Css.{Bytes, AxisNames}
use Rattle.name_rules.specs.Rule.{any, drawn?, named?}
use Rattle.name_lines.specs.Areas.{axis_names, bears}
use Rattle.name_groups.specs.Groups.{Grouped}
use Rattle.name_groups.proofs.Ungrouped.{whole_grouped}
use Rattle.name_resolver.specs.Types.{WrittenLine}
use Rattle.name_resolver.specs.Placements.{Resolution}
use Rattle.name_resolver.specs.Placements.{resolved_line, held_line, refused_resolution, resolution_of}
use Rattle.name_resolver.specs.Questions.{answered_line}
use Rattle.name_resolver.proofs.Questions.{line-answer}
use Rattle.axis_tables.specs.Runs.{part_of}
use Rattle.panel_resolving.specs.declared.Around.{Around}
use Rattle.panel_resolving.specs.Whole.{whole_around}
use Rattle.panel_resolving.specs.Names.{areas_around, bears_by, resolution_by}

module _ (x : Around) (entries store index areas areabytes : List ℕ) where
  -- the names of the axis
  abbrev pub names_around : AxisNames
  names_around = axis_names x.explicit x.axis entries store (part_of areas 0 x.areas) (part_of areas 64 x.areas) areabytes

  -- a name is on the same lines by the index
  names_same : Grouped x.grouping entries store index → bears_by x index store areas areabytes ≡ named? names_around
  unfolding bears_by bears named?
  names_same g = fun_ext (λ (nm : Bytes). fun_ext (λ (number : ℕ). ap (λ (b : Bool). b || any (drawn? nm number) (areas_around x areas areabytes)) (g.whole nm number)))

  -- so a placement is resolved alike
  pub grouped-resolution : Grouped x.grouping entries store index → (bytes : List ℕ) (l : WrittenLine)
      → resolution_by x.explicit (bears_by x index store areas areabytes) bytes l ≡ resolution_of names_around bytes l
  unfolding resolution_by resolution_of
  grouped-resolution g bytes l = rw (names_same g) (go (leb x.explicit 10000) refl)
    where
      go : (b : Bool) → leb x.explicit 10000 ≡ b
          → cond b (answered_line (named? names_around) bytes x.explicit l) refused_resolution
          ≡ cond b (record { refusal = no_refusal; line = resolved_line names_around bytes l; held = held_line names_around bytes l }) refused_resolution
      go true e = line-answer (named? names_around) bytes x.explicit (leb-true x.explicit 10000 e) l
      go false e = refl

  -- whatever the placement
  pub grouped-resolving : Grouped x.grouping entries store index → (bytes : List ℕ)
      → resolution_by x.explicit (bears_by x index store areas areabytes) bytes ≡ resolution_of names_around bytes
  grouped-resolving g bytes = fun_ext (λ (l : WrittenLine). grouped-resolution g bytes l)

-- entries that are kept together
module _ (axis : Axis) (explicit held : ℕ) (x : Around) (e : x ≡ whole_around axis explicit held) (entries words store : List ℕ) (f : entries ≡ words) where
  -- a placement is resolved beside them
  pub whole-resolution : (areas areabytes bytes : List ℕ) (l : WrittenLine) (r : Resolution)
      → r ≡ resolution_by x.explicit (bears_by x entries store areas areabytes) bytes l
      → r ≡ resolution_of (axis_names explicit axis words store (part_of areas 0 held) (part_of areas 64 held) areabytes) bytes l
  whole-resolution areas areabytes bytes l r h =
      (rw e at h) ∙ grouped-resolution (whole_around axis explicit held) entries store entries areas areabytes (whole_grouped entries store) bytes l
      ∙ ap (λ (ws : List ℕ). resolution_of (axis_names explicit axis ws store (part_of areas 0 held) (part_of areas 64 held) areabytes) bytes l) f
