-- The lines of a name in its group, by the entries that can have it. Assumes nothing.
use mathlib.Core.Path.{◌≡◌, refl, sym, ◌∙◌, ap, fun_ext}
use mathlib.Core.Bool.{Bool, true, false, ◌||◌}
use mathlib.Core.List.{List, ◌++◌}
use Prim.Native.Nat.{ℕ, suc}
use Rattle.coordinates.specs.declared.axis.Axis.{Axis}
use Rattle.name_rules.specs.Css.{Bytes}
use Rattle.name_rules.specs.Rule.{any, written?}
use Rattle.name_entries.specs.Entries.{entries_of}
use Rattle.name_lines.specs.Areas.{areas_of, edged_by, bears_joined, sought_in}
use Rattle.name_lines.specs.Suffixes.{tail_of}
use Rattle.name_lines.proofs.Marking.{or_false}
use Rattle.name_groups.specs.Listed.{listed, listed_from}
use Rattle.name_groups.specs.Keys.{joined_key}
use Rattle.name_groups.specs.Groups.{group_at, group_part, Lists}
use Rattle.name_groups.specs.declared.key.Grouping.{Grouping}
use Rattle.panel_resolving.specs.Listing.{LinesAscend, on_line, first_named, named_part}
use Rattle.panel_resolving.specs.Drawn.{edges_drawn}
use Rattle.panel_resolving.proofs.Listing.{ascends, all_named, none_named}
use Rattle.panel_resolving.proofs.DrawnAreas.{none_edged_by}
use Rattle.std.specs.Prelude.{Option}
use Rattle.name_lines.specs.declared.GridAreaEnd.{GridAreaEnd}

module _ (axis : Axis) (store edges areas areastore : List ℕ) (stem : Bytes) (edge : Option GridAreaEnd) (part own : List ℕ) (flag has : Bool)
    (l : flag ≡ true → listed store part ≡ true) (f : flag ≡ true → has ≡ first_named store part (stem ++ tail_of edge)) (o : own ≡ named_part part flag has) where
  -- where the entries list another name, none of them has this one
  own-entries : (k : ℕ) → any (written? (stem ++ tail_of edge) (suc k)) (entries_of own store) ≡ any (written? (stem ++ tail_of edge) (suc k)) (entries_of part store)
  unfolding named_part entries_of
  own-entries k = rw o (go flag has refl refl)
    where
      go : (a b : Bool) → flag ≡ a → has ≡ b
          → any (written? (stem ++ tail_of edge) (suc k)) (entries_of (named_part part a b) store) ≡ any (written? (stem ++ tail_of edge) (suc k)) (entries_of part store)
      go true true p q = refl
      go true false p q = sym (none_named store part (l p) (stem ++ tail_of edge) (sym (f p) ∙ q) k)
      go false b p q = refl

  -- a name is on the same lines by the entries that can have it
  pub own-sought : sought_in axis own store edges areas areastore stem edge ≡ sought_in axis part store edges areas areastore stem edge
  unfolding sought_in bears_joined
  own-sought = fun_ext (λ (k : ℕ). ap (λ (b : Bool). b || edged_by (areas_of axis edges areas areastore) stem edge (suc k)) (own-entries k))

  module _ (p : flag ≡ true) where
    -- the lines of entries that list another name: none
    own-listed : (b : Bool) → has ≡ b → listed store (named_part part flag b) ≡ true
    unfolding named_part listed listed_from
    own-listed true q = rw p (l p)
    own-listed false q = rw p

    -- the lines of listed entries ascend
    pub own-ascend : LinesAscend own
    own-ascend = ascends store own (rw o (own-listed has refl))

    -- the lines of the entries that can have the name
    own-lines : (k : ℕ) → on_line own k ≡ any (written? (stem ++ tail_of edge) (suc k)) (entries_of part store)
    unfolding named_part
    own-lines k = rw o (go has refl)
      where
        go : (b : Bool) → has ≡ b → on_line (named_part part flag b) k ≡ any (written? (stem ++ tail_of edge) (suc k)) (entries_of part store)
        go true q = rw p (sym (all_named store part (l p) (stem ++ tail_of edge) (sym (f p) ∙ q) k))
        go false q = rw p (sym (none_named store part (l p) (stem ++ tail_of edge) (sym (f p) ∙ q) k))

    -- where no area is drawn, they are all
    pub alone-sought : edges_drawn edges areas areastore stem edge ≡ false → on_line own ≡ sought_in axis part store edges areas areastore stem edge
    unfolding sought_in bears_joined
    alone-sought d =
        fun_ext (λ (k : ℕ). own-lines k ∙ sym (or_false (any (written? (stem ++ tail_of edge) (suc k)) (entries_of part store)))
        ∙ ap (λ (b : Bool). any (written? (stem ++ tail_of edge) (suc k)) (entries_of part store) || b) (sym (none_edged_by axis edges areas areastore stem edge (suc k) d)))

-- the entries of a group that is said to be listed are
pub part_listed : (g : Grouping) (index store : List ℕ) (stem : Bytes) (edge : Option GridAreaEnd) → Lists g index store → (part : List ℕ) (flag : Bool)
    → part ≡ group_part index (group_at g index (joined_key g stem edge)) → flag ≡ (group_at g index (joined_key g stem edge)).listed → flag ≡ true → listed store part ≡ true
part_listed g index store stem edge h part flag e f l = rw e (h stem edge (sym f ∙ l))
