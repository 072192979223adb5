-- What counts as the template is what CSS takes for it; an invalid one gives nothing but the bytes of its `name` records. Assumes nothing.
use mathlib.Core.Path.{◌≡◌, refl, sym, ap, ◌∙◌}
use mathlib.Core.Logic.{◌⊎◌, inl, inr, ⊎_elim, ◌↔◌}
use mathlib.Core.Bool.{Bool, true, false, cond, false≢true}
use mathlib.Core.List.{List, [], ◌∷◌, cons≢nil}
use Prim.Native.Nat.{ℕ, max, zero-le}
use native.Mathlib.Nat.{max-eq_right}
use borrow.Author.Tests.{eq-eqb, eqb-true, eqb-false}
use lib.Dec.{eqb}
use lib.ListN.{length, take, drop}
use lib.Seq.{take_at}
use Rattle.sizing.specs.Words.{zero32}
use Rattle.template_rules.specs.Template.{Component}
use Rattle.template_rules.specs.Summary.{meaning_of}
use Rattle.template_rules.specs.Explicit.{valid_of}
use Rattle.template_rules.specs.Css.{Valid}
use Rattle.template_rules.proofs.Valid.{valid_css}
use Rattle.template_rules.proofs.Nothing as Layer3
use Rattle.name_rules.specs.Template.{rule_from}
use Rattle.axis_tables.specs.Store.{zero_template}
use Rattle.axis_tables.specs.View.{Item, AxisView, components_of, axis_bytes}
use Rattle.axis_tables.specs.Written.{room_of}
use Rattle.sheet_rules.specs.Sheet.{size_of, counted, entries_of}
use Rattle.sheet_rules.specs.Valid.{ValidTemplate, CssCounted}
use Rattle.sheet_rules.specs.Panels.{name_entries, entry_words, sized_state, pasted}

-- ---- it is known of every template whether it is valid

some_or_none : (cs : List Component) → (cs ≡ []) ⊎ (cs ≡ [] → ⊥)
some_or_none [] = inl refl
some_or_none (c ∷ cs) = inr (λ e. cons≢nil e)

no_items : (is : List Item) → (is ≡ []) ⊎ (is ≡ [] → ⊥)
no_items [] = inl refl
no_items (i ∷ is) = inr (λ e. cons≢nil e)

valid_or_not : (cs : List Component) → Valid cs ⊎ (Valid cs → ⊥)
valid_or_not cs = go (valid_of (meaning_of zero32 cs)) refl
  where
    go : (t : Bool) → valid_of (meaning_of zero32 cs) ≡ t → Valid cs ⊎ (Valid cs → ⊥)
    go true e = inl ((valid_css zero32 cs).0 e)
    go false e = inr (λ v. false≢true (sym e ∙ (valid_css zero32 cs).1 v))

pub template_or_not : (is : List Item) → ValidTemplate is ⊎ (ValidTemplate is → ⊥)
template_or_not is =
    ⊎_elim
    (λ (v : Valid (components_of is)).
    ⊎_elim
    (λ (e : components_of is ≡ []).
    ⊎_elim
    (λ (z : is ≡ []). inl (record { components = v; named = λ _. z }))
    (λ (z : is ≡ [] → ⊥). inr (λ t. z (t.named e)))
    (no_items is))
    (λ (h : components_of is ≡ [] → ⊥). inl (record { components = v; named = λ e. absurd (h e) }))
    (some_or_none (components_of is)))
    (λ (h : Valid (components_of is) → ⊥). inr (λ t. h t.components))
    (valid_or_not (components_of is))

-- ---- what counts

-- a template has no track exactly where it has no component or is invalid
pub none_exactly : (v : AxisView) → ((size_of v).tracks ≡ 0) ↔ ((components_of v.template ≡ []) ⊎ (Valid (components_of v.template) → ⊥))
unfolding size_of
none_exactly v = Layer3.none_exactly _ _ _ (components_of v.template)

none-repeated : (v : AxisView) → (size_of v).tracks ≡ 0 → (size_of v).repetitions ≡ 0
unfolding size_of
none-repeated v = Layer3.none-repeated _ _ _ (components_of v.template)

invalid_none : (v : AxisView) → (ValidTemplate v.template → ⊥) → (size_of v).tracks ≡ 0
invalid_none v h =
    (none_exactly v).1
    (⊎_elim
    (λ (e : components_of v.template ≡ []). inl e)
    (λ (s : components_of v.template ≡ [] → ⊥). inr (λ c. h (record { components = c; named = λ e. absurd (s e) })))
    (some_or_none (components_of v.template)))

-- an invalid template counts as none, a valid one as itself
pub counted_none : (v : AxisView) → (size_of v).tracks ≡ 0 → counted v ≡ []
unfolding counted
counted_none v e = rw (eq-eqb (size_of v).tracks 0 e)

pub counted-whole : (v : AxisView) → ((size_of v).tracks ≡ 0 → ⊥) → counted v ≡ v.template
unfolding counted
counted-whole v h = go (eqb (size_of v).tracks 0) refl
  where
    go : (t : Bool) → eqb (size_of v).tracks 0 ≡ t → cond t [] v.template ≡ v.template
    go true e = absurd (h (eqb-true (size_of v).tracks 0 e))
    go false e = refl

pub counted-valid : (v : AxisView) → ValidTemplate v.template → counted v ≡ v.template
counted-valid v t = go (eqb (size_of v).tracks 0) refl
  where
    go : (b : Bool) → eqb (size_of v).tracks 0 ≡ b → counted v ≡ v.template
    go true e =
        let z = eqb-true (size_of v).tracks 0 e in
        ⊎_elim (λ n. counted_none v z ∙ sym (t.named n)) (λ h. absurd (h t.components)) ((none_exactly v).0 z)
    go false e = counted-whole v (eqb-false (size_of v).tracks 0 e)

-- so it is CSS's, which is one
pub counted_css : (v : AxisView) → CssCounted v.template (counted v)
counted_css v = record { valid = counted-valid v; invalid = λ h. counted_none v (invalid_none v h) }

pub counted_unique : (is t u : List Item) → CssCounted is t → CssCounted is u → t ≡ u
counted_unique is t u a b = ⊎_elim (λ v. a.valid v ∙ sym (b.valid v)) (λ h. a.invalid h ∙ sym (b.invalid h)) (template_or_not is)

-- ---- what an invalid template gives

pub record NothingGiven (v : AxisView) : Type 0 where
  pub repetitions : (size_of v).repetitions ≡ 0
  pub tracks : (size_of v).tracks ≡ 0
  pub template : counted v ≡ []
  pub entries : entries_of v ≡ []
  pub words : entry_words v ≡ []
  -- the grid that every later call is handed: no component, no track, no entry
  pub components : (sized_state v).grid.template ≡ zero_template
  pub held : (sized_state v).grid.entries ≡ 0
  -- areas still count
  pub explicit : (sized_state v).grid.size.explicit ≡ v.areas
  -- the room keeps what is written, and the bytes of all its `name` records are used
  pub written : (sized_state v).room.template ≡ (room_of v).template
  pub used : (sized_state v).room.used ≡ length (axis_bytes v)
  -- which are the first of its store, whatever was lent
  pub stored : (store : List ℕ) → take (length (axis_bytes v)) (pasted v store) ≡ axis_bytes v

pub invalid_nothing : (v : AxisView) → (ValidTemplate v.template → ⊥) → NothingGiven v
unfolding entries_of name_entries entry_words sized_state counted rule_from
invalid_nothing v h =
    let z = invalid_none v h in
    let n = eq-eqb (size_of v).tracks 0 z in
    record {
      repetitions = none-repeated v z;
      tracks = z;
      template = counted_none v z;
      entries = rw n;
      words = rw n;
      components = rw n;
      held = rw n;
      explicit = ap (λ (k : ℕ). max k v.areas) z ∙ max-eq_right zero-le;
      written = refl;
      used = refl;
      stored = λ store. take_at (axis_bytes v) (drop (length (axis_bytes v)) store) (length (axis_bytes v)) refl;
    }
