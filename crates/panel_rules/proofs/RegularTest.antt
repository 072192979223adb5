-- Tests of the third demand's conditions, and of "the same accepted entries": where they say yes, it is so. Assumes nothing.
use Prim.Native.Nat.{ℕ, zero, suc, ◌≤◌}
use mathlib.Core.Path.{◌≡◌, refl, sym, ap, ◌∙◌}
use mathlib.Core.Logic.{⊎_elim}
use mathlib.Core.Bool.{Bool, true, false, cond, ◌&&◌, false≢true}
use mathlib.Core.List.Memᴰ
use mathlib.Core.List.{List, [], ◌∷◌, Memᴰ, cons≢nil}
use native.Mathlib.Omega.{arith}
use borrow.Author.Tests.{leb-true, eqb-true}
use lib.Dec.{eqb, leb}
use lib.IntN.{ℤ, pos, negsuc}
use Rattle.coordinates.specs.declared.axis.Axis.{Axis}
use Rattle.sizing.specs.Words.{zero32}
use Rattle.template_rules.specs.Template.{Component}
use Rattle.template_rules.specs.Summary.{meaning_of}
use Rattle.template_rules.specs.Explicit.{valid_of}
use Rattle.template_rules.proofs.Valid.{valid_css}
use Rattle.name_rules.specs.Css.{Entry, Area, Side, start, end, edge, AxisNames, Placement as CssPlacement, auto, line, named, span, nspan}
use Rattle.name_rules.specs.Conditions.{NoZero}
use Rattle.name_rules.specs.Rule.{eq_bytes}
use Rattle.name_rules.specs.Template as Css
use Rattle.name_rules.proofs.Names.{all_lie}
use Rattle.std.proofs.lemmas.Bool.{and_parts}
use Rattle.name_entries.proofs.Same.{same_sound}
use Rattle.axis_tables.specs.View.{Item, components_of}
use Rattle.panel_tables.specs.View.{Placement, PanelView}
use Rattle.panel_tables.specs.Axes.{view_in}
use Rattle.sheet_rules.specs.Sheet.{items_of}
use Rattle.sheet_rules.specs.Valid.{ValidTemplate}
use Rattle.panel_rules.specs.Runs.{Call}
use Rattle.panel_rules.specs.Views.{css_end}
use Rattle.panel_rules.specs.Added.{found_in}
use Rattle.panel_rules.specs.Book.{CssTemplate, sheet_tracks, book_names, RegularAxis}
use Rattle.panel_rules.proofs.Book.{found-counted}

-- ---- a test of the conditions of an axis

abbrev line_at_most : ℕ → List Entry → Bool
line_at_most n [] = true
line_at_most n (e ∷ es) = leb e.line n && line_at_most n es

abbrev edges_at_most : ℕ → List Area → Bool
edges_at_most n [] = true
edges_at_most n (a ∷ list) = (leb a.from n && leb a.to n) && edges_at_most n list

abbrev written_once : List Css.Item → Bool
written_once [] = true
written_once (Css.single p ∷ l) = written_once l
written_once (Css.repeat n ps ∷ l) = (leb 1 n && leb 1 (Css.tracks_in ps)) && written_once l

line_at_most_lem : (n : ℕ) (es : List Entry) → line_at_most n es ≡ true → (e : Entry) → Memᴰ e es → e.line ≤ n
line_at_most_lem n [] t e m = absurd (Memᴰ.not-nil m)
line_at_most_lem n (d ∷ es) t e m =
    let p = and_parts (leb d.line n) (line_at_most n es) t in
    ⊎_elim (λ (s : e ≡ d). rw s (leb-true d.line n p.0)) (λ k. line_at_most_lem n es p.1 e k) (Memᴰ.cases_cons m)

edges_at_most_lem : (n : ℕ) (list : List Area) → edges_at_most n list ≡ true → (a : Area) (s : Side) → Memᴰ a list → edge a s ≤ n
edges_at_most_lem n [] t a s m = absurd (Memᴰ.not-nil m)
edges_at_most_lem n (d ∷ list) t a s m =
    let p = and_parts (leb d.from n && leb d.to n) (edges_at_most n list) t in
    let q = and_parts (leb d.from n) (leb d.to n) p.0 in
    ⊎_elim (λ (e : a ≡ d). rw e (side s q.0 q.1)) (λ k. edges_at_most_lem n list p.1 a s k) (Memᴰ.cases_cons m)
  where
    side : (s : Side) → leb d.from n ≡ true → leb d.to n ≡ true → edge d s ≤ n
    side start f t = leb-true d.from n f
    side end f t = leb-true d.to n t

written_once_lem : (l : List Css.Item) → written_once l ≡ true → Css.WrittenOut l
written_once_lem [] t = tt
written_once_lem (Css.single p ∷ l) t = written_once_lem l t
written_once_lem (Css.repeat n ps ∷ l) t =
    let p = and_parts (leb 1 n && leb 1 (Css.tracks_in ps)) (written_once l) t in
    let q = and_parts (leb 1 n) (leb 1 (Css.tracks_in ps)) p.0 in
    (leb-true 1 n q.0, leb-true 1 (Css.tracks_in ps) q.1, written_once_lem l p.1)

module _ (v : PanelView) (a : Axis) (calls : List Call) where
  -- what counts as the template, and the repetitions found: they are CSS's
  abbrev m : CssTemplate
  m = found_in (view_in v a)

  abbrev x : AxisNames
  x = book_names m v a calls

  -- the other conditions by a test
  abbrev pub regular_test : Bool
  regular_test =
      written_once (items_of m.repetitions m.template)
      && (leb (sheet_tracks m) 10000 && (leb x.explicit 10000 && (line_at_most (suc x.explicit) x.book && edges_at_most (suc x.explicit) x.areas)))

  pub regular-by-test : regular_test ≡ true → RegularAxis m v a calls
  regular-by-test t =
      let q = and_parts (written_once (items_of m.repetitions m.template)) _ t in
      let r = and_parts (leb (sheet_tracks m) 10000) _ q.1 in
      let s = and_parts (leb x.explicit 10000) _ r.1 in
      let u = and_parts (line_at_most (suc x.explicit) x.book) _ s.1 in
      record {
        template = record {
          repetitions = found-counted (view_in v a);
          repeated = written_once_lem (items_of m.repetitions m.template) q.0;
          few = leb-true (sheet_tracks m) 10000 r.0;
        };
        lies = (all_lie x (leb-true x.explicit 10000 s.0) (line_at_most_lem (suc x.explicit) x.book u.0) (edges_at_most_lem (suc x.explicit) x.areas u.1)).lies;
      }

-- ---- a test that a template is valid

-- it has a component, or nothing at all
abbrev tracked : List Component → List Item → Bool
tracked [] [] = true
tracked [] (i ∷ is) = false
tracked (c ∷ cs) is = true

abbrev pub valid_test : List Item → Bool
valid_test is = valid_of (meaning_of zero32 (components_of is)) && tracked (components_of is) is

pub valid_by_test : (is : List Item) → valid_test is ≡ true → ValidTemplate is
valid_by_test is t =
    let p = and_parts (valid_of (meaning_of zero32 (components_of is))) (tracked (components_of is) is) t in
    record { components = (valid_css zero32 (components_of is)).0 p.0; named = λ e. no_items (components_of is) is p.1 e }
  where
    no_items : (cs : List Component) (is : List Item) → tracked cs is ≡ true → cs ≡ [] → is ≡ []
    no_items [] [] t e = refl
    no_items [] (i ∷ is) t e = absurd (false≢true t)
    no_items (c ∷ cs) is t e = absurd (cons≢nil e)

pub invalid_by_test : (is : List Item) → valid_test is ≡ false → ValidTemplate is → ⊥
invalid_by_test is f v = false≢true (sym f ∙ rw ((valid_css zero32 (components_of is)).1 v.components) (some (components_of is) is v.named))
  where
    some : (cs : List Component) (is : List Item) → (cs ≡ [] → is ≡ []) → tracked cs is ≡ true
    some [] [] h = refl
    some [] (i ∷ is) h = absurd (cons≢nil (h refl))
    some (c ∷ cs) is h = refl

-- ---- no placement writes line 0

abbrev non_zero : CssPlacement → Bool
non_zero auto = true
non_zero (line (pos zero)) = false
non_zero (line (pos (suc n))) = true
non_zero (line (negsuc k)) = true
non_zero (named nm i) = true
non_zero (span n) = true
non_zero (nspan nm n) = true

abbrev sizeless : ℤ → ℕ
sizeless (pos n) = n
sizeless (negsuc k) = 1

non_zero_lem : (p : CssPlacement) → non_zero p ≡ true → NoZero p
non_zero_lem auto e = tt
non_zero_lem (line (pos zero)) e = absurd (false≢true e)
non_zero_lem (line (pos (suc n))) e = λ z. let k : suc n ≡ 0 = ap sizeless z in omega arith
non_zero_lem (line (negsuc k)) e = λ z. let k : ◌≡◌ {A = ℕ} 1 0 = ap sizeless z in omega arith
non_zero_lem (named nm i) e = tt
non_zero_lem (span n) e = tt
non_zero_lem (nspan nm n) e = tt

abbrev pub non_zero_test : List Placement → Bool
non_zero_test [] = true
non_zero_test (p ∷ ps) = (non_zero (css_end p.start) && non_zero (css_end p.end)) && non_zero_test ps

pub non_zero_by_test : (ps : List Placement) → non_zero_test ps ≡ true → (p : Placement) → Memᴰ p ps → NoZero (css_end p.start) × NoZero (css_end p.end)
non_zero_by_test [] t p m = absurd (Memᴰ.not-nil m)
non_zero_by_test (q ∷ ps) t p m =
    let u = and_parts (non_zero (css_end q.start) && non_zero (css_end q.end)) (non_zero_test ps) t in
    let w = and_parts (non_zero (css_end q.start)) (non_zero (css_end q.end)) u.0 in
    ⊎_elim (λ (e : p ≡ q). rw e (non_zero_lem (css_end q.start) w.0, non_zero_lem (css_end q.end) w.1)) (λ k. non_zero_by_test ps u.1 p k) (Memᴰ.cases_cons m)

-- ---- entries among others

abbrev among : Entry → List Entry → Bool
among e [] = false
among e (d ∷ l) = cond (eqb e.line d.line && eq_bytes e.name d.name) true (among e l)

abbrev pub all_among : List Entry → List Entry → Bool
all_among [] m = true
all_among (e ∷ l) m = among e m && all_among l m

among-member : (e : Entry) (l : List Entry) → among e l ≡ true → Memᴰ e l
among-member e [] t = absurd (false≢true t)
among-member e (d ∷ l) t = go (eqb e.line d.line && eq_bytes e.name d.name) refl t (among-member e l)
  where
    same : (eqb e.line d.line && eq_bytes e.name d.name) ≡ true → e ≡ d
    same h =
        let p = and_parts (eqb e.line d.line) (eq_bytes e.name d.name) h in
        let a = eqb-true e.line d.line p.0 in
        let b = same_sound e.name d.name p.1 in
        rw (a, b)

    go : (b : Bool) → (eqb e.line d.line && eq_bytes e.name d.name) ≡ b → cond b true (among e l) ≡ true → (among e l ≡ true → Memᴰ e l) → Memᴰ e (d ∷ l)
    go true h u f = Memᴰ.head (same h)
    go false h u f = Memᴰ.tail (f u)

pub all_among_lem : (l m : List Entry) → all_among l m ≡ true → (e : Entry) → Memᴰ e l → Memᴰ e m
all_among_lem [] m t e k = absurd (Memᴰ.not-nil k)
all_among_lem (d ∷ l) m t e k =
    let p = and_parts (among d m) (all_among l m) t in
    ⊎_elim (λ (s : e ≡ d). rw s (among-member d m p.0)) (λ j. all_among_lem l m p.1 e j) (Memᴰ.cases_cons k)
