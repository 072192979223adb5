-- What is held after an accepted sheet and any list of entry calls, in closed form: the sheet's view with the entries that the table
-- accepts on either axis. Assumes nothing.
use Prim.Native.Nat.{ℕ, ◌+◌}
use mathlib.Core.Path.{◌≡◌, refl, sym, ap, ◌∙◌, subst}
use mathlib.Core.Bool.{Bool, true, false, cond, ◌&&◌}
use mathlib.Core.List.{List, [], ◌∷◌, ◌++◌, append_assoc, append-nil}
use native.Mathlib.Nat.{add-zero}
use lib.Dec.{eqb}
use lib.ListN.{length}
use borrow.Author.Tests.{eqb-true}
use Rattle.coordinates.specs.declared.axis.Axis.{Axis}
use Rattle.coordinates.specs.declared.axis.Axis.TheVariants.{Column, Row}
use Rattle.coordinates.specs.Refusals.{refusal_of}
use Rattle.name_rules.specs.Css.{Entry}
use Rattle.axis_tables.specs.View.{AxisView, axis_bytes}
use Rattle.panel_tables.specs.View.{PanelView}
use Rattle.sheet_rules.specs.Sheet.{sheet_of}
use Rattle.sheet_rules.specs.Panels.{Tables, entry_words}
use Rattle.sheet_rules.specs.Read.{short_stores}
use Rattle.panel_rules.specs.Runs.{Held, Call, refusal_in, after_calls, Accepted, run_of}
use Rattle.panel_rules.specs.Views.{bytes_after, held_after, both}
use Rattle.panel_rules.specs.Book.{same_axis, added_from}
use Rattle.panel_rules.specs.Added.{sheet_axis, added, call_entry, refusal_after, entries_with}
use Rattle.panel_rules.proofs.Fit.{EntriesFit}
use Rattle.panel_rules.proofs.AxisEntry.{length-bytes, more-entries, entered-fit}
use Rattle.panel_rules.proofs.OneCall.{refusal-held, after-held}
use Rattle.panel_rules.proofs.Sheets.{accepted_sheet, sheet_held_lem}
use Rattle.panel_rules.proofs.Ends.{sheet_words, sheet_bytes}

-- ---- the calls on one axis
module _ (a : Axis) (v : AxisView) where
  -- the entries that calls add after further entries `es`
  abbrev added_after : List Entry → List Call → List Entry
  added_after es calls = added_from (length (entry_words v) + length es) (length (bytes_after v es)) a calls

  -- a call keeps the entries fitting
  pub with-fit : (es : List Entry) (c : Call) → EntriesFit v es → EntriesFit v (entries_with a v es c)
  with-fit es c f = go (same_axis a c.axis) (eqb (refusal_after v es c) 0) refl
    where
      go : (s t : Bool) → eqb (refusal_after v es c) 0 ≡ t → EntriesFit v (cond (s && t) (es ++ (call_entry c ∷ [])) es)
      go false t e = f
      go true false e = f
      go true true e = entered-fit v es (call_entry c) (eqb-true (refusal_after v es c) 0 e) f

  -- the first call and the others
  added_next : (es : List Entry) (c : Call) (calls : List Call)
      → es ++ added_after es (c ∷ calls) ≡ entries_with a v es c ++ added_after (entries_with a v es c) calls
  unfolding added_from
  added_next es c calls = go (same_axis a c.axis && eqb (refusal_after v es c) 0)
    where
      go : (t : Bool)
          → es ++ cond t (call_entry c ∷ added_from (length (entry_words v) + length es + 1) (length (bytes_after v es) + length c.name) a calls) (added_after es calls)
          ≡ cond t (es ++ (call_entry c ∷ [])) es ++ added_after (cond t (es ++ (call_entry c ∷ [])) es) calls
      go false = refl
      go true = rw (length-bytes v es (call_entry c), more-entries v es (call_entry c)) (sym (append_assoc es (call_entry c ∷ []) _))

  -- what calls add fits
  added-fits : (es : List Entry) (calls : List Call) → EntriesFit v es → EntriesFit v (es ++ added_after es calls)
  unfolding added_from
  added-fits es [] f = subst (EntriesFit v) (sym (append-nil es)) f
  added-fits es (c ∷ calls) f =
      subst (EntriesFit v) (sym (added_next es c calls)) (added-fits (entries_with a v es c) calls (with-fit es c f))

  -- after the sheet alone
  added-first : (calls : List Call) → added_after [] calls ≡ added_from (length (entry_words v)) (length (axis_bytes v)) a calls
  added-first calls = rw (add-zero (length (entry_words v)), append-nil (axis_bytes v))

  -- one call more after the others
  added_more : (es : List Entry) (calls : List Call) (c : Call)
      → es ++ added_after es (calls ++ (c ∷ [])) ≡ entries_with a v (es ++ added_after es calls) c
  unfolding added_from
  added_more es [] c = added_next es c [] ∙ append-nil (entries_with a v es c) ∙ ap (λ (l : List Entry). entries_with a v l c) (sym (append-nil es))
  added_more es (d ∷ calls) c =
      added_next es d (calls ++ (c ∷ []))
      ∙ added_more (entries_with a v es d) calls c
      ∙ ap (λ (l : List Entry). entries_with a v l c) (sym (added_next es d calls))

-- on an axis of a sheet without fault, no further entries at all fit
sheet_fit : (s : List ℕ) → (sheet_of s).fault ≡ 0 → (a : Axis) → EntriesFit (sheet_axis s a) []
sheet_fit s ok a =
    record {
      few = rw (add-zero (length (entry_words (sheet_axis s a)))) (sheet_words s ok a);
      bytes = rw (append-nil (axis_bytes (sheet_axis s a))) (sheet_bytes s a);
      range = tt;
    }

-- what calls add on an axis of a sheet fits its table and its store
pub added_fit : (s : List ℕ) → (sheet_of s).fault ≡ 0 → (a : Axis) (calls : List Call) → EntriesFit (sheet_axis s a) (added s a calls)
added_fit s ok a calls =
    subst (EntriesFit (sheet_axis s a)) (added-first a (sheet_axis s a) calls) (added-fits a (sheet_axis s a) [] calls (sheet_fit s ok a))

-- one call more adds its entry last, where it is on that axis and the table refuses nothing
pub added-last : (s : List ℕ) (a : Axis) (calls : List Call) (c : Call) → added s a (calls ++ (c ∷ [])) ≡ entries_with a (sheet_axis s a) (added s a calls) c
added-last s a calls c =
    sym (added-first a (sheet_axis s a) (calls ++ (c ∷ [])))
    ∙ added_more a (sheet_axis s a) [] calls c
    ∙ ap (λ (l : List Entry). entries_with a (sheet_axis s a) l c) (added-first a (sheet_axis s a) calls)

-- ---- the calls on both
module _ (v : PanelView) (t : Tables) (long : short_stores t ≡ false) where
  -- each adds its entries on its axis
  pub calls-held : (columns rows : List Entry) (calls : List Call) → EntriesFit v.columns columns → EntriesFit v.rows rows
      → after_calls (held_after v t columns rows) calls
      ≡ held_after v t (columns ++ added_after Column v.columns columns calls) (rows ++ added_after Row v.rows rows calls)
  unfolding after_calls added_from
  calls-held columns rows [] f g = sym (rw (append-nil columns, append-nil rows))
  calls-held columns rows (c ∷ calls) f g =
      ap (λ (h : Held). after_calls h calls) (after-held v t columns rows long f g c)
      ∙ calls-held (entries_with Column v.columns columns c) (entries_with Row v.rows rows c) calls (with-fit Column v.columns columns c f) (with-fit Row v.rows rows c g)
      ∙ sym (rw (added_next Column v.columns columns c calls, added_next Row v.rows rows c calls))

-- ---- runs

-- after an accepted sheet and any calls: the sheet's view, with the entries that the table accepts
pub run-held : (s : List ℕ) (t : Tables) (calls : List Call) → Accepted s t → run_of s t calls ≡ held_after (sheet_of s).view t (added s Column calls) (added s Row calls)
run-held s t calls ok =
    let k = accepted_sheet s t ok in
    ap (λ (h : Held). after_calls h calls) (sheet_held_lem s t ok)
    ∙ calls-held (sheet_of s).view t k.1 [] [] calls (sheet_fit s k.0 Column) (sheet_fit s k.0 Row)
    ∙ rw (added-first Column (sheet_axis s Column) calls, added-first Row (sheet_axis s Row) calls)

-- the entries of both axes, asked for one
pub both-added : (s : List ℕ) (calls : List Call) (a : Axis) → both (added s Column calls) (added s Row calls) a ≡ added s a calls
both-added s calls Column = refl
both-added s calls Row = refl

-- what a further call answers: the table's refusal alone, with the entries and bytes that its axis has then
pub run_refusal_lem : (s : List ℕ) (t : Tables) (calls : List Call) (c : Call) → Accepted s t
    → refusal_in (run_of s t calls) c ≡ refusal_of (refusal_after (sheet_axis s c.axis) (added s c.axis calls) c)
run_refusal_lem s t calls c ok =
    let k = accepted_sheet s t ok in
    ap (λ (h : Held). refusal_in h c) (run-held s t calls ok)
    ∙ refusal-held (sheet_of s).view t (added s Column calls) (added s Row calls) k.1 (added_fit s k.0 Column calls) (added_fit s k.0 Row calls) c
    ∙ ap (λ (es : List Entry). refusal_of (refusal_after (sheet_axis s c.axis) es c)) (both-added s calls c.axis)
