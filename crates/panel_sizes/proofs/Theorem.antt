-- The size of an axis at another inner size after an accepted sheet and any entry calls. Assumes nothing.
use Prim.Native.Nat.{ℕ, ◌≤◌}
use mathlib.Core.Path.{◌≡◌, refl, sym, ap, ◌∙◌}
use mathlib.Core.Bool.{true}
use mathlib.Core.List.{List, ◌++◌}
use borrow.Author.Tests.{le-leb, ne_eqb}
use lib.ListN.{length}
use Rattle.coordinates.specs.declared.axis.Axis.{Axis}
use Rattle.coordinates.specs.declared.axis.Axis.TheVariants.{Column, Row}
use Rattle.coordinates.specs.Refusals.{no_refusal}
use Rattle.sizing.specs.Ranges.{length_in_range}
use Rattle.template_rules.specs.Explicit.{with_areas, explicit_size_of}
use Rattle.template_rules.specs.declared.TemplateSize.{TemplateSize}
use Rattle.name_rules.specs.Css.{Entry}
use Rattle.axis_tables.specs.View.{AxisView, components_of}
use Rattle.axis_tables.specs.Runs.{words_from}
use Rattle.axis_tables.specs.View.{axis_bytes}
use Rattle.axis_tables.proofs.Fits.{Fits}
use Rattle.axis_tables.proofs.Back.{template-back}
use Rattle.sheet_rules.specs.Sheet.{size_of, explicit_of}
use Rattle.sheet_rules.specs.Panels.{Tables, entry_words, sized_state}
use Rattle.sheet_end.specs.End.{size_in}
use Rattle.sheet_end.proofs.Entries.{few-components}
use Rattle.panel_tables.specs.Axes.{state_in}
use Rattle.panel_rules.specs.Calls.{words_in}
use Rattle.panel_rules.specs.Runs.{Held, names_of, Call, Accepted, run_of}
use Rattle.panel_rules.specs.Runs as Runs
use Rattle.panel_rules.specs.Views.{entry_name, entry_word_at, words_after, state_after, held_after, size_after}
use Rattle.panel_rules.specs.Added.{sheet_axis, added}
use Rattle.panel_rules.proofs.Sheets.{accepted_sheet}
use Rattle.panel_rules.proofs.Held.{run-held}
use Rattle.panel_rules.proofs.Runs.{axis_fits, few-tracks, run-sizes}
use Rattle.library_numbers.specs.Answers.{size_answer}
use Rattle.panel_sizes.specs.Sizes.{state_at, size_numbers, axis_size_at}
use Rattle.panel_sizes.specs.Runs.{size_at_of, resized, SizesTheorem}

-- ---- one axis
module _ (v : AxisView) (f : Fits v) where
  -- layer 3 gets the sheet's template, areas, rule and gap, and the inner size
  size-read : (es : List Entry) (inner : ℕ) → size_in (state_at (state_after v es) inner) (words_after v es) ≡ with_areas v.areas (size_of (resized v inner))
  unfolding size_in size_of explicit_size_of state_after sized_state words_after
  size-read es inner =
      rw (template-back v f (entry_words v ++ words_from entry_word_at entry_name (length (axis_bytes v)) es), le-leb (length (components_of v.template)) 64 (few-components v f))
      refl

  -- the inner size that it has already
  same-size : (v.line.definite ≡ 0 → ⊥) → size_of (resized v v.line.inner) ≡ size_of v
  unfolding size_of
  same-size h = rw (ne_eqb v.line.definite 0 h) refl

  own-size : explicit_of v ≤ 10000 → with_areas v.areas (size_of v) ≡ record { refusal = no_refusal; repetitions = (size_of v).repetitions; template = (size_of v).tracks; explicit = explicit_of v }
  unfolding with_areas
  own-size few = rw (le-leb (explicit_of v) 10000 few) refl

-- ---- after a run
module _ (s : List ℕ) (t : Tables) (calls : List Call) (ok : Accepted s t) where
  held-size : (a : Axis) (inner : ℕ) → size_in (state_at (state_in (run_of s t calls).panel a) inner) (words_in (names_of (run_of s t calls).tables) a)
      ≡ size_in (state_at (state_after (sheet_axis s a) (added s a calls)) inner) (words_after (sheet_axis s a) (added s a calls))
  unfolding held_after
  held-size Column inner = ap (λ (h : Held). size_in (state_at (state_in h.panel Column) inner) (words_in (names_of h.tables) Column)) (run-held s t calls ok)
  held-size Row inner = ap (λ (h : Held). size_in (state_at (state_in h.panel Row) inner) (words_in (names_of h.tables) Row)) (run-held s t calls ok)

  pub size-resized : (a : Axis) (inner : ℕ) → length_in_range inner ≡ true
      → size_at_of (run_of s t calls) a inner ≡ size_numbers (with_areas (sheet_axis s a).areas (size_of (resized (sheet_axis s a) inner)))
  unfolding axis_size_at
  size-resized a inner h = rw h (ap size_numbers (held-size a inner ∙ size-read (sheet_axis s a) (axis_fits s a) (added s a calls) inner))

  pub size-own : (a : Axis) → ((sheet_axis s a).line.definite ≡ 0 → ⊥) → length_in_range (sheet_axis s a).line.inner ≡ true
      → size_at_of (run_of s t calls) a (sheet_axis s a).line.inner ≡ size_answer (Runs.size_of (run_of s t calls) a)
  unfolding size_after
  size-own a definite h =
      size-resized a (sheet_axis s a).line.inner h
      ∙ ap (λ (z : TemplateSize). size_numbers (with_areas (sheet_axis s a).areas z)) (same-size (sheet_axis s a) (axis_fits s a) definite)
      ∙ ap size_numbers (own-size (sheet_axis s a) (axis_fits s a) (few-tracks s (accepted_sheet s t ok).0 a))
      ∙ ap size_answer (sym (run-sizes s t calls ok a))

  pub sizes-theorem : (a : Axis) → SizesTheorem s t calls a
  sizes-theorem a = record { resized_sheet = size-resized a; own = size-own a }
