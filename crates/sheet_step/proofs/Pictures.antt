-- The answer to a row of a picture, from what its steps give. Assumes nothing.
use Rattle.std.specs.Prelude.{Result, Ok, Err}
use Rattle.std.specs.Result.{result_unwrap_or}
use Prim.Native.Nat.{ℕ, ◌+◌, ◌≤◌, ◌<◌}
use mathlib.Core.Path.{◌≡◌, sym, ap, ◌∙◌}
use mathlib.Core.List.{List}
use mathlib.Core.Bool.{Bool, true, false}
use borrow.Author.Tests.{le-leb, lt-leb}
use Rattle.coordinates.specs.declared.refusal.Fault.{Fault}
use Rattle.coordinates.specs.Refusals.{refused_by}
use Rattle.sheet_forms.specs.Faults.{first_of}
use Rattle.panel_tables.specs.declared.Panel.{Panel}
use Rattle.panel_tables.specs.Readings.{Reading}
use Rattle.panel_tables.specs.Axes.{PanelRead}
use Rattle.picture_rules.specs.Picture.{Word}
use Rattle.picture_areas.specs.declared.draw.PictureAfter.{PictureAfter}
use Rattle.picture_areas.specs.Runs.{answered_drawn, InPicture}
use Rattle.sheet_rules.specs.Steps.{width_fault, with_row}
use Rattle.sheet_rules.specs.Lines.{late_at}
use Rattle.sheet_step.specs.Regions.{on_drawing, drawn_read, on_picture}

module _ (p : Panel) (r : Reading) (w b : List ℕ) (ws : List Word) (width : ℕ) (late : Bool) (told : late ≡ late_at 2 r.stage) where
  pub picture-late : late ≡ true → (a : PanelRead) → a ≡ record { fault = 0; panel = p; reading = r } → record { answer = a; words = w; bytes = b } ≡ on_picture p r w b ws width
  unfolding on_picture
  picture-late e a q = rw (sym told ∙ e) (ap (λ (x : PanelRead). record { answer = x; words = w; bytes = b }) q)

  pub picture-many : late ≡ false → 10000 ≤ r.picture.rows → (a : PanelRead) → a ≡ record { fault = 8; panel = p; reading = r } → record { answer = a; words = w; bytes = b } ≡ on_picture p r w b ws width
  unfolding on_picture
  picture-many e h a q = rw (sym told ∙ e, le-leb 10000 r.picture.rows h) (ap (λ (x : PanelRead). record { answer = x; words = w; bytes = b }) q)

  pub picture-drawn : late ≡ false → r.picture.rows < 10000 → (x : InPicture) → x ≡ on_drawing p w b ws (r.picture.rows + 1) → (a : PanelRead) → a ≡ drawn_read r width x.answer
      → record { answer = a; words = x.words; bytes = x.bytes } ≡ on_picture p r w b ws width
  unfolding on_picture
  picture-drawn e h x d a q = rw (sym told ∙ e, lt-leb 10000 r.picture.rows h, ← d) (ap (λ (y : PanelRead). record { answer = y; words = x.words; bytes = x.bytes }) q)

-- a row that was drawn, by what drawing it answered: a refused one leaves the panel as it came
pub drawn-answer : (p : Panel) (r : Reading) (width : ℕ) (k : Result PictureAfter Fault) (f : ℕ) → f ≡ first_of (refused_by k) (width_fault r.picture width)
    → ◌≡◌ {A = PanelRead}
    (record {
      fault = f;
      panel = (result_unwrap_or k (record { broken = false; panel = p })).panel;
      reading = record { stage = r.stage; lines = r.lines; picture = with_row r.picture width (result_unwrap_or k (record { broken = false; panel = p })).broken; columns = r.columns; rows = r.rows };
    })
    (drawn_read r width (answered_drawn p k))
drawn-answer p r width (Ok a) f e = rw e
drawn-answer p r width (Err g) f e = rw e
