-- Which axes can be asked, in the words of document 02, Req 12, and what they are answered.
use Rattle.std.specs.Prelude.{ℕ, ◌≤◌, ◌≡◌, length, Float, Option}
use mathlib.Core.List.{List, Memᴰ}
use Rattle.sizing.specs.Words.{float_up_to, largest_bits}
use Rattle.sizing.specs.declared.Sizing.{Sizing}
use Rattle.sizing.specs.declared.Sizing.TheVariants.{Length}
use Rattle.template_rules.specs.Template.{Component}
use Rattle.template_rules.specs.Css.{Valid, Automatic}
use Rattle.template_rules.specs.declared.AutoRepeatStrategy.{AutoRepeatStrategy}
use Rattle.least_resize.specs.declared.ResizeAnswer.{ResizeAnswer}
use Rattle.least_resize.specs.Resize.{LeastResize}
use Rattle.least_resize.specs.Search.{repetitions_at}
use Rattle.least_resize.specs.Whole.{IsPixels}
use Rattle.least_resize.specs.Answer.{found_resize, refused_resize}

-- "an axis with an automatic repeat, a whole-pixel inner size and a length gap", whose template counts; more than 64 components are no sheet's
pub record Asked (definite inner : ℕ) (gap : Sizing) (cs : List Component) (size : ℕ) (between : Float) : Type 0 where
  pub valid : Valid cs
  pub few : length cs ≤ 64
  pub repeat : (c : Component) × Memᴰ c cs × Automatic c
  pub sized : definite ≡ 0 → ⊥
  pub pixels : IsPixels (float_up_to largest_bits inner) size
  pub apart : gap ≡ Length between

-- the least resize of such an axis; any other "is refused by 3"
pub data ResizeAnswered (definite inner : ℕ) (strategy : AutoRepeatStrategy) (gap : Sizing) (cs : List Component) : ResizeAnswer → Type 0 where
  resize_found : (size : ℕ) (between : Float) (r : Option ℕ) → Asked definite inner gap cs size between → LeastResize (repetitions_at strategy between cs) size r
      → ResizeAnswered definite inner strategy gap cs (found_resize r)
  resize_refused : ((size : ℕ) (between : Float) → Asked definite inner gap cs size between → ⊥) → ResizeAnswered definite inner strategy gap cs refused_resize
