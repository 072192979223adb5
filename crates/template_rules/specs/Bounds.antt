-- What the inner functions of layer 3 ask: the numbers that a word can hold, and what so many components can add up to.
use Rattle.std.specs.Prelude.{◌≡◌, ℕ, ◌*◌, ◌<◌, ◌≤◌, false}
use Rattle.template_rules.specs.declared.RepetitionCount.{RepetitionCount}
use Rattle.template_rules.specs.declared.RepetitionCount.TheVariants.{Single, Count, AutoFill, AutoFit}
use Rattle.template_rules.specs.declared.GridTemplateComponent.{GridTemplateComponent}
use Rattle.template_rules.specs.declared.TemplateSummary.{TemplateSummary}

-- a count of a word, and a single with its one track
abbrev pub CountOfWord : RepetitionCount → ℕ → Type 0
CountOfWord Single n = n ≡ 1
CountOfWord (Count times) n = times ≤ 65535
CountOfWord AutoFill n = Unit {0}
CountOfWord AutoFit n = Unit {0}

-- a component of a word
pub record OfWord (c : GridTemplateComponent) : Type 0 where
  pub counted : CountOfWord c.count c.length
  pub first : c.first ≤ 65535
  pub length : c.length ≤ 65535

-- a summary of n components of words
pub record Gathered (n : ℕ) (s : TemplateSummary) : Type 0 where
  pub automatic : s.automatic ≤ n
  pub outside : s.outside ≤ n * 4294967296
  pub before : s.before ≤ n * 4294967296
  pub repeated : s.repeated ≤ 65535
  pub filled : s.empty ≡ false → 0 < s.automatic → 0 < s.repeated
