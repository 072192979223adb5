-- Kinds of sizes by their numbers, in the order of a sheet's words: len pct fr auto min max fitl fitp.
use Rattle.std.specs.Prelude.{ℕ, ◌<◌, ◌≡◌, Result, MatchResult}
use Rattle.sizing.specs.declared.kind.Kind.{Kind}
use Rattle.sizing.specs.declared.kind.Kind.TheVariants.{Length, Percent, Fraction, Auto, MinContent, MaxContent, FitContentLength, FitContentPercent}
use Rattle.sizing.specs.declared.kind.UnknownKind.{UnknownKind}

-- the number of a kind
abbrev pub number_of_kind : Kind → ℕ
number_of_kind Length = 0
number_of_kind Percent = 1
number_of_kind Fraction = 2
number_of_kind Auto = 3
number_of_kind MinContent = 4
number_of_kind MaxContent = 5
number_of_kind FitContentLength = 6
number_of_kind FitContentPercent = 7

-- the kind that has a number, or that number where none has it
abbrev pub Decodes : ℕ → Result Kind UnknownKind → Type 0
Decodes number r = MatchResult r (λ kind. number_of_kind kind ≡ number) (λ unknown. (unknown.0 ≡ number) × (7 < number))
