-- M12 of document 01, its slip about negative spare sizes, and a template that is used after zero repetitions, as one list.
use Rattle.std.specs.Prelude.{ℕ, Bool, true, false, ◌&&◌, List, [], ◌∷◌, eqb}
use Rattle.sizing.specs.Words.{zero32}
use Rattle.sizing.specs.declared.MinMax.{MinMax}
use Rattle.sizing.specs.declared.Sizing.{Sizing}
use Rattle.sizing.specs.declared.Sizing.TheVariants.{Length, Percent, Fraction, Auto, MinContent, MaxContent, FitContentLength, FitContentPercent}
use Rattle.template_rules.specs.Template.{Component}
use Rattle.template_rules.specs.declared.RepetitionCount.TheVariants.{Single, AutoFill, AutoFit}
use Rattle.track_rules.specs.declared.GridTrack.{GridTrack}
use Rattle.track_rules.specs.declared.AxisTracks.{AxisTracks}
use Rattle.track_rules.specs.Records.{records_of}

-- of a record: whether it is collapsed, and the kind of its minimum in the order of a sheet's words
pub record Shown : Type 0 where
  pub collapsed : Bool
  pub kind : ℕ

abbrev pub is_shut : Shown
is_shut = record { collapsed = true; kind = 0 }

abbrev pub is_open : ℕ → Shown
is_open kind = record { collapsed = false; kind = kind }

pub record Case : Type 0 where
  pub axis : AxisTracks
  pub template : List Component
  pub spares : List MinMax
  pub items : List ℕ
  pub expected : List Shown

abbrev pub kind_of : Sizing → ℕ
kind_of (Length x) = 0
kind_of (Percent x) = 1
kind_of (Fraction x) = 2
kind_of Auto = 3
kind_of MinContent = 4
kind_of MaxContent = 5
kind_of (FitContentLength x) = 6
kind_of (FitContentPercent x) = 7

abbrev pub same_bool : Bool → Bool → Bool
same_bool true b = b
same_bool false true = false
same_bool false false = true

-- the records are as many as the case says, and each is as it says
abbrev pub agree : List GridTrack → List Shown → Bool
agree [] [] = true
agree [] (x ∷ xs) = false
agree (r ∷ rs) [] = false
agree (r ∷ rs) (x ∷ xs) = same_bool r.collapsed x.collapsed && (eqb (kind_of r.size.min) x.kind && agree rs xs)

abbrev pub case_holds : Case → Bool
case_holds c = agree (records_of c.axis c.template c.spares c.items) c.expected

abbrev pub all_hold : List Case → Bool
all_hold [] = true
all_hold (c ∷ cs) = case_holds c && all_hold cs

abbrev pub axis_of : ℕ → ℕ → ℕ → ℕ → AxisTracks
axis_of negative explicit positive repetitions =
    record { counts = record { negative_implicit = negative; explicit = explicit; positive_implicit = positive }; repetitions = repetitions; gap = Length zero32 }

-- sizes A, B, C
abbrev pub size_a : MinMax
size_a = record { min = Auto; max = Auto }

abbrev pub size_b : MinMax
size_b = record { min = MinContent; max = MinContent }

abbrev pub size_c : MinMax
size_c = record { min = MaxContent; max = MaxContent }

unfoldable pub cases : List Case
cases =
    -- M12: fit, three tracks, item in the middle: only record 3 is open
    record {
      axis = axis_of 0 3 0 3;
      template = record { count = AutoFit; tracks = size_a ∷ [] } ∷ [];
      spares = [];
      items = 0 ∷ 1 ∷ 0 ∷ [];
      expected = is_shut ∷ is_shut ∷ is_shut ∷ is_open 3 ∷ is_shut ∷ is_shut ∷ is_shut ∷ [];
    }
    -- the slip: spare sizes A B C, two negative tracks: B, C
    ∷ record {
      axis = axis_of 2 0 0 0;
      template = [];
      spares = size_a ∷ size_b ∷ size_c ∷ [];
      items = 0 ∷ 0 ∷ [];
      expected = is_shut ∷ is_open 4 ∷ is_open 0 ∷ is_open 5 ∷ is_shut ∷ [];
    }
    -- a single beside a fill that is written no times, areas of three tracks: C, then the spare sizes A, B, and on with A
    ∷ record {
      axis = axis_of 0 3 1 0;
      template = record { count = Single; tracks = size_c ∷ [] } ∷ record { count = AutoFill; tracks = size_b ∷ [] } ∷ [];
      spares = size_a ∷ size_b ∷ [];
      items = 0 ∷ 0 ∷ 0 ∷ 0 ∷ [];
      expected = is_shut ∷ is_open 5 ∷ is_open 0 ∷ is_open 3 ∷ is_open 0 ∷ is_open 4 ∷ is_open 0 ∷ is_open 3 ∷ is_shut ∷ [];
    }
    ∷ []
