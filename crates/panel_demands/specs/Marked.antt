-- Document 01's edges, marked M1 to M12: one list, gathered from the layers, on the definitions that the contracts cite.
use Rattle.std.specs.Prelude.{ℕ, Bool, true, false, ◌&&◌, List, [], ◌∷◌, ◌++◌, map, eqb, take, Some}
use Rattle.std.specs.Float.{binary32}
use Rattle.std.specs.Float.Ieee.{of_bits}
use Rattle.sizing.specs.Words.{kind_of, bits_of}
use Rattle.sizing.specs.declared.MinMax.{MinMax}
use Rattle.sizing.specs.declared.Sizing.{Sizing}
use Rattle.sizing.specs.declared.Sizing.TheVariants.{Length}
use Rattle.template_rules.specs.Template.{Component}
use Rattle.template_rules.specs.Explicit.{SizeAnswer, explicit_size_of}
use Rattle.template_rules.specs.declared.RepetitionCount.TheVariants.{AutoFit}
use Rattle.template_rules.specs.declared.AutoRepeatStrategy.TheVariants.{MaxRepetitionsThatDoNotOverflow}
use Rattle.track_rules.specs.declared.GridTrack.{GridTrack}
use Rattle.track_rules.specs.declared.GridTrackKind.{GridTrackKind}
use Rattle.track_rules.specs.Numbers.{kind_number}
use Rattle.track_rules.specs.declared.WrittenTrack.{WrittenTrack}
use Rattle.track_rules.specs.Tracks.{gutter_of, track_of}
use Rattle.track_rules.specs.Written.{written}
use Rattle.track_rules.specs.Records.{records_of}
use Rattle.coordinates.specs.Cases as Lines
use Rattle.template_rules.specs.Cases as Sizes
use Rattle.name_rules.specs.Cases as Names
use Rattle.track_rules.specs.Cases.{same_bool}

-- M1 to M3, lines: -1 is 3; -5 is -1 and back -5; 32,767 is 10,000, back 10,001
abbrev pub lines : List Bool
lines = map Lines.holds Lines.M1_to_M3

-- M4 to M7, repeat counts: the first seven cases of layer 3
abbrev pub sizes : List Bool
sizes = map Sizes.holds (take 7 Sizes.cases)

-- M8 to M11, named lines and spans
abbrev pub names : List Bool
names = map Names.holds Names.cases

-- ---- M12, fit with an item in the middle, on whole records: kind, collapsed, and both sizes to the bit

abbrev pub same_kind : GridTrackKind → GridTrackKind → Bool
same_kind j k = eqb (kind_number j) (kind_number k)

abbrev pub same_size : Sizing → Sizing → Bool
same_size s t = eqb (kind_of s) (kind_of t) && eqb (bits_of s) (bits_of t)

abbrev pub same_records : List GridTrack → List GridTrack → Bool
same_records [] [] = true
same_records [] (y ∷ ys) = false
same_records (x ∷ xs) [] = false
same_records (x ∷ xs) (y ∷ ys) =
    same_kind x.kind y.kind
    && (same_bool x.collapsed y.collapsed && (same_size x.size.min y.size.min && (same_size x.size.max y.size.max && same_records xs ys)))

-- as a sheet gives it: tracks of length 100, gap 10, inner 320, as M4 has them
abbrev pub length_of : ℕ → Sizing
length_of bits = Length (of_bits binary32 bits)

abbrev pub wide : MinMax
wide = record { min = length_of 0x42c8_0000; max = length_of 0x42c8_0000 }

abbrev pub fitting : List Component
fitting = record { count = AutoFit; tracks = wide ∷ [] } ∷ []

abbrev pub fitting_size : SizeAnswer
fitting_size = explicit_size_of (Some (of_bits binary32 0x43a0_0000)) MaxRepetitionsThatDoNotOverflow (length_of 0x4120_0000) 0 fitting

-- the records, with the repetitions and the explicit count that layer 3 has for it
abbrev pub fitting_records : List GridTrack
fitting_records =
    records_of (record {
      counts = record { negative_implicit = 0; explicit = fitting_size.explicit; positive_implicit = 0 };
      repetitions = fitting_size.repetitions;
      gap = length_of 0x4120_0000;
    }) fitting [] (0 ∷ 1 ∷ 0 ∷ [])

abbrev pub shut_gutter : GridTrack
shut_gutter = gutter_of (length_of 0x4120_0000) true

abbrev pub fitted : WrittenTrack
fitted = written AutoFit wide

-- only record 3 is open
abbrev pub tracks : List Bool
tracks =
    same_records fitting_records
    (shut_gutter ∷ track_of fitted true ∷ shut_gutter ∷ track_of fitted false ∷ shut_gutter ∷ track_of fitted true ∷ shut_gutter ∷ [])
    ∷ []

abbrev pub M1_to_M12 : List Bool
M1_to_M12 = lines ++ (sizes ++ (names ++ tracks))

-- eighteen tests, all of which hold
abbrev pub all : List Bool → Bool
all [] = true
all (b ∷ bs) = b && all bs
