-- The output of document 01's worked case (panel sheet), line by line, and the other kinds of lines.
use Rattle.std.specs.Prelude.{ℕ, List, [], ◌∷◌, Bool, true, false, ◌&&◌, T, pos, negsuc}
use Prim.Native.Char.{code}
use Prim.Native.String.{String, [] as empty, ◌∷◌ as ◌then◌}
use Rattle.std.specs.Float.{binary32}
use Rattle.std.specs.Float.Ieee.{of_bits}
use Rattle.text.specs.Split.{same}
use Rattle.coordinates.specs.declared.axis.Axis.TheVariants.{Column, Row}
use Rattle.sizing.specs.declared.Sizing.TheVariants.{Length, Auto, FitContentPercent}
use Rattle.sizing.specs.Words.{zero32, printed_bits}
use Rattle.track_rules.specs.declared.GridTrack.{GridTrack}
use Rattle.track_rules.specs.declared.GridTrackKind.TheVariants.{Track, Gutter}
use Rattle.track_rules.specs.declared.TrackSource.{TrackSource}
use Rattle.track_rules.specs.declared.TrackSource.TheVariants as Source
use Rattle.coordinates.specs.declared.line.GenericGridPlacement.TheVariants as End
use Rattle.text.specs.Decimal.{decimal, decimal_up_to}
use Rattle.panel_text.specs.Numerals.{hexadecimal_digits}
use Rattle.panel_text.specs.Lines.{size_line, record_line, place_line, cell_line, refused_line}

-- the bytes of a text of codes below 128
abbrev pub bytes_of : String → List ℕ
bytes_of empty = []
bytes_of (c then s) = code c ∷ bytes_of s

-- a line, and the text that it should be
pub record Case : Type 0 where
  pub line : List ℕ
  pub text : String

abbrev pub case : List ℕ → String → Case
case l t = record { line = l; text = t }

-- a record whose minimum and maximum are the same length
abbrev pub track : TrackSource → ℕ → GridTrack
track source bits =
    record { kind = Track; collapsed = false; source = source; size = record { min = Length (of_bits binary32 bits); max = Length (of_bits binary32 bits) } }

abbrev pub gutter : Bool → GridTrack
gutter collapsed = record { kind = Gutter; collapsed = collapsed; source = Source.Gutter; size = record { min = Length zero32; max = Length zero32 } }

unfoldable pub cases : List Case
cases =
    case (size_line Column 2 2) "size\tc\t2\t2\n"
    ∷ case (record_line 0 (gutter true)) "0\tgutter\ty\tlen\t00000000\tlen\t00000000\t-\n"
    ∷ case (record_line 1 (track Source.Automatic 0x42c8_0000)) "1\ttrack\tn\tlen\t42c80000\tlen\t42c80000\ta\n"
    ∷ case (record_line 2 (gutter false)) "2\tgutter\tn\tlen\t00000000\tlen\t00000000\t-\n"
    ∷ case (size_line Row 0 0) "size\tr\t0\t0\n"
    ∷ case (place_line Column (record { start = End.Line (record { 0 = pos 2 }); end = End.Auto })) "place\tc\tline\t2\tauto\t0\n"
    -- and beside it
    ∷ case (place_line Row (record { start = End.Line (record { 0 = negsuc 9999 }); end = End.Span 65535 })) "place\tr\tline\t-10000\tspan\t65535\n"
    ∷ case (record_line 3 (track Source.Negative 0)) "3\ttrack\tn\tlen\t00000000\tlen\t00000000\tn\n"
    ∷ case (record_line 5 (track Source.Template 0)) "5\ttrack\tn\tlen\t00000000\tlen\t00000000\tt\n"
    ∷ case (record_line 7 (track Source.Area 0)) "7\ttrack\tn\tlen\t00000000\tlen\t00000000\tg\n"
    ∷ case (record_line 59999 (record { kind = Track; collapsed = false; source = Source.Positive; size = record { min = Auto; max = FitContentPercent (of_bits binary32 0x4120_0000) } }))
    "59999\ttrack\tn\tauto\t00000000\tfitp\t41200000\tp\n"
    ∷ case (cell_line (record { columns = record { start = 2; end = 4 }; rows = record { start = 1; end = 10001 } })) "cell\t2\t4\t1\t10001\n"
    ∷ case (refused_line (record { number = 1; line = 0 })) "refused\t1\t0\n"
    ∷ []

abbrev pub every : List Case → Bool
every [] = true
every (c ∷ cs) = same c.line (bytes_of c.text) && every cs

pub printed : T (every cases)
unfolding cases same size_line record_line place_line cell_line refused_line decimal decimal_up_to hexadecimal_digits printed_bits of_bits
printed = tt
