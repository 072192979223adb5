-- Document 01, "Panel ranges": a name is 1 to 32 bytes of codes 33 to 126.
use Rattle.std.specs.Prelude.{Bool, ◌&&◌, leb, length}
use Rattle.std.specs.Int.{is_in_range}
use Rattle.std.specs.List.{list_all}
use Rattle.name_rules.specs.Css.{Bytes}

abbrev pub all_graphic : Bytes → Bool
all_graphic = list_all (is_in_range 33 126)

unfoldable pub is_name : Bytes → Bool
is_name name = leb 1 (length name) && leb (length name) 32 && all_graphic name
