-- `palgwern_layout`: the number of the layout of all structs and lengths that cross, that of `PALGWERN_LAYOUT` in the header.
use Rattle.std.specs.Prelude.{ℕ}

abbrev pub layout_number : ℕ
layout_number = 2
