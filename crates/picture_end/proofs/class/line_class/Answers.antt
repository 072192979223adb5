-- `picture_end::line_class` meets its contract. Assumes nothing.
use mathlib.Core.Path.{◌≡◌, ◌∙◌, ap}
use mathlib.Core.List.{List}
use Prim.Native.Nat.{ℕ}
use native.Mathlib.Omega.{arith}
use Rattle.text.specs.Split.{split, index}
use Rattle.text.specs.Places.{field_by}
use Rattle.text.proofs.Places.{field_part}
use Rattle.sheet_forms.specs.Words.{at, kind_words}
use Rattle.sheet_lines.specs.Fields.{line_kind_number}
use Rattle.picture_end.proofs.Classes.{parts-some, class_same}
use Rattle.picture_end.proofs.class.line_class.Goals as goal

pub returns : goal.returns
returns c =
    let line = c.args.line.now in
    let fields = c.cut-fields in
    let kind = c.kind in
    let first : c.field.result.now ≡ at (split 9 line) 0 =
    c.field.ensures ∙ ap (λ (s : List ℕ). field_by s line 0) fields.ensures.starts ∙ field_part 9 line 0 (omega arith) in
    c.class_by.ensures
    ∙ class_same (split 9 line) (line_kind_number kind.result) fields.result.count (kind.ensures ∙ ap (λ (f : List ℕ). index f kind_words) first) fields.ensures.count
    (omega (arith, fields.ensures.count, parts-some 9 line))
