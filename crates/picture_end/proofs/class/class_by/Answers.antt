-- `picture_end::class_by` meets its contract. Assumes nothing.
use Rattle.std.proofs.Common.{rules, tests, ◌≡◌, ap, Some}
use Rattle.sheet_lines.specs.Fields.{line_kind_number}
use Rattle.sheet_lines.specs.declared.kinds.LineKind.TheVariants.{Row}
use Rattle.picture_end.proofs.Classes.{class-row, of_others}
use Rattle.picture_end.proofs.class.class_by.Goals as goal

pub returns-in-Some-Row : goal.returns-in-Some-Row
returns-in-Some-Row c =
    let e : c.args.kind ≡ Some Row = search rules in
    class-row (line_kind_number c.args.kind) c.args.fields _ (ap line_kind_number e) c.row_by.ensures

pub returns-in_default : goal.returns-in_default
returns-in_default c =
    let e : c.args.kind ≡ Some c.in-Some.kind = search rules in
    let h : c.in-Some.kind ≡ Row → ⊥ = search rules in
    let g : c.later_fields.result ≡ Some c.args.fields → ⊥ = search (rules, tests) in
    rw e (of_others c.args.fields c.requires c.in-Some.kind c.later_fields.result h c.later_fields.ensures g)
