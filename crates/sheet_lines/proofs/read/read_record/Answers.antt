use Rattle.std.proofs.Common.{arith}
use Rattle.text.proofs.Places.{length_fields}
use Rattle.sheet_forms.specs.Answers.{said_of}
use Rattle.sheet_lines.specs.Fields.{line_kind_number}
use Rattle.sheet_lines.proofs.Cuts.{said-there, name-there, first-there, second-there, third-there, fourth-there}
use Rattle.sheet_lines.proofs.read.read_record.Goals as goal

pub field-requires : goal.field-requires
field-requires c =
    let f = c.cut-fields.result in
    omega (arith, length_fields f.starts f.line.now 0 f.count, c.cut-fields.ensures.some)

pub returns : goal.returns
returns c =
    let line = c.args.line.now in
    let f = c.cut-fields.result in
    let cut = c.cut-fields.ensures in
    let said = said_of c.by_kind-said.result in
    let names = c.name_fields-first.ensures in
    let rows = c.row_name_fields-third.ensures in record {
      said = said-there line f cut c.field.result.now (line_kind_number c.kind.result) said c.field.ensures c.kind.ensures c.by_kind-said.ensures;
      first = name-there line f.starts _ _ _ cut.starts names.0 c.field_place.ensures (first-there line said);
      second = name-there line f.starts _ _ _ cut.starts names.1 c.field_place-2.ensures (second-there line said);
      third = name-there line f.starts _ _ _ cut.starts rows.0 c.field_place-3.ensures (third-there line said);
      fourth = name-there line f.starts _ _ _ cut.starts rows.1 c.field_place-4.ensures (fourth-there line said);
    }
