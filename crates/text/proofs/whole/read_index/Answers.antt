-- `text::read_index` meets its contract: the hold does not show in a range below it. Assumes nothing.
use Rattle.std.proofs.Common.{rules, ◌≡◌, sym, ap, ◌∙◌, Ok, Err, pos, negsuc}
use Rattle.text.specs.Whole.{whole_of}
use Rattle.text.specs.Steps.{within, held_whole}
use Rattle.text.proofs.Held.{index-held, indexed}
use Rattle.text.proofs.Signs.{index-back}
use Rattle.text.proofs.whole.read_index.Goals as goal

pub returns-in_err-read_within : goal.returns-in_err-read_within
returns-in_err-read_within c =
    let e : c.from_residual.result ≡ Err c.in_err-read_within.field-0.0 = search rules in
    let h : within (negsuc 32767) (pos 32767) (held_whole (whole_of c.args.s.now)) ≡ Err c.in_err-read_within.field-0.0 = search rules in
    e ∙ sym h ∙ index-held (whole_of c.args.s.now)

pub returns : goal.returns
returns c =
    let h : within (negsuc 32767) (pos 32767) (held_whole (whole_of c.args.s.now)) ≡ Ok c.in_ok-read_within.field-0 = search rules in
    let i = sym (index-held (whole_of c.args.s.now)) ∙ h in
    let fits = indexed (whole_of c.args.s.now) c.in_ok-read_within.field-0 i in
    ap Ok (index-back c.in_ok-read_within.field-0 fits.0 fits.1) ∙ sym i
