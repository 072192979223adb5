use mathlib.Core.List.{map}
use Prim.Native.Nat.{◌-◌}
use lib.ListN.{take, drop}
use native.Mathlib.Omega.{arith}
use Rattle.name_template.specs.Writing.{entry_word}
use Rattle.name_template.specs.Steps.{copies_on}
use Rattle.name_template.proofs.Placing.{component-placed, part_length, sets_part}
use Rattle.name_template.proofs.TemplateNames.write_component.Goals as goal

pub returns : goal.returns
returns c = let p = c.requires in let a = c.args in let r = a.component in let w = c.write_copies-copies in let once = c.write_once.new.entries in
    let e = part_length a.self.names.now a.at r.before p.from (omega (arith, p.to, p.within)) in
    let part = sets_part once (map entry_word (copies_on r.times a.line r.tracks (take (r.inside - r.before) (drop r.before a.self.names.now)))) (r.before - a.at) (omega (arith, p.fits, p.to, c.write_once.auto)) in
    rw e (component-placed a.self.names.now a.entries.now once _ a.at a.line w.result r p.from p.to p.within c.write_once.ensures w.ensures.0 (rw (rw e at w.ensures.1) part))
