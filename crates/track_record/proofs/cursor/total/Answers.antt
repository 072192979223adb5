use Prim.Native.Nat.{ℕ, ◌*◌, ◌<◌}
use native.Mathlib.Omega.{arith}
use mathlib.Core.Path.{◌≡◌, ap, ◌∙◌}
use Rattle.template_rules.specs.Template.{component_of}
use Rattle.template_rules.specs.declared.GridTemplateComponent.{GridTemplateComponent}
use Rattle.track_rules.specs.Written.{repeats_of}
use Rattle.track_rules.specs.Steps.{word_total}
use Rattle.track_rules.proofs.Words.{length-fits, repeats_fits, total-fits}
use Rattle.track_record.proofs.cursor.total.Goals as goal

pub overflow_mul-result : goal.overflow_mul-result
overflow_mul-result c =
    let x = c.from-component.result in
    let a = c.args in
    let e : x ≡ component_of a.word = c.from-component.ensures in
    let l : x.length < 65536 = rw e (length-fits a.word (omega arith)) in
    let n : repeats_of a.repetitions x.count < 4294967296 = rw e (repeats_fits a.repetitions a.word (omega arith)) in
    let m : c.repeats.result < 4294967296 = rw c.repeats.ensures n in
    omega (arith, total-fits c.repeats.result x.length m l)

pub returns : goal.returns
unfolding word_total
returns c =
    let x = c.from-component.result in
    let a = c.args in
    ap (λ (n : ℕ). n * x.length) c.repeats.ensures
    ∙ ap (λ (y : GridTemplateComponent). repeats_of a.repetitions y.count * y.length) c.from-component.ensures
