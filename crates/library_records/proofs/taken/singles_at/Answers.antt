use native.Mathlib.Omega.{arith}
use mathlib.Core.Path.{◌≡◌, ap, ◌∙◌}
use Prim.Native.Nat.{ℕ}
use mathlib.Core.List.{List}
use lib.ListN.{drop, get_or}
use borrow.Author.Tests.{eq-eqb, ne_eqb}
use Rattle.std.proofs.lemmas.Grind.{common_steps}
use Rattle.track_record.specs.declared.Repeated.{Repeated}
use Rattle.track_record.specs.Repeats.{repeated_of}
use Rattle.library_records.specs.Parts.{singles_of, singles_at}
use Rattle.library_records.proofs.Parts.{first_few}
use Rattle.library_records.proofs.taken.singles_at.Goals as goal

pub returns-then-at-ne0 : goal.returns-then-at-ne0
unfolding singles_at
returns-then-at-ne0 c = rw (ne_eqb c.args.at.offset 0 c.if-at-ne0.true)

pub returns : goal.returns
unfolding singles_at
returns c =
    let a = c.args in
    let rest : c.unwrap_or-rest.result.now ≡ drop a.at.component a.components.now = grind (arith, common_steps) in
    rw (eq-eqb a.at.offset 0 c.if-at-ne0.false) (c.single_count.ensures ∙ ap (λ (l : List ℕ). singles_of c.repeated_of-part.result.first l a.left) rest ∙ ap (λ (x : Repeated). singles_of x.first (drop a.at.component a.components.now) a.left) (c.repeated_of-part.ensures ∙ ap repeated_of c.word_at.ensures))

pub single_count-requires : goal.single_count-requires
single_count-requires c =
    record { first_bound = first_few (get_or c.args.components.now c.args.at.component 0) c.repeated_of-part.result (c.repeated_of-part.ensures ∙ ap repeated_of c.word_at.ensures) }
