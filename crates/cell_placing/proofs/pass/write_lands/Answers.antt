use Rattle.std.proofs.Common.{◌≡◌, ℕ, ◌+◌, ◌++◌, List, length, drop, sym, ap, ◌∙◌, arith}
use Rattle.std.proofs.lemmas.List.Edits.{sets-eq}
use Rattle.cell_placing.proofs.pass.write_lands.Goals as goal

pub returns : goal.returns
returns c =
    let a = c.args in
    let n : 0 + length a.placed.now ≡ length a.placed.now = omega arith in
    ap (λ (l : List ℕ). l ++ drop (length a.placed.now) a.lands.now) c.copy_from_slice.ensures.after
    ∙ sym (sets-eq a.placed.now a.lands.now 0 (omega (arith, c.requires)) ∙ ap (λ (k : ℕ). a.placed.now ++ drop k a.lands.now) n)
