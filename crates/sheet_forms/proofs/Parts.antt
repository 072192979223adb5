-- A record of several parts, or the first of their faults. Assumes nothing.
use Rattle.std.specs.Prelude.{ℕ, ◌≡◌, Bool, true, false, cond, eqb, Result}
use Rattle.std.proofs.Common.{refl, ap, ◌∙◌}
use Rattle.coordinates.specs.declared.refusal.Fault.{Fault as RefusedFor}
use Rattle.coordinates.specs.Refusals.{number_of, refused_by}
use Rattle.sheet_forms.specs.Faults.{first_of}
use Rattle.sheet_forms.specs.Said.{Record, Fault}
use Rattle.sheet_forms.specs.Answers.{both_of, end_where_read, EndField, AxisField}
use Rattle.sheet_forms.specs.Records.{unless, made_place, made_cell}
use borrow.Author.Tests.{eq-eqb, eqb-true}
use Rattle.sheet_forms.proofs.Firsts.{first_zero}
use Rattle.sheet_forms.proofs.Together.{fault_number, both_fault}

-- a fault in place of the record
pub unless_fault : (f : RefusedFor) (n : ℕ) (r : Record) → number_of f ≡ n → Fault (number_of f) ≡ unless n r
unless_fault f n r e = rw (← e, fault_number f) refl

-- the first fault of three, four and five parts
module _ {A B C : Type 0} (a : Result A RefusedFor) (b : Result B RefusedFor) (c : Result C RefusedFor) where
  pub three_fault : refused_by (both_of a (both_of b c)) ≡ first_of (refused_by a) (first_of (refused_by b) (refused_by c))
  three_fault = both_fault a (both_of b c) ∙ ap (first_of (refused_by a)) (both_fault b c)

module _ {A B C D : Type 0} (a : Result A RefusedFor) (b : Result B RefusedFor) (c : Result C RefusedFor) (d : Result D RefusedFor) where
  pub four_fault : refused_by (both_of a (both_of b (both_of c d)))
      ≡ first_of (refused_by a) (first_of (refused_by b) (first_of (refused_by c) (refused_by d)))
  four_fault = both_fault a (both_of b (both_of c d)) ∙ ap (first_of (refused_by a)) (three_fault b c d)

module _ {A B C D E : Type 0} (a : Result A RefusedFor) (b : Result B RefusedFor) (c : Result C RefusedFor) (d : Result D RefusedFor) (e : Result E RefusedFor) where
  pub five_fault : refused_by (both_of a (both_of b (both_of c (both_of d e))))
      ≡ first_of (refused_by a) (first_of (refused_by b) (first_of (refused_by c) (first_of (refused_by d) (refused_by e))))
  five_fault = both_fault a (both_of b (both_of c (both_of d e))) ∙ ap (first_of (refused_by a)) (four_fault b c d e)

-- beside a fault the record is of no use
only_fault : (n : ℕ) (r s : Record) → (n ≡ 0 → r ≡ s) → unless n r ≡ unless n s
only_fault n r s same = go (eqb n 0) refl
  where
    go : (t : Bool) → eqb n 0 ≡ t → cond t r (Fault n) ≡ cond t s (Fault n)
    go false q = refl
    go true q = same (eqb-true n 0 q)

-- so a placement and a cell have no use for what is beside a fault
pub place_only : (a : AxisField) (s e : EndField) → made_place a (end_where_read s) (end_where_read e) ≡ made_place a s e
place_only a s e =
    only_fault (first_of a.fault (first_of s.fault e.fault)) _ _
    (λ z.
    let none = first_zero s.fault e.fault (first_zero a.fault (first_of s.fault e.fault) z).1 in
    rw (eq-eqb s.fault 0 none.0, eq-eqb e.fault 0 none.1) refl)

pub cell_only : (cs ce rs re : EndField) → made_cell (end_where_read cs) (end_where_read ce) (end_where_read rs) (end_where_read re) ≡ made_cell cs ce rs re
cell_only cs ce rs re =
    only_fault (first_of cs.fault (first_of ce.fault (first_of rs.fault re.fault))) _ _
    (λ z.
    let columns = first_zero cs.fault (first_of ce.fault (first_of rs.fault re.fault)) z in
    let column = first_zero ce.fault (first_of rs.fault re.fault) columns.1 in
    let rows = first_zero rs.fault re.fault column.1 in
    rw (eq-eqb cs.fault 0 columns.0, eq-eqb ce.fault 0 column.0, eq-eqb rs.fault 0 rows.0, eq-eqb re.fault 0 rows.1) refl)
