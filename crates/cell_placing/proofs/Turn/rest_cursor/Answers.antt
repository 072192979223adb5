use mathlib.Core.Path.{◌≡◌, refl, ap}
use Prim.Native.Nat.{◌<◌}
use native.Mathlib.Omega.{arith}
use lib.ListN.{length, take, length-take}
use Rattle.std.proofs.Common.{rules, tests}
use Rattle.cell_placing.specs.Items.{item_of, group_of}
use Rattle.cell_placing.proofs.Cursors.{back, back-before, said_of, said_at, rest-none, rest-found}
use Rattle.cell_placing.proofs.Turn.rest_cursor.Goals as goal

pub returns-in-Some : goal.returns-in-Some
returns-in-Some c =
    let a = c.args in let items = a.self.cells.items.now in let i = a.self.index in let last = c.in-Some.last in
    let r = c.in-Some.ensures.runs in let f = rw c.iter.ensures.rest at (r.2.1 (λ x y z w. refl)) in
    let of = rw (r.1, c.iter.ensures.rest) at (c.iter.ensures.runs_back r.0 r.0.seen).3 in
    let h : last < i = omega (arith, c.in-Some.ensures.bound, ap length c.iter.ensures.rest, length-take i items) in
    let at = said_at items i a.self.ready.held r.0.at of in
    rest-found items a.self.placed.now i last _ h
    (λ k w v g. at _ (λ v. group_of (item_of v) ≡ 2 → ⊥) (λ x q. search (rules, tests)) k v (f.1 (back items i a.self.ready.held r.0.at of k) (back-before items i a.self.ready.held r.0.at of last k (omega (arith, w)) v)) g)
    (at _ (λ v. group_of (item_of v) ≡ 2) (λ x q. search (rules, tests)) last h f.0)
    c.start_of.ensures

pub returns-in-None : goal.returns-in-None
returns-in-None c =
    let a = c.args in let items = a.self.cells.items.now in let i = a.self.index in
    let r = c.in-None.ensures.runs in let f = r.2.1 (λ x y z w. refl) in
    let b = c.iter.ensures.runs_back r.0 r.0.seen in
    let e = c.iter.ensures.rest in
    let of = rw (r.1, e) at b.3 in
    let some = rw (r.1, e) at b.2 in
    let whole : r.0.len ≡ length (take i items) = rw (r.1, e) at b.1 r.2.0 in
    let k = back items i a.self.ready.held r.0.at of in
    rest-none items a.self.placed.now i _
    (λ j w v g. said_at items i a.self.ready.held r.0.at of _ (λ v. group_of (item_of v) ≡ 2 → ⊥) (λ x q. search (rules, tests)) j v (said_of (r.0.at (k j)) _ _ (some j 0 (omega (arith, v, a.self.ready.held, length-take i items)) (omega (arith, v, whole, a.self.ready.held, length-take i items))) (f (k j))) g)
    (search rules)
