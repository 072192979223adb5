use native.Mathlib.Omega.{arith}
use native.Mathlib.Numerals.{add-one}
use mathlib.Core.Path.{◌≡◌, sym, ◌∙◌}
use mathlib.Core.Bool.{false}
use mathlib.Core.List.{◌∷◌, map}
use Prim.Native.Nat.{ℕ, ◌+◌, ◌-◌, ◌≤◌, min}
use lib.ListN.{length, get_or, take, drop}
use lib.Seq.{drop-cons, length-sets}
use Rattle.name_template.specs.Records.{leading}
use Rattle.name_template.specs.Writing.{entries_on, entry_word}
use Rattle.name_template.specs.Steps.{component_count, component_entries}
use Rattle.name_template.proofs.Walking.{stands-next, met-length, met-placed, writable, last-length, last_written, ends_within}
use Rattle.name_template.proofs.Placing.{part_length, sets_part}
use Rattle.name_template.proofs.TemplateNames.write_all.Goals as goal

pub write_component-count-requires : goal.write_component-count-requires
write_component-count-requires c = let l = c.loop-k in let a = c.args in
    let w : ℕ = get_or a.self.components.now l.k 0 in
    let rest = drop (l.k + 1) a.self.components.now in
    let d : drop l.k a.self.components.now ≡ w ∷ rest = rw (add-one l.k) (drop-cons a.self.components.now l.k 0 (omega arith)) in
    let n : component_count l.at c.component_names-c.result + _ ≡ _ = sym (met-length a.self.names.now l.at (get_or a.self.components.now l.k 0) l.k l.line a.self.repetitions c.component_names-c.result c.component_names-c.ensures.value l.invariant.0.placed rest) in
    let q = rw d at l.invariant.2 in
    writable a.self.names.now l.at (get_or a.self.components.now l.k 0) l.k l.line a.self.repetitions c.component_names-c.result c.component_names-c.ensures.value c.component_names-c.ensures.few l.invariant.0 (omega arith) _ (omega (arith, n, q, c.requires))

pub overflow_add-count : goal.overflow_add-count
overflow_add-count c = let l = c.loop-k in let a = c.args in
    let w : ℕ = get_or a.self.components.now l.k 0 in
    let rest = drop (l.k + 1) a.self.components.now in
    let d : drop l.k a.self.components.now ≡ w ∷ rest = rw (add-one l.k) (drop-cons a.self.components.now l.k 0 (omega arith)) in
    omega (arith, c.write_component-count.ensures.0, c.ranges, c.requires, met-length a.self.names.now l.at (get_or a.self.components.now l.k 0) l.k l.line a.self.repetitions c.component_names-c.result c.component_names-c.ensures.value l.invariant.0.placed rest, rw d at l.invariant.2)

pub loop-k-preserved : goal.loop-k-preserved
loop-k-preserved c = let l = c.loop-k in let a = c.args in
    let w : ℕ = get_or a.self.components.now l.k 0 in
    let rest = drop (l.k + 1) a.self.components.now in
    let d : drop l.k a.self.components.now ≡ w ∷ rest = rw (add-one l.k) (drop-cons a.self.components.now l.k 0 (omega arith)) in
    let x = c.write_component-count in
    let all = map entry_word (component_entries a.self.names.now l.at c.component_names-c.result l.line) in
    let e = sets_part l.entries all l.count (omega arith) in (
      stands-next a.self.names.now l.at (get_or a.self.components.now l.k 0) l.k l.line a.self.repetitions c.component_names-c.result c.component_names-c.ensures.value c.component_names-c.ensures.few l.invariant.0,
      rw (x.ensures.1, e) (simp length-sets l.invariant.1),
      omega (arith, x.ensures.0, met-length a.self.names.now l.at (get_or a.self.components.now l.k 0) l.k l.line a.self.repetitions c.component_names-c.result c.component_names-c.ensures.value l.invariant.0.placed rest, rw d at l.invariant.2),
      rw (x.ensures.1, e, x.ensures.0) ((rw d at l.invariant.3) ∙ met-placed a.self.names.now l.at (get_or a.self.components.now l.k 0) l.k l.line a.self.repetitions c.component_names-c.result c.component_names-c.ensures.value l.invariant.0.placed rest l.entries l.count),
    )

pub slice_bounds-write_once-end : goal.slice_bounds-write_once-end
slice_bounds-write_once-end c = let l = c.loop-k in let a = c.args in
    let z : c.min-last.result ≡ l.k = omega arith in
    let f = rw z at c.end_of_names-end.ensures in let h : c.end_of_names-end.result ≤ length a.self.names.now = rw f (ends_within false l.k a.self.names.now l.at l.invariant.0.placed) in
    omega arith

pub write_once-requires : goal.write_once-requires
write_once-requires c = let l = c.loop-k in let a = c.args in
    let z : c.min-last.result ≡ l.k = omega arith in
    let f = rw z at c.end_of_names-end.ensures in
    let h : c.end_of_names-end.result ≤ length a.self.names.now = rw f (ends_within false l.k a.self.names.now l.at l.invariant.0.placed) in
    let e : l.k ≡ min 256 (length a.self.components.now) = omega (arith, c.min-last.ensures) in
    let s : c.end_of_names-end.result - l.at ≡ leading false l.k (drop l.at a.self.names.now) = omega (arith, f) in
    let n = last-length a.self.repetitions l.k l.line l.at a.self.names.now a.self.components.now e in
    (omega arith, rw (part_length a.self.names.now l.at c.end_of_names-end.result (omega (arith, f)) h) (omega (arith, n, s, l.invariant.2, c.requires)))

pub returns : goal.returns
returns c = let l = c.loop-k in let a = c.args in
    let z : c.min-last.result ≡ l.k = omega arith in
    let f = rw z at c.end_of_names-end.ensures in
    let e : l.k ≡ min 256 (length a.self.components.now) = omega (arith, c.min-last.ensures) in
    let s : c.end_of_names-end.result - l.at ≡ leading false l.k (drop l.at a.self.names.now) = omega (arith, f) in
    let part = sets_part l.entries (map entry_word (entries_on l.line (take (c.end_of_names-end.result - l.at) (drop l.at a.self.names.now)))) l.count (omega arith) in
    rw c.write_once.ensures (part ∙ sym (l.invariant.3 ∙ rw (last_written a.self.repetitions l.k l.line (drop l.at a.self.names.now) a.self.components.now e, s)))
