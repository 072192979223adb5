use mathlib.Core.Path.{refl}
use Prim.Native.Nat.{◌+◌, ◌≤◌}
use native.Mathlib.Omega.{arith}
use Rattle.name_lists.proofs.Lines.{lines-begin, lines_part, lines_sum, lines-turn, lines-last}
use Rattle.name_lists.proofs.explicit.ExplicitNames.write_by_passes.Goals as goal

pub loop-line-init : goal.loop-line-init
loop-line-init c = let a = c.args in lines-begin a.self.explicit a.self.names.entries.now a.self.names.store.now a.words.now

pub loop-line-preserved : goal.loop-line-preserved
loop-line-preserved c = let a = c.args in let l = c.loop-line in
    let less : l.line ≤ a.self.explicit + 1 = omega arith in
    lines-turn a.self.explicit a.self.names.entries.now a.self.names.store.now a.words.now l.words l.count l.line l.invariant _ (omega arith) less (omega arith) _ c.write_line-count.result c.write_line-count.ensures

pub write_line-count-requires : goal.write_line-count-requires
write_line-count-requires c = let a = c.args in let l = c.loop-line in
    lines_part a.self.explicit a.self.names.entries.now a.self.names.store.now a.words.now l.words l.count l.line l.invariant _ (omega arith) (omega arith) (omega arith)

pub returns-2 : goal.returns-2
returns-2 c = let a = c.args in let l = c.loop-line in
    lines-last a.self.explicit a.self.names.entries.now a.self.names.store.now a.words.now l.words l.count l.line l.invariant _ (omega arith) (omega arith) (omega arith) _ _ c.write_line-count.ensures

pub overflow_add-count : goal.overflow_add-count
overflow_add-count c = let a = c.args in let l = c.loop-line in
    let f = lines_sum a.self.explicit a.self.names.entries.now a.self.names.store.now a.words.now l.words l.count l.line l.invariant _ refl (omega arith) (omega arith) c.write_line-count.result c.write_line-count.ensures.counted in omega (arith, f)
