-- The loop's invariant: the searches that are left come to what the question asks for, and where an edge is sought, one is asked for.
use mathlib.Core.Path.{sym, ◌∙◌}
use Rattle.name_lines.proofs.Suffixes.{never}
use Rattle.panel_tables.specs.Regions.{area_bytes_in, area_words_in}
use Rattle.panel_resolving.proofs.Finding.{found_first, found_at, found_left, found-next}
use Rattle.panel_resolving.proofs.find.find_named_line.Goals as goal

pub loop-line-init : goal.loop-line-init
loop-line-init c = let a = c.args in let b = a.beside in (λ h. sym c.asks_own-own.ensures ∙ h, found_first b.around b.index.now b.store.now (area_words_in b.words.now) (area_bytes_in b.bytes.now) a.question c.name_of-name.result.now c.asks_own-own.result c.asks_own-own.ensures)

pub returns-in-Ok : goal.returns-in-Ok
returns-in-Ok c = let a = c.args in let b = a.beside in let l = c.loop-line in rw (← c.placement_bytes.ensures, ← c.name_of-name.ensures) (found_at b.around b.index.now b.store.now (area_words_in b.words.now) (area_bytes_in b.bytes.now) a.question c.name_of-name.result.now l.own l.invariant.0 c.in-Ok.line (rw (c.in-Ok.is, c.name_for-sought.ensures.stem, c.name_for-sought.ensures.edge, c.nth_for.ensures) at c.find_line.ensures) l.invariant.1)

pub returns-then-own : goal.returns-then-own
returns-then-own c = let a = c.args in let b = a.beside in let l = c.loop-line in rw (← c.placement_bytes.ensures, ← c.name_of-name.ensures) (found_left b.around b.index.now b.store.now (area_words_in b.words.now) (area_bytes_in b.bytes.now) a.question c.name_of-name.result.now l.own l.invariant.0 c.in-Err.m c.if-own.true (rw (c.in-Err.is, c.name_for-sought.ensures.stem, c.name_for-sought.ensures.edge, c.nth_for.ensures) at c.find_line.ensures) l.invariant.1)

pub loop-line-preserved : goal.loop-line-preserved
loop-line-preserved c = let a = c.args in let b = a.beside in let l = c.loop-line in (λ h. never (sym h), found-next b.around b.index.now b.store.now (area_words_in b.words.now) (area_bytes_in b.bytes.now) a.question c.name_of-name.result.now l.own l.invariant.0 c.in-Err.m c.if-own.false (rw (c.in-Err.is, c.name_for-sought.ensures.stem, c.name_for-sought.ensures.edge, c.nth_for.ensures) at c.find_line.ensures) l.invariant.1)
