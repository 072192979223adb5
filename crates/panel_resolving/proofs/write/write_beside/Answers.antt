-- The loop's invariant: what is still to be written beside what is written comes to the whole, and the first placement alone is the last one resolved.
use mathlib.Core.Path.{refl, sym, ap, ◌∙◌}
use Prim.Native.Nat.{◌*◌}
use native.Mathlib.Omega.{arith}
use lib.ListN.{length}
use lib.Seq.{length-sets}
use Rattle.name_lines.proofs.Suffixes.{never}
use Rattle.library_numbers.specs.Answers.{placement_numbers}
use Rattle.panel_rules.specs.Placing.{answered_placement}
use Rattle.panel_tables.specs.Regions.{area_bytes_in, area_words_in, placement_bytes_in, placement_words_in}
use Rattle.panel_resolving.specs.Names.{bears_by, resolution_by}
use Rattle.panel_resolving.specs.Placements.{numbers_of}
use Rattle.panel_resolving.specs.Chosen.{numbers_by, on_axis}
use Rattle.panel_resolving.proofs.Choosing.{same-axis, rest-none, rest_all, rest-taken, rest-passed, first_of_lem}
use Rattle.panel_resolving.proofs.write.write_beside.Goals.{then-eq, else-eq}
use Rattle.panel_resolving.proofs.write.write_beside.Goals as goal

pub loop-i-init : goal.loop-i-init
loop-i-init c = let a = c.args in (refl, rest-none (on_axis a.run.around.axis (placement_words_in a.words.now)) (numbers_by (resolution_by a.run.around.explicit (bears_by a.run.around a.index.now a.store.now (area_words_in a.words.now) (area_bytes_in a.bytes.now)) (placement_bytes_in a.bytes.now)) (placement_words_in a.words.now)) a.run.first a.run.count 0 a.numbers.now, omega arith, λ e. absurd (omega arith))

pub loop-i-preserved : goal.loop-i-preserved
loop-i-preserved c = let a = c.args in let l = c.loop-i in
    let seen = (rw (c.placement_at-place.ensures, c.placement_words.ensures) at c.eq.ensures) ∙ same-axis _ _ in
    elim c.if-eq.branch [
      | then-eq w ↦ let put = w.put_placement in rw (w.numbers-is, w.last-is) (
        ap length put.ensures ∙ (length-sets l.numbers (8 * l.i) (numbers_of (placement_numbers (answered_placement w.placed_on.result))) ∙ l.invariant.0),
        rest-taken (on_axis a.run.around.axis (placement_words_in a.words.now)) (numbers_by (resolution_by a.run.around.explicit (bears_by a.run.around a.index.now a.store.now (area_words_in a.words.now) (area_bytes_in a.bytes.now)) (placement_bytes_in a.bytes.now)) (placement_words_in a.words.now)) a.run.first a.run.count l.i l.numbers c.loop-i-test.true (sym seen ∙ w.if-eq.true) put.new.numbers
            (rw (w.placed_on.ensures, w.resolve_line_names-last.ensures, w.line_placement-line.ensures, c.placement_at-place.ensures, c.placement_words.ensures) at put.ensures) ∙ l.invariant.1,
        omega (arith, c.loop-i-test.true),
        λ e h. (rw (w.line_placement-line.ensures, c.placement_at-place.ensures, c.placement_words.ensures, first_of_lem a.run.first l.i e) at w.resolve_line_names-last.ensures),
      )
      | else-eq w ↦ let off = sym seen ∙ w.if-eq.false in rw (w.numbers-is, w.last-is) (
        l.invariant.0,
        rest-passed (on_axis a.run.around.axis (placement_words_in a.words.now)) (numbers_by (resolution_by a.run.around.explicit (bears_by a.run.around a.index.now a.store.now (area_words_in a.words.now) (area_bytes_in a.bytes.now)) (placement_bytes_in a.bytes.now)) (placement_words_in a.words.now)) a.run.first a.run.count l.i l.numbers c.loop-i-test.true off ∙ l.invariant.1,
        omega (arith, c.loop-i-test.true),
        λ e h. never (sym off ∙ ap (on_axis a.run.around.axis (placement_words_in a.words.now)) (first_of_lem a.run.first l.i e) ∙ h),
      )
    ]

pub returns : goal.returns
returns c = let a = c.args in let l = c.loop-i in (sym (rest_all (on_axis a.run.around.axis (placement_words_in a.words.now)) (numbers_by (resolution_by a.run.around.explicit (bears_by a.run.around a.index.now a.store.now (area_words_in a.words.now) (area_bytes_in a.bytes.now)) (placement_bytes_in a.bytes.now)) (placement_words_in a.words.now)) a.run.first a.run.count l.i l.numbers c.loop-i-test.false) ∙ l.invariant.1, λ e h. l.invariant.3 (omega (arith, e, l.invariant.2, c.loop-i-test.false)) h)
