use Prim.Native.Nat.{◌+◌, ◌*◌}
use native.Mathlib.Omega.{arith}
use mathlib.Core.Path.{refl, sym, ap, ◌∙◌}
use lib.ListN.{length}
use lib.Seq.{sets, length-sets}
use Rattle.library_records.specs.Pairs.{part_pair}
use Rattle.library_records.proofs.Sizes.{further}
use Rattle.library_records.proofs.Pairs.{put-none, joined-one, written_all, written-more, part_at_lem}
use Rattle.library_records.proofs.SizedTracks.write_part.Goals as goal

pub returns-then-tracks-eq0 : goal.returns-then-tracks-eq0
returns-then-tracks-eq0 c =
    let a = c.args in
    put-none (part_pair a.self.sizes.minimums.now a.self.sizes.maximums.now a.self.items.now a.part a.offset a.tracks.first a.self.gutters) a.words.now a.tracks.place a.tracks.first a.tracks.count c.if-tracks-eq0.true

pub loop-done-preserved : goal.loop-done-preserved
loop-done-preserved c =
    let a = c.args in
    let pair = part_pair a.self.sizes.minimums.now a.self.sizes.maximums.now a.self.items.now a.part a.offset a.tracks.first a.self.gutters in
    let l = c.loop-done in
    let less = c.loop-done-test.true in
    let put = c.put_pair.ensures in (
      omega (arith, less),
      further l.inner c.next_of-inner.result a.offset l.done a.part.length l.invariant.1 c.next_of-inner.ensures,
      ap length put ∙ simp length-sets l.invariant.2,
      written-more pair (λ u. refl) l.words c.put_pair.new.words a.tracks.place a.tracks.first a.tracks.count l.done 1 (omega (arith, less))
          (put ∙ ap (sets l.words (a.tracks.place + 6 * l.done))
          (part_at_lem a.self.sizes.minimums.now a.self.sizes.maximums.now a.self.items.now a.part a.offset a.tracks.first a.self.gutters l.done l.inner l.invariant.1 ∙ sym (joined-one pair (a.tracks.first + l.done)))) ∙ l.invariant.3,
    )

pub returns : goal.returns
returns c =
    let a = c.args in
    let l = c.loop-done in
    sym (written_all (part_pair a.self.sizes.minimums.now a.self.sizes.maximums.now a.self.items.now a.part a.offset a.tracks.first a.self.gutters) l.words a.tracks.place a.tracks.first a.tracks.count l.done c.loop-done-test.false) ∙ l.invariant.3
