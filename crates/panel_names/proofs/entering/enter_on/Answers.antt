use Rattle.panel_names.proofs.Entered.{bytes-put}
use native.Mathlib.Omega.{arith}
use mathlib.Core.Path.{◌≡◌}
use lib.ListN.{length}
use Rattle.name_entries.specs.Entries.{word_of}
use Rattle.panel_names.proofs.entering.enter_on.Goals as goal

pub returns : goal.returns
returns c =
    let a = c.args in let k = c.requires in
    let e : c.from.result ≡ word_of a.line a.room.now.used (length a.name.now) = omega (arith, c.from.ensures, k.fits, k.short) in
    rw (c.put_bytes.ensures, c.first_word-first.ensures.value, e) (rw (bytes-put a.store.now a.room.now.used a.name.now (omega (arith, k.fits, k.wide))))
