-- A track of the written-out template is found at its cursor. Assumes nothing.
use Prim.Native.Nat.{ℕ, suc, ◌+◌, ◌*◌, ◌-◌, ◌%◌, ◌≤◌, ◌<◌}
use native.Mathlib.Omega.{arith}
use mathlib.Core.Path.{◌≡◌, refl, sym, ap, ap₂, ◌∙◌}
use mathlib.Core.Logic.{⊎_elim}
use mathlib.Core.List.{List, [], ◌∷◌}
use lib.ListN.{length, get_or, drop, length-append, length-map, get_or-append}
use borrow.Author.Tests.{lt-ltb, le-ltb, eq-eqb, ne_eqb}
use Rattle.std.proofs.lemmas.Bool.{cases_lt}
use Rattle.template_rules.specs.Template.{Component}
use Rattle.track_rules.specs.declared.Cursor.{Cursor}
use Rattle.track_rules.specs.Written.{repeats_of, copies, written, once_of, written_out}
use Rattle.track_rules.specs.Records.{no_track}
use Rattle.track_rules.specs.Steps.{total_of, totals_of, sum_of, cursor, settle_of, cursor_of, next_of, no_component, written_in, written_at}
use Rattle.track_rules.proofs.Lists.{get-past, length-copies, get-copies, drop_tail, drop_head}

pub settle_here : (n : ℕ) (ns : List ℕ) (k o : ℕ) → o < n → settle_of (n ∷ ns) k o ≡ cursor k o
unfolding settle_of
settle_here n ns k o h = rw (lt-ltb o n h)

pub settle_on : (n : ℕ) (ns : List ℕ) (k o : ℕ) → n ≤ o → settle_of (n ∷ ns) k o ≡ settle_of ns (suc k) (o - n)
unfolding settle_of
settle_on n ns k o h = rw (le-ltb o n h)

pub settle-end : (k o : ℕ) → settle_of [] k o ≡ cursor k o
unfolding settle_of
settle-end k o = refl

-- the offset never grows
offset_le : (ns : List ℕ) (k o : ℕ) → (settle_of ns k o).offset ≤ o
offset_le [] k o = rw (settle-end k o) (omega arith)
offset_le (n ∷ ns) k o =
    ⊎_elim
    (λ (h : o < n). rw (settle_here n ns k o h) (omega arith))
    (λ (h : n ≤ o). rw (settle_on n ns k o h) (omega (arith, offset_le ns (suc k) (o - n))))
    (cases_lt o n)

pub cursor_offset : (ns : List ℕ) (t : ℕ) → (cursor_of ns t).offset ≤ t
unfolding cursor_of
cursor_offset ns t = offset_le ns 0 t

-- one track further
next_from : (ns l : List ℕ) (k o : ℕ) → drop k ns ≡ l →
    settle_of (drop (settle_of l k o).component ns) (settle_of l k o).component ((settle_of l k o).offset + 1) ≡ settle_of l k (o + 1)
next_from ns [] k o e = rw (settle-end k o, e)
next_from ns (n ∷ l) k o e =
    ⊎_elim
    (λ (h : o < n). rw (settle_here n l k o h, e))
    (λ (h : n ≤ o).
    let s : o + 1 - n ≡ o - n + 1 = omega arith in
    rw (settle_on n l k o h, settle_on n l k (o + 1) (omega arith), s) (next_from ns l (suc k) (o - n) (drop_tail ns k n l e)))
    (cases_lt o n)

settle-next : (ns : List ℕ) (t : ℕ) →
    settle_of (drop (cursor_of ns t).component ns) (cursor_of ns t).component ((cursor_of ns t).offset + 1) ≡ cursor_of ns (t + 1)
unfolding cursor_of
settle-next ns t = next_from ns ns 0 t refl

pub next-cursor : (ns : List ℕ) (t : ℕ) → t < 18446744073709551615 → next_of ns (cursor_of ns t) ≡ cursor_of ns (t + 1)
unfolding next_of
next-cursor ns t h = rw (ne_eqb (cursor_of ns t).offset 18446744073709551615 (λ e. omega (arith, cursor_offset ns t))) (settle-next ns t)

pub next-at : (ns : List ℕ) (u : Cursor) → (u.offset ≡ 18446744073709551615 → ⊥) → next_of ns u ≡ settle_of (drop u.component ns) u.component (u.offset + 1)
unfolding next_of
next-at ns u h = rw (ne_eqb u.offset 18446744073709551615 h)

pub next_stays : (ns : List ℕ) (u : Cursor) → u.offset ≡ 18446744073709551615 → next_of ns u ≡ u
unfolding next_of
next_stays ns u h = rw (eq-eqb u.offset 18446744073709551615 h)

pub no-sum : sum_of [] ≡ 0
unfolding sum_of
no-sum = refl

pub add-sum : (n : ℕ) (ns : List ℕ) → sum_of (n ∷ ns) ≡ n + sum_of ns
unfolding sum_of
add-sum n ns = refl

-- how many tracks are written
length_once : (c : Component) → length (once_of c) ≡ length c.tracks
length_once c = length-map c.tracks (written c.count)

pub length_part : (r : ℕ) (c : Component) → length (copies (repeats_of r c.count) (once_of c)) ≡ total_of r c
length_part r c = length-copies (repeats_of r c.count) (once_of c) ∙ ap (λ (n : ℕ). repeats_of r c.count * n) (length_once c)

pub sum_nil : (r : ℕ) → sum_of (totals_of r []) ≡ 0
unfolding sum_of totals_of
sum_nil r = refl

pub sum_cons : (r : ℕ) (c : Component) (cs : List Component) → sum_of (totals_of r (c ∷ cs)) ≡ total_of r c + sum_of (totals_of r cs)
unfolding sum_of totals_of
sum_cons r c cs = refl

pub length-written : (cs : List Component) (r : ℕ) → length (written_out cs r) ≡ sum_of (totals_of r cs)
unfolding written_out
length-written [] r = sym (sum_nil r)
length-written (c ∷ cs) r =
    length-append (copies (repeats_of r c.count) (once_of c)) (written_out cs r)
    ∙ ap₂ (λ (a b : ℕ). a + b) (length_part r c) (length-written cs r) ∙ sym (sum_cons r c cs)

-- track o of what a component writes
pub get_part : (r : ℕ) (c : Component) (o : ℕ) → o < total_of r c → get_or (copies (repeats_of r c.count) (once_of c)) o no_track ≡ written_in c o
get_part r c o h =
    let k : o < repeats_of r c.count * length (once_of c) = rw (length_once c) h in
    get-copies (repeats_of r c.count) (once_of c) o no_track k ∙ ap (λ (n : ℕ). get_or (once_of c) (o % n) no_track) (length_once c)

pub written_head : (r : ℕ) (c : Component) (cs : List Component) (o : ℕ) → o < total_of r c → get_or (written_out (c ∷ cs) r) o no_track ≡ written_in c o
unfolding written_out
written_head r c cs o h =
    let part = copies (repeats_of r c.count) (once_of c) in
    let k : o < length part = omega (arith, length_part r c) in
    get_or-append part (written_out cs r) no_track o k ∙ get_part r c o h

pub written_tail : (r : ℕ) (c : Component) (cs : List Component) (o : ℕ) → total_of r c ≤ o → get_or (written_out (c ∷ cs) r) o no_track ≡ get_or (written_out cs r) (o - total_of r c) no_track
unfolding written_out
written_tail r c cs o h =
    let part = copies (repeats_of r c.count) (once_of c) in
    let e = length_part r c in
    let k : length part ≤ o = omega arith in
    get-past part (written_out cs r) o no_track k ∙ ap (λ (n : ℕ). get_or (written_out cs r) (o - n) no_track) e

totals_cons : (r : ℕ) (c : Component) (cs : List Component) → totals_of r (c ∷ cs) ≡ total_of r c ∷ totals_of r cs
unfolding totals_of
totals_cons r c cs = refl

written_from_lem : (all : List Component) (r : ℕ) (cs : List Component) (k o : ℕ) → drop k all ≡ cs → o < sum_of (totals_of r cs) →
    get_or (written_out cs r) o no_track ≡ written_at all (settle_of (totals_of r cs) k o)
written_from_lem all r [] k o e h = absurd (omega (arith, sum_nil r))
written_from_lem all r (c ∷ cs) k o e h =
    ⊎_elim
    (λ (g : o < total_of r c).
    rw (totals_cons r c cs, settle_here (total_of r c) (totals_of r cs) k o g)
    (written_head r c cs o g ∙ ap (λ (x : Component). written_in x o) (sym (drop_head all k c cs no_component e))))
    (λ (g : total_of r c ≤ o).
    rw (totals_cons r c cs, settle_on (total_of r c) (totals_of r cs) k o g)
    (written_tail r c cs o g ∙ written_from_lem all r cs (suc k) (o - total_of r c) (drop_tail all k c cs e) (omega (arith, sum_cons r c cs))))
    (cases_lt o (total_of r c))

-- track t of the written-out template stands at the cursor of t
pub written_at_lem : (cs : List Component) (r t : ℕ) → t < sum_of (totals_of r cs) → get_or (written_out cs r) t no_track ≡ written_at cs (cursor_of (totals_of r cs) t)
unfolding cursor_of
written_at_lem cs r t h = written_from_lem cs r cs 0 t refl h
