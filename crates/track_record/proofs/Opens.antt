-- One past the last open track, component by component. Assumes nothing.
use Prim.Native.Nat.{ℕ, zero, suc, ◌+◌, ◌-◌, ◌≤◌, ◌<◌, min}
use native.Mathlib.Omega.{arith}
use native.Mathlib.Nat.{add-zero}
use mathlib.Core.Path.{◌≡◌, refl, sym, ap, ◌∙◌}
use mathlib.Core.Logic.{⊎_elim}
use mathlib.Core.Bool.{Bool, true, false, cond, not, ◌&&◌}
use mathlib.Core.List.{List, []}
use lib.Dec.{eqb}
use lib.ListN.{length, get_or, take, drop, get_or-eq_default}
use Rattle.std.proofs.lemmas.Bool.{cases_lt}
use Rattle.std.proofs.lemmas.List.{get_or-drop, get_or-take, length-take}
use borrow.Author.Tests.{eq-eqb, ne_eqb, lt-ltb, le-ltb}
use Rattle.template_rules.specs.Template.{Component, template_of}
use Rattle.track_rules.specs.declared.AxisTracks.{AxisTracks}
use Rattle.track_rules.specs.Records.{negative_of, tracks_in, item_at, closed_by, open_to}
use Rattle.track_rules.specs.Steps.{word_totals, written_count, cursor_of, cursor_at, written_at, closed_at, plan_of}
use Rattle.track_rules.proofs.Words.{totals_words}
use Rattle.track_rules.proofs.Opened.{open_closed, open_last, open_same, open_whole}
use Rattle.track_rules.proofs.AllTracks.{count_in, closed-negative, closed-explicit, open-past, plan_of_lem}
use Rattle.track_record.specs.Repeats.{repeated_of}
use Rattle.track_record.specs.Plans.{open_in, closed_from}
use Rattle.track_record.proofs.Components.{total_at, Runs, fit-here}

pub open_none : (f : ℕ → Bool) → open_to f 0 ≡ 0
unfolding open_to
open_none f = refl

-- where none of the last tracks is open, those before them say the end
shut : (f : ℕ → Bool) (n k : ℕ) → k ≤ n → ((j : ℕ) → k ≤ j → j < n → f j ≡ true) → open_to f k ≡ open_to f n
shut f zero k le h = ap (open_to f) (omega (arith, le))
shut f (suc n) k le h =
    ⊎_elim
    (λ (g : k < suc n). shut f n k (omega (arith, g)) (λ j a b. h j a (omega (arith, b))) ∙ sym (open_closed f n (h n (omega (arith, g)) (omega arith))))
    (λ (g : suc n ≤ k). ap (open_to f) (omega (arith, le, g)))
    (cases_lt k (suc n))

-- the last of some items lies at i, or there is none
module _ (items : List ℕ) where
  abbrev empty : ℕ → Bool
  empty j = not (item_at items j)

  zero-empty : (j : ℕ) → get_or items j 0 ≡ 0 → empty j ≡ true
  zero-empty j h = rw (eq-eqb _ 0 h)

  pub item-last : (i n : ℕ) → i < n → (get_or items i 0 ≡ 0 → ⊥) → ((j : ℕ) → i < j → j < n → get_or items j 0 ≡ 0) → i + 1 ≡ open_to empty n
  item-last i n less h rest = sym (open_whole empty (i + 1) (λ _. let z : i + 1 - 1 ≡ i = omega arith in rw (z, ne_eqb _ 0 h))) ∙ shut empty n (i + 1) (omega (arith, less)) (λ j a b. zero-empty j (rest j (omega (arith, a)) b))

  pub item-none : (n : ℕ) → ((j : ℕ) → j < n → get_or items j 0 ≡ 0) → 0 ≡ open_to empty n
  item-none n rest = sym (open_none empty) ∙ shut empty n 0 (omega arith) (λ j a b. zero-empty j (rest j b))

-- the tracks of a component that is no fit are open
pub count-all : (fit : Bool) (items : List ℕ) (n : ℕ) → fit ≡ false → n ≡ open_to (λ j. fit && not (item_at items j)) n
count-all fit items n h = sym (open_whole (λ j. false) n (λ _. refl)) ∙ ap (λ (b : Bool). open_to (λ j. b && not (item_at items j)) n) (sym h)

-- those of a fit are as their items say, and past the items none is open
pub count-fit : (fit : Bool) (items : List ℕ) (n r : ℕ) → fit ≡ true → r ≡ open_to (empty (take n items)) (length (take n items)) → r ≡ open_to (λ j. fit && not (item_at items j)) n
count-fit fit items n r h e =
    let same = open_same (empty items) (empty (take n items)) (length (take n items)) (λ j k. ap (λ (x : ℕ). not (not (eqb x 0))) (sym (get_or-take n items j 0 (omega (arith, k, length-take n items))))) in
    e ∙ sym same ∙ shut (empty items) n (length (take n items)) (omega (arith, length-take n items)) (λ j k less. rw (get_or-eq_default items 0 {n = j} (omega (arith, k, less, length-take n items))))
    ∙ ap (λ (b : Bool). open_to (λ j. b && not (item_at items j)) n) (sym h)

-- with n tracks more
module _ (f : ℕ → Bool) (opened t n last : ℕ) (e : last ≡ open_to f n) where
  after-none : last ≡ 0 → opened ≡ open_in f opened t n
  unfolding open_in
  after-none h = let z : open_to f n ≡ 0 = sym e ∙ h in rw z

  after-some : (last ≡ 0 → ⊥) → t + last ≡ open_in f opened t n
  unfolding open_in
  after-some h = rw (← e, ne_eqb last 0 h)

open_on : (closed f : ℕ → Bool) (t n : ℕ) → ((j : ℕ) → j < n → closed (t + j) ≡ f j) → open_to closed (t + n) ≡ open_in f (open_to closed t) t n
unfolding open_in
open_on closed f t zero h = rw (open_none f, add-zero t)
open_on closed f t (suc n) h =
    let s : t + suc n ≡ suc (t + n) = omega arith in
    ap (open_to closed) s ∙ go (f n) refl (open_on closed f t n (λ j k. h j (omega arith)))
  where
    go : (b : Bool) → f n ≡ b → open_to closed (t + n) ≡ cond (eqb (open_to f n) 0) (open_to closed t) (t + open_to f n) →
        open_to closed (suc (t + n)) ≡ cond (eqb (open_to f (suc n)) 0) (open_to closed t) (t + open_to f (suc n))
    go true e before =
        open_closed closed (t + n) (h n (omega arith) ∙ e) ∙ before ∙ ap (λ (x : ℕ). cond (eqb x 0) (open_to closed t) (t + x)) (sym (open_closed f n e))
    go false e before =
        let s : suc (t + n) ≡ t + suc n = omega arith in
        open_last closed (t + n) (h n (omega arith) ∙ e) ∙ s ∙ rw (open_last f n e, ne_eqb (suc n) 0 (λ z. omega arith))

module _ (r : ℕ) (ws mi ma : List ℕ) (items : List ℕ) where
  abbrev closed : ℕ → Bool
  closed = closed_from (word_totals r ws) (template_of ws mi ma) (item_at items) 0

  pub open-first : 0 ≡ open_to closed 0
  open-first = sym (open_none closed)

  -- a turn of the loop over the components
  module _ (d k n m last : ℕ) (fit : Bool) (runs : Runs r ws (0 + d) k 0 n) (small : k < length ws) (taken : m ≡ min (total_at r ws k - 0) n)
      (told : fit ≡ (repeated_of (get_or ws k 0)).fit) (opened : ℕ) (before : opened ≡ open_to closed d) (counted : last ≡ open_to (λ j. fit && not (item_at (drop d items) j)) m) where
    abbrev here : ℕ → Bool
    here j = fit && not (item_at (drop d items) j)

    same : (j : ℕ) → j < m → closed (d + j) ≡ here j
    same j less =
        let z : d + j - 0 ≡ 0 + d + j = omega arith in
        rw (le-ltb (d + j) 0 (omega arith))
        (ap (λ (i : ℕ). (written_at (template_of ws mi ma) (cursor_of (word_totals r ws) i)).fit && not (item_at items (d + j))) z
        ∙ ap (λ (b : Bool). b && not (item_at items (d + j))) (fit-here r ws mi ma (0 + d) k 0 n m runs small taken j less ∙ sym told)
        ∙ ap (λ (x : ℕ). fit && not (not (eqb x 0))) (sym (get_or-drop d items j 0)))

    pub turn-none : last ≡ 0 → opened ≡ open_to closed (d + m)
    turn-none h = after-none here opened d m last counted h ∙ ap (λ (o : ℕ). open_in here o d m) before ∙ sym (open_on closed here d m same)

    pub turn-some : (last ≡ 0 → ⊥) → d + last ≡ open_to closed (d + m)
    turn-some h = after-some here opened d m last counted h ∙ ap (λ (o : ℕ). open_in here o d m) before ∙ sym (open_on closed here d m same)

-- those of the template follow the tracks before the grid, which are open
open_moved : (ns : List ℕ) (cs : List Component) (items : List ℕ) (t n : ℕ) →
    open_to (closed_from ns cs (item_at items) t) (t + n) ≡ t + open_to (closed_from ns cs (item_at (drop t items)) 0) n
unfolding open_in
open_moved ns cs items t n =
    let f = closed_from ns cs (item_at items) t in
    let g = closed_from ns cs (item_at (drop t items)) 0 in
    let first : open_to f t ≡ t = open_whole f t (λ h. rw (lt-ltb (t - 1) t (omega arith))) in
    open_on f g t n same ∙ ap (λ (o : ℕ). open_in g o t n) first ∙ go (open_to g n) refl
  where
    same : (j : ℕ) → j < n → closed_from ns cs (item_at items) t (t + j) ≡ closed_from ns cs (item_at (drop t items)) 0 j
    same j less =
        let z : t + j - t ≡ j - 0 = omega arith in
        rw (le-ltb (t + j) t (omega arith), le-ltb j 0 (omega arith), z) (ap (λ (x : ℕ). (written_at cs (cursor_of ns (j - 0))).fit && not (not (eqb x 0))) (sym (get_or-drop t items j 0)))

    go : (x : ℕ) → open_to (closed_from ns cs (item_at (drop t items)) 0) n ≡ x → open_in (closed_from ns cs (item_at (drop t items)) 0) t t n ≡ t + x
    go zero e = rw e (sym (add-zero t))
    go (suc x) e = rw (e, ne_eqb (suc x) 0 (λ z. omega arith))

-- the plan of an axis with a track after those of the template
pub plan_early : (a : AxisTracks) (ws mi ma : List ℕ) (item : ℕ → Bool) (written tracks : ℕ) → written ≡ written_count a (word_totals a.repetitions ws) →
    tracks ≡ tracks_in a → negative_of a + written < tracks → record { written = written; opened = tracks } ≡ plan_of a (template_of ws mi ma) item
plan_early a ws mi ma item written tracks e n h =
    let cs = template_of ws mi ma in
    let w : written ≡ count_in a cs = e ∙ ap (written_count a) (sym (totals_words a.repetitions ws mi ma)) in
    plan_of_lem a cs item written tracks w (n ∙ sym (open-past a cs [] item (omega arith)))

-- the plan of an axis whose template fills the grid to its end
pub plan_end : (a : AxisTracks) (ws mi ma : List ℕ) (items : List ℕ) (written opened : ℕ) → written ≡ written_count a (word_totals a.repetitions ws) →
    tracks_in a ≤ negative_of a + written →
    opened ≡ open_to (closed_from (word_totals a.repetitions ws) (template_of ws mi ma) (item_at (drop (negative_of a) items)) 0) written →
    record { written = written; opened = negative_of a + opened } ≡ plan_of a (template_of ws mi ma) (item_at items)
plan_end a ws mi ma items written opened e h o =
    let cs = template_of ws mi ma in
    let item = item_at items in
    let f = closed_from (word_totals a.repetitions ws) cs item (negative_of a) in
    let w : written ≡ count_in a cs = e ∙ ap (written_count a) (sym (totals_words a.repetitions ws mi ma)) in
    let n : negative_of a + written ≡ tracks_in a = omega arith in
    plan_of_lem a cs item written (negative_of a + opened) w (ap (λ (x : ℕ). negative_of a + x) o ∙ sym (open_moved (word_totals a.repetitions ws) cs items (negative_of a) written) ∙ ap (open_to f) n ∙ open_same f (closed_at a cs [] item) (tracks_in a) (λ u k. same u (omega arith)))
  where
    same : (u : ℕ) → u < negative_of a + written → closed_from (word_totals a.repetitions ws) (template_of ws mi ma) (item_at items) (negative_of a) u ≡ closed_at a (template_of ws mi ma) [] (item_at items) u
    same u k =
        let item = item_at items in
        let cs = template_of ws mi ma in
        let w : written ≡ count_in a cs = e ∙ ap (written_count a) (sym (totals_words a.repetitions ws mi ma)) in
        ⊎_elim
        (λ (g : u < negative_of a). rw (lt-ltb u (negative_of a) g) (sym (closed-negative a cs [] item u g)))
        (λ (g : negative_of a ≤ u).
        rw (le-ltb u (negative_of a) g)
        (ap (λ (ns : List ℕ). closed_by item (written_at cs (cursor_at a ns u)) u) (sym (totals_words a.repetitions ws mi ma))
        ∙ sym (closed-explicit a cs [] item u g (omega arith))))
        (cases_lt u (negative_of a))
