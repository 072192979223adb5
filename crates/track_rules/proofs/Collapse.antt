-- The collapse of tracks and gutters against CSS's rules. Assumes nothing.
use Prim.Native.Nat.{ℕ, zero, suc, ◌+◌, ◌*◌, ◌-◌, ◌/◌, ◌%◌, ◌≤◌, ◌<◌}
use native.Mathlib.Omega.{arith}
use mathlib.Core.Path.{◌≡◌, refl, sym, ap, ◌∙◌}
use mathlib.Core.Logic.{⊎_elim, ◌↔◌}
use mathlib.Core.Bool.{Bool, true, false, not, ◌&&◌, ◌||◌}
use mathlib.Core.List.{List}
use lib.Dec.{leb}
use lib.ListN.{length, get_or}
use borrow.Author.Tests.{lt-leb, leb-false, eq-eqb, ne_eqb}
use Rattle.std.proofs.lemmas.Bool.{cases_lt}
use Rattle.sizing.specs.declared.MinMax.{MinMax}
use Rattle.template_rules.specs.Template.{Component}
use Rattle.track_rules.specs.declared.GridTrack.{GridTrack}
use Rattle.track_rules.specs.declared.WrittenTrack.{WrittenTrack}
use Rattle.track_rules.specs.declared.AxisTracks.{AxisTracks}
use Rattle.track_rules.specs.Tracks.{gutter_of, track_of}
use Rattle.track_rules.specs.Records.{tracks_in, all_tracks, no_track, item_at, closed_in, open_to, fit_ends_in, shut_gutter, record_in, records_of}
use Rattle.track_rules.specs.Css.{Collapses, Stays}
use Rattle.track_rules.proofs.Opened.{open_le, open_closed, open_last, gutter-late, not_fit}
use Rattle.track_rules.proofs.AllTracks.{length-all}
use Rattle.track_rules.proofs.RecordList.{records-in}

-- a track is collapsed exactly by CSS's rule
pub track_css : (l : List WrittenTrack) (item : ℕ → Bool) (t : ℕ) → (closed_in l item t ≡ true) ↔ Collapses l item t
track_css l item t = (to (get_or l t no_track).fit (item t), from (get_or l t no_track).fit (item t))
  where
    to : (f i : Bool) → (f && not i) ≡ true → (f ≡ true) × (i ≡ false)
    to true true e = (refl, sym e)
    to true false e = (refl, refl)
    to false i e = let z : ◌≡◌ {A = ℕ} 0 1 = cc in absurd (omega arith)

    from : (f i : Bool) → (f ≡ true) × (i ≡ false) → (f && not i) ≡ true
    from f i h = rw (h.0, h.1)

open_css : (l : List WrittenTrack) (item : ℕ → Bool) (t : ℕ) → closed_in l item t ≡ false → Collapses l item t → ⊥
open_css l item t e h = let f = (track_css l item t).1 h in let z : ◌≡◌ {A = ℕ} 0 1 = cc in omega arith

closed_css : (l : List WrittenTrack) (item : ℕ → Bool) (t : ℕ) → (Collapses l item t → ⊥) → closed_in l item t ≡ false
closed_css l item t h = go (closed_in l item t) refl
  where
    go : (b : Bool) → closed_in l item t ≡ b → closed_in l item t ≡ false
    go true e = absurd (h ((track_css l item t).0 e))
    go false e = e

-- an open track at or past g, exactly where g is below the open end
last_open : (f : ℕ → Bool) (n g : ℕ) → g < open_to f n → (t : ℕ) × (g ≤ t) × (t < n) × (f t ≡ false)
last_open f zero g h = absurd (omega (arith, open_le f zero))
last_open f (suc n) g h = go (last_open f n g) (f n) refl
  where
    go : (g < open_to f n → (t : ℕ) × (g ≤ t) × (t < n) × (f t ≡ false)) → (b : Bool) → f n ≡ b → (t : ℕ) × (g ≤ t) × (t < suc n) × (f t ≡ false)
    go rec true e = let r = rec (omega (arith, open_closed f n e)) in (r.0, r.1, omega (arith, r.2), r.3)
    go rec false e = (n, omega (arith, open_last f n e), omega arith, e)

open_above : (f : ℕ → Bool) (n t : ℕ) → t < n → f t ≡ false → t < open_to f n
open_above f zero t h e = absurd (omega arith)
open_above f (suc n) t h e = go (λ k. open_above f n t k e) (f n) refl
  where
    go : (t < n → t < open_to f n) → (b : Bool) → f n ≡ b → t < open_to f (suc n)
    go rec true q =
        ⊎_elim
        (λ (k : t < n). omega (arith, open_closed f n q, rec k))
        (λ (k : n ≤ t). let s : t ≡ n = omega arith in let x : f n ≡ false = rw s at e in let z : ◌≡◌ {A = ℕ} 0 1 = cc in absurd (omega arith))
        (cases_lt t n)
    go rec false q = omega (arith, open_last f n q)

or_false : (a b : Bool) → (a || b) ≡ false → (a ≡ false) × (b ≡ false)
or_false true b e = let z : ◌≡◌ {A = ℕ} 0 1 = cc in absurd (omega arith)
or_false false b e = (refl, e)

-- a gutter is open exactly by CSS's rule
pub gutter_css : (l : List WrittenTrack) (item : ℕ → Bool) (g : ℕ) → g ≤ length l → (shut_gutter (closed_in l item) (fit_ends_in l) (length l) g ≡ false) ↔ Stays l item g
gutter_css l item zero h = ((λ e. let z : ◌≡◌ {A = ℕ} 0 1 = cc in absurd (omega arith)), (λ s. absurd (omega (arith, s.beside))))
gutter_css l item (suc t) h =
    let same = gutter-late (closed_in l item) (length l) t (fit_ends_in l) (omega arith) (λ e. not_fit (fit_ends_in l) (not (item (length l - 1))) e) in (
      (λ e.
          let p = or_false (closed_in l item t) (leb (open_to (closed_in l item) (length l)) (suc t)) (sym same ∙ e) in
          let r = last_open (closed_in l item) (length l) (suc t) (leb-false _ _ p.1) in
          record { before = t; beside = refl; before_open = (omega arith, open_css l item t p.0); after = r.0; later = r.1; after_open = (r.2, open_css l item r.0 r.3) }),
      (λ s.
          let b : t ≡ s.before = omega (arith, s.beside) in
          let x : closed_in l item t ≡ false = rw b (closed_css l item s.before s.before_open.1) in
          let y = open_above (closed_in l item) (length l) s.after s.after_open.0 (closed_css l item s.after s.after_open.1) in
          same ∙ rw (x, lt-leb (open_to (closed_in l item) (length l)) (suc t) (omega (arith, s.later)))),
    )

-- the mark of a record is what it was made with
marked : (x : WrittenTrack) (b : Bool) → (track_of x b).collapsed ≡ b
marked x true = refl
marked x false = refl

module _ (a : AxisTracks) (cs : List Component) (sp : List MinMax) (items : List ℕ) where
  -- record 2t + 1 of the list is collapsed exactly where CSS collapses track t
  pub record-track : (t : ℕ) (d : GridTrack) → t < tracks_in a → ((get_or (records_of a cs sp items) (2 * t + 1) d).collapsed ≡ true) ↔ Collapses (all_tracks a cs sp) (item_at items) t
  record-track t d h =
      let l = all_tracks a cs sp in
      let half : (2 * t + 1) / 2 ≡ t = omega arith in
      let odd : (2 * t + 1) % 2 ≡ 1 = omega arith in
      let e : record_in l (item_at items) a.gap (2 * t + 1) ≡ track_of (get_or l t no_track) (closed_in l (item_at items) t) = rw (ne_eqb ((2 * t + 1) % 2) 0 (λ z. omega arith), half) in
      let m : (get_or (records_of a cs sp items) (2 * t + 1) d).collapsed ≡ closed_in l (item_at items) t =
      ap (λ (x : GridTrack). x.collapsed) (records-in a cs sp items (2 * t + 1) d (omega arith) ∙ e) ∙ marked (get_or l t no_track) (closed_in l (item_at items) t) in
      ((λ x. (track_css l (item_at items) t).0 (sym m ∙ x)), (λ x. m ∙ (track_css l (item_at items) t).1 x))

  -- record 2g of the list is an open gutter exactly where CSS leaves one
  pub record-gutter : (g : ℕ) (d : GridTrack) → g ≤ tracks_in a → ((get_or (records_of a cs sp items) (2 * g) d).collapsed ≡ false) ↔ Stays (all_tracks a cs sp) (item_at items) g
  record-gutter g d h =
      let l = all_tracks a cs sp in
      let half : 2 * g / 2 ≡ g = omega arith in
      let even : 2 * g % 2 ≡ 0 = omega arith in
      let b = shut_gutter (closed_in l (item_at items)) (fit_ends_in l) (length l) g in
      let e : record_in l (item_at items) a.gap (2 * g) ≡ gutter_of a.gap b = rw (eq-eqb (2 * g % 2) 0 even, half) in
      let m : (get_or (records_of a cs sp items) (2 * g) d).collapsed ≡ b =
      ap (λ (x : GridTrack). x.collapsed) (records-in a cs sp items (2 * g) d (omega arith) ∙ e) ∙ marked-gutter b in
      let within : g ≤ length l = omega (arith, length-all a cs sp) in
      ((λ x. (gutter_css l (item_at items) g within).0 (sym m ∙ x)), (λ x. m ∙ (gutter_css l (item_at items) g within).1 x))
    where
      marked-gutter : (b : Bool) → (gutter_of a.gap b).collapsed ≡ b
      marked-gutter true = refl
      marked-gutter false = refl
