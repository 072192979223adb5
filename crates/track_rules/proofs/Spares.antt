-- Implicit sizes against CSS's rules. Assumes nothing.
use Prim.Native.Nat.{ℕ, ◌+◌, ◌*◌, ◌-◌, ◌/◌, ◌%◌, ◌≤◌, ◌<◌}
use native.Mathlib.Omega.{arith}
use native.Mathlib.Nat.{mod-lt, mod-eq_of_lt, div-add-mod, add-mul-mod_self_left, mul-add, mul-le-mul_left}
use mathlib.Core.Path.{◌≡◌, refl, sym, ap, ◌∙◌}
use mathlib.Core.Logic.{⊎_elim}
use mathlib.Core.Bool.{Bool}
use mathlib.Core.List.{List, [], ◌∷◌}
use lib.ListN.{length, get_or, get_or-eq_default}
use Rattle.std.proofs.lemmas.Bool.{cases_lt}
use Rattle.sizing.specs.declared.MinMax.{MinMax}
use Rattle.template_rules.specs.Template.{Component}
use Rattle.track_rules.specs.declared.WrittenTrack.{WrittenTrack}
use Rattle.track_rules.specs.declared.AxisTracks.{AxisTracks}
use Rattle.track_rules.specs.Tracks.{auto_size}
use Rattle.track_rules.specs.Records.{negative_of, tracks_in, spare_at, negative_at, all_tracks, no_track}
use Rattle.track_rules.specs.Css.{forwards, backwards}
use Rattle.track_rules.proofs.AllTracks.{count_in, get-all, track-negative, track-past}

-- before the grid the spare sizes are aligned to its start
align : (s m t : ℕ) → 0 < s → t < m → (s - m % s + t) % s ≡ s - 1 - (m - 1 - t) % s
align s m t pos h =
    let d = m - 1 - t in
    let b = m / s in
    let k = d / s in
    let em : s * b + m % s ≡ m = div-add-mod m s in
    let ed : s * k + d % s ≡ d = div-add-mod d s in
    let am : m % s < s = mod-lt m pos in
    let ad : d % s < s = mod-lt d pos in
    let up : k ≤ b = ⊎_elim
    (λ (g : b < k). let w : s * (b + 1) ≤ s * k = mul-le-mul_left s (omega arith) in absurd (omega (arith, mul-add s b 1)))
    (λ (g : k ≤ b). g) (cases_lt b k) in
    let x : s * b ≡ s * k + s * (b - k) = ap (λ (j : ℕ). s * j) (let y : b ≡ k + (b - k) = omega arith in y) ∙ mul-add s k (b - k) in
    let v : s - m % s + t ≡ (s - 1 - d % s) + s * (b - k) = omega arith in
    rw v (add-mul-mod_self_left (s - 1 - d % s) s (b - k) ∙ mod-eq_of_lt (omega arith))

pub negative_css : (s : List MinMax) (m t : ℕ) → t < m → (negative_at s m t).size ≡ backwards s m t
negative_css s m t h =
    ⊎_elim
    (λ (k : length s < 1).
    let x : length s ≤ (length s - m % length s + t) % length s = omega arith in
    let y : length s ≤ length s - 1 - (m - 1 - t) % length s = omega arith in
    get_or-eq_default s auto_size x ∙ sym (get_or-eq_default s auto_size y))
    (λ (k : 1 ≤ length s). ap (λ (i : ℕ). get_or s i auto_size) (align (length s) m t k h))
    (cases_lt (length s) 1)

module _ (a : AxisTracks) (cs : List Component) (sp : List MinMax) (item : ℕ → Bool) where
  -- implicit tracks before the grid take CSS's sizes
  pub sizes-before : (t : ℕ) → t < negative_of a → (get_or (all_tracks a cs sp) t no_track).size ≡ backwards sp (negative_of a) t
  sizes-before t h =
      ap (λ (x : WrittenTrack). x.size) (get-all a cs sp t (omega arith) ∙ track-negative a cs sp item t h) ∙ negative_css sp (negative_of a) t h

  -- and so do the tracks after the template's, those that only an area makes first
  pub sizes-after : (i : ℕ) → negative_of a + count_in a cs + i < tracks_in a → (get_or (all_tracks a cs sp) (negative_of a + count_in a cs + i) no_track).size ≡ forwards sp i
  sizes-after i h =
      let t = negative_of a + count_in a cs + i in
      let s : t - (negative_of a + count_in a cs) ≡ i = omega arith in
      ap (λ (x : WrittenTrack). x.size) (get-all a cs sp t h ∙ track-past a cs sp item t (omega arith)) ∙ ap (spare_at sp) s

-- the first size after the grid is the first spare one, and the last before it the last
pub first_spare : (s : List MinMax) → forwards s 0 ≡ get_or s 0 auto_size
first_spare [] = refl
first_spare (x ∷ s) = let h : 0 < length (x ∷ s) = omega arith in ap (λ (i : ℕ). get_or (x ∷ s) i auto_size) (mod-eq_of_lt h)

pub last-spare : (s : List MinMax) (m : ℕ) → 0 < m → 0 < length s → backwards s m (m - 1) ≡ get_or s (length s - 1) auto_size
last-spare s m h pos =
    let z : m - 1 - (m - 1) ≡ 0 = omega arith in
    let e : (m - 1 - (m - 1)) % length s ≡ 0 = ap (λ (k : ℕ). k % length s) z ∙ mod-eq_of_lt pos in
    let w : length s - 1 - (m - 1 - (m - 1)) % length s ≡ length s - 1 = omega arith in
    ap (λ (k : ℕ). get_or s k auto_size) w
