-- The tracks of a template, component by component. Assumes nothing.
use Prim.Native.Nat.{ℕ, suc, ◌+◌, ◌*◌, ◌-◌, ◌%◌, ◌≤◌, ◌<◌, min}
use native.Mathlib.Omega.{arith}
use native.Mathlib.Nat.{mul-zero, add-zero}
use native.Mathlib.Numerals.{add-one}
use mathlib.Core.Path.{◌≡◌, ap, ◌∙◌}
use mathlib.Core.Logic.{⊎_elim}
use mathlib.Core.List.{List}
use lib.ListN.{length, get_or, drop, drop_of_length-le}
use Rattle.std.proofs.lemmas.Bool.{cases_lt}
use Rattle.template_rules.specs.Template.{Component, component_of, track_at, template_of}
use Rattle.track_rules.specs.declared.WrittenTrack.{WrittenTrack}
use Rattle.track_rules.specs.Written.{repeats_of, written}
use Rattle.track_rules.specs.Steps.{word_total, word_totals, sum_of, settle_of, cursor_of, no_component, written_in, written_at}
use Rattle.track_rules.proofs.Words.{words_length, words_drop, template-get, track_in, first_fits, length-fits}
use Rattle.track_rules.proofs.Cursors.{settle_here, settle_on, no-sum, add-sum}
use Rattle.track_record.specs.Repeats.{repeated_of}

some-length : (r w o : ℕ) → o < word_total r w → (component_of w).length ≡ 0 → ⊥
unfolding word_total
some-length r w o h e = omega (arith, mul-zero (repeats_of r (component_of w).count), ap (λ (n : ℕ). repeats_of r (component_of w).count * n) e)

-- a component that writes a track has one
pub some-tracks : (r w o m n : ℕ) → m ≡ min (word_total r w - o) n → 0 < m → 0 < (repeated_of w).length
unfolding repeated_of
some-tracks r w o m n e h = let z = some-length r w o (omega arith) in omega (arith, z)

-- its places are below 2^17
pub few-tracks : (w : ℕ) → w < 18446744073709551616 → (repeated_of w).first + (repeated_of w).length < 131072
unfolding repeated_of
few-tracks w h = omega (arith, first_fits w, length-fits w h)

module _ (r : ℕ) (ws : List ℕ) where
  abbrev pub totals : List ℕ
  totals = word_totals r ws

  abbrev pub total_at : ℕ → ℕ
  total_at k = word_total r (get_or ws k 0)

  -- n tracks of the template from track x on are those of component k and the components after it, from offset o on
  abbrev pub Runs : ℕ → ℕ → ℕ → ℕ → Type 0
  Runs x k o n = (j : ℕ) → j < n → cursor_of totals (x + j) ≡ settle_of (drop k totals) k (o + j)

  pub runs_first : (x n : ℕ) → Runs (x + 0) 0 x n
  unfolding cursor_of
  runs_first x n j h = ap (λ (y : ℕ). settle_of totals 0 (y + j)) (add-zero x)

  pub sum-here : (k : ℕ) → k < length ws → sum_of (drop k totals) ≡ total_at k + sum_of (drop (suc k) totals)
  sum-here k h = ap sum_of (words_drop r ws k h) ∙ add-sum (total_at k) (drop (suc k) totals)

  -- where tracks are left, so is a component
  pub component-left : (k o n : ℕ) → o + n ≤ sum_of (drop k totals) → 0 < n → k < length ws
  component-left k o n h some = ⊎_elim (λ (g : k < length ws). g) (λ (g : length ws ≤ k). absurd (omega (arith, past k g))) (cases_lt k (length ws))
    where
      past : (k : ℕ) → length ws ≤ k → sum_of (drop k totals) ≡ 0
      past k g = ap sum_of (drop_of_length-le totals {i = k} (omega (arith, words_length r ws))) ∙ no-sum

  -- past the tracks that are taken of component k
  pub runs_on : (x k o n m : ℕ) → Runs x k o n → k < length ws → m ≡ min (total_at k - o) n → Runs (x + m) (suc k) (o - total_at k) (n - m)
  runs_on x k o n m h small e j less =
      let ns = drop (suc k) totals in
      let s : x + m + j ≡ x + (m + j) = omega arith in
      let y : o + (m + j) - total_at k ≡ o - total_at k + j = omega arith in
      let z : total_at k ≤ o + (m + j) = omega arith in
      ap (cursor_of totals) s ∙ h (m + j) (omega arith) ∙ ap (λ (l : List ℕ). settle_of l k (o + (m + j))) (words_drop r ws k small)
      ∙ settle_on (total_at k) ns k (o + (m + j)) z ∙ ap (settle_of ns (suc k)) y

  pub sum-on : (k o n m : ℕ) → (0 < n → o + n ≤ sum_of (drop k totals)) → k < length ws → m ≡ min (total_at k - o) n → 0 < n - m →
      o - total_at k + (n - m) ≤ sum_of (drop (suc k) totals)
  sum-on k o n m h small e left = let g = h (omega arith) in omega (arith, sum-here k small)

  -- a turn of the loop over the components
  pub turn : (offset d count k o m after tracks : ℕ) → tracks ≡ total_at k → m ≡ min (tracks - o) (count - d) → after ≡ o - tracks → k < length ws →
      (0 < count - d → o + (count - d) ≤ sum_of (drop k totals)) → Runs (offset + d) k o (count - d) →
      (0 < count - (d + m) → after + (count - (d + m)) ≤ sum_of (drop (k + 1) totals)) × Runs (offset + (d + m)) (k + 1) after (count - (d + m))
  turn offset d count k o m after tracks e f h small sum runs =
      let z : count - (d + m) ≡ count - d - m = omega arith in
      let s : offset + (d + m) ≡ offset + d + m = omega arith in
      let g : m ≡ min (total_at k - o) (count - d) = f ∙ ap (λ (n : ℕ). min (n - o) (count - d)) e in
      rw (h, e, z, s, add-one k) (sum-on k o (count - d) m sum small g, runs_on (offset + d) k o (count - d) m runs small g)

  -- the tracks that are taken of it
  module _ (mi ma : List ℕ) where
    at-cursor : (k o : ℕ) → k < length ws → o < total_at k →
        written_at (template_of ws mi ma) (record { component = k; offset = o }) ≡ written (component_of (get_or ws k 0)).count (track_at mi ma ((component_of (get_or ws k 0)).first + o % (component_of (get_or ws k 0)).length))
    at-cursor k o h less =
        ap (λ (x : Component). written_in x o) (template-get ws mi ma k no_component h) ∙ track_in mi ma (get_or ws k 0) o (some-length r (get_or ws k 0) o less)

    pub track-here : (x k o n m : ℕ) → Runs x k o n → k < length ws → m ≡ min (total_at k - o) n → (j : ℕ) → j < m →
        written_at (template_of ws mi ma) (cursor_of totals (x + j))
        ≡ written (component_of (get_or ws k 0)).count (track_at mi ma ((component_of (get_or ws k 0)).first + (o + j) % (component_of (get_or ws k 0)).length))
    track-here x k o n m h small e j less =
        let here : o + j < total_at k = omega arith in
        ap (written_at (template_of ws mi ma))
        (h j (omega arith) ∙ ap (λ (l : List ℕ). settle_of l k (o + j)) (words_drop r ws k small) ∙ settle_here (total_at k) (drop (suc k) totals) k (o + j) here)
        ∙ at-cursor k (o + j) small here

    pub fit-here : (x k o n m : ℕ) → Runs x k o n → k < length ws → m ≡ min (total_at k - o) n → (j : ℕ) → j < m →
        (written_at (template_of ws mi ma) (cursor_of totals (x + j))).fit ≡ (repeated_of (get_or ws k 0)).fit
    unfolding repeated_of
    fit-here x k o n m h small e j less = ap (λ (y : WrittenTrack). y.fit) (track-here x k o n m h small e j less)
