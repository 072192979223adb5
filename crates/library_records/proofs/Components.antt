-- Runs of tracks of a template, component by component. Assumes nothing.
use Prim.Native.Nat.{ℕ, ◌+◌, ◌-◌, ◌%◌, ◌≤◌, ◌<◌, min}
use native.Mathlib.Omega.{arith}
use native.Mathlib.Nat.{add-zero, mod-eq_of_lt}
use mathlib.Core.Bool.{Bool, true, false, cond}
use lib.Dec.{eqb}
use borrow.Author.Tests.{eqb-false}
use mathlib.Core.Path.{◌≡◌, refl, sym, ap, ap₂, subst, ◌∙◌}
use mathlib.Core.List.{List}
use lib.ListN.{length, get_or, drop, length-take}
use Rattle.template_rules.specs.Template.{component_of, track_at, template_of}
use Rattle.track_rules.specs.declared.TrackSource.TheVariants.{Template}
use Rattle.track_rules.specs.Written.{written}
use Rattle.track_rules.specs.Records.{item_at}
use Rattle.track_rules.specs.Steps.{word_total, word_totals, sum_of, cursor, cursor_of, written_at}
use Rattle.axis_tables.specs.declared.AxisGrid.{AxisGrid}
use Rattle.axis_tables.specs.Runs.{part_of}
use Rattle.panel_rules.specs.Calls.{template_in}
use Rattle.track_record.specs.Repeats.{repeated_of}
use Rattle.track_record.specs.declared.Repeated.{Repeated}
use Rattle.track_record.proofs.Components.{totals, total_at, Runs, some-tracks, turn, track-here}
use Rattle.library_records.specs.declared.Gutters.{Gutters}
use Rattle.library_records.specs.declared.TemplatePart.{TemplatePart}
use Rattle.library_records.specs.Pairs.{joined, pair_words, part_pair, template_pair}
use Rattle.library_records.specs.Parts.{component_part, singles_of, singles_at, singles_part, part_at}
use Rattle.library_records.proofs.Singles.{single_repeated, single_start, row_one, row_fits, row-held, row-each, row-runs, row-sum}

-- places of the j-th of some tracks
nth_place : (o t d j : ℕ) → o ≡ 0 → o + (t + d + j - (t + d)) ≡ j
nth_place o t d j e = omega arith

own-place : (t d j : ℕ) → 0 + (t + (d + j) + 0 - (t + (d + j))) ≡ 0
own-place t d j = omega arith

later : (t d j : ℕ) → t + d + j ≡ t + (d + j) + 0
later t d j = omega arith

module _ (r : ℕ) (ws mi ma : List ℕ) where
  pub pair-here : (items : List ℕ) (g : Gutters) (offset t d k o n m : ℕ) → Runs r ws (offset + d) k o n → k < length ws → m ≡ min (total_at r ws k - o) n → (j : ℕ) → j < m →
      part_pair mi ma items (repeated_of (get_or ws k 0)) o (t + d) g (t + d + j) ≡ template_pair (totals r ws) (template_of ws mi ma) items offset t g (t + d + j)
  unfolding repeated_of
  pair-here items g offset t d k o n m h small e j less =
      let w = get_or ws k 0 in
      let z : t + d + j - (t + d) ≡ j = omega arith in
      let s : offset + (t + d + j - t) ≡ offset + d + j = omega arith in
      ap (λ (i : ℕ). pair_words g (item_at items) (t + d + j) (written (component_of w).count (track_at mi ma ((component_of w).first + (o + i) % (component_of w).length)))) z
      ∙ sym (ap (pair_words g (item_at items) (t + d + j))
      (ap (λ (i : ℕ). written_at (template_of ws mi ma) (cursor_of (totals r ws) i)) s ∙ track-here r ws mi ma (offset + d) k o n m h small e j less))

  -- a part of the template that is taken where `d` of `count` tracks are done, from track `offset` on
  pub record Taken (offset d count k : ℕ) (x : TemplatePart) : Type 0 where
    pub fits : x.count ≤ count - d
    pub some : 0 < x.count → 0 < x.repeated.length
    pub on : k < x.after.component
    pub held : x.after.component ≤ length ws
    pub sum : 0 < count - (d + x.count) → x.after.offset + (count - (d + x.count)) ≤ sum_of (drop x.after.component (totals r ws))
    pub runs : Runs r ws (offset + (d + x.count)) x.after.component x.after.offset (count - (d + x.count))

  module _ (offset d count k o : ℕ) (small : k < length ws) (sum : 0 < count - d → o + (count - d) ≤ sum_of (drop k (totals r ws))) (runs : Runs r ws (offset + d) k o (count - d)) where
    component-taken : (x : TemplatePart) → x ≡ component_part r (get_or ws k 0) (cursor k o) (count - d) → Taken offset d count k x
    unfolding component_part
    component-taken x e =
        let w = get_or ws k 0 in
        let m = min (word_total r w - o) (count - d) in
        let on = turn r ws offset d count k o m (o - word_total r w) (word_total r w) refl refl refl small sum runs in
        subst (Taken offset d count k) (sym e)
        (record {
          fits = omega arith;
          some = some-tracks r w o m (count - d) refl;
          on = omega arith;
          held = omega (arith, small);
          sum = on.0;
          runs = on.1;
        })

    component-pair : (items : List ℕ) (g : Gutters) (t : ℕ) (x : TemplatePart) → x ≡ component_part r (get_or ws k 0) (cursor k o) (count - d) → (j : ℕ) → j < x.count →
        part_pair mi ma items x.repeated o (t + d) g (t + d + j) ≡ template_pair (totals r ws) (template_of ws mi ma) items offset t g (t + d + j)
    unfolding component_part
    component-pair items g t x e j less =
        let w = get_or ws k 0 in
        let z : j < min (word_total r w - o) (count - d) = subst (λ (y : TemplatePart). j < y.count) e less in
        ap (λ (y : TemplatePart). part_pair mi ma items y.repeated o (t + d) g (t + d + j)) e
        ∙ pair-here items g offset t d k o (count - d) (min (word_total r w - o) (count - d)) runs small refl j z

    module _ (m : ℕ) (first : ℕ) (none : o ≡ 0) (some : m ≡ 0 → ⊥) (row : m ≡ singles_of first (drop k ws) (count - d)) where
      at-start : Runs r ws (offset + d) k 0 (count - d)
      at-start = subst (λ (n : ℕ). Runs r ws (offset + d) k n (count - d)) none runs

      singles-taken : (x : TemplatePart) → x ≡ singles_part first (cursor k o) m → Taken offset d count k x
      singles-taken x e =
          let n = count - d in
          let z : count - (d + m) ≡ n - m = omega arith in
          let s : offset + (d + m) ≡ offset + d + m = omega arith in
          let sums : 0 < n → 0 + n ≤ sum_of (drop k (totals r ws)) = subst (λ (i : ℕ). 0 < n → i + n ≤ sum_of (drop k (totals r ws))) none sum in
          subst (Taken offset d count k) (sym e)
          (record {
            fits = row_fits r ws k first n m row small;
            some = λ h. h;
            on = omega (arith, some);
            held = row-held r ws k first n m row small;
            sum = rw z (row-sum r ws k first n m row small sums m (omega arith));
            runs = rw (z, s) (row-runs r ws k first n m row small (offset + d) at-start m (omega arith));
          })

      singles-pair : (items : List ℕ) (g : Gutters) (t : ℕ) (x : TemplatePart) → x ≡ singles_part first (cursor k o) m → (j : ℕ) → j < x.count →
          part_pair mi ma items x.repeated o (t + d) g (t + d + j) ≡ template_pair (totals r ws) (template_of ws mi ma) items offset t g (t + d + j)
      singles-pair items g t x e j less =
          let n = count - d in
          let h : j < m = subst (λ (y : TemplatePart). j < y.count) e less in
          let single = row-each r ws k first n m row small j h in
          let u : t + d + j ≡ t + (d + j) + 0 = later t d j in
          let place : first + (o + (t + d + j - (t + d))) % m ≡ first + j + (0 + (t + (d + j) + 0 - (t + (d + j)))) % 1 =
          ap (λ (y : ℕ). first + y % m) (nth_place o t d j none) ∙ ap (λ (y : ℕ). first + y) (mod-eq_of_lt h) ∙ sym (ap (λ (y : ℕ). first + j + y % 1) (own-place t d j) ∙ add-zero (first + j)) in
          let there : Runs r ws (offset + (d + j)) (k + j) 0 (n - j) =
          let s : offset + (d + j) ≡ offset + d + j = omega arith in rw s (row-runs r ws k first n m row small (offset + d) at-start j (omega arith)) in
          ap (λ (y : TemplatePart). part_pair mi ma items y.repeated o (t + d) g (t + d + j)) e
          ∙ ap₂ (λ (y v : ℕ). pair_words g (item_at items) v (record { size = track_at mi ma y; source = Template; fit = false })) place u
          ∙ ap (λ (y : Repeated). part_pair mi ma items y 0 (t + (d + j)) g (t + (d + j) + 0)) (sym (single_repeated (first + j) (get_or ws (k + j) 0) single))
          ∙ pair-here items g offset t (d + j) (k + j) 0 (n - j) 1 there (omega (arith, h, row-held r ws k first n m row small)) (row_one r ws k first n m row small j h) 0 (omega arith)
          ∙ ap (template_pair (totals r ws) (template_of ws mi ma) items offset t g) (sym u)

    pub taken : (x : TemplatePart) → x ≡ part_at r ws (cursor k o) (count - d) → Taken offset d count k x
    unfolding part_at
    taken x = go (eqb (singles_at ws (cursor k o) (count - d)) 0) refl
      where
        go : (b : Bool) → eqb (singles_at ws (cursor k o) (count - d)) 0 ≡ b →
            x ≡ cond b (component_part r (get_or ws k 0) (cursor k o) (count - d)) (singles_part (repeated_of (get_or ws k 0)).first (cursor k o) (singles_at ws (cursor k o) (count - d))) → Taken offset d count k x
        go true z e = component-taken x e
        go false z e =
            let some = eqb-false (singles_at ws (cursor k o) (count - d)) 0 z in
            let start = single_start ws k o (count - d) (singles_at ws (cursor k o) (count - d)) refl some in
            singles-taken (singles_at ws (cursor k o) (count - d)) (repeated_of (get_or ws k 0)).first start.0 some start.1 x e

    pub taken-pair : (items : List ℕ) (g : Gutters) (t : ℕ) (x : TemplatePart) → x ≡ part_at r ws (cursor k o) (count - d) → (j : ℕ) → j < x.count →
        part_pair mi ma items x.repeated o (t + d) g (t + d + j) ≡ template_pair (totals r ws) (template_of ws mi ma) items offset t g (t + d + j)
    unfolding part_at
    taken-pair items g t x = go (eqb (singles_at ws (cursor k o) (count - d)) 0) refl
      where
        go : (b : Bool) → eqb (singles_at ws (cursor k o) (count - d)) 0 ≡ b →
            x ≡ cond b (component_part r (get_or ws k 0) (cursor k o) (count - d)) (singles_part (repeated_of (get_or ws k 0)).first (cursor k o) (singles_at ws (cursor k o) (count - d))) →
            (j : ℕ) → j < x.count → part_pair mi ma items x.repeated o (t + d) g (t + d + j) ≡ template_pair (totals r ws) (template_of ws mi ma) items offset t g (t + d + j)
        go true z e = component-pair items g t x e
        go false z e =
            let some = eqb-false (singles_at ws (cursor k o) (count - d)) 0 z in
            let start = single_start ws k o (count - d) (singles_at ws (cursor k o) (count - d)) refl some in
            singles-pair (singles_at ws (cursor k o) (count - d)) (repeated_of (get_or ws k 0)).first start.0 some start.1 items g t x e

-- the parts of an axis's words
pub part_few : (words : List ℕ) (o n : ℕ) → length (part_of words o n) ≤ n
part_few words o n = omega (arith, length-take n (drop o words))

module _ (s : AxisGrid) (words ws mi ma : List ℕ) (e : ws ≡ part_of words 0 s.template.components) (f : mi ≡ part_of words 64 s.template.tracks) (h : ma ≡ part_of words 2112 s.template.tracks) where
  pub in_parts : (items : List ℕ) (offset t n : ℕ) (g : Gutters) →
      joined (template_pair (totals s.size.repetitions ws) (template_of ws mi ma) items offset t g) t n
      ≡ joined (template_pair (word_totals s.size.repetitions (part_of words 0 s.template.components)) (template_in s words) items offset t g) t n
  in_parts items offset t n g =
      ap₂ (λ (x y : List ℕ). joined (template_pair (totals s.size.repetitions x) (template_of x y ma) items offset t g) t n) e f
      ∙ ap (λ (y : List ℕ). joined (template_pair (totals s.size.repetitions (part_of words 0 s.template.components)) (template_of (part_of words 0 s.template.components) (part_of words 64 s.template.tracks) y) items offset t g) t n) h
