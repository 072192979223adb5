-- The tests of the code are document 02's: a placement is in a list exactly as Req 01 words it. Assumes nothing.
use mathlib.Core.Path.{◌≡◌, refl, sym, ap, ◌∙◌}
use mathlib.Core.Bool.{Bool, true, false, cond, false≢true}
use Prim.Native.Nat.{ℕ, ◌+◌, ◌≤◌, ◌<◌}
use native.Mathlib.Omega.{arith}
use borrow.Author.Tests.{le-leb, lt-ltb, le-ltb, leb-true, ltb-true, ltb-false}
use lib.Dec.{leb, ltb}
use lib.IntN.{ℤ, pos, ◌+ℤ◌}
use Rattle.coordinates.specs.Lines.{uncut}
use Rattle.track_counts.specs.Counts.{tracks_of}
use Rattle.track_counts.specs.declared.counts.TrackCounts.{TrackCounts}
use Rattle.name_rules.specs.Css.{Resolved, free, at_line, spanning, ResolvedEnds}
use Rattle.name_rules.specs.CssOrder.{OrderedLines, in_order, swapped, one_track}
use Rattle.name_rules.proofs.CssOrder.{ordered_below}
use Rattle.placement_hits.specs.Hits.{AtPlace, OnGrid, LinesInside, LineBetween}
use Rattle.placement_hits.specs.Steps.{nowhere, places_at, place_in, place_of, ordered_places, both_places, end_place, occupied_of, within_places, around_place}
use Rattle.std.specs.Prelude.{Option, Some, None}
use Rattle.coordinates.specs.Types.{LinePair}
use Rattle.placement_hits.proofs.GridLines.{one_place, found-place, place_found, line-not-0, placed-not-0, places-ordered, lines-ordered, lines_same, next_place, between-place}
use Rattle.std.proofs.lemmas.Bool.{and_parts}

-- whether there are places, and which
is_there : Option LinePair → Bool
is_there None = false
is_there (Some p) = true

first_of : Option LinePair → ℕ
first_of None = 0
first_of (Some p) = p.start

last_of : Option LinePair → ℕ
last_of None = 0
last_of (Some p) = p.end

-- equal lines have one pair of places, and so on
ordered_up : (last s e : ℕ) → s < e → ordered_places last s e ≡ places_at s e
unfolding ordered_places
ordered_up last s e h = rw (lt-ltb s e h)

ordered_down : (last s e : ℕ) → e < s → ordered_places last s e ≡ places_at e s
unfolding ordered_places
ordered_down last s e h = rw (le-ltb s e (omega arith), lt-ltb e s h)

ordered_one : (last s : ℕ) → s < last → ordered_places last s s ≡ places_at s (s + 1)
unfolding ordered_places
ordered_one last s h = rw (le-ltb s s (omega arith), lt-ltb s last h)

module _ (c : TrackCounts) where
  -- ---- 8.3.1 on lines and on places

  pub lines-places : {s e low high : ℤ} (first last : ℕ) → OrderedLines s e low high → AtPlace c low first → AtPlace c high last
      → both_places (tracks_of c) (place_in c s) (place_in c e) ≡ places_at first last
  lines-places {s} {e} first last (in_order h) p q =
      rw (place_found c s first p, place_found c e last q) (ordered_up (tracks_of c) first last (places-ordered c s e first last p q h))
  lines-places {s} {e} first last (swapped h) p q =
      rw (place_found c e first p, place_found c s last q) (ordered_down (tracks_of c) last first (places-ordered c e s first last p q h))
  lines-places {s} {e} first last (one_track h) p q =
      let l : first < last = places-ordered c s (s +ℤ pos 1) first last p q (ordered_below (one_track h)) in
      let o : last ≤ tracks_of c = q.on in
      let n : last ≡ first + 1 = one_place c q (next_place c s first p (omega arith)) in
      rw (← h, place_found c s first p, n) (ordered_one (tracks_of c) first (omega arith))

  -- what a pair of places comes from
  abbrev FromLines : ℤ → ℤ → ℕ → ℕ → Type 0
  FromLines s e first last = (low : ℤ) × (high : ℤ) × OrderedLines s e low high × AtPlace c low first × AtPlace c high last

  ordered_lines : (s e : ℤ) (j k first last : ℕ) → AtPlace c s j → AtPlace c e k → (a b d : Bool) → ltb j k ≡ a → ltb k j ≡ b → ltb j (tracks_of c) ≡ d
      → cond a (places_at j k) (cond b (places_at k j) (cond d (places_at j (j + 1)) nowhere)) ≡ places_at first last → FromLines s e first last
  unfolding is_there first_of last_of
  ordered_lines s e j k first last p q true b d x y z r =
      let f : j ≡ first = ap first_of r in let l : k ≡ last = ap last_of r in (s, e, in_order (lines-ordered c s e j k p q (ltb-true j k x)), rw f at p, rw l at q)
  ordered_lines s e j k first last p q false true d x y z r =
      let f : k ≡ first = ap first_of r in let l : j ≡ last = ap last_of r in (e, s, swapped (lines-ordered c e s k j q p (ltb-true k j y)), rw f at q, rw l at p)
  ordered_lines s e j k first last p q false false true x y z r =
      let f : j ≡ first = ap first_of r in let l : j + 1 ≡ last = ap last_of r in
      let n : k ≡ j = omega (arith, ltb-false j k x, ltb-false k j y) in
      (s, s +ℤ pos 1, one_track (lines_same c s e j p (rw n at q)), rw f at p, rw l at (next_place c s j p (ltb-true j (tracks_of c) z)))
  ordered_lines s e j k first last p q false false false x y z r = absurd (false≢true (ap is_there r))

  pub places-lines : (s e : ℤ) (first last : ℕ) → both_places (tracks_of c) (place_in c s) (place_in c e) ≡ places_at first last → FromLines s e first last
  unfolding ordered_places is_there
  places-lines s e first last r = go (place_in c s) (place_in c e) refl refl r
    where
      go : (x y : Option ℕ) → place_in c s ≡ x → place_in c e ≡ y → both_places (tracks_of c) x y ≡ places_at first last → FromLines s e first last
      go None y p q r = absurd (false≢true (ap is_there r))
      go (Some j) None p q r = absurd (false≢true (ap is_there r))
      go (Some j) (Some k) p q r =
          ordered_lines s e j k first last (found-place c s j p) (found-place c e k q) (ltb j k) (ltb k j) (ltb j (tracks_of c)) refl refl refl r

  -- ---- a placement

  -- an end with a place is a line
  line-end : (x : Resolved) (k : ℕ) → end_place c x ≡ Some k → (g : ℤ) × (x ≡ at_line g) × (place_of c g ≡ Some k)
  line-end free k e = absurd (let n : ◌≡◌ {A = ℕ} 0 1 = cc in omega arith)
  line-end (at_line g) k e = (g, refl, e)
  line-end (spanning n) k e = absurd (let n : ◌≡◌ {A = ℕ} 0 1 = cc in omega arith)

  -- what is on the grid is found there
  pub on-grid-found : (r : ResolvedEnds) (o : OnGrid c r) → occupied_of c r ≡ places_at o.first o.last
  unfolding occupied_of
  on-grid-found r o =
      let own = o.own in
      rw (own.first, own.last, line-not-0 c own.start own.start_not_0, line-not-0 c own.end own.end_not_0)
      (lines-places o.first o.last own.ordered o.at_low o.at_high)

  -- and what is found there is on it, at the places found
  pub found-on-grid : (r : ResolvedEnds) (first last : ℕ) → occupied_of c r ≡ places_at first last → (o : OnGrid c r) × (o.first ≡ first) × (o.last ≡ last)
  unfolding occupied_of is_there
  found-on-grid r first last q = go (end_place c r.first) (end_place c r.last) refl refl q
    where
      go : (x y : Option ℕ) → end_place c r.first ≡ x → end_place c r.last ≡ y → both_places (tracks_of c) x y ≡ places_at first last
          → (o : OnGrid c r) × (o.first ≡ first) × (o.last ≡ last)
      go None y d e q = absurd (false≢true (ap is_there q))
      go (Some j) None d e q = absurd (false≢true (ap is_there q))
      go (Some j) (Some k) d e q =
          let s = line-end r.first j d in
          let f = line-end r.last k e in
          let n = placed-not-0 c s.0 j s.2 in
          let m = placed-not-0 c f.0 k f.2 in
          let a : place_in c (uncut c.explicit s.0) ≡ Some j = sym (line-not-0 c s.0 n) ∙ s.2 in
          let b : place_in c (uncut c.explicit f.0) ≡ Some k = sym (line-not-0 c f.0 m) ∙ f.2 in
          let l = places-lines (uncut c.explicit s.0) (uncut c.explicit f.0) first last (rw (a, b) q) in (
            record {
              low = l.0;
              high = l.1;
              own = record { start = s.0; end = f.0; first = s.1; last = f.1; start_not_0 = n; end_not_0 = m; ordered = l.2 };
              first = first;
              last = last;
              at_low = l.3;
              at_high = l.4;
            },
            refl,
            refl,
          )

  -- the first own line lies before the last
  pub own-ordered : (r : ResolvedEnds) (o : OnGrid c r) → o.first < o.last
  own-ordered r o = places-ordered c o.low o.high o.first o.last o.at_low o.at_high (ordered_below o.own.ordered)

  -- ---- within a span: the lines inside it are those from place `below` on and before place `upto`

  module _ (Inside : ℕ → Type 0) (below upto : ℕ) (r : ResolvedEnds) where
    pub within-inside : ((k : ℕ) → k ≤ tracks_of c → below ≤ k → k < upto → Inside k) → within_places below upto (occupied_of c r) ≡ true → LinesInside c Inside r
    within-inside to t = go (occupied_of c r) refl t
      where
        go : (x : Option LinePair) → occupied_of c r ≡ x → within_places below upto x ≡ true → LinesInside c Inside r
        go None q t = absurd (false≢true t)
        go (Some p) q t =
            let h = and_parts (leb below p.start) (ltb p.end upto) t in
            let f = found-on-grid r p.start p.end q in
            let o = f.0 in
            let a : below ≤ o.first = rw f.1 (leb-true below p.start h.0) in
            let b : o.last < upto = rw f.2 (ltb-true p.end upto h.1) in
            let l : o.first < o.last = own-ordered r o in
            record {
              on = o;
              low = to o.first o.at_low.on a (omega arith);
              high = to o.last o.at_high.on (omega arith) b;
            }

    pub inside-within : ((k : ℕ) → k ≤ tracks_of c → Inside k → (below ≤ k) × (k < upto)) → LinesInside c Inside r → within_places below upto (occupied_of c r) ≡ true
    inside-within from i =
        let o = i.on in
        let a : below ≤ o.first = (from o.first o.at_low.on i.low).0 in
        let b : o.last < upto = (from o.last o.at_high.on i.high).1 in
        rw (on-grid-found r o, le-leb below o.first a, lt-ltb o.last upto b)

  -- ---- around a line

  module _ (line : ℤ) (not-0 : line ≡ pos 0 → ⊥) (r : ResolvedEnds) where
    pub around-between : around_place (place_of c line) (occupied_of c r) ≡ true → LineBetween c line r
    around-between t = go (place_of c line) (occupied_of c r) refl refl t
      where
        go : (x : Option ℕ) (y : Option LinePair) → place_of c line ≡ x → occupied_of c r ≡ y → around_place x y ≡ true → LineBetween c line r
        go None y e d t = absurd (false≢true t)
        go (Some k) None e d t = absurd (false≢true t)
        go (Some k) (Some p) e d t =
            let h = and_parts (ltb p.start k) (ltb k p.end) t in
            let f = found-on-grid r p.start p.end d in
            let o = f.0 in
            let q : AtPlace c (uncut c.explicit line) k = found-place c (uncut c.explicit line) k (sym (line-not-0 c line not-0) ∙ e) in
            let a : o.first < k = rw f.1 (ltb-true p.start k h.0) in
            let b : k < o.last = rw f.2 (ltb-true k p.end h.1) in
            record {
              on = o;
              after = lines-ordered c o.low (uncut c.explicit line) o.first k o.at_low q a;
              before = lines-ordered c (uncut c.explicit line) o.high k o.last q o.at_high b;
            }

    pub between-around : LineBetween c line r → around_place (place_of c line) (occupied_of c r) ≡ true
    between-around i =
        let o = i.on in
        let l = uncut c.explicit line in
        let g = between-place c o.low l o.high o.first o.last o.at_low o.at_high i.after i.before in
        let e : place_of c line ≡ Some g.0 = line-not-0 c line not-0 ∙ place_found c l g.0 g.1 in
        let a : o.first < g.0 = places-ordered c o.low l o.first g.0 o.at_low g.1 i.after in
        let b : g.0 < o.last = places-ordered c l o.high g.0 o.last g.1 o.at_high i.before in
        rw (e, on-grid-found r o, lt-ltb o.first g.0 a, lt-ltb g.0 o.last b)
