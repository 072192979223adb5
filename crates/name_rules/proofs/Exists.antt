-- CSS has an answer for every placement that writes no line 0, whatever lines the names are on. Assumes nothing.
use mathlib.Core.Path.{◌≡◌, refl}
use mathlib.Core.Logic.{◌⊎◌, inl, inr, ⊎_elim}
use mathlib.Core.Bool.{Bool, ◌&&◌}
use mathlib.Core.List.Memᴰ
use mathlib.Core.List.{List, [], ◌∷◌, ◌++◌, Memᴰ}
use Prim.Native.Nat.{ℕ, zero, suc, pred, ◌≤◌, ◌<◌, max}
use native.Mathlib.Omega.{arith}
use lib.Dec.{T, leb, leb→le, le→leb}
use lib.IntN.{ℤ, pos, negsuc}
use Rattle.coordinates.specs.Lines.{held, to_origin_zero, Within}
use Rattle.coordinates.proofs.Lines.{origin_zero_within}
use Rattle.name_rules.specs.Css.{Entry, Area, Side, start, end, suffix, AxisNames, Bytes, Named, written, drawn, CssFound, CssLine}
use Rattle.name_rules.specs.Css.{edged, bare, index, back, CssSpan, Placement, auto, line, named, span, nspan, other, way}
use Rattle.name_rules.specs.Css.{HasLine, by_name, NoLine, Resolved, free, at_line, spanning, ResolvedEnds, ResolvesTo, left_auto}
use Rattle.name_rules.specs.Css.{left_line, left_span, to_line, to_span, to_one, CssEnds}
use Rattle.name_rules.specs.Css as Css
use Rattle.name_rules.specs.Conditions.{NoZero}
use Rattle.name_rules.specs.Rule.{Seek, at, left, seek, named?}
use Rattle.name_rules.proofs.Counting.{nearest_same, seek_first, seek-none}
use Rattle.name_rules.proofs.Lines.{Marked, forwards-index, forwards-span, backwards-index, backwards-span}
use Rattle.name_rules.proofs.Names.{both, and_T, named→, →named}
use Rattle.name_rules.proofs.Resolve.{held-line}
use Rattle.name_rules.proofs.Unique.{ends_unique}

-- the largest of a list's numbers
module _ {A : Type 0} where
  abbrev most : (A → ℕ) → List A → ℕ
  most f [] = 0
  most f (a ∷ l) = max (f a) (most f l)

  below-most : (f : A → ℕ) (a : A) (l : List A) → Memᴰ a l → f a ≤ most f l
  below-most f a [] m = absurd (Memᴰ.not-nil m)
  below-most f a (b ∷ l) m =
      ⊎_elim (λ (e : a ≡ b). rw e (omega arith)) (λ h. omega (arith, below-most f a l h)) (Memᴰ.cases_cons m)

module _ (x : AxisNames) where
  -- no line past this one has a name
  abbrev farthest : ℕ
  farthest = max (most (λ (e : Entry). e.line) x.book) (max (most (λ (a : Area). a.from) x.areas) (most (λ (a : Area). a.to) x.areas))

  below-farthest : (nm : Bytes) (k : ℕ) → Named x nm (suc k) → k < farthest
  below-farthest nm k (written e m l n) = omega (arith, below-most (λ (e : Entry). e.line) e x.book m)
  below-farthest nm k (drawn a start m l n) = omega (arith, below-most (λ (a : Area). a.from) a x.areas m)
  below-farthest nm k (drawn a end m l n) = omega (arith, below-most (λ (a : Area). a.to) a x.areas m)

  -- the explicit lines that have a name
  abbrev explicit? : Bytes → ℕ → Bool
  explicit? nm k = leb k x.explicit && named? x nm (suc k)

  marked : (nm : Bytes) → Marked x nm (explicit? nm)
  marked nm =
      record {
        to = λ k t. let w : T (leb k x.explicit) × T (named? x nm (suc k)) = both (leb k x.explicit) (named? x nm (suc k)) t in
            (leb→le k x.explicit w.0, named→ x nm (suc k) w.1);
        back = λ k h n. and_T (leb k x.explicit) (named? x nm (suc k)) (le→leb k x.explicit h) (→named x nm (suc k) n);
      }

module _ (x : AxisNames) (small : x.explicit ≤ 10000) where
  found-exists : (nm : Bytes) (s : Side) (i : ℤ) → (l : ℤ) × CssFound x nm s i l
  found-exists nm s (pos zero) = go (seek (λ k. named? x (nm ++ suffix s) (suc k)) (farthest x) 0 0) refl
    where
      go : (r : Seek) → seek (λ k. named? x (nm ++ suffix s) (suc k)) (farthest x) 0 0 ≡ r → (l : ℤ) × CssFound x nm s (pos zero) l
      go (at l) e = (
        pos l,
        edged l (nearest_same (λ k. T (named? x (nm ++ suffix s) (suc k))) (λ k. Named x (nm ++ suffix s) (suc k))
            (λ k. named→ x (nm ++ suffix s) (suc k)) (λ k. →named x (nm ++ suffix s) (suc k)) 0 l
            (seek_first (λ k. named? x (nm ++ suffix s) (suc k)) (farthest x) 0 l e)),
      )
      go (left r) e = (
        _,
        bare _ (λ k n. seek-none (λ k. named? x (nm ++ suffix s) (suc k)) (farthest x) 0 r e k (omega arith)
            (omega (arith, below-farthest x (nm ++ suffix s) k n)) (→named x (nm ++ suffix s) (suc k) n))
            (forwards-index x nm (explicit? x nm) (marked x nm) small 0),
      )
  found-exists nm s (pos (suc i)) = (_, index i _ (forwards-index x nm (explicit? x nm) (marked x nm) small i))
  found-exists nm s (negsuc i) = (_, back i _ (backwards-index x nm (explicit? x nm) (marked x nm) small i))

  line-exists : (nm : Bytes) (s : Side) (i : ℤ) → (l : ℤ) × CssLine x nm s i l
  line-exists nm s i = let (l, f) = found-exists nm s i in (held l, record { line = l; found = f; limited = refl })

  span-exists : (s : Side) (nm : Bytes) (o : ℤ) (n : ℕ) → Within o → (h : ℤ) × CssSpan x nm (way s) o n h
  span-exists start nm o n h = (_, record { line = _; counted = backwards-span x nm (explicit? x nm) (marked x nm) small o (pred n); limited = refl })
  span-exists end nm o n h = (_, record { line = _; counted = forwards-span x nm (explicit? x nm) (marked x nm) small o (pred n) h; limited = refl })

  -- an end is on a line or on none
  line-or-none : (s : Side) (p : Placement) → NoZero p → NoLine p ⊎ ((o : ℤ) × Within o × HasLine x s p o)
  line-or-none s auto z = inl tt
  line-or-none s (line g) z = inr (to_origin_zero x.explicit g, origin_zero_within x.explicit g, Css.numbered g z)
  line-or-none s (named nm i) z = let (l, c) = line-exists nm s i in inr (l, held-line c, by_name nm i l c)
  line-or-none s (span n) z = inl tt
  line-or-none s (nspan nm n) z = inl tt

  end-exists : (s : Side) (b p : Placement) → NoZero b → (r : Resolved) × ResolvesTo x s b p r
  end-exists s b auto z = (free, left_auto)
  end-exists s b (line g) z = (at_line g, left_line g)
  end-exists s b (named nm i) z = let (l, c) = line-exists nm s i in (_, to_line nm i l c)
  end-exists s b (span n) z = (spanning n, left_span n)
  end-exists s b (nspan nm n) z =
      ⊎_elim (λ none. (spanning 1, to_one nm n none))
      (λ (o, w, has). let (h, c) = span-exists s nm o n w in (_, to_span nm n o h has c))
      (line-or-none (other s) b z)

  -- exactly one answer
  pub css-one : (p q : Placement) → NoZero p → NoZero q → (r : ResolvedEnds) × CssEnds x p q r × ((t : ResolvedEnds) → CssEnds x p q t → t ≡ r)
  css-one p q zp zq =
      let (f, a) = end-exists start q p zq in
      let (l, b) = end-exists end p q zp in
      let r : ResolvedEnds = record { first = f; last = l } in
      let c : CssEnds x p q r = record { first = a; last = b } in
      (r, c, λ t d. ends_unique x p q t r d c)
