-- The rule of the implementation counts as CSS does.
-- Assumes nothing.
use mathlib.Core.Path.{◌≡◌, refl, sym, ◌∙◌, ap}
use mathlib.Core.Logic.{inl, inr, ⊎_elim}
use mathlib.Core.Bool.{Bool}
use Prim.Native.Nat.{ℕ, zero, suc, ◌+◌, ◌-◌, ◌≤◌, ◌<◌, min}
use native.Mathlib.Nat.{le_refl, zero-add}
use native.Mathlib.Numerals.{one-add}
use native.Mathlib.Omega.{arith}
use lib.Dec.{T}
use lib.IntN.{ℤ, pos, negsuc, ◌+ℤ◌, ◌-ℤ◌, sub_ℕ}
use Rattle.coordinates.specs.Lines.{Within}
use Rattle.coordinates.proofs.Integers.{sub_le, sub_lt, minus_at, minus_past}
use Rattle.coordinates.proofs.Lines.{lt_or_ge}
use Rattle.name_rules.specs.Css.{AxisNames, Bytes, Named, endward, startward, Counts, Nth, CountsTo}
use Rattle.name_rules.specs.Rule.{Seek, at, left, seek, settle, top, up_from, forwards, backwards, line_of}
use Rattle.name_rules.proofs.Counting.{nth_same, seek-nth, within, nth-lift, nth-lower, nth_from, nth_reached, nth_all, seek-below}

-- differences of two naturals
minus_le : (a k : ℕ) → k ≤ a → pos a -ℤ pos k ≡ pos (a - k)
minus_le a k h = sym (minus_at a k h)

minus_lt : (a k : ℕ) → a < k → pos a -ℤ pos k ≡ negsuc (k - suc a)
minus_lt a k h = sym (minus_past a k h) ∙ ap negsuc (omega arith)

-- a − (a − l + d) is l − d
shifted : (a l d : ℕ) → l ≤ a → pos a -ℤ pos (a - l + d) ≡ pos l -ℤ pos d
shifted a l d h =
    ⊎_elim
    (λ (g : l < d). minus_lt a (a - l + d) (omega arith) ∙ ap negsuc (omega arith) ∙ sym (minus_lt l d g))
    (λ (g : d ≤ l). minus_le a (a - l + d) (omega arith) ∙ ap pos (omega arith) ∙ sym (minus_le l d g))
    (lt_or_ge l d)

line_of_lem : (e : ℕ) (p : ℕ → Bool) (l : ℕ) (sk : Seek) → ((d : ℕ) → sk ≡ at d → d ≤ l) → pos l -ℤ pos (settle (suc l) sk) ≡ line_of e p l sk
line_of_lem e p l (at d) b = minus_le l d (b d refl)
line_of_lem e p l (left r) b = minus_lt l (suc l + r) (omega arith) ∙ ap negsuc (omega arith)

-- p marks the explicit lines that have the name, and no others
pub record Marked (x : AxisNames) (nm : Bytes) (p : ℕ → Bool) : Type 0 where
  pub to : (k : ℕ) → T (p k) → (k ≤ x.explicit) × Named x nm (suc k)
  pub back : (k : ℕ) → k ≤ x.explicit → Named x nm (suc k) → T (p k)

module _ (x : AxisNames) (nm : Bytes) (p : ℕ → Bool) (marked : Marked x nm p) (small : x.explicit ≤ 10000) where
  -- lines from f on, endward
  up : (f m : ℕ) → f ≤ top → Nth (λ l. Counts x nm endward (pos l)) f (suc m) (up_from x.explicit p f m)
  up f m h =
      seek-nth (λ l. Counts x nm endward (pos l)) p (suc x.explicit) top
      (λ k h t. inl (marked.to k t))
      (λ k h c. ⊎_elim (λ w. marked.back k w.0 w.1) (λ w. absurd (omega arith)) c)
      (λ k h. inr h)
      (λ k h b t. omega (arith, (marked.to k t).0))
      (top - f) f m (omega arith) (omega arith)

  pub forwards-index : (m : ℕ) → CountsTo x nm endward (pos 0) 0 (suc m) (forwards x.explicit p (pos 0) m)
  forwards-index m =
      record {
        distance = up_from x.explicit p 0 m;
        there = ap pos (zero-add _);
        nth = nth_same (λ l. Counts x nm endward (pos l)) (λ k. Counts x nm endward (pos (0 + k)))
            (λ k c. rw zero-add c) (λ k c. rw zero-add at c) (suc m) 0 (up_from x.explicit p 0 m) (up 0 m (omega arith));
      }

  -- lines before l, startward
  down : (l m : ℕ) → l ≤ x.explicit
      → Nth (λ d. Counts x nm startward (pos l -ℤ pos d)) 0 (suc m) (settle (suc l) (seek (λ d. p (l - d)) (suc l) 0 m))
  down l m h =
      within (λ d. Counts x nm startward (pos l -ℤ pos d)) (λ d. p (l - d)) (suc l) (suc l)
      (λ k g t. rw (minus_le l k (omega arith)) (marked.to (l - k) t))
      (λ k g c. let q : Counts x nm startward (pos (l - k)) = rw (minus_le l k (omega arith)) at c in marked.back (l - k) q.0 q.1)
      (λ k g. rw (minus_lt l k g) tt)
      (λ k g b t. omega arith)
      (suc l) 0 m (omega arith) (omega arith) (omega arith)

  line-down : (l m : ℕ)
      → pos l -ℤ pos (settle (suc l) (seek (λ d. p (l - d)) (suc l) 0 m)) ≡ line_of x.explicit p l (seek (λ d. p (l - d)) (suc l) 0 m)
  line-down l m = line_of_lem x.explicit p l (seek (λ d. p (l - d)) (suc l) 0 m) (λ d e. omega (arith, seek-below (λ d. p (l - d)) (suc l) 0 m d e))

  pub backwards-index : (m : ℕ) → CountsTo x nm startward (pos x.explicit) 0 (suc m) (backwards x.explicit p (pos x.explicit) m)
  backwards-index m =
      let same : min x.explicit x.explicit ≡ x.explicit = omega arith in
      rw same
      (record {
        distance = settle (suc x.explicit) (seek (λ d. p (x.explicit - d)) (suc x.explicit) 0 m);
        there = line-down x.explicit m;
        nth = down x.explicit m (le_refl _);
      })

  -- spans: the line next to s is at distance 1
  pub forwards-span : (s : ℤ) (m : ℕ) → Within s → CountsTo x nm endward s 1 (suc m) (forwards x.explicit p (s +ℤ pos 1) m)
  forwards-span (pos a) m h =
      let u : Nth (λ l. Counts x nm endward (pos l)) (a + 1) (suc m) (up_from x.explicit p (a + 1) m) = up (a + 1) m (omega arith) in
      let r : a + 1 ≤ up_from x.explicit p (a + 1) m = nth_reached (λ l. Counts x nm endward (pos l)) (suc m) (a + 1) (up_from x.explicit p (a + 1) m) u in
      record {
        distance = up_from x.explicit p (a + 1) m - a;
        there = ap pos (omega arith);
        nth = nth-lower (λ k. Counts x nm endward (pos (a + k))) (λ l. Counts x nm endward (pos l)) a (λ k c. c) (λ k c. c) (suc m) 1 _ u;
      }
  forwards-span (negsuc q) m h =
      rw (first-line q)
      (record {
        distance = suc q + up_from x.explicit p 0 m;
        there = sub_le (suc q + up_from x.explicit p 0 m) (suc q) (omega arith) ∙ ap pos (omega arith);
        nth = nth_from (λ k. Counts x nm endward (sub_ℕ k (suc q))) (suc m) q 1 _ (λ k g b c. rw (sub_lt k (suc q) (omega arith)) at c)
            (rw (start q) (nth-lift (λ l. Counts x nm endward (pos l)) (λ k. Counts x nm endward (sub_ℕ k (suc q))) (suc q)
            (λ k c. rw (moved q k) c) (λ k c. rw (moved q k) at c) (suc m) 0 _ (up 0 m (omega arith))));
      })
    where
      first-line : (q : ℕ) → forwards x.explicit p (negsuc q +ℤ pos 1) m ≡ pos (up_from x.explicit p 0 m)
      first-line zero = refl
      first-line (suc q) = rw (sub_lt 1 (suc (suc q)) (omega arith))

      moved : (q k : ℕ) → sub_ℕ (suc q + k) (suc q) ≡ pos k
      moved q k = sub_le (suc q + k) (suc q) (omega arith) ∙ ap pos (omega arith)

      start : (q : ℕ) → 1 + q ≡ suc q + 0
      start q = omega arith

  pub backwards-span : (s : ℤ) (m : ℕ) → CountsTo x nm startward s 1 (suc m) (backwards x.explicit p (s -ℤ pos 1) m)
  backwards-span (pos zero) m =
      record {
        distance = 1 + m;
        there = minus_lt 0 (1 + m) (omega arith) ∙ ap negsuc (omega arith);
        nth = nth_all (λ k. Counts x nm startward (pos 0 -ℤ pos k)) 1 m (λ k h. rw (minus_lt 0 k h) tt);
      }
  backwards-span (pos (suc b)) m =
      let e : pos (suc b) -ℤ pos 1 ≡ pos b = minus_le (suc b) 1 (omega arith) ∙ ap pos (omega arith) in
      rw e (from-line (min b x.explicit) (omega arith) (omega arith) (λ k h. omega arith))
    where
      from-line : (l : ℕ) → l ≤ b → l ≤ x.explicit → ((k : ℕ) → l < k → k ≤ b → x.explicit < k)
          → CountsTo x nm startward (pos (suc b)) 1 (suc m) (line_of x.explicit p l (seek (λ d. p (l - d)) (suc l) 0 m))
      from-line l h g above =
          let e : 1 + (b - l) ≡ suc b - l + 0 = omega arith in
          record {
            distance = suc b - l + settle (suc l) (seek (λ d. p (l - d)) (suc l) 0 m);
            there = shifted (suc b) l _ (omega arith) ∙ line-down l m;
            nth = nth_from (λ k. Counts x nm startward (pos (suc b) -ℤ pos k)) (suc m) (b - l) 1 _
                (λ k u v c. let w : Counts x nm startward (pos (suc b - k)) = rw (minus_le (suc b) k (omega arith)) at c in
                let r : x.explicit < suc b - k = above (suc b - k) (omega arith) (omega arith) in
                omega (arith, w.0))
                (rw e (nth-lift (λ d. Counts x nm startward (pos l -ℤ pos d)) (λ k. Counts x nm startward (pos (suc b) -ℤ pos k)) (suc b - l)
                (λ k c. rw (shifted (suc b) l k (omega arith)) c) (λ k c. rw (shifted (suc b) l k (omega arith)) at c)
                (suc m) 0 (settle (suc l) (seek (λ d. p (l - d)) (suc l) 0 m)) (down l m g)));
          }
  backwards-span (negsuc q) m =
      record {
        distance = 1 + m;
        there = rw one-add (ap negsuc (omega arith));
        nth = nth_all (λ k. Counts x nm startward (negsuc q -ℤ pos k)) 1 m (λ k h. implicit k h);
      }
    where
      implicit : (k : ℕ) → 1 ≤ k → Counts x nm startward (negsuc q -ℤ pos k)
      implicit zero h = absurd (omega arith)
      implicit (suc k) h = tt
