-- How little one more name moves: the n-th number of a set, and of one with a number more. Assumes nothing.
use mathlib.Core.Path.{◌≡◌, refl, sym, ◌∙◌, ap, fun_ext}
use mathlib.Core.Logic.{◌⊎◌, inl, inr, ⊎_elim}
use mathlib.Core.Bool.{Bool}
use mathlib.Core.List.Memᴰ
use mathlib.Core.List.{[], ◌∷◌, ◌++◌, Memᴰ}
use Prim.Native.Nat.{ℕ, zero, suc, ◌+◌, ◌-◌, ◌≤◌, ◌<◌}
use native.Mathlib.Nat.{le_refl}
use native.Mathlib.Omega.{arith}
use lib.Dec.{T, le→leb}
use lib.IntN.{ℤ, pos, negsuc, ◌-ℤ◌}
use lib.Signed.{◌≤ℤ◌}
use Rattle.coordinates.specs.Lines.{held}
use Rattle.coordinates.proofs.Integers.{minus_at, minus_past}
use Rattle.coordinates.proofs.Lines.{lt_or_ge, held_ordered}
use Rattle.name_rules.specs.Css.{Bytes, Entry, Side, start, end, suffix, AxisNames, Named, written, drawn, Way, endward, startward, along, Counts, Nearest, Nth, CountsTo}
use Rattle.name_rules.specs.Css.{Placement}
use Rattle.name_rules.specs.Conditions.{used_names, NameLies, Agree, AgreeOn}
use Rattle.name_rules.specs.OneMore.{OneMoreEntry, line_of_index, HasEdge, MovesLittle}
use Rattle.name_rules.specs.Rule.{Seek, at, left, seek, top, forwards, backwards, named?, marks, or_first, resolve, held_ends}
use Rattle.name_rules.proofs.Counting.{seek_first, seek-none, seek-below}
use Rattle.name_rules.proofs.Lines.{forwards-index, backwards-index}
use Rattle.name_rules.proofs.Names.{named→, →named}
use Rattle.name_rules.proofs.Order.{same_lines, resolve-agrees-on, held-agrees-on}
use Rattle.name_rules.proofs.Resolve.{all-marked}

-- where B lies in C from f on, the first of C from an earlier number on comes no later than that of B, and so does the n-th
nearest_fewer : (B C : ℕ → Type 0) (f g l m : ℕ) → ((k : ℕ) → f ≤ k → B k → C k) → g ≤ f → Nearest B f l → Nearest C g m → m ≤ l
nearest_fewer B C f g l m sub h p q =
    ⊎_elim (λ (a : l < m). absurd (q.none l (omega (arith, p.reached)) a (sub l p.reached p.holds))) (λ (a : m ≤ l). a) (lt_or_ge l m)

pub nth_fewer : (B C : ℕ → Type 0) (n f g l m : ℕ) → ((k : ℕ) → f ≤ k → B k → C k) → g ≤ f → Nth B f n l → Nth C g n m → m ≤ l
nth_fewer B C zero f g l m sub h p q = absurd p
nth_fewer B C (suc zero) f g l m sub h p q = nearest_fewer B C f g l m sub h p q
nth_fewer B C (suc (suc n)) f g l m sub h (a, pa, p) (b, qb, q) =
    let le : b ≤ a = nearest_fewer B C f g a b sub h pa qb in
    nth_fewer B C (suc n) (suc a) (suc b) l m (λ k j c. sub k (omega (arith, pa.reached)) c) (omega arith) p q

-- where C is B and at most one number more, the n-th of B comes no later than the (n + 1)-th of C
module _ (B C Z : ℕ → Type 0) (sub : (k : ℕ) → B k → C k) (only : (k : ℕ) → C k → B k ⊎ Z k) (one : (j k : ℕ) → Z j → Z k → j ≡ k) where
  -- from where the one more was passed over, both are the same
  passed : (n f l a m : ℕ) → f ≤ suc a → Z a → Nth B f n l → Nth C (suc a) n m → l ≤ m
  passed n f l a m h z p q =
      nth_fewer C B n (suc a) f m l
      (λ k j c. ⊎_elim (λ (b : B k). b) (λ (w : Z k). absurd (let e : k ≡ a = one k a w z in omega arith)) (only k c)) h q p

  pub nth-one-more : (n f l m : ℕ) → Nth B f n l → Nth C f (suc n) m → l ≤ m
  nth-one-more zero f l m p q = absurd p
  nth-one-more (suc zero) f l m p (b, qb, q) =
      ⊎_elim
      (λ (h : B b). ⊎_elim (λ (a : b < l). absurd (p.none b qb.reached a h)) (λ (a : l ≤ b). omega (arith, q.reached)) (lt_or_ge b l))
      (λ (z : Z b). passed 1 f l b m (omega (arith, qb.reached)) z p q)
      (only b qb.holds)
  nth-one-more (suc (suc n)) f l m (a, pa, p) (b, qb, q) =
      ⊎_elim
      (λ (h : B b).
      let up : a ≤ b = ⊎_elim (λ (g : b < a). absurd (pa.none b qb.reached g h)) (λ (g : a ≤ b). g) (lt_or_ge b a) in
      let down : b ≤ a = nearest_fewer B C f f a b (λ k j c. sub k c) (le_refl f) pa qb in
      let same : b ≡ a = omega arith in
      nth-one-more (suc n) (suc a) l m p (rw same at q))
      (λ (z : Z b). passed (suc (suc n)) f l b m (omega (arith, qb.reached)) z (a, pa, p) q)
      (only b qb.holds)

-- ---- the lines of an axis

-- one line after the other on the way w
abbrev pub Ordered : Way → ℤ → ℤ → Type 0
Ordered endward a b = a ≤ℤ b
Ordered startward a b = b ≤ℤ a

at_or_past : (a k : ℕ) → ((k ≤ a) × (pos a -ℤ pos k ≡ pos (a - k))) ⊎ ((a < k) × (pos a -ℤ pos k ≡ negsuc (k - suc a)))
at_or_past a k =
    ⊎_elim (λ (h : a < k). inr (h, sym (minus_past a k h) ∙ ap negsuc (omega arith))) (λ (h : k ≤ a). inl (h, sym (minus_at a k h))) (lt_or_ge a k)

-- a line further along lies further
along_ordered : (w : Way) (a j k : ℕ) → j ≤ k → Ordered w (along w (pos a) j) (along w (pos a) k)
along_ordered endward a j k h = record { le = le→leb (a + j) (a + k) (omega arith) }
along_ordered startward a j k h =
    ⊎_elim
    (λ u. ⊎_elim
    (λ v. rw (u.1, v.1) (record { le = le→leb (a - k) (a - j) (omega arith) }))
    (λ v. absurd (omega (arith, u.0, v.0))) (at_or_past a j))
    (λ u. ⊎_elim
    (λ v. rw (u.1, v.1) (record { le = tt }))
    (λ v. rw (u.1, v.1) (record { le = le→leb (j - suc a) (k - suc a) (omega arith) })) (at_or_past a j))
    (at_or_past a k)

-- and two lines at two distances differ
along_one : (w : Way) (a j k : ℕ) → along w (pos a) j ≡ along w (pos a) k → j ≡ k
along_one endward a j k e = let z : a + j ≡ a + k = cc in omega arith
along_one startward a j k e =
    ⊎_elim
    (λ u. ⊎_elim
    (λ v. let z : a - j ≡ a - k = cc (u.1, v.1) in omega (arith, u.0, v.0))
    (λ v. absurd (let z : ◌≡◌ {A = ℕ} 0 1 = cc (u.1, v.1) in omega arith)) (at_or_past a j))
    (λ u. ⊎_elim
    (λ v. absurd (let z : ◌≡◌ {A = ℕ} 0 1 = cc (u.1, v.1) in omega arith))
    (λ v. let z : j - suc a ≡ k - suc a = cc (u.1, v.1) in omega (arith, u.0, v.0)) (at_or_past a j))
    (at_or_past a k)

-- a name is never that of its area's edge, and the edges have two names
suffix-longer : (nm : Bytes) (s : Side) → nm ≡ nm ++ suffix s → ⊥
suffix-longer [] start h = let z : ◌≡◌ {A = ℕ} 0 1 = cc in omega arith
suffix-longer [] end h = let z : ◌≡◌ {A = ℕ} 0 1 = cc in omega arith
suffix-longer (b ∷ nm) s h = suffix-longer nm s cc

edges_differ : (nm : Bytes) → nm ++ suffix start ≡ nm ++ suffix end → ⊥
edges_differ [] h = let z : ◌≡◌ {A = ℕ} 115 101 = cc in omega arith
edges_differ (b ∷ nm) h = edges_differ nm cc

module _ (x y : AxisNames) (e : Entry) (more : OneMoreEntry x y e) where
  -- a name of a line stays, and a new one is the entry's
  more-named : (nm : Bytes) (k : ℕ) → Named x nm k → Named y nm k
  more-named nm k (written d m l n) = written d ((more.entries d).1 (Memᴰ.tail m)) l n
  more-named nm k (drawn a s m l n) = drawn a s ((more.areas a).1 m) l n

  less-named : (nm : Bytes) (k : ℕ) → Named y nm k → Named x nm k ⊎ ((k ≡ e.line) × (nm ≡ e.name))
  less-named nm k (written d m l n) =
      ⊎_elim (λ (h : d ≡ e). inr (sym l ∙ ap (λ (z : Entry). z.line) h, sym n ∙ ap (λ (z : Entry). z.name) h)) (λ h. inl (written d h l n))
      (Memᴰ.cases_cons ((more.entries d).0 m))
  less-named nm k (drawn a s m l n) = inl (drawn a s ((more.areas a).0 m) l n)

  -- so other names are on the same lines
  agree-else : (nm : Bytes) → (nm ≡ e.name → ⊥) → Agree (named? x) (named? y) nm
  agree-else nm h =
      same_lines x y nm (λ l. (more-named nm (suc l), λ n. ⊎_elim (λ (a : Named x nm (suc l)). a) (λ w. absurd (h w.1)) (less-named nm (suc l) n)))

  lies-too : NameLies x e.name → NameLies y e.name
  lies-too lies k n =
      rw more.explicit (⊎_elim (λ (a : Named x e.name (suc k)). lies k a) (λ w. omega (arith, more.last, w.0)) (less-named e.name (suc k) n))

  -- the lines that a count takes: those before, and that of the entry
  more-counts : (nm : Bytes) (w : Way) (l : ℤ) → Counts x nm w l → Counts y nm w l
  more-counts nm endward (pos l) c =
      ⊎_elim (λ (h : (l ≤ x.explicit) × Named x nm (suc l)). inl (rw more.explicit h.0, more-named nm (suc l) h.1)) (λ (h : x.explicit < l). inr (rw more.explicit h)) c
  more-counts nm endward (negsuc l) c = c
  more-counts nm startward (pos l) c = (rw more.explicit c.0, more-named nm (suc l) c.1)
  more-counts nm startward (negsuc l) c = c

  named-or-new : (nm : Bytes) (l : ℕ) → l ≤ y.explicit → Named y nm (suc l) → ((l ≤ x.explicit) × Named x nm (suc l)) ⊎ (pos l ≡ pos (e.line - 1))
  named-or-new nm l h n =
      ⊎_elim (λ (a : Named x nm (suc l)). inl (rw more.explicit at h, a)) (λ w. inr (ap pos (omega (arith, w.0)))) (less-named nm (suc l) n)

  less-counts : (nm : Bytes) (w : Way) (l : ℤ) → Counts y nm w l → Counts x nm w l ⊎ (l ≡ pos (e.line - 1))
  less-counts nm endward (pos l) c =
      ⊎_elim
      (λ (h : (l ≤ y.explicit) × Named y nm (suc l)). ⊎_elim (λ a. inl (inl a)) (λ a. inr a) (named-or-new nm l h.0 h.1))
      (λ (h : y.explicit < l). inl (inr (rw more.explicit at h))) c
  less-counts nm endward (negsuc l) c = absurd c
  less-counts nm startward (pos l) c = named-or-new nm l c.0 c.1
  less-counts nm startward (negsuc l) c = inl c

  -- an n-th line comes no further along than it was, and the one after it no nearer
  module _ (nm : Bytes) (w : Way) (a : ℕ) where
    counted-sooner : (n : ℕ) (l m : ℤ) → CountsTo x nm w (pos a) 0 n l → CountsTo y nm w (pos a) 0 n m → Ordered w m l
    counted-sooner n l m p q =
        rw (← p.there, ← q.there)
        (along_ordered w a q.distance p.distance
        (nth_fewer (λ k. Counts x nm w (along w (pos a) k)) (λ k. Counts y nm w (along w (pos a) k)) n 0 0 p.distance q.distance
        (λ k h c. more-counts nm w (along w (pos a) k) c) (le_refl 0) p.nth q.nth))

    counted-later : (n : ℕ) (l m : ℤ) → CountsTo x nm w (pos a) 0 n l → CountsTo y nm w (pos a) 0 (suc n) m → Ordered w l m
    counted-later n l m p q =
        rw (← p.there, ← q.there)
        (along_ordered w a p.distance q.distance
        (nth-one-more (λ k. Counts x nm w (along w (pos a) k)) (λ k. Counts y nm w (along w (pos a) k)) (λ k. along w (pos a) k ≡ pos (e.line - 1))
        (λ k c. more-counts nm w (along w (pos a) k) c) (λ k c. less-counts nm w (along w (pos a) k) c)
        (λ j k u v. along_one w a j k (u ∙ sym v)) n 0 p.distance q.distance p.nth q.nth))

  -- ---- the rule

  counted-from : (nm : Bytes) (a b n : ℕ) (l : ℤ) → a ≡ b → CountsTo y nm startward (pos a) 0 n l → CountsTo y nm startward (pos b) 0 n l
  counted-from nm a b n l h c = rw h at c

  module _ (small : x.explicit ≤ 10000) where
    small-too : y.explicit ≤ 10000
    small-too = rw more.explicit small

    -- the line that an index of the entry's name is counted to, in the one axis and in the other
    module _ (lies : NameLies x e.name) where
      counted : (k : ℕ) → CountsTo x e.name endward (pos 0) 0 (suc k) (forwards x.explicit (marks x.explicit (named? x) e.name) (pos 0) k)
      counted k = forwards-index x e.name _ (all-marked x small e.name lies) small k

      counted-more : (k : ℕ) → CountsTo y e.name endward (pos 0) 0 (suc k) (forwards y.explicit (marks y.explicit (named? y) e.name) (pos 0) k)
      counted-more k = forwards-index y e.name _ (all-marked y small-too e.name (lies-too lies)) small-too k

      counted_back : (k : ℕ)
          → CountsTo x e.name startward (pos x.explicit) 0 (suc k)
          (backwards x.explicit (marks x.explicit (named? x) e.name) (pos x.explicit) k)
      counted_back k = backwards-index x e.name _ (all-marked x small e.name lies) small k

      counted-back-more : (k : ℕ)
          → CountsTo y e.name startward (pos x.explicit) 0 (suc k)
          (backwards y.explicit (marks y.explicit (named? y) e.name) (pos y.explicit) k)
      counted-back-more k =
          counted-from e.name y.explicit x.explicit (suc k) _ more.explicit
          (backwards-index y e.name _ (all-marked y small-too e.name (lies-too lies)) small-too k)

      index-no-later : (s : Side) (k : ℕ) → line_of_index y e.name s (pos (suc k)) ≤ℤ line_of_index x e.name s (pos (suc k))
      index-no-later s k = held_ordered _ _ (counted-sooner e.name endward 0 (suc k) _ _ (counted k) (counted-more k))

      index-no-earlier : (s : Side) (k : ℕ) → line_of_index x e.name s (pos (suc k)) ≤ℤ line_of_index y e.name s (pos (suc (suc k)))
      index-no-earlier s k = held_ordered _ _ (counted-later e.name endward 0 (suc k) _ _ (counted k) (counted-more (suc k)))

      back-no-sooner : (s : Side) (k : ℕ) → line_of_index x e.name s (negsuc k) ≤ℤ line_of_index y e.name s (negsuc k)
      back-no-sooner s k = held_ordered _ _ (counted-sooner e.name startward x.explicit (suc k) _ _ (counted_back k) (counted-back-more k))

      back-no-further : (s : Side) (k : ℕ) → line_of_index y e.name s (negsuc (suc k)) ≤ℤ line_of_index x e.name s (negsuc k)
      back-no-further s k = held_ordered _ _ (counted-later e.name startward x.explicit (suc k) _ _ (counted_back k) (counted-back-more (suc k)))

    -- ---- a name alone

    -- the edge of an area named otherwise, and what index 1 of such a name is counted to
    same-edge : (nm : Bytes) (s : Side) → (nm ++ suffix s ≡ e.name → ⊥)
        → seek (marks y.explicit (named? y) (nm ++ suffix s)) top 0 0 ≡ seek (marks x.explicit (named? x) (nm ++ suffix s)) top 0 0
    same-edge nm s h = ap (λ (f : ℕ → Bool). seek f top 0 0) (fun_ext λ l. sym (agree-else (nm ++ suffix s) h l))

    same_first : (nm : Bytes) → (nm ≡ e.name → ⊥)
        → forwards y.explicit (marks y.explicit (named? y) nm) (pos 0) 0 ≡ forwards x.explicit (marks x.explicit (named? x) nm) (pos 0) 0
    same_first nm h =
        ap (λ (n : ℕ). forwards n (marks n (named? y) nm) (pos 0) 0) more.explicit
        ∙ ap (λ (f : ℕ → Bool). forwards x.explicit f (pos 0) 0) (fun_ext λ l. sym (agree-else nm h l))

    -- where the edge is found in both alike, index 0 is the same line
    same-or-first : (nm : Bytes) → (nm ≡ e.name → ⊥) → (r : Seek) → or_first y.explicit (named? y) nm r ≡ or_first x.explicit (named? x) nm r
    same-or-first nm h (at l) = refl
    same-or-first nm h (left r) = same_first nm h

    edge-else : (nm : Bytes) (s : Side) → (nm ≡ e.name → ⊥) → (nm ++ suffix s ≡ e.name → ⊥) → line_of_index y nm s (pos 0) ≡ line_of_index x nm s (pos 0)
    edge-else nm s h g =
        ap held (ap (λ (r : Seek). or_first y.explicit (named? y) nm r) (same-edge nm s g) ∙ same-or-first nm h (seek (marks x.explicit (named? x) (nm ++ suffix s)) top 0 0))

    -- an edge of the entry's own area: found where it was, or on the entry's line
    module _ (nm : Bytes) (s : Side) (new : e.name ≡ nm ++ suffix s) where
      here : Named y (nm ++ suffix s) (suc (e.line - 1))
      here = written e ((more.entries e).1 (Memᴰ.head refl)) (omega (arith, more.first)) new

      moved : (r q : Seek) → seek (marks x.explicit (named? x) (nm ++ suffix s)) top 0 0 ≡ r
          → seek (marks y.explicit (named? y) (nm ++ suffix s)) top 0 0 ≡ q
          → (held (or_first y.explicit (named? y) nm q) ≡ held (or_first x.explicit (named? x) nm r)) ⊎ (held (or_first y.explicit (named? y) nm q) ≡ pos (e.line - 1))
      moved r (left n) u v =
          absurd (seek-none (marks y.explicit (named? y) (nm ++ suffix s)) top 0 n v (e.line - 1) (omega arith) (omega (arith, more.last))
          (→named y (nm ++ suffix s) (suc (e.line - 1)) here))
      moved (left n) (at l) u v =
          ⊎_elim
          (λ (a : Named x (nm ++ suffix s) (suc l)).
          absurd (seek-none (marks x.explicit (named? x) (nm ++ suffix s)) top 0 n u l (omega arith)
          (seek-below (marks y.explicit (named? y) (nm ++ suffix s)) top 0 0 l v) (→named x (nm ++ suffix s) (suc l) a)))
          (λ w. inr (on-the-line l w.0))
          (less-named (nm ++ suffix s) (suc l) (named→ y (nm ++ suffix s) (suc l) (seek_first (marks y.explicit (named? y) (nm ++ suffix s)) top 0 l v).holds))
        where
          on-the-line : (l : ℕ) → suc l ≡ e.line → held (pos l) ≡ pos (e.line - 1)
          on-the-line l h = ap pos (omega (arith, more.last))
      moved (at k) (at l) u v =
          ⊎_elim
          (λ (a : Named x (nm ++ suffix s) (suc l)). inl (ap (λ (n : ℕ). held (pos n)) (first-stays a)))
          (λ w. inr (ap pos (omega (arith, more.last, w.0))))
          (less-named (nm ++ suffix s) (suc l) (named→ y (nm ++ suffix s) (suc l) there.holds))
        where
          there : Nearest (λ j. T (marks y.explicit (named? y) (nm ++ suffix s) j)) 0 l
          there = seek_first (marks y.explicit (named? y) (nm ++ suffix s)) top 0 l v

          was : Nearest (λ j. T (marks x.explicit (named? x) (nm ++ suffix s) j)) 0 k
          was = seek_first (marks x.explicit (named? x) (nm ++ suffix s)) top 0 k u

          first-stays : Named x (nm ++ suffix s) (suc l) → l ≡ k
          first-stays a =
              ⊎_elim
              (λ (h : l < k). absurd (was.none l (omega arith) h (→named x (nm ++ suffix s) (suc l) a)))
              (λ (h : k ≤ l). ⊎_elim
              (λ (g : k < l). absurd (there.none k (omega arith) g
              (→named y (nm ++ suffix s) (suc k) (more-named (nm ++ suffix s) (suc k) (named→ x (nm ++ suffix s) (suc k) was.holds)))))
              (λ (g : l ≤ k). omega arith) (lt_or_ge k l))
              (lt_or_ge l k)

      own-edge : (line_of_index y nm s (pos 0) ≡ line_of_index x nm s (pos 0)) ⊎ (line_of_index y nm s (pos 0) ≡ pos (e.line - 1))
      own-edge = moved (seek (marks x.explicit (named? x) (nm ++ suffix s)) top 0 0) (seek (marks y.explicit (named? y) (nm ++ suffix s)) top 0 0) refl refl

    area-moves : (nm : Bytes) (t s : Side) → e.name ≡ nm ++ suffix t
        → (line_of_index y nm s (pos 0) ≡ line_of_index x nm s (pos 0)) ⊎ (line_of_index y nm s (pos 0) ≡ pos (e.line - 1))
    area-moves nm start start h = own-edge nm start h
    area-moves nm end end h = own-edge nm end h
    area-moves nm start end h = inl (edge-else nm end (λ u. suffix-longer nm start (u ∙ h)) (λ u. edges_differ nm (sym h ∙ sym u)))
    area-moves nm end start h = inl (edge-else nm start (λ u. suffix-longer nm end (u ∙ h)) (λ u. edges_differ nm (u ∙ h)))

    -- the name itself: its own edge is not the entry's name
    not-the-edge : (s : Side) → e.name ++ suffix s ≡ e.name → ⊥
    not-the-edge s h = suffix-longer e.name s (sym h)

    found-edge : (s : Side) → HasEdge x e.name s → (r : Seek) → seek (marks x.explicit (named? x) (e.name ++ suffix s)) top 0 0 ≡ r
        → or_first y.explicit (named? y) e.name r ≡ or_first x.explicit (named? x) e.name r
    found-edge s (l, h, n) (at k) u = refl
    found-edge s (l, h, n) (left k) u =
        absurd (seek-none (marks x.explicit (named? x) (e.name ++ suffix s)) top 0 k u l (omega arith) (omega arith) (→named x (e.name ++ suffix s) (suc l) n))

    edge_stays : (s : Side) → HasEdge x e.name s → line_of_index y e.name s (pos 0) ≡ line_of_index x e.name s (pos 0)
    edge_stays s h =
        ap held (ap (λ (r : Seek). or_first y.explicit (named? y) e.name r) (same-edge e.name s (not-the-edge s))
        ∙ found-edge s h (seek (marks x.explicit (named? x) (e.name ++ suffix s)) top 0 0) refl)

    no_edge : (z : AxisNames) (s : Side) → (HasEdge x e.name s → ⊥) → (r : Seek) → seek (marks x.explicit (named? x) (e.name ++ suffix s)) top 0 0 ≡ r
        → held (or_first z.explicit (named? z) e.name r) ≡ line_of_index z e.name s (pos 1)
    no_edge z s h (left k) u = refl
    no_edge z s h (at l) u =
        absurd (h (
          l,
          omega (arith, seek-below (marks x.explicit (named? x) (e.name ++ suffix s)) top 0 0 l u),
          named→ x (e.name ++ suffix s) (suc l) (seek_first (marks x.explicit (named? x) (e.name ++ suffix s)) top 0 l u).holds,
        ))

    as_first : (s : Side) → (HasEdge x e.name s → ⊥)
        → (line_of_index x e.name s (pos 0) ≡ line_of_index x e.name s (pos 1)) × (line_of_index y e.name s (pos 0) ≡ line_of_index y e.name s (pos 1))
    as_first s h = (
      no_edge x s h (seek (marks x.explicit (named? x) (e.name ++ suffix s)) top 0 0) refl,
      ap (λ (r : Seek). held (or_first y.explicit (named? y) e.name r)) (same-edge e.name s (not-the-edge s))
          ∙ no_edge y s h (seek (marks x.explicit (named? x) (e.name ++ suffix s)) top 0 0) refl,
    )

    -- an end that does not use the name
    agree_on : (s : Side) (p : Placement) → (Memᴰ e.name (used_names s p) → ⊥) → AgreeOn (named? y) (named? x) s p
    agree_on s p out nm m l = sym (agree-else nm (λ h. out (rw h at m)) l)

    others_stay : (p q : Placement) → (Memᴰ e.name (used_names start p) → ⊥) → (Memᴰ e.name (used_names end q) → ⊥)
        → (resolve y.explicit (named? y) p q ≡ resolve x.explicit (named? x) p q)
        × (held_ends y.explicit (named? y) p q ≡ held_ends x.explicit (named? x) p q)
    others_stay p q hp hq = (
      ap (λ (n : ℕ). resolve n (named? y) p q) more.explicit
          ∙ resolve-agrees-on x.explicit (named? y) (named? x) p q (agree_on start p hp) (agree_on end q hq),
      ap (λ (n : ℕ). held_ends n (named? y) p q) more.explicit
          ∙ held-agrees-on x.explicit (named? y) (named? x) p q (agree_on start p hp) (agree_on end q hq),
    )

    -- document 02, request 13
    pub moves-little : MovesLittle x y e
    moves-little =
        record {
          no_later = index-no-later;
          no_earlier = index-no-earlier;
          back_no_earlier = back-no-sooner;
          back_no_later = back-no-further;
          others = others_stay;
          area = area-moves;
          edge = edge_stays;
          bare = as_first;
        }
