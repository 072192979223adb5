-- The rule depends on the entries only through which lines have which name, and on these only for the names that a placement uses.
-- Assumes nothing.
use mathlib.Core.Path.{◌≡◌, refl, ◌∙◌, ap, fun_ext}
use mathlib.Core.Bool.{Bool, true, false, ◌||◌}
use mathlib.Core.List.{◌++◌, Memᴰ}
use Prim.Native.Nat.{ℕ, zero, suc, pred}
use lib.Dec.{T}
use lib.IntN.{ℤ, pos, negsuc, ◌+ℤ◌, ◌-ℤ◌}
use Rattle.coordinates.specs.Lines.{held, outside, to_grid_line, to_origin_zero}
use Rattle.name_rules.specs.Css.{Bytes, Entry, Area, Side, start, end, suffix, AxisNames, Named, written, drawn, Placement, auto}
use Rattle.name_rules.specs.Css.{line, named, span, nspan, other, at_line}
use Rattle.name_rules.specs.Conditions.{Agree, AgreeOn, SameNames}
use Rattle.name_rules.specs.Rule.{Seek, at, left, seek, top, forwards, backwards, named?, marks, or_first, found, numbered, line_at}
use Rattle.name_rules.specs.Rule.{beside, span_counted, resolved, resolve, line_held, beside_held, mark_of, end_held, held_ends}
use Rattle.name_rules.proofs.Names.{named→, →named}
use Rattle.name_rules.proofs.Resolve.{the_name, the_edge}

module _ (explicit : ℕ) (a b : Bytes → ℕ → Bool) where
  same-marks : (nm : Bytes) → Agree a b nm → marks explicit a nm ≡ marks explicit b nm
  same-marks nm h = fun_ext λ l. h l

  same-found : (nm : Bytes) (s : Side) (i : ℤ) → AgreeOn a b s (named nm i) → found explicit a nm s i ≡ found explicit b nm s i
  same-found nm s (pos zero) h =
      ap (λ (f : ℕ → Bool). or_first explicit a nm (seek f top 0 0)) (same-marks (nm ++ suffix s) (h (nm ++ suffix s) (the_edge nm s)))
      ∙ go (seek (marks explicit b (nm ++ suffix s)) top 0 0)
    where
      go : (r : Seek) → or_first explicit a nm r ≡ or_first explicit b nm r
      go (at l) = refl
      go (left r) = ap (λ (f : ℕ → Bool). forwards explicit f (pos 0) 0) (same-marks nm (h nm (the_name nm s (pos zero))))
  same-found nm s (pos (suc i)) h = ap (λ (f : ℕ → Bool). forwards explicit f (pos 0) i) (same-marks nm (h nm (the_name nm s (pos (suc i)))))
  same-found nm s (negsuc i) h = ap (λ (f : ℕ → Bool). backwards explicit f (pos explicit) i) (same-marks nm (h nm (the_name nm s (negsuc i))))

  same_span : (s : Side) (nm : Bytes) (n : ℕ) (o : ℤ) → Agree a b nm → span_counted explicit a s nm n o ≡ span_counted explicit b s nm n o
  same_span start nm n o h = ap (λ (f : ℕ → Bool). backwards explicit f (o -ℤ pos 1) (pred n)) (same-marks nm h)
  same_span end nm n o h = ap (λ (f : ℕ → Bool). forwards explicit f (o +ℤ pos 1) (pred n)) (same-marks nm h)

  same-numbered : (s : Side) (p : Placement) → AgreeOn a b s p → numbered explicit a s p ≡ numbered explicit b s p
  same-numbered s auto h = refl
  same-numbered s (line g) h = refl
  same-numbered s (named nm i) h = ap (λ (l : ℤ). line (to_grid_line explicit (held l))) (same-found nm s i h)
  same-numbered s (span n) h = refl
  same-numbered s (nspan nm n) h = refl

  same_beside : (s : Side) (nm : Bytes) (n : ℕ) (g : ℤ) → Agree a b nm
      → beside explicit a g (span_counted explicit a s nm n) ≡ beside explicit b g (span_counted explicit b s nm n)
  same_beside s nm n (pos zero) h = refl
  same_beside s nm n (pos (suc g)) h = ap (λ (l : ℤ). at_line (to_grid_line explicit (held l))) (same_span s nm n (to_origin_zero explicit (pos (suc g))) h)
  same_beside s nm n (negsuc g) h = ap (λ (l : ℤ). at_line (to_grid_line explicit (held l))) (same_span s nm n (to_origin_zero explicit (negsuc g)) h)

  same-resolved : (s : Side) (g : ℤ) (p : Placement) → AgreeOn a b s p
      → resolved explicit a s g (numbered explicit a s p) ≡ resolved explicit b s g (numbered explicit b s p)
  same-resolved s g auto h = refl
  same-resolved s g (line l) h = refl
  same-resolved s g (named nm i) h = ap (λ (l : ℤ). at_line (to_grid_line explicit (held l))) (same-found nm s i h)
  same-resolved s g (span n) h = refl
  same-resolved s g (nspan nm n) h = same_beside s nm n g (h nm (Memᴰ.head refl))

  -- names that a placement does not use have no part in it
  pub resolve-agrees-on : (p q : Placement) → AgreeOn a b start p → AgreeOn a b end q → resolve explicit a p q ≡ resolve explicit b p q
  resolve-agrees-on p q hp hq =
      let f = same-resolved start (line_at (numbered explicit a end q)) p hp
      ∙ ap (λ (o : Placement). resolved explicit b start (line_at o) (numbered explicit b start p)) (same-numbered end q hq) in
      let l = same-resolved end (line_at (numbered explicit a start p)) q hq
      ∙ ap (λ (o : Placement). resolved explicit b end (line_at o) (numbered explicit b end q)) (same-numbered start p hp) in
      λ i. record { first = f i; last = l i }

  -- nor in its marks
  same-line-held : (s : Side) (p : Placement) → AgreeOn a b s p → line_held explicit a s p ≡ line_held explicit b s p
  same-line-held s auto h = refl
  same-line-held s (line g) h = refl
  same-line-held s (named nm i) h = ap outside (same-found nm s i h)
  same-line-held s (span n) h = refl
  same-line-held s (nspan nm n) h = refl

  same-beside-held : (s : Side) (nm : Bytes) (n : ℕ) (g : ℤ) (m : Bool) → Agree a b nm
      → beside_held explicit a g m (span_counted explicit a s nm n) ≡ beside_held explicit b g m (span_counted explicit b s nm n)
  same-beside-held s nm n (pos zero) m h = refl
  same-beside-held s nm n (pos (suc g)) m h = ap (λ (l : ℤ). m || outside l) (same_span s nm n (to_origin_zero explicit (pos (suc g))) h)
  same-beside-held s nm n (negsuc g) m h = ap (λ (l : ℤ). m || outside l) (same_span s nm n (to_origin_zero explicit (negsuc g)) h)

  same-mark : (s : Side) (g : ℤ) (m : Bool) (p : Placement) → AgreeOn a b s p → mark_of explicit a s g m p ≡ mark_of explicit b s g m p
  same-mark s g m auto h = refl
  same-mark s g m (line l) h = refl
  same-mark s g m (named nm i) h = same-line-held s (named nm i) h
  same-mark s g m (span n) h = refl
  same-mark s g m (nspan nm n) h = same-beside-held s nm n g m (h nm (Memᴰ.head refl))

  same-end-held : (s : Side) (o p : Placement) → AgreeOn a b (other s) o → AgreeOn a b s p → end_held explicit a s o p ≡ end_held explicit b s o p
  same-end-held s o p ho hp =
      same-mark s (line_at (numbered explicit a (other s) o)) (line_held explicit a (other s) o) p hp
      ∙ ap (λ (q : Placement). mark_of explicit b s (line_at q) (line_held explicit a (other s) o) p) (same-numbered (other s) o ho)
      ∙ ap (λ (m : Bool). mark_of explicit b s (line_at (numbered explicit b (other s) o)) m p) (same-line-held (other s) o ho)

  pub held-agrees-on : (p q : Placement) → AgreeOn a b start p → AgreeOn a b end q → held_ends explicit a p q ≡ held_ends explicit b p q
  held-agrees-on p q hp hq =
      let f = same-end-held start q p hq hp in
      let l = same-end-held end p q hp hq in
      λ i. record { first = f i; last = l i }

  pub resolve-agrees : ((nm : Bytes) → Agree a b nm) → (p q : Placement) → resolve explicit a p q ≡ resolve explicit b p q
  resolve-agrees h p q = resolve-agrees-on p q (λ nm m. h nm) (λ nm m. h nm)

same_test : (a b : Bool) → (T a → T b) → (T b → T a) → a ≡ b
same_test true true f g = refl
same_test true false f g = absurd (f tt)
same_test false true f g = absurd (g tt)
same_test false false f g = refl

-- two axes on which the same lines have a name
module _ (x y : AxisNames) where
  pub same_lines : (nm : Bytes) → ((l : ℕ) → (Named x nm (suc l) → Named y nm (suc l)) × (Named y nm (suc l) → Named x nm (suc l)))
      → Agree (named? x) (named? y) nm
  same_lines nm h l =
      same_test (named? x nm (suc l)) (named? y nm (suc l))
      (λ t. →named y nm (suc l) ((h l).0 (named→ x nm (suc l) t)))
      (λ t. →named x nm (suc l) ((h l).1 (named→ y nm (suc l) t)))

  named-over : ((e : Entry) → Memᴰ e x.book → Memᴰ e y.book) → ((a : Area) → Memᴰ a x.areas → Memᴰ a y.areas)
      → (nm : Bytes) (k : ℕ) → Named x nm k → Named y nm k
  named-over f g nm k (written e m l n) = written e (f e m) l n
  named-over f g nm k (drawn a s m l n) = drawn a s (g a m) l n

-- the same entries and areas, in any order and any number of times
module _ (x y : AxisNames) (same : SameNames x y) where
  names-agree : (nm : Bytes) → Agree (named? x) (named? y) nm
  names-agree nm =
      same_lines x y nm (λ l. (
        named-over x y (λ e. (same.entries e).0) (λ a. (same.areas a).0) nm (suc l),
        named-over y x (λ e. (same.entries e).1) (λ a. (same.areas a).1) nm (suc l),
      ))

  -- resolve every placement alike
  pub resolve_same : (p q : Placement) → resolve x.explicit (named? x) p q ≡ resolve y.explicit (named? y) p q
  resolve_same p q =
      ap (λ (n : ℕ). resolve n (named? x) p q) same.explicit ∙ resolve-agrees y.explicit (named? x) (named? y) names-agree p q

  -- and mark it alike
  pub marks-same : (p q : Placement) → held_ends x.explicit (named? x) p q ≡ held_ends y.explicit (named? y) p q
  marks-same p q =
      ap (λ (n : ℕ). held_ends n (named? x) p q) same.explicit
      ∙ held-agrees-on y.explicit (named? x) (named? y) p q (λ nm m. names-agree nm) (λ nm m. names-agree nm)
