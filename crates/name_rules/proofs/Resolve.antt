-- What the rule of named.rs resolves a placement to is what CSS counts to. Assumes nothing.
use mathlib.Core.Path.{◌≡◌, refl}
use mathlib.Core.List.{◌++◌, Memᴰ}
use Prim.Native.Nat.{ℕ, zero, suc, pred, ◌≤◌}
use native.Mathlib.Omega.{arith}
use lib.Dec.{T}
use lib.IntN.{ℤ, pos, negsuc}
use Rattle.coordinates.specs.Lines.{held, to_origin_zero, to_grid_line, Within}
use Rattle.coordinates.proofs.Lines.{held-within, held_same, origin_zero_within, there_and_back}
use Rattle.name_rules.specs.Css.{Side, start, end, suffix, AxisNames, Bytes, Named, CountsTo, CssFound, CssLine, edged, bare}
use Rattle.name_rules.specs.Css.{index, back, CssSpan, Placement, auto, line, named, span, nspan, other, way, HasLine, by_name}
use Rattle.name_rules.specs.Css.{ResolvesTo, left_auto, left_line, left_span, to_line, to_span, to_one, CssEnds}
use Rattle.name_rules.specs.Css as Css
use Rattle.name_rules.specs.Conditions.{used_names, NameLies, NoZero, UsedNamesLie, OnExplicitLines}
use Rattle.name_rules.specs.Rule.{Seek, at, left, seek, top, named?, marks, or_first, found, numbered, line_at}
use Rattle.name_rules.specs.Rule.{beside, span_counted, resolved, resolve}
use Rattle.name_rules.proofs.Counting.{nearest_same, seek_first, seek-none}
use Rattle.name_rules.proofs.Lines.{Marked, forwards-index, forwards-span, backwards-index, backwards-span}
use Rattle.name_rules.proofs.Names.{named→, →named}

-- a named line uses its name, and without a number the edge of its own side too
pub the_name : (nm : Bytes) (s : Side) (i : ℤ) → Memᴰ nm (used_names s (named nm i))
the_name nm s (pos zero) = Memᴰ.head refl
the_name nm s (pos (suc i)) = Memᴰ.head refl
the_name nm s (negsuc i) = Memᴰ.head refl

pub the_edge : (nm : Bytes) (s : Side) → Memᴰ (nm ++ suffix s) (used_names s (named nm (pos zero)))
the_edge nm s = Memᴰ.tail (Memᴰ.head refl)

-- a line that CSS counts to is held
pub held-line : {x : AxisNames} {nm : Bytes} {s : Side} {i l : ℤ} → CssLine x nm s i l → Within l
held-line c = rw c.limited (held-within c.line)

module _ (x : AxisNames) (small : x.explicit ≤ 10000) where
  -- where every line of a name is explicit, the implementation's marks are those that CSS counts
  pub all-marked : (nm : Bytes) → NameLies x nm → Marked x nm (marks x.explicit (named? x) nm)
  all-marked nm lies =
      record {
        to = λ k t. let n : Named x nm (suc k) = named→ x nm (suc k) t in (lies k n, n);
        back = λ k h n. →named x nm (suc k) n;
      }

  -- a named line
  pub found-css : (nm : Bytes) (s : Side) (i : ℤ) → ((n : Bytes) → Memᴰ n (used_names s (named nm i)) → NameLies x n)
      → CssFound x nm s i (found x.explicit (named? x) nm s i)
  found-css nm s (pos zero) lies = go (seek (marks x.explicit (named? x) (nm ++ suffix s)) top 0 0) refl
    where
      go : (r : Seek) → seek (marks x.explicit (named? x) (nm ++ suffix s)) top 0 0 ≡ r → CssFound x nm s (pos zero) (or_first x.explicit (named? x) nm r)
      go (at l) e =
          edged l (nearest_same (λ k. T (named? x (nm ++ suffix s) (suc k))) (λ k. Named x (nm ++ suffix s) (suc k))
          (λ k. named→ x (nm ++ suffix s) (suc k)) (λ k. →named x (nm ++ suffix s) (suc k)) 0 l
          (seek_first (marks x.explicit (named? x) (nm ++ suffix s)) top 0 l e))
      go (left r) e =
          bare _ (λ k n. seek-none (marks x.explicit (named? x) (nm ++ suffix s)) top 0 r e k (omega arith)
          (omega (arith, lies (nm ++ suffix s) (the_edge nm s) k n)) (→named x (nm ++ suffix s) (suc k) n))
          (forwards-index x nm (marks x.explicit (named? x) nm) (all-marked nm (lies nm (the_name nm s (pos zero)))) small 0)
  found-css nm s (pos (suc i)) lies =
      index i _ (forwards-index x nm (marks x.explicit (named? x) nm) (all-marked nm (lies nm (the_name nm s (pos (suc i))))) small i)
  found-css nm s (negsuc i) lies =
      back i _ (backwards-index x nm (marks x.explicit (named? x) nm) (all-marked nm (lies nm (the_name nm s (negsuc i)))) small i)

  find-css : (nm : Bytes) (s : Side) (i : ℤ) → ((n : Bytes) → Memᴰ n (used_names s (named nm i)) → NameLies x n)
      → CssLine x nm s i (held (found x.explicit (named? x) nm s i))
  find-css nm s i lies = record { line = _; found = found-css nm s i lies; limited = refl }

  -- a named span beside line o
  pub span_counts : (s : Side) (nm : Bytes) (o : ℤ) (n : ℕ) → NameLies x nm → Within o
      → CountsTo x nm (way s) o 1 (suc (pred n)) (span_counted x.explicit (named? x) s nm n o)
  span_counts start nm o n lies h = backwards-span x nm (marks x.explicit (named? x) nm) (all-marked nm lies) small o (pred n)
  span_counts end nm o n lies h = forwards-span x nm (marks x.explicit (named? x) nm) (all-marked nm lies) small o (pred n) h

  span-css : (s : Side) (nm : Bytes) (o : ℤ) (n : ℕ) → NameLies x nm → Within o
      → CssSpan x nm (way s) o n (held (span_counted x.explicit (named? x) s nm n o))
  span-css s nm o n lies h = record { line = _; counted = span_counts s nm o n lies h; limited = refl }

  -- a named span beside a line that a name gave
  beside-css : (s : Side) (nm : Bytes) (n : ℕ) (b : Placement) (l : ℤ) → NameLies x nm → Within l → HasLine x (other s) b l
      → ResolvesTo x s b (nspan nm n) (beside x.explicit (named? x) (to_grid_line x.explicit l) (span_counted x.explicit (named? x) s nm n))
  beside-css s nm n b (pos l) lies h has =
      rw (held_same (pos l) h) (to_span nm n (pos l) _ has (span-css s nm (pos l) n lies h))
  beside-css s nm n b (negsuc l) lies h has =
      rw (there_and_back x.explicit (negsuc l) h) (to_span nm n (negsuc l) _ has (span-css s nm (negsuc l) n lies h))

  -- one end p, beside the other, b
  end-css : (s : Side) (b p : Placement) → UsedNamesLie x (other s) b → UsedNamesLie x s p
      → ResolvesTo x s b p (resolved x.explicit (named? x) s (line_at (numbered x.explicit (named? x) (other s) b)) (numbered x.explicit (named? x) s p))
  end-css s b auto ub up = left_auto
  end-css s b (line g) ub up = left_line g
  end-css s b (span n) ub up = left_span n
  end-css s b (named nm i) ub up = to_line nm i _ (find-css nm s i up.lies)
  end-css s auto (nspan nm n) ub up = to_one nm n tt
  end-css s (span m) (nspan nm n) ub up = to_one nm n tt
  end-css s (nspan k m) (nspan nm n) ub up = to_one nm n tt
  end-css s (line (pos zero)) (nspan nm n) ub up = absurd (ub.nonzero refl)
  end-css s (line (pos (suc g))) (nspan nm n) ub up =
      to_span nm n _ _ (Css.numbered (pos (suc g)) ub.nonzero)
      (span-css s nm (to_origin_zero x.explicit (pos (suc g))) n (up.lies nm (Memᴰ.head refl)) (origin_zero_within x.explicit (pos (suc g))))
  end-css s (line (negsuc g)) (nspan nm n) ub up =
      to_span nm n _ _ (Css.numbered (negsuc g) ub.nonzero)
      (span-css s nm (to_origin_zero x.explicit (negsuc g)) n (up.lies nm (Memᴰ.head refl)) (origin_zero_within x.explicit (negsuc g)))
  end-css s (named k i) (nspan nm n) ub up =
      let c : CssLine x k (other s) i (held (found x.explicit (named? x) k (other s) i)) = find-css k (other s) i ub.lies in
      beside-css s nm n (named k i) _ (up.lies nm (Memᴰ.head refl)) (held-line c) (by_name k i _ c)

  -- a placement is resolved to what CSS counts to, where the lines of the names that it uses are explicit and it writes no line 0
  pub resolve-css : (p q : Placement) → UsedNamesLie x start p → UsedNamesLie x end q → CssEnds x p q (resolve x.explicit (named? x) p q)
  resolve-css p q up uq = record { first = end-css start q p uq up; last = end-css end p q up uq }

-- so is every placement that writes no line 0, where every name lies on an explicit line
pub resolve_css_all : (x : AxisNames) → OnExplicitLines x → (p q : Placement) → NoZero p → NoZero q → CssEnds x p q (resolve x.explicit (named? x) p q)
resolve_css_all x fit p q zp zq =
    resolve-css x fit.small p q (record { lies = λ nm m. fit.lies nm; nonzero = zp }) (record { lies = λ nm m. fit.lies nm; nonzero = zq })
