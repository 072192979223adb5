-- The answer to a row, from what its runs leave. Assumes nothing.
use Prim.Native.Nat.{ℕ, ◌≤◌, ◌<◌}
use mathlib.Core.Path.{◌≡◌, ap, ◌∙◌}
use mathlib.Core.List.{List}
use lib.ListN.{length}
use borrow.Author.Tests.{eq-eqb, ne_eqb, lt-ltb, le-ltb}
use Rattle.panel_tables.specs.declared.Panel.{Panel}
use Rattle.panel_tables.specs.declared.AreaEdges.{AreaEdges}
use Rattle.picture_rules.specs.Picture.{Word}
use Rattle.picture_rules.specs.Steps.{runs_of}
use Rattle.picture_areas.specs.Runs.{Drawn}
use Rattle.picture_areas.specs.Runs.{InPicture}
use Rattle.picture_rows.specs.Steps.{runs_in, started, refused_row, picture_edges, spanned, counted_row, row_in}

module _ (p : Panel) (e : AreaEdges) (d : Drawn) where
  pub counted-refused : (d.fault ≡ 0 → ⊥) → (r : Drawn) → r ≡ refused_row d.fault p → r ≡ counted_row p e d
  unfolding counted_row
  counted-refused h r q = rw (ne_eqb d.fault 0 h) q

  pub counted-so : d.fault ≡ 0 → (q : Panel) → q ≡ spanned d.panel e → record { fault = d.fault; broken = d.broken; panel = q } ≡ counted_row p e d
  unfolding counted_row
  counted-so h q s = rw (eq-eqb d.fault 0 h) (ap (λ (x : Panel). record { fault = d.fault; broken = d.broken; panel = x }) s)

-- ---- a row

module _ (p : Panel) (w b : List ℕ) (ws : List Word) (row width : ℕ) (wide : width ≡ length ws) where
  pub row_wide : 10000 < width → (r : Drawn) → r ≡ refused_row 4 p → record { answer = r; words = w; bytes = b } ≡ row_in p w b ws row
  unfolding row_in
  row_wide h r q = rw (← wide, lt-ltb 10000 width h) (ap (λ (d : Drawn). record { answer = d; words = w; bytes = b }) q)

  pub row_far : width ≤ 10000 → 10000 < row → (r : Drawn) → r ≡ refused_row 4 p → record { answer = r; words = w; bytes = b } ≡ row_in p w b ws row
  unfolding row_in
  row_far h k r q = rw (← wide, le-ltb 10000 width h, lt-ltb 10000 row k) (ap (λ (d : Drawn). record { answer = d; words = w; bytes = b }) q)

  pub row-drawn : width ≤ 10000 → row ≤ 10000 → (x : InPicture) → x ≡ runs_in row 1 (runs_of ws) (started p w b) → (e : AreaEdges) → e ≡ picture_edges width row
      → (r : Drawn) → r ≡ counted_row p e x.answer → record { answer = r; words = x.words; bytes = x.bytes } ≡ row_in p w b ws row
  unfolding row_in
  row-drawn h k x s e f r q =
      let g : e ≡ picture_edges (length ws) row = f ∙ ap (λ (n : ℕ). picture_edges n row) wide in
      rw (← wide, le-ltb 10000 width h, le-ltb 10000 row k, wide, ← s, ← g) (ap (λ (d : Drawn). record { answer = d; words = x.words; bytes = x.bytes }) q)
