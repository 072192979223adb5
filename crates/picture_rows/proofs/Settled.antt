-- What is left of runs, a refusal with the panel as it came. Assumes nothing.
use Prim.Native.Nat.{ℕ, ◌≤◌}
use lib.ListN.{length}
use mathlib.Core.Path.{◌≡◌, refl, sym, ap, ◌∙◌}
use mathlib.Core.List.{List}
use mathlib.Core.Bool.{Bool, true, false, cond, ◌||◌}
use lib.Dec.{eqb}
use borrow.Author.Tests.{eq-eqb, ne_eqb}
use Rattle.std.specs.Prelude.{Result, Ok, Err}
use Rattle.coordinates.specs.Refusals.{number_of}
use Rattle.coordinates.specs.declared.refusal.Fault.{Fault}
use Rattle.panel_tables.specs.declared.Panel.{Panel}
use Rattle.panel_tables.specs.declared.AreaEdges.{AreaEdges}
use Rattle.picture_rules.specs.Picture.{Word, is_dots}
use Rattle.picture_areas.specs.declared.draw.PictureAfter.{PictureAfter}
use Rattle.picture_areas.specs.Runs.{Drawn, InPicture, answered_drawn, draw_in, edges_of_box}
use Rattle.picture_rows.specs.Steps.{joined, refused_row, settled, run_in, runs_in, started, picture_edges, spanned, counted_row, counted, row_in}
use Rattle.picture_rules.specs.Steps.{runs_of, run_box}
use Rattle.picture_words.specs.declared.run.WordRun.{WordRun}
use Rattle.picture_words.specs.Words.{words_left, word_at}
use Rattle.picture_words.specs.Runs.{run_at}
use Rattle.picture_rows.proofs.Runs.{step-dots, step-drawn, runs-next, runs-stop}
use Rattle.picture_rows.proofs.Counts.{counted-refused, row-drawn}
use Rattle.coordinates.proofs.Faults.{fault_some}

-- an answer with the table beside it
abbrev pub state : Panel → Result PictureAfter Fault → List ℕ → List ℕ → InPicture
state p r w b = record { answer = answered_drawn p r; words = w; bytes = b }

module _ (p : Panel) (x : InPicture) where
  pub settled_fault : (settled p x).answer.fault ≡ x.answer.fault
  unfolding settled
  settled_fault = go (eqb x.answer.fault 0)
    where
      go : (t : Bool) → (cond t x.answer (refused_row x.answer.fault p)).fault ≡ x.answer.fault
      go true = refl
      go false = refl

  pub settled_so : x.answer.fault ≡ 0 → settled p x ≡ x
  unfolding settled
  settled_so h = rw (eq-eqb x.answer.fault 0 h) refl

  pub settled_not : (x.answer.fault ≡ 0 → ⊥) → settled p x ≡ record { answer = refused_row x.answer.fault p; words = x.words; bytes = x.bytes }
  unfolding settled
  settled_not h = rw (ne_eqb x.answer.fault 0 h) refl

  -- a row counts what is left
  pub settled_counted : (e : AreaEdges) → counted p e (settled p x) ≡ counted p e x
  unfolding settled counted_row
  settled_counted e = go (eqb x.answer.fault 0) refl
    where
      go : (t : Bool) → eqb x.answer.fault 0 ≡ t
          → counted p e (record { answer = cond t x.answer (refused_row x.answer.fault p); words = x.words; bytes = x.bytes }) ≡ counted p e x
      go true q = refl
      go false q = rw q refl

-- nothing mends a broken picture
pub either_broken : (a b : Bool) → (a || b) ≡ cond a true b
either_broken true b = refl
either_broken false b = refl

-- ---- one run

module _ (before : PictureAfter) (n : Word) (e : AreaEdges) (w b : List ℕ) where
  pub dots_step : is_dots n ≡ true → state before.panel (Ok before) w b ≡ settled before.panel (run_in n e (state before.panel (Ok before) w b))
  unfolding settled
  dots_step h = ap (settled before.panel) (step-dots n e (state before.panel (Ok before) w b) true (sym h) refl)

  module _ (named : is_dots n ≡ false) (r : Result PictureAfter Fault) (v c : List ℕ) (drawn : state before.panel r v c ≡ draw_in before.panel w b n e) where
    left : joined before.broken (state before.panel r v c) ≡ run_in n e (state before.panel (Ok before) w b)
    left = step-drawn n e (state before.panel (Ok before) w b) false (sym named) refl (state before.panel r v c) drawn _ refl

    pub drawn_step : (d : PictureAfter) → r ≡ Ok d → (t : Bool) → t ≡ cond before.broken true d.broken
        → state before.panel (Ok (record { broken = t; panel = d.panel })) v c ≡ settled before.panel (run_in n e (state before.panel (Ok before) w b))
    drawn_step d h t g =
        ap (λ (u : Bool). state before.panel (Ok (record { broken = u; panel = d.panel })) v c) g
        ∙ sym (settled_so before.panel (joined before.broken (state before.panel (Ok d) v c)) refl)
        ∙ ap (λ (q : Result PictureAfter Fault). settled before.panel (joined before.broken (state before.panel q v c))) (sym h)
        ∙ ap (settled before.panel) left

    pub refused_step : (f : Fault) → r ≡ Err f → (q : Result PictureAfter Fault) → q ≡ Err f
        → state before.panel q v c ≡ settled before.panel (run_in n e (state before.panel (Ok before) w b))
    refused_step f h q g =
        ap (λ (s : Result PictureAfter Fault). state before.panel s v c) g
        ∙ sym (settled_not before.panel (joined before.broken (state before.panel (Err f) v c)) (fault_some f))
        ∙ ap (λ (s : Result PictureAfter Fault). settled before.panel (joined before.broken (state before.panel s v c))) (sym h)
        ∙ ap (settled before.panel) left

-- ---- a turn of the loop: the run at a place, with its word and its edges, and what it answers

module _ (row column : ℕ) (line : List ℕ) (at : ℕ) (fits : at ≤ length line) (run : WordRun) (found : run ≡ run_at line at)
    (n : Word) (word : n ≡ word_at line at) (e : AreaEdges) (edges : e ≡ edges_of_box (run_box row column run.count))
    (q : Panel) (x : InPicture) (r : Result PictureAfter Fault) (w b : List ℕ) (step : state q r w b ≡ settled q (run_in n e x)) where
  abbrev z : InPicture
  z = run_in n e x

  abbrev rest : InPicture
  rest = runs_in row column (runs_of (words_left line at)) x

  -- it is drawn, and the runs after it are left
  pub turn_drawn : (d : PictureAfter) → r ≡ Ok d → rest ≡ runs_in row e.columnend (runs_of (words_left line run.next)) (state q (Ok d) w b)
  turn_drawn d h =
      let s : state q (Ok d) w b ≡ settled q z = ap (λ (t : Result PictureAfter Fault). state q t w b) (sym h) ∙ step in
      let f : z.answer.fault ≡ 0 = sym (settled_fault q z) ∙ ap (λ (y : InPicture). y.answer.fault) (sym s) in
      runs-next row column line at x fits run found n word e edges z refl f
      ∙ ap (runs_in row e.columnend (runs_of (words_left line run.next))) (sym (settled_so q z f) ∙ sym s)

  -- it is refused, and so is the row
  pub turn_refused : (f : Fault) → r ≡ Err f → (p : Panel) → state p (Err f) w b ≡ settled p rest
  turn_refused f h p =
      let s : state q (Err f) w b ≡ settled q z = ap (λ (t : Result PictureAfter Fault). state q t w b) (sym h) ∙ step in
      let k : z.answer.fault ≡ number_of f = sym (settled_fault q z) ∙ ap (λ (y : InPicture). y.answer.fault) (sym s) in
      let some : z.answer.fault ≡ 0 → ⊥ = λ j. fault_some f (sym k ∙ j) in
      let v : w ≡ z.words = ap (λ (y : InPicture). y.words) (s ∙ settled_not q z some) in
      let c : b ≡ z.bytes = ap (λ (y : InPicture). y.bytes) (s ∙ settled_not q z some) in
      (λ i. record { answer = refused_row (sym k i) p; words = v i; bytes = c i }) ∙ sym (settled_not p z some)
      ∙ ap (settled p) (sym (runs-stop row column line at x fits run found n word e edges z refl some))

-- ---- a row, from what its runs leave

module _ (p : Panel) (w b : List ℕ) (ws : List Word) (row width : ℕ) (wide : width ≡ length ws) (few : width ≤ 10000) (near : row ≤ 10000)
    (v c : List ℕ) (r : Result PictureAfter Fault) (runs : state p r v c ≡ settled p (runs_in row 1 (runs_of ws) (started p w b))) where
  counted_row_in : counted p (picture_edges width row) (state p r v c) ≡ row_in p w b ws row
  counted_row_in =
      ap (counted p (picture_edges width row)) runs
      ∙ settled_counted p (runs_in row 1 (runs_of ws) (started p w b)) (picture_edges width row)
      ∙ row-drawn p w b ws row width wide few near (runs_in row 1 (runs_of ws) (started p w b)) refl (picture_edges width row) refl _ refl

  pub row_taken : (d : PictureAfter) → r ≡ Ok d → (e : AreaEdges) → e ≡ picture_edges width row → (q : Panel) → q ≡ spanned d.panel e
      → state p (Ok (record { broken = d.broken; panel = q })) v c ≡ row_in p w b ws row
  unfolding counted_row
  row_taken d h e g q s =
      ap (λ (n : Panel). state p (Ok (record { broken = d.broken; panel = n })) v c) (s ∙ ap (spanned d.panel) g)
      ∙ ap (λ (x : Result PictureAfter Fault). counted p (picture_edges width row) (state p x v c)) (sym h) ∙ counted_row_in

  pub row_refused : (f : Fault) → r ≡ Err f → (q : Result PictureAfter Fault) → q ≡ Err f → state p q v c ≡ row_in p w b ws row
  row_refused f h q g =
      ap (λ (x : Result PictureAfter Fault). state p x v c) g
      ∙ ap (λ (d : Drawn). record { answer = d; words = v; bytes = c }) (counted-refused p (picture_edges width row) (answered_drawn p (Err f)) (fault_some f) (refused_row (number_of f) p) refl)
      ∙ ap (λ (x : Result PictureAfter Fault). counted p (picture_edges width row) (state p x v c)) (sym h) ∙ counted_row_in
