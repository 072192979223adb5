-- What making the edits of a history again comes to, after the view of a sheet. Assumes nothing.
use Rattle.std.proofs.Common.{ℕ, ◌≡◌, List, [], ◌∷◌, ◌++◌, map, Bool, true, false, cond, eqb, length, refl, sym, ap, ◌∙◌, arith}
use Rattle.std.specs.Prelude.{Option, Some, None, Result, Ok, Err}
use Rattle.std.specs.Result.{result_ok}
use Rattle.std.proofs.lemmas.Option.{none-some, same_Some, cond_some}
use Rattle.std.proofs.lemmas.List.{map-append}
use borrow.Author.Tests.{eq-eqb, ne_eqb, eqb-true, eqb-false}
use Rattle.coordinates.specs.declared.refusal.Fault.{Fault}
use Rattle.coordinates.specs.declared.refusal.Fault.TheVariants.{NoStep}
use Rattle.coordinates.specs.Refusals.{number_of, refused_by, refusal_of}
use Rattle.coordinates.proofs.Faults.{fault_some}
use Rattle.history_lines.specs.Lines.{history_of}
use Rattle.panel_tables.specs.View.{PanelView, PanelOutcome}
use Rattle.panel_tables.specs.Written.{PanelHeld, PanelStepped, zero_panel, held_panel}
use Rattle.panel_tables.proofs.Fits.{FitsPanel}
use Rattle.sheet_rules.specs.declared.Overlap.{Overlap}
use Rattle.sheet_rules.specs.declared.SheetFault.{SheetFault}
use Rattle.sheet_rules.specs.declared.SheetFault.TheVariants.{Overlap as Overlaps, Line, Whole}
use Rattle.sheet_rules.specs.Answers.{SheetAnswer, refused_with}
use Rattle.sheet_rules.specs.Sheet.{end_fault}
use Rattle.sheet.specs.Runs.{held_end}
use Rattle.sheet.specs.Steps.{refused_answer}
use Rattle.sheet.proofs.Follows.{held_sized, end_first, end-held}
use Rattle.edit_rules.specs.Edits.{Edit, line, enter, unread, edit_of}
use Rattle.edit_rules.specs.Replay.{edit_step, edited_by}
use Rattle.edit_rules.specs.Settled.{calls_of, enters_fault, or_else, view_by, edits_fault, edits_held}
use Rattle.edit_rules.proofs.Fits.{edits_fit}
use Rattle.edit_rules.proofs.Held.{all-accepted}
use Rattle.panel_edits.specs.Steps.{stepped_by}
use Rattle.panel_edits.specs.Applied.{Applied, applied, applied_step}
use Rattle.panel_edits.specs.Entered.{entered}
use Rattle.panel_edits.proofs.Applied.{edit_pair, edit_answer, text_answer, FollowsEdits, texts_follow}
use Rattle.panel_edits.proofs.Settled.{entries_follow, settled_held}
use Rattle.panel_history.specs.History.{first_texts, Handed, pair_of, edited_after, edited_by_texts}
use Rattle.panel_history.specs.Steps.{Passed, Placed, passed, placed_in, stepped_in, ended_lines, ended_edit, StepsAsked, with_edit, EditMade, refused_call, EditAsked}
use Rattle.panel_history.proofs.Passes.{PassedTexts, passed-texts, passed-none}

-- ---- edits after edits

edited_append : (v : PanelView) (past edits : List Edit) → (edited_by v past).fault ≡ 0 → edited_by v (past ++ edits) ≡ edited_by (view_by v past) edits
unfolding edited_by
edited_append v [] edits z = refl
edited_append v (line fs ∷ past) edits z = go (eqb (edit_step v fs).fault 0) refl (edited_append (edit_step v fs).panel past edits) z
  where
    go : (t : Bool) → eqb (edit_step v fs).fault 0 ≡ t
        → ((edited_by (edit_step v fs).panel past).fault ≡ 0 → edited_by (edit_step v fs).panel (past ++ edits) ≡ edited_by (view_by (edit_step v fs).panel past) edits)
        → (cond t (edited_by (edit_step v fs).panel past) (edit_step v fs)).fault ≡ 0
        → cond t (edited_by (edit_step v fs).panel (past ++ edits)) (edit_step v fs) ≡ edited_by (cond t (edited_by (edit_step v fs).panel past) (edit_step v fs)).panel edits
    go true e i k = i k
    go false e i k = absurd (eqb-false (edit_step v fs).fault 0 e k)
edited_append v (enter c ∷ past) edits z = edited_append v past edits z
edited_append v (unread ∷ past) edits z = absurd (omega (arith, z))

-- the fault of their lines
fault_lines : (v : PanelView) (edits : List Edit) (n : ℕ) → (edited_by v edits).fault ≡ n → (n ≡ 0 → ⊥) → edits_fault v edits ≡ n
unfolding edits_fault
fault_lines v edits n e z = rw (e, ne_eqb n 0 z)

-- ---- texts one after the other

-- one entry more: after refused ones, and after accepted ones
entries_refused : (h : PanelHeld) (texts more : List (List ℕ)) → ((stepped_by entered h texts).fault ≡ 0 → ⊥) → stepped_by entered h (texts ++ more) ≡ stepped_by entered h texts
unfolding stepped_by
entries_refused h [] more z = absurd (z refl)
entries_refused h (t ∷ ts) more z = go (eqb (entered h t).fault 0) (entries_refused (entered h t).held ts more) z
  where
    go : (b : Bool) → (((stepped_by entered (entered h t).held ts).fault ≡ 0 → ⊥) → stepped_by entered (entered h t).held (ts ++ more) ≡ stepped_by entered (entered h t).held ts)
        → ((cond b (stepped_by entered (entered h t).held ts) (entered h t)).fault ≡ 0 → ⊥)
        → cond b (stepped_by entered (entered h t).held (ts ++ more)) (entered h t) ≡ cond b (stepped_by entered (entered h t).held ts) (entered h t)
    go true i k = i k
    go false i k = refl

abbrev SameStep : PanelStepped → PanelStepped → Type 0
SameStep x y = (x.fault ≡ y.fault) × (x.held ≡ y.held)

entries_last : (h : PanelHeld) (texts : List (List ℕ)) (text : List ℕ) → (stepped_by entered h texts).fault ≡ 0
    → SameStep (stepped_by entered h (texts ++ (text ∷ []))) (entered (stepped_by entered h texts).held text)
unfolding stepped_by
entries_last h [] text z = go (eqb (entered h text).fault 0) refl
  where
    go : (b : Bool) → eqb (entered h text).fault 0 ≡ b → SameStep (cond b (record { fault = 0; held = (entered h text).held }) (entered h text)) (entered h text)
    go true e = (sym (eqb-true (entered h text).fault 0 e), refl)
    go false e = (refl, refl)
entries_last h (t ∷ ts) text z = go (eqb (entered h t).fault 0) refl (entries_last (entered h t).held ts text) z
  where
    go : (b : Bool) → eqb (entered h t).fault 0 ≡ b
        → ((stepped_by entered (entered h t).held ts).fault ≡ 0
        → SameStep (stepped_by entered (entered h t).held (ts ++ (text ∷ []))) (entered (stepped_by entered (entered h t).held ts).held text))
        → (cond b (stepped_by entered (entered h t).held ts) (entered h t)).fault ≡ 0
        → SameStep (cond b (stepped_by entered (entered h t).held (ts ++ (text ∷ []))) (entered h t)) (entered (cond b (stepped_by entered (entered h t).held ts) (entered h t)).held text)
    go true e i k = i k
    go false e i k = absurd (eqb-false (entered h t).fault 0 e k)

-- where neither of two faults is there
no_fault : (n m : ℕ) → or_else n m ≡ 0 → (n ≡ 0) × (m ≡ 0)
no_fault n m = go (eqb n 0) refl
  where
    go : (t : Bool) → eqb n 0 ≡ t → cond t m n ≡ 0 → (n ≡ 0) × (m ≡ 0)
    go true e z = (eqb-true n 0 e, z)
    go false e z = absurd (eqb-false n 0 e z)

-- ---- what refuses an edit

-- it has a number
pub refused-number : (fault : SheetFault) → (refused_with fault).refusal.number ≡ 0 → ⊥
refused-number (Overlaps p) e = omega (arith, e)
refused-number (Line f) e = fault_some f.fault e
refused-number (Whole fault) e = fault_some fault e

pair_same : (v : PanelView) (past : List Edit) (e : Edit) → pair_of v past e ≡ edit_pair (view_by v past) e
pair_same v past (line fs) = refl
pair_same v past (enter c) = refl
pair_same v past unread = refl

-- a number at line 0 with a pair
abbrev paired : ℕ → Overlap → SheetAnswer
paired n pair = record { refusal = refusal_of n; earlier = pair.earlier; later = pair.later; panel = zero_panel }

whole_paired : (fault : Fault) (pair : Overlap) → pair.earlier ≡ 0 → pair.later ≡ 0 → refused_with (Whole fault) ≡ paired (number_of fault) pair
whole_paired fault pair e l = rw (e, l)

-- one text alone
one_text : (h : PanelHeld) (text : List ℕ) → (stepped_by applied_step h (text ∷ [])).held ≡ (applied h text).held
unfolding stepped_by
one_text h text = go (eqb (applied h text).answer.refusal.number 0)
  where
    go : (b : Bool) → (cond b (record { fault = 0; held = (applied h text).held }) (applied_step h text)).held ≡ (applied h text).held
    go true = refl
    go false = refl

-- ---- the end and the entries, on what is held for a view

-- texts after the end: the first of the faults, and what is held
record Ended (w : PanelView) (texts : List (List ℕ)) (r : PanelStepped) : Type 0 where
  pub fault : r.fault ≡ or_else (end_fault w) (stepped_by entered (held_sized w) texts).fault
  pub held : r.fault ≡ 0 → r.held ≡ (stepped_by entered (held_sized w) texts).held

module _ (w : PanelView) (f : FitsPanel w) (g : PanelHeld) (same : g ≡ held_panel w) (k : ℕ) (s : List ℕ) (texts : List (List ℕ)) (found : first_texts k s ≡ Some texts) where
  end_said : (held_end 0 g).fault ≡ end_fault w
  end_said = ap (λ (h : PanelHeld). (held_end 0 h).fault) same ∙ end_first 0 w f

  ended_texts : Ended w texts (ended_lines k s g)
  unfolding ended_lines
  ended_texts = rw end_said (go (eqb (end_fault w) 0) refl)
    where
      l : PanelHeld
      l = (held_end 0 g).held

      go : (t : Bool) → eqb (end_fault w) 0 ≡ t → Ended w texts (cond t (stepped_in (passed entered k s (held_end 0 g).held)) (record { fault = end_fault w; held = (held_end 0 g).held }))
      go true e =
          let z : (held_end 0 g).held ≡ held_sized w = ap (λ (h : PanelHeld). (held_end 0 h).held) same ∙ end-held w f (eqb-true (end_fault w) 0 e) in
          let d : PassedTexts entered 1 0 texts (held_end 0 g).held (passed entered k s (held_end 0 g).held) = passed-texts entered k 1 s 0 (held_end 0 g).held texts found in
          record {
            fault = d.fault ∙ ap (λ (h : PanelHeld). (stepped_by entered h texts).fault) z ∙ rw e;
            held = λ y. d.held ∙ ap (λ (h : PanelHeld). (stepped_by entered h texts).held) z;
          }
      go false e = record { fault = rw e; held = λ y. absurd (eqb-false (end_fault w) 0 e y) }

  ended_more : (text : List ℕ) → Ended w (texts ++ (text ∷ [])) (ended_edit k s text g)
  unfolding ended_edit
  ended_more text = go (eqb (ended_lines k s g).fault 0) refl
    where
      r : Ended w texts (ended_lines k s g)
      r = ended_texts

      go : (t : Bool) → eqb (ended_lines k s g).fault 0 ≡ t → Ended w (texts ++ (text ∷ [])) (cond t (entered (ended_lines k s g).held text) (ended_lines k s g))
      go true e =
          let z : (ended_lines k s g).fault ≡ 0 = eqb-true (ended_lines k s g).fault 0 e in
          let none = no_fault (end_fault w) (stepped_by entered (held_sized w) texts).fault (sym ended_texts.fault ∙ z) in
          let last = entries_last (held_sized w) texts text none.1 in
          rw (ended_texts.held z)
          (record {
            fault = sym last.0 ∙ rw (eq-eqb (end_fault w) 0 none.0);
            held = λ y. sym last.1;
          })
      go false e = record { fault = ended_texts.fault ∙ first (eqb (end_fault w) 0) refl; held = λ y. absurd (eqb-false (ended_lines k s g).fault 0 e y) }
        where
          first : (t : Bool) → eqb (end_fault w) 0 ≡ t
              → cond t (stepped_by entered (held_sized w) texts).fault (end_fault w) ≡ cond t (stepped_by entered (held_sized w) (texts ++ (text ∷ []))).fault (end_fault w)
          first true q =
              let z : (stepped_by entered (held_sized w) texts).fault ≡ 0 → ⊥ = λ y. eqb-false (ended_lines k s g).fault 0 e (ended_texts.fault ∙ rw q y) in
              sym (ap (λ (x : PanelStepped). x.fault) (entries_refused (held_sized w) texts (text ∷ []) z))
          first false q = refl

-- where no line is refused it is the fault of them all
ended_fault : (v : PanelView) → FitsPanel v → (edits : List Edit) (texts : List (List ℕ)) → map edit_of texts ≡ edits → (edited_by v edits).fault ≡ 0
    → or_else (end_fault (view_by v edits)) (stepped_by entered (held_sized (view_by v edits)) texts).fault ≡ edits_fault v edits
unfolding edits_fault
ended_fault v f edits texts e z = rw z (go (eqb (end_fault (view_by v edits)) 0) refl)
  where
    go : (t : Bool) → eqb (end_fault (view_by v edits)) 0 ≡ t
        → cond t (stepped_by entered (held_sized (view_by v edits)) texts).fault (end_fault (view_by v edits))
        ≡ cond t (enters_fault (view_by v edits) (calls_of edits)) (end_fault (view_by v edits))
    go true q =
        entries_follow (view_by v edits) (edits_fit v f edits) (eqb-true (end_fault (view_by v edits)) 0 q) texts
        ∙ ap (λ (es : List Edit). enters_fault (view_by v edits) (calls_of es)) e
    go false q = refl

-- ---- the first lines, on what is held for a view

-- lines that were done before the end
record LinesMade (v : PanelView) (k : ℕ) (s : List ℕ) (place : ℕ) (g : PanelHeld) : Type 0 where
  pub texts : List (List ℕ)
  pub found : first_texts k s ≡ Some texts
  pub ends : place ≡ length (history_of 1 texts)
  pub past : (edited_by v (map edit_of texts)).fault ≡ 0
  pub held : g ≡ held_panel (view_by v (map edit_of texts))

module _ (v : PanelView) (f : FitsPanel v) (k : ℕ) (s : List ℕ) (h : PanelHeld) (same : h ≡ held_panel v) where
  module _ (texts : List (List ℕ)) (found : first_texts k s ≡ Some texts) where
    done : PassedTexts applied_step 1 0 texts h (passed applied_step k s h)
    done = passed-texts applied_step k 1 s 0 h texts found

    follows : FollowsEdits (stepped_by applied_step (held_panel v) texts) (edited_by v (map edit_of texts))
    follows = texts_follow texts v f

    lines_fault : (passed applied_step k s h).fault ≡ (edited_by v (map edit_of texts)).fault
    lines_fault = done.fault ∙ ap (λ (g : PanelHeld). (stepped_by applied_step g texts).fault) same ∙ follows.fault

    lines_held : (edited_by v (map edit_of texts)).fault ≡ 0 → (passed applied_step k s h).held ≡ held_panel (view_by v (map edit_of texts))
    lines_held z = done.held ∙ ap (λ (g : PanelHeld). (stepped_by applied_step g texts).held) same ∙ follows.held z

  lines_made : (place : ℕ) (g : PanelHeld) → record { place = Some place; held = g } ≡ placed_in (passed applied_step k s h) → LinesMade v k s place g
  lines_made place g e = go (first_texts k s) refl
    where
      p : Passed
      p = passed applied_step k s h

      parts : (eqb p.fault 0 ≡ true) × (p.place ≡ place)
      parts = cond_some (eqb p.fault 0) p.place place (sym (ap (λ (x : Placed). x.place) e))

      zero_fault : p.fault ≡ 0
      zero_fault = eqb-true p.fault 0 parts.0

      go : (x : Option (List (List ℕ))) → first_texts k s ≡ x → LinesMade v k s place g
      go None q = absurd (passed-none applied_step k 1 s 0 h q zero_fault)
      go (Some texts) q =
          let z : (edited_by v (map edit_of texts)).fault ≡ 0 = sym (lines_fault texts q) ∙ zero_fault in
          record {
            texts = texts;
            found = q;
            ends = omega (arith, parts.1, (done texts q).place zero_fault);
            past = z;
            held = ap (λ (x : Placed). x.held) e ∙ lines_held texts q z;
          }

  lines_unmade : (g : PanelHeld) → record { place = None; held = g } ≡ placed_in (passed applied_step k s h)
      → (texts : List (List ℕ)) → first_texts k s ≡ Some texts → (edited_by v (map edit_of texts)).fault ≡ 0 → ⊥
  lines_unmade g e texts q z =
      none-some (passed applied_step k s h).place (ap (λ (x : Placed). x.place) e ∙ rw (eq-eqb (passed applied_step k s h).fault 0 (lines_fault texts q ∙ z)))

  -- ---- the steps of a recall

  pub steps-unmade : (g : PanelHeld) → record { place = None; held = g } ≡ placed_in (passed applied_step k s h) → StepsAsked v k s None g
  steps-unmade g e texts q z = lines_unmade g e texts q (all-accepted v (map edit_of texts) z).lines

  module _ (place : ℕ) (g : PanelHeld) (e : record { place = Some place; held = g } ≡ placed_in (passed applied_step k s h)) where
    made : LinesMade v k s place g
    made = lines_made place g e

    past_fits : FitsPanel (view_by v (map edit_of made.texts))
    past_fits = edits_fit v f (map edit_of made.texts)

    steps_ended : Ended (view_by v (map edit_of made.texts)) made.texts (ended_lines k s g)
    steps_ended = ended_texts (view_by v (map edit_of made.texts)) past_fits g made.held k s made.texts made.found

    steps_fault : (ended_lines k s g).fault ≡ edits_fault v (map edit_of made.texts)
    steps_fault = steps_ended.fault ∙ ended_fault v f (map edit_of made.texts) made.texts refl made.past

    pub steps-asked : (r : Result (Unit {0}) Fault) (m : PanelHeld) → record { fault = refused_by r; held = m } ≡ ended_lines k s g → StepsAsked v k s (result_ok r) m
    steps-asked (Err fault) m d = λ texts q z.
        fault_some fault
        (ap (λ (x : PanelStepped). x.fault) d ∙ steps_fault
        ∙ ap (λ (ts : List (List ℕ)). edits_fault v (map edit_of ts)) (same_Some made.texts texts (sym made.found ∙ q)) ∙ z)
    steps-asked (Ok u) m d =
        let y : (ended_lines k s g).fault ≡ 0 = sym (ap (λ (x : PanelStepped). x.fault) d) in
        let z : edits_fault v (map edit_of made.texts) ≡ 0 = sym steps_fault ∙ y in
        record {
          texts = made.texts;
          found = made.found;
          accepted = z;
          settles = λ t long. settled_held v f t long made.texts z m (ap (λ (x : PanelStepped). x.held) d ∙ steps_ended.held y);
        }

  -- ---- an edit after the steps

  pub edit-unmade : (text : List ℕ) (g : PanelHeld) → record { place = None; held = g } ≡ placed_in (passed applied_step k s h) → EditAsked v k s text (Err (Whole NoStep)) g
  edit-unmade text g e given = go (first_texts k s) refl
    where
      go : (x : Option (List (List ℕ))) → first_texts k s ≡ x → refused_call (Whole NoStep) given ≡ edited_by_texts v x text given
      go None q = refl
      go (Some texts) q = rw (ne_eqb (edited_by v (map edit_of texts)).fault 0 (lines_unmade g e texts q))

  module _ (place : ℕ) (g : PanelHeld) (e : record { place = Some place; held = g } ≡ placed_in (passed applied_step k s h)) (text : List ℕ) where
    texts : List (List ℕ)
    texts = (made place g e).texts

    found : first_texts k s ≡ Some (made place g e).texts
    found = (made place g e).found

    abbrev w : PanelView
    w = view_by v (map edit_of (made place g e).texts)

    abbrev edits : List Edit
    edits = with_edit (made place g e).texts text

    abbrev all : List (List ℕ)
    all = (made place g e).texts ++ (text ∷ [])

    all_edits : map edit_of all ≡ edits
    all_edits = map-append edit_of (made place g e).texts (text ∷ [])

    joined : edited_by v edits ≡ edited_by w (edit_of text ∷ [])
    joined = edited_append v (map edit_of (made place g e).texts) (edit_of text ∷ []) (made place g e).past

    answered : (applied g text).answer ≡ edit_answer w (edit_of text)
    answered = ap (λ (x : PanelHeld). (applied x text).answer) (made place g e).held ∙ text_answer w (past_fits place g e) text

    -- refused by what all the edits are refused by
    edit_refused : (fault : SheetFault) (n : ℕ) → edits_fault v edits ≡ n → (n ≡ 0 → ⊥) → refused_with fault ≡ paired n (edit_pair w (edit_of text)) → (given : Handed)
        → refused_call fault given ≡ edited_by_texts v (first_texts k s) text given
    unfolding edited_after
    edit_refused fault n d z a given =
        rw (
          a,
          found,
          eq-eqb (edited_by v (map edit_of (made place g e).texts)).fault 0 (made place g e).past,
          d,
          ne_eqb n 0 z,
          pair_same v (map edit_of (made place g e).texts) (edit_of text),
        )

    pub edit-unapplied : (fault : SheetFault) (x : PanelHeld) → record { answer = refused_with fault; held = x } ≡ applied g text → EditAsked v k s text (Err fault) x
    edit-unapplied fault x d =
        let a : refused_with fault ≡ edit_answer w (edit_of text) = ap (λ (y : Applied). y.answer) d ∙ answered in
        let n : (refused_with fault).refusal.number ≡ (edited_by w (edit_of text ∷ [])).fault = ap (λ (y : SheetAnswer). y.refusal.number) a in
        let z : (edited_by w (edit_of text ∷ [])).fault ≡ 0 → ⊥ = λ y. refused-number fault (n ∙ y) in
        edit_refused fault (edited_by w (edit_of text ∷ [])).fault (fault_lines v edits (edited_by w (edit_of text ∷ [])).fault (ap (λ (o : PanelOutcome). o.fault) joined) z) z a

    module _ (x : PanelHeld) (d : record { answer = refused_answer 0 0; held = x } ≡ applied g text) where
      clean : refused_answer 0 0 ≡ edit_answer w (edit_of text)
      clean = ap (λ (y : Applied). y.answer) d ∙ answered

      alone : (edited_by w (edit_of text ∷ [])).fault ≡ 0
      alone = sym (ap (λ (y : SheetAnswer). y.refusal.number) clean)

      lines : (edited_by v edits).fault ≡ 0
      lines = ap (λ (o : PanelOutcome). o.fault) joined ∙ alone

      all_fit : FitsPanel (view_by v edits)
      all_fit = edits_fit v f edits

      all_held : x ≡ held_panel (view_by v edits)
      all_held =
          ap (λ (y : Applied). y.held) d ∙ ap (λ (y : PanelHeld). (applied y text).held) (made place g e).held ∙ sym (one_text (held_panel w) text)
          ∙ (texts_follow (text ∷ []) w (past_fits place g e)).held alone ∙ ap (λ (o : PanelOutcome). held_panel o.panel) (sym joined)

      edit_ended : Ended (view_by v edits) all (ended_edit k s text x)
      edit_ended = ended_more (view_by v edits) all_fit x all_held k s (made place g e).texts found text

      edit_fault : (ended_edit k s text x).fault ≡ edits_fault v edits
      edit_fault = edit_ended.fault ∙ ended_fault v f edits all all_edits lines

      pub edit-unended : (fault : Fault) (m : PanelHeld) → record { fault = number_of fault; held = m } ≡ ended_edit k s text x → EditAsked v k s text (Err (Whole fault)) m
      edit-unended fault m d =
          edit_refused (Whole fault) (number_of fault) (sym edit_fault ∙ sym (ap (λ (y : PanelStepped). y.fault) d)) (fault_some fault)
          (whole_paired fault (edit_pair w (edit_of text)) (sym (ap (λ (y : SheetAnswer). y.earlier) clean)) (sym (ap (λ (y : SheetAnswer). y.later) clean)))

      pub edit-made : (m : PanelHeld) → record { fault = 0; held = m } ≡ ended_edit k s text x → EditMade v k s text place m
      edit-made m d =
          let y : (ended_edit k s text x).fault ≡ 0 = sym (ap (λ (p : PanelStepped). p.fault) d) in
          let z : edits_fault v edits ≡ 0 = sym edit_fault ∙ y in
          let held : m ≡ (stepped_by entered (held_sized (view_by v (map edit_of all))) all).held =
          ap (λ (p : PanelStepped). p.held) d ∙ edit_ended.held y ∙ ap (λ (es : List Edit). (stepped_by entered (held_sized (view_by v es)) all).held) (sym all_edits) in
          record {
            texts = (made place g e).texts;
            found = found;
            ends = (made place g e).ends;
            past = (made place g e).past;
            accepted = z;
            settles = λ t long. settled_held v f t long all (ap (edits_fault v) all_edits ∙ z) m held ∙ ap (edits_held v t) all_edits;
          }
