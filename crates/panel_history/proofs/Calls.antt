-- What the calls answer and leave, from what the sheet and the edits after it come to. Assumes nothing.
use Rattle.std.proofs.Common.{ℕ, suc, ◌+◌, ◌*◌, ◌<◌, ◌≤◌, ◌≡◌, List, map, Bool, true, false, cond, ◌||◌, leb, ltb, length, refl, sym, ap, ◌∙◌, arith, add-one}
use Rattle.std.specs.Prelude.{Option, Some, None, Ok}
use Rattle.std.proofs.lemmas.Option.{none-some, cond_some}
use borrow.Author.Tests.{eq-eqb, ne_eqb, lt-ltb, le-ltb}
use Rattle.coordinates.specs.declared.refusal.Fault.TheVariants.{NoStep, HistoryFull}
use Rattle.coordinates.specs.Refusals.{short}
use Rattle.history_lines.specs.Lines.{history_line}
use Rattle.history_lines.specs.Written.{place_after, bytes_after}
use Rattle.std.proofs.lemmas.List.Edits.{sets}
use Rattle.panel_tables.specs.declared.Panel.{Panel}
use Rattle.panel_tables.specs.Written.{PanelHeld, panel_held_of}
use Rattle.sheet_step.specs.declared.Draft.{Draft}
use Rattle.sheet_step.specs.Drafts.{held_of}
use Rattle.sheet_rules.specs.declared.SheetFault.{SheetFault}
use Rattle.sheet_rules.specs.declared.SheetFault.TheVariants.{Whole}
use Rattle.sheet_rules.specs.Answers.{SheetAnswer, refused_with}
use Rattle.sheet_rules.specs.Panels.{Tables, tables_in}
use Rattle.sheet_rules.specs.Read.{short_stores}
use Rattle.panel_rules.specs.Runs.{Held}
use Rattle.sheet.specs.Steps.{refused_answer, copied}
use Rattle.edit_rules.specs.Edits.{edit_of}
use Rattle.edit_rules.specs.Replay.{edited_by}
use Rattle.edit_rules.specs.Settled.{edits_fault, edits_held}
use Rattle.edit_rules.specs.Bases.{base_of}
use Rattle.panel_edits.specs.Bases.{base_judgement}
use Rattle.panel_history.specs.declared.History.{History}
use Rattle.panel_history.specs.History.{first_texts, Handed, answered_edit, refused_as, refused, written, edited_after, edited_by_texts, edited, recalled_by_texts, recalled}
use Rattle.panel_history.specs.Steps.{StepsMade, stores_judgement, with_edit, EditMade, refused_call}
use Rattle.panel_history.proofs.Texts.{texts-few}
use Rattle.panel_history.proofs.Replays.{refused-number}

-- the panel of a draft is the one that is held
pub draft-panel : (d : Draft) → d.panel ≡ (held_of d).panel
unfolding panel_held_of
draft-panel d = refl

-- ---- a sheet that is refused

module _ (s : List ℕ) (fault : SheetFault) (e : refused_with fault ≡ base_judgement s) where
  base_fault : (base_of s).fault ≡ 0 → ⊥
  unfolding base_judgement
  base_fault z = refused-number fault (ap (λ (a : SheetAnswer). a.refusal.number) e ∙ z)

  pub edit-base : (text : List ℕ) (h : Handed) → refused_call fault h ≡ edited s text h
  unfolding edited base_judgement
  edit-base text h = rw (e, ne_eqb (base_of s).fault 0 base_fault)

  pub recall-base : (step : ℕ) (h : Handed) → refused_call fault h ≡ recalled s step h
  unfolding recalled base_judgement
  recall-base step h = rw (e, ne_eqb (base_of s).fault 0 base_fault)

-- ---- the stores, in what is handed

module _ (history : History) (w b cs rs bytes : List ℕ) where
  abbrev pub given : Handed
  given = record { history = history; tables = tables_in w b cs rs; bytes = bytes }

  short_there : short_stores (tables_in w b cs rs) ≡ (ltb (length cs) 32768 || ltb (length rs) 32768)
  unfolding tables_in
  short_there = refl

  -- a short one
  refused_short : (fault : SheetFault) → refused_with fault ≡ stores_judgement cs rs → (short_stores (tables_in w b cs rs) ≡ true) × (refused_call fault given ≡ refused short given)
  refused_short fault e = go (ltb (length cs) 32768 || ltb (length rs) 32768) refl e
    where
      go : (t : Bool) → (ltb (length cs) 32768 || ltb (length rs) 32768) ≡ t → refused_with fault ≡ refused_answer (cond t short 0) 0
          → (short_stores (tables_in w b cs rs) ≡ true) × (refused_call fault given ≡ refused short given)
      go true q d = (short_there ∙ q, rw d)
      go false q d = absurd (refused-number fault (ap (λ (a : SheetAnswer). a.refusal.number) d))

  -- or none
  long_stores : refused_answer 0 0 ≡ stores_judgement cs rs → short_stores (tables_in w b cs rs) ≡ false
  long_stores e = go (ltb (length cs) 32768 || ltb (length rs) 32768) refl e
    where
      go : (t : Bool) → (ltb (length cs) 32768 || ltb (length rs) 32768) ≡ t → refused_answer 0 0 ≡ refused_answer (cond t short 0) 0 → short_stores (tables_in w b cs rs) ≡ false
      go true q d = let z : ◌≡◌ {A = ℕ} 0 10 = ap (λ (a : SheetAnswer). a.refusal.number) d in absurd (omega (arith, z))
      go false q d = short_there ∙ q

  -- what is copied out is what the edits leave
  left : (q : PanelHeld) (x : Tables) → x ≡ copied q cs rs → (m : Held) → record { panel = q.panel; tables = copied q (tables_in w b cs rs).column_store (tables_in w b cs rs).row_store } ≡ m
      → record { panel = q.panel; tables = x } ≡ m
  unfolding tables_in
  left q x e m d = rw e d

module _ (s : List ℕ) (e : refused_answer 0 0 ≡ base_judgement s) where
  base_accepted : (base_of s).fault ≡ 0
  unfolding base_judgement
  base_accepted = sym (ap (λ (a : SheetAnswer). a.refusal.number) e)

  -- ---- an edit

  edit_after_base : (text : List ℕ) (h : Handed) → edited s text h ≡ edited_by_texts (base_of s).view (first_texts h.history.step h.bytes) text h
  unfolding edited
  edit_after_base text h = rw (eq-eqb (base_of s).fault 0 base_accepted)

  pub edit-asked : (fault : SheetFault) (text : List ℕ) (h : Handed)
      → ((g : Handed) → refused_call fault g ≡ edited_by_texts (base_of s).view (first_texts h.history.step h.bytes) text g) → refused_call fault h ≡ edited s text h
  edit-asked fault text h a = a h ∙ sym (edit_after_base text h)

  module _ (text : List ℕ) (history : History) (w b cs rs bytes : List ℕ) (place : ℕ) (held : PanelHeld) (m : EditMade (base_of s).view history.step bytes text place held) where
    abbrev h : Handed
    h = record { history = history; tables = tables_in w b cs rs; bytes = bytes }

    -- the step's number is one of 64 bits
    pub edit-step : 2 * history.step ≤ length bytes
    edit-step = texts-few history.step bytes m.texts m.found

    edit_left : edited s text h
        ≡ cond (short_stores h.tables) (refused short h) (written (base_of s).view (map edit_of m.texts) (edit_of text) place (history_line (suc history.step) text) h)
    unfolding edited_after
    edit_left = edit_after_base text h ∙ rw (m.found, m.ends, eq-eqb (edited_by (base_of s).view (map edit_of m.texts)).fault 0 m.past, eq-eqb (edits_fault (base_of s).view (with_edit m.texts text)) 0 m.accepted)

    pub edit-short : (fault : SheetFault) → refused_with fault ≡ stores_judgement cs rs → refused_call fault h ≡ edited s text h
    edit-short fault d = let r = refused_short history w b cs rs bytes fault d in r.1 ∙ sym (edit_left ∙ rw r.0)

    module _ (d : refused_answer 0 0 ≡ stores_judgement cs rs) (n : ℕ) (next : n ≡ history.step + 1) (r : Option ℕ) (f : r ≡ place_after bytes place (history_line n text)) where
      number : n ≡ suc history.step
      number = next ∙ add-one history.step

      edit_long : edited s text h ≡ written (base_of s).view (map edit_of m.texts) (edit_of text) place (history_line (suc history.step) text) h
      edit_long = edit_left ∙ rw (long_stores history w b cs rs bytes d)

      pub edit-full : r ≡ None → (after : List ℕ) → after ≡ bytes_after bytes place (history_line n text)
          → record { answer = refused_as (refused_with (Whole HistoryFull)); tables = h.tables; bytes = after } ≡ edited s text h
      edit-full q after y = go (leb (place + length (history_line (suc history.step) text)) (length bytes)) refl (sym q ∙ f ∙ rw number) (y ∙ rw number)
        where
          go : (t : Bool) → leb (place + length (history_line (suc history.step) text)) (length bytes) ≡ t
              → None ≡ cond t (Some (place + length (history_line (suc history.step) text))) None → after ≡ cond t (sets bytes place (history_line (suc history.step) text)) bytes
              → record { answer = refused_as (refused_with (Whole HistoryFull)); tables = h.tables; bytes = after } ≡ edited s text h
          go true g k l = absurd (none-some (place + length (history_line (suc history.step) text)) k)
          go false g k l = sym (edit_long ∙ rw (g, l))

      pub edit-done : (q : ℕ) → r ≡ Some q → (x : Tables) → x ≡ copied held cs rs → (after : List ℕ) → after ≡ bytes_after bytes place (history_line n text)
          → (p : Panel) → p ≡ held.panel
          → record { answer = answered_edit (Ok (record { panel = p; history = record { step = n; last = n } })); tables = x; bytes = after } ≡ edited s text h
      edit-done q g x c after y p z =
          let fits : leb (place + length (history_line n text)) (length bytes) ≡ true = (cond_some (leb (place + length (history_line n text)) (length bytes)) (place + length (history_line n text)) q (sym f ∙ g)).0 in
          let k : record { panel = held.panel; tables = x } ≡ edits_held (base_of s).view (tables_in w b cs rs) (with_edit m.texts text) =
          left history w b cs rs bytes held x c (edits_held (base_of s).view (tables_in w b cs rs) (with_edit m.texts text)) (m.settles (tables_in w b cs rs) (long_stores history w b cs rs bytes d)) in
          sym (edit_long ∙ rw (z, y, ← number, fits, ← k))

  -- ---- a recall

  recall_after_base : (step : ℕ) (h : Handed) → recalled s step h
      ≡ cond (short_stores h.tables) (refused short h) (cond (ltb h.history.last step) (refused 17 h) (recalled_by_texts (base_of s).view (first_texts step h.bytes) step h))
  unfolding recalled
  recall_after_base step h = rw (eq-eqb (base_of s).fault 0 base_accepted)

  module _ (step : ℕ) (history : History) (w b cs rs bytes : List ℕ) where
    abbrev g : Handed
    g = record { history = history; tables = tables_in w b cs rs; bytes = bytes }

    pub recall-short : (fault : SheetFault) → refused_with fault ≡ stores_judgement cs rs → refused_call fault g ≡ recalled s step g
    recall-short fault d = let r = refused_short history w b cs rs bytes fault d in r.1 ∙ sym (recall_after_base step g ∙ rw r.0)

    module _ (d : refused_answer 0 0 ≡ stores_judgement cs rs) where
      recall_long : recalled s step g ≡ cond (ltb history.last step) (refused 17 g) (recalled_by_texts (base_of s).view (first_texts step bytes) step g)
      recall_long = recall_after_base step g ∙ rw (long_stores history w b cs rs bytes d)

      pub recall-past : history.last < step → refused_call (Whole NoStep) g ≡ recalled s step g
      recall-past l = sym (recall_long ∙ rw (lt-ltb history.last step l))

      module _ (l : step ≤ history.last) where
        recall_asked : recalled s step g ≡ recalled_by_texts (base_of s).view (first_texts step bytes) step g
        recall_asked = recall_long ∙ rw (le-ltb history.last step l)

        pub recall-none : ((texts : List (List ℕ)) → first_texts step bytes ≡ Some texts → edits_fault (base_of s).view (map edit_of texts) ≡ 0 → ⊥)
            → refused_call (Whole NoStep) g ≡ recalled s step g
        recall-none a = sym (recall_asked ∙ go (first_texts step bytes) refl)
          where
            go : (x : Option (List (List ℕ))) → first_texts step bytes ≡ x → recalled_by_texts (base_of s).view x step g ≡ refused_call (Whole NoStep) g
            go None q = refl
            go (Some texts) q = rw (ne_eqb (edits_fault (base_of s).view (map edit_of texts)) 0 (a texts q))

        pub recall-done : (held : PanelHeld) → StepsMade (base_of s).view step bytes held → (x : Tables) → x ≡ copied held cs rs
            → (p : Panel) → p ≡ held.panel
            → record { answer = answered_edit (Ok (record { panel = p; history = record { step = step; last = history.last } })); tables = x; bytes = bytes } ≡ recalled s step g
        recall-done held m x c p z =
            let k : record { panel = held.panel; tables = x } ≡ edits_held (base_of s).view (tables_in w b cs rs) (map edit_of m.texts) =
            left history w b cs rs bytes held x c (edits_held (base_of s).view (tables_in w b cs rs) (map edit_of m.texts)) (m.settles (tables_in w b cs rs) (long_stores history w b cs rs bytes d)) in
            sym (recall_asked ∙ rw (m.found, eq-eqb (edits_fault (base_of s).view (map edit_of m.texts)) 0 m.accepted, z, ← k))
