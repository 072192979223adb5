-- One turn of each of the two loops over the lines of a history, by what its calls answer. Assumes nothing.
use Rattle.std.proofs.Common.{ℕ, ◌+◌, ◌≤◌, ◌<◌, ◌≡◌, List, refl, sym, ap, ◌∙◌}
use Rattle.std.specs.Prelude.{Option, Some, None, Result, Ok, Err}
use Rattle.std.specs.Result.{result_ok}
use Rattle.std.proofs.lemmas.Option.{none-some}
use borrow.Author.Tests.{eq-eqb, ne_eqb}
use Rattle.coordinates.specs.Refusals.{no_step}
use Rattle.text.specs.Places.{part_at}
use Rattle.history_lines.specs.declared.HistoryLine.{HistoryLine}
use Rattle.history_lines.specs.Found.{line_at}
use Rattle.panel_tables.specs.Written.{PanelHeld, PanelStepped}
use Rattle.sheet_rules.specs.declared.SheetFault.{SheetFault}
use Rattle.sheet.specs.Runs.{HeldRun, held_end}
use Rattle.sheet.specs.Steps.{judgement}
use Rattle.panel_edits.specs.Applied.{Applied, applied, applied_step}
use Rattle.panel_edits.specs.Entered.{entered}
use Rattle.panel_history.specs.Steps.{Passed, passed, placed_in, stepped_in, then_step, end_step, ended_lines, ended_edit}
use Rattle.panel_history.proofs.Passes.{rest, rest-none, rest-missing, rest-refused, rest-next}
use Rattle.panel_history.proofs.Replays.{refused-number}

module _ (s : List ℕ) (count number at : ℕ) (h : PanelHeld) (whole : Passed) where
  -- ---- before the end
  module _ (same : whole ≡ rest applied_step s count number at h) where
    pub apply-none : count < number → record { place = Some at; held = h } ≡ placed_in whole
    apply-none less = ap placed_in (sym (same ∙ rest-none applied_step s count number at h less))

    module _ (more : number ≤ count) (x : Option HistoryLine) (found : x ≡ line_at number s at) where
      pub apply-missing : x ≡ None → record { place = None; held = h } ≡ placed_in whole
      apply-missing e = ap placed_in (sym (same ∙ rest-missing applied_step s count number at h more x found e))

      module _ (line : HistoryLine) (e : x ≡ Some line) (t : List ℕ) (text : t ≡ part_at s line.text) (r : Result (Unit {0}) SheetFault) (g : PanelHeld)
          (done : record { answer = judgement r; held = g } ≡ applied h t) where
        stepped : ◌≡◌ {A = PanelStepped} (record { fault = (judgement r).refusal.number; held = g }) (applied_step h (part_at s line.text))
        stepped = rw (← text) (ap (λ (a : Applied). record { fault = a.answer.refusal.number; held = a.held }) done)

        pub apply-refused : result_ok r ≡ None → record { place = None; held = g } ≡ placed_in whole
        apply-refused q = go r stepped q
          where
            go : (r : Result (Unit {0}) SheetFault) → ◌≡◌ {A = PanelStepped} (record { fault = (judgement r).refusal.number; held = g }) (applied_step h (part_at s line.text))
                → result_ok r ≡ None → record { place = None; held = g } ≡ placed_in whole
            go (Ok u) d q = absurd (none-some u (sym q))
            go (Err fault) d q =
                rw (same ∙ rest-refused applied_step s count number at h more x found line e _ d (refused-number fault), ne_eqb _ 0 (refused-number fault))

        pub apply-next : (u : Unit {0}) → result_ok r ≡ Some u → whole ≡ rest applied_step s count (number + 1) line.after g
        apply-next u q = go r stepped q
          where
            go : (r : Result (Unit {0}) SheetFault) → ◌≡◌ {A = PanelStepped} (record { fault = (judgement r).refusal.number; held = g }) (applied_step h (part_at s line.text))
                → result_ok r ≡ Some u → whole ≡ rest applied_step s count (number + 1) line.after g
            go (Ok u) d q = same ∙ rest-next applied_step s count number at h more x found line e _ d refl
            go (Err fault) d q = absurd (none-some u q)

  -- ---- after it
  module _ (same : whole ≡ rest entered s count number at h) where
    pub enter-none : count < number → record { fault = 0; held = h } ≡ stepped_in whole
    enter-none less = ap stepped_in (sym (same ∙ rest-none entered s count number at h less))

    module _ (more : number ≤ count) (x : Option HistoryLine) (found : x ≡ line_at number s at) where
      pub enter-missing : x ≡ None → record { fault = no_step; held = h } ≡ stepped_in whole
      enter-missing e = ap stepped_in (sym (same ∙ rest-missing entered s count number at h more x found e))

      module _ (line : HistoryLine) (e : x ≡ Some line) (t : List ℕ) (text : t ≡ part_at s line.text) (n : ℕ) (g : PanelHeld)
          (done : record { fault = n; held = g } ≡ entered h t) where
        entered_there : record { fault = n; held = g } ≡ entered h (part_at s line.text)
        entered_there = done ∙ ap (entered h) text

        pub enter-refused : (n ≡ 0 → ⊥) → record { fault = n; held = g } ≡ stepped_in whole
        enter-refused z = ap stepped_in (sym (same ∙ rest-refused entered s count number at h more x found line e _ entered_there z))

        pub enter-next : n ≡ 0 → whole ≡ rest entered s count (number + 1) line.after g
        enter-next z = same ∙ rest-next entered s count number at h more x found line e _ entered_there z

-- ---- the end, and what comes after it

module _ (a : PanelStepped) (next : PanelHeld → PanelStepped) (n : ℕ) (g : PanelHeld) (done : record { fault = n; held = g } ≡ a) where
  then-refused : (n ≡ 0 → ⊥) → record { fault = n; held = g } ≡ then_step a next
  then-refused z = rw (← done, ne_eqb n 0 z)

  then-next : n ≡ 0 → next g ≡ then_step a next
  then-next z = rw (← done, eq-eqb n 0 z)

module _ (k : ℕ) (s : List ℕ) (h : PanelHeld) where
  module _ (n : ℕ) (l : PanelHeld) (done : record { fault = n; line = 0; held = l } ≡ held_end 0 h) where
    ended : record { fault = n; held = l } ≡ end_step h
    ended = ap (λ (r : HeldRun). record { fault = r.fault; held = r.held }) done

    pub end-refused : (n ≡ 0 → ⊥) → record { fault = n; held = l } ≡ ended_lines k s h
    unfolding ended_lines
    end-refused z = then-refused (end_step h) (λ g. stepped_in (passed entered k s g)) n l ended z

    pub end-next : n ≡ 0 → stepped_in (passed entered k s l) ≡ ended_lines k s h
    unfolding ended_lines
    end-next z = then-next (end_step h) (λ g. stepped_in (passed entered k s g)) n l ended z

  module _ (text : List ℕ) (n : ℕ) (l : PanelHeld) (done : record { fault = n; held = l } ≡ ended_lines k s h) where
    pub past-refused : (n ≡ 0 → ⊥) → record { fault = n; held = l } ≡ ended_edit k s text h
    unfolding ended_edit
    past-refused z = then-refused (ended_lines k s h) (λ g. entered g text) n l done z

    pub past-next : n ≡ 0 → entered l text ≡ ended_edit k s text h
    unfolding ended_edit
    past-next z = then-next (ended_lines k s h) (λ g. entered g text) n l done z
