-- What an edit and a recall come to where the run theorem holds. Assumes nothing.
use Prim.Native.Nat.{ℕ, suc, ◌+◌, ◌≤◌, ◌<◌}
use mathlib.Core.Path.{◌≡◌, sym, ap, ◌∙◌, subst}
use mathlib.Core.List.{List, [], ◌∷◌, ◌++◌, map, map-append}
use mathlib.Core.Bool.{false}
use native.Mathlib.Omega.{arith}
use lib.ListN.{length, take, drop, length-append}
use lib.Seq.{take-append_seam, take-length}
use borrow.Author.Tests.{eq-eqb, ne_eqb, le-leb, lt-leb, lt-ltb, le-ltb}
use Rattle.std.specs.Prelude.{Some}
use Rattle.coordinates.specs.Refusals.{refusal_of, history_full, no_step}
use Rattle.text.proofs.Cut.{AllFree}
use Rattle.history_lines.specs.Lines.{history_line, history_of}
use Rattle.history_lines.specs.Written.{bytes_after}
use Rattle.history_lines.proofs.Histories.{history_append}
use Rattle.panel_tables.specs.View.{PanelView}
use Rattle.sheet_rules.specs.Sheet.{outcome, sheet_of}
use Rattle.sheet_rules.specs.Panels.{Tables}
use Rattle.sheet_rules.specs.Read.{short_stores}
use Rattle.sheet_rules.proofs.Fits.{sheet_fits}
use Rattle.panel_rules.specs.Runs.{Held, Accepted}
use Rattle.panel_rules.proofs.Sheets.{accepted_sheet}
use Rattle.edit_rules.specs.Edits.{Edit, edit_of}
use Rattle.edit_rules.specs.Replay.{edited_by}
use Rattle.edit_rules.specs.Settled.{edits_fault, edits_held}
use Rattle.edit_rules.specs.Bases.{base_of}
use Rattle.edit_rules.proofs.Bases.{base_accepted}
use Rattle.edit_rules.proofs.Held.{all-accepted}
use Rattle.panel_history.specs.History.{Handed, first_texts, refused_with_pair, refused, settled, pair_of, edited_after, edited, recalled}
use Rattle.history_demands.specs.Acts.{handed, all_steps, Reached, panel_held, past_edits}
use Rattle.history_demands.specs.Run.{AsLong, GivenBy, RunTheorem}
use Rattle.history_demands.specs.Edited.{texts_with, fault_with, Fits, Unfit}
use Rattle.history_demands.proofs.Texts.{one-line, first-found, read-free}
use Rattle.history_demands.proofs.Fit.{stores-kept, as-long, long-too}

module _ (s : List ℕ) (t : Tables) (ok : Accepted s t) where
  abbrev pub v : PanelView
  v = (sheet_of s).view

  base : base_of s ≡ outcome 0 0 v
  base = base_accepted s (accepted_sheet s t ok).0

  -- tables that edits of the sheet are held in
  pub given-long : (edits : List Edit) (h : Held) → edits_fault v edits ≡ 0 → GivenBy s t edits h → AsLong h.tables t
  given-long edits h z g =
      subst (λ (x : Held). AsLong x.tables t) (sym g.held)
      (as-long (edits_held v g.lent edits).tables g.lent t
      (stores-kept v g.lent edits (sheet_fits s) (long-too g.lent t g.stores (accepted_sheet s t ok).1) z) g.stores)

  module _ (bytes : List ℕ) (r : Reached) (k : RunTheorem s t bytes r) where
    abbrev texts : List (List ℕ)
    texts = all_steps r.steps

    abbrev h : Handed
    h = handed r.held

    pub past_accepted : edits_fault v (past_edits r.steps) ≡ 0
    past_accepted = rw (take-append_seam r.steps.past r.steps.future) at (k.accepted (length r.steps.past))

    all_accepted : edits_fault v (map edit_of texts) ≡ 0
    all_accepted = rw (take-length texts) at (k.accepted (length texts))

    free : AllFree 10 texts
    free = read-free v texts (all-accepted v (map edit_of texts) all_accepted).lines

    found : (j : ℕ) → j ≤ length texts → first_texts j r.held.bytes ≡ Some (take j texts)
    found j l = first-found texts r.held.bytes (drop (length (history_of 1 texts)) r.held.bytes) j free k.lines l

    found-past : first_texts r.held.history.step r.held.bytes ≡ Some r.steps.past
    found-past =
        ap (λ (j : ℕ). first_texts j r.held.bytes) k.step
        ∙ found (length r.steps.past) (omega (arith, length-append r.steps.past r.steps.future))
        ∙ ap (λ (l : List (List ℕ)). Some l) (take-append_seam r.steps.past r.steps.future)

    pub tables-long : AsLong r.held.tables t
    tables-long = given-long (past_edits r.steps) (panel_held r.held) past_accepted k.panel

    not_short : short_stores r.held.tables ≡ false
    not_short = long-too r.held.tables t tables-long (accepted_sheet s t ok).1

    -- ---- an edit

    module _ (text : List ℕ) where
      abbrev place : ℕ
      place = length (history_of 1 r.steps.past)

      abbrev added : List ℕ
      added = history_line (suc r.held.history.step) text

      abbrev e : Edit
      e = edit_of text

      pub added-line : history_of 1 (texts_with r.steps text) ≡ history_of 1 r.steps.past ++ added
      added-line =
          history_append 1 r.steps.past (text ∷ [])
          ∙ ap (λ (l : List ℕ). history_of 1 r.steps.past ++ l) (one-line (1 + length r.steps.past) text ∙ ap (λ (n : ℕ). history_line n text) (omega (arith, k.step)))

      pub new-length : place + length added ≡ length (history_of 1 (texts_with r.steps text))
      new-length = sym (ap length added-line ∙ length-append (history_of 1 r.steps.past) added)

      pub edits-with : past_edits r.steps ++ (e ∷ []) ≡ map edit_of (texts_with r.steps text)
      edits-with = sym (map-append edit_of r.steps.past (text ∷ []))

      same_fault : edits_fault v (past_edits r.steps ++ (e ∷ [])) ≡ fault_with s r.steps text
      same_fault = ap (edits_fault v) edits-with

      after-past : edited s text h ≡ edited_after v (past_edits r.steps) e place added h
      unfolding edited
      after-past =
          rw (
            base,
            found-past,
            eq-eqb (edited_by v (past_edits r.steps)).fault 0 (all-accepted v (past_edits r.steps) past_accepted).lines,
          )

      pub edit-refused : (fault_with s r.steps text ≡ 0 → ⊥)
          → edited s text h ≡ refused_with_pair (refusal_of (fault_with s r.steps text)) (pair_of v (past_edits r.steps) e) h
      unfolding edited_after
      edit-refused n = after-past ∙ rw (same_fault, ne_eqb (fault_with s r.steps text) 0 n)

      pub edit-full : fault_with s r.steps text ≡ 0 → Unfit r.steps text r.held.bytes → edited s text h ≡ refused history_full h
      unfolding edited_after
      edit-full z u = after-past ∙ rw (same_fault, eq-eqb (fault_with s r.steps text) 0 z, not_short, new-length, lt-leb (length (history_of 1 (texts_with r.steps text))) (length r.held.bytes) u)

      pub edit-taken : fault_with s r.steps text ≡ 0 → Fits r.steps text r.held.bytes
          → edited s text h
          ≡ settled v (map edit_of (texts_with r.steps text)) (record { step = suc r.held.history.step; last = suc r.held.history.step }) (bytes_after r.held.bytes place added) h
      unfolding edited_after
      edit-taken z f =
          after-past
          ∙ rw (same_fault, eq-eqb (fault_with s r.steps text) 0 z, not_short, new-length, le-leb (length (history_of 1 (texts_with r.steps text))) (length r.held.bytes) f, edits-with)

    -- ---- a recall

    module _ (j : ℕ) where
      pub recall-above : r.held.history.last < j → recalled s j h ≡ refused no_step h
      unfolding recalled
      recall-above l = rw (base, not_short, lt-ltb r.held.history.last j l)

      pub recall-taken : j ≤ r.held.history.last
          → recalled s j h ≡ settled v (map edit_of (take j texts)) (record { step = j; last = r.held.history.last }) r.held.bytes h
      unfolding recalled
      recall-taken l =
          rw (
            base,
            not_short,
            le-ltb r.held.history.last j l,
            found j (omega (arith, l, k.last)),
            eq-eqb (edits_fault v (map edit_of (take j texts))) 0 (k.accepted j),
          )
