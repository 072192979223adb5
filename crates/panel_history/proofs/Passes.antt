-- Lines that are done one after the other are done on the texts that are found. Assumes nothing.
use Rattle.std.proofs.Common.{ℕ, zero, suc, ◌+◌, ◌-◌, ◌≤◌, ◌<◌, ◌≡◌, List, [], ◌∷◌, Bool, true, false, cond, eqb, length, refl, sym, ap, ◌∙◌, arith, add-one, length-append}
use Rattle.std.specs.Prelude.{Option, Some, None}
use Rattle.std.proofs.lemmas.Option.{none-some, same_Some}
use borrow.Author.Tests.{eq-eqb, ne_eqb, eqb-false}
use Rattle.coordinates.specs.Refusals.{no_step}
use Rattle.text.specs.Places.{part_at}
use Rattle.history_lines.specs.declared.HistoryLine.{HistoryLine}
use Rattle.history_lines.specs.Lines.{history_line, history_of}
use Rattle.history_lines.specs.Found.{line_at}
use Rattle.history_lines.proofs.Exactly.{LineThere, line-there}
use Rattle.panel_tables.specs.Written.{PanelHeld, PanelStepped}
use Rattle.panel_history.specs.History.{onto, text_before, texts_from}
use Rattle.panel_edits.specs.Steps.{TextStep, stepped_by}
use Rattle.panel_history.specs.Steps.{Passed, stopped, passed_on, passed_line, passed_from}
use Rattle.panel_history.proofs.Texts.{text-there}

-- ---- one turn of the loop over the lines

module _ (f : TextStep) (s : List ℕ) (count number at : ℕ) (h : PanelHeld) where
  -- what remains
  abbrev pub rest : Passed
  rest = passed_from f (count + 1 - number) number s at h

  pub rest-none : count < number → rest ≡ record { fault = 0; place = at; held = h }
  unfolding passed_from
  rest-none less = let k : count + 1 - number ≡ 0 = omega arith in rw k

  module _ (more : number ≤ count) (x : Option HistoryLine) (found : x ≡ line_at number s at) where
    pub rest-missing : x ≡ None → rest ≡ stopped no_step h
    unfolding passed_from
    rest-missing e = let k : count + 1 - number ≡ suc (count - number) = omega arith in rw (k, sym found, e)

    module _ (line : HistoryLine) (e : x ≡ Some line) (a : PanelStepped) (done : a ≡ f h (part_at s line.text)) where
      turn : rest ≡ passed_on (passed_from f (count + 1 - (number + 1)) (number + 1) s line.after) a
      unfolding passed_from
      turn = let k : count + 1 - number ≡ suc (count + 1 - (number + 1)) = omega arith in rw (k, sym found, e, sym done, add-one number)

      pub rest-refused : (a.fault ≡ 0 → ⊥) → rest ≡ stopped a.fault a.held
      rest-refused z = turn ∙ rw (ne_eqb a.fault 0 z)

      pub rest-next : a.fault ≡ 0 → rest ≡ passed_from f (count + 1 - (number + 1)) (number + 1) s line.after a.held
      rest-next z = turn ∙ rw (eq-eqb a.fault 0 z)

-- ---- over the texts

-- lines that are passed are those of the texts, done in their order, up to the place after them
pub record PassedTexts (f : TextStep) (n : ℕ) (p : ℕ) (texts : List (List ℕ)) (h : PanelHeld) (r : Passed) : Type 0 where
  pub fault : r.fault ≡ (stepped_by f h texts).fault
  pub held : r.held ≡ (stepped_by f h texts).held
  pub place : r.fault ≡ 0 → r.place ≡ p + length (history_of n texts)

pub passed-texts : (f : TextStep) (k n : ℕ) (s : List ℕ) (p : ℕ) (h : PanelHeld) (texts : List (List ℕ)) → texts_from k n s p ≡ Some texts
    → PassedTexts f n p texts h (passed_from f k n s p h)
unfolding texts_from passed_from stepped_by history_of
passed-texts f zero n s p h texts e =
    let i : [] ≡ texts = same_Some [] texts e in
    rw (← i) (record { fault = refl; held = refl; place = λ z. omega arith })
passed-texts f (suc k) n s p h texts e = go (line_at n s p) refl (passed-texts f k (suc n) s) e
  where
    go : (x : Option HistoryLine) → line_at n s p ≡ x
        → ((q : ℕ) (g : PanelHeld) (ts : List (List ℕ)) → texts_from k (suc n) s q ≡ Some ts → PassedTexts f (suc n) q ts g (passed_from f k (suc n) s q g))
        → text_before s (texts_from k (suc n) s) x ≡ Some texts → PassedTexts f n p texts h (passed_line f s (passed_from f k (suc n) s) h x)
    go None q i r = absurd (none-some texts r)
    go (Some line) q i r = after (texts_from k (suc n) s line.after) refl r
      where
        there : LineThere n s p line
        there = line-there n s p line q

        long : line.after ≡ p + length (history_line n (part_at s line.text))
        long = rw (text-there k n s p line there) (ap (λ (l : HistoryLine). l.after) there.place)

        after : (y : Option (List (List ℕ))) → texts_from k (suc n) s line.after ≡ y → onto (part_at s line.text) y ≡ Some texts
            → PassedTexts f n p texts h (passed_on (passed_from f k (suc n) s line.after) (f h (part_at s line.text)))
        after None d g = absurd (none-some texts g)
        after (Some ts) d g = rw (← same_Some (part_at s line.text ∷ ts) texts g) (one (eqb (f h (part_at s line.text)).fault 0) refl)
          where
            text : List ℕ
            text = part_at s line.text

            a : PanelStepped
            a = f h text

            one : (t : Bool) → eqb a.fault 0 ≡ t → PassedTexts f n p (text ∷ ts) h (cond t (passed_from f k (suc n) s line.after a.held) (stopped a.fault a.held))
            one true z =
                let m = i line.after a.held ts d in
                record {
                  fault = m.fault ∙ rw z;
                  held = m.held ∙ rw z;
                  place = λ y. omega (arith, m.place y, long, length-append (history_line n text) (history_of (suc n) ts));
                }
            one false z = record { fault = rw z; held = rw z; place = λ y. absurd (eqb-false a.fault 0 z y) }

-- where a line is missing, or a text is refused before it, the lines are not passed
pub passed-none : (f : TextStep) (k n : ℕ) (s : List ℕ) (p : ℕ) (h : PanelHeld) → texts_from k n s p ≡ None → (passed_from f k n s p h).fault ≡ 0 → ⊥
unfolding texts_from passed_from
passed-none f zero n s p h e z = absurd (none-some [] (sym e))
passed-none f (suc k) n s p h e z = go (line_at n s p) (passed-none f k (suc n) s) e z
  where
    go : (x : Option HistoryLine) → ((q : ℕ) (g : PanelHeld) → texts_from k (suc n) s q ≡ None → (passed_from f k (suc n) s q g).fault ≡ 0 → ⊥)
        → text_before s (texts_from k (suc n) s) x ≡ None → (passed_line f s (passed_from f k (suc n) s) h x).fault ≡ 0 → ⊥
    go None i r y = omega (arith, y)
    go (Some line) i r y = after (texts_from k (suc n) s line.after) refl r
      where
        after : (o : Option (List (List ℕ))) → texts_from k (suc n) s line.after ≡ o → onto (part_at s line.text) o ≡ None → ⊥
        after (Some ts) d g = none-some (part_at s line.text ∷ ts) (sym g)
        after None d g = one (eqb (f h (part_at s line.text)).fault 0) refl y
          where
            one : (t : Bool) → eqb (f h (part_at s line.text)).fault 0 ≡ t
                → (cond t (passed_from f k (suc n) s line.after (f h (part_at s line.text)).held) (stopped (f h (part_at s line.text)).fault (f h (part_at s line.text)).held)).fault ≡ 0 → ⊥
            one true q w = i line.after (f h (part_at s line.text)).held d w
            one false q w = eqb-false (f h (part_at s line.text)).fault 0 q w
