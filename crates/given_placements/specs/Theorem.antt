-- Placements by argument after an accepted sheet and any entry calls, refused ones included: each is answered as a `place` line with the same ends,
-- one more after those of the sheet, and the first that such a line would be refused for is refused by the same number.
use Rattle.std.specs.Prelude.{◌≡◌, ℕ, suc, false, cond, List, [], ◌∷◌, ◌++◌, eqb, length, ℤ}
use Rattle.std.proofs.lemmas.List.Edits.{sets}
use Rattle.coordinates.specs.declared.axis.Axis.{Axis}
use Rattle.coordinates.specs.declared.axis.Axis.TheVariants.{Column, Row}
use Rattle.coordinates.specs.Axes.{axis_of}
use Rattle.name_rules.specs.Css.{Bytes, Entry}
use Rattle.panel_tables.specs.View.{Placement, PanelView, with_placement}
use Rattle.sheet_rules.specs.Sheet.{sheet_of}
use Rattle.sheet_rules.specs.Panels.{Tables}
use Rattle.library_numbers.specs.Answers.{placement_numbers}
use Rattle.panel_rules.specs.Runs.{Held, Call, run_of, names_of, areas_of}
use Rattle.panel_rules.specs.Views.{placement_after, both}
use Rattle.panel_rules.specs.Added.{added}
use Rattle.panel_resolving.specs.Placements.{numbers_of}
use Rattle.given_placements.specs.declared.GivenPlacement.{GivenPlacement}
use Rattle.given_placements.specs.Ends.{used_end}
use Rattle.given_placements.specs.Given.{start_given, end_given, fault_given, names_after, call_fault, GivenAnswer, GivenWritten, refused_given, given_written}

-- the placement of a `place` line with the same ends
abbrev pub placement_given : GivenPlacement → Bytes → Placement
placement_given g names = record { axis = axis_of g.axis; cell = false; start = used_end (start_given g names); end = used_end (end_given g names) }

-- all of them, each with its own bytes of the names
unfoldable pub placements_given : Bytes → List GivenPlacement → List Placement
placements_given names [] = []
placements_given names (g ∷ gs) = placement_given g names ∷ placements_given (names_after g names) gs

-- the first that is refused, from placement i on, with its refusal; zeros where none is
unfoldable pub first_refused : Bytes → ℕ → List GivenPlacement → GivenAnswer
first_refused names i [] = record { number = 0; index = 0; count = 0 }
first_refused names i (g ∷ gs) =
    cond (eqb (fault_given g names) 0)
    (first_refused (names_after g names) (suc i) gs)
    (record { number = fault_given g names; index = i; count = 0 })

-- the numbers of what each would get as the last `place` line of the panel
unfoldable pub numbers_after : PanelView → (Axis → List Entry) → List Placement → List ℤ
numbers_after v es [] = []
numbers_after v es (p ∷ ps) = numbers_of (placement_numbers (placement_after (with_placement v p) es (length v.placements))) ++ numbers_after v es ps

-- what is answered after a sheet and calls
abbrev pub given_after : List ℕ → Tables → List Call → List GivenPlacement → Bytes → List ℤ → GivenWritten
given_after s t calls gs names lent =
    let h : Held = run_of s t calls in
    given_written h.panel.grid (names_of h.tables) (areas_of h.tables) gs names lent

pub record GivenTheorem (s : List ℕ) (t : Tables) (calls : List Call) (gs : List GivenPlacement) (names : Bytes) (lent : List ℤ) : Type 0 where
  pub placed : call_fault names gs ≡ 0 → (first_refused names 0 gs).number ≡ 0
      → given_after s t calls gs names lent
      ≡ record {
        answer = record { number = 0; index = 0; count = length gs };
        numbers = sets lent 0 (numbers_after (sheet_of s).view (both (added s Column calls) (added s Row calls)) (placements_given names gs));
      }
  pub refused : call_fault names gs ≡ 0 → ((first_refused names 0 gs).number ≡ 0 → ⊥)
      → given_after s t calls gs names lent ≡ record { answer = first_refused names 0 gs; numbers = lent }
  pub call : (call_fault names gs ≡ 0 → ⊥) → given_after s t calls gs names lent ≡ refused_given (call_fault names gs) 0 lent
