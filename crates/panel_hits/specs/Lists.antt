-- The two lists of placements under the cursor (document 02, Req 01; SHEET.md, The cursor), whatever the state, the tables, the stores
-- and the item bytes hold. What each list holds, in the words of document 02: Members.
use Rattle.std.specs.Prelude.{ℕ, zero, suc, cond, List, eqb, ltb, ℤ, pos, negsuc, length, Result, Ok, Err}
use Rattle.std.proofs.lemmas.List.Edits.{sets}
use Rattle.coordinates.specs.Refusals.{number_of, count, zero_line, short}
use Rattle.coordinates.specs.declared.refusal.Fault.{Fault}
use Rattle.panel_tables.specs.declared.Grid.{Grid}
use Rattle.panel_rules.specs.Calls.{NameTables, shorter_store}
use Rattle.panel_positions.specs.Cursor.{lines_within}
use Rattle.panel_positions.specs.Cursor.{LinesWithin}
use Rattle.placement_hits.specs.Steps.{place_of}
use Rattle.placement_hits.specs.declared.Question.TheVariants.{Within, Around as AroundPlace}
use Rattle.panel_hits.specs.declared.AxisSpan.{AxisSpan}
use Rattle.panel_hits.specs.declared.Around.{Around}
use Rattle.panel_hits.specs.Settled.{Lent, counts_in, settled_hits}

-- ---- refusals, each under its row, the lowest number first; 0 is none

abbrev pub lower : ℕ → ℕ → ℕ
lower a b = cond (eqb a 0) b (cond (eqb b 0) a (cond (ltb a b) a b))

-- the fault with the lower number
abbrev pub lower_fault : Fault → Fault → Fault
lower_fault a b = cond (ltb (number_of a) (number_of b)) a b

-- what was found, where a check beside it is passed, or the lower of the two faults
abbrev pub checked_of : {A B : Type 0} → Result A Fault → Result B Fault → Result A Fault
checked_of (Ok found) (Ok passed) = Ok found
checked_of (Ok found) (Err fault) = Err fault
checked_of (Err fault) (Ok passed) = Err fault
checked_of (Err a) (Err b) = Err (lower_fault a b)

-- "a line-name store below 32,768 bytes"
abbrev pub store_refusal : ℕ → ℕ
store_refusal shorter = cond (ltb shorter 32768) short 0

-- a given line is -32,768 to 32,767; "a given line 0" is refused by 9
abbrev pub line_refusal : ℤ → ℕ
line_refusal (pos zero) = zero_line
line_refusal (pos (suc n)) = cond (ltb 32767 (suc n)) count 0
line_refusal (negsuc k) = cond (ltb 32767 k) count 0

-- ---- the answers

-- how many placements are listed, or a refusal and 0
pub record HitsAnswer : Type 0 where
  pub number : ℕ
  pub count : ℕ

-- the numbers and values of what a call answers
abbrev pub answered_hits : Result ℕ Fault → HitsAnswer
answered_hits (Ok n) = record { number = 0; count = n }
answered_hits (Err fault) = record { number = number_of fault; count = 0 }

-- an answer, and what the lent list holds
pub record WrittenHits : Type 0 where
  pub answer : HitsAnswer
  pub hits : List ℕ

-- a list from the first place on, or a refusal and nothing written
abbrev pub hits_for : ℕ → List ℕ → List ℕ → WrittenHits
hits_for number list hits =
    cond (eqb number 0)
    (record { answer = record { number = 0; count = length list }; hits = sets hits 0 list })
    (record { answer = record { number = number; count = 0 }; hits = hits })

-- what the lines of the axis and the stores are refused by: 3, 4, 10, and 11 after these
abbrev pub older_of : LinesWithin → NameTables → ℕ
older_of lines t = lower lines.number (store_refusal (shorter_store t))

-- "the placements with both lines within a pixel span, ends included"
unfoldable pub placements_within : Grid → List ℕ → Lent → List ℕ → AxisSpan → List ℕ → WrittenHits
unfolding lines_within settled_hits
placements_within g words l items s hits =
    let lines = lines_within g words s.axis items s.bits.low s.bits.high in
    hits_for (older_of lines l.names) (settled_hits g l s.axis (Within lines.below lines.upto)) hits

-- "those with a given grid line strictly between their own"
unfoldable pub placements_around : Grid → List ℕ → Lent → List ℕ → Around → List ℕ → WrittenHits
unfolding lines_within settled_hits place_of
placements_around g words l items s hits =
    hits_for (lower (older_of (lines_within g words s.axis items 0 0) l.names) (line_refusal s.line))
    (settled_hits g l s.axis (AroundPlace (place_of (counts_in g s.axis) s.line))) hits
