-- Document 02, request 13, on runs of real calls: after an accepted sheet and any calls, one more entry call that is accepted moves little.
use Rattle.std.specs.Prelude.{ℕ, suc, ◌≤◌, ◌<◌, ◌≡◌, ℤ, length}
use mathlib.Core.List.{List, [], ◌∷◌, ◌++◌, Memᴰ}
use Rattle.coordinates.specs.declared.axis.Axis.{Axis}
use Rattle.coordinates.specs.Lines.{to_grid_line}
use Rattle.coordinates.specs.Refusals.{no_refusal}
use Rattle.name_rules.specs.Css.{Bytes, AxisNames, start, end, named, at_line}
use Rattle.name_rules.specs.Conditions.{used_names}
use Rattle.name_rules.specs.OneMore.{line_of_index, MovesLittle}
use Rattle.name_resolver.specs.Placements.{resolved_ends}
use Rattle.track_rules.specs.declared.GridTrack.{GridTrack}
use Rattle.panel_tables.specs.View.{Placement}
use Rattle.sheet_rules.specs.Sheet.{sheet_of, explicit_of}
use Rattle.sheet_rules.specs.Panels.{Tables}
use Rattle.panel_rules.specs.Runs.{Call, refusal_in, Accepted, run_of, size_of, placement_of, record_with, run_with}
use Rattle.panel_rules.specs.Views.{names_after, css_end, placement_at}
use Rattle.panel_rules.specs.Added.{sheet_axis, added, call_entry}

-- all that names the lines of an axis after a run
abbrev pub names_at : List ℕ → List Call → Axis → AxisNames
names_at s calls a = names_after (sheet_of s).view a (added s a calls)

-- one call more
abbrev pub with_call : List Call → Call → List Call
with_call calls c = calls ++ (c ∷ [])

-- a placement that does not use the name of a call: it is of the other axis, or neither of its ends uses the name
pub data Unused (c : Call) (p : Placement) : Type 0 where
  elsewhere : (p.axis ≡ c.axis → ⊥) → Unused c p
  unnamed : (Memᴰ c.name (used_names start (css_end p.start)) → ⊥) → (Memᴰ c.name (used_names end (css_end p.end)) → ⊥) → Unused c p

-- the call is accepted, "on an explicit line"; no entry call changes the explicit count
pub record OneMoreCall (s : List ℕ) (t : Tables) (calls : List Call) (c : Call) : Type 0 where
  pub sheet : Accepted s t
  pub call : refusal_in (run_of s t calls) c ≡ no_refusal
  pub explicit : c.line ≤ suc (explicit_of (sheet_axis s c.axis))

-- the answer for a name with an index, at either end of any placement of any run, is the grid line of that index
pub record AnswersIndexes (s : List ℕ) (t : Tables) (calls : List Call) : Type 0 where
  pub starts : (i : ℕ) (nm : Bytes) (k : ℤ) → i < length (sheet_of s).view.placements → css_end (placement_at (sheet_of s).view i).start ≡ named nm k
      → (resolved_ends (placement_of (run_of s t calls) i).line).first
      ≡ at_line (to_grid_line (explicit_of (sheet_axis s (placement_at (sheet_of s).view i).axis)) (line_of_index (names_at s calls (placement_at (sheet_of s).view i).axis) nm start k))
  pub ends : (i : ℕ) (nm : Bytes) (k : ℤ) → i < length (sheet_of s).view.placements → css_end (placement_at (sheet_of s).view i).end ≡ named nm k
      → (resolved_ends (placement_of (run_of s t calls) i).line).last
      ≡ at_line (to_grid_line (explicit_of (sheet_axis s (placement_at (sheet_of s).view i).axis)) (line_of_index (names_at s calls (placement_at (sheet_of s).view i).axis) nm end k))

pub record OneMoreName (s : List ℕ) (t : Tables) (calls : List Call) (c : Call) : Type 0 where
  -- what the name's own placements are answered moves as lines do
  pub answers : AnswersIndexes s t calls
  pub answers_more : AnswersIndexes s t (with_call calls c)
  pub moves : MovesLittle (names_at s calls c.axis) (names_at s (with_call calls c) c.axis) (call_entry c)
  -- every other placement has the same whole answer
  pub others : (i : ℕ) → Unused c (placement_at (sheet_of s).view i) → placement_of (run_of s t (with_call calls c)) i ≡ placement_of (run_of s t calls) i
  -- sizes and track records stay
  pub sizes : (a : Axis) → size_of (run_of s t (with_call calls c)) a ≡ size_of (run_of s t calls) a
  pub records : (a : Axis) (items : List ℕ) (i : ℕ) → record_with (run_of s t (with_call calls c)) a items i ≡ record_with (run_of s t calls) a items i
  pub lent : (a : Axis) (items : List ℕ) (run : List GridTrack) → run_with (run_of s t (with_call calls c)) a items run ≡ run_with (run_of s t calls) a items run
