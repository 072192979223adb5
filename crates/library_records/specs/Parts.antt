-- The tracks of a template in parts: at a cursor those of a component, or single tracks in a row.
use Rattle.std.specs.Prelude.{ℕ, zero, suc, ◌+◌, ◌-◌, min, Bool, true, false, cond, ◌&&◌, List, [], ◌∷◌, eqb, get_or, drop}
use Rattle.template_rules.specs.declared.RepetitionCount.{RepetitionCount}
use Rattle.template_rules.specs.declared.RepetitionCount.TheVariants.{Single, Count, AutoFill, AutoFit}
use Rattle.template_rules.specs.Template.{component_of}
use Rattle.track_rules.specs.declared.Cursor.{Cursor}
use Rattle.track_rules.specs.declared.TrackSource.TheVariants.{Template}
use Rattle.track_rules.specs.Steps.{word_total, cursor}
use Rattle.track_record.specs.Repeats.{repeated_of}
use Rattle.library_records.specs.declared.TemplatePart.{TemplatePart}

-- of the component at a cursor, whose word is w: at most n of its tracks
unfoldable pub component_part : ℕ → ℕ → Cursor → ℕ → TemplatePart
unfolding word_total repeated_of
component_part r w u n =
    record {
      repeated = repeated_of w;
      count = min (word_total r w - u.offset) n;
      after = cursor (u.component + 1) (u.offset - word_total r w);
    }

abbrev pub is_single : RepetitionCount → Bool
is_single Single = true
is_single (Count n) = false
is_single AutoFill = false
is_single AutoFit = false

-- whether a component is one track alone, its size at a place of the tables
unfoldable pub single_at : ℕ → ℕ → Bool
unfolding component_of
single_at place w = is_single (component_of w).count && eqb (component_of w).first place

-- how many of the first components are single tracks, their sizes one after the other from `first` on; at most n
unfoldable pub singles_of : ℕ → List ℕ → ℕ → ℕ
unfolding single_at
singles_of first [] n = 0
singles_of first (w ∷ ws) zero = 0
singles_of first (w ∷ ws) (suc n) = cond (single_at first w) (suc (singles_of (suc first) ws n)) 0

-- how many of them start at a cursor
unfoldable pub singles_at : List ℕ → Cursor → ℕ → ℕ
unfolding singles_of repeated_of
singles_at ws u n = cond (eqb u.offset 0) (singles_of (repeated_of (get_or ws u.component 0)).first (drop u.component ws) n) 0

-- m single tracks at a cursor, the size of the first at a place
abbrev pub singles_part : ℕ → Cursor → ℕ → TemplatePart
singles_part first u m = record { repeated = record { first = first; length = m; source = Template; fit = false }; count = m; after = cursor (u.component + m) 0 }

-- the tracks to write at a cursor, at most n of them
unfoldable pub part_at : ℕ → List ℕ → Cursor → ℕ → TemplatePart
unfolding singles_at component_part repeated_of
part_at r ws u n =
    let w = get_or ws u.component 0 in
    cond (eqb (singles_at ws u n) 0) (component_part r w u n) (singles_part (repeated_of w).first u (singles_at ws u n))
