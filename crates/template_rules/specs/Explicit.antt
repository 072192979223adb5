-- The explicit size of an axis (document 01, layer 3), over the list of its components.
use Rattle.std.specs.Prelude.{ℕ, ◌+◌, ◌*◌, max, Bool, true, cond, not, ◌&&◌, ◌||◌, List, length, ◌==◌, nat_le, Float, Option, Some, None, Result, Ok, Err}
use Rattle.coordinates.specs.Refusals.{Refusal, no_refusal, refusal_of, number_of, value, count, crowded}
use Rattle.coordinates.specs.declared.refusal.Fault.{Fault}
use Rattle.sizing.specs.Words.{zero32}
use Rattle.sizing.specs.Ranges.{up_to, largest_length, sizing_in_range}
use Rattle.sizing.specs.declared.Sizing.{Sizing}
use Rattle.template_rules.specs.Template.{Component}
use Rattle.template_rules.specs.Counts.{outside_count, automatic_count, before_count, automatic_tracks, any_empty, every_fixed}
use Rattle.template_rules.specs.Space.{outside_space, repetition_space}
use Rattle.template_rules.specs.Summary.{meaning_of}
use Rattle.template_rules.specs.Repetitions.{repetitions_of}
use Rattle.template_rules.specs.declared.AutoRepeatStrategy.{AutoRepeatStrategy}
use Rattle.template_rules.specs.declared.ExplicitSize.{ExplicitSize}
use Rattle.template_rules.specs.declared.TemplateSize.{TemplateSize}
use Rattle.template_rules.specs.declared.TemplateSummary.{TemplateSummary}

-- what a caller is answered: a refusal and beside it zeros, or the repetitions of the automatic repeat, the tracks of the template and the explicit tracks
pub record SizeAnswer : Type 0 where
  pub refusal : Refusal
  pub repetitions : ℕ
  pub template : ℕ
  pub explicit : ℕ

-- valid unless "two automatic repeats, one in a template where any track has no fixed kind, a repeat of no tracks, a written count of 0";
-- an empty template has no tracks either way
abbrev pub valid_of : TemplateSummary → Bool
valid_of s = not s.empty && (s.automatic == 0 || (s.automatic == 1 && s.fixed))

-- repetitions and tracks, not cut; an invalid template "counts as no template" (document 02, request 04): 0 repetitions and 0 tracks
abbrev pub size_of : ℕ → ℕ → TemplateSize
size_of repetitions tracks = record { repetitions = repetitions; tracks = tracks }

abbrev pub repeated_size : TemplateSummary → ℕ → TemplateSize
repeated_size s repetitions = size_of repetitions (s.outside + s.repeated * repetitions)

unfoldable pub template_size_of : Option Float → AutoRepeatStrategy → Sizing → TemplateSummary → TemplateSize
unfolding repetitions_of
template_size_of inner strategy gap s =
    cond (valid_of s) (cond (s.automatic == 0) (size_of 0 s.outside) (repeated_size s (repetitions_of inner strategy gap s))) (size_of 0 0)

-- a refused answer is its number alone
abbrev pub refused_size : ℕ → SizeAnswer
refused_size number = record { refusal = refusal_of number; repetitions = 0; template = 0; explicit = 0 }

-- "explicit count is the larger of template count and largest area end − 1"; "above 10,000 is refused by 4"
unfoldable pub with_areas : ℕ → TemplateSize → SizeAnswer
with_areas areas size =
    cond (nat_le (max size.tracks areas) 10000)
    (record { refusal = no_refusal; repetitions = size.repetitions; template = size.tracks; explicit = max size.tracks areas })
    (refused_size count)

-- the inner size that percentages are taken of; with none no sum of sizes is used
abbrev pub inner_value : Option Float → Float
inner_value (Some inner) = inner
inner_value None = zero32

-- "at most 64 components"; "lowest number first": areas that alone pass 10,000 tracks are 4, whatever the template
abbrev pub crowded_by : ℕ → ℕ
crowded_by areas = cond (nat_le areas 10000) crowded count

-- the explicit size from so many components and what is gathered of them
abbrev pub size_from : Option Float → AutoRepeatStrategy → Sizing → ℕ → ℕ → TemplateSummary → SizeAnswer
size_from inner strategy gap areas components s = cond (nat_le components 64) (with_areas areas (template_size_of inner strategy gap s)) (refused_size (crowded_by areas))

-- the explicit size of an axis
unfoldable pub explicit_size_of : Option Float → AutoRepeatStrategy → Sizing → ℕ → List Component → SizeAnswer
unfolding template_size_of with_areas outside_count automatic_count before_count automatic_tracks any_empty every_fixed outside_space repetition_space
explicit_size_of inner strategy gap areas cs = size_from inner strategy gap areas (length cs) (meaning_of (inner_value inner) cs)

-- "inner sizes: f32, 0 to 65,535, no minus zero"; none is in range too
abbrev pub inner_in_range : Option Float → Bool
inner_in_range (Some inner) = up_to largest_length inner
inner_in_range None = true

-- both that a caller gives in sizes
abbrev pub space_in_range : Option Float → Sizing → Bool
space_in_range inner gap = inner_in_range inner && sizing_in_range gap

-- the answer to a caller: 3 before all for "a size outside its range"
unfoldable pub explicit_answer_of : Option Float → AutoRepeatStrategy → Sizing → ℕ → List Component → SizeAnswer
unfolding explicit_size_of
explicit_answer_of inner strategy gap areas cs = cond (space_in_range inner gap) (explicit_size_of inner strategy gap areas cs) (refused_size value)

-- the numbers and values of what a call answers
abbrev pub answered_size : Result ExplicitSize Fault → SizeAnswer
answered_size (Ok size) = record { refusal = no_refusal; repetitions = size.repetitions; template = size.template; explicit = size.explicit }
answered_size (Err fault) = refused_size (number_of fault)
