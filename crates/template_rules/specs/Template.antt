-- A template as a list of components (document 01, layer 3; CSS Grid Level 2, 7.2), and the words that hold one.
use Rattle.std.specs.Prelude.{ℕ, zero, suc, ◌+◌, ◌*◌, ◌/◌, ◌%◌, cond, List, [], ◌∷◌, map, ◌==◌, slice_index}
use Rattle.sizing.specs.Words.{min_max_of}
use Rattle.sizing.specs.declared.MinMax.{MinMax}
use Rattle.template_rules.specs.declared.Template.{Template}
use Rattle.template_rules.specs.declared.RepetitionCount.{RepetitionCount}
use Rattle.template_rules.specs.declared.RepetitionCount.TheVariants.{Single, Count, AutoFill, AutoFit}
use Rattle.template_rules.specs.declared.GridTemplateComponent.{GridTemplateComponent}

-- a component of a template: a single track, or a repeat with its count, and its tracks
pub record Component : Type 0 where
  pub count : RepetitionCount
  pub tracks : List MinMax

-- the word of a component: a number below 2^16, a kind times 2^16 (0 single, 1 counted, 2 fill, 3 fit),
-- the place of its first track times 2^32, and how many tracks it has times 2^48
abbrev pub count_of : ℕ → ℕ → RepetitionCount
count_of kind number = cond (kind == 0) Single (cond (kind == 1) (Count number) (cond (kind == 2) AutoFill AutoFit))

abbrev pub length_of : ℕ → ℕ → ℕ
length_of kind length = cond (kind == 0) 1 length

unfoldable pub component_of : ℕ → GridTemplateComponent
component_of w =
    record {
      count = count_of (w / 65536 % 4) (w % 65536);
      first = w / 4294967296 % 65536;
      length = length_of (w / 65536 % 4) (w / 281474976710656);
    }

-- the kind and the number of a count in the word of its component
abbrev pub count_kind : RepetitionCount → ℕ
count_kind Single = 0
count_kind (Count n) = 1
count_kind AutoFill = 2
count_kind AutoFit = 3

abbrev pub count_number : RepetitionCount → ℕ
count_number Single = 0
count_number (Count n) = n
count_number AutoFill = 0
count_number AutoFit = 0

unfoldable pub component_word : ℕ → ℕ → ℕ → ℕ → ℕ
component_word number kind first length = number % 65536 + kind % 4 * 65536 + first % 65536 * 4294967296 + length % 65536 * 281474976710656

-- the track at a place of the tables of minimum and maximum sizes; past their ends a word is 0
abbrev pub track_at : List ℕ → List ℕ → ℕ → MinMax
track_at minimums maximums place = min_max_of (slice_index minimums place) (slice_index maximums place)

-- n tracks from a place on
unfoldable pub tracks_from : List ℕ → List ℕ → ℕ → ℕ → List MinMax
tracks_from minimums maximums place zero = []
tracks_from minimums maximums place (suc n) = track_at minimums maximums place ∷ tracks_from minimums maximums (suc place) n

-- a component with its tracks
abbrev pub with_tracks : List ℕ → List ℕ → GridTemplateComponent → Component
with_tracks minimums maximums c = record { count = c.count; tracks = tracks_from minimums maximums c.first c.length }

-- the template that three tables hold
unfoldable pub template_of : List ℕ → List ℕ → List ℕ → List Component
unfolding component_of tracks_from
template_of words minimums maximums = map (λ (w : ℕ). with_tracks minimums maximums (component_of w)) words

-- the template of a struct of the three
abbrev pub components_of : Template → List Component
components_of t = template_of t.components.now t.sizes.minimums.now t.sizes.maximums.now
