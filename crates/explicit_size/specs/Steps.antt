-- The count of repetitions in steps: what of a template decides it, whatever the inner size, and the count from that. The laws in proofs/Counted.antt
-- join it to layer 3's answer (Repeat.antt).
use Rattle.std.specs.Prelude.{ℕ, min, cond, Float, Option, Some, None}
use Rattle.std.specs.Float.{binary32}
use Rattle.std.specs.Float.Ieee.{sub, div, lt}
use Rattle.template_rules.specs.Repetitions.{first_space, further_space, whole_of, one_more, held_of}
use Rattle.template_rules.specs.declared.AutoRepeatStrategy.{AutoRepeatStrategy}
use Rattle.template_rules.specs.declared.TemplateSummary.{TemplateSummary}
use Rattle.explicit_size.specs.declared.repeat.RepeatSpaces.{RepeatSpaces}
use Rattle.explicit_size.specs.Repeat.{asks_of}

-- 1 where the first repetition overflows, else one more than the further ones that fit
abbrev pub fit_by : AutoRepeatStrategy → Float → Float → Float → ℕ
fit_by strategy inner first further = cond (lt inner first) 1 (one_more (whole_of strategy (div binary32 (sub binary32 inner first) further)))

-- the spaces of the first and of each further repetition, and the most repetitions that 10,000 tracks leave room for
abbrev pub spaces_of : TemplateSummary → Float → RepeatSpaces
spaces_of s gap = record { first = first_space s gap; further = further_space s gap; most = held_of s.before s.repeated 10000 }

-- none where no automatic repeat counts
unfoldable pub spaces_by : TemplateSummary → Float → Option RepeatSpaces
unfolding held_of
spaces_by s gap = cond (asks_of s) (Some (spaces_of s gap)) None

abbrev pub most_of : Option RepeatSpaces → ℕ
most_of (Some spaces) = spaces.most
most_of None = 0

-- the repetitions at an inner size
unfoldable pub count_by : AutoRepeatStrategy → Float → Option RepeatSpaces → ℕ
count_by strategy inner (Some spaces) = min (fit_by strategy inner spaces.first spaces.further) spaces.most
count_by strategy inner None = 0
