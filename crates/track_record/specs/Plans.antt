-- One past the last open track, component by component.
use Rattle.std.specs.Prelude.{ℕ, ◌+◌, ◌-◌, Bool, false, cond, List, eqb, ltb}
use Rattle.template_rules.specs.Template.{Component}
use Rattle.track_rules.specs.Records.{closed_by, open_to}
use Rattle.track_rules.specs.Steps.{cursor_of, written_at}

-- with n tracks more after track t, closed as f says; `opened` where none of them is open
unfoldable pub open_in : (ℕ → Bool) → ℕ → ℕ → ℕ → ℕ
unfolding open_to
open_in f opened t n = cond (eqb (open_to f n) 0) opened (t + open_to f n)

-- whether track u collapses, where the template starts at track t
abbrev pub closed_from : List ℕ → List Component → (ℕ → Bool) → ℕ → ℕ → Bool
closed_from ns cs item t u = cond (ltb u t) false (closed_by item (written_at cs (cursor_of ns (u - t))) u)
