-- The template's tracks, written out with layer 3's repetitions, are as many as layer 3 counts: so they lie within the explicit count. Assumes nothing.
use Rattle.std.specs.Prelude.{Float, Option}
use mathlib.Core.Path.{◌≡◌, refl, ◌∙◌, ap}
use mathlib.Core.Logic.{⊎_elim}
use mathlib.Core.Bool.{cond}
use mathlib.Core.List.{List, [], ◌∷◌}
use Prim.Native.Nat.{ℕ, ◌+◌, ◌*◌, ◌≤◌, max}
use native.Mathlib.Nat.{mul_comm}
use native.Mathlib.Omega.{arith}
use lib.ListN.{length, length-append}
use Rattle.template_rules.specs.Template.{Component}
use Rattle.sizing.specs.declared.Sizing.{Sizing}
use Rattle.template_rules.specs.Css.{Valid}
use Rattle.template_rules.specs.Summary.{meaning_of}
use Rattle.template_rules.specs.Explicit.{inner_value, template_size_of, explicit_size_of}
use Rattle.template_rules.specs.declared.AutoRepeatStrategy.{AutoRepeatStrategy}
use Rattle.template_rules.proofs.Answer.{accepted, size-counted, size-repeated}
use Rattle.template_rules.proofs.Valid.{one_at_most}
use Rattle.template_rules.specs.Counts.{is_automatic, outside_of, outside_count, automatic_count, automatic_tracks}
use Rattle.template_rules.specs.declared.RepetitionCount.{RepetitionCount}
use Rattle.template_rules.specs.declared.RepetitionCount.TheVariants.{Single, Count, AutoFill, AutoFit}
use Rattle.track_rules.specs.Written.{repeats_of, copies, once_of, written_out}
use Rattle.track_rules.specs.Lines.{OneTrack, OneTrackEach}
use Rattle.track_rules.proofs.Cursors.{length_part}

pub written-more : (c : Component) (cs : List Component) (r : ℕ) → length (written_out (c ∷ cs) r) ≡ repeats_of r c.count * length c.tracks + length (written_out cs r)
unfolding written_out
written-more c cs r = length-append (copies (repeats_of r c.count) (once_of c)) (written_out cs r) ∙ rw (length_part r c)

-- without an automatic repeat
none : (cs : List Component) (r : ℕ) → OneTrackEach cs → automatic_count cs ≡ 0 → length (written_out cs r) ≡ outside_count cs
unfolding written_out outside_count automatic_count
none [] r o z = refl
none (c ∷ cs) r o z = written-more c cs r ∙ go c.count (length c.tracks) (λ y. none cs r o.1 y) o.0 z
  where
    go : (k : RepetitionCount) (n : ℕ) → (automatic_count cs ≡ 0 → length (written_out cs r) ≡ outside_count cs) → OneTrack k n
        → cond (is_automatic k) 1 0 + automatic_count cs ≡ 0
        → repeats_of r k * n + length (written_out cs r) ≡ outside_of k n + outside_count cs
    go Single n rest e y = let q = rest (omega arith) in omega arith
    go (Count t) n rest e y = ap (λ (x : ℕ). t * n + x) (rest (omega arith))
    go AutoFill n rest e y = absurd (omega arith)
    go AutoFit n rest e y = absurd (omega arith)

-- with one at most
pub written_count_lem : (cs : List Component) (r : ℕ) → OneTrackEach cs → automatic_count cs ≤ 1 → length (written_out cs r) ≡ outside_count cs + length (automatic_tracks cs) * r
unfolding written_out outside_count automatic_count automatic_tracks
written_count_lem [] r o z = omega arith
written_count_lem (c ∷ cs) r o z = written-more c cs r ∙ go c.count (length c.tracks) refl (λ y. written_count_lem cs r o.1 y) (λ y. none cs r o.1 y) o.0 z
  where
    go : (k : RepetitionCount) (n : ℕ) → n ≡ length c.tracks
        → (automatic_count cs ≤ 1 → length (written_out cs r) ≡ outside_count cs + length (automatic_tracks cs) * r)
        → (automatic_count cs ≡ 0 → length (written_out cs r) ≡ outside_count cs) → OneTrack k n → cond (is_automatic k) 1 0 + automatic_count cs ≤ 1
        → repeats_of r k * n + length (written_out cs r) ≡ outside_of k n + outside_count cs + length (cond (is_automatic k) c.tracks (automatic_tracks cs)) * r
    go Single n w one plain e y = let q = one (omega arith) in omega arith
    go (Count t) n w one plain e y = ap (λ (x : ℕ). t * n + x) (one (omega arith)) ∙ omega arith
    go AutoFill n w one plain e y = rw (plain (omega arith), w, mul_comm r (length c.tracks)) (omega arith)
    go AutoFit n w one plain e y = rw (plain (omega arith), w, mul_comm r (length c.tracks)) (omega arith)

-- what layer 3 answers covers what is written out: "at most 10,000 tracks in all" is that it isn't refused
pub covers : (cs : List Component) (r areas : ℕ) → OneTrackEach cs → automatic_count cs ≤ 1
    → length (written_out cs r) ≤ max (outside_count cs + length (automatic_tracks cs) * r) areas
covers cs r areas o z = let e = written_count_lem cs r o z in omega arith

-- of what layer 3 answers for a valid template: where it is not refused, that is with at most 10,000 tracks, all that is written out is explicit
module _ (inner : Option Float) (strategy : AutoRepeatStrategy) (gap : Sizing) (areas : ℕ) (cs : List Component) (valid : Valid cs) where
  few : automatic_count cs ≤ 1
  few = ⊎_elim (λ (e : automatic_count cs ≡ 0). omega arith) (λ (e : automatic_count cs ≡ 1). omega arith) (one_at_most cs valid)

  size-tracks : (template_size_of inner strategy gap (meaning_of (inner_value inner) cs)).tracks
      ≡ outside_count cs + length (automatic_tracks cs) * (template_size_of inner strategy gap (meaning_of (inner_value inner) cs)).repetitions
  size-tracks =
      ⊎_elim
      (λ (e : automatic_count cs ≡ 0). rw (size-counted inner strategy gap areas cs valid e) (omega arith))
      (λ (e : automatic_count cs ≡ 1). rw (size-repeated inner strategy gap areas cs valid e))
      (one_at_most cs valid)

  pub size-covers : OneTrackEach cs → (explicit_size_of inner strategy gap areas cs).refusal.number ≡ 0
      → length (written_out cs (explicit_size_of inner strategy gap areas cs).repetitions) ≤ (explicit_size_of inner strategy gap areas cs).explicit
  size-covers o z =
      let (r, t, e) = accepted inner strategy gap areas cs z in
      rw (r, e, size-tracks) (covers cs _ areas o few)
