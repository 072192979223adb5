-- What holds of the Rust's vector between two components of the template, and that pushing tracks keeps it. Assumes nothing.
use Prim.Native.Nat.{ℕ, zero, suc, ◌+◌, ◌-◌, ◌≤◌, ◌<◌}
use native.Mathlib.Omega.{arith}
use mathlib.Core.Path.{◌≡◌, refl, sym, ap, ◌∙◌}
use mathlib.Core.Logic.{⊎_elim}
use mathlib.Core.Bool.{Bool, true, false, cond, not, ◌&&◌, ◌||◌}
use mathlib.Core.List.{List}
use lib.Dec.{leb, eqb}
use borrow.Author.Tests.{eqb-true, eqb-false}
use Rattle.std.proofs.lemmas.Bool.{cases_lt}
use Rattle.sizing.specs.declared.MinMax.{MinMax}
use Rattle.track_rules.specs.declared.WrittenTrack.{WrittenTrack}
use Rattle.track_rules.specs.declared.AxisTracks.{AxisTracks}
use Rattle.track_rules.specs.Records.{negative_of, explicit_of, positive_of, tracks_in, closed_by, open_to}
use Rattle.track_rules.specs.Rust.{RustTrack, pushes, close_back, never, State, state, limit}
use Rattle.track_rules.proofs.Raw.{or-none, or-twice, raw, raw_same, raw-push, raw-close}

-- the flag b: whether a fit repeat ended the grid
abbrev pub mixed : (ℕ → Bool) → ℕ → Bool → ℕ → Bool
mixed f n b zero = false || (b && leb (open_to f n) 0)
mixed f n b (suc t) = f t || (b && leb (open_to f n) (suc t))

abbrev pub size_by : (ℕ → WrittenTrack) → ℕ → MinMax
size_by T t = (T t).size

abbrev pub closed_for : (ℕ → Bool) → (ℕ → WrittenTrack) → ℕ → Bool
closed_for item T t = closed_by item (T t) t

-- what holds between two components
pub record Good (a : AxisTracks) (item : ℕ → Bool) (T : ℕ → WrittenTrack) (s : State) (b : Bool) : Type 0 where
  pub made_so : s.tracks ≡ raw a.gap (size_by T) (closed_for item T) (mixed (closed_for item T) (tracks_in a) b) s.at
  pub within : s.at ≤ limit a
  pub ended : b ≡ true → s.at ≡ tracks_in a
  pub last : b ≡ false → s.at ≡ tracks_in a → 0 < tracks_in a → closed_for item T (tracks_in a - 1) ≡ false

pub no : {A : Type 0} → ◌≡◌ {A = Bool} true false → A
no e = let z : ◌≡◌ {A = ℕ} 0 1 = cc in absurd (omega arith)

module _ (a : AxisTracks) (item : ℕ → Bool) (T : ℕ → WrittenTrack) where
  push-raw : (s : State) (b : Bool) → Good a item T s b → (z : ℕ → MinMax) (c : ℕ → Bool) (n : ℕ) → n ≤ limit a - s.at →
      ((i : ℕ) → i < n → z i ≡ size_by T (s.at + i)) → ((i : ℕ) → i < n → c i ≡ closed_for item T (s.at + i)) →
      pushes a.gap z c n s.tracks ≡ raw a.gap (size_by T) (closed_for item T) (mixed (closed_for item T) (tracks_in a) b) (s.at + n)
  push-raw s b g z c n h hz hc =
      ap (pushes a.gap z c n) g.made_so
      ∙ raw-push a.gap (size_by T) (closed_for item T) (mixed (closed_for item T) (tracks_in a) b) z c s.at n hz hc (λ i k. flag b g.ended i k)
    where
      flag : (b : Bool) → (b ≡ true → s.at ≡ tracks_in a) → (i : ℕ) → i < n → mixed (closed_for item T) (tracks_in a) b (suc (s.at + i)) ≡ closed_for item T (s.at + i)
      flag true e i k = absurd (omega (arith, e refl))
      flag false e i k = or-none (closed_for item T (s.at + i))

  pub plain-good : (s : State) (b : Bool) → Good a item T s b → (z : ℕ → MinMax) (n : ℕ) → n ≤ limit a - s.at →
      ((i : ℕ) → i < n → z i ≡ size_by T (s.at + i)) → ((i : ℕ) → i < n → false ≡ closed_for item T (s.at + i)) →
      Good a item T (state (pushes a.gap z never n s.tracks) (s.at + n)) b
  plain-good s b g z n h hz hc =
      record {
        made_so = push-raw s b g z never n h hz hc;
        within = omega (arith, g.within);
        ended = λ e. omega (arith, g.ended e);
        last = λ e k pos.
            ⊎_elim
            (λ (x : n < 1). g.last e (omega arith) pos)
            (λ (x : 1 ≤ n). let y : tracks_in a - 1 ≡ s.at + (n - 1) = omega arith in rw y (sym (hc (n - 1) (omega arith))))
            (cases_lt n 1);
      }

  pub fit-good : (s : State) (b : Bool) → Good a item T s b → (z : ℕ → MinMax) (n : ℕ) → n ≤ limit a - s.at →
      ((i : ℕ) → i < n → z i ≡ size_by T (s.at + i)) → ((i : ℕ) → i < n → not (item (s.at + i)) ≡ closed_for item T (s.at + i)) →
      let o = pushes a.gap z (λ i. not (item (s.at + i))) n s.tracks in
      Good a item T (state (cond (eqb (s.at + n) (negative_of a + explicit_of a + positive_of a)) (close_back o) o) (s.at + n)) (eqb (s.at + n) (tracks_in a))
  fit-good s b g z n h hz hc = go (eqb (s.at + n) (tracks_in a)) refl
    where
      o : List RustTrack
      o = pushes a.gap z (λ i. not (item (s.at + i))) n s.tracks

      pushed : o ≡ raw a.gap (size_by T) (closed_for item T) (mixed (closed_for item T) (tracks_in a) b) (s.at + n)
      pushed = push-raw s b g z (λ i. not (item (s.at + i))) n h hz hc

      again : s.at + n ≡ tracks_in a → (x : ℕ) → (mixed (closed_for item T) (tracks_in a) b x || leb (open_to (closed_for item T) (s.at + n)) x) ≡ mixed (closed_for item T) (tracks_in a) true x
      again e zero = rw e (or-twice false b (leb (open_to (closed_for item T) (tracks_in a)) 0))
      again e (suc t) = rw e (or-twice (closed_for item T t) b (leb (open_to (closed_for item T) (tracks_in a)) (suc t)))

      off : (c : Bool) → b ≡ c → eqb (s.at + n) (tracks_in a) ≡ false → b ≡ false
      off true e q = absurd (eqb-false (s.at + n) (tracks_in a) q (omega (arith, g.ended e)))
      off false e q = e

      go : (t : Bool) → eqb (s.at + n) (tracks_in a) ≡ t → Good a item T (state (cond t (close_back o) o) (s.at + n)) t
      go true e =
          let q = eqb-true (s.at + n) (tracks_in a) e in
          record {
            made_so = ap close_back pushed ∙ raw-close a.gap (size_by T) (closed_for item T) (mixed (closed_for item T) (tracks_in a) b) (s.at + n)
                ∙ raw_same a.gap (size_by T) (closed_for item T) _ (mixed (closed_for item T) (tracks_in a) true) (s.at + n) (λ x k. again q x);
            within = omega (arith, g.within);
            ended = λ x. q;
            last = λ x. no x;
          }
      go false e =
          record {
            made_so = pushed ∙ ap (λ (c : Bool). raw a.gap (size_by T) (closed_for item T) (mixed (closed_for item T) (tracks_in a) c) (s.at + n)) (off b refl e);
            within = omega (arith, g.within);
            ended = λ x. no (sym x);
            last = λ x k pos. absurd (eqb-false (s.at + n) (tracks_in a) e k);
          }
