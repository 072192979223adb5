-- The numbers of a word are small, and so are the sums of 64 components. Assumes nothing.
use Rattle.std.specs.Coded.{Coded-set, coded_ℕ, le_prop, Unit-prop}
use Rattle.std.proofs.lemmas.Bool.{or_parts}
use Rattle.std.proofs.Common.{◌≡◌, ℕ, zero, suc, ◌+◌, ◌*◌, ◌/◌, ◌%◌, ◌^◌, ◌<◌, ◌≤◌, Bool, true, false, cond, ◌||◌, T, eqb, List, length, pos, refl, ap, subst, mul-le-mul, arith, w64, Fits}
use lib.Ieee.{Float, binary32, in_float}
use Rattle.template_rules.specs.Template.{component_of, tracks_from}
use Rattle.template_rules.specs.Space.{counted_space}
use Rattle.template_rules.specs.Summary.{no_components}
use Rattle.template_rules.specs.Steps.{outside_step, automatic_step, step_by}
use Rattle.template_rules.specs.Bounds.{CountOfWord, OfWord, Gathered}
use Rattle.template_rules.specs.declared.RepetitionCount.{RepetitionCount}
use Rattle.template_rules.specs.declared.RepetitionCount.TheVariants.{Single, Count, AutoFill, AutoFit}
use Rattle.template_rules.specs.declared.TrackTotals.{TrackTotals}
use Rattle.template_rules.specs.declared.TemplateSummary.{TemplateSummary}
use Rattle.template_rules.proofs.Rounding.{in_float_lem}
use Rattle.template_rules.proofs.Tests.{above_test}

-- that a count is one of a word is one fact at most, so that a type can hold it
pub CountOfWord-prop : (k : RepetitionCount) (n : ℕ) → IsProp (CountOfWord k n)
CountOfWord-prop Single n = Coded-set coded_ℕ n 1
CountOfWord-prop (Count times) n = le_prop
CountOfWord-prop AutoFill n = Unit-prop
CountOfWord-prop AutoFit n = Unit-prop

-- a count of a word
pub times-small : (k : RepetitionCount) (n times : ℕ) → k ≡ Count times → CountOfWord k n → times ≤ 65535
times-small k n times e h = subst (λ (z : RepetitionCount). CountOfWord z n) e h

pub single_one : (k : RepetitionCount) (n : ℕ) → k ≡ Single → CountOfWord k n → n ≡ 1
single_one k n e h = subst (λ (z : RepetitionCount). CountOfWord z n) e h

pub product_small : (a b : ℕ) → a ≤ 65535 → b ≤ 65535 → a * b ≤ 4294967296
product_small a b h k = let l : a * b ≤ 4294836225 = mul-le-mul h k in omega arith

pub product_fits : (a b : ℕ) → a ≤ 65535 → b ≤ 65535 → Fits w64 (a * b)
product_fits a b h k = let l : a * b ≤ 4294967296 = product_small a b h k in omega arith

pub small_in_float : (n : ℕ) → n ≤ 65535 → T (in_float binary32 (pos n))
small_in_float n h = in_float_lem n (below n h)
  where
    below : (n : ℕ) → n ≤ 65535 → n < 16777216
    below n h = omega arith

-- a component of a word, whatever the word
counted : (a b c : Bool) (n l : ℕ) → n ≤ 65535 → CountOfWord (cond a Single (cond b (Count n) (cond c AutoFill AutoFit))) (cond a 1 l)
counted true b c n l h = refl
counted false true c n l h = h
counted false false true n l h = tt
counted false false false n l h = tt

short : (t : Bool) (l : ℕ) → l ≤ 65535 → cond t 1 l ≤ 65535
short true l h = omega arith
short false l h = h

pub of_word : (w : ℕ) → w < 2 ^ 64 → OfWord (component_of w)
unfolding component_of
of_word w h =
    record {
      counted = counted (eqb (w / 65536 % 4) 0) (eqb (w / 65536 % 4) 1) (eqb (w / 65536 % 4) 2) (w % 65536) (w / 281474976710656) (omega arith);
      first = omega arith;
      length = short (eqb (w / 65536 % 4) 0) (w / 281474976710656) (omega arith);
    }

pub length-tracks : (minimums maximums : List ℕ) (place n : ℕ) → length (tracks_from minimums maximums place n) ≡ n
unfolding tracks_from
length-tracks minimums maximums place zero = refl
length-tracks minimums maximums place (suc n) = ap suc (length-tracks minimums maximums (suc place) n)

-- one more component
pub none-gathered : Gathered 0 no_components
none-gathered = record { automatic = omega arith; outside = omega arith; before = omega arith; repeated = omega arith; filled = λ e h. absurd (never h) }
  where
    never : 0 < 0 → ⊥
    never h = omega arith

-- a component outside the repeat, of at most 2 ^ 32 tracks
outside-gathered : (n : ℕ) (s : TemplateSummary) (empty fixed : Bool) (k : ℕ) (space : Float) → Gathered n s → k ≤ 4294967296 → Gathered (n + 1) (outside_step s empty fixed k space)
outside-gathered n s empty fixed k space g h =
    record {
      automatic = omega (arith, g.automatic);
      outside = omega (arith, g.outside);
      before = under (eqb s.automatic 0);
      repeated = g.repeated;
      filled = λ e l. g.filled (or_parts s.empty empty e).0 l;
    }
  where
    under : (t : Bool) → s.before + cond t k 0 ≤ (n + 1) * 4294967296
    under true = omega (arith, g.before)
    under false = omega (arith, g.before)

automatic_gathered : (n : ℕ) (s : TemplateSummary) (k : ℕ) (t : TrackTotals) → Gathered n s → k ≤ 65535 → Gathered (n + 1) (automatic_step s k t)
automatic_gathered n s k t g h =
    record {
      automatic = omega (arith, g.automatic);
      outside = omega (arith, g.outside);
      before = omega (arith, g.before);
      repeated = either (eqb s.automatic 0);
      filled = λ e l. some (eqb s.automatic 0) refl (or_parts s.empty (eqb k 0) e).1 (λ m. g.filled (or_parts s.empty (eqb k 0) e).0 m);
    }
  where
    either : (b : Bool) → cond b k s.repeated ≤ 65535
    either true = h
    either false = g.repeated

    some : (b : Bool) → eqb s.automatic 0 ≡ b → eqb k 0 ≡ false → (0 < s.automatic → 0 < s.repeated) → 0 < cond b k s.repeated
    some true p q f = above_test k q
    some false p q f = f (above_test s.automatic p)

pub step-gathered : (n : ℕ) (s : TemplateSummary) (k : RepetitionCount) (l : ℕ) (t : TrackTotals) → Gathered n s → CountOfWord k l → l ≤ 65535 → Gathered (n + 1) (step_by s k l t)
step-gathered n s Single l t g h m = outside-gathered n s false t.fixed 1 t.space g (omega arith)
step-gathered n s (Count times) l t g h m = outside-gathered n s (eqb l 0 || eqb times 0) t.fixed (times * l) (counted_space t.space times) g (product_small times l h m)
step-gathered n s AutoFill l t g h m = automatic_gathered n s l t g m
step-gathered n s AutoFit l t g h m = automatic_gathered n s l t g m

pub more-gathered : (n m : ℕ) (s : TemplateSummary) → Gathered n s → n ≤ m → Gathered m s
more-gathered n m s g h =
    record {
      automatic = omega (arith, g.automatic);
      outside = omega (arith, g.outside);
      before = omega (arith, g.before);
      repeated = g.repeated;
      filled = g.filled;
    }
