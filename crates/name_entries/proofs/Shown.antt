-- The names of a line are exactly those that it bears, and none stands twice.
use mathlib.Core.Path.{◌≡◌, refl, sym, ◌∙◌, ap}
use mathlib.Core.Bool.{Bool, true, false, cond, not, ◌&&◌, ◌||◌, or-false, or-true, or_assoc}
use mathlib.Core.List.{List, [], ◌∷◌, ◌++◌, append-nil, append_assoc}
use Prim.Native.Nat.{ℕ}
use native.Mathlib.Omega.{arith}
use lib.Dec.{eqb}
use Rattle.name_rules.specs.Css.{Bytes, Entry}
use Rattle.name_rules.specs.Rule.{any, eq_bytes, written?}
use Rattle.name_entries.specs.LineNames.{shows, shown_after, line_names_of, among, Once}
use Rattle.std.proofs.lemmas.Bool.{and_parts}
use Rattle.name_entries.proofs.Same.{same_sound, same_refl}

any_append : (p : Entry → Bool) (l : List Entry) (e : Entry) → any p (l ++ (e ∷ [])) ≡ (any p l || p e)
any_append p [] e = or-false (p e)
any_append p (x ∷ l) e = rw (any_append p l e) (sym (or_assoc (p x) (any p l) (p e)))

-- one entry more: it shows its name, or the line does not bear it anew
one_more_lem : (on new same found rest : Bool) → (same ≡ true → new ≡ not found)
    → (found || cond (on && new) (same || rest) rest) ≡ (found || (on && same) || rest)
one_more_lem true true same true rest h = refl
one_more_lem true true same false rest h = refl
one_more_lem true false true true rest h = refl
one_more_lem true false true false rest h = absurd (let e = h refl in let z : ◌≡◌ {A = ℕ} 0 1 = cc in omega arith)
one_more_lem true false false true rest h = refl
one_more_lem true false false false rest h = refl
one_more_lem false new same true rest h = refl
one_more_lem false new same false rest h = refl

not-again : (on new same : Bool) → (same ≡ true → new ≡ false) → cond (on && new) (same || false) false ≡ false
not-again true true true h = h refl
not-again true true false h = refl
not-again true false same h = refl
not-again false new same h = refl

module _ (line : ℕ) where
  same_new : (name : Bytes) (before : List Entry) (e : Entry) → eq_bytes e.name name ≡ true
      → not (any (written? e.name line) before) ≡ not (any (written? name line) before)
  same_new name before e h = rw (same_sound e.name name h)

  among-cond : (name n : Bytes) (t : Bool) (l : List Bytes) → among name (cond t (n ∷ l) l) ≡ cond t (eq_bytes n name || among name l) (among name l)
  among-cond name n true l = refl
  among-cond name n false l = refl

  shown-after : (name : Bytes) (before l : List Entry)
      → (any (written? name line) before || among name (shown_after line before l)) ≡ any (written? name line) (before ++ l)
  unfolding shown_after
  shown-after name before [] = rw append-nil (or-false (any (written? name line) before))
  shown-after name before (e ∷ l) =
      let next = shown_after line (before ++ (e ∷ [])) l in
      let found = any (written? name line) before in
      ap (λ (b : Bool). found || b) (among-cond name e.name (shows line before e) next)
      ∙ one_more_lem (eqb e.line line) (not (any (written? e.name line) before)) (eq_bytes e.name name) found (among name next) (same_new name before e)
      ∙ ap (λ (b : Bool). b || among name next) (sym (any_append (written? name line) before e))
      ∙ shown-after name (before ++ (e ∷ [])) l
      ∙ ap (any (written? name line)) (append_assoc before (e ∷ []) l)

  -- a name that an entry before shows is not shown again
  fresh : (name : Bytes) (before l : List Entry) → any (written? name line) before ≡ true → among name (shown_after line before l) ≡ false
  unfolding shown_after
  fresh name before [] h = refl
  fresh name before (e ∷ l) h =
      let later : among name (shown_after line (before ++ (e ∷ [])) l) ≡ false =
      fresh name (before ++ (e ∷ [])) l (any_append (written? name line) before e ∙ rw h) in
      among-cond name e.name (shows line before e) (shown_after line (before ++ (e ∷ [])) l)
      ∙ rw later
      (not-again (eqb e.line line) (not (any (written? e.name line) before)) (eq_bytes e.name name) (λ q. same_new name before e q ∙ rw h))

  once_after : (before l : List Entry) → Once (shown_after line before l)
  unfolding shown_after
  once_after before [] = tt
  once_after before (e ∷ l) = by (shows line before e) refl (once_after (before ++ (e ∷ [])) l)
    where
      by : (t : Bool) → shows line before e ≡ t → Once (shown_after line (before ++ (e ∷ [])) l)
          → Once (cond t (e.name ∷ shown_after line (before ++ (e ∷ [])) l) (shown_after line (before ++ (e ∷ [])) l))
      by false q h = h
      by true q h = (
        fresh e.name (before ++ (e ∷ [])) l
            (any_append (written? e.name line) before e
            ∙ rw ((and_parts (eqb e.line line) (not (any (written? e.name line) before)) q).0, same_refl e.name) (or-true (any (written? e.name line) before))),
        h,
      )

-- a name is listed exactly where an entry puts it on the line
pub names_shown : (entries : List Entry) (line : ℕ) (name : Bytes) → among name (line_names_of entries line) ≡ any (written? name line) entries
names_shown entries line name = shown-after line name [] entries

pub names_once : (entries : List Entry) (line : ℕ) → Once (line_names_of entries line)
names_once entries line = once_after line [] entries
