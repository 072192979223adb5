-- A template in which no component is a fit: all its tracks are open. Assumes nothing.
use Prim.Native.Nat.{ℕ, zero, suc, ◌+◌, ◌-◌, ◌≤◌, ◌<◌}
use native.Mathlib.Omega.{arith}
use mathlib.Core.Path.{◌≡◌, refl, sym, ap, ◌∙◌}
use mathlib.Core.Logic.{⊎_elim}
use mathlib.Core.Bool.{Bool, true, false, not, ◌||◌}
use mathlib.Core.List.{List, [], ◌∷◌}
use lib.ListN.{length, get_or}
use Rattle.std.proofs.lemmas.Bool.{cases_lt}
use Rattle.std.specs.List.{list_any}
use Rattle.template_rules.specs.Template.{Component, component_of, with_tracks, template_of}
use Rattle.track_rules.specs.declared.WrittenTrack.{WrittenTrack}
use Rattle.track_rules.specs.declared.AxisTracks.{AxisTracks}
use Rattle.track_rules.specs.declared.Cursor.{Cursor}
use Rattle.track_rules.specs.Records.{negative_of, tracks_in}
use Rattle.track_rules.specs.Steps.{word_totals, totals_of, written_count, cursor_at, no_component, written_in, written_at, closed_at, plan_of}
use Rattle.track_rules.proofs.Words.{totals_words, template-get, template-past, track_in, no-tracks}
use Rattle.track_rules.proofs.Opened.{open_whole, not_fit}
use Rattle.track_rules.proofs.AllTracks.{count_in, closed-negative, closed-explicit, closed-past, plan_of_lem}
use Rattle.track_record.specs.Repeats.{repeated_of, has_fit}

-- the search for one
pub fit_any : (ws : List ℕ) → list_any (λ w. (repeated_of w).fit) ws ≡ has_fit ws
unfolding has_fit
fit_any [] = refl
fit_any (w ∷ ws) = ap (λ (b : Bool). (repeated_of w).fit || b) (fit_any ws)

-- ---- no track of such a template collapses

neither_first : (x y : Bool) → (x || y) ≡ false → x ≡ false
neither_first true y e = e
neither_first false y e = refl

neither-last : (x y : Bool) → (x || y) ≡ false → y ≡ false
neither-last true true e = e
neither-last true false e = refl
neither-last false y e = e

unfit_here : (ws : List ℕ) → has_fit ws ≡ false → (k : ℕ) → k < length ws → (repeated_of (get_or ws k 0)).fit ≡ false
unfolding has_fit
unfit_here [] e k h = absurd (omega arith)
unfit_here (w ∷ ws) e zero h = neither_first (repeated_of w).fit (has_fit ws) e
unfit_here (w ∷ ws) e (suc k) h = unfit_here ws (neither-last (repeated_of w).fit (has_fit ws) e) k (omega arith)

unfit_word : (mi ma : List ℕ) (w o : ℕ) → (repeated_of w).fit ≡ false → (written_in (with_tracks mi ma (component_of w)) o).fit ≡ false
unfolding repeated_of
unfit_word mi ma w o e =
    ⊎_elim
    (λ (h : (component_of w).length < 1). ap (λ (x : WrittenTrack). x.fit) (no-tracks mi ma w o (omega arith)))
    (λ (h : 1 ≤ (component_of w).length). ap (λ (x : WrittenTrack). x.fit) (track_in mi ma w o (λ z. omega arith)) ∙ e)
    (cases_lt (component_of w).length 1)

unfit_at : (ws mi ma : List ℕ) (u : Cursor) → has_fit ws ≡ false → (written_at (template_of ws mi ma) u).fit ≡ false
unfit_at ws mi ma u e =
    ⊎_elim
    (λ (h : u.component < length ws).
    ap (λ (x : Component). (written_in x u.offset).fit) (template-get ws mi ma u.component no_component h)
    ∙ unfit_word mi ma (get_or ws u.component 0) u.offset (unfit_here ws e u.component h))
    (λ (h : length ws ≤ u.component). ap (λ (x : Component). (written_in x u.offset).fit) (template-past ws mi ma u.component h))
    (cases_lt u.component (length ws))

-- the plan of an axis whose template has no fit
pub plan_unfit : (a : AxisTracks) (ws mi ma : List ℕ) (item : ℕ → Bool) (written tracks : ℕ) → written ≡ written_count a (word_totals a.repetitions ws) →
    tracks ≡ tracks_in a → has_fit ws ≡ false → record { written = written; opened = tracks } ≡ plan_of a (template_of ws mi ma) item
plan_unfit a ws mi ma item written tracks e n none =
    let cs = template_of ws mi ma in
    plan_of_lem a cs item written tracks (e ∙ ap (written_count a) (sym (totals_words a.repetitions ws mi ma))) (n ∙ sym (open_whole (closed_at a cs [] item) (tracks_in a) (λ h. all-open (tracks_in a - 1))))
  where
    all-open : (t : ℕ) → closed_at a (template_of ws mi ma) [] item t ≡ false
    all-open t =
        let cs = template_of ws mi ma in
        ⊎_elim
        (λ (h : t < negative_of a). closed-negative a cs [] item t h)
        (λ (h : negative_of a ≤ t).
        ⊎_elim
        (λ (k : t < negative_of a + count_in a cs).
        closed-explicit a cs [] item t h k ∙ not_fit (written_at cs (cursor_at a (totals_of a.repetitions cs) t)).fit (not (item t)) (unfit_at ws mi ma (cursor_at a (totals_of a.repetitions cs) t) none))
        (λ (k : negative_of a + count_in a cs ≤ t). closed-past a cs [] item t k)
        (cases_lt t (negative_of a + count_in a cs)))
        (cases_lt t (negative_of a))
