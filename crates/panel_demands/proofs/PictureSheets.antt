-- A sheet that is an area picture and nothing else is accepted exactly if its rows have equal width, its words are names or dots, and the cells of
-- each name form one filled rectangle, within document 01's limits. Assumes nothing.
use Prim.Native.Nat.{ℕ, zero, suc, ◌+◌, ◌-◌, ◌*◌, ◌≤◌, ◌<◌, zero-le, suc-le-suc}
use mathlib.Core.Path.{◌≡◌, refl, sym, ap, ap₂, ◌∙◌, subst}
use mathlib.Core.List.{List, [], ◌∷◌, ◌++◌, map, append-nil, append_assoc}
use mathlib.Core.Bool.{Bool, true, false, false≢true}
use mathlib.Core.Logic.{◌⊎◌, inl, inr, ⊎_elim}
use native.Mathlib.Omega.{arith}
use lib.ListN.{length, get_or, length-append, length-map}
use borrow.Author.Tests.{eq-eqb, ne_eqb}
use Rattle.text.specs.Split.{onto, split, same}
use Rattle.text.proofs.Cut.{Free}
use Rattle.picture_rules.specs.Picture.{Word, Picture, is_dots, Dots, ElementAt, NameIn, EqualWidth, AllFilled, Box, PictureArea, Among, Pairs, OtherName, width_of}
use Rattle.picture_rules.specs.Steps.{taken_of}
use Rattle.picture_rules.proofs.Words.{dots_exactly}
use Rattle.picture_rules.proofs.Cells.{le_or_lt, element-left, element-right, element-first}
use Rattle.picture_rules.proofs.Theorem.{picture_names}
use Rattle.picture_areas.specs.Runs.{table_area}
use Rattle.template_rules.specs.Counts.{outside_count, automatic_count, any_empty}
use Rattle.template_rules.specs.Explicit.{template_size_of}
use Rattle.name_rules.specs.Template.{rule_from}
use Rattle.axis_tables.specs.View.{none, AxisView, empty_axis}
use Rattle.axis_tables.proofs.Runs.{All}
use Rattle.panel_tables.specs.View.{PanelView, empty_view}
use Rattle.sheet_forms.specs.Words.{kind_words}
use Rattle.sheet_forms.specs.Faults.{no_row, first_row}
use Rattle.sheet_forms.specs.Forms.{Kind, axis, area, name, track, repeat, end, spare, extra, item, place, row, cell, Of, InNameRange, parts_of}
use Rattle.sheet_forms.specs.Rows.{BadWord, BadWords, NameOutside, ValueOutside, CountOutside, Some}
use Rattle.sheet_forms.proofs.FieldRows.{name_range}
use Rattle.sheet_rules.specs.Contents.{Line, lines_from, lines_of, those, lines_with, area_in, picture_in}
use Rattle.sheet_rules.specs.Pictures.{areas_of, with_words, drawn_row}
use Rattle.sheet_rules.specs.Lines.{at_stage, line_fault, shared_at, line_step}
use Rattle.sheet_rules.specs.Sheet.{size_of, counted, explicit_of, entries_of, display_of, sheet_of}
use Rattle.sheet_rules.specs.Rows.{Opened, MisnestedBy, TwiceBy, LateAt, LateBy, CrowdedBy, OverlapBy, UnequalBy, Row, unread, bad_name, bad_value, bad_count, bad_area, twice, late, crowded, overlap, unequal, broken, Holds, HoldsLine, HoldsAfter, HoldsFrom, HoldsAt, here, BrokenBy, First, Nowhere}
use Rattle.sheet_rules.proofs.Chosen.{accepted_former}
use Rattle.sheet_rules.proofs.Contents.{display_says}
use Rattle.sheet_rules.proofs.Fits.{display_fits}
use Rattle.sheet_rules.proofs.LineTheorem.{line_first, line-former}
use Rattle.sheet_rules.proofs.Pictures.{accepted_row}
use Rattle.sheet_rules.proofs.Theorem.{accepted_exactly}
use Rattle.panel_demands.specs.Pictures.{PictureTheorem}
use Rattle.panel_demands.specs.PictureSheets.{words_text, row_text, picture_text, Unparted, EveryWord, PictureAccepted, PictureSheets}
use Rattle.panel_demands.proofs.Pictures.{each, display-picture}

-- ---- all elements, and each

all_of : {A : Type 0} (past : A) (P : A → Type 0) (l : List A) → ((i : ℕ) (a : A) → ElementAt past l i a → P a) → All P l
all_of past P [] h = tt
all_of past P (x ∷ l) h = (h 1 x (element-first past x l), all_of past P l (λ i a e. h (length (x ∷ []) + i) a (element-right past (x ∷ []) l i a e)))

rows_of : (P : Word → Type 0) (p : Picture) → EveryWord P p → All (All P) p
rows_of P p h = all_of [] (All P) p (λ r ws e. all_of [] P ws (λ c w f. h r c w (ws, e, f)))

-- ---- the lines of its text

split_part : (b : ℕ) (w rest : List ℕ) → Free b w → split b (w ++ (b ∷ rest)) ≡ w ∷ split b rest
unfolding split onto
split_part b [] rest f = rw (eq-eqb b b refl)
split_part b (x ∷ w) rest f = rw (ne_eqb x b f.0, split_part b w rest f.1)

split-whole : (b : ℕ) (w : List ℕ) → Free b w → split b w ≡ w ∷ []
unfolding split onto
split-whole b [] f = refl
split-whole b (x ∷ w) f = rw (ne_eqb x b f.0, split-whole b w f.1)

free_append : (b : ℕ) (x y : List ℕ) → Free b x → Free b y → Free b (x ++ y)
free_append b [] y f g = g
free_append b (c ∷ x) y f g = (f.0, free_append b x y f.1 g)

no_tab : (w : Word) → Unparted w → Free 9 w
no_tab [] u = tt
no_tab (b ∷ w) u = (u.0, no_tab w u.2)

no_feed : (w : Word) → Unparted w → Free 10 w
no_feed [] u = tt
no_feed (b ∷ w) u = (u.1, no_feed w u.2)

words_feed : (ws : List Word) → All Unparted ws → Free 10 (words_text ws)
unfolding words_text
words_feed [] u = tt
words_feed (w ∷ ws) u = (λ e. omega (arith, e), free_append 10 w (words_text ws) (no_feed w u.0) (words_feed ws u.1))

row_feed : (ws : List Word) → All Unparted ws → Free 10 (row_text ws)
row_feed ws u = (λ e. omega (arith, e), (λ e. omega (arith, e), (λ e. omega (arith, e), words_feed ws u)))

words_fields : (w : Word) (ws : List Word) → Free 9 w → All Unparted ws → split 9 (w ++ words_text ws) ≡ w ∷ ws
unfolding words_text
words_fields w [] f u = ap (split 9) (append-nil w) ∙ split-whole 9 w f
words_fields w (x ∷ ws) f u = split_part 9 w (x ++ words_text ws) f ∙ ap (λ (l : List Word). w ∷ l) (words_fields x ws (no_tab x u.0) u.1)

-- a row as the fields of its line
abbrev line_of : List Word → Line
line_of ws = get_or kind_words 10 [] ∷ ws

fields : (ws : List Word) → All Unparted ws → split 9 (row_text ws) ≡ line_of ws
fields ws u = words_fields (get_or kind_words 10 []) ws (λ e. omega (arith, e), (λ e. omega (arith, e), (λ e. omega (arith, e), tt))) u

-- its lines, and nothing after the last line feed
abbrev text_lines : Picture → List (List ℕ)
text_lines [] = [] ∷ []
text_lines (ws ∷ p) = row_text ws ∷ text_lines p

text_lines_lem : (p : Picture) → All (All Unparted) p → split 10 (picture_text p) ≡ text_lines p
unfolding split picture_text
text_lines_lem [] u = refl
text_lines_lem (ws ∷ p) u = split_part 10 (row_text ws) (picture_text p) (row_feed ws u.0) ∙ ap (λ (l : List (List ℕ)). row_text ws ∷ l) (text_lines_lem p u.1)

from_lines : (p : Picture) → All (All Unparted) p → lines_from (text_lines p) ≡ map line_of p
unfolding lines_from
from_lines [] u = refl
from_lines (ws ∷ []) u = ap (λ (l : Line). l ∷ []) (fields ws u.0)
from_lines (ws ∷ vs ∷ p) u = ap₂ (λ (l : Line) (m : List Line). l ∷ m) (fields ws u.0) (from_lines (vs ∷ p) u.1)

words_back : (p : Picture) → picture_in (map line_of p) ≡ p
unfolding those same
words_back [] = refl
words_back (ws ∷ p) = ap (λ (q : Picture). ws ∷ q) (words_back p)

-- ---- no row of the table of refusals holds, over the fields

abbrev Judged : Picture → PanelView → Type 0
Judged [] v = (r : Row) → HoldsAfter v r → ⊥
Judged (ws ∷ p) v = ((r : Row) → HoldsLine v (line_of ws) (map line_of p) r → ⊥) × Judged p (line_step v (line_of ws)).panel

module _ (ws : List Word) (v : PanelView) where
  first-in : (p : Picture) (r : Row) → HoldsLine v (split 9 (row_text ws)) (lines_from (text_lines p)) r → HoldsFrom 0 (text_lines (ws ∷ p)) v r
  first-in [] r x = x
  first-in (vs ∷ p) r x = x

  first_out : (p : Picture) (r : Row) → HoldsFrom 0 (text_lines (ws ∷ p)) v r → HoldsLine v (split 9 (row_text ws)) (lines_from (text_lines p)) r
  first_out [] r x = x
  first_out (vs ∷ p) r x = x

  next-in : (p : Picture) (k : ℕ) (r : Row) → HoldsFrom k (text_lines p) (line_step v (split 9 (row_text ws))).panel r → HoldsFrom (suc k) (text_lines (ws ∷ p)) v r
  next-in [] k r x = x
  next-in (vs ∷ p) k r x = x

  next-out : (p : Picture) (k : ℕ) (r : Row) → HoldsFrom (suc k) (text_lines (ws ∷ p)) v r → HoldsFrom k (text_lines p) (line_step v (split 9 (row_text ws))).panel r
  next-out [] k r x = x
  next-out (vs ∷ p) k r x = x

judged_to : (p : Picture) (v : PanelView) → All (All Unparted) p → Nowhere (λ k. HoldsFrom k (text_lines p) v) → Judged p v
judged_to [] v u h = h 0
judged_to (ws ∷ p) v u h = (
  λ r x. h 0 r (first-in ws v p r
      (subst (λ (l : Line). HoldsLine v l (lines_from (text_lines p)) r) (sym (fields ws u.0)) (subst (λ (m : List Line). HoldsLine v (line_of ws) m r) (sym (from_lines p u.1)) x))),
  subst (λ (l : Line). Judged p (line_step v l).panel) (fields ws u.0)
      (judged_to p (line_step v (split 9 (row_text ws))).panel u.1 (λ k r x. h (suc k) r (next-in ws v p k r x))),
)

judged_from : (p : Picture) (v : PanelView) → All (All Unparted) p → Judged p v → Nowhere (λ k. HoldsFrom k (text_lines p) v)
judged_from [] v u h zero r x = h r x
judged_from [] v u h (suc k) r x = x
judged_from (ws ∷ p) v u h zero r x =
    h.0 r
    (subst (λ (m : List Line). HoldsLine v (line_of ws) m r) (from_lines p u.1)
    (subst (λ (l : Line). HoldsLine v l (lines_from (text_lines p)) r) (fields ws u.0) (first_out ws v p r x)))
judged_from (ws ∷ p) v u h (suc k) r x =
    judged_from p (line_step v (split 9 (row_text ws))).panel u.1 (subst (λ (l : Line). Judged p (line_step v l).panel) (sym (fields ws u.0)) h.1) k r
    (next-out ws v p k r x)

module _ (p : Picture) (u : All (All Unparted) p) where
  text-to : (sheet_of (picture_text p)).fault ≡ 0 → (length (picture_text p) ≤ 32768) × Judged p empty_view
  text-to e = (⊎_elim (λ h. h) (λ h. absurd (n 0 unread (refl, h))) (le_or_lt (length (picture_text p)) 32768), judged_to p empty_view u lines)
    where
      n : Nowhere (HoldsAt (picture_text p))
      n = (accepted_exactly (picture_text p)).0 e

      lines : Nowhere (λ k. HoldsFrom k (text_lines p) empty_view)
      lines k r x = n (suc k) r (subst (λ (l : List (List ℕ)). HoldsFrom k l empty_view r) (sym (text_lines_lem p u)) x)

  text-from : length (picture_text p) ≤ 32768 → Judged p empty_view → (sheet_of (picture_text p)).fault ≡ 0
  text-from b j = (accepted_exactly (picture_text p)).1 nowhere
    where
      nowhere : Nowhere (HoldsAt (picture_text p))
      nowhere zero r x = omega (arith, b, x.1)
      nowhere (suc k) r x = judged_from p empty_view u j k r (subst (λ (l : List (List ℕ)). HoldsFrom k l empty_view r) (text_lines_lem p u) x)

-- ---- the line of a row

row_of : (ws : List Word) → 1 ≤ length ws → Of (line_of ws) row
row_of ws h = record { word = refl; fields = suc-le-suc h }

-- the second letter tells `row` from every other kind
second : List ℕ → ℕ
second w = get_or w 1 0

only_row : (ws : List Word) (k : Kind) → Of (line_of ws) k → k ≡ row
unfolding second
only_row ws axis o = absurd (omega (arith, ap second o.word))
only_row ws area o = absurd (omega (arith, ap second o.word))
only_row ws name o = absurd (omega (arith, ap second o.word))
only_row ws track o = absurd (omega (arith, ap second o.word))
only_row ws repeat o = absurd (omega (arith, ap second o.word))
only_row ws end o = absurd (omega (arith, ap second o.word))
only_row ws spare o = absurd (omega (arith, ap second o.word))
only_row ws extra o = absurd (omega (arith, ap second o.word))
only_row ws item o = absurd (omega (arith, ap second o.word))
only_row ws place o = absurd (omega (arith, ap second o.word))
only_row ws row o = refl
only_row ws cell o = absurd (omega (arith, ap second o.word))

-- ---- what an accepted row keeps to

abbrev GoodWord : Word → Type 0
GoodWord w = Dots w ⊎ InNameRange w

abbrev Counted : List Word → Type 0
Counted ws = (1 ≤ length ws) × (length ws ≤ 10000)

good-word : (w : Word) → (BadWord w → ⊥) → GoodWord w
good-word w n = go (is_dots w) refl
  where
    go : (t : Bool) → is_dots w ≡ t → GoodWord w
    go true e = inl ((dots_exactly w).0 e)
    go false e =
        ⊎_elim (λ h. inr h.1) (λ h. absurd (n (record { dots = λ d. false≢true (sym e ∙ (dots_exactly w).1 d); name = h.1 }))) (name_range w)

good_words : (ws : List Word) → (BadWords ws → ⊥) → All GoodWord ws
good_words [] h = tt
good_words (w ∷ ws) h = (good-word w (λ b. h (0, suc-le-suc zero-le, b)), good_words ws (λ (i, l, b). h (suc i, suc-le-suc l, b)))

module _ (v : PanelView) (after : List Line) where
  row-counted : (ws : List Word) → ((r : Row) → HoldsLine v (line_of ws) after r → ⊥) → Counted ws
  row-counted [] h = absurd (h unread (inl (inl (λ k o e. omega (arith, (subst (Of (line_of [])) (only_row [] k o) o).fields)))))
  row-counted (w ∷ ws) h =
      (suc-le-suc zero-le, ⊎_elim (λ x. x) (λ x. absurd (h bad_count (inl (row, row_of (w ∷ ws) (suc-le-suc zero-le), inl x)))) (le_or_lt (length (w ∷ ws)) 10000))

  row_words : (ws : List Word) → ((r : Row) → HoldsLine v (line_of ws) after r → ⊥) → All GoodWord ws
  row_words ws h = good_words ws (λ x. h bad_name (inl (row, row_of ws (row-counted ws h).0, inl x)))

rows_counted : (p : Picture) (v : PanelView) → Judged p v → All Counted p
rows_counted [] v j = tt
rows_counted (ws ∷ p) v j = (row-counted v (map line_of p) ws j.0, rows_counted p (line_step v (line_of ws)).panel j.1)

rows_words : (p : Picture) (v : PanelView) → Judged p v → All (All GoodWord) p
rows_words [] v j = tt
rows_words (ws ∷ p) v j = (row_words v (map line_of p) ws j.0, rows_words p (line_step v (line_of ws)).panel j.1)

-- an accepted one keeps to all of it
pub accepted-keeps : (p : Picture) → EveryWord Unparted p → (sheet_of (picture_text p)).fault ≡ 0 → PictureAccepted p
accepted-keeps p unparted e =
    record {
      even = subst EqualWidth drawn theorem.even;
      words = λ r c w (ws, i, k). each [] GoodWord ws (each [] (All GoodWord) p (rows_words p empty_view judged.1) r ws i) c w k;
      filled = subst AllFilled drawn theorem.filled;
      counts = each [] Counted p (rows_counted p empty_view judged.1);
      names = ((taken_of p).areas, picture_names p, few);
      bytes = judged.0;
    }
  where
    u : All (All Unparted) p
    u = rows_of Unparted p unparted

    judged : (length (picture_text p) ≤ 32768) × Judged p empty_view
    judged = text-to p u e

    z : (display_of (picture_text p)).fault ≡ 0
    z = (accepted_former (picture_text p) e).1

    theorem : PictureTheorem (picture_text p) (display_of (picture_text p)).view
    theorem = display-picture (picture_text p) z

    lines : picture_in (lines_of (picture_text p)) ≡ p
    lines = ap (λ (l : List (List ℕ)). picture_in (lines_from l)) (text_lines_lem p u) ∙ ap picture_in (from_lines p u) ∙ words_back p

    drawn : (display_of (picture_text p)).view.picture ≡ p
    drawn = theorem.rows ∙ lines

    few : length (taken_of p).areas ≤ 64
    few =
        omega (
          arith,
          (display_fits (picture_text p)).areas,
          ap length (display_says (picture_text p) z).areas,
          length-append (areas_of (picture_in (lines_of (picture_text p)))) (map area_in (lines_with area (lines_of (picture_text p)))),
          ap (λ (q : Picture). length (areas_of q)) lines,
          length-map (taken_of p).areas table_area,
        )

-- ---- names, each once, are no more than names that have them all

module _ (x : PictureArea) where
  without : (l : List PictureArea) → Among x l → List PictureArea
  without (a ∷ l) (inl e) = l
  without (a ∷ l) (inr i) = a ∷ without l i
  without [] x'' = elim x'' [ ]

  without-length : (l : List PictureArea) (i : Among x l) → length l ≡ suc (length (without l i))
  unfolding without
  without-length (a ∷ l) (inl e) = refl
  without-length (a ∷ l) (inr i) = ap suc (without-length l i)
  without-length [] i = elim i [ ]

  without_other : (y : PictureArea) (l : List PictureArea) (i : Among x l) → Among y l → (y ≡ x) ⊎ Among y (without l i)
  unfolding without
  without_other y (a ∷ l) (inl e) (inl f) = inl (sym f ∙ e)
  without_other y (a ∷ l) (inl e) (inr j) = inr j
  without_other y (a ∷ l) (inr i) (inl f) = inr (inl f)
  without_other y (a ∷ l) (inr i) (inr j) = ⊎_elim (λ e. inl e) (λ k. inr (inr k)) (without_other y l i j)
  without_other y [] i _ = elim i [ ]

-- an area of that name
abbrev Named : Word → List PictureArea → Type 0
Named n l = (b : Box) × Among (record { name = n; box = b }) l

fewer : (l m : List PictureArea) → Pairs OtherName l → ((a : PictureArea) → Among a l → Named a.name m) → length l ≤ length m
fewer [] m o h = zero-le
fewer (a ∷ l) m o h = omega (arith, without-length x m own.1, fewer l (without x m own.1) o.1 rest)
  where
    own : Named a.name m
    own = h a (inl refl)

    x : PictureArea
    x = record { name = a.name; box = own.0 }

    rest : (c : PictureArea) → Among c l → Named c.name (without x m own.1)
    rest c i = go (h c (inr i))
      where
        go : Named c.name m → Named c.name (without x m own.1)
        go (b, j) = ⊎_elim (λ e. absurd (o.0 c i (sym (ap (λ (y : PictureArea). y.name) e)))) (λ k. (b, k)) (without_other x (record { name = c.name; box = b }) m own.1 j)

-- a name of the first rows is one of all
name-more : (q rest : Picture) (n : Word) → NameIn q n → NameIn (q ++ rest) n
name-more q rest n h =
    record { name = h.name; row = h.row; column = h.column; cell = (h.cell.0, element-left [] q rest h.row h.cell.0 h.cell.1, h.cell.2) }

-- ---- an axis with areas alone

pub record Bare (x : AxisView) : Type 0 where
  pub template : x.template ≡ []
  pub ended : x.unended ≡ none
  pub few : x.areas ≤ 10000

bare-tracks : (x : AxisView) → x.template ≡ [] → (size_of x).tracks ≡ 0
unfolding size_of template_size_of any_empty automatic_count outside_count
bare-tracks x e = rw e

bare-entries : (x : AxisView) → x.template ≡ [] → entries_of x ≡ []
unfolding entries_of counted rule_from
bare-entries x e = rw (bare-tracks x e)

-- ---- the panel of the first rows

pub record Drawing (q : Picture) (v : PanelView) : Type 0 where
  pub picture : v.picture ≡ q
  pub timely : LateAt 2 v.stage → ⊥
  pub columns : Bare v.columns
  pub rows : Bare v.rows

empty_drawing : Drawing [] empty_view
unfolding empty_view empty_axis
empty_drawing =
    record {
      picture = refl;
      timely = ⊎_elim (λ l. omega (arith, l)) (λ (x, y). omega (arith, y));
      columns = record { template = refl; ended = refl; few = zero-le };
      rows = record { template = refl; ended = refl; few = zero-le };
    }

-- after the last row
module _ (q : Picture) (v : PanelView) (d : Drawing q v) where
  not-many : (x : AxisView) → Bare x → 10000 < explicit_of x → ⊥
  not-many x b h = omega (arith, h, bare-tracks x b.template, b.few)

  not-crowded : (x : AxisView) → Bare x → 4096 < length (entries_of x) → ⊥
  not-crowded x b h = omega (arith, h, ap length (bare-entries x b.template))

  none_after : (r : Row) → HoldsAfter v r → ⊥
  none_after unread (inl x) = subst Opened d.columns.ended x
  none_after unread (inr x) = subst Opened d.rows.ended x
  none_after bad_name x = x
  none_after bad_value x = x
  none_after bad_count (inl x) = not-many v.columns d.columns x
  none_after bad_count (inr x) = not-many v.rows d.rows x
  none_after bad_area x = x
  none_after twice x = x
  none_after late x = x
  none_after crowded (inl x) = not-crowded v.columns d.columns x
  none_after crowded (inr x) = not-crowded v.rows d.rows x
  none_after overlap x = x
  none_after unequal x = x
  none_after broken x = x

-- a row takes four bytes or more
text_long : (p : Picture) → 4 * length p ≤ length (picture_text p)
unfolding picture_text
text_long [] = zero-le
text_long (ws ∷ p) = omega (arith, text_long p, length-append (words_text ws) (10 ∷ picture_text p))

-- ---- one row of an accepted picture

none_fault : (v : PanelView) (fs : Line) {n : ℕ} → First (Holds v fs) n → ((r : Row) → Holds v fs r → ⊥) → n ≡ 0
none_fault v fs (no_row e h) k = e
none_fault v fs (first_row r e h l) k = absurd (k r h)

none_shared : (v : PanelView) (fs : Line) → line_fault v fs ≡ 0 → shared_at v fs ≡ 0
unfolding shared_at
none_shared v fs e = rw e

module _ (p : Picture) (a : PictureAccepted p) (q : Picture) (ws : List Word) (rest : Picture) (e : q ++ (ws ∷ rest) ≡ p) (v : PanelView) (d : Drawing q v) where
  here_in : ElementAt [] p (length q + 1) ws
  here_in = subst (λ (x : Picture). ElementAt [] x (length q + 1) ws) e (element-right [] q (ws ∷ rest) 1 ws (element-first [] ws rest))

  count : Counted ws
  count = a.counts (length q + 1) ws here_in

  all-rows : with_words q ws ++ rest ≡ p
  all-rows = append_assoc q (ws ∷ []) rest ∙ e

  good : BadWords ws → ⊥
  good (i, l, b) =
      let k : i + 1 - 1 ≡ i = omega arith in
      ⊎_elim b.dots b.name (a.words (length q + 1) (i + 1) (get_or ws i []) (ws, here_in, (omega arith, omega (arith, l), ap (λ (j : ℕ). get_or ws j []) k)))

  few-names : length (areas_of (with_words q ws)) ≤ 64
  few-names =
      let own = picture_names (with_words q ws) in
      let all = a.names.1 in
      let less = fewer (taken_of (with_words q ws)).areas a.names.0 own.once
      (λ c i. all.every c.name (subst (λ (x : Picture). NameIn x c.name) all-rows (name-more (with_words q ws) rest c.name (own.stands c i)))) in
      omega (arith, less, a.names.2, length-map (taken_of (with_words q ws)).areas table_area)

  few-rows : length q < 10000
  few-rows = omega (arith, text_long p, a.bytes, ap length e, length-append q (ws ∷ rest))

  even-row : (o : Picture) → o ++ (ws ∷ rest) ≡ p → (o ≡ [] → ⊥) → length ws ≡ width_of o
  even-row [] f n = absurd (n refl)
  even-row (x ∷ o) f n = a.even (length q + 1) ws here_in ∙ ap width_of (sym f)

  of : Of (line_of ws) row
  of = row_of ws count.0

  none-holds : (r : Row) → Holds v (line_of ws) r → ⊥
  none-holds unread (inl x) = x row of (tt, tt)
  none-holds unread (inr (k, o, x)) = subst (λ (j : Kind). MisnestedBy j v (line_of ws)) (only_row ws k o) x
  none-holds bad_name (k, o, x) = ⊎_elim good (λ y. y) (subst (λ (j : Kind). Some (NameOutside (line_of ws)) (parts_of j)) (only_row ws k o) x)
  none-holds bad_value (k, o, x) = ⊎_elim (λ y. y) (λ y. y) (subst (λ (j : Kind). Some (ValueOutside (line_of ws)) (parts_of j)) (only_row ws k o) x)
  none-holds bad_count (k, o, x) =
      ⊎_elim (λ y. omega (arith, y, count.1)) (λ y. y) (subst (λ (j : Kind). Some (CountOutside (line_of ws)) (parts_of j)) (only_row ws k o) x)
  none-holds bad_area (o, x) = unfold second in omega (arith, ap second o.word)
  none-holds twice (k, o, x) = subst (λ (j : Kind). TwiceBy j v (line_of ws)) (only_row ws k o) x
  none-holds late (k, o, x) = d.timely (subst (λ (j : Kind). LateBy j v (line_of ws)) (only_row ws k o) x)
  none-holds crowded (k, o, x) = many (subst (λ (j : Kind). CrowdedBy j v (line_of ws)) (only_row ws k o) x).1
    where
      many : (10000 ≤ length v.picture) ⊎ (64 < length (areas_of (with_words v.picture ws))) → ⊥
      many (inl y) = omega (arith, y, few-rows, ap length d.picture)
      many (inr y) = omega (arith, y, few-names, ap (λ (o : Picture). length (areas_of (with_words o ws))) d.picture)
  none-holds overlap (k, o, x) = subst (λ (j : Kind). OverlapBy j v (line_of ws)) (only_row ws k o) x
  none-holds unequal (k, o, x) =
      let y = subst (λ (j : Kind). UnequalBy j v (line_of ws)) (only_row ws k o) x in
      y.2 (even-row v.picture (ap (λ (o : Picture). o ++ (ws ∷ rest)) d.picture ∙ e) y.1)
  none-holds broken x = x

  next-drawing : Drawing (with_words q ws) (line_step v (line_of ws)).panel
  next-drawing = subst (Drawing (with_words q ws)) (sym (accepted_row v (line_of ws) of fault).panel) drawing
    where
      zeroed : line_fault v (line_of ws) ≡ 0
      zeroed = none_fault v (line_of ws) (line_first v (line_of ws)) none-holds

      fault : (line_step v (line_of ws)).fault ≡ 0
      fault = sym (line-former v (line_of ws) (none_shared v (line_of ws) zeroed)) ∙ zeroed

      drawing : Drawing (with_words q ws) (at_stage 2 (drawn_row v ws))
      drawing =
          record {
            picture = ap (λ (o : Picture). with_words o ws) d.picture;
            timely = ⊎_elim (λ l. omega (arith, l)) (λ (x, y). omega (arith, y));
            columns = record { template = d.columns.template; ended = d.columns.ended; few = omega (arith, d.columns.few, count.1) };
            rows = record { template = d.rows.template; ended = d.rows.ended; few = omega (arith, d.rows.few, few-rows, ap length d.picture) };
          }

-- a broken picture is none of these: another row follows, or all names are filled
module _ (p : Picture) (a : PictureAccepted p) where
  not-broken : (q : Picture) (ws : List Word) (rest : Picture) → q ++ (ws ∷ rest) ≡ p → (v : PanelView) → Drawing q v → BrokenBy v (line_of ws) (map line_of rest) → ⊥
  not-broken q ws [] e v d b = b.cells (subst AllFilled (sym e ∙ ap (λ (o : Picture). with_words o ws) (sym d.picture)) a.filled)
  not-broken q ws (vs ∷ rest) e v d b =
      b.last (here (row_of vs (a.counts (length q + 2) vs (subst (λ (x : Picture). ElementAt [] x (length q + 2) vs) e (element-right [] q (ws ∷ vs ∷ rest) 2 vs (omega arith, omega arith, refl)))).0))

  judged : (q rest : Picture) → q ++ rest ≡ p → (v : PanelView) → Drawing q v → Judged rest v
  judged q [] e v d = none_after q v d
  judged q (ws ∷ rest) e v d = (
    λ r. ⊎_elim (none-holds p a q ws rest e v d r) (λ (x, b). not-broken q ws rest e v d b),
    judged (with_words q ws) rest (all-rows p a q ws rest e v d) (line_step v (line_of ws)).panel (next-drawing p a q ws rest e v d),
  )

-- one that keeps to all of it is accepted
pub keeps-accepted : (p : Picture) → EveryWord Unparted p → PictureAccepted p → (sheet_of (picture_text p)).fault ≡ 0
keeps-accepted p unparted a = text-from p (rows_of Unparted p unparted) a.bytes (judged p a [] p refl empty_view empty_drawing)

-- "a picture is accepted exactly if all rows have equal width, every word is a name or dots, and each name's cells form one filled rectangle,
-- within 01's limits"
pub picture_accepted_exactly : (p : Picture) → EveryWord Unparted p → PictureSheets p
picture_accepted_exactly p unparted = (accepted-keeps p unparted, keeps-accepted p unparted)
