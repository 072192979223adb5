-- Where the conditions of the third demand hold, what layers 3 and 4 make of a sheet is what the book says. Assumes nothing.
use Rattle.std.specs.Prelude.{Float, Option}
use Prim.Native.Nat.{ℕ, zero, suc, ◌+◌, ◌*◌, ◌≤◌, ◌<◌}
use mathlib.Core.Path.{◌≡◌, refl, sym, ap, ◌∙◌, subst}
use mathlib.Core.Logic.{⊎_elim}
use mathlib.Core.Bool.{cond}
use mathlib.Core.List.{List, [], ◌∷◌, map}
use native.Mathlib.Omega.{arith}
use lib.Dec.{eqb}
use lib.ListN.{length, length-map}
use Rattle.coordinates.specs.declared.axis.Axis.{Axis}
use Rattle.sizing.specs.Words.{sizing_of}
use Rattle.sizing.specs.declared.Sizing.{Sizing}
use Rattle.template_rules.specs.Template.{Component, count_of}
use Rattle.template_rules.specs.Counts.{is_automatic, outside_count, automatic_count, automatic_tracks}
use Rattle.template_rules.specs.declared.AutoRepeatStrategy.{AutoRepeatStrategy}
use Rattle.template_rules.specs.declared.TemplateSize.{TemplateSize}
use Rattle.template_rules.specs.Css.{Valid, Repetitions}
use Rattle.template_rules.specs.declared.RepetitionCount.{RepetitionCount}
use Rattle.template_rules.specs.declared.RepetitionCount.TheVariants.{Single, Count, AutoFill, AutoFit}
use Rattle.template_rules.proofs.Answer.{size-counted, size-repeated, valid_repetitions_css}
use Rattle.template_rules.proofs.Valid.{one_at_most, automatic_component, in_count}
use Rattle.template_rules.proofs.Css.{repetitions_unique}
use Rattle.name_rules.specs.Css.{Entry}
use Rattle.name_rules.specs.Template as Css
use Rattle.name_rules.proofs.Written.{rule_book, tracks-append, tracks-copies}
use Rattle.track_rules.specs.Written.{repeats_of, written_out}
use Rattle.track_rules.specs.Lines.{OneTrack, OneTrackEach}
use Rattle.track_rules.proofs.Covers.{written-more, written_count_lem}
use Rattle.axis_tables.specs.View.{Piece, name, track, Repeat, Item, single, repeat, AxisLine, AxisView, sizes_of, tracks_in, components_of, axis_bytes}
use Rattle.axis_tables.proofs.Fits.{Fits, SmallRepeat, SmallItems}
use Rattle.panel_tables.specs.View.{PanelView}
use Rattle.panel_tables.specs.Axes.{view_in}
use Rattle.sheet_rules.specs.Valid.{CssCounted}
use Rattle.sheet_rules.proofs.Counted.{counted_css, counted_unique}
use Rattle.sheet_rules.specs.Sheet.{inner_of, strategy_of, size_of, counted, explicit_of, times_of, pieces_of, items_of, entries_of}
use Rattle.panel_rules.specs.Runs.{Call}
use Rattle.panel_rules.specs.Views.{entries_after, names_after}
use Rattle.panel_rules.specs.Book.{CssTemplate, as_written, sheet_book, sheet_tracks, added_from, book, book_explicit, book_names, CssRepetitions, RegularTemplate}
use Rattle.panel_rules.specs.Added.{found_in}
use Rattle.panel_rules.proofs.Counted.{size_for, counted-components, counted-size, counted-small}

-- ---- items and components

-- how often a repeat is written out: as its component says
times : (r : Repeat) (n : ℕ) → SmallRepeat r → times_of n r ≡ repeats_of n (count_of r.kind r.number)
times r n s = go r.kind s.some s.kinds
  where
    go : (k : ℕ) → 0 < k → k < 4 → cond (eqb k 1) r.number n ≡ repeats_of n (count_of k r.number)
    go zero h l = absurd (omega arith)
    go (suc zero) h l = refl
    go (suc (suc zero)) h l = refl
    go (suc (suc (suc zero))) h l = refl
    go (suc (suc (suc (suc k)))) h l = absurd (omega arith)

pub left_none : (k : ℕ) → 0 + k ≡ 0 → k ≡ 0
left_none k e = omega arith

-- without an automatic repeat the repetitions play no part
plain : (is : List Item) (n m : ℕ) → SmallItems is → automatic_count (components_of is) ≡ 0 → items_of n is ≡ items_of m is
unfolding automatic_count
plain [] n m s e = refl
plain (single (name l) ∷ is) n m s e = rw (plain is n m s e)
plain (single (track t) ∷ is) n m s e = rw (plain is n m s (left_none (automatic_count (components_of is)) e))
plain (repeat r ∷ is) n m s e = go (count_of r.kind r.number) refl e (plain is n m s.1)
  where
    go : (c : RepetitionCount) → c ≡ count_of r.kind r.number → cond (is_automatic c) 1 0 + automatic_count (components_of is) ≡ 0
        → (automatic_count (components_of is) ≡ 0 → items_of n is ≡ items_of m is)
        → ◌≡◌ {A = List Css.Item} (Css.repeat (times_of n r) (pieces_of r.pieces) ∷ items_of n is) (Css.repeat (times_of m r) (pieces_of r.pieces) ∷ items_of m is)
    go Single c e f = rw (times r n s.0, times r m s.0, ← c, f (left_none (automatic_count (components_of is)) e))
    go (Count k) c e f = rw (times r n s.0, times r m s.0, ← c, f (left_none (automatic_count (components_of is)) e))
    go AutoFill c e f = absurd (omega arith)
    go AutoFit c e f = absurd (omega arith)

-- the tracks that the items write out are those of the components
pieces-tracks : (ps : List Piece) → Css.tracks_in (pieces_of ps) ≡ length (tracks_in ps)
pieces-tracks [] = refl
pieces-tracks (name n ∷ ps) = pieces-tracks ps
pieces-tracks (track t ∷ ps) = ap suc (pieces-tracks ps)

pub items_tracks : (is : List Item) (n : ℕ) → SmallItems is → Css.tracks_in (Css.flat (items_of n is)) ≡ length (written_out (components_of is) n)
unfolding written_out
items_tracks [] n s = refl
items_tracks (single (name l) ∷ is) n s = items_tracks is n s
items_tracks (single (track t) ∷ is) n s = ap suc (items_tracks is n s)
items_tracks (repeat r ∷ is) n s =
    let ps : List Css.Piece = pieces_of r.pieces in
    let c : Component = record { count = count_of r.kind r.number; tracks = map sizes_of (tracks_in r.pieces) } in
    tracks-append (Css.copies (times_of n r) ps) (Css.flat (items_of n is))
    ∙ rw (tracks-copies (times_of n r) ps, times r n s.0, pieces-tracks r.pieces, items_tracks is n s.1)
    (sym (written-more c (components_of is) n ∙ rw (length-map (tracks_in r.pieces) sizes_of)))

-- a single is one track
pub one_track : (is : List Item) → SmallItems is → OneTrackEach (components_of is)
one_track [] s = tt
one_track (single (name l) ∷ is) s = one_track is s
one_track (single (track t) ∷ is) s = (refl, one_track is s)
one_track (repeat r ∷ is) s = (go r.kind (length (map sizes_of (tracks_in r.pieces))) s.0.some s.0.kinds, one_track is s.1)
  where
    go : (k m : ℕ) → 0 < k → k < 4 → OneTrack (count_of k r.number) m
    go zero m h l = absurd (omega arith)
    go (suc zero) m h l = tt
    go (suc (suc zero)) m h l = tt
    go (suc (suc (suc zero))) m h l = tt
    go (suc (suc (suc (suc k)))) m h l = absurd (omega arith)

-- CSS's number for the automatic repeat of valid items, from layer 3's answer
by_size : (l : AxisLine) (is : List Item) (size : TemplateSize) → size ≡ size_for l is → Valid (components_of is) → CssRepetitions l (record { template = is; repetitions = size.repetitions })
by_size l is size found valid c m auto =
    let cs = components_of is in
    let inner = inner_of l in
    let strategy = strategy_of l in
    let gap = sizing_of l.gap in
    ⊎_elim
    (λ (e : automatic_count cs ≡ 0). absurd (never (automatic_count cs) e (in_count cs c m auto)))
    (λ (e : automatic_count cs ≡ 1).
    subst (Repetitions inner strategy gap cs) (sym (ap (λ (t : TemplateSize). t.repetitions) (found ∙ size-repeated inner strategy gap 0 cs valid e)))
    (valid_repetitions_css inner strategy gap cs valid e))
    (one_at_most cs valid)
  where
    never : (n : ℕ) → n ≡ 0 → 0 < n → ⊥
    never n e h = omega arith

-- ---- the repetitions found

-- for a valid template they are CSS's
pub found-repetitions : (v : AxisView) → Valid (components_of v.template) → CssRepetitions v.line (as_written (size_of v).repetitions v)
unfolding size_of
found-repetitions v valid = by_size v.line v.template (size_of v) refl valid

-- and for what counts as the template
pub found-counted : (v : AxisView) → CssRepetitions v.line (found_in v)
found-counted v = by_size v.line (counted v) (size_of v) (counted-size v) (counted-components v)

-- ---- an axis whose template, as far as it counts, meets the conditions
module _ (m : CssTemplate) (v : PanelView) (a : Axis) (calls : List Call) (f : Fits (view_in v a)) (css : CssCounted (view_in v a).template m.template)
    (r : RegularTemplate m (view_in v a).line) where
  abbrev va : AxisView
  va = view_in v a

  abbrev n : ℕ
  n = m.repetitions

  abbrev cs : List Component
  cs = components_of m.template

  abbrev found : ℕ
  found = (size_of va).repetitions

  abbrev inner : Option Float
  inner = inner_of va.line

  abbrev strategy : AutoRepeatStrategy
  strategy = strategy_of va.line

  abbrev gap : Sizing
  gap = sizing_of va.line.gap

  -- what counts as the template is what CSS takes for it; it is valid, and layer 3's answer is its
  pub counted_same : counted va ≡ m.template
  counted_same = counted_unique va.template (counted va) m.template (counted_css va) css

  pub valid : Valid cs
  valid = subst (λ (is : List Item). Valid (components_of is)) counted_same (counted-components va)

  pub small : SmallItems m.template
  small = subst SmallItems counted_same (counted-small va f.items)

  size_same : size_of va ≡ size_for va.line m.template
  size_same = counted-size va ∙ ap (size_for va.line) counted_same

  few : automatic_count cs ≤ 1
  few = ⊎_elim (λ (e : automatic_count cs ≡ 0). omega arith) (λ (e : automatic_count cs ≡ 1). omega arith) (one_at_most cs valid)

  -- the repetitions found are CSS's
  pub found-css : automatic_count cs ≡ 1 → found ≡ n
  found-css e =
      let (c, k, auto) = automatic_component cs (omega arith) in
      ap (λ (t : TemplateSize). t.repetitions) (size_same ∙ size-repeated inner strategy gap 0 cs valid e)
      ∙ repetitions_unique inner strategy gap cs _ n (valid_repetitions_css inner strategy gap cs valid e) (r.repetitions c k auto)

  -- wherever they play a part
  pub items-found : items_of found m.template ≡ items_of n m.template
  items-found =
      ⊎_elim
      (λ (e : automatic_count cs ≡ 0). plain m.template found n small e)
      (λ (e : automatic_count cs ≡ 1). ap (λ (k : ℕ). items_of k m.template) (found-css e))
      (one_at_most cs valid)

  -- the entries of the sheet are the book's
  pub entries-book : entries_of va ≡ sheet_book m
  unfolding entries_of sheet_book sheet_tracks
  entries-book =
      ap (λ (is : List Item). Css.rule_from 1 (items_of found is)) counted_same
      ∙ ap (Css.rule_from 1) items-found
      ∙ rule_book 1 (items_of n m.template) r.repeated (omega (arith, r.few))

  -- the tracks that layer 3 counts are those that are written out
  pub tracks-found : (size_of va).tracks ≡ length (written_out cs found)
  tracks-found =
      ⊎_elim
      (λ (e : automatic_count cs ≡ 0). counted-tracks (size_same ∙ size-counted inner strategy gap 0 cs valid e))
      (λ (e : automatic_count cs ≡ 1). repeated-tracks (size_same ∙ size-repeated inner strategy gap 0 cs valid e))
      (one_at_most cs valid)
    where
      all : (k : ℕ) → length (written_out cs k) ≡ outside_count cs + length (automatic_tracks cs) * k
      all k = written_count_lem cs k (one_track m.template small) few

      counted-tracks : {t : TemplateSize} → t ≡ record { repetitions = 0; tracks = outside_count cs } → t.tracks ≡ length (written_out cs t.repetitions)
      counted-tracks e = rw e (omega (arith, all 0))

      repeated-tracks : {t : TemplateSize} {k : ℕ} → t ≡ record { repetitions = k; tracks = outside_count cs + length (automatic_tracks cs) * k } → t.tracks ≡ length (written_out cs t.repetitions)
      repeated-tracks {k = k} e = rw e (sym (all k))

  pub tracks-book : (size_of va).tracks ≡ sheet_tracks m
  unfolding sheet_tracks
  tracks-book = tracks-found ∙ sym (items_tracks m.template found small) ∙ ap (λ (l : List Css.Item). Css.tracks_in (Css.flat l)) items-found

  pub explicit-book : explicit_of va ≡ book_explicit m va
  explicit-book = rw tracks-book

  abbrev pub added_after : List Entry
  added_after = added_from (length (entries_of va)) (length (axis_bytes va)) a calls

  -- the entries after the calls, and all that names the lines
  pub book-after : entries_after va added_after ≡ book m v a calls
  unfolding book
  book-after = rw entries-book

  pub names-book : names_after v a added_after ≡ book_names m v a calls
  names-book = rw (book-after, explicit-book)
