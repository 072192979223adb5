-- One search after the other comes to what the question asks for. Assumes nothing.
use mathlib.Core.Path.{◌≡◌, refl, sym, ◌∙◌, ap, fun_ext}
use mathlib.Core.Bool.{Bool, true, false}
use mathlib.Core.List.{List, ◌++◌}
use Prim.Native.Nat.{ℕ, suc}
use Rattle.name_rules.specs.Css.{Bytes, Side, start, end, suffix}
use Rattle.name_rules.specs.Rule.{Seek, at, left}
use Rattle.name_lines.specs.Areas.{bears_in}
use Rattle.name_lines.specs.Suffixes.{edge_of, stem_of, side_edge}
use Rattle.name_lines.proofs.Suffixes.{never}
use Rattle.name_lines.proofs.Tables.{sought-name, sought-side}
use Rattle.name_groups.specs.Keys.{joined_key, key_of}
use Rattle.name_groups.specs.Groups.{group_at, group_part}
use Rattle.name_groups.proofs.Keying.{side_key}
use Rattle.name_search.specs.Sought.{line_sought}
use Rattle.name_resolver.specs.declared.Question.{Question}
use Rattle.name_resolver.specs.Questions.{edge_found, or_else, found_by}
use Rattle.axis_tables.specs.Runs.{part_of}
use Rattle.panel_resolving.specs.declared.Around.{Around}
use Rattle.panel_resolving.specs.Names.{bears_by, sought_by}
use Rattle.panel_resolving.specs.Asking.{asks_own, edge_for, stem_for, nth_for, own_found, found_from}
use Rattle.std.specs.Prelude.{Option, Some, None}
use Rattle.name_lines.specs.declared.GridAreaEnd.{GridAreaEnd}
use Rattle.name_lines.specs.declared.GridAreaEnd.TheVariants.{Start, End}

module _ (x : Around) (index store areas areabytes : List ℕ) where
  -- the lines of a name
  abbrev names : Bytes → ℕ → Bool
  names = bears_by x index store areas areabytes

  -- the entries of a key
  abbrev part : ℕ → List ℕ
  part key = group_part index (group_at x.grouping index key)

  -- the lines of the name itself
  own-lines : (nm : Bytes) → sought_by x index store areas areabytes (stem_of nm (edge_of nm)) (edge_of nm) ≡ (λ (l : ℕ). names nm (suc l))
  unfolding sought_by bears_by
  own-lines nm = fun_ext (λ (l : ℕ). sought-name x.axis (part (key_of x.grouping nm)) store (part_of areas 0 x.areas) (part_of areas 64 x.areas) areabytes nm l)

  -- an edge of its area
  edge-lines : (nm : Bytes) (side : Side) → sought_by x index store areas areabytes nm (side_edge side) ≡ (λ (l : ℕ). names (nm ++ suffix side) (suc l))
  unfolding sought_by bears_by
  edge-lines nm side =
      fun_ext (λ (l : ℕ). sought-side x.axis (part (joined_key x.grouping nm (side_edge side))) store (part_of areas 0 x.areas) (part_of areas 64 x.areas) areabytes nm side l
      ∙ ap (λ (key : ℕ). bears_in x.axis (part key) store (part_of areas 0 x.areas) (part_of areas 64 x.areas) areabytes (nm ++ suffix side) (suc l)) (sym (side-key-of side)))
    where
      side-key-of : (w : Side) → key_of x.grouping (nm ++ suffix w) ≡ joined_key x.grouping nm (side_edge w)
      side-key-of start = side_key x.grouping nm start
      side-key-of end = side_key x.grouping nm end

  module _ (q : Question) (nm : Bytes) (k : Seek) where
    -- what one search comes to
    abbrev Comes : Bool → Type 0
    Comes own = k ≡ line_sought (nth_for q own) (sought_by x index store areas areabytes (stem_for q own nm) (edge_for q own nm))

    -- the lines of the name
    came-own : Comes true → k ≡ own_found names nm q
    unfolding line_sought
    came-own e = rw (own-lines nm) at e

    -- an edge of its area
    came-edge : asks_own q.edge ≡ false → Comes false → k ≡ edge_found names nm q.edge
    unfolding line_sought
    came-edge a e = go q.edge a refl
      where
        go : (w : Option GridAreaEnd) → asks_own w ≡ false → q.edge ≡ w → k ≡ edge_found names nm w
        go (Some Start) h f = rw (f, edge-lines nm start) at e
        go (Some End) h f = rw (f, edge-lines nm end) at e
        go None h f = never (sym h)

  module _ (q : Question) (nm : Bytes) (own : Bool) (edged : own ≡ false → asks_own q.edge ≡ false) where
    -- a line that is found answers
    pub found_at : (l : ℕ) → Comes q nm (at l) own → found_from names nm q own ≡ found_by names nm q → at l ≡ found_by names nm q
    unfolding found_from
    found_at l e r = go own refl e r
      where
        go : (o : Bool) → own ≡ o → Comes q nm (at l) o → found_from names nm q o ≡ found_by names nm q → at l ≡ found_by names nm q
        go true h c f = came-own q nm (at l) c ∙ f
        go false h c f = ap (λ (s : Seek). or_else s (own_found names nm q)) (came-edge q nm (at l) (edged h) c) ∙ f

    -- where no line of the name is found, that is the answer
    pub found_left : (m : ℕ) → own ≡ true → Comes q nm (left m) own → found_from names nm q own ≡ found_by names nm q → left m ≡ found_by names nm q
    unfolding found_from
    found_left m h e r = came-own q nm (left m) (rw h at e) ∙ (rw h at r)

    -- where no edge is found, the lines of the name are left
    pub found-next : (m : ℕ) → own ≡ false → Comes q nm (left m) own → found_from names nm q own ≡ found_by names nm q → found_from names nm q true ≡ found_by names nm q
    unfolding found_from
    found-next m h e r = ap (λ (s : Seek). or_else s (own_found names nm q)) (came-edge q nm (left m) (edged h) (rw h at e)) ∙ (rw h at r)

  -- at first
  pub found_first : (q : Question) (nm : Bytes) (own : Bool) → own ≡ asks_own q.edge → found_from names nm q own ≡ found_by names nm q
  unfolding found_from found_by
  found_first q nm own h = rw h (go q.edge)
    where
      go : (w : Option GridAreaEnd) → found_from names nm (record { name = q.name; edge = w; nth = q.nth; held = q.held }) (asks_own w)
          ≡ found_by names nm (record { name = q.name; edge = w; nth = q.nth; held = q.held })
      go (Some side) = refl
      go None = refl
