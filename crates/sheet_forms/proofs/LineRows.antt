-- The rows of a line are those of its parts, and its kind is the one that its first field names. Assumes nothing.
use Prim.Native.Nat.{ℕ, zero, suc, ◌<◌}
use mathlib.Core.Path.{◌≡◌, refl, sym, ap, ◌∙◌, subst}
use mathlib.Core.List.{List, [], ◌∷◌}
use mathlib.Core.Logic.{inl, inr}
use native.Mathlib.Omega.{arith}
use lib.Dec.{lit<}
use lib.ListN.{get_or, drop}
use Rattle.text.specs.Split.{same, index}
use Rattle.sheet_forms.specs.Words.{at, kind_words}
use Rattle.sheet_forms.specs.Faults.{first_of, no_row}
use Rattle.sheet_forms.specs.Fields.{axis_of, rule_of, count_of, repetition_of, name_fault, row_fault}
use Rattle.sheet_forms.specs.Sizes.{size_of, inner_of}
use Rattle.sheet_forms.specs.Ends.{end_within}
use Rattle.sheet_forms.specs.Forms.{Part, an_axis, a_name, a_count, an_inner, a_rule, a_size, a_repetition, an_end, the_words, Formed, Kind, axis, area, name, track, repeat, end, spare, extra, item, place, row, cell, kind_number, parts_of, Of, Every}
use Rattle.sheet_forms.specs.Rows.{Row, unread, bad_name, bad_value, bad_count, bad_area, Holds, First, NameOutside, ValueOutside, CountOutside, Some}
use Rattle.sheet_forms.proofs.Firsts.{firsts}
use Rattle.sheet_forms.proofs.PartRows.{PartHolds, axis_first, rule_first, name_first, count_first, inner_first, size_first, repetition_first}
use Rattle.sheet_forms.proofs.EndRows.{end_first}
use Rattle.sheet_forms.proofs.WordRows.{words_first}

-- ---- the parts

-- what the readers say of a part
abbrev pub part_fault : List (List ℕ) → Part → ℕ
part_fault fs (an_axis k) = (axis_of (at fs k)).fault
part_fault fs (a_name k) = name_fault (at fs k)
part_fault fs (a_count least most k) = (count_of least most (at fs k)).fault
part_fault fs (an_inner k) = (inner_of (at fs k)).fault
part_fault fs (a_rule k) = (rule_of (at fs k)).fault
part_fault fs (a_size p k) = (size_of p (at fs k) (at fs (suc k))).fault
part_fault fs (a_repetition k) = (repetition_of (at fs k)).fault
part_fault fs (an_end least most k) = (end_within least most (at fs k) (at fs (suc k)) (at fs (suc (suc k)))).fault
part_fault fs (the_words k) = row_fault (drop k fs)

part_first : (fs : List (List ℕ)) (p : Part) → First (PartHolds fs p) (part_fault fs p)
part_first fs (an_axis k) = axis_first fs k
part_first fs (a_name k) = name_first fs k
part_first fs (a_count least most k) = count_first fs least most k
part_first fs (an_inner k) = inner_first fs k
part_first fs (a_rule k) = rule_first fs k
part_first fs (a_size p k) = size_first fs p k
part_first fs (a_repetition k) = repetition_first fs k
part_first fs (an_end least most k) = end_first least most fs k
part_first fs (the_words k) = words_first fs k

abbrev pub faults : List (List ℕ) → List Part → ℕ
faults fs [] = 0
faults fs (p ∷ ps) = first_of (part_fault fs p) (faults fs ps)

abbrev pub SomeHolds : List (List ℕ) → List Part → Row → Type 0
SomeHolds fs ps r = Some (λ p. PartHolds fs p r) ps

pub parts_first : (fs : List (List ℕ)) (ps : List Part) → First (SomeHolds fs ps) (faults fs ps)
parts_first fs [] = no_row refl (λ r x. x)
parts_first fs (p ∷ ps) = firsts (part_first fs p) (parts_first fs ps)

-- ---- the kind

place_of : (k : Kind) → index (get_or kind_words (kind_number k) []) kind_words ≡ kind_number k
unfolding index same
place_of axis = refl
place_of area = refl
place_of name = refl
place_of track = refl
place_of repeat = refl
place_of end = refl
place_of spare = refl
place_of extra = refl
place_of item = refl
place_of place = refl
place_of row = refl
place_of cell = refl

pub word-index : (fs : List (List ℕ)) (k : Kind) → at fs 0 ≡ get_or kind_words (kind_number k) [] → index (at fs 0) kind_words ≡ kind_number k
word-index fs k e = ap (λ (l : List ℕ). index l kind_words) e ∙ place_of k

abbrev pub kind_at : ℕ → Kind
kind_at zero = axis
kind_at (suc zero) = area
kind_at (suc (suc zero)) = name
kind_at (suc (suc (suc zero))) = track
kind_at (suc (suc (suc (suc zero)))) = repeat
kind_at (suc (suc (suc (suc (suc zero))))) = end
kind_at (suc (suc (suc (suc (suc (suc zero)))))) = spare
kind_at (suc (suc (suc (suc (suc (suc (suc zero))))))) = extra
kind_at (suc (suc (suc (suc (suc (suc (suc (suc zero)))))))) = item
kind_at (suc (suc (suc (suc (suc (suc (suc (suc (suc zero))))))))) = place
kind_at (suc (suc (suc (suc (suc (suc (suc (suc (suc (suc zero)))))))))) = row
kind_at (suc (suc (suc (suc (suc (suc (suc (suc (suc (suc (suc i))))))))))) = cell

kind_back : (k : Kind) → kind_at (kind_number k) ≡ k
kind_back axis = refl
kind_back area = refl
kind_back name = refl
kind_back track = refl
kind_back repeat = refl
kind_back end = refl
kind_back spare = refl
kind_back extra = refl
kind_back item = refl
kind_back place = refl
kind_back row = refl
kind_back cell = refl

pub number_back_lem : (i : ℕ) → i < 12 → kind_number (kind_at i) ≡ i
number_back_lem zero h = refl
number_back_lem (suc zero) h = refl
number_back_lem (suc (suc zero)) h = refl
number_back_lem (suc (suc (suc zero))) h = refl
number_back_lem (suc (suc (suc (suc zero)))) h = refl
number_back_lem (suc (suc (suc (suc (suc zero))))) h = refl
number_back_lem (suc (suc (suc (suc (suc (suc zero)))))) h = refl
number_back_lem (suc (suc (suc (suc (suc (suc (suc zero))))))) h = refl
number_back_lem (suc (suc (suc (suc (suc (suc (suc (suc zero)))))))) h = refl
number_back_lem (suc (suc (suc (suc (suc (suc (suc (suc (suc zero))))))))) h = refl
number_back_lem (suc (suc (suc (suc (suc (suc (suc (suc (suc (suc zero)))))))))) h = refl
number_back_lem (suc (suc (suc (suc (suc (suc (suc (suc (suc (suc (suc zero))))))))))) h = refl
number_back_lem (suc (suc (suc (suc (suc (suc (suc (suc (suc (suc (suc (suc i)))))))))))) h = absurd (omega arith)

pub kind_below : (k : Kind) → kind_number k < 12
kind_below axis = lit< tt
kind_below area = lit< tt
kind_below name = lit< tt
kind_below track = lit< tt
kind_below repeat = lit< tt
kind_below end = lit< tt
kind_below spare = lit< tt
kind_below extra = lit< tt
kind_below item = lit< tt
kind_below place = lit< tt
kind_below row = lit< tt
kind_below cell = lit< tt

-- a line is of one kind only
pub same_kind_lem : (fs : List (List ℕ)) (j k : Kind) → at fs 0 ≡ get_or kind_words (kind_number j) [] → at fs 0 ≡ get_or kind_words (kind_number k) [] → j ≡ k
same_kind_lem fs j k d e = let p = word-index fs j d in let q = word-index fs k e in let r : kind_number j ≡ kind_number k = cc in sym (kind_back j) ∙ ap kind_at r ∙ kind_back k

-- ---- the line

some_unformed : (fs : List (List ℕ)) (ps : List Part) → Some (λ p. Formed fs p → ⊥) ps → Every (Formed fs) ps → ⊥
some_unformed fs [] s e = s
some_unformed fs (p ∷ ps) (inl u) e = u e.0
some_unformed fs (p ∷ ps) (inr s) e = some_unformed fs ps s e.1

none_unformed : (fs : List (List ℕ)) (ps : List Part) → (Some (λ p. Formed fs p → ⊥) ps → ⊥) → (Every (Formed fs) ps → ⊥) → ⊥
none_unformed fs [] n u = u tt
none_unformed fs (p ∷ ps) n u = n (inl (λ f. none_unformed fs ps (λ s. n (inr s)) (λ e. u (f, e))))

none-area : (ps : List Part) → Some (λ p. ⊥) ps → ⊥
none-area [] s = s
none-area (p ∷ ps) (inl x) = x
none-area (p ∷ ps) (inr s) = none-area ps s

module _ (fs : List (List ℕ)) (k : Kind) (of : Of fs k) where
  abbrev parts : List Part
  parts = parts_of k

  same-one : (j : Kind) → Of fs j → j ≡ k
  same-one j o = same_kind_lem fs j k o.word of.word

  -- a row of a part is the line's
  pub line-holds : (r : Row) → SomeHolds fs parts r → Holds fs r
  line-holds unread s = λ j o e. some_unformed fs parts s (subst (λ (i : Kind). Every (Formed fs) (parts_of i)) (same-one j o) e)
  line-holds bad_name s = (k, of, s)
  line-holds bad_value s = (k, of, s)
  line-holds bad_count s = (k, of, s)
  line-holds bad_area s = absurd (none-area parts s)

  -- the line has no row of 1 to 4 but those of its parts
  pub line-not : (r : Row) → (r ≡ bad_area → ⊥) → (SomeHolds fs parts r → ⊥) → Holds fs r → ⊥
  line-not unread b n u = none_unformed fs parts n (λ e. u k of e)
  line-not bad_name b n (j, o, s) = n (subst (λ (i : Kind). Some (NameOutside fs) (parts_of i)) (same-one j o) s)
  line-not bad_value b n (j, o, s) = n (subst (λ (i : Kind). Some (ValueOutside fs) (parts_of i)) (same-one j o) s)
  line-not bad_count b n (j, o, s) = n (subst (λ (i : Kind). Some (CountOutside fs) (parts_of i)) (same-one j o) s)
  line-not bad_area b n x = b refl
