-- An area picture (document 02, Req 07; CSS Grid Level 1, 7.3): rows of words, a word its bytes. Rows, columns and lines are counted from 1.
use Rattle.std.specs.Prelude.{ℕ, ◌+◌, ◌-◌, ◌≤◌, ◌<◌, ◌≡◌, List, [], ◌∷◌, Bool, true, false, cond, ◌↔◌, ◌⊎◌, eqb, length, get_or}

abbrev pub Word : Type 0
Word = List ℕ

abbrev pub Picture : Type 0
Picture = List (List Word)

-- ---- words

unfoldable pub all_dots : Word → Bool
all_dots [] = true
all_dots (b ∷ bs) = cond (eqb b 46) (all_dots bs) false

-- "a run of dots for an empty cell": one or more `.`; every other word is a name
unfoldable pub is_dots : Word → Bool
is_dots [] = false
is_dots (b ∷ bs) = all_dots (b ∷ bs)

-- the same, byte by byte
abbrev pub Dots : Word → Type 0
Dots w = (1 ≤ length w) × ((i : ℕ) → i < length w → get_or w i 0 ≡ 46)

-- ---- cells

-- the element at place i of a list, the first at 1
abbrev pub ElementAt : {A : Type 0} → A → List A → ℕ → A → Type 0
ElementAt none l i a = (1 ≤ i) × (i ≤ length l) × (get_or l (i - 1) none ≡ a)

-- the cell at row r, column c has that word
abbrev pub CellIn : Picture → ℕ → ℕ → Word → Type 0
CellIn p r c w = (row : List Word) × ElementAt [] p r row × ElementAt [] row c w

-- a name that stands in the picture
pub record NameIn (p : Picture) (n : Word) : Type 0 where
  pub name : is_dots n ≡ false
  pub row : ℕ
  pub column : ℕ
  pub cell : CellIn p row column n

abbrev pub width_of : Picture → ℕ
width_of p = length (get_or p 0 [])

-- "all rows have equal width"
abbrev pub EqualWidth : Picture → Type 0
EqualWidth p = (r : ℕ) (row : List Word) → ElementAt [] p r row → length row ≡ width_of p

-- ---- areas

-- the cells between two row lines and two column lines
pub record Box : Type 0 where
  pub rowstart : ℕ
  pub rowend : ℕ
  pub columnstart : ℕ
  pub columnend : ℕ

abbrev pub InBox : Box → ℕ → ℕ → Type 0
InBox b r c = (b.rowstart ≤ r) × (r < b.rowend) × (b.columnstart ≤ c) × (c < b.columnend)

-- "the cells of a name form one filled rectangle": its cells are those of the box, of which there is at least one
pub record Filled (p : Picture) (n : Word) (b : Box) : Type 0 where
  pub rows : b.rowstart < b.rowend
  pub columns : b.columnstart < b.columnend
  pub cells : (r c : ℕ) → CellIn p r c n ↔ InBox b r c

-- each name's cells do
abbrev pub AllFilled : Picture → Type 0
AllFilled p = (n : Word) → NameIn p n → (b : Box) × Filled p n b

pub record PictureArea : Type 0 where
  pub name : Word
  pub box : Box

abbrev pub Among : PictureArea → List PictureArea → Type 0
Among a [] = ⊥
Among a (x ∷ xs) = (x ≡ a) ⊎ Among a xs

-- any two areas, the first before the second in the list
abbrev pub Pairs : (PictureArea → PictureArea → Type 0) → List PictureArea → Type 0
Pairs R [] = Unit {0}
Pairs R (a ∷ rest) = ((b : PictureArea) → Among b rest → R a b) × Pairs R rest

abbrev pub OtherName : PictureArea → PictureArea → Type 0
OtherName a b = a.name ≡ b.name → ⊥

-- the first cell of one comes before that of the other, "reading along rows"
abbrev pub FirstBefore : PictureArea → PictureArea → Type 0
FirstBefore a b = (a.box.rowstart < b.box.rowstart) ⊎ ((a.box.rowstart ≡ b.box.rowstart) × (a.box.columnstart < b.box.columnstart))

-- no cell lies in both
abbrev pub NoCell : PictureArea → PictureArea → Type 0
NoCell a b = (r c : ℕ) → InBox a.box r c → InBox b.box r c → ⊥

-- areas with the names of a picture, each once
pub record NamesOf (p : Picture) (l : List PictureArea) : Type 0 where
  pub stands : (a : PictureArea) → Among a l → NameIn p a.name
  pub every : (n : Word) → NameIn p n → (b : Box) × Among (record { name = n; box = b }) l
  pub once : Pairs OtherName l

-- the areas of a picture: its names, each once with its filled box, "in order of first cell"
pub record AreasOf (p : Picture) (l : List PictureArea) : Type 0 where
  pub names : NamesOf p l
  pub filled : (a : PictureArea) → Among a l → Filled p a.name a.box
  pub order : Pairs FirstBefore l

-- what a picture gives: its rows and its width, and boxes that lie within them
pub record PictureCounts (p : Picture) (rowcount columncount : ℕ) (l : List PictureArea) : Type 0 where
  pub rows : rowcount ≡ length p
  pub width : columncount ≡ width_of p
  pub first : (a : PictureArea) → Among a l → (1 ≤ a.box.rowstart) × (1 ≤ a.box.columnstart)
  pub last : (a : PictureArea) → Among a l → (a.box.rowend ≤ length p + 1) × (a.box.columnend ≤ width_of p + 1)
