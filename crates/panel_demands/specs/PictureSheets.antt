-- A sheet that is an area picture and nothing else (document 02, request 07): its text, and when it is accepted. proofs/PictureSheets.antt proves it.
use Rattle.std.specs.Prelude.{ℕ, ◌≤◌, ◌≡◌, List, [], ◌∷◌, ◌++◌, ◌⊎◌, ◌↔◌, length, get_or}
use Rattle.picture_rules.specs.Picture.{Word, Picture, Dots, ElementAt, CellIn, EqualWidth, AllFilled, PictureArea, NamesOf}
use Rattle.sheet_forms.specs.Words.{kind_words}
use Rattle.sheet_forms.specs.Forms.{InNameRange}
use Rattle.sheet_rules.specs.Sheet.{sheet_of}

-- ---- its text

-- a tab before each word
unfoldable pub words_text : List Word → List ℕ
words_text [] = []
words_text (w ∷ ws) = 9 ∷ (w ++ words_text ws)

-- "`row` and then its words parted by tabs"
abbrev pub row_text : List Word → List ℕ
row_text ws = get_or kind_words 10 [] ++ words_text ws

-- a line feed after each row
unfoldable pub picture_text : Picture → List ℕ
picture_text [] = []
picture_text (ws ∷ p) = row_text ws ++ (10 ∷ picture_text p)

-- neither a tab nor a line feed is in a word: with one it would be written as two words, or in two rows
abbrev pub Unparted : Word → Type 0
Unparted [] = Unit {0}
Unparted (b ∷ bs) = (b ≡ 9 → ⊥) × (b ≡ 10 → ⊥) × Unparted bs

abbrev pub EveryWord : (Word → Type 0) → Picture → Type 0
EveryWord P p = (r c : ℕ) (w : Word) → CellIn p r c w → P w

-- ---- when it is accepted

-- "accepted exactly if all rows have equal width, every word is a name or dots, and each name's cells form one filled rectangle, within 01's limits"
pub record PictureAccepted (p : Picture) : Type 0 where
  pub even : EqualWidth p
  pub words : EveryWord (λ w. Dots w ⊎ InNameRange w) p
  pub filled : AllFilled p
  -- a row has a word, and no more than there may be tracks
  pub counts : (r : ℕ) (ws : List Word) → ElementAt [] p r ws → (1 ≤ length ws) × (length ws ≤ 10000)
  -- its names, each once, are at most 64
  pub names : (l : List PictureArea) × NamesOf p l × (length l ≤ 64)
  pub bytes : length (picture_text p) ≤ 32768

abbrev pub PictureSheets : Picture → Type 0
PictureSheets p = ((sheet_of (picture_text p)).fault ≡ 0) ↔ PictureAccepted p
