-- The text of an entry is read again as that entry. Assumes nothing.
use Rattle.std.proofs.Common.{ℕ, suc, ◌+◌, ◌-◌, ◌^◌, ◌≤◌, ◌<◌, ◌≡◌, List, [], ◌∷◌, ◌++◌, Bool, true, false, cond, ◌&&◌, leb, ltb, length, take, drop, refl, sym, ap, ◌∙◌, arith, length-append, length-drop, take-append-drop, append_assoc}
use Rattle.std.specs.Prelude.{pos, Ok, Err}
use mathlib.Core.Path.{ap₂}
use Rattle.text.specs.declared.NumberFault.TheVariants.{Outside}
use Rattle.std.specs.Int.{is_in_range}
use Rattle.std.proofs.lemmas.Bool.{and_parts}
use borrow.Author.Tests.{ne_eqb, leb-true, le-leb, lt-leb, ltb-true, ltb-false}
use lib.Seq.{take-append_seam, take_at}
use Rattle.axis_tables.specs.Runs.{put_bytes}
use Rattle.sheet.proofs.Answers.{put-start}
use Rattle.history_lines.specs.Lines.{history_line}
use Rattle.history_lines.specs.Written.{bytes_after}
use Rattle.history_lines.proofs.Steps.{length_line}
use Rattle.history_lines.proofs.Histories.{written_stands, written-before}
use Rattle.text.proofs.Digits.{few-digits}
use Rattle.name_entries.proofs.Graphic.{name-length}
use Rattle.coordinates.specs.declared.axis.Axis.{Axis}
use Rattle.coordinates.specs.declared.axis.Axis.TheVariants.{Column, Row}
use Rattle.text.specs.Split.{before, split, same}
use Rattle.text.specs.Decimal.{decimal}
use Rattle.text.specs.Spelling.{Digits}
use Rattle.text.specs.Whole.{whole, count_in}
use Rattle.text.proofs.Cut.{Free}
use Rattle.text.proofs.Laws.{split-cut, split-last}
use Rattle.history_lines.proofs.Exactly.{free_before, free_one_line}
use Rattle.name_entries.specs.Names.{all_graphic, is_name}
use Rattle.sheet_forms.specs.Words.{at}
use Rattle.sheet_rules.specs.Contents.{letter_of}
use Rattle.panel_text.proofs.ReadBack.{whole_writes, whole_back}
use Rattle.edit_rules.specs.Edits.{enter, enter_word, entry_line, edit_in, edit_of}
use Rattle.panel_history.specs.Names.{entry_head, enter_text}

-- ---- its fields have no tab and no line feed

free_append : (b : ℕ) (x y : List ℕ) → Free b x → Free b y → Free b (x ++ y)
free_append b [] y f g = g
free_append b (c ∷ x) y f g = (f.0, free_append b x y f.1 g)

digits_free : (b : ℕ) (l : List ℕ) → b < 48 → Digits l → Free b l
digits_free b [] h d = tt
digits_free b (x ∷ l) h d = ((λ e. omega (arith, d.0)), digits_free b l h d.2)

decimal_free : (b n : ℕ) → b < 48 → Free b (decimal n)
decimal_free b n h = digits_free b (decimal n) h (whole_writes (pos n)).digits

graphic_free : (b : ℕ) (l : List ℕ) → b < 33 → all_graphic l ≡ true → Free b l
graphic_free b [] h e = tt
graphic_free b (x ∷ l) h e =
    let p = and_parts (is_in_range 33 126 x) (all_graphic l) e in
    let q = and_parts (leb 33 x) (leb x 126) p.0 in
    ((λ y. omega (arith, leb-true 33 x q.0)), graphic_free b l h p.1)

name_free : (b : ℕ) (l : List ℕ) → b < 33 → is_name l ≡ true → Free b l
unfolding is_name
name_free b l h e =
    graphic_free b l h (and_parts (leb 1 (length l) && leb (length l) 32) (all_graphic l) e).1

word_free : (b : ℕ) → b < 33 → Free b enter_word
word_free b h = (λ e. omega (arith, e), (λ e. omega (arith, e), (λ e. omega (arith, e), (λ e. omega (arith, e), (λ e. omega (arith, e), tt)))))

letter_free : (b : ℕ) (a : Axis) → b < 33 → Free b (letter_of a)
letter_free b Column h = ((λ e. omega (arith, e)), tt)
letter_free b Row h = ((λ e. omega (arith, e)), tt)

-- ---- cut at its tabs

split-part : (b : ℕ) (t r : List ℕ) → Free b t → split b (t ++ (b ∷ r)) ≡ t ∷ split b r
split-part b t r f =
    let k = free_before b t r f in
    let less : before b (t ++ (b ∷ r)) < length (t ++ (b ∷ r)) = omega (arith, k, length-append t (b ∷ r)) in
    let rest : drop (suc (length t)) (t ++ (b ∷ r)) ≡ r = drop-past t in
    split-cut b (t ++ (b ∷ r)) less ∙ rw (k, take-append_seam t (b ∷ r), rest)
  where
    drop-past : (t : List ℕ) → drop (suc (length t)) (t ++ (b ∷ r)) ≡ r
    drop-past [] = refl
    drop-past (x ∷ t) = drop-past t

whole_before : (b : ℕ) (t : List ℕ) → Free b t → length t ≤ before b t
unfolding before
whole_before b [] f = omega arith
whole_before b (x ∷ t) f = rw (ne_eqb x b f.0) (omega (arith, whole_before b t f.1))

split-whole : (b : ℕ) (t : List ℕ) → Free b t → split b t ≡ t ∷ []
split-whole b t f = split-last b t (whole_before b t f)

-- a line outside 1 to 20,000 is 0, by which the entry is refused as by its own
abbrev pub line_or_zero : ℕ → ℕ
line_or_zero n = cond (leb 1 n && leb n 20000) n 0

line-read : (n : ℕ) → entry_line (count_in 1 20000 (whole (pos n))) ≡ line_or_zero n
unfolding count_in
line-read n = go (ltb n 1) (ltb 20000 n) refl refl
  where
    go : (t u : Bool) → ltb n 1 ≡ t → ltb 20000 n ≡ u → entry_line (cond t (Err Outside) (cond u (Err Outside) (Ok n))) ≡ line_or_zero n
    go true u e d = rw (lt-leb 1 n (omega (arith, ltb-true n 1 e)))
    go false true e d = rw (le-leb 1 n (omega (arith, ltb-false n 1 e)), lt-leb n 20000 (ltb-true 20000 n d))
    go false false e d = rw (le-leb 1 n (omega (arith, ltb-false n 1 e)), le-leb n 20000 (ltb-false 20000 n d))

module _ (a : Axis) (n : ℕ) (nm : List ℕ) (named : is_name nm ≡ true) where
  parted : enter_text a n nm ≡ enter_word ++ (9 ∷ (letter_of a ++ (9 ∷ (decimal n ++ (9 ∷ nm)))))
  unfolding enter_text
  parted = rw (append_assoc enter_word (9 ∷ (letter_of a ++ (9 ∷ []))) (decimal n ++ (9 ∷ nm)), append_assoc (letter_of a) (9 ∷ []) (decimal n ++ (9 ∷ nm)))

  cut : split 9 (enter_text a n nm) ≡ enter_word ∷ letter_of a ∷ decimal n ∷ nm ∷ []
  cut =
      rw (
        parted,
        split-part 9 enter_word (letter_of a ++ (9 ∷ (decimal n ++ (9 ∷ nm)))) (word_free 9 (omega arith)),
        split-part 9 (letter_of a) (decimal n ++ (9 ∷ nm)) (letter_free 9 a (omega arith)),
        split-part 9 (decimal n) nm (decimal_free 9 n (omega arith)),
        split-whole 9 nm (name_free 9 nm (omega arith) named),
      )

  pub enter-free : Free 10 (enter_text a n nm)
  enter-free =
      let tab : ◌≡◌ {A = ℕ} 9 10 → ⊥ = λ e. omega (arith, e) in
      rw parted
      (free_append 10 enter_word (9 ∷ (letter_of a ++ (9 ∷ (decimal n ++ (9 ∷ nm))))) (word_free 10 (omega arith)) (
        tab,
        free_append 10 (letter_of a) (9 ∷ (decimal n ++ (9 ∷ nm))) (letter_free 10 a (omega arith))
            (tab, free_append 10 (decimal n) (9 ∷ nm) (decimal_free 10 n (omega arith)) (tab, name_free 10 nm (omega arith) named)),
      ))

  pub edit-of-enter : edit_of (enter_text a n nm) ≡ enter (record { axis = a; line = line_or_zero n; name = nm })
  unfolding edit_of edit_in same
  edit-of-enter = rw (free_one_line (enter_text a n nm) enter-free, cut) (go a)
    where
      go : (b : Axis) → edit_in (enter_word ∷ letter_of b ∷ decimal n ∷ nm ∷ []) ≡ enter (record { axis = b; line = line_or_zero n; name = nm })
      go Column = rw (whole_back (pos n), line-read n)
      go Row = rw (whole_back (pos n), line-read n)

-- ---- it is written with a line feed after it, in 52 bytes

module _ (a : Axis) (n : ℕ) (nm : List ℕ) (few : n < 2 ^ 32) (named : is_name nm ≡ true) where
  entry_line_short : length (history_line n nm) ≤ 44
  entry_line_short = omega (arith, length_line n nm, few-digits 9 n (omega arith), name-length nm named)

  pub length-head : length (entry_head a) ≡ 8
  length-head = go a
    where
      go : (b : Axis) → length (entry_head b) ≡ 8
      go Column = refl
      go Row = refl

  -- so long is its text
  pub entry-short : (at k : ℕ) → at ≡ 8 → k ≡ length (history_line n nm) → at + k ≤ 52
  entry-short at k q e = omega (arith, e, q, entry_line_short)

  module _ (bytes : List ℕ) (long : length bytes ≡ 52) (first : List ℕ) (o : first ≡ entry_head a) (put : List ℕ) (p : put ≡ put_bytes bytes 0 first) (at : ℕ) (q : at ≡ 8) (after : List ℕ) (r : after ≡ bytes_after put at (history_line n nm)) where
    headed : put ≡ entry_head a ++ drop 8 bytes
    headed = p ∙ ap (put_bytes bytes 0) o ∙ put-start bytes (entry_head a) (omega (arith, length-head)) ∙ ap (λ (j : ℕ). entry_head a ++ drop j bytes) length-head

    fits : 8 + length (history_line n nm) ≤ length put
    fits = omega (arith, entry_line_short, ap length headed, length-append (entry_head a) (drop 8 bytes), length-head, length-drop 8 bytes)

    -- the head, and then the line
    entry_bytes : after ≡ entry_head a ++ (history_line n nm ++ drop (8 + length (history_line n nm)) put)
    entry_bytes =
        let f : take 8 after ≡ entry_head a =
        ap (take 8) (r ∙ ap (λ (j : ℕ). bytes_after put j (history_line n nm)) q) ∙ written-before put (history_line n nm) 8 fits ∙ ap (take 8) headed
        ∙ take_at (entry_head a) (drop 8 bytes) 8 length-head in
        let g : drop 8 after ≡ history_line n nm ++ drop (8 + length (history_line n nm)) put =
        ap (drop 8) (r ∙ ap (λ (j : ℕ). bytes_after put j (history_line n nm)) q) ∙ written_stands put (history_line n nm) 8 fits in
        sym (take-append-drop 8 after) ∙ ap₂ (λ (x y : List ℕ). x ++ y) f g

    pub entry-written : (k : ℕ) → k ≡ length (history_line n nm) → take (at + k - 1) after ≡ enter_text a n nm
    unfolding enter_text history_line
    entry-written k e =
        let cut : after ≡ (entry_head a ++ (decimal n ++ (9 ∷ nm))) ++ (10 ∷ drop (8 + length (history_line n nm)) put) =
        entry_bytes ∙ ap (λ (x : List ℕ). entry_head a ++ x) (append_assoc (decimal n) (9 ∷ (nm ++ (10 ∷ []))) (drop (8 + length (history_line n nm)) put)
        ∙ ap (λ (x : List ℕ). decimal n ++ (9 ∷ x)) (append_assoc nm (10 ∷ []) (drop (8 + length (history_line n nm)) put))
        ∙ sym (append_assoc (decimal n) (9 ∷ nm) (10 ∷ drop (8 + length (history_line n nm)) put)))
        ∙ sym (append_assoc (entry_head a) (decimal n ++ (9 ∷ nm)) (10 ∷ drop (8 + length (history_line n nm)) put)) in
        let long : length (entry_head a ++ (decimal n ++ (9 ∷ nm))) ≡ at + k - 1 =
        omega (arith, e, q, length-head, length_line n nm, length-append (entry_head a) (decimal n ++ (9 ∷ nm)), length-append (decimal n) (9 ∷ nm)) in
        ap (take (at + k - 1)) cut ∙ take_at (entry_head a ++ (decimal n ++ (9 ∷ nm))) (10 ∷ drop (8 + length (history_line n nm)) put) (at + k - 1) long
