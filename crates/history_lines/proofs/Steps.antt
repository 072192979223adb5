-- What the code's steps add up to: a line that is found, lines that are passed, a line that is written. Assumes nothing.
use Prim.Native.Nat.{ℕ, suc, ◌+◌, ◌-◌, ◌≤◌, ◌<◌}
use mathlib.Core.Path.{◌≡◌, refl, sym, ap, ◌∙◌}
use mathlib.Core.List.{List, [], ◌∷◌, ◌++◌, append_assoc}
use mathlib.Core.Bool.{true, false, cond}
use native.Mathlib.Numerals.{add-one}
use native.Mathlib.Omega.{arith}
use lib.ListN.{length, take, drop, set, length-append, length-drop, drop_of_length-le}
use lib.Seq.{drop-drop, take-append_seam, drop-append_seam}
use borrow.Author.Tests.{le-leb, lt-leb, lt-ltb, le-ltb}
use borrow.Rule.Slice.PartMut.{put_mid}
use Rattle.std.specs.Cmp.Lexicographic.{pointwise}
use Rattle.std.specs.Prelude.{Option, Some, None, nat_eq}
use Rattle.text.specs.Split.{before, same}
use Rattle.text.specs.Decimal.{decimal}
use Rattle.text.proofs.Library.{same_pointwise}
use Rattle.history_lines.specs.declared.HistoryLine.{HistoryLine}
use Rattle.history_lines.specs.Lines.{history_line}
use Rattle.history_lines.specs.Found.{mark, Unmarked, MarkedBy, after_text, ended_at, ended_after, line_at, after_lines}
use Rattle.history_lines.specs.Written.{place_after, bytes_after}
use Rattle.history_lines.proofs.Places.{stands-append, text-put}

-- ---- a line that is found: its digits, its tab, its end

module _ (n : ℕ) (s d : List ℕ) (digits : d ≡ decimal n) where
  pub no_digits : pointwise nat_eq (take (length d) s) d ≡ false → Unmarked n s
  no_digits h = rw (stands-append (decimal n) (9 ∷ []) s, ← digits, ← same_pointwise (take (length d) s) d, h)

  module _ (there : pointwise nat_eq (take (length d) s) d ≡ true) (mid : List ℕ) (cut : mid ≡ drop (length d) s) where
    pub no_tab : pointwise nat_eq (take 1 mid) (9 ∷ []) ≡ false → Unmarked n s
    no_tab h = rw (stands-append (decimal n) (9 ∷ []) s, ← digits, ← same_pointwise (take (length d) s) d, there, ← cut, ← same_pointwise (take 1 mid) (9 ∷ []), h)

    pub marked : (long : length mid + length d ≡ length s) (rest : List ℕ) → pointwise nat_eq (take 1 mid) (9 ∷ []) ≡ true → rest ≡ drop 1 mid → length rest + 1 ≡ length mid
        → MarkedBy n s rest
    marked long rest h e l =
        let m = length-append (decimal n) (9 ∷ []) in
        let w : length (mark n) ≡ length d + 1 = omega (arith, m, ap length digits) in
        let tab : same (take (length (mark n)) s) (mark n) ≡ true =
        rw (stands-append (decimal n) (9 ∷ []) s, ← digits, ← same_pointwise (take (length d) s) d, there, ← cut, ← same_pointwise (take 1 mid) (9 ∷ []), h) in
        (tab, e ∙ ap (drop 1) cut ∙ drop-drop 1 (length d) s ∙ ap (λ (k : ℕ). drop k s) (sym w), omega (arith, long, l, w))

module _ (n : ℕ) (s : List ℕ) (p : ℕ) where
  pub line_past : length s < p → None ≡ line_at n s p
  unfolding line_at after_text ended_after same
  line_past h = let e : drop p s ≡ [] = drop_of_length-le s (omega (arith, h)) in rw e (go (decimal n))
    where
      go : (l : List ℕ) → None ≡ ended_after s (cond (same (take (length (l ++ (9 ∷ []))) []) (l ++ (9 ∷ []))) (Some (p + length (l ++ (9 ∷ [])))) None)
      go [] = refl
      go (x ∷ l) = refl

  pub line_unmarked : Unmarked n (drop p s) → None ≡ line_at n s p
  unfolding line_at after_text ended_after
  line_unmarked h = rw h

  module _ (text : List ℕ) (at : p ≤ length s) (m : MarkedBy n (drop p s) text) where
    starts : drop (p + length (mark n)) s ≡ text
    starts = sym (m.1 ∙ drop-drop (length (mark n)) p s)

    pub line_open : length text ≤ 0 + before 10 (drop 0 text) → None ≡ line_at n s p
    unfolding line_at after_text ended_after ended_at
    line_open h = rw (m.0, starts, le-ltb (p + length (mark n) + before 10 text) (length s) (omega (arith, h, m.2, at, length-drop p s)))

    pub line_found : (k : ℕ) → k ≡ 0 + before 10 (drop 0 text) → k < length text
        → Some (record { text = record { offset = length s - length text; length = k }; after = length s - length text + k + 1 }) ≡ line_at n s p
    unfolding line_at after_text ended_after ended_at
    line_found k e h =
        let o : length s - length text ≡ p + length (mark n) = omega (arith, m.2, at, length-drop p s) in
        let b : before 10 text ≡ k = omega (arith, e) in
        rw (m.0, starts, b, o, lt-ltb (p + length (mark n) + k) (length s) (omega (arith, h, m.2, at, length-drop p s)))

-- ---- lines that are passed

module _ (s : List ℕ) (count number at : ℕ) (x : Option HistoryLine) (found : x ≡ line_at number s at) where
  pub no_line_lem : number ≤ count → x ≡ None → after_lines (count + 1 - number) number s at ≡ None
  unfolding after_lines
  no_line_lem h e = let k : count + 1 - number ≡ suc (count - number) = omega arith in rw (k, sym found, e)

  pub next-line : (line : HistoryLine) → number ≤ count → x ≡ Some line
      → after_lines (count + 1 - number) number s at ≡ after_lines (count + 1 - (number + 1)) (number + 1) s line.after
  unfolding after_lines
  next-line line h e = let k : count + 1 - number ≡ suc (count + 1 - (number + 1)) = omega arith in rw (k, sym found, e, add-one number)

pub no_more_lines : (s : List ℕ) (count number at : ℕ) → count < number → after_lines (count + 1 - number) number s at ≡ Some at
unfolding after_lines
no_more_lines s count number at h = let k : count + 1 - number ≡ 0 = omega arith in rw k

-- ---- a line that is written

pub length_line : (n : ℕ) (text : List ℕ) → length (history_line n text) ≡ length (decimal n) + 2 + length text
unfolding history_line
length_line n text = omega (arith, length-append (decimal n) (9 ∷ (text ++ (10 ∷ []))), length-append text (10 ∷ []))

module _ (n : ℕ) (text b : List ℕ) (p : ℕ) where
  pub no-room-answer : length b < p + length (history_line n text) → None ≡ place_after b p (history_line n text)
  no-room-answer h = rw (lt-leb (p + length (history_line n text)) (length b) h)

  pub no-room-bytes : length b < p + length (history_line n text) → b ≡ bytes_after b p (history_line n text)
  no-room-bytes h = rw (lt-leb (p + length (history_line n text)) (length b) h)

  module _ (fits : p + length (history_line n text) ≤ length b) where
    pub written-answer : (r : ℕ) → r ≡ p + length (history_line n text) → Some r ≡ place_after b p (history_line n text)
    written-answer r e = rw (le-leb (p + length (history_line n text)) (length b) fits, e)

    pub written_bytes : (put : List ℕ) → put ≡ history_line n text → put_mid p (p + length (history_line n text) - p) b put ≡ bytes_after b p (history_line n text)
    written_bytes put e = rw (le-leb (p + length (history_line n text)) (length b) fits) (text-put b put (history_line n text) p e fits)

-- a line that is filled: its number, the tab, its text, the line feed
put_after : (d r : List ℕ) (x : ℕ) → 1 ≤ length r → set (d ++ r) (length d) x ≡ (d ++ (x ∷ [])) ++ drop 1 r
put_after [] [] x h = absurd (omega (arith, h))
put_after [] (y ∷ r) x h = refl
put_after (a ∷ d) r x h = ap (λ (l : List ℕ). a ∷ l) (put_after d r x h)

text_after : (m text r : List ℕ) (a k : ℕ) → a ≡ length m → put_mid a k (m ++ r) text ≡ (m ++ text) ++ drop k r
text_after m text r a k e = rw (e, take-append_seam m r, drop-append_seam m r) (sym (append_assoc m text (drop k r)))

module _ (n : ℕ) (text line d c t : List ℕ) (digits : d ≡ decimal n) (long : length line ≡ length (history_line n text)) (copied : c ≡ d) (then : t ≡ text) where
  -- all but the line feed
  abbrev all_but_feed : List ℕ
  all_but_feed = (d ++ (9 ∷ [])) ++ text

  abbrev after_feed : List ℕ
  after_feed = drop (length line - 1 - (length d + 1)) (drop 1 (drop (length d) line))

  long_enough : length line ≡ length d + 2 + length text
  long_enough = omega (arith, length_line n text, ap length digits, long)

  length_but_feed : length all_but_feed ≡ length line - 1
  length_but_feed = omega (arith, length-append (d ++ (9 ∷ [])) text, length-append d (9 ∷ []), long_enough)

  length_feed : length after_feed ≡ 1
  length_feed =
      omega (arith, length-drop (length line - 1 - (length d + 1)) (drop 1 (drop (length d) line)), length-drop 1 (drop (length d) line), length-drop (length d) line, long_enough)

  text_put : put_mid (length d + 1) (length line - 1 - (length d + 1)) (set (c ++ drop (length d) line) (length d) 9) t ≡ all_but_feed ++ after_feed
  text_put =
      let tab : set (c ++ drop (length d) line) (length d) 9 ≡ (d ++ (9 ∷ [])) ++ drop 1 (drop (length d) line) =
      rw copied (put_after d (drop (length d) line) 9 (omega (arith, length-drop (length d) line, long_enough))) in
      rw (tab, then) (text_after (d ++ (9 ∷ [])) text (drop 1 (drop (length d) line)) (length d + 1) (length line - 1 - (length d + 1)) (sym (length-append d (9 ∷ []))))

  pub feed_room : length line - 1 < length (put_mid (length d + 1) (length line - 1 - (length d + 1)) (set (c ++ drop (length d) line) (length d) 9) t)
  feed_room = rw text_put (omega (arith, length-append all_but_feed after_feed, length_but_feed, length_feed, long_enough))

  pub line_filled : set (put_mid (length d + 1) (length line - 1 - (length d + 1)) (set (c ++ drop (length d) line) (length d) 9) t) (length line - 1) 10 ≡ history_line n text
  unfolding history_line
  line_filled =
      let last : drop 1 after_feed ≡ [] = drop_of_length-le after_feed {i = 1} (omega (arith, length_feed)) in
      ap (λ (l : List ℕ). set l (length line - 1) 10) text_put
      ∙ ap (λ (o : ℕ). set (all_but_feed ++ after_feed) o 10) (sym length_but_feed)
      ∙ put_after all_but_feed after_feed 10 (omega (arith, length_feed))
      ∙ rw (last, digits) (simp append_assoc)
