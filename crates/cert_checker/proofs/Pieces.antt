-- The lines of a text to which a piece is added.
use Rattle.std.proofs.Common.{◌≡◌, ℕ, ◌+◌, ◌≤◌, ◌<◌, ◌^◌, Bool, true, false, cond, not, ◌&&◌, List, [], ◌∷◌, ◌++◌, length, Option, Some, None, option_map, refl, sym, ap, subst, ◌∙◌, append_assoc, length-append, arith}
use Rattle.std.specs.Prelude.{◌==◌}
use Rattle.std.specs.List.{flat_map}
use Rattle.std.proofs.lemmas.Bool.{eqb-true, and_parts, not-true}
use Rattle.std.proofs.lemmas.List.{append-nil}
use Rattle.plain_text.specs.Lines.{ended}
use Rattle.plain_text.specs.Pieces.{cut}
use Rattle.plain_text.proofs.Lacking.{lacks, lacks-append}
use Rattle.log_format.specs.Text.{Begins, with_byte, cut_lines, whole_lines, unfinished}
use Rattle.log_format.proofs.Lines.{lines_again, lines_make}
use Rattle.cert_checker.specs.Hearing.{AreTaken, AreStopped, IsFed}
use Rattle.cert_checker.specs.Lines.{Lines}

-- ---- cuts

-- a byte in front of what stands before the cut
abbrev with_first : ℕ → Option (List ℕ × List ℕ) → Option (List ℕ × List ℕ)
with_first b found = option_map (λ x. (b ∷ x.0, x.1)) found

-- the bytes are what stands before and after the cut, and before it there is no such byte
abbrev IsCutAt : List ℕ → List ℕ → List ℕ → Type 0
IsCutAt bytes line after = (bytes ≡ line ++ 10 ∷ after) × (cut 10 line ≡ None)

cut_later : (b : ℕ) (bs line after : List ℕ) (found : Option (List ℕ × List ℕ)) → (b == 10) ≡ false → ((l a : List ℕ) → found ≡ Some (l, a) → IsCutAt bs l a)
    → with_first b found ≡ Some (line, after) → IsCutAt (b ∷ bs) line after
cut_later b bs line after None other back e = absurd cc
cut_later b bs line after (Some (l, a)) other back e =
    let found : List ℕ × List ℕ = (b ∷ l, a) in
    let wanted : List ℕ × List ℕ = (line, after) in
    let same : found ≡ wanted = cc in
    let first : b ∷ l ≡ line = ap (λ (x : List ℕ × List ℕ). x.0) same in
    let second : a ≡ after = ap (λ (x : List ℕ × List ℕ). x.1) same in
    let h = back l a refl in
    let none : cut 10 (b ∷ l) ≡ None = ap (λ (t : Bool). cond t (Some ([], l)) (with_first b (cut 10 l))) other ∙ ap (with_first b) h.1 in
    (ap (λ (r : List ℕ). b ∷ r) h.0 ∙ (λ i. first i ++ 10 ∷ second i), subst (λ (r : List ℕ). cut 10 r ≡ None) first none)

cut_here : (b : ℕ) (bs line after : List ℕ) (t : Bool) → (b == 10) ≡ t → ((l a : List ℕ) → cut 10 bs ≡ Some (l, a) → IsCutAt bs l a)
    → cond t (Some ([], bs)) (with_first b (cut 10 bs)) ≡ Some (line, after) → IsCutAt (b ∷ bs) line after
cut_here b bs line after true same back e =
    let found : List ℕ × List ℕ = ([], bs) in
    let wanted : List ℕ × List ℕ = (line, after) in
    let parts : found ≡ wanted = cc in
    let nothing : [] ≡ line = ap (λ (x : List ℕ × List ℕ). x.0) parts in
    let rest : bs ≡ after = ap (λ (x : List ℕ × List ℕ). x.1) parts in
    let byte : b ≡ 10 = eqb-true b 10 same in
    ((λ i. byte i ∷ rest i) ∙ ap (λ (r : List ℕ). r ++ 10 ∷ after) nothing, subst (λ (r : List ℕ). cut 10 r ≡ None) nothing refl)
cut_here b bs line after false other back e = cut_later b bs line after (cut 10 bs) other back e

-- where some bytes are cut, they are what stands before and after, and before there is no such byte
pub cut_takes : (bytes line after : List ℕ) → cut 10 bytes ≡ Some (line, after) → IsCutAt bytes line after
cut_takes [] line after e = absurd cc
cut_takes (b ∷ bs) line after e = cut_here b bs line after (b == 10) refl (λ l a found. cut_takes bs l a found) e

-- where they are not, there is none at all
lacks_uncut : (bytes : List ℕ) → cut 10 bytes ≡ None → lacks 10 bytes ≡ true
lacks_uncut [] e = refl
lacks_uncut (b ∷ bs) e = at (b == 10) refl e (cut 10 bs) refl (lacks_uncut bs)
  where
    at : (t : Bool) → (b == 10) ≡ t → cond t (Some ([], bs)) (with_first b (cut 10 bs)) ≡ None → (found : Option (List ℕ × List ℕ)) → cut 10 bs ≡ found → (cut 10 bs ≡ None → lacks 10 bs ≡ true)
        → not (b == 10) && lacks 10 bs ≡ true
    at true same e found is before = absurd cc
    at false other e None is before = rw (other, before is) refl
    at false other e (Some x) is before = absurd (let some : with_first b (Some x) ≡ None = ap (with_first b) (sym is) ∙ e in cc)

-- ---- lines

-- what is left after the last end has none
unfinished_lacks : (text : List ℕ) → lacks 10 (unfinished text) ≡ true
unfinished_lacks [] = refl
unfinished_lacks (b ∷ bs) = at (b == 10) refl (cut_lines bs) (unfinished_lacks bs)
  where
    at : (t : Bool) → (b == 10) ≡ t → (x : List (List ℕ) × List ℕ) → lacks 10 x.1 ≡ true → lacks 10 (cond {A = List (List ℕ) × List ℕ} t ([] ∷ x.0, x.1) (with_byte b x)).1 ≡ true
    at true same x h = h
    at false other ([], rest) h = rw (other, h) refl
    at false other (line ∷ lines, rest) h = h

-- bytes without an end are no line
uncut_lines : (bytes : List ℕ) → lacks 10 bytes ≡ true → cut_lines bytes ≡ ([], bytes)
uncut_lines [] h = refl
uncut_lines (b ∷ bs) h =
    let p = and_parts (not (b == 10)) (lacks 10 bs) h in
    rw (not-true (b == 10) p.0) (ap (with_byte b) (uncut_lines bs p.1))

-- and with one they are a line
one_line : (line : List ℕ) → lacks 10 line ≡ true → cut_lines (line ++ 10 ∷ []) ≡ (line ∷ [], [])
one_line line h = ap cut_lines (sym (append-nil (line ++ 10 ∷ []))) ∙ lines_again (line ∷ []) (h, tt)

-- the lines before, and those of what is left and more
abbrev joined : List (List ℕ) × List ℕ → List ℕ → List (List ℕ) × List ℕ
joined x bs = (x.0 ++ whole_lines (x.1 ++ bs), unfinished (x.1 ++ bs))

-- the lines of a text and more are those of the text, and those of what is left of it and more
lines_append : (text bs : List ℕ) → cut_lines (text ++ bs) ≡ joined (cut_lines text) bs
lines_append [] bs = refl
lines_append (b ∷ text) bs = at (b == 10) refl (cut_lines text) (lines_append text bs)
  where
    at : (t : Bool) → (b == 10) ≡ t → (x : List (List ℕ) × List ℕ) → cut_lines (text ++ bs) ≡ joined x bs
        → cond {A = List (List ℕ) × List ℕ} t ([] ∷ whole_lines (text ++ bs), unfinished (text ++ bs)) (with_byte b (cut_lines (text ++ bs))) ≡ joined (cond {A = List (List ℕ) × List ℕ} t ([] ∷ x.0, x.1) (with_byte b x)) bs
    at true same x e = ap (λ (y : List (List ℕ) × List ℕ). let r : List (List ℕ) × List ℕ = ([] ∷ y.0, y.1) in r) e
    at false other ([], rest) e = ap (with_byte b) e ∙ sym (ap (λ (t : Bool). cond {A = List (List ℕ) × List ℕ} t ([] ∷ whole_lines (rest ++ bs), unfinished (rest ++ bs)) (with_byte b (cut_lines (rest ++ bs)))) other)
    at false other (line ∷ lines, rest) e = ap (with_byte b) e

-- no more lines than bytes
lines_are_few : (lines : List (List ℕ)) → length lines ≤ length (flat_map ended lines)
lines_are_few [] = omega arith
lines_are_few (line ∷ lines) = omega (arith, length-append (ended line) (flat_map ended lines), length-append line (10 ∷ []), lines_are_few lines)

few_lines : (text : List ℕ) → length (whole_lines text) ≤ length text
few_lines text = omega (arith, ap length (lines_make text), length-append (flat_map ended (whole_lines text)) (unfinished text), lines_are_few (whole_lines text))

-- ---- a text that is read as it comes

pub taken_none : (lines : List (List ℕ)) (part text : List ℕ) → lines ≡ [] → part ≡ [] → text ≡ [] → Begins lines → AreTaken lines part text
taken_none lines part text no_line no_part no_byte begins = record {
  whole = ap whole_lines no_byte ∙ sym no_line;
  rest = ap unfinished no_byte ∙ sym no_part;
  begun = begins;
  few = omega (arith, ap length no_byte);
}

pub taken_few : (lines : List (List ℕ)) (part text : List ℕ) → AreTaken lines part text → length lines ≤ length text
taken_few lines part text read = omega (arith, few_lines text, ap length read.whole)

pub stopped_few : (lines : List (List ℕ)) (text : List ℕ) → AreStopped lines text → length lines + 1 ≤ length text
stopped_few lines text read = omega (arith, few_lines text, ap length read.whole, length-append lines (read.bad ∷ read.after))

-- which of both it is
pub fed_taken : (lines : List (List ℕ)) (is_bad : Bool) (part text : List ℕ) → IsFed lines is_bad part text → is_bad ≡ false → AreTaken lines part text
fed_taken lines false part text read e = read
fed_taken lines true part text read e = absurd cc

pub fed_stopped : (lines : List (List ℕ)) (is_bad : Bool) (part text : List ℕ) → IsFed lines is_bad part text → is_bad ≡ true → AreStopped lines text
fed_stopped lines true part text read e = read
fed_stopped lines false part text read e = absurd cc

pub fed_few : (lines : List (List ℕ)) (is_bad : Bool) (part text : List ℕ) → IsFed lines is_bad part text → length lines < 2 ^ 63
fed_few lines false part text read = omega (arith, taken_few lines part text read, read.few)
fed_few lines true part text read = omega (arith, stopped_few lines text read, read.few)

-- the lines of a text whose last one comes to its end
ended_lines : (lines : List (List ℕ)) (part text line : List ℕ) → whole_lines text ≡ lines → unfinished text ≡ part → cut 10 line ≡ None
    → cut_lines (text ++ (line ++ 10 ∷ [])) ≡ (lines ++ (part ++ line) ∷ [], [])
ended_lines lines part text line whole rest none =
    let lacking : lacks 10 (part ++ line) ≡ true = lacks-append 10 part line (subst (λ (r : List ℕ). lacks 10 r ≡ true) rest (unfinished_lacks text)) (lacks_uncut line none) in
    let last : cut_lines (part ++ (line ++ 10 ∷ [])) ≡ ((part ++ line) ∷ [], []) = ap cut_lines (sym (append_assoc part line (10 ∷ []))) ∙ one_line (part ++ line) lacking in
    let parts : joined (cut_lines text) (line ++ 10 ∷ []) ≡ joined (lines, part) (line ++ 10 ∷ []) = ap (λ (x : List (List ℕ) × List ℕ). joined x (line ++ 10 ∷ [])) (λ i. (whole i, rest i)) in
    lines_append text (line ++ 10 ∷ []) ∙ (parts ∙ ap (λ (x : List (List ℕ) × List ℕ). let r : List (List ℕ) × List ℕ = (lines ++ x.0, x.1) in r) last)

-- the line was taken
pub taken_end : (lines : List (List ℕ)) (part text line : List ℕ) → AreTaken lines part text → cut 10 line ≡ None → Begins (lines ++ (part ++ line) ∷ []) → length text + length line + 1 < 2 ^ 63
    → AreTaken (lines ++ (part ++ line) ∷ []) [] (text ++ (line ++ 10 ∷ []))
taken_end lines part text line read none begins few =
    let all = ended_lines lines part text line read.whole read.rest none in
    record {
      whole = ap (λ (x : List (List ℕ) × List ℕ). x.0) all;
      rest = ap (λ (x : List (List ℕ) × List ℕ). x.1) all;
      begun = begins;
      few = omega (arith, few, length-append text (line ++ 10 ∷ []), length-append line (10 ∷ []));
    }

-- or it may not stand there
pub stopped_end : (lines : List (List ℕ)) (part text line : List ℕ) → AreTaken lines part text → cut 10 line ≡ None → ¬ (Begins (lines ++ (part ++ line) ∷ []))
    → length text + length line + 1 < 2 ^ 63 → AreStopped lines (text ++ (line ++ 10 ∷ []))
stopped_end lines part text line read none stops few =
    let all = ended_lines lines part text line read.whole read.rest none in
    record {
      bad = part ++ line;
      after = [];
      whole = ap (λ (x : List (List ℕ) × List ℕ). x.0) all;
      begun = read.begun;
      stops = stops;
      few = omega (arith, few, length-append text (line ++ 10 ∷ []), length-append line (10 ∷ []));
    }

-- bytes that end no line are left
pub taken_more : (lines : List (List ℕ)) (part text bytes : List ℕ) → AreTaken lines part text → cut 10 bytes ≡ None → length text + length bytes < 2 ^ 63
    → AreTaken lines (part ++ bytes) (text ++ bytes)
taken_more lines part text bytes read none few =
    let lacking : lacks 10 (part ++ bytes) ≡ true = lacks-append 10 part bytes (subst (λ (r : List ℕ). lacks 10 r ≡ true) read.rest (unfinished_lacks text)) (lacks_uncut bytes none) in
    let parts : joined (cut_lines text) bytes ≡ joined (lines, part) bytes = ap (λ (x : List (List ℕ) × List ℕ). joined x bytes) (λ i. (read.whole i, read.rest i)) in
    let all : cut_lines (text ++ bytes) ≡ (lines ++ [], part ++ bytes) = lines_append text bytes ∙ (parts ∙ ap (λ (x : List (List ℕ) × List ℕ). let r : List (List ℕ) × List ℕ = (lines ++ x.0, x.1) in r) (uncut_lines (part ++ bytes) lacking)) in
    record {
      whole = ap (λ (x : List (List ℕ) × List ℕ). x.0) all ∙ append-nil lines;
      rest = ap (λ (x : List (List ℕ) × List ℕ). x.1) all;
      begun = read.begun;
      few = omega (arith, few, length-append text bytes);
    }

-- a line that may not stand at its place stays there
pub stopped_more : (lines : List (List ℕ)) (text bytes : List ℕ) → AreStopped lines text → length text + length bytes < 2 ^ 63 → AreStopped lines (text ++ bytes)
stopped_more lines text bytes read few =
    let more = whole_lines (unfinished text ++ bytes) in
    record {
      bad = read.bad;
      after = read.after ++ more;
      whole = ap (λ (x : List (List ℕ) × List ℕ). x.0) (lines_append text bytes) ∙ (ap (λ (r : List (List ℕ)). r ++ more) read.whole ∙ append_assoc lines (read.bad ∷ read.after) more);
      begun = read.begun;
      stops = read.stops;
      few = omega (arith, few, length-append text bytes);
    }

-- a line that was taken
pub line_taken : (before after : Lines) (part text line bytes rest now : List ℕ) → AreTaken before.lines part text → cut 10 line ≡ None → bytes ≡ part ++ line
    → (after ≡ record { problem = before.problem; lines = before.lines ++ bytes ∷ [] }) × Begins after.lines
    → length text + length line + 1 < 2 ^ 63 → rest ≡ [] → now ≡ text ++ (line ++ 10 ∷ []) → AreTaken after.lines rest now
line_taken before after part text line bytes rest now read none whole heard few nothing all =
    let lines : after.lines ≡ before.lines ++ (part ++ line) ∷ [] = ap (λ (l : Lines). l.lines) heard.0 ∙ ap (λ (r : List ℕ). before.lines ++ r ∷ []) whole in
    let taken = taken_end before.lines part text line read none (subst Begins lines heard.1) few in
    subst (λ (t : List ℕ). AreTaken after.lines rest t) (sym all) (subst (λ (r : List ℕ). AreTaken after.lines r (text ++ (line ++ 10 ∷ []))) (sym nothing) (subst (λ (ls : List (List ℕ)). AreTaken ls [] (text ++ (line ++ 10 ∷ []))) (sym lines) taken))

-- a line that may not stand at its place
pub line_bad : (before after : Lines) (part text line bytes now : List ℕ) → AreTaken before.lines part text → cut 10 line ≡ None → bytes ≡ part ++ line
    → (after ≡ before) × (¬ (Begins (before.lines ++ bytes ∷ [])))
    → length text + length line + 1 < 2 ^ 63 → now ≡ text ++ (line ++ 10 ∷ []) → AreStopped after.lines now
line_bad before after part text line bytes now read none whole heard few all =
    let stopped = stopped_end before.lines part text line read none (subst (λ (r : List ℕ). ¬ (Begins (before.lines ++ r ∷ []))) whole heard.1) few in
    subst (λ (t : List ℕ). AreStopped after.lines t) (sym all) (subst (λ (l : Lines). AreStopped l.lines (text ++ (line ++ 10 ∷ []))) (sym heard.0) stopped)

-- ---- a piece that is cut into lines

-- what came and what is left are the text and the piece
abbrev pub IsSplitAs : List ℕ → List ℕ → List ℕ → List ℕ → Type 0
IsSplitAs text rest before piece = text ++ rest ≡ before ++ piece

pub room_left : (text rest before piece : List ℕ) → IsSplitAs text rest before piece → length before + length piece < 2 ^ 63 → length text + length rest < 2 ^ 63
room_left text rest before piece all few = omega (arith, few, ap length all, length-append text rest, length-append before piece)

pub room_for_line : (text rest line after before piece : List ℕ) → IsSplitAs text rest before piece → rest ≡ line ++ 10 ∷ after → length before + length piece < 2 ^ 63
    → length text + length line + 1 < 2 ^ 63
room_for_line text rest line after before piece all is few = omega (arith, room_left text rest before piece all few, ap length is, length-append line (10 ∷ after))

pub line_goes : (text next rest line after before piece : List ℕ) → IsSplitAs text rest before piece → rest ≡ line ++ 10 ∷ after → next ≡ text ++ (line ++ 10 ∷ [])
    → IsSplitAs next after before piece
line_goes text next rest line after before piece all is more =
    ap (λ (r : List ℕ). r ++ after) more
    ∙ (append_assoc text (line ++ 10 ∷ []) after
    ∙ (ap (λ (r : List ℕ). text ++ r) (append_assoc line (10 ∷ []) after ∙ sym is) ∙ all))
