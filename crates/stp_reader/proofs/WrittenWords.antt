-- Words and lines that were written are those that are read.
use Rattle.std.proofs.Common.{◌≡◌, ℕ, ◌^◌, ◌<◌, Bool, true, false, not, eqb, ◌&&◌, List, [], ◌∷◌, ◌++◌, length, map, refl, ap, ◌∙◌, append_assoc, arith}
use Rattle.std.specs.Fmt.{decimal}
use Rattle.std.specs.List.{list_all}
use Rattle.std.proofs.lemmas.Bool.{and_parts, and_from}
use Rattle.std.proofs.lemmas.Bool.Decides.{nat_tests}
use Rattle.plain_text.specs.Lines.{ended}
use Rattle.plain_text.proofs.Lacking.{lacks}
use Rattle.amounts.specs.declared.scale.Scale.{Scale}
use Rattle.amounts.specs.declared.scale.Scale.TheVariants.{Whole}
use Rattle.amounts.specs.Amounts.{is_amount}
use Rattle.amounts.specs.Text.{amount_text}
use Rattle.amounts.proofs.Reread.{texts_are_read, lacks-amount_text}
use Rattle.stp_reader.specs.Lines.{pieces, without_cr, is_blank, words, word_lines}

-- no byte that ends a line, and none that stands between words
abbrev pub is_inner : ℕ → Bool
is_inner b = not (eqb b 10) && not (eqb b 13) && not (is_blank b)

-- at least one byte, all of them inner ones
abbrev pub is_plain : List ℕ → Bool
is_plain word = not (eqb (length word) 0) && list_all is_inner word

-- ---- words

words_alone : (b : ℕ) (bs : List ℕ) → list_all is_inner (b ∷ bs) ≡ true → words (b ∷ bs) ≡ (b ∷ bs) ∷ []
words_alone b [] h = let p = and_parts (is_inner b) true h in let q : is_blank b ≡ false = grind (arith, nat_tests) in rw q refl
words_alone b (c ∷ bs) h =
    let p = and_parts (is_inner b) (list_all is_inner (c ∷ bs)) h in
    let q = and_parts (is_inner c) (list_all is_inner bs) p.1 in
    let u : is_blank b ≡ false = grind (arith, nat_tests) in
    let v : is_blank c ≡ false = grind (arith, nat_tests) in
    rw (u, v, words_alone c bs p.1) refl

words_before : (b : ℕ) (bs rest : List ℕ) → list_all is_inner (b ∷ bs) ≡ true → words ((b ∷ bs) ++ 32 ∷ rest) ≡ (b ∷ bs) ∷ words (32 ∷ rest)
words_before b [] rest h = let p = and_parts (is_inner b) true h in let q : is_blank b ≡ false = grind (arith, nat_tests) in rw q refl
words_before b (c ∷ bs) rest h =
    let p = and_parts (is_inner b) (list_all is_inner (c ∷ bs)) h in
    let q = and_parts (is_inner c) (list_all is_inner bs) p.1 in
    let u : is_blank b ≡ false = grind (arith, nat_tests) in
    let v : is_blank c ≡ false = grind (arith, nat_tests) in
    rw (u, v, words_before c bs rest p.1) refl

-- a space alone is passed over
words_space : (bs : List ℕ) → words (32 ∷ bs) ≡ words bs
words_space [] = refl
words_space (c ∷ bs) = refl

pub one_word : (w : List ℕ) → is_plain w ≡ true → words w ≡ w ∷ []
one_word [] h = absurd cc
one_word (b ∷ bs) h = words_alone b bs (and_parts (not (eqb (length (b ∷ bs)) 0)) (list_all is_inner (b ∷ bs)) h).1

pub one_more_word : (w rest : List ℕ) → is_plain w ≡ true → words (w ++ 32 ∷ rest) ≡ w ∷ words rest
one_more_word [] rest h = absurd cc
one_more_word (b ∷ bs) rest h = words_before b bs rest (and_parts (not (eqb (length (b ∷ bs)) 0)) (list_all is_inner (b ∷ bs)) h).1 ∙ ap (λ ws. (b ∷ bs) ∷ ws) (words_space rest)

-- ---- numbers and amounts

inner : (cs : List ℕ) → lacks 9 cs ≡ true → lacks 10 cs ≡ true → lacks 13 cs ≡ true → lacks 32 cs ≡ true → list_all is_inner cs ≡ true
inner [] tab lf cr space = refl
inner (c ∷ cs) tab lf cr space =
    let p = and_parts (not (eqb c 9)) (lacks 9 cs) tab in
    let q = and_parts (not (eqb c 10)) (lacks 10 cs) lf in
    let r = and_parts (not (eqb c 13)) (lacks 13 cs) cr in
    let s = and_parts (not (eqb c 32)) (lacks 32 cs) space in
    let here : is_inner c ≡ true = grind (arith, nat_tests, p.0, q.0, r.0, s.0) in
    and_from (is_inner c) (list_all is_inner cs) here (inner cs p.1 q.1 r.1 s.1)

some_byte : (word : List ℕ) → is_amount word ≡ true → not (eqb (length word) 0) ≡ true
some_byte [] amount = absurd cc
some_byte (c ∷ cs) amount = grind (arith, nat_tests)

pub plain_amount : (x : ℕ) (scale : Scale) → x < 2 ^ 64 → is_plain (amount_text x scale) ≡ true
plain_amount x scale small =
    let no = λ (d : ℕ) (low : d < 46). lacks-amount_text d x scale low in
    and_from (not (eqb (length (amount_text x scale)) 0)) (list_all is_inner (amount_text x scale)) (some_byte (amount_text x scale) (texts_are_read x scale small).amount)
    (inner (amount_text x scale) (no 9 (omega arith)) (no 10 (omega arith)) (no 13 (omega arith)) (no 32 (omega arith)))

pub plain_decimal : (n : ℕ) → n < 2 ^ 64 → is_plain (decimal n) ≡ true
plain_decimal n small = plain_amount n Whole small

-- ---- lines

whole_line : (bs rest : List ℕ) → lacks 10 bs ≡ true → pieces (bs ++ 10 ∷ rest) ≡ bs ∷ pieces rest
whole_line [] rest h = refl
whole_line (b ∷ bs) rest h =
    let p = and_parts (not (eqb b 10)) (lacks 10 bs) h in
    let other : eqb b 10 ≡ false = grind (arith, nat_tests, p.0) in
    rw (other, whole_line bs rest p.1) refl

-- the first line of a text, and what comes after it
pub first_line : (line rest : List ℕ) → lacks 10 line ≡ true → word_lines (ended line ++ rest) ≡ words (without_cr line) ∷ word_lines rest
first_line line rest h = ap (map (λ piece. words (without_cr piece))) (ap pieces (append_assoc line (10 ∷ []) rest) ∙ whole_line line rest h)

pub no_cr : (bs : List ℕ) → lacks 13 bs ≡ true → without_cr bs ≡ bs
no_cr [] h = refl
no_cr (b ∷ []) h = let p = and_parts (not (eqb b 13)) true h in let other : eqb b 13 ≡ false = grind (arith, nat_tests, p.0) in rw other refl
no_cr (b ∷ c ∷ bs) h = let p = and_parts (not (eqb b 13)) (lacks 13 (c ∷ bs)) h in ap (λ cs. b ∷ cs) (no_cr (c ∷ bs) p.1)
