-- The lines of a text are those that were written, and their words are the written words.
use Rattle.std.proofs.Common.{◌≡◌, ℕ, Bool, true, false, not, eqb, ◌&&◌, List, [], ◌∷◌, length, refl, ap, ◌∙◌, arith}
use Rattle.std.specs.List.{list_all, join_with_byte}
use Rattle.std.proofs.lemmas.Bool.{and_parts, and_from}
use Rattle.std.proofs.lemmas.Bool.Decides.{nat_tests}
use Rattle.plain_text.proofs.Lacking.{lacks, lacks-append}
use Rattle.stp_reader.specs.Lines.{without_cr, words, word_lines}
use Rattle.stp_reader.proofs.WrittenWords.{is_inner, is_plain, one_word, one_more_word, first_line, no_cr}
use Rattle.instance_gen.specs.Text.{text_of}

-- at least one word, all of them plain
abbrev pub is_spelled : List (List ℕ) → Bool
is_spelled [] = false
is_spelled (w ∷ []) = is_plain w
is_spelled (w ∷ v ∷ ws) = is_plain w && is_spelled (v ∷ ws)

-- ---- words

joined_words : (ws : List (List ℕ)) → is_spelled ws ≡ true → words (join_with_byte 32 ws) ≡ ws
joined_words [] h = absurd cc
joined_words (w ∷ []) h = one_word w h
joined_words (w ∷ v ∷ ws) h =
    let p = and_parts (is_plain w) (is_spelled (v ∷ ws)) h in
    one_more_word w (join_with_byte 32 (v ∷ ws)) p.0 ∙ ap (λ us. w ∷ us) (joined_words (v ∷ ws) p.1)

-- ---- lines

lacks_inner : (d : ℕ) (bs : List ℕ) → (d ≡ 10) → list_all is_inner bs ≡ true → lacks d bs ≡ true
lacks_inner d [] is h = refl
lacks_inner d (b ∷ bs) is h =
    let p = and_parts (is_inner b) (list_all is_inner bs) h in
    let other : not (eqb b d) ≡ true = grind (arith, nat_tests, p.0) in
    and_from (not (eqb b d)) (lacks d bs) other (lacks_inner d bs is p.1)

lacks_inner_cr : (bs : List ℕ) → list_all is_inner bs ≡ true → lacks 13 bs ≡ true
lacks_inner_cr [] h = refl
lacks_inner_cr (b ∷ bs) h =
    let p = and_parts (is_inner b) (list_all is_inner bs) h in
    let other : not (eqb b 13) ≡ true = grind (arith, nat_tests, p.0) in
    and_from (not (eqb b 13)) (lacks 13 bs) other (lacks_inner_cr bs p.1)

-- what no word has and no space is, no line of words has
joined_lacks : (d : ℕ) (ws : List (List ℕ)) → not (eqb 32 d) ≡ true → ((bs : List ℕ) → list_all is_inner bs ≡ true → lacks d bs ≡ true) → is_spelled ws ≡ true → lacks d (join_with_byte 32 ws) ≡ true
joined_lacks d [] space none h = refl
joined_lacks d (w ∷ []) space none h = none w (and_parts (not (eqb (length w) 0)) (list_all is_inner w) h).1
joined_lacks d (w ∷ v ∷ ws) space none h =
    let p = and_parts (is_plain w) (is_spelled (v ∷ ws)) h in
    lacks-append d w (32 ∷ join_with_byte 32 (v ∷ ws)) (none w (and_parts (not (eqb (length w) 0)) (list_all is_inner w) p.0).1)
    (and_from (not (eqb 32 d)) (lacks d (join_with_byte 32 (v ∷ ws))) space (joined_lacks d (v ∷ ws) space none p.1))

-- each line is spelled
abbrev pub are_spelled : List (List (List ℕ)) → Bool
are_spelled lines = list_all is_spelled lines

-- what is written in these words is read in them
pub words_of_text : (lines : List (List (List ℕ))) → are_spelled lines ≡ true → word_lines (text_of lines) ≡ lines
words_of_text [] h = refl
words_of_text (ws ∷ lines) h =
    let p = and_parts (is_spelled ws) (are_spelled lines) h in
    let line = join_with_byte 32 ws in
    let first : words (without_cr line) ≡ ws = ap words (no_cr line (joined_lacks 13 ws refl lacks_inner_cr p.0)) ∙ joined_words ws p.0 in
    first_line line (text_of lines) (joined_lacks 10 ws refl (λ bs k. lacks_inner 10 bs refl k) p.0) ∙ ap (λ us. us ∷ word_lines (text_of lines)) first ∙ ap (λ ls. ws ∷ ls) (words_of_text lines p.1)
