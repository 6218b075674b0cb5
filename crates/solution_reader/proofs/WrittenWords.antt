-- The lines of a text are those that were written, and what their words are.
use Rattle.std.proofs.Common.{◌≡◌, ℕ, ◌+◌, ◌*◌, ◌^◌, ◌<◌, ◌≤◌, true, not, eqb, leb, List, [], ◌∷◌, ◌++◌, map, Some, None, refl, ap, ◌∙◌, append_assoc, arith}
use Rattle.std.specs.Fmt.{decimal}
use Rattle.std.specs.List.{flat_map}
use Rattle.std.proofs.lemmas.Bool.{and_parts, and_from}
use Rattle.std.proofs.lemmas.Bool.Decides.{nat_tests}
use Rattle.plain_text.specs.Lines.{ended}
use Rattle.plain_text.proofs.Lacking.{lacks, lacks-append, are_whole}
use Rattle.amounts.specs.declared.scale.Scale.{Scale}
use Rattle.amounts.specs.declared.scale.Scale.TheVariants.{Whole, Millionths}
use Rattle.amounts.specs.Amounts.{parts, first_digits, whole_part, amount_said}
use Rattle.amounts.specs.Text.{amount_text}
use Rattle.amounts.specs.Laws.{unit}
use Rattle.amounts.proofs.Decimals.{number_decimal, value_decimal}
use Rattle.amounts.proofs.Reread.{texts_are_read, lacks-amount_text}
use Rattle.stp_reader.specs.Lines.{without_cr, words, word_lines}
use Rattle.stp_reader.proofs.WrittenWords.{is_plain, one_word, one_more_word, plain_amount, plain_decimal, first_line, no_cr}
use Rattle.dimacs_writer.specs.Solution.{number_line, amount_line}
use Rattle.solution_reader.specs.Numbers.{number_reason, primal_said}

-- ---- lines

-- the words of a line
abbrev pub line_words : List ℕ → List (List ℕ)
line_words line = words (without_cr line)

-- whole lines are the lines of their text
pub lines_written : (lines : List (List ℕ)) → are_whole lines ≡ true → word_lines (flat_map ended lines) ≡ map line_words lines
lines_written [] h = refl
lines_written (line ∷ lines) h =
    let p = and_parts (lacks 10 line) (are_whole lines) h in
    first_line line (flat_map ended lines) p.0 ∙ ap (λ (ls : List (List (List ℕ))). line_words line ∷ ls) (lines_written lines p.1)

-- a line that ends with a quote has no CR there
pub quote_last : (bs : List ℕ) → without_cr (bs ++ 34 ∷ []) ≡ bs ++ 34 ∷ []
quote_last [] = refl
quote_last (b ∷ []) = refl
quote_last (b ∷ c ∷ bs) = ap (λ (cs : List ℕ). b ∷ cs) (quote_last (c ∷ bs))

-- ---- numbers and amounts

-- a number up to a limit has no reason
pub number_right : (limit n : ℕ) → n ≤ limit → limit < 2 ^ 64 → number_reason limit (decimal n) ≡ None
number_right limit n low few =
    let within : leb n limit ≡ true = grind (arith, nat_tests) in
    rw (number_decimal n (omega arith), value_decimal n (omega arith), within) refl

-- the whole part of an amount is at most the number that is written
low_whole : (n whole rest : ℕ) (scale : Scale) → whole * 1000000 + rest ≡ n * unit scale → whole ≤ n
low_whole n whole rest Whole e = omega (arith, e)
low_whole n whole rest Millionths e = omega (arith, e)

-- a primal that is written says so many units of its scale
pub primal_written : (n : ℕ) (scale : Scale) → n < 2 ^ 64 → primal_said (amount_text n scale) ≡ Some (n * unit scale)
unfolding primal_said amount_said
primal_written n scale small =
    let text = amount_text n scale in
    let back = texts_are_read n scale small in
    let low = low_whole n (whole_part text) (first_digits 6 (parts text).1) scale back.same in
    let within : leb (whole_part text) 18446744073709551615 ≡ true = grind (arith, nat_tests, low) in
    rw (back.amount, back.in_time, within) (ap (λ (x : ℕ). Some x) back.same)

-- ---- a keyword, and an amount or numbers after it

keyword_line : (keyword rest : List ℕ) → is_plain keyword ≡ true → lacks 13 (keyword ++ 32 ∷ rest) ≡ true → line_words (keyword ++ 32 ∷ rest) ≡ keyword ∷ words rest
keyword_line keyword rest plain lacking = ap words (no_cr (keyword ++ 32 ∷ rest) lacking) ∙ one_more_word keyword rest plain

amount_lacks : (d : ℕ) (keyword : List ℕ) (n : ℕ) (scale : Scale) → d < 32 → lacks d keyword ≡ true → lacks d (amount_line keyword n scale) ≡ true
amount_lacks d keyword n scale low h =
    let other : not (eqb 32 d) ≡ true = grind (arith, nat_tests) in
    lacks-append d keyword (32 ∷ amount_text n scale) h (and_from (not (eqb 32 d)) (lacks d (amount_text n scale)) other (lacks-amount_text d n scale (omega arith)))

-- a line with an amount has no end within it
pub amount_whole : (keyword : List ℕ) (n : ℕ) (scale : Scale) → lacks 10 keyword ≡ true → lacks 10 (amount_line keyword n scale) ≡ true
amount_whole keyword n scale h = amount_lacks 10 keyword n scale (omega arith) h

-- and its words are the keyword and the amount
pub amount_words : (keyword : List ℕ) (n : ℕ) (scale : Scale) → n < 2 ^ 64 → is_plain keyword ≡ true → lacks 13 keyword ≡ true → line_words (amount_line keyword n scale) ≡ keyword ∷ amount_text n scale ∷ []
amount_words keyword n scale small plain lacking =
    keyword_line keyword (amount_text n scale) plain (amount_lacks 13 keyword n scale (omega arith) lacking)
    ∙ ap (λ (ws : List (List ℕ)). keyword ∷ ws) (one_word (amount_text n scale) (plain_amount n scale small))

-- the same of a number, which is an amount in wholes
pub number_whole : (keyword : List ℕ) (n : ℕ) → lacks 10 keyword ≡ true → lacks 10 (number_line keyword n) ≡ true
number_whole keyword n h = amount_whole keyword n Whole h

pub number_words : (keyword : List ℕ) (n : ℕ) → n < 2 ^ 64 → is_plain keyword ≡ true → lacks 13 keyword ≡ true → line_words (number_line keyword n) ≡ keyword ∷ decimal n ∷ []
number_words keyword n small plain lacking = amount_words keyword n Whole small plain lacking

-- two numbers
pub numbers_words : (keyword : List ℕ) (a b : ℕ) → a < 2 ^ 64 → b < 2 ^ 64 → is_plain keyword ≡ true → lacks 13 keyword ≡ true
    → line_words (number_line (number_line keyword a) b) ≡ keyword ∷ decimal a ∷ decimal b ∷ []
numbers_words keyword a b a_small b_small plain lacking =
    let all = amount_lacks 13 (number_line keyword a) b Whole (omega arith) (amount_lacks 13 keyword a Whole (omega arith) lacking) in
    let regrouped : number_line (number_line keyword a) b ≡ keyword ++ 32 ∷ (decimal a ++ 32 ∷ decimal b) = append_assoc keyword (32 ∷ decimal a) (32 ∷ decimal b) in
    ap words (no_cr (number_line (number_line keyword a) b) all ∙ regrouped)
    ∙ (one_more_word keyword (decimal a ++ 32 ∷ decimal b) plain
    ∙ ap (λ (ws : List (List ℕ)). keyword ∷ ws) (one_more_word (decimal a) (decimal b) (plain_decimal a a_small)
    ∙ ap (λ (ws : List (List ℕ)). decimal a ∷ ws) (one_word (decimal b) (plain_decimal b b_small))))
