-- The word of a number is its decimal digits, and nothing else is read as it.
use Rattle.std.specs.Prelude.{IfSome, IfNone}
use Rattle.std.proofs.Common.{◌≡◌, ◌≢◌, subst, Option, ℕ, Bool, zero, suc, ◌+◌, ◌-◌, ◌*◌, ◌^◌, ◌<◌, ◌≤◌, true, false, not, cond, eqb, ltb, leb, ◌&&◌, inl, inr, List, [], ◌∷◌, length, get_or, Some, None, refl, sym, ap, ◌∙◌, arith, rules}
use Rattle.std.specs.Char.{is_ascii_digit}
use Rattle.std.specs.List.{list_all}
use Rattle.std.specs.Fmt.{decimal}
use Rattle.std.proofs.lemmas.Bool.{ltb-false, le-ltb, and_parts}
use Rattle.std.proofs.lemmas.Bool.Decides.{nat_tests}
use Rattle.std.proofs.lemmas.Str.Parse.{IsNumeralModel, numerals_by_fold}
use Rattle.std.proofs.lemmas.Fmt.{digits_decimal, digits_value-decimal, decimal-digits_value, decimal_nonempty, first_decimal, decimal_digit}
use Rattle.plain_text.specs.Numbers.{value_after, value, is_number, number_within, has_leading_zero, number}
use Rattle.plain_text.specs.Steps.{◌>>=◌, value_by}
use Rattle.plain_text.proofs.Steps.{step_some, only_if, unless}

-- these are digits
abbrev are_digits : List ℕ → Bool
are_digits cs = list_all is_ascii_digit cs

-- texts of digits have their value
own : IsNumeralModel (λ ds. are_digits ds ≡ true) (value_after 0)
own = numerals_by_fold _ (search rules) value_after (search rules)

-- more digits make no less
pub value_after-ge : (n : ℕ) (cs : List ℕ) → n ≤ value_after n cs
value_after-ge n [] = omega arith
value_after-ge n (c ∷ cs) = let h = value_after-ge (10 * n + (c - 48)) cs in omega (arith, h)

-- one digit more: what is above the limit stays so
more_digits : (limit n : ℕ) (cs : List ℕ) (digit low : Bool) → (low ≡ false → leb (value_after n cs) limit ≡ false) → (low ≡ true → value_by limit n cs ≡ cond (are_digits cs && leb (value_after n cs) limit) (Some (value_after n cs)) None)
    → cond (digit && low) (value_by limit n cs) None ≡ cond ((digit && are_digits cs) && leb (value_after n cs) limit) (Some (value_after n cs)) None
more_digits limit n cs false low above rest = refl
more_digits limit n cs true true above rest = rest refl
more_digits limit n cs true false above rest = rw (above refl) (by_case (are_digits cs))
  where
    by_case : (b : Bool) → None ≡ cond (b && false) (Some (value_after n cs)) None
    by_case true = refl
    by_case false = refl

-- digits that are read one by one are read if their value is within the limit
pub value_by-is : (limit n : ℕ) (cs : List ℕ) → n ≤ limit → value_by limit n cs ≡ cond (are_digits cs && leb (value_after n cs) limit) (Some (value_after n cs)) None
value_by-is limit n [] low = let h : leb n limit ≡ true = grind (arith, nat_tests) in rw h refl
value_by-is limit n (c ∷ cs) low =
    let next : ℕ = 10 * n + (c - 48) in
    let ge = value_after-ge (10 * n + (c - 48)) cs in
    more_digits limit (10 * n + (c - 48)) cs (is_ascii_digit c) (leb (10 * n + (c - 48)) limit)
    (λ high. grind (arith, nat_tests, ge, high))
    (λ within. value_by-is limit (10 * n + (c - 48)) cs (grind (arith, nat_tests, within)))

-- a word that isn't empty says what its digits say
pub within_digits : (limit : ℕ) (word : List ℕ) (read : Option ℕ) → eqb (length word) 0 ≡ false → read ≡ value_by limit 0 word → read ≡ number_within limit word
unfolding number_within
within_digits limit word read some e = rw (e, value_by-is limit 0 word (omega arith), some) refl

-- a word without digits says nothing
pub within_none : (limit : ℕ) (word : List ℕ) → eqb (length word) 0 ≡ true → None ≡ number_within limit word
unfolding number_within
within_none limit word none = rw none refl

-- ---- the first digit

-- a word that begins with another digit has no leading zero
lead_none : (word : List ℕ) → 48 < get_or word 0 0 → has_leading_zero word ≡ false
lead_none [] h = refl
lead_none (c ∷ []) h = refl
lead_none (c ∷ d ∷ cs) h = grind (arith, nat_tests)

-- a 0 in front that is no leading zero stands alone
lead_alone : (word : List ℕ) → has_leading_zero word ≡ false → get_or word 0 0 ≡ 48 → length word ≡ 1
lead_alone [] e h = absurd (omega arith)
lead_alone (c ∷ []) e h = refl
lead_alone (c ∷ d ∷ cs) e h = absurd (grind (arith, nat_tests))

-- a number is written with no leading zero
decimal_lead : (n : ℕ) → n < 2 ^ 64 → has_leading_zero (decimal n) ≡ false
decimal_lead zero lt = rw (decimal_digit 0 (omega arith)) refl
decimal_lead (suc n) lt = lead_none (decimal (suc n)) (first_decimal (suc n) (omega arith) lt)

-- ---- numbers

-- a word that was read is the number that it is the writing of
pub number_takes : (low high : ℕ) (word : List ℕ) (n : ℕ) → high < 2 ^ 64 → number low high word ≡ Some n → ((low ≤ n) × (n ≤ high)) × (word ≡ decimal n)
unfolding number number_within
number_takes low high word n lt e =
    let u = unless (has_leading_zero word) (number_within high word >>= λ v. cond (ltb v low) None (Some v)) n e in
    let a = step_some (number_within high word) (λ v. cond (ltb v low) None (Some v)) n u.1 in
    let t = only_if (is_number word && leb (value word) high) (Some (value word)) a.0 a.1 in
    let g = unless (ltb a.0 low) (Some a.0) n a.2 in
    let tests = and_parts (is_number word) (leb (value word) high) t.0 in
    let parts = and_parts (not (eqb (length word) 0)) (are_digits word) tests.0 in
    let some_digit : 0 < length word = grind (arith, nat_tests, parts.0) in
    let is : value word ≡ n = cc in
    let above : low ≤ a.0 = ltb-false a.0 low g.0 in
    let below : value word ≤ high = grind (arith, nat_tests, tests.1) in
    let spelled : decimal (value word) ≡ word = decimal-digits_value own word parts.1 some_digit (lead_alone word u.0) (omega arith) in
    let same : a.0 ≡ n = cc in
    ((omega arith, omega arith), sym spelled ∙ ap decimal is)

-- the writing of a number in range is read
pub number_again : (low high n : ℕ) → high < 2 ^ 64 → (low ≤ n) × (n ≤ high) → number low high (decimal n) ≡ Some n
unfolding number number_within
number_again low high n lt fits =
    let small : n < 2 ^ 64 = omega arith in
    let some_digit : eqb (length (decimal n)) 0 ≡ false = grind (arith, nat_tests, decimal_nonempty n small) in
    let is : value (decimal n) ≡ n = digits_value-decimal own n small in
    let low_enough : leb n high ≡ true = grind (arith, nat_tests) in
    let above : ltb n low ≡ false = le-ltb n low (omega arith) in
    rw (decimal_lead n small, some_digit, digits_decimal own n small, is, low_enough, above) refl

-- what is read is the writing of a number
pub found_decimal : (low high : ℕ) (word : List ℕ) (read : Option ℕ) → high < 2 ^ 64 → read ≡ number low high word → IfSome read (λ n. word ≡ decimal n)
found_decimal low high word (Some n) lt e = (number_takes low high word n lt (sym e)).1
found_decimal low high word None lt e = tt

-- what isn't read is the writing of no number in range
pub no_decimal : (low high : ℕ) (word : List ℕ) (read : Option ℕ) → high < 2 ^ 64 → read ≡ number low high word → IfNone read ((n : ℕ) → low ≤ n → n ≤ high → word ≢ decimal n)
no_decimal low high word (Some n) lt e = tt
no_decimal low high word None lt e = λ n above below same.
    let again : number low high word ≡ Some n = subst (λ w. number low high w ≡ Some n) (sym same) (number_again low high n lt (above, below)) in
    let bad : None ≡ Some n = e ∙ again in
    absurd cc
