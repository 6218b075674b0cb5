-- The decimal of a number is a number, and says it; and where a text is cut at its first point.
use Rattle.std.proofs.Common.{◌≡◌, ℕ, ◌^◌, ◌<◌, true, false, not, eqb, List, [], ◌∷◌, ◌++◌, length, Some, None, refl, arith, rules}
use Rattle.std.specs.Char.{is_ascii_digit}
use Rattle.std.specs.Fmt.{decimal}
use Rattle.std.specs.List.{list_all}
use Rattle.std.proofs.lemmas.Bool.{and_parts, and_from}
use Rattle.std.proofs.lemmas.Bool.Decides.{nat_tests}
use Rattle.std.proofs.lemmas.Fmt.{digits_decimal, digits_value-decimal, decimal_nonempty}
use Rattle.std.proofs.lemmas.Str.Parse.{IsNumeralModel, numerals_by_fold}
use Rattle.plain_text.specs.Numbers.{is_number, value, value_after}
use Rattle.plain_text.specs.Pieces.{cut}
use Rattle.plain_text.proofs.Lacking.{lacks}

own : IsNumeralModel (λ ds. list_all is_ascii_digit ds ≡ true) (value_after 0)
own = numerals_by_fold _ (search rules) value_after (search rules)

pub digits_of : (n : ℕ) → n < 2 ^ 64 → list_all is_ascii_digit (decimal n) ≡ true
digits_of n small = digits_decimal own n small

pub some_digit : (n : ℕ) → n < 2 ^ 64 → not (eqb (length (decimal n)) 0) ≡ true
some_digit n small = grind (arith, nat_tests, decimal_nonempty n small)

pub number_decimal : (n : ℕ) → n < 2 ^ 64 → is_number (decimal n) ≡ true
number_decimal n small = and_from (not (eqb (length (decimal n)) 0)) (list_all is_ascii_digit (decimal n)) (some_digit n small) (digits_of n small)

pub value_decimal : (n : ℕ) → n < 2 ^ 64 → value (decimal n) ≡ n
value_decimal n small = digits_value-decimal own n small

-- a text without the byte isn't cut
pub no_cut : (d : ℕ) (bs : List ℕ) → lacks d bs ≡ true → cut d bs ≡ None
no_cut d [] h = refl
no_cut d (b ∷ bs) h =
    let p = and_parts (not (eqb b d)) (lacks d bs) h in
    let other : eqb b d ≡ false = grind (arith, nat_tests, p.0) in
    rw (other, no_cut d bs p.1) refl

-- and one that has it after such a text is cut there
pub cut_after : (d : ℕ) (bs rest : List ℕ) → lacks d bs ≡ true → cut d (bs ++ d ∷ rest) ≡ Some (bs, rest)
cut_after d [] rest h = let here : eqb d d ≡ true = grind (arith, nat_tests) in rw here refl
cut_after d (b ∷ bs) rest h =
    let p = and_parts (not (eqb b d)) (lacks d bs) h in
    let other : eqb b d ≡ false = grind (arith, nat_tests, p.0) in
    rw (other, cut_after d bs rest p.1) refl
