-- What is written is read as the number that it was.
use Rattle.std.proofs.Common.{◌≡◌, ℕ, zero, suc, ◌+◌, ◌-◌, ◌*◌, ◌/◌, ◌%◌, ◌^◌, ◌<◌, ◌≤◌, Bool, true, false, cond, eqb, ◌&&◌, List, [], ◌∷◌, ◌++◌, length, drop, refl, sym, ap, subst, ◌∙◌, arith}
use Rattle.std.specs.Char.{is_ascii_digit}
use Rattle.std.specs.Fmt.{decimal}
use Rattle.std.specs.List.{list_all}
use Rattle.std.proofs.Math.Nat.{pow-suc, div-lt_iff_lt-mul, mod-lt}
use Rattle.std.proofs.lemmas.Bool.{and_parts, and_from}
use Rattle.std.proofs.lemmas.Bool.Decides.{nat_tests}
use Rattle.std.proofs.lemmas.Fmt.{decimal_digit}
use Rattle.std.proofs.lemmas.List.{drop_all, append-nil}
use Rattle.std.proofs.lemmas.Nat.{div-add-mod'}
use Rattle.plain_text.specs.Numbers.{is_number, value}
use Rattle.plain_text.proofs.Lacking.{lacks, lacks-append, lacks-decimal}
use Rattle.amounts.specs.declared.scale.Scale.{Scale}
use Rattle.amounts.specs.declared.scale.Scale.TheVariants.{Whole, Millionths}
use Rattle.amounts.specs.Amounts.{parts, is_amount, first_digits, ends_in_time, millionths}
use Rattle.amounts.specs.Text.{decimals, after_point, amount_text}
use Rattle.amounts.specs.Laws.{unit, TextsAreRead, TextsDiffer}
use Rattle.amounts.proofs.Decimals.{number_decimal, value_decimal, no_cut, cut_after}

-- ---- the decimals of a rest

-- units of ten, with one place more and without
ten_times : (places : ℕ) → 10 ^ suc places ≡ 10 ^ places * 10
ten_times places = pow-suc 10 places

some_unit : (places : ℕ) → 0 < 10 ^ places
some_unit zero = omega arith
some_unit (suc places) = let next = ten_times places in let some = some_unit places in omega (arith, next, some)

-- one digit of the rest, and what is left of it
record IsCut (unit rest : ℕ) : Type 0 where
  small : rest / unit < 10
  left : rest % unit < unit
  whole : rest / unit * unit + rest % unit ≡ rest

cut_of : (unit rest : ℕ) → 0 < unit → rest < unit * 10 → IsCut unit rest
cut_of unit rest some low = record {
  small = (div-lt_iff_lt-mul {k = unit} {x = rest} {y = 10} some).1 (omega (arith, low));
  left = mod-lt rest some;
  whole = div-add-mod' rest unit;
}

nothing_left : (places : ℕ) → decimals places 0 ≡ []
nothing_left zero = refl
nothing_left (suc places) = let none : 0 % 10 ^ places ≡ 0 = let some = some_unit places in omega (arith, mod-lt 0 some, div-add-mod' 0 (10 ^ places)) in rw none (nothing_left places)

-- where something is left, the digit stands before the others
digit_first : (places rest : ℕ) → eqb rest 0 ≡ false → IsCut (10 ^ places) rest → decimals (suc places) rest ≡ (48 + rest / 10 ^ places) ∷ decimals places (rest % 10 ^ places)
digit_first places rest some is = rw (some, decimal_digit (rest / 10 ^ places) is.small) refl

zero_of : (n : ℕ) → eqb n 0 ≡ true → n ≡ 0
zero_of n h = grind (arith, nat_tests, h)

-- the first digits of the decimals are the rest
digits_say : (places rest : ℕ) → rest < 10 ^ places → first_digits places (decimals places rest) ≡ rest
digits_say zero rest low = omega (arith, low)
digits_say (suc places) rest low = by_case (eqb rest 0) refl (digits_say places (rest % 10 ^ places) (mod-lt rest (some_unit places)))
  where
    by_case : (b : Bool) → eqb rest 0 ≡ b → first_digits places (decimals places (rest % 10 ^ places)) ≡ rest % 10 ^ places → first_digits (suc places) (decimals (suc places) rest) ≡ rest
    by_case true none later =
        let is : rest ≡ 0 = zero_of rest none in
        subst (λ r. first_digits (suc places) (decimals (suc places) r) ≡ r) (sym is) (rw (nothing_left (suc places)) refl)
    by_case false some later =
        let is = cut_of (10 ^ places) rest (some_unit places) (omega (arith, low, ten_times places)) in
        let same : (48 + rest / 10 ^ places) - 48 ≡ rest / 10 ^ places = omega arith in
        rw (digit_first places rest some is, same, later) is.whole

-- there are no more of them than places
few_digits : (places rest : ℕ) → rest < 10 ^ places → length (decimals places rest) ≤ places
few_digits zero rest low = omega arith
few_digits (suc places) rest low = by_case (eqb rest 0) refl (few_digits places (rest % 10 ^ places) (mod-lt rest (some_unit places)))
  where
    by_case : (b : Bool) → eqb rest 0 ≡ b → length (decimals places (rest % 10 ^ places)) ≤ places → length (decimals (suc places) rest) ≤ suc places
    by_case true none later =
        let is : rest ≡ 0 = zero_of rest none in
        subst (λ r. length (decimals (suc places) r) ≤ suc places) (sym is) (rw (nothing_left (suc places)) (omega arith))
    by_case false some later =
        let is = cut_of (10 ^ places) rest (some_unit places) (omega (arith, low, ten_times places)) in
        rw (digit_first places rest some is) (omega (arith, later))

-- and they are digits
all_digits : (places rest : ℕ) → rest < 10 ^ places → list_all is_ascii_digit (decimals places rest) ≡ true
all_digits zero rest low = refl
all_digits (suc places) rest low = by_case (eqb rest 0) refl (all_digits places (rest % 10 ^ places) (mod-lt rest (some_unit places)))
  where
    by_case : (b : Bool) → eqb rest 0 ≡ b → list_all is_ascii_digit (decimals places (rest % 10 ^ places)) ≡ true → list_all is_ascii_digit (decimals (suc places) rest) ≡ true
    by_case true none later =
        let is : rest ≡ 0 = zero_of rest none in
        subst (λ r. list_all is_ascii_digit (decimals (suc places) r) ≡ true) (sym is) (rw (nothing_left (suc places)) refl)
    by_case false some later =
        let is = cut_of (10 ^ places) rest (some_unit places) (omega (arith, low, ten_times places)) in
        let small = is.small in
        let here : is_ascii_digit (48 + rest / 10 ^ places) ≡ true = grind (arith, nat_tests, small) in
        rw (digit_first places rest some is) (and_from (is_ascii_digit (48 + rest / 10 ^ places)) (list_all is_ascii_digit (decimals places (rest % 10 ^ places))) here later)

-- ---- the whole text

-- a text of these parts, with a point where it has decimals, is cut into them
record HasParts (text whole fraction : List ℕ) : Type 0 where
  is : parts text ≡ (whole, fraction)

whole_parts : (n : ℕ) → HasParts (decimal n) (decimal n) []
whole_parts n = record { is = rw (no_cut 46 (decimal n) (lacks-decimal 46 n (omega arith))) refl }

text_parts : (n : ℕ) → HasParts (amount_text n Millionths) (decimal (n / 1000000)) (decimals 6 (n % 1000000))
text_parts n = by_case (n % 1000000) (eqb (n % 1000000) 0) refl
  where
    by_case : (rest : ℕ) (b : Bool) → eqb rest 0 ≡ b → HasParts (decimal (n / 1000000) ++ after_point rest) (decimal (n / 1000000)) (decimals 6 rest)
    by_case rest true none =
        let is : rest ≡ 0 = zero_of rest none in
        let alone : decimal (n / 1000000) ++ [] ≡ decimal (n / 1000000) = append-nil (decimal (n / 1000000)) in
        subst (λ r. HasParts (decimal (n / 1000000) ++ after_point r) (decimal (n / 1000000)) (decimals 6 r)) (sym is)
        (subst (λ t. HasParts t (decimal (n / 1000000)) []) (sym alone) (whole_parts (n / 1000000)))
    by_case rest false some =
        let pointed : after_point rest ≡ 46 ∷ decimals 6 rest = rw some refl in
        let lacking = lacks-decimal 46 (n / 1000000) (omega arith) in
        subst (λ t. HasParts (decimal (n / 1000000) ++ t) (decimal (n / 1000000)) (decimals 6 rest)) (sym pointed)
        (record { is = rw (cut_after 46 (decimal (n / 1000000)) (decimals 6 rest) lacking) refl })

-- what a text of such parts says
read_back : (text : List ℕ) (whole rest : ℕ) → HasParts text (decimal whole) (decimals 6 rest) → whole < 2 ^ 64 → rest < 1000000
    → (is_amount text ≡ true) × (ends_in_time text ≡ true) × (millionths text ≡ whole * 1000000 + rest)
read_back text whole rest has small low =
    let said : (is_number (decimal whole) && list_all is_ascii_digit (decimals 6 rest)) ≡ true = and_from (is_number (decimal whole)) _ (number_decimal whole small) (all_digits 6 rest low) in
    let none : drop 6 (decimals 6 rest) ≡ [] = drop_all 6 (decimals 6 rest) (few_digits 6 rest low) in (
      ap (λ p. is_number p.0 && list_all is_ascii_digit p.1) has.is ∙ said,
      ap (λ p. list_all (λ c. eqb c 48) (drop 6 p.1)) has.is ∙ ap (λ cs. list_all (λ c. eqb c 48) cs) none,
      ap (λ p. value p.0 * 1000000 + first_digits 6 p.1) has.is ∙ ap (λ m. m * 1000000 + first_digits 6 (decimals 6 rest)) (value_decimal whole small) ∙ ap (λ r. whole * 1000000 + r) (digits_say 6 rest low),
    )

pub texts_are_read : TextsAreRead
texts_are_read n Whole small =
    let back = read_back (decimal n) n 0 (whole_parts n) small (omega arith) in
    record { amount = back.0; in_time = back.1; same = back.2 ∙ omega arith }
texts_are_read n Millionths small =
    let low : n % 1000000 < 1000000 = mod-lt n (omega arith) in
    let whole : n / 1000000 < 2 ^ 64 = omega (arith, div-add-mod' n 1000000) in
    let back = read_back (amount_text n Millionths) (n / 1000000) (n % 1000000) (text_parts n) whole low in
    record { amount = back.0; in_time = back.1; same = back.2 ∙ div-add-mod' n 1000000 ∙ omega arith }

same_number : (scale : Scale) (number other : ℕ) → number * unit scale ≡ other * unit scale → number ≡ other
same_number Whole number other e = omega (arith, e)
same_number Millionths number other e = omega (arith, e)

pub texts_differ : TextsDiffer
texts_differ number other scale small other_small e =
    let back = texts_are_read number scale small in
    let other_back = texts_are_read other scale other_small in
    same_number scale number other (sym back.same ∙ ap millionths e ∙ other_back.same)

-- ---- bytes that don't stand in it

lacks_digits : (d : ℕ) (cs : List ℕ) → d < 48 → list_all is_ascii_digit cs ≡ true → lacks d cs ≡ true
lacks_digits d [] low h = refl
lacks_digits d (c ∷ cs) low h =
    let p = and_parts (is_ascii_digit c) (list_all is_ascii_digit cs) h in
    let other : eqb c d ≡ false = grind (arith, nat_tests, p.0) in
    rw other (lacks_digits d cs low p.1)

lacks_rest : (d rest : ℕ) → d < 46 → rest < 1000000 → lacks d (after_point rest) ≡ true
lacks_rest d rest low small = by_case (eqb rest 0)
  where
    by_case : (b : Bool) → lacks d (cond b [] (46 ∷ decimals 6 rest)) ≡ true
    by_case true = refl
    by_case false = let other : eqb 46 d ≡ false = grind (arith, nat_tests) in rw other (lacks_digits d (decimals 6 rest) (omega arith) (all_digits 6 rest small))

-- no byte below the point stands in an amount: no end of a line and no space
pub lacks-amount_text : (d number : ℕ) (scale : Scale) → d < 46 → lacks d (amount_text number scale) ≡ true
lacks-amount_text d number Whole low = lacks-decimal d number (omega arith)
lacks-amount_text d number Millionths low = lacks-append d (decimal (number / 1000000)) (after_point (number % 1000000)) (lacks-decimal d (number / 1000000) (omega arith)) (lacks_rest d (number % 1000000) low (mod-lt number (omega arith)))
