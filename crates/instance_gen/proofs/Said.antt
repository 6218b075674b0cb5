-- What the word of a number says, and that it has no reason.
use Rattle.std.proofs.Common.{◌≡◌, ℕ, ◌+◌, ◌*◌, ◌^◌, ◌<◌, ◌≤◌, true, false, eqb, leb, List, [], refl, arith}
use Rattle.std.specs.Fmt.{decimal}
use Rattle.std.proofs.lemmas.Bool.Decides.{nat_tests}
use Rattle.amounts.specs.declared.scale.Scale.{Scale}
use Rattle.amounts.specs.declared.scale.Scale.TheVariants.{Whole, Millionths}
use Rattle.amounts.specs.Amounts.{parts, is_amount, ends_in_time, whole_part, first_digits}
use Rattle.amounts.specs.Laws.{unit}
use Rattle.amounts.specs.Text.{amount_text}
use Rattle.amounts.proofs.Decimals.{number_decimal, value_decimal}
use Rattle.amounts.proofs.Reread.{texts_are_read}
use Rattle.stp_reader.specs.Amounts.{count_reasons, nodes_reasons, vertex_reasons, amount_reasons}

pub count_right : (limit n : ℕ) → n ≤ limit → limit < 2 ^ 64 → count_reasons limit (decimal n) ≡ []
count_right limit n low few =
    let within : leb n limit ≡ true = grind (arith, nat_tests) in
    rw (number_decimal n (omega arith), value_decimal n (omega arith), within) refl

pub nodes_right : (n : ℕ) → 1 ≤ n → n ≤ 1000000 → nodes_reasons (decimal n) ≡ []
nodes_right n some few =
    let within : leb n 1000000 ≡ true = grind (arith, nat_tests) in
    let above : eqb n 0 ≡ false = grind (arith, nat_tests) in
    rw (number_decimal n (omega arith), value_decimal n (omega arith), within, above) refl

pub vertex_right : (n v : ℕ) → 1 ≤ v → v ≤ n → n ≤ 1000000 → vertex_reasons n (decimal v) ≡ []
vertex_right n v low high few =
    let above : leb 1 v ≡ true = grind (arith, nat_tests) in
    let within : leb v n ≡ true = grind (arith, nat_tests) in
    rw (number_decimal v (omega arith), value_decimal v (omega arith), above, within) refl

-- no more than so many wholes, as a unit is at most one
low_whole : (x whole rest : ℕ) (scale : Scale) → x ≤ 10 ^ 12 → whole * 1000000 + rest ≡ x * unit scale → whole ≤ 1000000000000
low_whole x whole rest Whole low e = omega (arith, low, e)
low_whole x whole rest Millionths low e = omega (arith, low, e)

pub amount_right : (x : ℕ) (scale : Scale) → x ≤ 10 ^ 12 → amount_reasons (amount_text x scale) ≡ []
amount_right x scale low =
    let read = texts_are_read x scale (omega arith) in
    let few : whole_part (amount_text x scale) ≤ 1000000000000 = low_whole x (whole_part (amount_text x scale)) (first_digits 6 (parts (amount_text x scale)).1) scale low read.same in
    right (amount_text x scale) read.amount read.in_time few
  where
    right : (word : List ℕ) → is_amount word ≡ true → ends_in_time word ≡ true → whole_part word ≤ 1000000000000 → amount_reasons word ≡ []
    right word amount in_time few =
        let within : leb (whole_part word) 1000000000000 ≡ true = grind (arith, nat_tests, few) in
        rw (amount, in_time, within) refl
