-- A set's members ascend, so it can be searched by halves.
use Rattle.std.proofs.Common.{◌≡◌, ℕ, zero, suc, ◌+◌, ◌-◌, ◌<◌, ◌≤◌, List, length, get_or, arith, ap}
use Rattle.std.specs.List.Sorted.{IsNonDecreasing, IsStrictlyIncreasing}
use Rattle.std.proofs.lemmas.List.{get_or_default}

pub set_in_order : (set : List ℕ) → IsStrictlyIncreasing set → IsNonDecreasing set
set_in_order set rises i j d low below =
    let place : i + (j - i) ≡ j = omega arith in
    let short : i + (j - i) < length set = omega arith in
    let here = by_gap (j - i) short in
    let same = ap (λ k. get_or set k d) place in
    omega arith
  where
    by_gap : (gap : ℕ) → i + gap < length set → get_or set i d ≤ get_or set (i + gap) d
    by_gap zero short = let same : i ≡ i + 0 = omega arith in let e = ap (λ k. get_or set k d) same in omega arith
    by_gap (suc gap) short =
        let next : i + gap + 1 ≡ i + suc gap = omega arith in
        let before = by_gap gap (omega arith) in
        let step : get_or set (i + gap) 0 < get_or set (i + gap + 1) 0 = rises (i + gap) (omega arith) in
        let a = get_or_default set (i + gap) 0 d (omega arith) in
        let b = get_or_default set (i + gap + 1) 0 d (omega arith) in
        let e = ap (λ k. get_or set k d) next in
        omega arith
