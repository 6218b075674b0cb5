-- What a list is once a slice of all its items was written.
use Rattle.std.proofs.Common.{◌≡◌, ℕ, zero, suc, take, List, [], ◌∷◌, ◌++◌, length, refl, ap, arith}

-- what was written over a whole list
pub written : {A : Type 0} (xs rest : List A) (n : ℕ) → n ≡ length xs → take n (xs ++ rest) ≡ xs
written [] rest zero e = refl
written [] rest (suc n) e = absurd (omega arith)
written (x ∷ xs) rest zero e = absurd (omega arith)
written (x ∷ xs) rest (suc n) e = ap (λ ys. x ∷ ys) (written xs rest n (omega arith))
