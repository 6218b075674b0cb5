-- Where a byte first stands, and what is cut there.
use Rattle.std.proofs.Common.{◌≡◌, ℕ, suc, Bool, true, false, cond, List, [], ◌∷◌, take, drop, Option, Some, None, option_map, refl, arith}
use Rattle.std.specs.Prelude.{◌==◌, position}
use Rattle.std.proofs.lemmas.Bool.Decides.{nat_tests}
use Rattle.plain_text.specs.Pieces.{cut}

-- the bytes on either side of an index, where there is one
abbrev pub sides : List ℕ → Option ℕ → Option (List ℕ × List ℕ)
sides bytes o = option_map (λ i. (take i bytes, drop (suc i) bytes)) o

-- the sides with one more byte in front
pub sides-cons : (b : ℕ) (bs : List ℕ) (o : Option ℕ) (test : Bool) → cond test (Some ([], bs)) (option_map (λ x. (b ∷ x.0, x.1)) (sides bs o)) ≡ sides (b ∷ bs) (cond test (Some 0) (option_map suc o))
sides-cons b bs o true = refl
sides-cons b bs None false = refl
sides-cons b bs (Some i) false = refl

-- a cut is made at the first position of the byte
pub cut-position : (d : ℕ) (bytes : List ℕ) → cut d bytes ≡ sides bytes (position (λ b. b == d) bytes)
cut-position d [] = refl
cut-position d (b ∷ bs) =
    let first : position (λ x. x == d) (b ∷ bs) ≡ cond (b == d) (Some 0) (option_map suc (position (λ x. x == d) bs)) = grind (arith, nat_tests) in
    rw (first, cut-position d bs) (sides-cons b bs (position (λ x. x == d) bs) (b == d))
