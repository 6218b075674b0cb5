-- What the first cut of a text tells of its lines.
use Rattle.std.proofs.Common.{◌≡◌, ℕ, Bool, true, false, cond, List, [], ◌∷◌, length, take, get_or, suc, zero, Option, Some, None, option_map, refl, arith}
use Rattle.std.specs.Prelude.{◌==◌}
use Rattle.plain_text.specs.Pieces.{cut}
use Rattle.stp_reader.specs.Lines.{with_byte, pieces, without_cr}

-- the pieces as the first cut of bytes tells them
abbrev pub by_cut : List ℕ → Option (List ℕ × List ℕ) → List (List ℕ)
by_cut bytes None = bytes ∷ []
by_cut bytes (Some x) = x.0 ∷ pieces x.1

-- one more byte in front
in_front : (b : ℕ) (bytes : List ℕ) (test : Bool) (found : Option (List ℕ × List ℕ)) → pieces bytes ≡ by_cut bytes found → cond test ([] ∷ pieces bytes) (with_byte b (pieces bytes)) ≡ by_cut (b ∷ bytes) (cond test (Some ([], bytes)) (option_map (λ x. (b ∷ x.0, x.1)) found))
in_front b bytes true found h = refl
in_front b bytes false None h = rw h refl
in_front b bytes false (Some x) h = rw h refl

alone : (b : ℕ) (test : Bool) → cond test ([] ∷ []) ((b ∷ []) ∷ []) ≡ by_cut (b ∷ []) (cond test (Some ([], [])) None)
alone b true = refl
alone b false = refl

-- bytes that aren't none have the pieces that their first cut tells
pub pieces-cut : (b : ℕ) (bytes : List ℕ) → pieces (b ∷ bytes) ≡ by_cut (b ∷ bytes) (cut 10 (b ∷ bytes))
pieces-cut b [] = alone b (b == 10)
pieces-cut b (c ∷ bytes) = in_front b (c ∷ bytes) (b == 10) (cut 10 (c ∷ bytes)) (pieces-cut c bytes)

pub pieces_some : (bytes : List ℕ) → (length bytes == 0) ≡ false → pieces bytes ≡ by_cut bytes (cut 10 bytes)
pieces_some [] h = absurd cc
pieces_some (b ∷ bytes) h = pieces-cut b bytes

-- the last byte, at index k, decides
pub without_cr-last : (xs : List ℕ) (k d : ℕ) → suc k ≡ length xs → without_cr xs ≡ cond (get_or xs k d == 13) (take k xs) xs
without_cr-last [] k d e = absurd (omega arith)
without_cr-last (b ∷ []) zero d e = refl
without_cr-last (b ∷ []) (suc k) d e = absurd (omega arith)
without_cr-last (b ∷ c ∷ xs) zero d e = absurd (omega arith)
without_cr-last (b ∷ c ∷ xs) (suc k) d e = rw (without_cr-last (c ∷ xs) k d (omega arith)) (by_case (get_or (c ∷ xs) k d == 13))
  where
    by_case : (test : Bool) → b ∷ cond test (take k (c ∷ xs)) (c ∷ xs) ≡ cond test (b ∷ take k (c ∷ xs)) (b ∷ c ∷ xs)
    by_case true = refl
    by_case false = refl
