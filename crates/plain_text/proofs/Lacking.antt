-- Bytes that stand in no part of a text, and what they then cut it into.
use Rattle.std.proofs.Common.{◌≡◌, ℕ, zero, suc, ◌/◌, ◌%◌, ◌<◌, Bool, true, false, not, cond, eqb, ◌&&◌, List, [], ◌∷◌, ◌++◌, refl, sym, ◌∙◌, append_assoc, arith}
use Rattle.std.specs.Fmt.{decimal, digits, digits_onto, digit_glyph}
use Rattle.std.specs.List.{flat_map}
use Rattle.std.proofs.lemmas.Bool.{and_parts, and_from}
use Rattle.std.proofs.lemmas.Bool.Decides.{nat_tests}
use Rattle.plain_text.specs.Lines.{ended}

-- no byte is d
abbrev pub lacks : ℕ → List ℕ → Bool
lacks d [] = true
lacks d (b ∷ bs) = not (eqb b d) && lacks d bs

-- two texts without d make one
pub lacks-append : (d : ℕ) (xs ys : List ℕ) → lacks d xs ≡ true → lacks d ys ≡ true → lacks d (xs ++ ys) ≡ true
lacks-append d [] ys h k = k
lacks-append d (x ∷ xs) ys h k =
    let p = and_parts (not (eqb x d)) (lacks d xs) h in
    and_from (not (eqb x d)) (lacks d (xs ++ ys)) p.0 (lacks-append d xs ys p.1 k)

lacks-digits : (d k n : ℕ) (rest : List ℕ) → d < 48 → lacks d rest ≡ true → lacks d (digits_onto k 10 false n rest) ≡ true
lacks-digits d zero n rest low h = h
lacks-digits d (suc k) n rest low h = by_case (eqb (n / 10) 0) (lacks-digits d k (n / 10) (digit_glyph false (n % 10) ∷ rest) low first)
  where
    first : lacks d (digit_glyph false (n % 10) ∷ rest) ≡ true
    first = let other : eqb (digit_glyph false (n % 10)) d ≡ false = grind (arith, nat_tests) in rw (other, h) refl

    by_case : (b : Bool) → lacks d (digits_onto k 10 false (n / 10) (digit_glyph false (n % 10) ∷ rest)) ≡ true → lacks d (cond b (digit_glyph false (n % 10) ∷ rest) (digits_onto k 10 false (n / 10) (digit_glyph false (n % 10) ∷ rest))) ≡ true
    by_case true more = first
    by_case false more = more

-- what is no digit stands in no number
pub lacks-decimal : (d n : ℕ) → d < 48 → lacks d (decimal n) ≡ true
unfolding digits
lacks-decimal d n low = lacks-digits d 64 n [] low refl

-- two texts that are the same have the same before their first d, and the same after it
pub cut_same : (d : ℕ) (xs ys rest others : List ℕ) → lacks d xs ≡ true → lacks d ys ≡ true → xs ++ d ∷ rest ≡ ys ++ d ∷ others → (xs ≡ ys) × (rest ≡ others)
cut_same d [] [] rest others h k e = (refl, cc)
cut_same d [] (y ∷ ys) rest others h k e =
    let same : y ≡ d = cc in
    let p = and_parts (not (eqb y d)) (lacks d ys) k in
    absurd (grind (arith, nat_tests, p.0))
cut_same d (x ∷ xs) [] rest others h k e =
    let same : x ≡ d = cc in
    let p = and_parts (not (eqb x d)) (lacks d xs) h in
    absurd (grind (arith, nat_tests, p.0))
cut_same d (x ∷ xs) (y ∷ ys) rest others h k e =
    let after : xs ++ d ∷ rest ≡ ys ++ d ∷ others = cc in
    let p = and_parts (not (eqb x d)) (lacks d xs) h in
    let q = and_parts (not (eqb y d)) (lacks d ys) k in
    let later = cut_same d xs ys rest others p.1 q.1 after in
    (cc (later.0), later.1)

-- ---- lines

-- no line has an end within it
abbrev pub are_whole : List (List ℕ) → Bool
are_whole [] = true
are_whole (line ∷ lines) = lacks 10 line && are_whole lines

some_byte : (line rest : List ℕ) → [] ≡ ended line ++ rest → ⊥
some_byte [] rest e = cc
some_byte (b ∷ bs) rest e = cc

-- whole lines are known by their text
pub lines_same : (xs ys : List (List ℕ)) → are_whole xs ≡ true → are_whole ys ≡ true → flat_map ended xs ≡ flat_map ended ys → xs ≡ ys
lines_same [] [] h k e = refl
lines_same [] (y ∷ ys) h k e = absurd (some_byte y _ e)
lines_same (x ∷ xs) [] h k e = absurd (some_byte x _ (sym e))
lines_same (x ∷ xs) (y ∷ ys) h k e =
    let p = and_parts (lacks 10 x) (are_whole xs) h in
    let q = and_parts (lacks 10 y) (are_whole ys) k in
    let regrouped = sym (append_assoc x (10 ∷ []) (flat_map ended xs)) ∙ e ∙ append_assoc y (10 ∷ []) (flat_map ended ys) in
    let parts = cut_same 10 x y (flat_map ended xs) (flat_map ended ys) p.0 q.0 regrouped in
    let later = lines_same xs ys p.1 q.1 parts.1 in
    cc (parts.0, later)
