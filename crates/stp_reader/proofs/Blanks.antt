-- Where the words of a line begin and end.
use Rattle.std.proofs.Common.{◌≡◌, ℕ, suc, Bool, true, false, cond, not, List, [], ◌∷◌, length, take, drop, Option, Some, None, option_map, refl, sym, ap, ◌∙◌}
use Rattle.std.specs.Prelude.{position, unwrap_or}
use Rattle.stp_reader.specs.Lines.{with_byte, is_blank, words}
use Rattle.st_model.proofs.Links.{position-cons}

-- a blank in front makes no word
blank_first : (b : ℕ) (bytes : List ℕ) → is_blank b ≡ true → words (b ∷ bytes) ≡ words bytes
blank_first b [] h = rw h refl
blank_first b (c ∷ bytes) h = rw h refl

-- the words are those from the first byte that isn't blank on; without one there are none
abbrev pub from_start : List ℕ → Option ℕ → List (List ℕ)
from_start bytes None = []
from_start bytes (Some i) = words (drop i bytes)

pub words-start : (bytes : List ℕ) → words bytes ≡ from_start bytes (position (λ b. not (is_blank b)) bytes)
words-start [] = refl
words-start (b ∷ bytes) = rw (position-cons (λ x. not (is_blank x)) b bytes) (by_case (is_blank b) refl (position (λ x. not (is_blank x)) bytes) (words-start bytes))
  where
    by_case : (test : Bool) → is_blank b ≡ test → (found : Option ℕ) → words bytes ≡ from_start bytes found → words (b ∷ bytes) ≡ from_start (b ∷ bytes) (cond (not test) (Some 0) (option_map suc found))
    by_case false is found h = refl
    by_case true is None h = blank_first b bytes is ∙ h
    by_case true is (Some i) h = blank_first b bytes is ∙ h

-- the bytes on either side of the first blank, or all of them
abbrev pub sides : List ℕ → Option ℕ → List ℕ × List ℕ
sides bytes o = let i = unwrap_or o (length bytes) in (take i bytes, drop i bytes)

-- a word, and the words after it
abbrev pub word_and : List ℕ × List ℕ → List (List ℕ)
word_and x = x.0 ∷ words x.1

-- one more byte in front
sides_more : (b : ℕ) (xs : List ℕ) (o : Option ℕ) → with_byte b (word_and (sides xs o)) ≡ word_and (sides (b ∷ xs) (option_map suc o))
sides_more b xs None = refl
sides_more b xs (Some i) = refl

-- the first word of bytes that begin with no blank ends before the first blank
pub words-end : (b : ℕ) (bytes : List ℕ) → is_blank b ≡ false → words (b ∷ bytes) ≡ word_and (sides (b ∷ bytes) (position (λ x. is_blank x) (b ∷ bytes)))
words-end b [] is = rw (position-cons (λ x. is_blank x) b [], is) refl
words-end b (c ∷ bytes) is = rw (position-cons (λ x. is_blank x) b (c ∷ bytes), is) (by_case (is_blank c) refl (words-end c bytes))
  where
    ends : List ℕ × List ℕ
    ends = sides (c ∷ bytes) (position (λ x. is_blank x) (c ∷ bytes))

    by_case : (test : Bool) → is_blank c ≡ test → (is_blank c ≡ false → words (c ∷ bytes) ≡ word_and ends)
        → cond test ((b ∷ []) ∷ words (c ∷ bytes)) (with_byte b (words (c ∷ bytes))) ≡ word_and (sides (b ∷ c ∷ bytes) (option_map suc (position (λ x. is_blank x) (c ∷ bytes))))
    by_case true here h = rw (position-cons (λ x. is_blank x) c bytes, here) refl
    by_case false here h = rw (h here) (sides_more b (c ∷ bytes) (position (λ x. is_blank x) (c ∷ bytes)))

-- a word begins at the first byte that isn't blank
word_begins : (bytes : List ℕ) (i : ℕ) → position (λ x. not (is_blank x)) bytes ≡ Some i → words (drop i bytes) ≡ word_and (sides (drop i bytes) (position (λ x. is_blank x) (drop i bytes)))
word_begins [] i e = absurd cc
word_begins (b ∷ bytes) i e = by_case (is_blank b) refl (position (λ x. not (is_blank x)) bytes) (sym (position-cons (λ x. not (is_blank x)) b bytes) ∙ e) (word_begins bytes)
  where
    by_case : (test : Bool) → is_blank b ≡ test → (found : Option ℕ) → cond (not (is_blank b)) (Some 0) (option_map suc found) ≡ Some i → ((j : ℕ) → found ≡ Some j → words (drop j bytes) ≡ word_and (sides (drop j bytes) (position (λ x. is_blank x) (drop j bytes))))
        → words (drop i (b ∷ bytes)) ≡ word_and (sides (drop i (b ∷ bytes)) (position (λ x. is_blank x) (drop i (b ∷ bytes))))
    by_case false is found h again =
        let first : Some 0 ≡ Some i = rw is at h in
        let zero_is : 0 ≡ i = cc in
        rw (← zero_is) (words-end b bytes is)
    by_case true is None h again =
        let none : None ≡ Some i = rw is at h in
        absurd cc
    by_case true is (Some j) h again =
        let more : Some (suc j) ≡ Some i = rw is at h in
        let next : suc j ≡ i = cc in
        rw (← next) (again j refl)

-- the first word, and what stands after it
pub first_word : (line rest front back : List ℕ) (i mid : ℕ) → position (λ x. not (is_blank x)) line ≡ Some i → rest ≡ drop i line → mid ≡ unwrap_or (position (λ x. is_blank x) rest) (length rest) → front ≡ take mid rest → back ≡ drop mid rest → words line ≡ front ∷ words back
first_word line rest front back i mid start rest_is mid_is front_is back_is =
    let begun : words line ≡ words (drop i line) = words-start line ∙ ap (from_start line) start in
    begun ∙ (word_begins line i start ∙ rw (front_is, back_is, mid_is, rest_is) refl)
