-- The lines of a text, and the words of a line.
use Rattle.std.specs.Prelude.{ℕ, ◌||◌, ◌==◌, Bool, true, false, if◌then◌else◌, List, [], ◌∷◌, map}

-- one more byte in front of the first of some pieces
abbrev pub with_byte : ℕ → List (List ℕ) → List (List ℕ)
with_byte b [] = (b ∷ []) ∷ []
with_byte b (piece ∷ pieces) = (b ∷ piece) ∷ pieces

-- what LF cuts the bytes into; an empty piece after the last LF is none
abbrev pub pieces : List ℕ → List (List ℕ)
pieces [] = []
pieces (b ∷ bytes) = if b == 10 then [] ∷ pieces bytes else with_byte b (pieces bytes)

-- a piece without the CR that ends it, if one does
abbrev pub without_cr : List ℕ → List ℕ
without_cr [] = []
without_cr (b ∷ []) = if b == 13 then [] else b ∷ []
without_cr (b ∷ c ∷ bytes) = b ∷ without_cr (c ∷ bytes)

-- space and tab stand between words
abbrev pub is_blank : ℕ → Bool
is_blank b = (b == 32) || (b == 9)

-- the words of a line: its longest runs of other bytes
abbrev pub words : List ℕ → List (List ℕ)
words [] = []
words (b ∷ []) = if is_blank b then [] else (b ∷ []) ∷ []
words (b ∷ c ∷ bytes) = if is_blank b then words (c ∷ bytes) else (if is_blank c then (b ∷ []) ∷ words (c ∷ bytes) else with_byte b (words (c ∷ bytes)))

-- the lines of a text, each as its words
abbrev pub word_lines : List ℕ → List (List (List ℕ))
word_lines bytes = map (λ piece. words (without_cr piece)) (pieces bytes)

-- whether a word begins with #
abbrev pub is_remark : List ℕ → Bool
is_remark [] = false
is_remark (b ∷ bytes) = b == 35

-- whether a line is skipped wherever it stands: it has no words, or its first begins with #
abbrev pub is_skipped : List (List ℕ) → Bool
is_skipped [] = true
is_skipped (word ∷ args) = is_remark word
