-- Where words and keywords end.
use Rattle.std.proofs.Common.{◌≡◌, ◌≢◌, ℕ, suc, Bool, true, false, cond, not, eqb, inl, inr, List, [], ◌∷◌, ◌++◌, length, take, drop, Option, Some, None, option_map, refl, sym, ap, ◌∙◌}
use Rattle.std.specs.Prelude.{◌==◌, position, MatchOption, unwrap_or}
use Rattle.std.proofs.lemmas.Bool.{eqb-true, eq-eqb, and_parts, not-true}
use denote.Ref.{Bor}
use Rattle.st_model.proofs.Links.{position-cons}
use Rattle.log_format.specs.Reading.{after, word_at}
use Rattle.plain_text.proofs.Steps.{chosen}
use Rattle.plain_text.proofs.Lacking.{lacks}

-- ---- keywords

-- what stands after the keyword is what follows it
pub after_takes : (keyword bytes rest : List ℕ) → after keyword bytes ≡ Some rest → bytes ≡ keyword ++ rest
after_takes [] bytes rest e = cc
after_takes (k ∷ keyword) [] rest e = absurd cc
after_takes (k ∷ keyword) (b ∷ bytes) rest e =
    elim (chosen (eqb b k) (after keyword bytes) None (Some rest) e) [
      | inl h ↦ rw (eqb-true b k h.0) (ap (λ (r : List ℕ). k ∷ r) (after_takes keyword bytes rest h.1))
      | inr h ↦ absurd cc
    ]

-- what follows the keyword is found
pub after_again : (keyword rest : List ℕ) → after keyword (keyword ++ rest) ≡ Some rest
after_again [] rest = refl
after_again (k ∷ keyword) rest = rw (eq-eqb k k refl) (after_again keyword rest)

-- what a stripped prefix leaves is what stands after the keyword
pub after-stripped : (keyword bytes : List ℕ) (rest : Option (List ℕ)) → MatchOption rest ((r : List ℕ) → bytes ≢ keyword ++ r) (λ r. bytes ≡ keyword ++ r) → rest ≡ after keyword bytes
after-stripped keyword bytes None none = sym (lacking keyword bytes (after keyword bytes) refl none)
  where
    lacking : (keyword bytes : List ℕ) (found : Option (List ℕ)) → after keyword bytes ≡ found → ((r : List ℕ) → bytes ≢ keyword ++ r) → found ≡ None
    lacking keyword bytes None e none = refl
    lacking keyword bytes (Some r) e none = absurd (none r (after_takes keyword bytes r e))
after-stripped keyword bytes (Some r) some = rw some (sym (after_again keyword r))

-- ---- words

-- nothing, or a space and more
abbrev pub begins_word : List ℕ → Bool
begins_word [] = true
begins_word (b ∷ bs) = eqb b 32

-- of two pairs that make the bytes, either does
joined : (test : Bool) (x y : List ℕ × List ℕ) (bytes : List ℕ) → bytes ≡ x.0 ++ x.1 → bytes ≡ y.0 ++ y.1 → bytes ≡ (cond {A = List ℕ × List ℕ} test x y).0 ++ (cond {A = List ℕ × List ℕ} test x y).1
joined true x y bytes e f = e
joined false x y bytes e f = f

-- a word and what follows it are the bytes
pub word_takes : (bytes : List ℕ) → bytes ≡ (word_at bytes).0 ++ (word_at bytes).1
word_takes [] = refl
word_takes (b ∷ bs) = joined (eqb b 32) ([], b ∷ bs) (b ∷ (word_at bs).0, (word_at bs).1) (b ∷ bs) refl (ap (λ (r : List ℕ). b ∷ r) (word_takes bs))

-- a word without a space, and a space or the end, are told apart
pub word_again : (word rest : List ℕ) → lacks 32 word ≡ true → begins_word rest ≡ true → word_at (word ++ rest) ≡ (word, rest)
word_again [] [] h k = refl
word_again [] (b ∷ bs) h k = rw k refl
word_again (w ∷ word) rest h k =
    let p = and_parts (not (eqb w 32)) (lacks 32 word) h in
    rw (not-true (eqb w 32) p.0, word_again word rest p.1 k) refl

-- ---- by the position of the space

-- the bytes on either side of an index, or all of them
abbrev sides : List ℕ → Option ℕ → List ℕ × List ℕ
sides bytes o = let i = unwrap_or o (length bytes) in (take i bytes, drop i bytes)

-- the sides with one more byte in front
sides-cons : (b : ℕ) (bs : List ℕ) (o : Option ℕ) (test : Bool) → sides (b ∷ bs) (cond test (Some 0) (option_map suc o)) ≡ cond test ([], b ∷ bs) (b ∷ (sides bs o).0, (sides bs o).1)
sides-cons b bs o true = refl
sides-cons b bs None false = refl
sides-cons b bs (Some i) false = refl

-- a word ends at the first position of a space, or else at the end
pub word-position : (bytes : List ℕ) → sides bytes (position (λ b. b == 32) bytes) ≡ word_at bytes
word-position [] = refl
word-position (b ∷ bs) = rw position-cons (sides-cons b bs (position (λ b. b == 32) bs) (b == 32) ∙ ap (λ (p : List ℕ × List ℕ). cond (b == 32) ([], b ∷ bs) (b ∷ p.0, p.1)) (word-position bs))

-- what holds of a borrowed rest holds of the rest
pub seen : (keyword bytes : List ℕ) (rest : Option (Bor (List ℕ))) → MatchOption rest ((r : List ℕ) → bytes ≢ keyword ++ r) (λ r. bytes ≡ keyword ++ r.now) → MatchOption (option_map (λ (r : Bor (List ℕ)). r.now) rest) ((r : List ℕ) → bytes ≢ keyword ++ r) (λ r. bytes ≡ keyword ++ r)
seen keyword bytes None h = h
seen keyword bytes (Some r) h = h
