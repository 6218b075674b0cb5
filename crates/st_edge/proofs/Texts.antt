-- The text under a name: where the first of that name stands, and after a text is put in its place or after all.
use Rattle.std.proofs.Common.{◌≡◌, ◌≢◌, ℕ, ◌<◌, Bool, true, false, not, cond, ltb, List, [], ◌∷◌, ◌++◌, length, get_or, set, position, string_bytes, None, Some, zero, suc, sym, refl, ap, ◌∙◌, arith}
use Rattle.std.specs.List.{position_or_len}
use Rattle.std.specs.Str.{bytes_eq}
use Rattle.std.specs.declared.alloc.Global.{Global}
use Rattle.std.specs.declared.string.String.{String}
use Rattle.std.specs.declared.vec.Vec.{Vec}
use Rattle.std.proofs.lemmas.Bool.{ltb-false}
use Rattle.std.proofs.lemmas.List.Sums.{prefix_len_passes}
use Rattle.std.proofs.lemmas.Slice.Eq.{bytes_eq-Decides}
use Rattle.std.proofs.lemmas.List.Quantifiers.{position-Some}
use Rattle.st_edge.specs.MemoryShelf.{texts_of, text_at}
use Rattle.st_edge.specs.Shelf.{SameOtherTexts}

-- a name and its text, as a shelf in memory holds them
abbrev pub Text : Type 0
Text = String Global × Vec ℕ Global

-- whether a text is under this name
abbrev pub is_named : List ℕ → Text → Bool
is_named name text = bytes_eq (string_bytes text.0) name

-- a text under one name isn't under another
pub is_named-other : (name other : List ℕ) (text : Text) → is_named name text ≡ true → other ≢ name → is_named other text ≡ false
is_named-other name other text named apart =
    elim (is_named other text) as (λ b. is_named other text ≡ b → b ≡ false) [
      | true ↦ (λ both. absurd (apart (sym ((bytes_eq-Decides _ _).0 both) ∙ (bytes_eq-Decides _ _).0 named)))
      | false ↦ (λ _. refl)
    ] refl

not-true : (b : Bool) → not b ≡ true → b ≡ false
not-true true h = sym h
not-true false h = refl

-- where no first place is found, no place passes
pub position-None : (p : Text → Bool) (xs : List Text) (k : ℕ) (d : Text) → position p xs ≡ None → k < length xs → p (get_or xs k d) ≡ false
position-None p xs k d none within =
    elim (ltb (position_or_len p xs) (length xs)) as (λ b. ltb (position_or_len p xs) (length xs) ≡ b → cond b (Some (position_or_len p xs)) None ≡ None → p (get_or xs k d) ≡ false) [
      | true ↦ (λ _ found. cc)
      | false ↦ (λ after _. not-true (p (get_or xs k d)) (prefix_len_passes (λ x. not (p x)) xs k d (omega (arith, ltb-false _ _ after))))
    ] refl none

-- the text under a name is the one at its first place
pub text_at-first : (xs : List Text) (name : List ℕ) (i : ℕ) (d : Text) → i < length xs → is_named name (get_or xs i d) ≡ true → ((k : ℕ) → k < i → is_named name (get_or xs k d) ≡ false) → text_at (texts_of xs) name ≡ Some ((get_or xs i d).1.items)
text_at-first [] name i d within named before = absurd (omega arith)
text_at-first (x ∷ xs) name zero d within named before = rw named refl
text_at-first (x ∷ xs) name (suc i) d within named before =
    rw (before 0 (omega arith)) (text_at-first xs name i d (omega arith) named (λ k lt. before (suc k) (omega arith)))

-- there is no text under a name that none has
pub text_at-none : (xs : List Text) (name : List ℕ) → ((k : ℕ) (d : Text) → k < length xs → is_named name (get_or xs k d) ≡ false) → text_at (texts_of xs) name ≡ None
text_at-none [] name none = refl
text_at-none (x ∷ xs) name none =
    rw (none 0 x (omega arith)) (text_at-none xs name (λ k d lt. none (suc k) d (omega arith)))

-- a text put at the first place of its name is the one under that name
pub text_at-set : (xs : List Text) (name : List ℕ) (i : ℕ) (d text : Text) → i < length xs → ((k : ℕ) → k < i → is_named name (get_or xs k d) ≡ false) → is_named name text ≡ true → text_at (texts_of (set xs i text)) name ≡ Some (text.1.items)
text_at-set [] name i d text within before named = absurd (omega arith)
text_at-set (x ∷ xs) name zero d text within before named = rw named refl
text_at-set (x ∷ xs) name (suc i) d text within before named =
    rw (before 0 (omega arith)) (text_at-set xs name i d text (omega arith) (λ k lt. before (suc k) (omega arith)) named)

-- and no other name's text changes
pub text_at-set_other : (xs : List Text) (other : List ℕ) (i : ℕ) (d text : Text) → is_named other (get_or xs i d) ≡ false → is_named other text ≡ false → text_at (texts_of (set xs i text)) other ≡ text_at (texts_of xs) other
text_at-set_other [] other i d text was is = refl
text_at-set_other (x ∷ xs) other zero d text was is = rw (was, is) refl
text_at-set_other (x ∷ xs) other (suc i) d text was is =
    ap (λ rest. cond (is_named other x) (Some (x.1.items)) rest) (text_at-set_other xs other i d text was is)

-- a text put after all others is the one under its name, if there was none
pub text_at-push : (xs : List Text) (name : List ℕ) (text : Text) → ((k : ℕ) (d : Text) → k < length xs → is_named name (get_or xs k d) ≡ false) → is_named name text ≡ true → text_at (texts_of (xs ++ text ∷ [])) name ≡ Some (text.1.items)
text_at-push [] name text none named = rw named refl
text_at-push (x ∷ xs) name text none named =
    rw (none 0 x (omega arith)) (text_at-push xs name text (λ k d lt. none (suc k) d (omega arith)) named)

-- and no other name's text changes
pub text_at-push_other : (xs : List Text) (other : List ℕ) (text : Text) → is_named other text ≡ false → text_at (texts_of (xs ++ text ∷ [])) other ≡ text_at (texts_of xs) other
text_at-push_other [] other text is = rw is refl
text_at-push_other (x ∷ xs) other text is =
    ap (λ rest. cond (is_named other x) (Some (x.1.items)) rest) (text_at-push_other xs other text is)

-- these bytes are under this name now, and every other name has the text that it had
pub record Puts (old new : List Text) (name bytes : List ℕ) : Type 0 where
  pub put : text_at (texts_of new) name ≡ Some bytes
  pub others : SameOtherTexts name (text_at (texts_of old)) (text_at (texts_of new))

-- so it is where a copy of the bytes stands in place of the text that was there
pub Puts-set : (xs : List Text) (name bytes : List ℕ) (place : ℕ) (old : Text) (copy : Vec ℕ Global) → position (is_named name) xs ≡ Some place → old ≡ get_or xs place old → copy.items ≡ bytes → Puts xs (set xs place (old.0, copy)) name bytes
Puts-set xs name bytes place old copy found at_place copied =
    let first = position-Some (is_named name) xs place old found in
    let named : is_named name old ≡ true = ap (is_named name) at_place ∙ first.1 in
    record {
      put = text_at-set xs name place old (old.0, copy) first.0 first.2 named ∙ ap Some copied;
      others = λ other apart. text_at-set_other xs other place old (old.0, copy) (is_named-other name other (get_or xs place old) first.1 apart) (is_named-other name other old named apart);
    }

-- and where a copy of both stands after all texts, if there was none under the name
pub Puts-push : (xs : List Text) (name bytes : List ℕ) (title : String Global) (copy : Vec ℕ Global) → position (is_named name) xs ≡ None → string_bytes title ≡ name → copy.items ≡ bytes → Puts xs (xs ++ (title, copy) ∷ []) name bytes
Puts-push xs name bytes title copy none titled copied =
    let named : is_named name (title, copy) ≡ true = (bytes_eq-Decides _ name).1 titled in
    record {
      put = text_at-push xs name (title, copy) (λ k d within. position-None (is_named name) xs k d none within) named ∙ ap Some copied;
      others = λ other apart. text_at-push_other xs other (title, copy) (is_named-other name other (title, copy) named apart);
    }
