-- Lists in vectors, seen as lists of lists.
use Rattle.std.proofs.Common.{◌≡◌, ℕ, ◌<◌, List, [], ◌++◌, length, map, get_or, set, take, drop, arith, Vec, Global, refl, sym, ap, subst, ◌∙◌}
use Rattle.std.specs.Prelude.{All, ◌↔◌}
use Rattle.std.proofs.lemmas.List.{map-set, get_or-map, length-map, drop_all, take_all, append-nil}
use Rattle.std.proofs.lemmas.List.Elements.{All-map}
use Rattle.std.proofs.Math.ListN.{get_or-map as at_default}
use Rattle.std.proofs.Math.Seq.{map-set_same}

-- the lists that the vectors hold
abbrev pub lists_of : {X : Type 0} → List (Vec X Global) → List (List X)
lists_of vectors = map (λ list. list.items) vectors

module _ {X : Type 0} (vectors : List (Vec X Global)) (i : ℕ) (old : Vec X Global) (below : i < length vectors) (is : old ≡ get_or vectors i old) where
  -- the list at a place is that of its vector
  pub list_at : get_or (lists_of vectors) i [] ≡ old.items
  list_at = get_or-map (λ list. list.items) vectors i old [] below ∙ ap (λ list. list.items) (sym is)

  -- a vector is replaced
  pub lists-set : (new : Vec X Global) (f : List X → List X) → new.items ≡ f old.items → lists_of (set vectors i new) ≡ set (lists_of vectors) i (f (get_or (lists_of vectors) i []))
  lists-set new f e = rw (map-set (λ list. list.items) vectors i new, e, list_at) refl

  -- a vector is replaced by one of the same items
  pub lists-set_same : (new : Vec X Global) → new.items ≡ old.items → lists_of (set vectors i new) ≡ lists_of vectors
  lists-set_same new e = map-set_same (λ list. list.items) vectors i new old (e ∙ ap (λ list. list.items) is)

-- a vector whose elements were all written holds what was written
pub refilled : {X : Type 0} (len : ℕ) (ws items : List X) → len ≡ length items → length ws ≡ length items → take len (ws ++ drop (length ws) items) ≡ ws
refilled len ws items e same =
    rw (drop_all (length ws) items (omega arith), append-nil) (take_all len ws (omega arith))

-- what holds of each list
pub All-lists : {X : Type 0} (P : List X → Type 0) (vectors : List (Vec X Global)) → All P (lists_of vectors) ↔ All (λ list. P list.items) vectors
All-lists {X} P vectors = (
  λ h k d below. subst P (listed_at k d) (h k d.items (rw (length-map vectors (λ list. list.items)) below)),
  λ h. All-map P (λ list. list.items) vectors h,
)
  where
    listed_at : (k : ℕ) (d : Vec X Global) → get_or (lists_of vectors) k d.items ≡ (get_or vectors k d).items
    listed_at k d = at_default (λ list. list.items) vectors k d
