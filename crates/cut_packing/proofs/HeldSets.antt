-- The sets that a table's keys are written as.
use Rattle.std.proofs.Common.{◌≡◌, ◌≢◌, ℕ, Bool, false, cond, List, [], ◌∷◌, ◌++◌, map, get_or, Some, option_map, Vec, Global, refl, sym, ap, ◌∙◌}
use Rattle.std.specs.Prelude.{IsTrue, IsFalse, AllPairs, slice_get, position}
use Rattle.std.specs.List.{list_any}
use Rattle.std.specs.Str.{bytes_eq}
use Rattle.std.proofs.lemmas.Bool.{false≢true}
use Rattle.std.proofs.lemmas.List.{map-append}
use Rattle.std.proofs.lemmas.List.Folds.{list_any_at}
use Rattle.std.proofs.lemmas.List.Quantifiers.{position-Some, all_pairs_push}
use Rattle.std.proofs.lemmas.Option.{slice_get-map, slice_get-get_or}
use Rattle.std.proofs.lemmas.Slice.Eq.{bytes_eq-Decides}
use Rattle.st_model.proofs.Links.{position-cons}
use Rattle.cut_packing.specs.SetTable.{is_held, with_set}

-- the sets of the keys
abbrev pub sets_of : List (Vec ℕ Global) → List (List ℕ)
sets_of keys = map (λ set. set.items) keys

-- whether a key is written as the set
abbrev pub is_key : List ℕ → Vec ℕ Global → Bool
is_key set key = bytes_eq set key.items

pub is_held-sets : (set : List ℕ) (keys : List (Vec ℕ Global)) → is_held (sets_of keys) set ≡ list_any (is_key set) keys
is_held-sets set [] = refl
is_held-sets set (k ∷ keys) = rw (is_held-sets set keys) refl

-- what is held stays as it is
pub with_set_held : (sets : List (List ℕ)) (set : List ℕ) → IsTrue (is_held sets set) → with_set sets set ≡ sets
with_set_held sets set held = rw held refl

-- and else comes last
pub with_set_new : (sets : List (List ℕ)) (set : List ℕ) → IsFalse (is_held sets set) → with_set sets set ≡ sets ++ set ∷ []
with_set_new sets set new = rw new refl

-- no set stands twice where the last one was not held
pub sets_apart : (sets : List (List ℕ)) (set : List ℕ) → IsFalse (is_held sets set) → AllPairs (λ a b. a ≢ b) sets → AllPairs (λ a b. a ≢ b) (sets ++ set ∷ [])
sets_apart sets set new apart =
    all_pairs_push (λ a b. a ≢ b) sets set apart (λ k d below same. false≢true (sym new ∙ list_any_at (bytes_eq set) sets k d below ((bytes_eq-Decides set (get_or sets k d)).1 (sym same))))

-- the key that is found is written as the set
pub set_at : (set : List ℕ) (keys : List (Vec ℕ Global)) (i : ℕ) (key : Vec ℕ Global) → slice_get keys i ≡ Some key → IsTrue (is_key set key) → slice_get (sets_of keys) i ≡ Some set
set_at set keys i key found same =
    slice_get-map (λ s. s.items) keys i ∙ ap (option_map (λ s. s.items)) found ∙ ap Some (sym ((bytes_eq-Decides set key.items).0 same))

-- the same where it is found by its position
pub set_at_position : (set : List ℕ) (keys : List (Vec ℕ Global)) (i : ℕ) → position (is_key set) keys ≡ Some i → slice_get (sets_of keys) i ≡ Some set
set_at_position set keys i found =
    let p = position-Some (bytes_eq set) (sets_of keys) i [] (by_sets keys ∙ found) in
    slice_get-get_or (sets_of keys) i [] p.0 ∙ ap Some (sym ((bytes_eq-Decides set (get_or (sets_of keys) i [])).0 p.1))
  where
    by_sets : (ks : List (Vec ℕ Global)) → position (bytes_eq set) (sets_of ks) ≡ position (is_key set) ks
    by_sets [] = refl
    by_sets (k ∷ ks) = rw (position-cons (bytes_eq set) k.items (sets_of ks), position-cons (is_key set) k ks, by_sets ks) refl

-- a key that isn't held comes last
pub sets-insert : (set : List ℕ) (keys keys' : List (Vec ℕ Global)) (owned : Vec ℕ Global) → owned.items ≡ set → keys' ≡ cond (list_any (is_key owned.items) keys) keys (keys ++ owned ∷ []) → IsFalse (is_held (sets_of keys) set) → sets_of keys' ≡ sets_of keys ++ set ∷ []
sets-insert set keys keys' owned same e new =
    let absent : list_any (is_key owned.items) keys ≡ false = rw same (sym (is_held-sets set keys) ∙ new) in
    rw (e, absent, map-append (λ s. s.items) keys (owned ∷ []), same) refl
