-- Membership of lists, as a test.
use Rattle.std.proofs.Common.{◌≡◌, ℕ, ◌≤◌, ◌||◌, List, [], ◌∷◌, ◌++◌, length, ◌↔◌, subst, ◌∙◌, arith}
use Rattle.std.specs.Prelude.{◌==◌, Contains, IsTrue}
use Rattle.std.proofs.lemmas.Bool.{eqb-true, false≢true}
use Rattle.std.proofs.lemmas.Bool.Decides.{nat_tests}
use Rattle.std.proofs.lemmas.List.Folds.{list_any-append}
use Rattle.std.proofs.lemmas.Map.Views.{Contains-from_any}
use Rattle.st_model.specs.Lists.{has}
use Rattle.st_model.proofs.Booleans.{same_test}
use Rattle.st_model.proofs.Marked.{has-turned, has_at}

pub has-append : (xs ys : List ℕ) (v : ℕ) → has (xs ++ ys) v ≡ (has xs v || has ys v)
has-append xs ys v = list_any-append (λ x. x == v) xs ys

-- the one member of a list of one
pub has-one : (x v : ℕ) → IsTrue (has (x ∷ []) v) → x ≡ v
has-one x v there = grind (arith, nat_tests)

-- a list with a member isn't empty
pub length-has : (xs : List ℕ) (v : ℕ) → IsTrue (has xs v) → 1 ≤ length xs
length-has [] v there = absurd (false≢true there)
length-has (x ∷ xs) v there = omega arith

pub Contains-from_has : (xs : List ℕ) (v : ℕ) → IsTrue (has xs v) → Contains xs v
Contains-from_has xs v there = Contains-from_any eqb-true v xs (has-turned xs v ∙ there)

pub has-from_Contains : (xs : List ℕ) (v : ℕ) → Contains xs v → IsTrue (has xs v)
has-from_Contains xs v (k, within, at) = subst (λ x. IsTrue (has xs x)) at (has_at xs k v within)

-- lists with the same elements have the same members
pub has_same : (xs ys : List ℕ) → ((v : ℕ) → Contains xs v ↔ Contains ys v) → (v : ℕ) → has xs v ≡ has ys v
has_same xs ys same v = same_test (has xs v) (has ys v) (λ h. has-from_Contains ys v ((same v).0 (Contains-from_has xs v h))) (λ h. has-from_Contains xs v ((same v).1 (Contains-from_has ys v h)))
