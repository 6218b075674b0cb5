-- What lists weigh, and members of lists that are made of others.
use Rattle.std.proofs.Common.{◌≡◌, ℕ, zero, suc, ◌≤◌, List, [], ◌∷◌, ◌++◌, map, refl, ap, subst, ◌⊎◌, inl, inr, arith}
use Rattle.std.specs.Prelude.{All, Contains}
use Rattle.std.specs.List.{AllByRecursion, flat_map, sum_by}
use Rattle.std.proofs.lemmas.List.Elements.{All-from_recursion, recursion_from_All}
use Rattle.std.proofs.lemmas.List.Sums.{sum_by-cons}
use Rattle.search_core.proofs.Ids.{Among}

-- each in a list weighs no more than the list
pub weight_le : {X : Type 0} (w : X → ℕ) (xs : List X) (x : X) → Among xs x → w x ≤ sum_by w xs
weight_le w [] x h = absurd h
weight_le w (y ∷ ys) x (inl is) = omega (arith, sum_by-cons w y ys, ap w is)
weight_le w (y ∷ ys) x (inr h) = omega (arith, sum_by-cons w y ys, weight_le w ys x h)

-- in a list that weighs something, something weighs something
pub heavy_one : {X : Type 0} (w : X → ℕ) (xs : List X) → 1 ≤ sum_by w xs → (x : X) × Among xs x × (1 ≤ w x)
heavy_one w [] h = absurd (omega arith)
heavy_one w (x ∷ xs) h = by_case (w x) refl (heavy_one w xs)
  where
    by_case : (n : ℕ) → w x ≡ n → (1 ≤ sum_by w xs → (y : _) × Among xs y × (1 ≤ w y)) → (y : _) × Among (x ∷ xs) y × (1 ≤ w y)
    by_case zero e rest = let r = rest (omega (arith, h, e, sum_by-cons w x xs)) in (r.0, inr r.1, r.2)
    by_case (suc n) e rest = (x, inl refl, omega (arith, e))

pub among_left : {X : Type 0} (xs ys : List X) (x : X) → Among xs x → Among (xs ++ ys) x
among_left [] ys x h = absurd h
among_left (z ∷ zs) ys x (inl is) = inl is
among_left (z ∷ zs) ys x (inr h) = inr (among_left zs ys x h)

pub among_right : {X : Type 0} (xs ys : List X) (x : X) → Among ys x → Among (xs ++ ys) x
among_right [] ys x h = h
among_right (z ∷ zs) ys x h = inr (among_right zs ys x h)

pub among_either : {X : Type 0} (xs ys : List X) (x : X) → Among (xs ++ ys) x → Among xs x ⊎ Among ys x
among_either [] ys x h = inr h
among_either (z ∷ zs) ys x (inl is) = inl (inl is)
among_either (z ∷ zs) ys x (inr h) = elim (among_either zs ys x h) [ inl a ↦ inl (inr a) | inr b ↦ inr b ]

pub among_map : {X Y : Type 0} (f : X → Y) (xs : List X) (x : X) → Among xs x → Among (map f xs) (f x)
among_map f [] x h = absurd h
among_map f (y ∷ ys) x (inl is) = inl (ap f is)
among_map f (y ∷ ys) x (inr h) = inr (among_map f ys x h)

-- what is in one of the lists that were put together
pub among_one_of : {X Y : Type 0} (f : X → List Y) (xs : List X) (y : Y) → Among (flat_map f xs) y → (x : X) × Among xs x × Among (f x) y
among_one_of f [] y h = absurd h
among_one_of f (x ∷ xs) y h = elim (among_either (f x) (flat_map f xs) y h) [
  | inl a ↦ (x, inl refl, a)
  | inr b ↦ let r = among_one_of f xs y b in (r.0, inr r.1, r.2)
]

pub contains : {X : Type 0} (xs : List X) (x : X) → Among xs x → Contains xs x
contains [] x h = absurd h
contains (y ∷ ys) x (inl is) = (0, omega arith, is)
contains (y ∷ ys) x (inr h) = let r = contains ys x h in (suc r.0, omega (arith, r.1), r.2)

-- what holds of all holds of each in the list, and the other way round
pub each_among : {X : Type 0} (P : X → Type 0) (xs : List X) → All P xs → (x : X) → Among xs x → P x
each_among {X} P xs all x h = by_list xs (recursion_from_All P xs all) h
  where
    by_list : (ys : List X) → AllByRecursion P ys → Among ys x → P x
    by_list [] k h = absurd h
    by_list (y ∷ ys) k (inl is) = subst P is k.0
    by_list (y ∷ ys) k (inr h) = by_list ys k.1 h

pub all_among : {X : Type 0} (P : X → Type 0) (xs : List X) → ((x : X) → Among xs x → P x) → All P xs
all_among {X} P xs each = All-from_recursion P xs (by_list xs each)
  where
    by_list : (ys : List X) → ((x : X) → Among ys x → P x) → AllByRecursion P ys
    by_list [] h = tt
    by_list (y ∷ ys) h = (h y (inl refl), by_list ys (λ x k. h x (inr k)))
