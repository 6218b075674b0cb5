-- How many nodes there may be: each half of a split leaves a free vertex less.
use Rattle.std.proofs.Common.{◌≡◌, ℕ, zero, suc, ◌+◌, ◌*◌, ◌^◌, ◌≤◌, Bool, true, false, cond, not, ◌&&◌, ◌||◌, refl, ap, ◌∙◌, subst, arith}
use Rattle.std.specs.Prelude.{◌==◌, IsTrue, [], ◌∷◌}
use Rattle.std.proofs.Math.Nat.{pow-suc}
use Rattle.std.proofs.lemmas.Bool.{and_from, eqb-true}
use Rattle.std.proofs.lemmas.Bool.Decides.{nat_tests}
use Rattle.st_model.specs.declared.branch.Branch.{Branch}
use Rattle.st_model.specs.Branch.{all_trees, free_in, is_undecided, with_inside, with_outside}
use Rattle.st_model.specs.Lists.{has, sum_to}
use Rattle.st_model.proofs.Halves.{has-with_vertex}
use Rattle.st_model.proofs.Sums.{sum_to_le, sum_to_same}
use Rattle.cut_packing.specs.ProofTree.{IsSplitIn}
use Rattle.arborescence.specs.DiNetwork.{DiNetwork, di_ground, is_sought}
use Rattle.directed_search.specs.Found.{di_free_vertices}
use Rattle.directed_search.specs.Searching.{free_count, nodes_below, nodes_left}

-- a sum falls where no term rises and one falls
sum_falls : (f g : ℕ → ℕ) (n v : ℕ) → ((w : ℕ) → g w ≤ f w) → g v + 1 ≤ f v → 1 ≤ v → v ≤ n → sum_to g n + 1 ≤ sum_to f n
sum_falls f g zero v all here low high = absurd (omega arith)
sum_falls f g (suc n) v all here low high = by_case (v == suc n) refl (sum_falls f g n v all here low)
  where
    by_case : (b : Bool) → (v == suc n) ≡ b → (v ≤ n → sum_to g n + 1 ≤ sum_to f n) → sum_to g (suc n) + 1 ≤ sum_to f (suc n)
    by_case true is rest =
        let last : g (suc n) + 1 ≤ f (suc n) = subst (λ (k : ℕ). g k + 1 ≤ f k) (eqb-true v (suc n) is) here in
        omega (arith, last, sum_to_le g f n (λ w l h. all w))
    by_case false is rest =
        let below : v ≤ n = grind (arith, nat_tests) in
        omega (arith, rest below, all (suc n))

abbrev one_of : Bool → ℕ
one_of b = cond b 1 0

-- where v alone isn't free any more, one vertex less is free
fewer_free : (D : DiNetwork) (B half : Branch) (v : ℕ) → IsSplitIn (di_ground D) B v → ((w : ℕ) → free_in (di_ground D) half w ≡ (not (v == w) && free_in (di_ground D) B w)) → free_count D half + 1 ≤ free_count D B
fewer_free D B half v may same =
    sum_falls (λ w. one_of (free_in (di_ground D) B w)) (λ w. one_of (free_in (di_ground D) half w)) D.n v
    (λ w. rw (same w) (at_most (v == w) (free_in (di_ground D) B w)))
    (rw (same v, itself v, free) (omega arith)) may.vertex.0 may.vertex.1
  where
    free : IsTrue (free_in (di_ground D) B v)
    free = and_from (is_undecided B v) (not (is_sought D v)) may.undecided (ap not may.free)

    itself : (a : ℕ) → (a == a) ≡ true
    itself a = grind (arith, nat_tests)

    at_most : (a b : Bool) → one_of (not a && b) ≤ one_of b
    at_most true b = omega arith
    at_most false b = omega arith

pub fewer_inside : (D : DiNetwork) (B : Branch) (v : ℕ) → IsSplitIn (di_ground D) B v → free_count D (with_inside B v) + 1 ≤ free_count D B
fewer_inside D B v may = fewer_free D B (with_inside B v) v may (λ w.
    ap (λ b. (not b && not (has B.outside w)) && not (is_sought D w)) (has-with_vertex B.inside v w)
    ∙ by_case (v == w) (has B.inside w) (has B.outside w) (is_sought D w))
  where
    by_case : (here i o r : Bool) → ((not (here || i) && not o) && not r) ≡ (not here && ((not i && not o) && not r))
    by_case true i o r = refl
    by_case false i o r = refl

pub fewer_outside : (D : DiNetwork) (B : Branch) (v : ℕ) → IsSplitIn (di_ground D) B v → free_count D (with_outside B v) + 1 ≤ free_count D B
fewer_outside D B v may = fewer_free D B (with_outside B v) v may (λ w.
    ap (λ b. (not (has B.inside w) && not b) && not (is_sought D w)) (has-with_vertex B.outside v w)
    ∙ by_case (v == w) (has B.inside w) (has B.outside w) (is_sought D w))
  where
    by_case : (here i o r : Bool) → ((not i && not (here || o)) && not r) ≡ (not here && ((not i && not o) && not r))
    by_case true true o r = refl
    by_case true false o r = refl
    by_case false i o r = refl

-- fewer free vertices have no more nodes below
below_rises : (m n : ℕ) → m ≤ n → nodes_below m ≤ nodes_below n
below_rises zero n h = omega arith
below_rises (suc m) zero h = absurd (omega arith)
below_rises (suc m) (suc n) h = let rest = below_rises m n (omega arith) in omega (arith, rest)

-- the two halves of a split and what is below them are below it
pub halves_below : (free inside outside : ℕ) → inside + 1 ≤ free → outside + 1 ≤ free → suc (nodes_below inside) + suc (nodes_below outside) ≤ nodes_below free
halves_below zero inside outside first second = absurd (omega arith)
halves_below (suc free) inside outside first second = omega (arith, below_rises inside free (omega arith), below_rises outside free (omega arith))

-- a node and what is below it are one less than a power of 2
below_power : (free : ℕ) → nodes_below free + 2 ≡ 2 ^ (free + 1)
below_power zero = refl
below_power (suc free) =
    let e : 2 ^ (suc free + 1) ≡ 2 ^ (free + 1) * 2 = ap (λ j. 2 ^ j) (omega arith) ∙ pow-suc 2 (free + 1) in
    omega (arith, e, below_power free)

-- in the branch of all trees each vertex is free that isn't sought
all_free : (D : DiNetwork) → free_count D all_trees ≡ di_free_vertices D
all_free D = sum_to_same (λ v. one_of (free_in (di_ground D) all_trees v)) (λ v. cond (is_sought D v) 0 1) D.n (λ v low high. by_case (is_sought D v))
  where
    by_case : (b : Bool) → one_of (not b) ≡ cond b 0 1
    by_case true = refl
    by_case false = refl

pub all_nodes : (D : DiNetwork) (budget : ℕ) → 2 ^ (di_free_vertices D + 1) ≤ budget → nodes_left D (all_trees ∷ []) ≤ budget
all_nodes D budget h = let same : nodes_below (free_count D all_trees) ≡ nodes_below (di_free_vertices D) = ap nodes_below (all_free D) in omega (arith, h, same, below_power (di_free_vertices D))
