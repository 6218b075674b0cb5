-- How many arcs can enter a set at most.
use Rattle.std.proofs.Common.{ℕ, zero, suc, ◌+◌, ◌*◌, ◌<◌, ◌≤◌, Bool, true, false, cond, List, [], ◌∷◌, length, map, arith}
use Rattle.std.specs.Prelude.{All}
use Rattle.std.specs.List.Sorted.{IsStrictlyIncreasing}
use Rattle.std.proofs.lemmas.List.{get_or-map, length-map}
use Rattle.st_model.specs.Lists.{total, sum_to}
use Rattle.st_model.proofs.Marked.{AllApart-from_increasing, AllApart-few}
use Rattle.bidirected_form.specs.declared.arc.Arc.{Arc}
use Rattle.bidirected_form.specs.Digraph.{Digraph, IsDigraph, AreArcsInto, arcs_into}
use Rattle.bidirected_form.specs.Entering.{enters}
use Rattle.flow_cuts.specs.Fewest.{entering_count}

row_few : (n v : ℕ) (arcs : List Arc) → AreArcsInto n v arcs → length arcs ≤ n + 1
row_few n v arcs h = omega (
  arith,
  length-map arcs (λ (a : Arc). a.tail),
  AllApart-few (map (λ (a : Arc). a.tail) arcs) (n + 1)
      (AllApart-from_increasing (map (λ (a : Arc). a.tail) arcs) increasing) small,
)
  where
    nothing : Arc
    nothing = record { tail = 0; remaining = 0 }

    increasing : IsStrictlyIncreasing (map (λ (a : Arc). a.tail) arcs)
    increasing k below =
        let long = length-map arcs (λ (a : Arc). a.tail) in
        let first = get_or-map (λ (a : Arc). a.tail) arcs k nothing 0 (omega arith) in
        let second = get_or-map (λ (a : Arc). a.tail) arcs (k + 1) nothing 0 (omega arith) in
        let less = h.ascending k (k + 1) nothing (omega arith) (omega arith) in
        omega (arith, first, second, less)

    small : All (λ v. v < n + 1) (map (λ (a : Arc). a.tail) arcs)
    small k d below =
        let long = length-map arcs (λ (a : Arc). a.tail) in
        let first = get_or-map (λ (a : Arc). a.tail) arcs k nothing d (omega arith) in
        let high = (h.tails k nothing (omega arith)).0.1 in
        omega (arith, first, high)

total_few : {X : Type 0} (p : X → Bool) (xs : List X) → total (λ x. cond (p x) 1 0) xs ≤ length xs
total_few p [] = omega arith
total_few p (x ∷ xs) = omega (arith, total_few p xs, one (p x))
  where
    one : (b : Bool) → cond b 1 0 ≤ 1
    one true = omega arith
    one false = omega arith

sum_to_few : (f : ℕ → ℕ) (c n : ℕ) → ((v : ℕ) → f v ≤ c) → sum_to f n ≤ n * c
sum_to_few f c zero h = omega arith
sum_to_few f c (suc n) h = omega (arith, sum_to_few f c n h, h (suc n))

pub count_few : (D : Digraph) (set : List ℕ) → IsDigraph D → entering_count D set ≤ D.n * (D.n + 1)
count_few D set h = sum_to_few (λ v. total (λ (a : Arc). cond (enters set a.tail v) 1 0) (arcs_into D v)) (D.n + 1) D.n
    (λ v. omega (arith, total_few (λ (a : Arc). enters set a.tail v) (arcs_into D v), row_few D.n v (arcs_into D v) (h.arcs v)))
