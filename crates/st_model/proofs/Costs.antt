-- What a tree costs, arc by arc.
use Rattle.std.proofs.Common.{◌≡◌, ℕ, zero, suc, ◌+◌, ◌-◌, ◌^◌, ◌<◌, ◌≤◌, Bool, true, false, ◌||◌, cond, eqb, List, [], ◌∷◌, length, get_or, take, drop, refl, sym, ◌∙◌, ◌⊎◌, inl, inr, arith}
use Rattle.std.proofs.lemmas.Bool.{cases_lt}
use Rattle.std.proofs.lemmas.Bool.Decides.{nat_tests}
use Rattle.std.proofs.lemmas.List.{take_more}
use Rattle.st_model.specs.declared.tree.Tree.{Tree}
use Rattle.st_model.specs.Arborescence.{Grows, arc_cost, cost, missed, reached_from}
use Rattle.st_model.specs.Lists.{has, total, sum_to}
use Rattle.st_model.specs.Network.{Network, IsInstance, IsVertex, pays}
use Rattle.st_model.proofs.Sums.{total-append, sum_to_same, sum_to_le, sum_to-add, sum_to_one}
use Rattle.st_model.proofs.Distinct.{total-arc_cost}
use Rattle.st_model.proofs.Judging.{grows_next, reached_next}
use Rattle.st_model.proofs.ThinGrowth.{linked-vertices}

-- what is missed loses the prize of a vertex that is reached now
pub missed_reached : (I : Network) (r : List ℕ) (v : ℕ) → IsVertex I.n v → has r v ≡ false → sum_to (missed I (v ∷ r)) I.n + pays I v ≡ sum_to (missed I r) I.n
missed_reached I r v vertex absent =
    let here = sum_to_one v (pays I v) I.n vertex.0 vertex.1 in
    let split : sum_to (missed I r) I.n ≡ sum_to (λ w. missed I (v ∷ r) w + cond (eqb v w) (pays I v) 0) I.n = sum_to_same (missed I r) (λ w. missed I (v ∷ r) w + cond (eqb v w) (pays I v) 0) I.n (λ w low high. at w (eqb v w) refl) in
    omega (arith, split, here, sum_to-add (missed I (v ∷ r)) (λ w. cond (eqb v w) (pays I v) 0) I.n)
  where
    at : (w : ℕ) (b : Bool) → eqb v w ≡ b → cond (has r w) 0 (pays I w) ≡ cond (b || has r w) 0 (pays I w) + cond b (pays I v) 0
    at w true is =
        let same : v ≡ w = grind (arith, nat_tests) in
        rw (← same, absent) (omega arith)
    at w false is = omega arith

-- a start alone misses all but its own prize
pub missed_start : (I : Network) (start : ℕ) → IsVertex I.n start → sum_to (missed I (start ∷ [])) I.n + pays I start ≡ sum_to (pays I) I.n
missed_start I start vertex = missed_reached I [] start vertex refl

-- a tree without arcs is a start alone
pub lone_start : (I : Network) (t : Tree) → IsVertex I.n t.start → t.arcs ≡ [] → cost I t + pays I t.start ≡ sum_to (pays I) I.n
lone_start I t vertex none = rw none (omega (arith, missed_start I t.start vertex))

pub missed_le_prizes : (I : Network) (r : List ℕ) → sum_to (missed I r) I.n ≤ sum_to (pays I) I.n
missed_le_prizes I r = sum_to_le (missed I r) (pays I) I.n (λ v low high. at v (has r v))
  where
    at : (v : ℕ) (b : Bool) → cond b 0 (pays I v) ≤ pays I v
    at v true = omega arith
    at v false = omega arith

-- any part of the sum is at most the sum
pub sum_to_part : (f : ℕ → ℕ) (k n : ℕ) → k ≤ n → sum_to f k ≤ sum_to f n
sum_to_part f k zero h = let none : k ≡ 0 = omega arith in rw none (omega arith)
sum_to_part f k (suc n) h = by_case (cases_lt k (suc n)) (λ below. sum_to_part f k n below)
  where
    by_case : (k < suc n) ⊎ (suc n ≤ k) → (k ≤ n → sum_to f k ≤ sum_to f n) → sum_to f k ≤ sum_to f n + f (suc n)
    by_case (inl below) rest = omega (arith, rest (omega arith))
    by_case (inr above) rest = let same : k ≡ suc n = omega arith in rw same (omega arith)

pub total_take_le : {X : Type 0} (f : X → ℕ) (k : ℕ) (xs : List X) → total f (take k xs) ≤ total f xs
total_take_le f zero xs = omega arith
total_take_le f (suc k) [] = omega arith
total_take_le f (suc k) (x ∷ xs) = omega (arith, total_take_le f k xs)

pub total_more : {X : Type 0} (f : X → ℕ) (xs : List X) (i : ℕ) (d : X) → i < length xs → total f (take (i + 1) xs) ≡ total f (take i xs) + f (get_or xs i d)
total_more f xs i d within = rw (take_more xs i d within) (total-append f (take i xs) (get_or xs i d ∷ []) ∙ omega arith)

-- one arc more: what it costs, and what is missed from then on
pub record Turn (I : Network) (r : List ℕ) (arcs : List (ℕ × ℕ)) (i spent left : ℕ) : Type 0 where
  pub links : spent + arc_cost I (get_or arcs i (0, 0)) ≡ total (arc_cost I) (take (i + 1) arcs)
  pub enough : pays I (get_or arcs i (0, 0)).1 ≤ left
  pub missed : left - pays I (get_or arcs i (0, 0)).1 ≡ sum_to (missed I (reached_from r (take (i + 1) arcs))) I.n
  pub grows : Grows I (reached_from r (take (i + 1) arcs)) (drop (i + 1) arcs)

pub turn : (I : Network) (r : List ℕ) (arcs : List (ℕ × ℕ)) (i spent left : ℕ) → IsInstance I → i < length arcs → spent ≡ total (arc_cost I) (take i arcs) → left ≡ sum_to (missed I (reached_from r (take i arcs))) I.n → Grows I (reached_from r (take i arcs)) (drop i arcs) → Turn I r arcs i spent left
turn I r arcs i spent left instance within spent_is left_is grows =
    let next = (grows_next I r arcs i (0, 0) within).0 grows in
    let vertex = linked-vertices I (get_or arcs i (0, 0)).0 (get_or arcs i (0, 0)).1 instance next.0.linked in
    let less = missed_reached I (reached_from r (take i arcs)) (get_or arcs i (0, 0)).1 vertex.1 next.0.to in
    record {
      links = rw spent_is (sym (total_more (arc_cost I) arcs i (0, 0) within));
      enough = omega (arith, less);
      missed = rw (reached_next r arcs i (0, 0) within) (omega (arith, less));
      grows = next.1;
    }

-- no part of a tree costs more than all that could be paid
pub links_fit : (I : Network) (r : List ℕ) (arcs : List (ℕ × ℕ)) (k : ℕ) → IsInstance I → Grows I r arcs → total (arc_cost I) (take k arcs) + sum_to (pays I) I.n < 2 ^ 63
links_fit I r arcs k instance grows = omega (arith, total_take_le (arc_cost I) k arcs, total-arc_cost I r arcs grows, instance.amount)
