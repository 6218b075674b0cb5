-- What packings and trees of a directed network weigh, fit and cost, where nobody pays.
use Rattle.std.proofs.Common.{◌≡◌, ℕ, ◌+◌, ◌≤◌, Bool, true, false, cond, ◌||◌, List, [], ◌∷◌, take, ◌↔◌, Some, None, refl, sym, ap, subst, ◌∙◌, arith}
use Rattle.std.specs.Prelude.{◌==◌, IsTrue, IsFalse, IsSome, All, unwrap_or}
use Rattle.std.specs.List.{AllByRecursion}
use Rattle.std.proofs.lemmas.Bool.{or_left, and_parts, eq-eqb, ne_eqb, both_ways, false≢true}
use Rattle.std.proofs.lemmas.List.Elements.{recursion_from_All}
use Rattle.st_model.specs.declared.branch.Branch.{Branch}
use Rattle.st_model.specs.declared.link.Link.{Link}
use Rattle.st_model.specs.declared.tree.Tree.{Tree}
use Rattle.st_model.specs.Arborescence.{GrowsIn, arc_cost_in, cost_in, reached}
use Rattle.st_model.specs.Branch.{certain_in, is_present}
use Rattle.st_model.specs.Lists.{has, total, sum_to}
use Rattle.st_model.specs.Network.{IsVertex}
use Rattle.st_model.proofs.Costs.{total_take_le}
use Rattle.st_model.proofs.Distinct.{has-cons_head}
use Rattle.st_model.proofs.Pairs.{open_parts}
use Rattle.st_model.proofs.Sums.{sum_to_same, sum_to_none}
use Rattle.cut_packing.specs.declared.cut.Cut.{Cut}
use Rattle.cut_packing.specs.declared.packing.Packing.{Packing}
use Rattle.cut_packing.specs.Full.{IsReachedIn, IsFullFromIn, IsFullIn, here, there}
use Rattle.cut_packing.specs.Packing.{named, CutFitsIn, PrizesFitIn, weight_in}
use Rattle.arborescence.specs.DiNetwork.{DiNetwork, IsDiNetwork, leads, arc_from, away_price, di_ground}
use Rattle.arborescence.proofs.Putting.{leads_ends}

-- where nobody pays, nothing is paid
nothing : (test : ℕ → Bool) (n : ℕ) → sum_to (λ v. cond (test v) 0 0) n ≡ 0
nothing test n = sum_to_same (λ v. cond (test v) 0 0) (λ _. 0) n (λ v low high. either (test v)) ∙ sum_to_none n
  where
    none : ℕ
    none = 0

    either : (b : Bool) → cond b none none ≡ none
    either true = refl
    either false = refl

-- a packing weighs what its cuts are worth
pub weighs_cuts : (D : DiNetwork) (B : Branch) (P : Packing) → B.must ≡ [] → total (λ c. c.y) P.cuts ≡ weight_in (di_ground D) B P
weighs_cuts D B P none = rw none (omega (arith, nothing (has B.outside) D.n))

-- a tree costs its arcs
pub costs_arcs : (D : DiNetwork) (t : Tree) → total (arc_cost_in (di_ground D)) t.arcs ≡ cost_in (di_ground D) t
costs_arcs D t = omega (arith, nothing (has (reached t)) D.n)

-- what an arc costs, unless its head is reached
abbrev cost_left : List ℕ → Link → ℕ
cost_left r l = cond (has r l.b) 0 l.cost

cost_left-cons : (r : List ℕ) (v : ℕ) (ls : List Link) → total (cost_left (v ∷ r)) ls ≤ total (cost_left r) ls
cost_left-cons r v [] = omega arith
cost_left-cons r v (l ∷ ls) = let here = fewer (v == l.b) (has r l.b) in let rest = cost_left-cons r v ls in omega arith
  where
    fewer : (a b : Bool) → cond (a || b) 0 l.cost ≤ cond b 0 l.cost
    fewer true true = omega arith
    fewer true false = omega arith
    fewer false b = omega arith

-- the arc to a new vertex is taken out of what is left
cost_left-arc : (ls : List Link) (r : List ℕ) (u v : ℕ) → has r v ≡ false → unwrap_or (arc_from ls u v) 0 + total (cost_left (v ∷ r)) ls ≤ total (cost_left r) ls
cost_left-arc [] r u v new = omega arith
cost_left-arc (l ∷ ls) r u v new = by_test (leads l u v) refl (cost_left-arc ls r u v new)
  where
    by_test : (b : Bool) → leads l u v ≡ b → unwrap_or (arc_from ls u v) 0 + total (cost_left (v ∷ r)) ls ≤ total (cost_left r) ls → unwrap_or (cond b (Some l.cost) (arc_from ls u v)) 0 + total (cost_left (v ∷ r)) (l ∷ ls) ≤ total (cost_left r) (l ∷ ls)
    by_test true is rest =
        let head = (leads_ends l u v is).1 in
        let after : cost_left (v ∷ r) l ≡ 0 = rw (has-cons_head r v l.b head) refl in
        let before : cost_left r l ≡ l.cost = rw (ap (has r) head ∙ new) refl in
        let more = cost_left-cons r v ls in
        omega arith
    by_test false is rest = let here = cost_left-cons r v (l ∷ []) in omega arith

-- arcs that grow cost no more than all arcs
growing_costs : (D : DiNetwork) (r : List ℕ) (arcs : List (ℕ × ℕ)) → GrowsIn (di_ground D) r arcs → total (arc_cost_in (di_ground D)) arcs ≤ total (cost_left r) D.arcs
growing_costs D r [] g = omega arith
growing_costs D r (arc ∷ arcs) g =
    let here = cost_left-arc D.arcs r arc.0 arc.1 g.2 in
    let less = price_le (arc.1 == D.root) in
    let rest = growing_costs D (arc.1 ∷ r) arcs g.3 in
    omega arith
  where
    price_le : (b : Bool) → unwrap_or (cond b None (arc_from D.arcs arc.0 arc.1)) 0 ≤ unwrap_or (arc_from D.arcs arc.0 arc.1) 0
    price_le true = omega arith
    price_le false = omega arith

all_left : (r : List ℕ) (ls : List Link) → total (cost_left r) ls ≤ total (λ l. l.cost) ls
all_left r [] = omega arith
all_left r (l ∷ ls) = let here = at_most (has r l.b) in let rest = all_left r ls in omega arith
  where
    at_most : (b : Bool) → cond b 0 l.cost ≤ l.cost
    at_most true = omega arith
    at_most false = omega arith

pub first_arcs_cost : (D : DiNetwork) (r : List ℕ) (arcs : List (ℕ × ℕ)) (k : ℕ) → IsDiNetwork D → GrowsIn (di_ground D) r arcs → total (arc_cost_in (di_ground D)) (take k arcs) ≤ total (λ l. l.cost) D.arcs
first_arcs_cost D r arcs k net g = omega (arith, total_take_le (arc_cost_in (di_ground D)) k arcs, growing_costs D r arcs g, all_left r D.arcs)

-- cuts that name certain vertices name no other
named_none : (certain : ℕ → Bool) (cuts : List Cut) (q : ℕ) → AllByRecursion (λ c. IsTrue (certain c.q)) cuts → IsFalse (certain q) → named cuts q ≡ 0
named_none certain [] q all off = refl
named_none certain (c ∷ cuts) q all off =
    let other : IsFalse (c.q == q) = ne_eqb c.q q (λ same. absurd (both_ways (certain q) off (subst (λ w. IsTrue (certain w)) same all.0))) in
    rw other (omega (arith, named_none certain cuts q all.1 off))

-- so their prizes fit
pub certain_prizes : (D : DiNetwork) (B : Branch) (cuts : List Cut) → All (CutFitsIn (di_ground D) B) cuts → PrizesFitIn (di_ground D) B cuts
certain_prizes D B cuts all q vertex off =
    let none = named_none (certain_in (di_ground D) B) cuts q (each cuts (recursion_from_All _ cuts all)) off in
    omega arith
  where
    each : (cs : List Cut) → AllByRecursion (CutFitsIn (di_ground D) B) cs → AllByRecursion (λ c. IsTrue (certain_in (di_ground D) B c.q)) cs
    each [] h = tt
    each (c ∷ cs) h = ((and_parts (is_present B c.q) (certain_in (di_ground D) B c.q) h.0.present).1, each cs h.1)

-- the root is reached from itself alone
reaches_root : (D : DiNetwork) (B : Branch) (P : Packing) (r v : ℕ) → v ≡ D.root → IsReachedIn (di_ground D) B P r v → r ≡ D.root
reaches_root D B P r v same here = same
reaches_root D B P r v same (there {u} before used) =
    let some : IsSome (away_price D u v) = (open_parts (di_ground D) B u v (rw used.used refl)).1 in
    absurd (false≢true (rw (eq-eqb v D.root same) at some))

-- no other root makes a packing full
pub full_root : (D : DiNetwork) (B : Branch) (P : Packing) (r : ℕ) → IsDiNetwork D → P.root ≡ Some r → IsFullIn (di_ground D) B P → r ≡ D.root
full_root D B P r net at full =
    let same : Some full.0 ≡ Some r = sym full.1 ∙ at in
    let e : full.0 ≡ r = cc in
    sym e ∙ reaches_root D B P full.0 D.root refl (full.2.certain D.root net.root (or_left (certain_root D.root) _ (or_left (D.root == D.root) _ (eq-eqb D.root D.root refl))))
  where
    certain_root : ℕ → Bool
    certain_root v = (v == D.root) || has D.terminals v

-- a packing is full where all is reached that has to be
pub full_iff : (D : DiNetwork) (B : Branch) (P : Packing) (members : List ℕ) → ((v : ℕ) → IsVertex D.n v → IsTrue (has members v) ↔ IsReachedIn (di_ground D) B P D.root v) → ((v : ℕ) → IsVertex D.n v → IsTrue (certain_in (di_ground D) B v) → IsTrue (has members v)) → IsFullFromIn (di_ground D) B P D.root
full_iff D B P members reach all = record {
  certain = λ v vertex certain. (reach v vertex).0 (all v vertex certain);
  undecided = λ v vertex undecided named. absurd (omega arith);
}
