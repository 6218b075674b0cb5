-- A claim that is a tree of an instance has no fault.
use Rattle.std.proofs.Common.{◌≡◌, ℕ, ◌+◌, ◌*◌, ◌≤◌, min, max, Bool, false, List, [], ◌∷◌, length, map, Option, Some, None, ◌⊎◌, inl, inr, refl, sym, ap, subst, ◌∙◌, arith}
use Rattle.std.specs.Prelude.{◌==◌, IsTrue, IsSome, IfSome, All, unwrap_or}
use Rattle.std.specs.List.{AllByRecursion}
use Rattle.std.specs.List.Sorted.{IsPermutation}
use Rattle.std.proofs.lemmas.Bool.{or_cases, cases_lt, false≢true, eqb-true}
use Rattle.std.proofs.lemmas.List.{length-map}
use Rattle.std.proofs.lemmas.List.Elements.{recursion_from_All, All-from_recursion, All-contains}
use Rattle.std.proofs.lemmas.List.Sorted.{All-permutation, IsPermutation-sym, length_permutation}
use Rattle.st_model.specs.declared.tree.Tree.{Tree}
use Rattle.st_model.specs.Arborescence.{Grows, arc_cost, cost, reached, reached_from}
use Rattle.st_model.specs.Ground.{ground}
use Rattle.st_model.specs.Lists.{has, total}
use Rattle.st_model.specs.Network.{Network, IsInstance, link}
use Rattle.st_model.specs.Regrown.{unordered}
use Rattle.st_model.proofs.Distinct.{link-comm}
use Rattle.st_model.proofs.Reaching.{tree-vertex}
use Rattle.st_model.proofs.RegrowAlike.{total-IsPermutation}
use Rattle.st_model.proofs.RegrowLaws.{missed-same}
use Rattle.amounts.specs.declared.scale.Scale.{Scale}
use Rattle.amounts.specs.Laws.{unit}
use Rattle.solution_reader.specs.declared.verify_fault.VerifyFault.TheVariants.{Empty, OutOfRange, NoLink, Repeated, NotConnected, Cycle, Missing, CostDiffers, NoMemory}
use Rattle.solution_reader.specs.Claim.{Claim, IsClaim}
use Rattle.solution_reader.specs.Stated.{IsClaimedTree, IsStated, IsApart, HasStranger, LacksLink, LacksTerminal, CostsOther, StatedHasNoFault, claimed_cost, repeats}
use Rattle.solution_reader.proofs.EdgesOnce.{repeats-IsPermutation, grows_once}
use Rattle.solution_reader.proofs.MadeTree.{start_there}
use Rattle.solution_reader.proofs.Lengths.{length-reached, apart-reached, same_length}

-- ---- what holds of pairs in either direction

-- which of its ends comes first
order : (e : ℕ × ℕ) → ((min e.0 e.1 ≡ e.0) × (max e.0 e.1 ≡ e.1)) ⊎ ((min e.0 e.1 ≡ e.1) × (max e.0 e.1 ≡ e.0))
order e = elim (cases_lt e.0 e.1) [
  | inl below ↦ inl (omega arith, omega arith)
  | inr above ↦ inr (omega arith, omega arith)
]

to_unordered : (P : ℕ → ℕ → Type 0) → ((a b : ℕ) → P a b → P b a) → (e : ℕ × ℕ) → P e.0 e.1 → P (unordered e).0 (unordered e).1
to_unordered P turned e h = elim (order e) [
  | inl o ↦ subst (λ (w : ℕ). P w (max e.0 e.1)) (sym o.0) (subst (λ (w : ℕ). P e.0 w) (sym o.1) h)
  | inr o ↦ subst (λ (w : ℕ). P w (max e.0 e.1)) (sym o.0) (subst (λ (w : ℕ). P e.1 w) (sym o.1) (turned e.0 e.1 h))
]

from_unordered : (P : ℕ → ℕ → Type 0) → ((a b : ℕ) → P a b → P b a) → (e : ℕ × ℕ) → P (unordered e).0 (unordered e).1 → P e.0 e.1
from_unordered P turned e h = elim (order e) [
  | inl o ↦ subst (λ (w : ℕ). P w e.1) o.0 (subst (λ (w : ℕ). P (min e.0 e.1) w) o.1 h)
  | inr o ↦ turned e.1 e.0 (subst (λ (w : ℕ). P w e.0) o.0 (subst (λ (w : ℕ). P (min e.0 e.1) w) o.1 h))
]

pub all_to : (P : ℕ → ℕ → Type 0) → ((a b : ℕ) → P a b → P b a) → (es : List (ℕ × ℕ)) → AllByRecursion (λ e. P e.0 e.1) es → AllByRecursion (λ e. P e.0 e.1) (map unordered es)
all_to P turned [] h = tt
all_to P turned (e ∷ es) h = (to_unordered P turned e h.0, all_to P turned es h.1)

pub all_from : (P : ℕ → ℕ → Type 0) → ((a b : ℕ) → P a b → P b a) → (es : List (ℕ × ℕ)) → AllByRecursion (λ e. P e.0 e.1) (map unordered es) → AllByRecursion (λ e. P e.0 e.1) es
all_from P turned [] h = tt
all_from P turned (e ∷ es) h = (from_unordered P turned e h.0, all_from P turned es h.1)

-- what holds of some pairs in either direction holds of others that are the same
all_moved : (P : ℕ → ℕ → Type 0) → ((a b : ℕ) → P a b → P b a) → (xs ys : List (ℕ × ℕ)) → IsPermutation (map unordered xs) (map unordered ys) → AllByRecursion (λ e. P e.0 e.1) xs
    → AllByRecursion (λ e. P e.0 e.1) ys
all_moved P turned xs ys h all =
    let Q : ℕ × ℕ → Type 0 = λ e. P e.0 e.1 in
    let moved : All Q (map unordered ys) = All-permutation Q (map unordered xs) (map unordered ys) h (All-from_recursion Q (map unordered xs) (all_to P turned xs all)) in
    all_from P turned ys (recursion_from_All Q (map unordered ys) moved)

-- ---- connected

-- where each arc has both ends on one side, all that is reached is on the side of what was reached at first
one_side : (I : Network) (S : ℕ → Bool) (side : Bool) (r : List ℕ) (arcs : List (ℕ × ℕ)) → Grows I r arcs → AllByRecursion (λ arc. S arc.0 ≡ S arc.1) arcs → ((v : ℕ) → IsTrue (has r v)
    → S v ≡ side) → (v : ℕ) → IsTrue (has (reached_from r arcs) v) → S v ≡ side
one_side I S side r [] g along first = first
one_side I S side r (arc ∷ arcs) g along first = one_side I S side (arc.1 ∷ r) arcs g.3 along.1 (λ v there. elim (or_cases (arc.1 == v) (has r v) there) [
  | inl same ↦ ap S (sym (eqb-true arc.1 v same)) ∙ (sym along.0 ∙ first arc.0 g.1)
  | inr other ↦ first v other
])

pub not_apart : (I : Network) (claim : Claim) (t : Tree) → IsClaimedTree I claim t → IsApart claim → ⊥
not_apart I claim t k a =
    let grows = k.tree.arborescence.grows in
    let along = all_moved (λ u v. a.side u ≡ a.side v) (λ u v h. sym h) claim.edges t.arcs k.edges (recursion_from_All (λ edge. a.side edge.0 ≡ a.side edge.1) claim.edges a.along) in
    let same = one_side I a.side (a.side t.start) (t.start ∷ []) t.arcs grows along (λ v there. elim (or_cases (t.start == v) false there) [
      | inl here ↦ ap a.side (sym (eqb-true t.start v here))
      | inr none ↦ absurd (false≢true none)
    ]) in
    let first = same a.one (sym (k.vertices a.one) ∙ a.one_there) in
    let second = same a.other (sym (k.vertices a.other) ∙ a.other_there) in
    false≢true (sym a.other_side ∙ (second ∙ (sym first ∙ a.one_side)))

-- ---- vertices and links

pub not_stranger : (I : Network) (claim : Claim) (t : Tree) → IsInstance I → IsClaimedTree I claim t → HasStranger I claim → ⊥
not_stranger I claim t instance k (v, there, out) = out (tree-vertex I t v instance k.tree.arborescence (sym (k.vertices v) ∙ there))

arcs_are_links : (I : Network) (r : List ℕ) (arcs : List (ℕ × ℕ)) → Grows I r arcs → AllByRecursion (λ e. IsSome (link I.links e.0 e.1)) arcs
arcs_are_links I r [] g = tt
arcs_are_links I r (arc ∷ arcs) g = (g.0, arcs_are_links I (arc.1 ∷ r) arcs g.3)

some_not_none : (o : Option ℕ) → IsSome o → o ≡ None → ⊥
some_not_none None h e = false≢true h
some_not_none (Some x) h e = cc

pub not_lacking : (I : Network) (claim : Claim) (t : Tree) → IsClaimedTree I claim t → LacksLink I claim → ⊥
not_lacking I claim t k (edge, there, none) =
    let P : ℕ × ℕ → Type 0 = λ e. IsSome (link I.links e.0 e.1) in
    let links = all_moved (λ u v. IsSome (link I.links u v)) (λ u v h. subst (λ (o : Option ℕ). IsSome o) (link-comm I.links u v) h) t.arcs claim.edges (IsPermutation-sym _ _ k.edges)
    (arcs_are_links I (t.start ∷ []) t.arcs k.tree.arborescence.grows) in
    some_not_none (link I.links edge.0 edge.1) (All-contains P claim.edges edge (All-from_recursion P claim.edges links) there) none

pub not_lacking_terminal : (I : Network) (claim : Claim) (t : Tree) → IsClaimedTree I claim t → LacksTerminal I claim → ⊥
not_lacking_terminal I claim t k (v, terminal, absent) = false≢true (sym absent ∙ (k.vertices v ∙ k.tree.required v terminal.vertex terminal.required))

pub not_empty : (I : Network) (claim : Claim) (t : Tree) → IsClaimedTree I claim t → claim.vertices ≡ [] → ⊥
not_empty I claim t k none = false≢true (ap (λ (vs : List ℕ). has vs t.start) (sym none) ∙ (k.vertices t.start ∙ start_there t))

-- ---- edges

pub not_repeated : (I : Network) (claim : Claim) (t : Tree) → IsClaimedTree I claim t → repeats claim.edges ≡ false
not_repeated I claim t k = repeats-IsPermutation t.arcs claim.edges (IsPermutation-sym _ _ k.edges) (grows_once (ground I) (t.start ∷ []) t.arcs k.tree.arborescence.grows)

-- a tree has one vertex more than links
pub not_cycle : (I : Network) (claim : Claim) (t : Tree) → IsClaim claim → IsClaimedTree I claim t → length claim.vertices ≤ length claim.edges → ⊥
not_cycle I claim t is k few =
    let vertices = same_length claim.vertices (reached t) is.ascending (apart-reached (ground I) (t.start ∷ []) t.arcs k.tree.arborescence.grows (refl, tt)) k.vertices in
    let reached_are = length-reached (t.start ∷ []) t.arcs in
    let moved = length_permutation (map unordered claim.edges) (map unordered t.arcs) k.edges in
    let edges = length-map claim.edges unordered in
    let arcs = length-map t.arcs unordered in
    omega (arith, vertices, reached_are, moved, edges, arcs)

-- ---- the cost

arc_cost-turned : (I : Network) (a b : ℕ) (c : ℕ) → unwrap_or (link I.links a b) 0 ≡ c → unwrap_or (link I.links b a) 0 ≡ c
arc_cost-turned I a b c h = ap (λ (o : Option ℕ). unwrap_or o 0) (link-comm I.links b a) ∙ h

total-unordered : (I : Network) (es : List (ℕ × ℕ)) → total (arc_cost I) (map unordered es) ≡ total (arc_cost I) es
total-unordered I [] = refl
total-unordered I (e ∷ es) =
    let same : arc_cost I (unordered e) ≡ arc_cost I e = to_unordered (λ a b. unwrap_or (link I.links a b) 0 ≡ arc_cost I e) (λ a b h. arc_cost-turned I a b (arc_cost I e) h) e refl in
    rw (total-unordered I es) (ap (λ (x : ℕ). x + total (arc_cost I) es) same)

-- the tree costs what its vertices and edges say
pub cost_is : (I : Network) (claim : Claim) (t : Tree) → IsClaimedTree I claim t → cost I t ≡ claimed_cost I claim
cost_is I claim t k =
    let links : total (arc_cost I) claim.edges ≡ total (arc_cost I) t.arcs = sym (total-unordered I claim.edges)
    ∙ (total-IsPermutation (arc_cost I) (map unordered claim.edges) (map unordered t.arcs) k.edges ∙ total-unordered I t.arcs) in
    let missed_same = missed-same I I.n (reached t) claim.vertices k.vertices in
    omega (arith, links, missed_same)

primal_is : (o : Option ℕ) (p x : ℕ) → IfSome o (λ q. q ≡ x) → o ≡ Some p → p ≡ x
primal_is None p x h e = absurd cc
primal_is (Some q) p x h e = let same : q ≡ p = cc in sym same ∙ h

pub not_other : (I : Network) (scale : Scale) (claim : Claim) (c : ℕ) → IsStated I scale claim c → CostsOther I scale claim → ⊥
not_other I scale claim c s (p, is, differs) =
    differs (primal_is claim.primal p (c * unit scale) s.primal is ∙ ap (λ (x : ℕ). x * unit scale) (s.cost ∙ cost_is I claim s.tree s.claimed))

-- a claim that is a tree of an instance has one cost
pub one_cost : (I : Network) (scale : Scale) (claim : Claim) (c d : ℕ) → IsStated I scale claim c → IsStated I scale claim d → c ≡ d
one_cost I scale claim c d s o = (s.cost ∙ cost_is I claim s.tree s.claimed) ∙ sym (o.cost ∙ cost_is I claim o.tree o.claimed)

pub stated_has_no_fault_lem : StatedHasNoFault
stated_has_no_fault_lem I scale claim c Empty instance is s f = absurd (not_empty I claim s.tree s.claimed f.wrong)
stated_has_no_fault_lem I scale claim c OutOfRange instance is s f = absurd (not_stranger I claim s.tree instance s.claimed f.wrong)
stated_has_no_fault_lem I scale claim c NoLink instance is s f = absurd (not_lacking I claim s.tree s.claimed f.wrong)
stated_has_no_fault_lem I scale claim c Repeated instance is s f = absurd (false≢true (sym (not_repeated I claim s.tree s.claimed) ∙ f.wrong))
stated_has_no_fault_lem I scale claim c NotConnected instance is s f = absurd (not_apart I claim s.tree s.claimed f.wrong)
stated_has_no_fault_lem I scale claim c Cycle instance is s f = absurd (not_cycle I claim s.tree is s.claimed f.wrong)
stated_has_no_fault_lem I scale claim c Missing instance is s f = absurd (not_lacking_terminal I claim s.tree s.claimed f.wrong)
stated_has_no_fault_lem I scale claim c CostDiffers instance is s f = absurd (not_other I scale claim c s f.wrong)
stated_has_no_fault_lem I scale claim c NoMemory instance is s f = refl
