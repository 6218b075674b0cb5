-- What closes a node with nothing left to decide.
use Rattle.std.proofs.Common.{◌≡◌, ℕ, zero, suc, ◌*◌, ◌^◌, ◌<◌, ◌≤◌, Bool, true, false, cond, not, ◌⊎◌, inl, inr, Option, Some, None, length, refl, ap, subst, ◌∙◌, arith}
use Rattle.std.specs.Prelude.{IsTrue, IfSome, IfNone}
use Rattle.std.proofs.lemmas.Bool.{both_ways, cases_eq, false_from_ne_true}
use Rattle.st_model.specs.declared.branch.Branch.{Branch}
use Rattle.st_model.specs.declared.tree.Tree.{Tree}
use Rattle.st_model.specs.Lists.{has, sum_to, total}
use Rattle.st_model.specs.Network.{Network, IsInstance, IsVertex, pays}
use Rattle.st_model.specs.Arborescence.{IsArborescence, cost}
use Rattle.st_model.specs.Branch.{ReachesAsTold, IsBranch, LeavesRequired, NoneIsCertain}
use Rattle.st_model.proofs.Branches.{IsVertexSet-member}
use Rattle.st_model.proofs.Sums.{sum_to_same}
use Rattle.cut_packing.specs.declared.packing.Packing.{Packing}
use Rattle.cut_packing.specs.Packing.{Fits, base_weight, outside_pays, weight}
use Rattle.level_packing.specs.Forest.{IsPresent}
use Rattle.level_packing.specs.Spanning.{AreSets, IsSpanning}
use Rattle.branching.specs.declared.node.Node.{Node}
use Rattle.better_trees.specs.declared.price.Priced.{Priced}
use Rattle.better_trees.specs.Better.{IsBetter, least_after}
use Rattle.node_work.specs.declared.step.End.TheVariants.{Close}
use Rattle.node_work.specs.Step.{IsStep}
use Rattle.log_format.proofs.Writable.{cost_fits}
use Rattle.node_work.proofs.Writing.{writable_packing}

-- a branch of which every vertex is outside weighs all prizes
none_present : (I : Network) (B : Branch) (P : Packing) (least : ℕ) → IsBranch I B → LeavesRequired I B
    → ((v : ℕ) → IsVertex I.n v → IsTrue (has B.outside v)) → (NoneIsCertain I B → least ≤ sum_to (pays I) I.n) → least ≤ weight I B P
none_present I B P least branch leaves outside cheap =
    let none : NoneIsCertain I B = λ v vertex. rw (leaves v (outside v vertex)) (false_from_ne_true (has B.inside v) (λ inside. both_ways (has B.outside v) (branch.apart v inside) (outside v vertex))) in
    let all : sum_to (outside_pays I B) I.n ≡ sum_to (pays I) I.n = sum_to_same (outside_pays I B) (pays I) I.n (λ v low high. ap (λ b. cond b (pays I v) 0) (outside v (low, high))) in
    omega (arith, all, cheap none)

-- of the first vertices all are outside, or one isn't
all_or_one : (I : Network) (B : Branch) (k : ℕ) → k ≤ I.n → ((v : ℕ) → IsVertex k v → IsTrue (has B.outside v)) ⊎ ((v : ℕ) × IsPresent I B v)
all_or_one I B zero below = inl (λ v vertex. let low = vertex.0 in let high = vertex.1 in absurd (omega arith))
all_or_one I B (suc k) below = elim (all_or_one I B k (omega (arith, below))) [
  | inl all ↦ by_case (has B.outside (suc k)) refl all
  | inr one ↦ inr one
]
  where
    by_case : (b : Bool) → has B.outside (suc k) ≡ b → ((v : ℕ) → IsVertex k v → IsTrue (has B.outside v)) → ((v : ℕ) → IsVertex (suc k) v → IsTrue (has B.outside v)) ⊎ ((v : ℕ) × IsPresent I B v)
    by_case true is all = inl (λ v vertex. elim (cases_eq (suc k) v) [
      | inl same ↦ subst (λ w. IsTrue (has B.outside w)) same is
      | inr other ↦ let low = vertex.0 in let high = vertex.1 in all v (low, omega arith)
    ])
    by_case false is all = inr (suc k, record { vertex = (omega arith, omega (arith, below)); present = ap not is })

-- where the packing weighs less than a tree that is no dearer than leaving all out, some vertex is present
pub some_present : (I : Network) (B : Branch) (P : Packing) (least : ℕ) → IsBranch I B → LeavesRequired I B → weight I B P < least → (NoneIsCertain I B → least ≤ sum_to (pays I) I.n) → (v : ℕ) × IsPresent I B v
some_present I B P least branch leaves light cheap = elim (all_or_one I B I.n (omega arith)) [
  | inl all ↦ absurd (omega (arith, light, none_present I B P least branch leaves all cheap))
  | inr one ↦ one
]

-- a tree that reaches just who is present reaches what the branch says
pub spanning_reaches : (I : Network) (B : Branch) (t : Tree) → IsBranch I B → IsSpanning I B t → ReachesAsTold B t
spanning_reaches I B t branch spans = record {
  inside = λ v h. spans.present v (IsVertexSet-member I.n B.inside v branch.inside h) ∙ ap not (branch.apart v h);
  outside = λ v h. spans.present v (IsVertexSet-member I.n B.outside v branch.outside h) ∙ ap not h;
}

-- a packing that weighs no less than a tree costs closes, whether the tree is the better one or not
pub spanned_step : (I : Network) (N : Node) (t : Tree) (P : Packing) (least : ℕ) (links : Bool) (better : Option Priced) → IsInstance I → IsArborescence I t → Fits I N.branch P
    → cost I t ≤ weight I N.branch P → base_weight I N.branch P ≤ cost I t → AreSets I.n P → length P.cuts ≤ 2 * I.n
    → IfSome better (IsBetter I N.branch least) → IfSome better (λ p. p.price ≡ cost I t) → IfNone better (least ≤ cost I t)
    → IsStep I N least links (record { better = better; end = Close P })
spanned_step I N t P least links better instance arborescence fits weighs base sets few is_better price none =
    let small : total (λ c. c.y) P.cuts < 2 ^ 64 = omega (arith, base, cost_fits I t instance arborescence) in
    let count : length P.cuts < 2 ^ 64 = omega (arith, few, instance.few_vertices) in
    record {
      tree = is_better;
      ends = (record { fits = fits; weighs = by_case better price none }, writable_packing I N.branch P instance fits sets count small);
    }
  where
    by_case : (o : Option Priced) → IfSome o (λ p. p.price ≡ cost I t) → IfNone o (least ≤ cost I t) → least_after least o ≤ weight I N.branch P
    by_case None some low = omega (arith, low, weighs)
    by_case (Some p) same low = omega (arith, same, weighs)
