-- What is accepted holds: a bound that is proved of what steps leave bounds every tree, and no tree gets past a wall.
use Rattle.std.proofs.Common.{◌≡◌, ℕ, List, [], ◌∷◌, refl, sym, ap, subst, ◌∙◌, arith}
use Rattle.std.proofs.lemmas.Bool.{both_ways}
use Rattle.st_model.specs.declared.tree.Tree.{Tree}
use Rattle.st_model.specs.Lists.{has}
use Rattle.st_model.specs.Network.{Network, IsInstance}
use Rattle.st_model.specs.Ground.{ground}
use Rattle.st_model.specs.Arborescence.{IsTree, IsTreeIn, IsBoundIn}
use Rattle.st_model.specs.Branch.{all_trees}
use Rattle.st_model.proofs.Distinct.{link-comm}
use Rattle.st_model.proofs.Members.{has-one}
use Rattle.st_model.proofs.Reaching.{one_side}
use Rattle.cut_packing.proofs.Duality.{proof_tree_bounds_lem}
use Rattle.cut_packing.proofs.Rooted.{rooted_proof_tree_bounds_lem}
use Rattle.arborescence.specs.DiNetwork.{di_ground}
use Rattle.arborescence.specs.Problem.{Problem, plain, directed, ground_of, IsProblem, IsWallOf}
use Rattle.arborescence.proofs.DiTrees.{is_rooted, wall_bars}
use Rattle.log_format.specs.declared.log.Claim.{Claim}
use Rattle.log_format.specs.declared.log.Claim.TheVariants.{Found, NoTree}
use Rattle.log_format.specs.declared.proof_line.ProofLine.{ProofLine}
use Rattle.st_model.specs.Wall.{IsWall}
use Rattle.lift_back.specs.declared.step.Step.{Step}
use Rattle.lift_back.specs.State.{IsTreeOf, whole}
use Rattle.lift_back.proofs.Beginning.{whole_state}
use Rattle.lift_back.proofs.Stepwise.{steps_keep_the_least}
use Rattle.log_format.specs.Accepts.{left_over, left_of, ProvesAfter, ProvesAfterIn, AcceptsClaimIn, HoldsIn, AcceptedHolds, AcceptedOfAProblemHolds}
use Rattle.log_format.proofs.AllTrees.{belongs_left_over, belongs_to_all}

-- a tree of an instance is one of its state, of which nobody is gone
whole_tree : (I : Network) (t : Tree) → IsTree I t → IsTreeOf (whole I) t
whole_tree I t is_tree = record { tree = is_tree; avoids = λ v gone. absurd cc }

-- a bound that is proved of what steps leave bounds every tree
bounds : (I : Network) (dual : ℕ) (steps : List Step) (proof : List ProofLine) → IsInstance I → ProvesAfter I steps dual proof → IsBoundIn (ground I) dual
bounds I dual steps proof instance (s, applies, (p, lines, proves)) t is_tree =
    let (left, is_left, less) = steps_keep_the_least steps (whole I) s t (whole_state I instance) applies (whole_tree I t is_tree) in
    let bound = proof_tree_bounds_lem (ground s.instance) (left_over s) (left_of dual s) p left (link-comm s.instance.links) tt proves is_left.tree (belongs_left_over s left is_left) in
    omega arith

-- no tree gets past a wall
no_tree : (I : Network) (wall : List ℕ) → IsWall I wall → (t : Tree) → IsTree I t → ⊥
no_tree I wall is_wall t is_tree =
    let side = one_side I (has wall) (has wall t.start) (t.start ∷ []) t.arcs (λ u v u_reached v_reached linked. is_wall.uncrossed u v linked) is_tree.arborescence.grows (λ v there. ap (has wall) (sym (has-one t.start v there))) in
    let inner = is_wall.inside in
    let outer = is_wall.outside in
    let a = side inner.0 (is_tree.required inner.0 inner.1 inner.2) in
    let b = side outer.0 (is_tree.required outer.0 outer.1 outer.2) in
    let same : has wall inner.0 ≡ has wall outer.0 = a ∙ sym b in
    both_ways (has wall outer.0) outer.3 (sym same ∙ inner.3)

-- the same of problems of both kinds
proof_bounds : (p : Problem) (dual : ℕ) (steps : List Step) (proof : List ProofLine) → IsProblem p → ProvesAfterIn p steps dual proof → IsBoundIn (ground_of p) dual
proof_bounds (plain I) dual steps proof instance proved = bounds I dual steps proof instance proved
proof_bounds (directed D) dual steps proof network (none, (p, lines, proves)) =
    λ t is_tree. rooted_proof_tree_bounds_lem (di_ground D) D.root all_trees dual p t (is_rooted D network) refl proves is_tree (belongs_to_all t)

wall_stops : (p : Problem) (wall : List ℕ) → IsProblem p → IsWallOf p wall → (t : Tree) → IsTreeIn (ground_of p) t → ⊥
wall_stops (plain I) wall instance is_wall = no_tree I wall is_wall
wall_stops (directed D) wall network is_wall = λ t is_tree. wall_bars D wall t network is_wall is_tree

-- what is claimed holds
claim_holds : (p : Problem) (claim : Claim) → IsProblem p → AcceptsClaimIn p claim → HoldsIn p claim
claim_holds p (Found primal dual tree steps proof) problem accepts =
    let bound = proof_bounds p dual steps proof problem accepts.is_proved in
    (accepts.is_tree, sym accepts.is_cost, bound, λ equal. record { tree = accepts.is_tree; least = subst (IsBoundIn (ground_of p)) (equal ∙ accepts.is_cost) bound })
claim_holds p (NoTree wall) problem accepts = wall_stops p wall problem accepts

pub accepted_of_a_problem_holds_lem : AcceptedOfAProblemHolds
accepted_of_a_problem_holds_lem p log problem accepts = claim_holds p log.claim problem accepts

pub accepted_holds_lem : AcceptedHolds
accepted_holds_lem I log instance accepts = claim_holds (plain I) log.claim instance accepts
