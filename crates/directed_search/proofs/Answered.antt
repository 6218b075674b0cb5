-- What was found where no branch is left.
use Rattle.std.proofs.Common.{◌≡◌, ℕ, ◌^◌, ◌<◌, List, [], ◌∷◌, ◌++◌, length, take, refl, sym, ap, ◌∙◌, subst, arith}
use Rattle.std.specs.Prelude.{All}
use Rattle.std.specs.List.{AllByRecursion}
use Rattle.std.proofs.lemmas.Bool.{false≢true}
use Rattle.std.proofs.lemmas.List.{append-nil, take_all}
use Rattle.std.proofs.lemmas.List.Elements.{All-from_recursion, All-nil}
use Rattle.st_model.specs.declared.branch.Branch.{Branch}
use Rattle.st_model.specs.declared.split_at.SplitAt.TheVariants.{Vertex, Link}
use Rattle.st_model.specs.declared.tree.Tree.{Tree}
use Rattle.st_model.specs.Arborescence.{GrowsIn, IsTreeIn, arc_cost_in}
use Rattle.st_model.specs.Branch.{IsVertexSet, all_trees, with_inside, with_outside}
use Rattle.st_model.specs.Lists.{total}
use Rattle.st_model.proofs.Members.{length-has}
use Rattle.cut_packing.specs.ProofTree.{ProofTree, ProvesIn, close, split}
use Rattle.cut_packing.proofs.Rooted.{rooted_proof_tree_bounds_lem}
use Rattle.arborescence.specs.DiNetwork.{DiNetwork, IsDiNetwork, di_ground}
use Rattle.arborescence.specs.DiWall.{IsDiWall}
use Rattle.arborescence.proofs.DiTrees.{away_between, is_rooted, wall_bars}
use Rattle.arborescence.proofs.DiWeights.{costs_arcs, first_arcs_cost, weighs_cuts}
use Rattle.log_format.specs.declared.log.Log.{Log}
use Rattle.log_format.specs.declared.log.Version.TheVariants.{Two}
use Rattle.log_format.specs.declared.log.Claim.TheVariants as claim
use Rattle.log_format.specs.declared.proof_line.ProofLine.{ProofLine}
use Rattle.log_format.specs.Accepts.{ProvesOfIn}
use Rattle.log_format.specs.Preorder.{IsOneProof, preorder}
use Rattle.log_format.specs.Text.{IsAnyVertex, IsWritableStep, IsWritableTree}
use Rattle.log_format.proofs.AllTrees.{belongs_to_all}
use Rattle.directed_search.specs.Found.{IsDiFound, IsDiWithoutTree}
use Rattle.directed_search.specs.State.{State}
use Rattle.directed_search.specs.Searching.{HasLines, IsSearching, Weighs}
use Rattle.directed_search.proofs.Going.{any_vertex, writable_set}

-- each close of a proof tree weighs what it proves
weighs_each : (D : DiNetwork) (x : ℕ) (p : ProofTree) (B : Branch) → B.must ≡ [] → ProvesIn (di_ground D) B x p → AllByRecursion (Weighs x) (preorder p)
weighs_each D x (close P) B none proves = let weighs = weighs_cuts D B P none in let least = proves.weighs in (omega arith, tt)
weighs_each D x (split (Vertex v) p q) B none proves = (tt, both (preorder p) (preorder q) (weighs_each D x p (with_inside B v) none proves.1) (weighs_each D x q (with_outside B v) none proves.2))
  where
    both : (ls ms : List ProofLine) → AllByRecursion (Weighs x) ls → AllByRecursion (Weighs x) ms → AllByRecursion (Weighs x) (ls ++ ms)
    both [] ms h k = k
    both (l ∷ ls) ms h k = (h.0, both ls ms h.1 k)
weighs_each D x (split (Link a b) p q) B none proves = absurd (false≢true proves.0.linked)

-- a tree of the instance can be written
ends_fit : (D : DiNetwork) (r : List ℕ) (arcs : List (ℕ × ℕ)) → IsDiNetwork D → GrowsIn (di_ground D) r arcs → AllByRecursion (λ arc. IsAnyVertex arc.0 × IsAnyVertex arc.1) arcs
ends_fit D r [] net grows = tt
ends_fit D r (arc ∷ arcs) net grows =
    let ends = away_between D arc.0 arc.1 net grows.0 in
    ((any_vertex D arc.0 net ends.0, any_vertex D arc.1 net ends.1), ends_fit D (arc.1 ∷ r) arcs net grows.3)

writable_tree : (D : DiNetwork) (t : Tree) → IsDiNetwork D → IsTreeIn (di_ground D) t → length t.arcs < 2 ^ 64 → IsWritableTree t
writable_tree D t net tree few = record {
  start = any_vertex D t.start net tree.arborescence.start;
  few_arcs = few;
  arcs = All-from_recursion (λ arc. IsAnyVertex arc.0 × IsAnyVertex arc.1) t.arcs (ends_fit D (t.start ∷ []) t.arcs net tree.arborescence.grows);
}

-- the lines are one proof tree
pub one_proof : (D : DiNetwork) (s : State) → IsSearching D s 0 [] → IsOneProof s.lines
one_proof D s h = let proved = h.goes_on 0 (omega arith) [] refl in (proved.0, sym (append-nil s.lines) ∙ proved.1)

-- and prove the least of all trees
proved : (D : DiNetwork) (s : State) → IsSearching D s 0 [] → ProvesOfIn (di_ground D) all_trees s.least s.lines
proved D s h = let done = h.goes_on s.least (omega arith) [] refl in (done.0, sym (append-nil s.lines) ∙ done.1, done.2)

is_found_so : (D : DiNetwork) (s : State) (log : Log) → IsDiNetwork D → length s.best.arcs < 2 ^ 64 → IsSearching D s 0 [] → HasLines s 0 → log.version ≡ Two → log.claim ≡ claim.Found s.primal s.least s.best [] s.lines → IsDiFound s.budget D s.best s.primal s.least s.expanded log
is_found_so D s log net few h worked version claims = record {
  is_tree = h.is_tree;
  is_cost = h.is_cost;
  is_bound = λ t tree. let all = proved D s h in rooted_proof_tree_bounds_lem (di_ground D) D.root all_trees s.least all.0 t (is_rooted D net) refl all.2 tree (belongs_to_all t);
  is_below = h.is_below;
  within = h.within;
  proof = s.lines;
  version = version;
  claims = claims;
  greatest = λ x low proves. let (none, (p, written, tree)) = proves in h.greatest x low (subst (All (Weighs x)) (sym written) (All-from_recursion (Weighs x) (preorder p) (weighs_each D x p all_trees refl tree)));
  all_spent = λ less. let before = h.spent less in let within = h.within in omega arith;
  worked = omega (arith, worked);
  is_log = record {
    in_range = rw (version, claims) (record {
      primal_fits = small;
      dual_fits = omega (arith, h.is_below, small);
      tree_fits = writable_tree D s.best net h.is_tree few;
      few_steps = omega arith;
      steps_fit = All-nil IsWritableStep;
      lines_fit = h.writable;
    });
    one_proof = rw claims (one_proof D s h);
  };
  accepted = rw claims (record {
    is_tree = h.is_tree;
    is_cost = h.is_cost;
    is_below = h.is_below;
    is_proved = (refl, proved D s h);
  });
  enough = λ budget. (h.enough budget).1;
}
  where
    -- a tree costs no more than all arcs
    small : s.primal < 2 ^ 64
    small =
        let most = first_arcs_cost D (s.best.start ∷ []) s.best.arcs (length s.best.arcs) net h.is_tree.arborescence.grows in
        let all : total (arc_cost_in (di_ground D)) (take (length s.best.arcs) s.best.arcs) ≡ total (arc_cost_in (di_ground D)) s.best.arcs = ap (total (arc_cost_in (di_ground D))) (take_all (length s.best.arcs) s.best.arcs (omega arith)) in
        omega (arith, h.is_cost, costs_arcs D s.best, most, all, net.amount)

-- the same, by other names of the tree and of the budget
pub is_found : (D : DiNetwork) (s : State) (budget : ℕ) (tree : Tree) (log : Log) → IsDiNetwork D → s.budget ≡ budget → tree ≡ s.best → length s.best.arcs < 2 ^ 64 → IsSearching D s 0 [] → HasLines s 0 → log.version ≡ Two → log.claim ≡ claim.Found s.primal s.least s.best [] s.lines
    → IsDiFound budget D tree s.primal s.least s.expanded log
is_found D s budget tree log net same is few h worked version claims =
    subst (λ (b : ℕ). IsDiFound b D tree s.primal s.least s.expanded log) same
    (subst (λ (t : Tree). IsDiFound s.budget D t s.primal s.least s.expanded log) (sym is) (is_found_so D s log net few h worked version claims))

pub is_without_tree : (D : DiNetwork) (wall : List ℕ) (log : Log) → IsDiNetwork D → IsDiWall D wall → IsVertexSet D.n wall → log.version ≡ Two → log.claim ≡ claim.NoTree wall → IsDiWithoutTree D log
is_without_tree D wall log net bars set version claims = record {
  wall = wall;
  none = λ t. wall_bars D wall t net bars;
  version = version;
  claims = claims;
  is_log = record {
    in_range = rw claims (record { some = length-has wall D.root bars.root; vertices = writable_set D wall net set });
    one_proof = rw claims tt;
  };
  accepted = rw claims bars;
}
