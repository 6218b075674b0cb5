-- The first tree of a branch that has one, and walls.
use Rattle.std.proofs.Common.{◌≡◌, ◌≤◌, ℕ, List, [], ◌∷◌, Option, None, refl, sym, subst, arith}
use Rattle.std.specs.Prelude.{IfNone, IsTrue}
use Rattle.std.proofs.lemmas.Bool.{both_ways, false_from_ne_true, or_right}
use Rattle.st_model.specs.declared.branch.Branch.{Branch}
use Rattle.st_model.specs.declared.tree.Tree.{Tree}
use Rattle.st_model.specs.Lists.{has, sum_to}
use Rattle.st_model.specs.Network.{Network, IsInstance, IsVertex, is_required, pays}
use Rattle.st_model.specs.Arborescence.{IsTree, cost, reached}
use Rattle.st_model.specs.Branch.{IsBranch, IsVertexSet, NoneIsCertain, ReachesAsTold, is_certain}
use Rattle.st_model.specs.Laws.{LoneStartsMissTheRest}
use Rattle.st_model.specs.Wall.{IsWall}
use Rattle.st_model.proofs.Branches.{IsVertexSet-member}
use Rattle.st_model.proofs.Members.{length-has}
use Rattle.st_model.proofs.Reaching.{tree-vertex}
use Rattle.st_model.proofs.ThinGrowth.{has-reached_from}
use Rattle.log_format.specs.Text.{IsWritableSet}
use Rattle.graph_store.specs.Graph.{Graph}
use Rattle.graph_store.specs.Whole.{IsWholeOf}
use Rattle.log_format.proofs.Writable.{any_vertex}
use Rattle.tree_heuristic.specs.Reaching.{HasNoTree, IsNoDearerThanOne, ReachesPresent}

-- a wall can be written
pub writable_wall : (I : Network) (wall : List ℕ) → IsInstance I → IsVertexSet I.n wall → IsWall I wall → IsWritableSet wall
writable_wall I wall is set h = record {
  some = length-has wall h.inside.0 h.inside.3;
  vertices = record { ascending = set.ascending; in_range = λ i d lt. any_vertex I _ is (set.in_range i d lt) };
}

-- each tree of the instance reaches present vertices alone
pub reaches_present : (I : Network) (g : Graph) (t : Tree) → IsWholeOf I g → IsInstance I → IsTree I t → ReachesPresent g t
reaches_present I g t of is h v r = of.whole v (subst (λ (N : Network). IsVertex N.n v) (sym of.network) (tree-vertex I t v is h.arborescence r))

-- a branch that has a tree has a first tree
pub some_first : (I : Network) (g : Graph) (B : Branch) (found : Option Tree) → IsInstance I → IsWholeOf I g → (t : Tree) × IsTree I t × ReachesAsTold B t → IfNone found (HasNoTree g B) → found ≡ None → ⊥
some_first I g B found is of (t, tree, reaches) none missing =
    let nothing : HasNoTree g B = subst (λ (o : Option Tree). IfNone o (HasNoTree g B)) missing none in
    nothing t (subst (λ (N : Network). IsTree N t) (sym of.network) tree) reaches (reaches_present I g t of is tree)

-- a tree no dearer than each vertex alone costs at most all prizes
pub cheap_start : (I : Network) (g : Graph) (B : Branch) (t new : Tree) → IsInstance I → IsBranch I B → IsWholeOf I g → LoneStartsMissTheRest → (s : Tree) × IsTree I s × ReachesAsTold B s
    → (NoneIsCertain g.network B → IsNoDearerThanOne g B t) → cost I new ≤ cost I t → NoneIsCertain I B → cost I new ≤ sum_to (pays I) I.n
cheap_start I g B t new is branch of law (s, tree, reaches) low less none =
    let no_dearer = low (subst (λ (N : Network). NoneIsCertain N B) (sym of.network) none) alone refl lone_reaches present in
    let here : cost I t ≤ cost I alone = subst (λ (N : Network). cost N t ≤ cost N alone) of.network no_dearer in
    omega (arith, less, here, law I alone tree.arborescence.start refl)
  where
    alone : Tree
    alone = record { start = s.start; arcs = [] }

    reached_start : (v : ℕ) → IsTrue (has (s.start ∷ []) v) → IsTrue (has (reached s) v)
    reached_start v h = has-reached_from (s.start ∷ []) s.arcs v h

    nobody : (v : ℕ) → IsTrue (has B.inside v) → ⊥
    nobody v inside = both_ways (is_certain I B v) (none v (IsVertexSet-member I.n B.inside v branch.inside inside)) (or_right (is_required I v) (has B.inside v) inside)

    lone_reaches : ReachesAsTold B alone
    lone_reaches = record {
      inside = λ v inside. absurd (nobody v inside);
      outside = λ v outside. false_from_ne_true (has (s.start ∷ []) v) (λ h. both_ways (has (reached s) v) (reaches.outside v outside) (reached_start v h));
    }

    present : ReachesPresent g alone
    present v h = reaches_present I g s of is tree v (reached_start v h)
