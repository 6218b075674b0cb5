-- The node from which a search begins.
use Rattle.std.proofs.Common.{◌≡◌, Bool, true, false, refl, sym, ◌∙◌, arith}
use Rattle.std.specs.Prelude.{IsFalse}
use Rattle.std.proofs.lemmas.List.Elements.{All-nil}
use Rattle.st_model.specs.declared.branch.Branch.{Branch}
use Rattle.st_model.specs.declared.tree.Tree.{Tree}
use Rattle.st_model.specs.Arborescence.{IsTree}
use Rattle.st_model.specs.Branch.{ReachesAsTold, IsBranch, LeavesRequired}
use Rattle.st_model.specs.Network.{Network, is_required}
use Rattle.st_model.proofs.Branches.{IsVertexSet-member}
use Rattle.log_format.specs.Text.{IsWritableCut}
use Rattle.branching.specs.declared.node.Node.{Node}
use Rattle.node_work.specs.Node.{IsWritableNode}
use Rattle.search_core.specs.State.{no_cuts, root_of}
use Rattle.search_core.proofs.Rooted.{root_node}
use Rattle.worker_loop.specs.Sound.{IsSound}

-- the node of a whole branch with a packing that a log can hold is sound
pub node_sound : (I : Network) (N : Node) → IsWritableNode I N → IsSound I N.branch (root_of N.branch N.packing)
node_sound I N h = record {
  node = record { node = record { branch = h.node.branch; required = h.node.required; fits = h.node.fits }; writable = h.writable };
  part = record { inside = λ v h. h; outside = λ v h. h };
}

-- so it is without cuts
pub root_sound : (I : Network) (R : Branch) → IsBranch I R → LeavesRequired I R → IsSound I R (root_of R no_cuts)
root_sound I R branch required =
    node_sound I (root_of R no_cuts) (record { node = root_node I R branch required; writable = record { root = tt; few_cuts = omega arith; cuts = All-nil IsWritableCut } })

-- a branch of which a tree reaches what it says leaves nobody required out
pub reaches_leaves : (I : Network) (R : Branch) (t : Tree) → IsBranch I R → IsTree I t → ReachesAsTold R t → LeavesRequired I R
reaches_leaves I R t branch tree reaches v out = by_case (is_required I v) refl where
  by_case : (b : Bool) → is_required I v ≡ b → IsFalse (is_required I v)
  by_case false e = e
  by_case true e = let no : true ≡ false = sym (tree.required v (IsVertexSet-member I.n R.outside v branch.outside out) e) ∙ reaches.outside v out in absurd cc
