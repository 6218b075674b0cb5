-- The branches of the closes of a proof leave out whom the branch that it is of leaves out.
use Rattle.std.proofs.Common.{ℕ, zero, suc, ◌+◌, ◌∙◌, subst, inl, inr, arith, eqb}
use Rattle.std.specs.Prelude.{Contains, IsTrue}
use Rattle.std.proofs.lemmas.Bool.{or_right}
use Rattle.std.proofs.lemmas.List.Elements.{Contains-append_cases}
use Rattle.st_model.specs.declared.branch.Branch.{Branch}
use Rattle.st_model.specs.declared.split_at.SplitAt.{SplitAt}
use Rattle.st_model.specs.declared.split_at.SplitAt.TheVariants.{Vertex, Link}
use Rattle.st_model.specs.declared.tree.Tree.{Tree}
use Rattle.st_model.specs.Branch.{ReachesAsTold, yes_half, no_half}
use Rattle.st_model.specs.Lists.{has}
use Rattle.st_model.specs.Arborescence.{IsTree}
use Rattle.st_model.proofs.Halves.{has-with_vertex}
use Rattle.cut_packing.specs.ProofTree.{ProofTree, close, split}
use Rattle.branching.specs.declared.node.Node.{Node}
use Rattle.lift_back.specs.State.{State, IsTreeOf}
use Rattle.log_format.specs.Accepts.{left_over}
use Rattle.log_resume.specs.Closes.{close_count, closes_from, closes_of}

-- who is outside of one branch is outside of the other
abbrev pub LeavesOutAll : Branch → Branch → Type 0
LeavesOutAll B C = (v : ℕ) → IsTrue (has B.outside v) → IsTrue (has C.outside v)

yes_leaves : (B : Branch) (at : SplitAt) → LeavesOutAll B (yes_half B at)
yes_leaves B (Vertex w) v h = h
yes_leaves B (Link a b) v h = h

no_leaves : (B : Branch) (at : SplitAt) → LeavesOutAll B (no_half B at)
no_leaves B (Vertex w) v h = has-with_vertex B.outside w v ∙ or_right (eqb w v) (has B.outside v) h
no_leaves B (Link a b) v h = h

pub close_leaves : (number : ℕ) (B : Branch) (p : ProofTree) (N : Node) → Contains (closes_from number B p) N → LeavesOutAll B N.branch
close_leaves number B (close P) N (zero, low, is) v h = subst (λ (M : Node). IsTrue (has M.branch.outside v)) is h
close_leaves number B (close P) N (suc k, low, is) v h = absurd (omega arith)
close_leaves number B (split at p q) N there v h =
    elim (Contains-append_cases (closes_from number (yes_half B at) p) (closes_from (number + close_count p) (no_half B at) q) N there) [
      | inl first ↦ close_leaves number (yes_half B at) p N first v (yes_leaves B at v h)
      | inr second ↦ close_leaves (number + close_count p) (no_half B at) q N second v (no_leaves B at v h)
    ]

-- so a tree that reaches what the branch of a close says reaches nobody who is gone
pub avoids_gone : (s : State) (p : ProofTree) (N : Node) (t : Tree) → Contains (closes_of (left_over s) p) N → IsTree s.instance t → ReachesAsTold N.branch t → IsTreeOf s t
avoids_gone s p N t there tree reaches = record { tree = tree; avoids = λ v gone. reaches.outside v (close_leaves 0 (left_over s) p N there v gone) }
