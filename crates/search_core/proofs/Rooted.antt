-- The node of a whole branch without cuts is one.
use Rattle.std.proofs.Common.{ℕ, ◌≤◌, Option, Some, None, refl, arith}
use Rattle.std.specs.Prelude.{IfSome}
use Rattle.std.proofs.lemmas.List.Elements.{All-nil}
use Rattle.st_model.specs.declared.branch.Branch.{Branch}
use Rattle.st_model.specs.Branch.{IsBranch, LeavesRequired, open_link}
use Rattle.st_model.specs.Network.{Network}
use Rattle.cut_packing.specs.Packing.{CutFits}
use Rattle.branching.specs.Node.{IsNode}
use Rattle.search_core.specs.State.{no_cuts, root_of}

pub root_node : (I : Network) (R : Branch) → IsBranch I R → LeavesRequired I R → IsNode I (root_of R no_cuts)
root_node I R branch required = record {
  branch = branch;
  required = required;
  fits = record { root = refl; cuts = All-nil (CutFits I R); arcs = λ u v a b. any_cost (open_link I R u v); prizes = λ q a b. omega arith };
}
  where
    any_cost : (o : Option ℕ) → IfSome o (λ price. 0 ≤ price)
    any_cost None = tt
    any_cost (Some price) = omega arith
