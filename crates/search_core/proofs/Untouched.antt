-- What is gathered of a search that no worker began accounts for its one node, and is finished where no budget was given.
use Rattle.std.proofs.Common.{ℕ, ◌+◌, ◌≤◌, ◌==◌, Bool, true, false, [], inl, inr, refl, arith}
use Rattle.std.specs.Prelude.{if◌then◌else◌, IfSome}
use Rattle.std.proofs.lemmas.List.Elements.{All-cons, All-nil}
use Rattle.st_model.specs.declared.branch.Branch.{Branch}
use Rattle.st_model.specs.Arborescence.{IsTree}
use Rattle.st_model.specs.Branch.{ReachesAsTold}
use Rattle.st_model.specs.Network.{Network}
use Rattle.cut_packing.specs.declared.packing.Packing.{Packing}
use Rattle.branching.specs.Node.{IsNode}
use Rattle.search_core.specs.declared.gathered.Segment.{Segment}
use Rattle.search_core.specs.Complete.{IsComplete, IsFinished, IsRightNode, IsRightSegment, root, untouched}
use Rattle.search_core.specs.State.{root_of}

pub untouched_complete : (I : Network) (R : Branch) (P : Packing) (start : ℕ) → IsNode I (root_of R P) → IsComplete (untouched R P start) I R start 0
untouched_complete I R P start node = record {
  apart = λ id. once (0 == id);
  once = λ id. refl;
  segments = All-nil (IsRightSegment I R start start []);
  waiting = All-cons (IsRightNode I R []) (root_of R P) [] (record { made = root; fits = node.fits; keeps = inl refl }) (All-nil (IsRightNode I R []));
  claimed = refl;
  allowed = omega arith;
}
  where
    once : (b : Bool) → (if b then 1 else 0) + 0 ≤ 1
    once true = omega arith
    once false = omega arith

pub untouched_finished : (I : Network) (R : Branch) (P : Packing) (start : ℕ) → IsFinished (untouched R P start) I R start 0
untouched_finished I R P start = record {
  trees = All-nil (λ (s : Segment). IfSome s.best (λ t. IsTree I t × ReachesAsTold R t));
  least = refl;
  spent = inr refl;
}
