use Rattle.std.proofs.Common.{◌≡◌, ◌≤◌, None, length}
use Rattle.std.specs.Prelude.{Contains, IfNone, IfSome}
use Rattle.branching.specs.declared.node.Node.{Node}
use Rattle.resuming.specs.GoingOn.{IsKnown}
use Rattle.resuming.proofs.Going.{GoesOnFrom}
use Rattle.resuming.proofs.going_on.go_on.Given as goal

abbrev pub invariant-loop-known : goal.invariant-loop-known
invariant-loop-known g l = record {
  same : l.closes.instance ≡ l.whole.instance;
  goes : GoesOnFrom l.whole.instance l.fn.closes.nodes l.fn.known.least l.fn.limits.budget l.searches.items l.closes.nodes l.known.least l.budget;
  among : (N : Node) → Contains l.closes.nodes N → Contains l.fn.closes.nodes N;
  below : l.known.least ≤ l.fn.known.least;
  tree : IfSome l.known.tree (IsKnown l.whole.instance l.fn.known.tree l.fn.closes.nodes l.known.least);
  none : IfNone l.known.tree ((l.known.least ≡ l.fn.known.least) × (l.fn.known.tree ≡ None));
}

abbrev pub decreases-loop-known : goal.decreases-loop-known
decreases-loop-known g l = length l.closes.nodes
