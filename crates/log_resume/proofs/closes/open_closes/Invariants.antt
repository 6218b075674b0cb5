use Rattle.std.proofs.Common.{◌≡◌, ◌++◌, length}
use Rattle.std.specs.Prelude.{All, filter}
use Rattle.branching.specs.Node.{IsNode}
use Rattle.log_format.specs.Text.{IsWritablePacking}
use Rattle.log_resume.specs.Closes.{is_light}
use Rattle.log_resume.proofs.closes.open_closes.Given as goal

-- those found so far and those to come are the light ones of all
abbrev pub invariant-loop-nodes : goal.invariant-loop-nodes
invariant-loop-nodes l = record {
  same : l.closes.instance ≡ l.fn.closes.instance;
  found : l.nodes.items ++ filter (is_light l.fn.closes.instance l.least) l.closes.nodes ≡ filter (is_light l.fn.closes.instance l.least) l.fn.closes.nodes;
  nodes : All (IsNode l.fn.closes.instance) l.nodes.items;
  writable : All (λ N. IsWritablePacking N.packing) l.nodes.items;
}

abbrev pub decreases-loop-nodes : goal.decreases-loop-nodes
decreases-loop-nodes l = length l.closes.nodes
