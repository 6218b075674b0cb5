use Rattle.std.proofs.Common.{◌≡◌, drop, take}
use Rattle.cut_packing.specs.ProofTree.{ProofTree}
use Rattle.log_format.specs.Preorder.{preorder}
use Rattle.cert_checker.specs.Path.{leaving_out}
use Rattle.log_resume.specs.Growing.{growth}
use Rattle.log_resume.proofs.Grown.{IsGrowingOf}
use Rattle.log_resume.proofs.growing.grown.Given as goal

abbrev pub invariant-loop-place : goal.invariant-loop-place
invariant-loop-place l = record {
  front : l.growing.written.front ≡ take l.place l.lines;
  grows : (p : ProofTree) → l.lines ≡ preorder p → IsGrowingOf l.reduced.state.instance l.searches (leaving_out l.reduced.state.gone) l.top (preorder p) (growth l.growing) (drop l.place l.lines);
}
