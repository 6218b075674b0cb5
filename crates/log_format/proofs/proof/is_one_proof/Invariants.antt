use Rattle.std.proofs.Common.{◌≡◌, ◌+◌, ◌≤◌, drop}
use Rattle.log_format.specs.Preorder.{are_proofs}
use Rattle.log_format.proofs.proof.is_one_proof.Given as goal

abbrev pub invariant-loop-line : goal.invariant-loop-line
invariant-loop-line l = record {
  few : l.open ≤ l.line-index + 1;
  rest_decides : are_proofs l.open (drop l.line-index l.lines) ≡ are_proofs 1 l.lines;
}
