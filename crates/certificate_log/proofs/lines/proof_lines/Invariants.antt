use Rattle.std.proofs.Common.{◌-◌, length}
use Rattle.cut_packing.specs.ProofTree.{ProofTree}
use Rattle.search_core.specs.Complete.{standing_ids}
use Rattle.search_core.specs.ReadOff.{IsReadOff}
use Rattle.certificate_log.proofs.Walking.{IsWalked}
use Rattle.certificate_log.proofs.lines.proof_lines.Given as goal

-- some lines of each tree that is read off are written, and the others are those of the ids that are left
abbrev pub invariant-loop-id : goal.invariant-loop-id
invariant-loop-id l = (p : ProofTree) → IsReadOff l.gathered 0 p → IsWalked l.gathered p l.lines.items l.ids.items

abbrev pub decreases-loop-id : goal.decreases-loop-id
decreases-loop-id l = length (standing_ids l.gathered) - length l.lines.items
