-- What a proof tree proves its graft proves, and the closes of the graft weigh no less.
use Rattle.std.proofs.Common.{ℕ, ◌≤◌, ◌+◌, List, min, arith}
use Rattle.st_model.specs.declared.branch.Branch.{Branch}
use Rattle.st_model.specs.Network.{Network}
use Rattle.st_model.specs.Branch.{yes_half, no_half}
use Rattle.cut_packing.specs.declared.packing.Packing.{Packing}
use Rattle.cut_packing.specs.Packing.{weight}
use Rattle.cut_packing.specs.ProofTree.{ProofTree, Proves, close}
use Rattle.search_core.specs.declared.gathered.Searched.{Searched}
use Rattle.search_core.specs.ReadOff.{least_weight}
use Rattle.search_core.proofs.Reading.{proves-lower}
use Rattle.log_resume.specs.Closes.{close_count}
use Rattle.log_resume.specs.Grafted.{StandsFor, at_close, at_split, grown, stays}
use Rattle.log_resume.specs.Laws.{GraftedProves, GraftedWeighs}

at_most : (a b c : ℕ) → a ≤ b → b ≤ c → a ≤ c
at_most a b c h k = omega arith

both_mins : (a b c d : ℕ) → a ≤ c → b ≤ d → min a b ≤ min c d
both_mins a b c d h k = omega arith

-- what stands for a close proves what the close does
stands_proves : (I : Network) (searches : List Searched) (number : ℕ) (B : Branch) (P : Packing) (q : ProofTree) (x : ℕ) → StandsFor I searches number B P q → Proves I B x (close P) → Proves I B x q
stands_proves I searches number B P q x (grown there same least heavy) proves = proves-lower I B x (least_weight I B q) q (at_most x (weight I B P) (least_weight I B q) proves.weighs heavy) least.proves
stands_proves I searches number B P q x (stays lighter) proves = proves

-- and it weighs no less
stands_weighs : (I : Network) (searches : List Searched) (number : ℕ) (B : Branch) (P : Packing) (q : ProofTree) → StandsFor I searches number B P q → weight I B P ≤ least_weight I B q
stands_weighs I searches number B P q (grown there same least heavy) = heavy
stands_weighs I searches number B P q (stays lighter) = omega arith

pub proves_lem : GraftedProves
proves_lem I searches number B p q x (at_close {P} stands) proves = stands_proves I searches number B P q x stands proves
proves_lem I searches number B p q x (at_split {at} {p = p1} {q = p2} {p' = q1} {q' = q2} first second) proves =
    (proves.0, proves_lem I searches number (yes_half B at) p1 q1 x first proves.1, proves_lem I searches (number + close_count p1) (no_half B at) p2 q2 x second proves.2)

pub weighs_lem : GraftedWeighs
weighs_lem I searches number B p q (at_close {P} stands) = stands_weighs I searches number B P q stands
weighs_lem I searches number B p q (at_split {at} {p = p1} {q = p2} {p' = q1} {q' = q2} first second) =
    both_mins _ _ _ _ (weighs_lem I searches number (yes_half B at) p1 q1 first) (weighs_lem I searches (number + close_count p1) (no_half B at) p2 q2 second)
