use Rattle.log_format.proofs.Accepting.{accepted_holds_lem}
use Rattle.log_format.proofs.law.accepted_holds.Goals as goal

pub returns : goal.returns
returns c = accepted_holds_lem
