use Rattle.std.proofs.Common.{sym, ◌∙◌}
use Rattle.log_format.proofs.Finishing.{whole_is_read}
use Rattle.log_format.proofs.gathering.Gathering.finish.Goals as goal

pub returns : goal.returns
returns c = λ (log, fits, lines). c.in_default.not-AtNothing log.claim (whole_is_read c.self.inside.version c.self.inside.stage log c.self.invariant fits (lines ∙ sym c.self.view_is))
