use Rattle.std.proofs.Common.{refl}
use Rattle.log_format.specs.Reading.{step}
use Rattle.log_format.proofs.stage.step.Goals as goal

pub returns-in-AtHeader : goal.returns-in-AtHeader
unfolding step
returns-in-AtHeader c = rw (c.in-AtHeader.is, ← c.header.ensures) c.stage_if.ensures

pub returns-in-AtEnd : goal.returns-in-AtEnd
unfolding step
returns-in-AtEnd c = rw c.in-AtEnd.is c.stage_if-in-AtEnd.ensures

pub returns : goal.returns
unfolding step
returns c = rw c.in-AtNothing.is refl
