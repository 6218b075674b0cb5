use Rattle.std.proofs.Common.{refl}
use Rattle.log_format.specs.Places.{said}
use Rattle.log_format.proofs.said.said.Goals as goal

pub returns-in-BeforeHeader : goal.returns-in-BeforeHeader
unfolding said
returns-in-BeforeHeader c = rw (c.in-BeforeHeader.is, ← c.header.ensures) c.said_if.ensures

pub returns-in-BeforeEnd : goal.returns-in-BeforeEnd
unfolding said
returns-in-BeforeEnd c = rw c.in-BeforeEnd.is c.said_if-in-BeforeEnd.ensures

pub returns-in-AfterEnd : goal.returns-in-AfterEnd
unfolding said
returns-in-AfterEnd c = rw c.in-AfterEnd.is refl
