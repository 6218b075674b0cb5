use Rattle.std.proofs.Common.{refl}
use Rattle.log_format.proofs.PlaceLaws.{after_end, end_after}
use Rattle.log_format.proofs.reader.LogReader.is_done.Goals as goal

pub returns-in-AfterEnd : goal.returns-in-AfterEnd
returns-in-AfterEnd c = (λ _. rw (← c.self.view_is) (after_end c.self.inside.past.pieces c.self.inside.version c.self.inside.place c.in-AfterEnd.is c.self.invariant), λ _. refl)

pub returns-in_default : goal.returns-in_default
returns-in_default c = (λ e. absurd cc, λ whole. absurd (c.in_default.not-AfterEnd (end_after c.self.inside.past.pieces c.self.inside.version c.self.inside.place c.self.invariant (rw c.self.view_is whole))))
