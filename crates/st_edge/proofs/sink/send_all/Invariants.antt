use Rattle.std.proofs.Common.{length, ◌-◌}
use Rattle.st_edge.proofs.Taken.{IsSent}
use Rattle.st_edge.proofs.sink.send_all.Given as goal

abbrev pub invariant-loop-sent : goal.invariant-loop-sent
invariant-loop-sent g l =
    let sink = g.K.Sink in
    let before = l.initial.sink in
    IsSent l.bytes l.sent (sink.taken before) (sink.taken l.sink) (sink.faults before) (sink.faults l.sink) (sink.writes before) (sink.writes l.sink)

abbrev pub decreases-loop-sent : goal.decreases-loop-sent
decreases-loop-sent g l = length l.bytes - l.sent
