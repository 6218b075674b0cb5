use Rattle.std.proofs.Common.{◌<◌, length, length-drop, ap, arith}
use Rattle.st_edge.proofs.Taken.{rest_of, takes_on, rest-not_nil}
use Rattle.st_edge.proofs.sink.send_all.Goals as goal

pub loop-sent-preserved : goal.loop-sent-preserved
loop-sent-preserved g c =
    let bytes = c.args.bytes.now in
    let sent = c.loop-sent.sent in
    let count = c.in_ok-sent.field-0 in
    let so_far = c.loop-sent.invariant in
    let write = c.in_ok-sent.ensures in
    let rest = rest_of bytes sent in
    let some : 0 < count = write.least (rest-not_nil bytes _ sent rest c.loop-sent-test.true) in
    record {
      within = omega (arith, length-drop sent bytes, ap length rest, write.most);
      taken = takes_on _ _ _ bytes _ sent count rest so_far.taken write.taken;
      faults_later = omega (arith, so_far.faults_later, write.cause.later);
      writes_later = omega (arith, so_far.writes_later, write.writes_later);
      one_write_per_byte = omega (arith, so_far.one_write_per_byte, write.one_write);
    }
