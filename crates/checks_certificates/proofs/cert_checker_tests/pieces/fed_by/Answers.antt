use Rattle.std.proofs.Common.{arith}
use Rattle.cert_checker.proofs.Pieces.{room_left}
use Rattle.checks_certificates.proofs.cert_checker_tests.pieces.fed_by.Goals as goal

pub feed-requires : goal.feed-requires
feed-requires c = record { few = omega (arith, room_left c.loop-rest.checker.text c.loop-rest.rest.now c.args.checker.text c.args.text.now c.loop-rest.invariant c.requires.few, c.split_at.ensures.front_len, c.loop-rest-test.true) }

pub feed-requires-2 : goal.feed-requires-2
feed-requires-2 c = record { few = room_left c.loop-rest.checker.text c.loop-rest.rest.now c.args.checker.text c.args.text.now c.loop-rest.invariant c.requires.few }
