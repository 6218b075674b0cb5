use Rattle.std.proofs.Common.{length, ap, length-append, arith}
use Rattle.checks_certificates.proofs.cert_checker_tests.pieces.fed_two.Goals as goal

pub feed-requires : goal.feed-requires
feed-requires c = record { few = omega (arith, c.requires.few, c.requires.inside, c.split_at.ensures.front_len) }

pub feed-requires-2 : goal.feed-requires-2
feed-requires-2 c = record { few = omega (arith, c.requires.few, c.requires.inside, ap length c.in_ok-checker.ensures.text, length-append c.args.checker.text c.split_at.result.0.now, c.split_at.ensures.front_len, c.split_at.ensures.back_len) }
