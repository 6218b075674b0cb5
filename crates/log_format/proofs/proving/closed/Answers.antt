use Rattle.log_format.proofs.Preorders.{last_close}
use Rattle.log_format.proofs.proving.closed.Goals as goal

pub whole-proof-requires : goal.whole-proof-requires
whole-proof-requires c = rw (c.into_vec.ensures, c.in_ok-lines.ensures) (last_close c.args.proving.lines c.args.packing c.args.proving.waiting c.requires.still c.if-waiting-eq0.true)
