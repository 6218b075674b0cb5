use Rattle.cert_checker.proofs.Places.{with_vertex-insert}
use Rattle.cert_checker.proofs.lists.with.Goals as goal

pub returns : goal.returns
returns c = rw (with_vertex-insert c.args.list c.args.vertex) (cc (c.in_ok-insert.ensures.items, c.place_of-place.ensures.value))
