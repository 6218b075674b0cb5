use Rattle.std.proofs.Common.{arith}
use Rattle.arborescence.proofs.Ascended.{rooted_fits}
use Rattle.arborescence.proofs.ascending.begun.Goals as goal

pub returns-clause-raising : goal.returns-clause-raising
returns-clause-raising c = record {
  loaded = rw c.into_vec.ensures (rw c.as_slice.ensures at c.in_ok-arcs.ensures);
  fits = rw c.into_vec.ensures (rooted_fits c.args.instance.now c.args.branch.now c.args.packing c.vertices.ensures.instance c.requires);
  count = omega (arith, c.in_ok-set.ensures.count, c.vertices.ensures.count);
}
