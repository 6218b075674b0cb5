use Rattle.std.proofs.Common.{arith}
use Rattle.std.proofs.lemmas.List.Sorted.{IsPermutation-trans}
use Rattle.short_paths.proofs.Heaps.{sink_step}
use Rattle.short_paths.proofs.queue.sink.Goals as goal

pub loop-below-preserved : goal.loop-below-preserved
loop-below-preserved c = record {
  within = (let inside = c.in-Some.ensures.cheaper.1 in let long = c.swap.ensures.len in omega arith);
  order = sink_step c.loop-below.offers c.swap.new.self c.loop-below.place c.in-Some.below c.in-Some.ensures.cheaper.0 c.in-Some.ensures.cheaper.1 c.in-Some.ensures.cheaper.2 c.in-Some.ensures.cheapest c.swap.ensures.after c.loop-below.invariant.order;
  moved = IsPermutation-trans c.args.offers.now c.loop-below.offers c.swap.new.self c.loop-below.invariant.moved c.swap.ensures.permutation;
}
