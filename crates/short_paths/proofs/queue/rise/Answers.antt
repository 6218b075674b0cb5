use Rattle.std.proofs.Common.{arith}
use Rattle.std.proofs.lemmas.List.Sorted.{IsPermutation-trans}
use Rattle.short_paths.proofs.Heaps.{rise_step}
use Rattle.short_paths.proofs.queue.rise.Goals as goal

pub loop-above-preserved : goal.loop-above-preserved
loop-above-preserved c = record {
  within = (let low = c.in-Some.ensures.dearer.0.0 in let before = c.loop-above.invariant.within in let long = c.swap.ensures.len in omega arith);
  order = rise_step c.loop-above.offers c.swap.new.self c.in-Some.above c.loop-above.place c.in-Some.ensures.dearer.0 c.loop-above.invariant.within c.in-Some.ensures.dearer.1 c.swap.ensures.after c.loop-above.invariant.order;
  moved = IsPermutation-trans c.args.offers.now c.loop-above.offers c.swap.new.self c.loop-above.invariant.moved c.swap.ensures.permutation;
}
