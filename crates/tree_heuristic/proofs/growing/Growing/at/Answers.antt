use Rattle.std.proofs.Common.{◌+◌, ap, length, ◌∙◌, true, false}
use Rattle.std.proofs.lemmas.List.{length-replicate}
use Rattle.std.specs.BinaryHeap.{heap_items}
use Rattle.tree_heuristic.proofs.Waiting.{all_from, first_queued, long_set}
use Rattle.tree_heuristic.proofs.growing.Growing.at.Goals as goal

pub returns : goal.returns
returns c = record {
  best_long = long_set c.in_ok-best.best.items (c.args.vertices + 1) c.args.start 18446744073709551615 0 (c.in_ok-best.ensures.items_if_clones_equal (λ y same. same));
  from_long = ap length (c.in_ok-vec.ensures.items_if_clones_equal (λ y same. same)) ∙ length-replicate (c.args.vertices + 1) c.args.start;
  joined_long = long_set c.in_ok-joined.joined.items (c.args.vertices + 1) c.args.start false true (c.in_ok-joined.ensures.items_if_clones_equal (λ y same. same));
  come_from = all_from c.args.vertices c.args.start (c.args.vertices + 1) c.in_ok-vec.field-0.items (c.in_ok-vec.ensures.items_if_clones_equal (λ y same. same)) c.requires;
  queued = first_queued c.args.vertices (heap_items c.new-queue.result) (heap_items c.push.new.self) (record { 0 = (0, c.args.start) }) c.new-queue.ensures.items c.in_ok-push.ensures.permutation c.requires;
}
