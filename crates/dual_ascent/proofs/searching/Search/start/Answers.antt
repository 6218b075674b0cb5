use Rattle.std.proofs.Common.{◌+◌, ◌∙◌, ℕ, ap, replicate}
use Rattle.std.specs.BinaryHeap.{heap_items}
use Rattle.dual_ascent.proofs.Offered.{search_start}
use Rattle.dual_ascent.proofs.searching.Search.start.Goals as goal

pub returns : goal.returns
returns c =
    let made = c.in_ok-least.ensures.items_if_clones_equal (λ y same. same) ∙ ap (λ (n : ℕ). replicate (n + 1) c.args.target) c.vertices.ensures.count in
    search_start c.args.arcs.now c.args.vertex c.args.target c.in_ok-least.least.items (heap_items c.push.new.self) c.ranges.target.fits c.requires made (rw c.new-queue.ensures.items at c.in_ok-push.ensures.permutation)
