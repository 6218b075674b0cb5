use Rattle.std.proofs.Common.{◌≡◌, ℕ, ◌+◌, ◌≤◌, ◌∷◌, length, take}
use Rattle.std.specs.BinaryHeap.{heap_items}
use Rattle.bidirected_form.specs.Digraph.{arcs_into}
use Rattle.dual_ascent.specs.Searching.{Offer, IsSearch, still}
use Rattle.dual_ascent.proofs.Offered.{IsFollowing}
use Rattle.dual_ascent.proofs.searching.Search.follow.Given as goal

abbrev pub invariant-loop-arc : goal.invariant-loop-arc
invariant-loop-arc l =
    let e : Offer = record { 0 = (l.distance, l.head) } in
    record {
      long : length l.self.least.items ≡ l.arcs.n + 1;
      fewer : still l.self ≤ still l.initial.self;
      following : (q target : ℕ) → IsSearch l.arcs q target (e ∷ heap_items l.initial.self.queue) l.initial.self.least.items → IsFollowing l.arcs q target e (take l.arc-index (arcs_into l.arcs l.head)) (heap_items l.self.queue) l.self.least.items;
    }
