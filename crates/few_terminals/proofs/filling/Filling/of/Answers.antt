use Rattle.std.proofs.Common.{ℕ, ◌<◌, ◌^◌, ◌≡◌, length, ap, subst, arith}
use Rattle.std.specs.Prelude.{IsPermutation, ◌∷◌}
use Rattle.std.specs.BinaryHeap.{heap_items}
use Rattle.st_model.specs.Network.{IsVertex}
use Rattle.few_terminals.specs.declared.mark.Mark.{Mark}
use Rattle.few_terminals.specs.Filling.{mark_at, offer_of}
use Rattle.few_terminals.proofs.Marking.{Offer, mark_read, offered_more, offered_skip, queued_more}
use Rattle.few_terminals.proofs.filling.Filling.of.Goals.{then-cost-lt-FAR+in_ok-push, else-cost-lt-FAR}
use Rattle.few_terminals.proofs.filling.Filling.of.Goals as goal

pub loop-vertex-preserved : goal.loop-vertex-preserved
loop-vertex-preserved c =
    let n = c.args.vertices in
    let marks = c.args.marks.items in
    let v = c.loop-vertex.vertex in
    let low = c.loop-vertex.auto.vertex in
    let high = c.loop-vertex-test.true in
    let long = c.requires.marks in
    let within : v < length marks = omega (arith, high, long) in
    let read : c.index.result.now ≡ mark_at marks v = mark_read marks v c.index.result.now within c.index.ensures in
    let cost : c.index.result.now.cost ≡ (mark_at marks v).cost = ap (λ (m : Mark). m.cost) read in
    elim c.if-cost-lt-FAR.branch [
      | then-cost-lt-FAR+in_ok-push w ↦
          let moved : IsPermutation (offer_of (mark_at marks v).cost v ∷ heap_items c.loop-vertex.queue) (heap_items w.push.new.self) = subst (λ (x : ℕ). IsPermutation (offer_of x v ∷ heap_items c.loop-vertex.queue) (heap_items w.push.new.self)) cost w.in_ok-push.ensures.permutation in
          rw w.queue-is (record {
            offered = offered_more marks v (heap_items c.loop-vertex.queue) (heap_items w.push.new.self) moved c.loop-vertex.invariant.offered;
            queued = queued_more (λ (offer : Offer). IsVertex n offer.0.1 × (offer.0.0 < 2 ^ 63)) (offer_of (mark_at marks v).cost v) (heap_items c.loop-vertex.queue) (heap_items w.push.new.self) moved ((low, omega (arith, high)), (let near = w.if-cost-lt-FAR.true in omega (arith, near, cost))) c.loop-vertex.invariant.queued;
          })
      | else-cost-lt-FAR w ↦ rw w.queue-is (record {
        offered = offered_skip marks v (heap_items c.loop-vertex.queue) (let far = w.if-cost-lt-FAR.false in omega (arith, far, cost)) c.loop-vertex.invariant.offered;
        queued = c.loop-vertex.invariant.queued;
      })
    ]
