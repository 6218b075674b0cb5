use Rattle.std.proofs.Common.{◌≡◌, ◌^◌, ◌<◌, ◌≤◌, ◌+◌, ℕ, List, [], ◌∷◌, length, arith, sym, ap, subst, ◌∙◌}
use Rattle.std.specs.Prelude.{All, Contains, IsPermutation}
use Rattle.std.proofs.lemmas.List.Elements.{All-weaker}
use Rattle.std.specs.BinaryHeap.{heap_items}
use Rattle.st_model.specs.Network.{IsVertex}
use Rattle.few_terminals.specs.declared.mark.Mark.{Mark}
use Rattle.few_terminals.specs.Entries.{meanings}
use Rattle.few_terminals.specs.Filling.{mark_at, Falls, IsFilling, IsBegun, IsJoinedBelow, offer_of}
use Rattle.few_terminals.proofs.Marking.{Offer, goes_on_same, goes_on_then, filling_moved}
use Rattle.few_terminals.proofs.Finishing.{filling_begun, row_is}
use Rattle.few_terminals.proofs.table.fill_row.Goals as goal

pub loop-cost-init : goal.loop-cost-init
loop-cost-init c =
    let I = c.args.store.now.network in
    let ks = c.args.terminals.now in
    let es = meanings I ks c.args.entries.now.items in
    let marks = c.in_ok-marks.marks.items in
    let f = c.in_ok-filling.filling in
    let waiting = heap_items c.in_ok-filling.filling.queue in
    let joined = c.in_ok-marks.ensures I es (sym c.vertices.ensures.count) c.requires.rows in
    let begun : IsBegun I ks es c.args.bits f.marks.items = subst (IsBegun I ks es c.args.bits) (sym c.in_ok-filling.ensures.marks) joined.begun in
    let offered : (v : ℕ) → IsVertex I.n v → (mark_at f.marks.items v).cost < 2 ^ 63 → Contains waiting (offer_of (mark_at f.marks.items v).cost v) =
    subst (λ (ms : List Mark). (v : ℕ) → IsVertex I.n v → (mark_at ms v).cost < 2 ^ 63 → Contains waiting (offer_of (mark_at ms v).cost v)) (sym c.in_ok-filling.ensures.marks)
    (subst (λ (n : ℕ). (v : ℕ) → IsVertex n v → (mark_at marks v).cost < 2 ^ 63 → Contains waiting (offer_of (mark_at marks v).cost v)) c.vertices-2.ensures.count c.in_ok-filling.ensures.offered) in
    let queued : All (λ (offer : Offer). IsVertex I.n offer.0.1 × (offer.0.0 < 2 ^ 63)) waiting = subst (λ (n : ℕ). All (λ (offer : Offer). IsVertex n offer.0.1 × (offer.0.0 < 2 ^ 63)) waiting) c.vertices-2.ensures.count c.in_ok-filling.ensures.queued in
    record {
      parts = c.requires.parts;
      goes_on = goes_on_same es;
      filling = filling_begun I ks es c.args.bits f.marks.items waiting begun offered queued;
      falls = λ v. omega arith;
    }

pub take-requires-clause-vertex : goal.take-requires-clause-vertex
take-requires-clause-vertex c =
    let I = c.args.store.now.network in
    let moved : IsPermutation (heap_items c.loop-cost.filling.queue) (offer_of c.in-Some.cost c.in-Some.vertex ∷ heap_items c.next.new.self.queue) = c.in-Some.ensures.moved in
    let filled = filling_moved I c.args.terminals.now (meanings I c.args.terminals.now c.loop-cost.entries.items) c.args.bits c.loop-cost.filling.marks.items (heap_items c.loop-cost.filling.queue) (offer_of c.in-Some.cost c.in-Some.vertex ∷ heap_items c.next.new.self.queue) moved c.loop-cost.invariant.filling in
    (filled.queued 0 (offer_of c.in-Some.cost c.in-Some.vertex) (omega arith)).0

pub loop-cost-preserved : goal.loop-cost-preserved
loop-cost-preserved c =
    let I = c.args.store.now.network in
    let ks = c.args.terminals.now in
    let es = meanings I ks c.loop-cost.entries.items in
    let new_es = meanings I ks c.take.new.entries.items in
    let before = c.loop-cost.invariant in
    let next = c.next.new.self in
    let new = c.take.new.self in
    let waiting : List Offer = offer_of c.in-Some.cost c.in-Some.vertex ∷ heap_items c.next.new.self.queue in
    let moved : IsPermutation (heap_items c.loop-cost.filling.queue) (offer_of c.in-Some.cost c.in-Some.vertex ∷ heap_items c.next.new.self.queue) = c.in-Some.ensures.moved in
    let filled = filling_moved I ks es c.args.bits c.loop-cost.filling.marks.items (heap_items c.loop-cost.filling.queue) waiting moved before.filling in
    let ready : IsFilling I ks es c.args.bits next.marks.items waiting = subst (λ (ms : List Mark). IsFilling I ks es c.args.bits ms waiting) (sym c.next.ensures.marks) filled in
    let takes = c.in_ok-take.ensures.takes in
    let kept = takes.keeps ks c.args.bits before.parts ready in
    record {
      parts = kept.parts;
      goes_on = goes_on_then (meanings I ks c.args.entries.now.items) es new_es before.goes_on kept.goes_on;
      filling = kept.filling;
      falls = λ v.
          let one : (mark_at new.marks.items v).cost ≤ (mark_at next.marks.items v).cost = takes.falls v in
          let same : (mark_at next.marks.items v).cost ≡ (mark_at c.loop-cost.filling.marks.items v).cost = ap (λ (ms : List Mark). (mark_at ms v).cost) c.next.ensures.marks in
          let other : (mark_at c.loop-cost.filling.marks.items v).cost ≤ (mark_at c.in_ok-filling.filling.marks.items v).cost = before.falls v in
          omega (arith, one, same, other);
    }

pub returns-clause-row : goal.returns-clause-row
returns-clause-row c =
    let I = c.args.store.now.network in
    let ks = c.args.terminals.now in
    let es = meanings I ks c.loop-cost.entries.items in
    let old_es = meanings I ks c.args.entries.now.items in
    let before = c.loop-cost.invariant in
    let marks = c.next.new.self.marks.items in
    let instance = c.vertices.ensures.graph.instance in
    let first = c.in_ok-filling.filling.marks.items in
    let joined : IsJoinedBelow I ks old_es c.args.reached.now c.args.rows.now c.args.bits c.args.bits first = subst (IsJoinedBelow I ks old_es c.args.reached.now c.args.rows.now c.args.bits c.args.bits) (sym c.in_ok-filling.ensures.marks) (c.in_ok-marks.ensures I old_es (sym c.vertices.ensures.count) c.requires.rows) in
    let falls : Falls first marks = subst (Falls first) (sym c.next.ensures.marks) before.falls in
    let filling : IsFilling I ks es c.args.bits marks [] = subst (λ (ms : List Mark). IsFilling I ks es c.args.bits ms []) (sym c.next.ensures.marks) (subst (λ (q : List Offer). IsFilling I ks es c.args.bits c.loop-cost.filling.marks.items q) c.in_default.ensures.none before.filling) in
    row_is I ks es c.args.reached.now c.args.rows.now c.args.bits first old_es marks instance c.requires.reach c.requires.rows c.requires.place joined falls filling c.in_ok-row.row.costs.items c.in_ok-row.row.places.items c.in_ok-row.ensures.costs c.in_ok-row.ensures.places

pub joined-requires-clause-range : goal.joined-requires-clause-range
joined-requires-clause-range c =
    let count = c.vertices.ensures.count in
    All-weaker (IsVertex c.args.store.now.network.n) (λ v. v < c.vertices.result + 1) (λ v range. let high = range.1 in omega (arith, high, count)) c.args.reached.now c.requires.reach.vertices

pub row-requires : goal.row-requires
row-requires c =
    let I = c.args.store.now.network in
    let marks = c.next.new.self.marks.items in
    let long : length marks ≡ I.n + 1 = ap length c.next.ensures.marks ∙ c.loop-cost.invariant.filling.long in
    All-weaker (IsVertex I.n) (λ v. v < length marks) (λ v range. let high = range.1 in omega (arith, high, long)) c.args.reached.now c.requires.reach.vertices
