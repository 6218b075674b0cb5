use Rattle.std.proofs.Common.{ap, inr, ◌∙◌, arith}
use Rattle.std.proofs.lemmas.List.{get_or_default}
use Rattle.std.specs.BinaryHeap.{heap_items}
use Rattle.dual_ascent.specs.Searching.{Offer, least_of}
use Rattle.dual_ascent.proofs.Offered.{search_without}
use Rattle.dual_ascent.proofs.searching.Search.take.Goals.{then-is_late-via-then-is_late, then-is_late-via-else-is_late+then-index-distance}
use Rattle.dual_ascent.proofs.searching.Search.take.Goals as goal

pub returns-then-is_late-clause-goes : goal.returns-then-is_late-clause-goes
returns-then-is_late-clause-goes c q target h =
    let e : Offer = record { 0 = (c.args.distance, c.args.head) } in
    elim c.then-is_late.branch [
      | then-is_late-via-then-is_late w ↦ search_without c.args.arcs.now q target e (heap_items c.args.self.now.queue) c.args.self.now.least.items (λ same. absurd (w.if-is_late.true (c.index.ensures ∙ get_or_default c.args.self.now.least.items c.args.head c.index.result.now 0 (omega (arith, c.requires.head.1, c.requires.long)) ∙ same))) h
      | then-is_late-via-else-is_late+then-index-distance w ↦
          let root = w.root.ensures in
          let at = get_or_default c.args.self.now.least.items w.root.result w.index-else-is_late.result.now 0 (omega (arith, root.root, root.digraph.root.1, c.requires.long)) in
          search_without c.args.arcs.now q target e (heap_items c.args.self.now.queue) c.args.self.now.least.items (λ same. inr (omega (arith, w.if-index-distance.true, w.index-else-is_late.ensures, at, ap (least_of c.args.self.now.least.items) root.root))) h
    ]
