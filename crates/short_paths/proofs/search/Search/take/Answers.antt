use Rattle.std.proofs.Common.{arith, ap, sym, ◌∙◌, is_some}
use Rattle.graph_store.proofs.PutLinks.{on_ok_then}
use Rattle.short_paths.proofs.MarkLists.{place_at, length-places_of}
use Rattle.short_paths.proofs.Settling.{takes_nothing, takes_one, none_where}
use Rattle.short_paths.proofs.search.Search.take.Goals as goal

pub returns-then-is_some : goal.returns-then-is_some
returns-then-is_some c =
    let offer = c.args.offer in
    let marks = c.args.self.now.marks.items in
    let place = place_at marks offer.to c.index.result.now (let long = c.requires.marks in let high = c.requires.to.1 in omega arith) c.index.ensures in
    takes_nothing c.args.store.now.network.links c.args.store.now.network.n c.args.limit c.args.self.now offer.cost offer.to offer.from (ap is_some (place ∙ sym c.place.ensures) ∙ sym c.if-is_some.ensures)

pub returns : goal.returns
returns c =
    let offer = c.args.offer in
    let marks = c.args.self.now.marks.items in
    let place = place_at marks offer.to c.index.result.now (let long = c.requires.marks in let high = c.requires.to.1 in omega arith) c.index.ensures in
    on_ok_then c.relax.result _ _ c.relax.ensures (takes_one c.args.store.now.network.links c.args.store.now.network.n c.args.limit c.args.self.now c.settle.new.self c.relax.new.self offer.cost offer.to offer.from c.requires.few (let long = c.requires.marks in let high = c.requires.to.1 in let same = length-places_of marks in omega arith) (place ∙ sym c.place.ensures ∙ none_where c.place.result (sym c.if-is_some.ensures)) c.in_ok-settle.ensures.ok c.settle.ensures.queue)
