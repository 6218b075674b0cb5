use Rattle.std.proofs.Common.{refl, ◌∙◌, sym, arith}
use Rattle.graph_store.specs.Joined.{halves_at, place_of, links_of}
use Rattle.graph_store.proofs.Halves.{AreHalves-same}
use Rattle.graph_store.proofs.ListLemmas.{halves_at-read}
use Rattle.graph_store.proofs.Reading.{are_neighbours}
use Rattle.graph_store.proofs.links.Links.halves.Goals as goal

pub returns : goal.returns
returns c =
    let inside = c.self.inside in
    let in_range = rw (← c.self.view_is) at c.requires.vertex in
    let ends = rw (← c.self.view_is) at c.requires.ends in
    let read = halves_at-read inside.lists.items c.args.vertex c.index.result.now (let long = c.self.invariant.long in omega (arith, in_range.1)) c.index.ensures in
    let list = c.deref.ensures.value ∙ sym read in
    rw (← c.self.view_is) (λ needs. are_neighbours (record { n = inside.vertices; links = links_of inside.joints.entries; needs = needs }) inside.joints.entries c.args.vertex c.deref.result.now refl c.self.invariant.pairs ends
    (AreHalves-same (halves_at inside.lists.items c.args.vertex) c.deref.result.now (place_of inside.joints.entries c.args.vertex) (place_of inside.joints.entries c.args.vertex) list (λ w. refl) (c.self.invariant.halves c.args.vertex)))
