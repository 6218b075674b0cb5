use Rattle.std.proofs.Common.{rules, ap, sym, ◌∙◌, None, Some, option_map}
use Rattle.std.proofs.lemmas.List.{get_or_default}
use Rattle.short_paths.specs.declared.settled.Settled.{Settled}
use Rattle.short_paths.specs.Marks.{places_of}
use Rattle.short_paths.specs.Routes.{Route}
use Rattle.short_paths.proofs.MarkLists.{place_read, length-places_of}
use Rattle.short_paths.proofs.Endings.{vertex_place, route_told}
use Rattle.short_paths.proofs.distances.Distances.at.Goals as goal

pub index-requires : goal.index-requires
index-requires c =
    let range = rw (← c.self.view_is) at c.requires in
    let inside = vertex_place c.self.inside.settled.items (places_of c.self.inside.marks.items) c.args.vertex range in
    let long = length-places_of c.self.inside.marks.items in
    search rules

pub index-requires-2 : goal.index-requires-2
index-requires-2 c =
    let range = rw (← c.self.view_is) at c.requires in
    let inside = vertex_place c.self.inside.settled.items (places_of c.self.inside.marks.items) c.args.vertex range in
    let read = place_read c.self.inside.marks.items c.args.vertex c.index.result.now c.place.result inside c.index.ensures c.place.ensures ∙ c.in_ok-place.was in
    let within = c.self.invariant.within c.args.vertex c.in_ok-place.place read in
    search rules

pub returns-in_err-place : goal.returns-in_err-place
returns-in_err-place c =
    let range = rw (← c.self.view_is) at c.requires in
    rw (← c.self.view_is) (c.from_residual.ensures ∙ sym (ap (option_map (λ (r : Route). r.cost)) (route_told c.self.inside.settled.items c.self.inside.marks.items c.args.vertex c.index.result.now c.place.result None range c.index.ensures c.place.ensures c.in_err-place.was)))

pub returns : goal.returns
returns c =
    let none : Settled = record { cost = 0; vertex = 0; before = 0 } in
    let range = rw (← c.self.view_is) at c.requires in
    let inside = vertex_place c.self.inside.settled.items (places_of c.self.inside.marks.items) c.args.vertex range in
    let read = place_read c.self.inside.marks.items c.args.vertex c.index.result.now c.place.result inside c.index.ensures c.place.ensures ∙ c.in_ok-place.was in
    let within = c.self.invariant.within c.args.vertex c.in_ok-place.place read in
    let settled = c.index-2.ensures ∙ get_or_default c.self.inside.settled.items c.in_ok-place.place c.index-2.result.now none within in
    rw (← c.self.view_is) (ap (λ (s : Settled). Some s.cost) settled ∙ sym (ap (option_map (λ (r : Route). r.cost)) (route_told c.self.inside.settled.items c.self.inside.marks.items c.args.vertex c.index.result.now c.place.result (Some c.in_ok-place.place) range c.index.ensures c.place.ensures c.in_ok-place.was)))
