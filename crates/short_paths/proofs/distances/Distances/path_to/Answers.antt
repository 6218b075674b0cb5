use Rattle.std.proofs.Common.{[], get_or, ap, sym, ◌∙◌, None, Some, option_map}
use Rattle.short_paths.specs.Marks.{places_of}
use Rattle.short_paths.specs.Routes.{Route}
use Rattle.short_paths.specs.Searching.{paths_of}
use Rattle.short_paths.proofs.MarkLists.{place_read}
use Rattle.short_paths.proofs.Endings.{vertex_place, route_told}
use Rattle.short_paths.proofs.distances.Distances.path_to.Goals as goal

pub path_back-requires : goal.path_back-requires
path_back-requires c =
    let range = rw (← c.self.view_is) at c.requires in
    let inside = vertex_place c.self.inside.settled.items (places_of c.self.inside.marks.items) c.args.vertex range in
    let read = place_read c.self.inside.marks.items c.args.vertex c.index.result.now c.place.result inside c.index.ensures c.place.ensures ∙ c.in-Some.is in
    let within = c.self.invariant.within c.args.vertex c.in-Some.place read in
    rw c.deref.ensures.value within

pub returns-in_ok-path_back-in-Some : goal.returns-in_ok-path_back-in-Some
returns-in_ok-path_back-in-Some c =
    let range = rw (← c.self.view_is) at c.requires in
    rw (← c.self.view_is) (ap Some (c.in_ok-path_back-in-Some.ensures ∙ ap (λ ss. get_or (paths_of ss) c.in-Some.place []) c.deref.ensures.value) ∙ sym (ap (option_map (λ (r : Route). r.path)) (route_told c.self.inside.settled.items c.self.inside.marks.items c.args.vertex c.index.result.now c.place.result (Some c.in-Some.place) range c.index.ensures c.place.ensures c.in-Some.is)))

pub returns-in-None : goal.returns-in-None
returns-in-None c =
    let range = rw (← c.self.view_is) at c.requires in
    rw (← c.self.view_is) (sym (ap (option_map (λ (r : Route). r.path)) (route_told c.self.inside.settled.items c.self.inside.marks.items c.args.vertex c.index.result.now c.place.result None range c.index.ensures c.place.ensures c.in-None.is)))
