use Rattle.std.proofs.Common.{◌<◌, length, set, refl}
use Rattle.std.specs.Vec.{with_item}
use Rattle.std.proofs.lemmas.List.{length-map}
use Rattle.st_model.proofs.VectorLists.{lists-set}
use Rattle.st_model.proofs.vertex_lists.VertexLists.set.Goals as goal

pub returns : goal.returns
returns g c =
    let vectors = c.self.inside.lists.items in
    let old = c.index_mut.result.now in
    let below : c.args.vertex < length vectors = rw (← c.self.view_is, length-map) at c.requires.vertex in
    rw (← c.self.view_is) (lists-set vectors c.args.vertex old below c.index_mut.ensures.value (with_item old c.args.place c.args.item) (λ list. set list c.args.place c.args.item) refl)
