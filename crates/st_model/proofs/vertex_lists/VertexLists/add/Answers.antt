use Rattle.std.proofs.Common.{◌<◌, ◌∷◌, ◌++◌, [], length}
use Rattle.std.proofs.lemmas.List.{length-map}
use Rattle.std.proofs.lemmas.Result.{err_from_is_err_and}
use Rattle.st_model.proofs.VectorLists.{lists-set, lists-set_same}
use Rattle.st_model.proofs.vertex_lists.VertexLists.add.Goals as goal

pub returns-in_err-push-clause-err : goal.returns-in_err-push-clause-err
returns-in_err-push-clause-err g c =
    let p = err_from_is_err_and c.from_residual.result c.from_residual.ensures.1 in
    let vectors = c.self.inside.lists.items in
    let below : c.args.vertex < length vectors = rw (← c.self.view_is, length-map) at c.requires in
    rw (p.1, ← c.self.view_is) (lists-set_same vectors c.args.vertex c.index_mut.result.now below c.index_mut.ensures.value c.push.new.self c.in_err-push.ensures.items)

pub returns-clause-ok : goal.returns-clause-ok
returns-clause-ok g c =
    let vectors = c.self.inside.lists.items in
    let below : c.args.vertex < length vectors = rw (← c.self.view_is, length-map) at c.requires in
    rw (← c.self.view_is) (lists-set vectors c.args.vertex c.index_mut.result.now below c.index_mut.ensures.value c.push.new.self (λ list. list ++ c.args.item ∷ []) c.in_ok-push.ensures.items)
