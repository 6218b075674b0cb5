use Rattle.std.proofs.Common.{◌<◌, false, length, sym, ap, ◌∙◌, arith}
use Rattle.std.proofs.lemmas.List.{get_or_read}
use Rattle.st_model.proofs.Marked.{IsMarked-insert}
use Rattle.st_model.proofs.vertex_set.VertexSet.insert.Goals as goal

pub invariant_of-self-then-not-index : goal.invariant_of-self-then-not-index
invariant_of-self-then-not-index c =
    let room : c.args.vertex < length c.self.inside.marks.items = omega (arith, ap (λ s. s.count) c.self.view_is, c.requires) in
    let marks = c.self.inside.marks.items in
    rw c.in_ok-push.ensures.items (IsMarked-insert _ _ c.args.vertex c.self.invariant room (sym (get_or_read marks _ _ room c.index.ensures false) ∙ c.if-not-index.true))
