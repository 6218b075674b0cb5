use Rattle.std.proofs.Common.{ℕ, List, get_or, take, sym, subst}
use Rattle.std.proofs.lemmas.List.{take_more}
use Rattle.dual_ascent.proofs.Bordering.{IsLeastInto, least_into_more}
use Rattle.dual_ascent.proofs.border.border_of.Goals as goal

pub loop-vertex-preserved : goal.loop-vertex-preserved
loop-vertex-preserved c =
    let D = c.args.arcs.now in
    let set = c.args.set.now.members in
    let i = c.loop-vertex.vertex-index in
    let below = rw c.members-vertex-items.ensures.all at c.loop-vertex-test.true in
    let all = rw c.members-vertex-items.ensures.all at c.arcs_into.ensures.all in
    subst (λ (l : List ℕ). IsLeastInto D set l c.args.limit c.pass.new.self.least) (sym (take_more set i 0 below))
    (least_into_more D set (take i set) (get_or set i 0) c.args.limit c.loop-vertex.border.least c.pass.new.self.least (c.arcs_into.ensures.digraph.arcs (get_or set i 0)).ascending (rw all at c.pass.ensures) c.loop-vertex.invariant)
