use Rattle.std.specs.Prelude.{IsTrue}
use Rattle.st_model.specs.Lists.{has}
use Rattle.st_model.proofs.Branches.{IsVertexSet-member}
use Rattle.tree_heuristic.proofs.Found.{certain_inside}
use Rattle.tree_heuristic.proofs.certain.missing.Goals as goal

pub returns-in-Some-clause-some : goal.returns-in-Some-clause-some
returns-in-Some-clause-some c =
    let I = c.args.store.now.network in
    let B = c.args.branch.now in
    let v = c.in-Some.vertex in
    let found = c.in-Some.ensures.some in
    let inside : IsTrue (has B.inside v) = rw (c.as_slice.ensures, c.branch-branch.ensures) at found.0 in
    (IsVertexSet-member I.n B.inside v c.requires.inside inside, certain_inside I B v inside, found.1)
