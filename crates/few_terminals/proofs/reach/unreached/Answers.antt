use Rattle.std.proofs.Common.{ℕ, subst, arith}
use Rattle.std.specs.Prelude.{IsTrue}
use Rattle.st_model.specs.Lists.{has}
use Rattle.st_model.proofs.Marked.{place_of}
use Rattle.few_terminals.proofs.reach.unreached.Goals as goal

pub returns-clause-none : goal.returns-clause-none
returns-clause-none c v there =
    let place = place_of c.args.vertices.now v there in
    let low = place.1 in
    let past = c.loop-vertex-test.false in
    subst (λ (x : ℕ). IsTrue (has c.args.reached.now.members x)) place.2 (c.loop-vertex.invariant place.0 (omega (arith, low, past)))
