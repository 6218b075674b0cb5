use Rattle.std.proofs.Common.{◌≡◌, ◌+◌, ◌^◌, ◌<◌, ℕ, Some, refl}
use Rattle.std.specs.Prelude.{unwrap_or, IsSome, IsTrue}
use Rattle.std.proofs.lemmas.List.Elements.{All-contains}
use Rattle.bidirected_form.specs.Digraph.{remaining}
use Rattle.bidirected_form.specs.Entering.{enters}
use Rattle.checks_digraph.proofs.bidirected_form_tests.give_back.Goals as goal

pub give_back-requires-clause-room : goal.give_back-requires-clause-room
give_back-requires-clause-room c u v r enters_set left =
    let D = c.args.arcs.now in
    let left_old : remaining D u v ≡ Some r = rw c.in_ok-entering.ensures.same at left in
    let enters_old : IsTrue (enters c.args.set.now u v) = enters_set in
    let some : IsSome (remaining D u v) = rw left_old refl in
    let there = (c.in_ok-entering.ensures.arcs u v).1 (some, enters_old) in
    let all = c.all_take.ensures.0 c.if-all_take.true in
    let takes = rw (c.deref.ensures.value, c.in_ok-entering.ensures.same) at all in
    let fits : unwrap_or (remaining D u v) 0 + c.args.y < 2 ^ 64 = All-contains (λ (arc : ℕ × ℕ). unwrap_or (remaining D arc.0 arc.1) 0 + c.args.y < 2 ^ 64) _ (u, v) takes there in
    rw left_old at fits
