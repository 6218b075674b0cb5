use Rattle.std.proofs.Common.{◌≡◌, ◌≤◌, ℕ, Some, refl}
use Rattle.std.specs.Prelude.{unwrap_or, IsSome, IsTrue}
use Rattle.std.proofs.lemmas.List.Elements.{All-contains}
use Rattle.bidirected_form.specs.Digraph.{remaining}
use Rattle.bidirected_form.specs.Entering.{enters}
use Rattle.checks_digraph.proofs.bidirected_form_tests.charge.Goals as goal

pub charge-requires-clause-enough : goal.charge-requires-clause-enough
charge-requires-clause-enough c u v r enters_set left =
    let D = c.args.arcs.now in
    let left_old : remaining D u v ≡ Some r = rw c.in_ok-entering.ensures.same at left in
    let enters_old : IsTrue (enters c.args.set.now u v) = enters_set in
    let some : IsSome (remaining D u v) = rw left_old refl in
    let there = (c.in_ok-entering.ensures.arcs u v).1 (some, enters_old) in
    let all = c.all_bear.ensures.0 c.if-all_bear.true in
    let least = rw (c.deref.ensures.value, c.in_ok-entering.ensures.same) at all in
    let bears : c.args.y ≤ unwrap_or (remaining D u v) 0 = All-contains (λ (arc : ℕ × ℕ). c.args.y ≤ unwrap_or (remaining D arc.0 arc.1) 0) _ (u, v) least there in
    rw left_old at bears
