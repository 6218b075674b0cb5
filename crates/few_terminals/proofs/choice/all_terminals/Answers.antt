use Rattle.std.proofs.Common.{arith, sym, subst, List, ℕ}
use Rattle.st_model.specs.Network.{IsVertex}
use Rattle.few_terminals.specs.Terminals.{AreTerminalsBelow}
use Rattle.few_terminals.proofs.Counting.{terminals_none, terminals_push, terminals_skip}
use Rattle.few_terminals.proofs.choice.all_terminals.Goals.{then-is_terminal+in_ok-push, else-is_terminal}
use Rattle.few_terminals.proofs.choice.all_terminals.Goals as goal

pub loop-vertex-init : goal.loop-vertex-init
loop-vertex-init c = subst (λ (xs : List ℕ). AreTerminalsBelow c.args.instance.now xs 1) (sym c.new-list.ensures.items) (terminals_none c.args.instance.now)

pub loop-vertex-preserved : goal.loop-vertex-preserved
loop-vertex-preserved c =
    let I = c.args.instance.now in
    let v = c.loop-vertex.vertex in
    let count = c.vertices-vertex-end.ensures.count in
    let low = c.loop-vertex.auto.vertex in
    let high = c.loop-vertex-test.true in
    let range : IsVertex I.n v = (low, omega (arith, high, count)) in
    elim c.if-is_terminal.branch [
      | then-is_terminal+in_ok-push w ↦ rw (w.list-is, w.in_ok-push.ensures.items) (terminals_push I c.loop-vertex.list.items v range (sym w.if-is_terminal.ensures) c.loop-vertex.invariant)
      | else-is_terminal w ↦ rw w.list-is (terminals_skip I c.loop-vertex.list.items v range (sym w.if-is_terminal.ensures) c.loop-vertex.invariant)
    ]
