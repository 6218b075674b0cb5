use Rattle.std.proofs.Common.{ℕ, length, get_or, sym, arith}
use Rattle.std.specs.Prelude.{◌==◌}
use Rattle.std.proofs.lemmas.Bool.{eq-eqb}
use Rattle.std.proofs.lemmas.List.Sums.{position_or_len_is}
use Rattle.few_terminals.proofs.reach.slot_of.Goals as goal

pub returns-then-vertices-slot : goal.returns-then-vertices-slot
returns-then-vertices-slot c =
    let within = c.loop-slot-test.true in
    sym (position_or_len_is (λ (x : ℕ). x == c.args.vertex) c.args.vertices.now c.loop-slot.slot 0 (omega (arith, within)) c.loop-slot.invariant (λ _. eq-eqb (get_or c.args.vertices.now c.loop-slot.slot 0) c.args.vertex c.if-vertices-slot.true))

pub returns : goal.returns
returns c =
    let past = c.loop-slot-test.false in
    let end = c.loop-slot.auto.slot-end in
    sym (position_or_len_is (λ (x : ℕ). x == c.args.vertex) c.args.vertices.now (length c.args.vertices.now) 0 (omega arith) (λ k low. c.loop-slot.invariant k (omega (arith, low, past, end))) (λ low. absurd (omega (arith, low))))
