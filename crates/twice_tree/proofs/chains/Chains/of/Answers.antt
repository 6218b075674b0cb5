use Rattle.std.proofs.Common.{◌≡◌, ℕ, ◌+◌, ◌-◌, ◌^◌, ◌≤◌, Option, replicate, unwrap_or, sym, ap, subst, ◌∙◌, arith}
use Rattle.st_model.specs.Network.{IsVertex}
use Rattle.twice_tree.specs.Cells.{AreChained}
use Rattle.twice_tree.proofs.Chained.{chained_none, chained_more, terminal_told}
use Rattle.twice_tree.proofs.chains.Chains.of.Goals as goal

pub loop-before-init : goal.loop-before-init
loop-before-init c =
    let I = c.args.store.now.network in
    let routes = c.args.distances.now in
    let chains = c.in_ok-chains.chains in
    subst (λ (bound : ℕ). AreChained I routes bound chains) (sym c.vertices-before.ensures.count)
    (chained_none I routes chains (c.in_ok-chains.ensures.places ∙ ap (λ (n : ℕ). n + 1) c.vertices.ensures.count) (c.in_ok-chains.ensures.firsts ∙ ap (λ (n : ℕ). replicate (n + 1) (n + 1)) c.vertices.ensures.count))

pub loop-before-preserved : goal.loop-before-preserved
loop-before-preserved c =
    let I = c.args.store.now.network in
    let routes = c.args.distances.now in
    let v = c.loop-before.before - 1 in
    let some = c.loop-before-test.true in
    let high = c.loop-before.auto.before in
    let count = c.vertices-before.ensures.count in
    let vertex : IsVertex I.n (v + 1) = (omega arith, omega (arith, some, high, count)) in
    let same : c.loop-before.before ≡ v + 1 = omega (arith, some) in
    let terminal = terminal_told I c.args.sources.now routes (v + 1) c.terminal_in.result c.requires.sources c.requires.count vertex c.terminal_in.ensures in
    chained_more I routes v c.unwrap_or-far.result c.terminal_in.result c.loop-before.chains c.put.new.self (subst (λ (bound : ℕ). AreChained I routes bound c.loop-before.chains) same c.loop-before.invariant) vertex.1
    (c.unwrap_or-far.ensures ∙ ap (λ (o : Option ℕ). unwrap_or o (2 ^ 64 - 1)) c.at.ensures) terminal (subst (λ (k : ℕ). k ≤ I.n) (sym terminal) (c.requires.terminals (v + 1) vertex)) c.put.ensures.places c.put.ensures.firsts

pub returns : goal.returns
returns c =
    let none : c.loop-before.before ≡ 0 = (let low = c.loop-before-test.false in omega (arith, low)) in
    subst (λ (bound : ℕ). AreChained c.args.store.now.network c.args.distances.now bound c.loop-before.chains) none c.loop-before.invariant
