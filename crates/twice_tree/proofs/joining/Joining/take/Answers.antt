use Rattle.std.proofs.Common.{ℕ, ◌≤◌, subst, sym, ◌∙◌, arith}
use Rattle.st_model.specs.Terminals.{IsTerminal}
use Rattle.twice_tree.proofs.Joined.{joining_dropped, joining_next, fewer_wait, taken_made, taken_reached, taken_to, taken_terminal}
use Rattle.twice_tree.specs.Joining.{IsJoining}
use Rattle.twice_tree.proofs.joining.Joining.take.Goals as goal

pub place-terminal-requires : goal.place-terminal-requires
place-terminal-requires c =
    let vertex = taken_to c.args.store.now.network c.args.cells.now c.args.self.now c.args.offer c.requires.taking c.requires.cells in
    let low = vertex.1 in
    let long = c.requires.cells.chained.places_long in
    omega (arith, low, long)

pub returns-then-contains-clause-joining : goal.returns-then-contains-clause-joining
returns-then-contains-clause-joining c = joining_dropped c.args.store.now.network c.args.cells.now c.args.self.now c.args.offer c.requires.taking (rw (c.place-terminal.ensures c.args.store.now.network c.requires.cells (taken_to c.args.store.now.network c.args.cells.now c.args.self.now c.args.offer c.requires.taking c.requires.cells)).terminal at (sym c.contains.ensures ∙ c.if-contains.true))

pub lay-requires-clause-made : goal.lay-requires-clause-made
lay-requires-clause-made c = taken_made c.args.store.now.network c.args.cells.now c.args.self.now c.args.offer c.requires.taking

pub lay-requires-clause-laid : goal.lay-requires-clause-laid
lay-requires-clause-laid c = c.requires.taking.joining.laid

pub lay-requires-clause-from : goal.lay-requires-clause-from
lay-requires-clause-from c = taken_reached c.args.store.now.network c.args.cells.now c.args.self.now c.args.offer c.requires.taking

pub open-requires-clause-terminal : goal.open-requires-clause-terminal
open-requires-clause-terminal c =
    let terminal = taken_terminal c.args.store.now.network c.args.cells.now c.args.self.now c.args.offer c.requires.taking c.requires.cells in
    subst (λ (k : ℕ). k ≤ c.args.store.now.network.n) (sym (c.place-terminal.ensures c.args.store.now.network c.requires.cells (taken_to c.args.store.now.network c.args.cells.now c.args.self.now c.args.offer c.requires.taking c.requires.cells)).terminal) terminal.vertex.1

pub open-requires-clause-count : goal.open-requires-clause-count
open-requires-clause-count c = c.requires.taking.joining.count

pub open-requires-clause-least : goal.open-requires-clause-least
open-requires-clause-least c = c.requires.taking.joining.cells

pub open-requires-clause-fresh : goal.open-requires-clause-fresh
open-requires-clause-fresh c = sym c.contains.ensures ∙ c.if-contains.false

pub returns : goal.returns
returns c =
    let I = c.args.store.now.network in
    let cells = c.args.cells.now in
    let j = c.args.self.now in
    let offer = c.args.offer in
    let k = c.place-terminal.result.terminal in
    let cell = (c.place-terminal.ensures I c.requires.cells (taken_to I cells j offer c.requires.taking c.requires.cells)).terminal in
    let terminal : IsTerminal I k = subst (IsTerminal I) (sym cell) (taken_terminal I cells j offer c.requires.taking c.requires.cells) in
    let joining : IsJoining I cells c.open.new.self c.open.new.self.opening.offers = joining_next I cells j c.open.new.self c.lay.new.laid offer k c.requires.cells.instance c.requires.cells c.requires.taking cell terminal (sym c.contains.ensures ∙ c.if-contains.false)
    (rw cell c.in_ok-lay.ensures) c.open.ensures.laid c.in_ok-open.ensures.joined c.open.ensures.count c.in_ok-open.ensures.opens (taken_made I cells j offer c.requires.taking).fits in
    record {
      joining = joining;
      fewer = fewer_wait I cells j c.open.new.self k joining c.in_ok-open.ensures.joined c.in_ok-open.ensures.few;
    }
