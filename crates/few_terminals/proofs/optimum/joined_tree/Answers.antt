use Rattle.std.proofs.Common.{ℕ, List, sym, subst}
use Rattle.std.specs.Prelude.{IsTrue, IsFalse, IfSome, IfNone}
use Rattle.st_model.specs.Lists.{has}
use Rattle.few_terminals.proofs.Optimal.{two_rows, root_within, root_places, top_stands, best_of_table, none_of_table}
use Rattle.few_terminals.proofs.Reaching.{reach_of, root_listed, no_tree_out, all_reached}
use Rattle.few_terminals.proofs.optimum.joined_tree.Goals as goal

pub returns-then-is_some-clause-none : goal.returns-then-is_some-clause-none
returns-then-is_some-clause-none c =
    no_tree_out c.args.store.now.network c.args.terminals c.in_ok-reached.reached.members c.unreached.result c.requires.terminals c.in_ok-reached.ensures (sym c.if-is_some.ensures)
    (subst (λ (ks : List ℕ). IfSome c.unreached.result (λ k. IsTrue (has ks k) × IsFalse (has c.in_ok-reached.reached.members k))) c.deref.ensures.value c.unreached.ensures.some)

pub fill-requires-clause-reach : goal.fill-requires-clause-reach
fill-requires-clause-reach c =
    let ks = c.args.terminals.others.items in
    let members = c.in_ok-reached.reached.members in
    let known = subst (λ (ks : List ℕ). IfNone c.unreached.result ((k : ℕ) → IsTrue (has ks k) → IsTrue (has members k))) c.deref.ensures.value c.unreached.ensures.none in
    reach_of c.args.store.now.network ks c.args.terminals.root members c.in_ok-vertices.vertices.items c.in_ok-reached.ensures (all_reached ks members c.unreached.result (sym c.if-is_some.ensures) known) c.in_ok-vertices.ensures.members c.in_ok-vertices.ensures.ascending

pub top-requires-clause-some : goal.top-requires-clause-some
top-requires-clause-some c = two_rows c.args.store.now.network c.args.terminals c.in_ok-table.table c.requires.instance c.requires.terminals c.requires.some c.in_ok-table.ensures.table c.in_ok-table.ensures.terminals

pub top-requires-clause-within : goal.top-requires-clause-within
top-requires-clause-within c =
    root_within c.args.store.now.network c.args.terminals c.in_ok-table.table c.requires.instance c.requires.terminals c.requires.some c.in_ok-table.ensures.table c.in_ok-table.ensures.terminals
    (root_listed c.args.store.now.network c.args.terminals.root c.in_ok-reached.reached.members c.in_ok-vertices.vertices.items c.in_ok-table.table.reached.items c.in_ok-reached.ensures c.in_ok-vertices.ensures.members c.in_ok-table.ensures.reached)

pub top-requires-clause-places : goal.top-requires-clause-places
top-requires-clause-places c =
    root_places c.args.store.now.network c.args.terminals c.in_ok-table.table c.requires.instance c.requires.terminals c.requires.some c.in_ok-table.ensures.table c.in_ok-table.ensures.terminals
    (root_listed c.args.store.now.network c.args.terminals.root c.in_ok-reached.reached.members c.in_ok-vertices.vertices.items c.in_ok-table.table.reached.items c.in_ok-reached.ensures c.in_ok-vertices.ensures.members c.in_ok-table.ensures.reached)

pub returns-in_default-clause-none : goal.returns-in_default-clause-none
returns-in_default-clause-none c = none_of_table c.args.store.now.network c.args.terminals c.in_ok-table.table c.requires.instance c.requires.terminals c.requires.some c.in_ok-table.ensures.table c.in_ok-table.ensures.terminals c.in_default.ensures.none

pub way_back-requires-clause-top : goal.way_back-requires-clause-top
way_back-requires-clause-top c = top_stands c.args.store.now.network c.args.terminals c.in_ok-table.table c.requires.instance c.requires.terminals c.requires.some c.in_ok-table.ensures.table c.in_ok-table.ensures.terminals c.in-Some.top c.in-Some.ensures.some.0 c.in-Some.ensures.some.1

pub returns-clause-best : goal.returns-clause-best
returns-clause-best c =
    let I = c.args.store.now.network in
    let back = c.in_ok-laid.ensures in
    best_of_table I c.args.terminals c.in_ok-table.table c.requires.instance c.requires.terminals c.requires.some c.in_ok-table.ensures.table c.in_ok-table.ensures.terminals c.in-Some.top c.in_ok-laid.laid c.into_tree.result c.requires.nobody c.in-Some.ensures.some.0 c.in-Some.ensures.some.1 back
    (c.into_tree.ensures.tree I back.laid) c.into_tree.ensures.start (c.into_tree.ensures.reached I back.laid) (c.into_tree.ensures.cost I)
