use Rattle.twice_tree.proofs.Reached.{some_terminal}
use Rattle.twice_tree.proofs.Ended.{those_terminal, none_listed, found_present, found_lone, lone_found_tree, lone_found_twice}
use Rattle.twice_tree.proofs.near.near_tree.Goals as goal

pub joined_tree-requires-clause-those : goal.joined_tree-requires-clause-those
joined_tree-requires-clause-those c = rw c.deref-in-Some.ensures.value c.in_ok-terminals.ensures

pub joined_tree-requires-clause-first : goal.joined_tree-requires-clause-first
joined_tree-requires-clause-first c = those_terminal c.args.store.now.network c.in_ok-terminals.terminals.items c.in-Some.first c.in_ok-terminals.ensures (rw c.deref.ensures.value at c.in-Some.ensures.some.0)

pub returns-in-Some-clause-present : goal.returns-in-Some-clause-present
returns-in-Some-clause-present c =
    let terminal = those_terminal c.args.store.now.network c.in_ok-terminals.terminals.items c.in-Some.first c.in_ok-terminals.ensures (rw c.deref.ensures.value at c.in-Some.ensures.some.0) in
    found_present c.args.store.now c.in-Some.first c.in_ok-found-in-Some.found c.vertices.ensures.graph terminal (c.requires.here c.in-Some.first terminal) c.in_ok-found-in-Some.ensures.tree

pub returns-in-Some-clause-lone : goal.returns-in-Some-clause-lone
returns-in-Some-clause-lone c =
    let terminal = those_terminal c.args.store.now.network c.in_ok-terminals.terminals.items c.in-Some.first c.in_ok-terminals.ensures (rw c.deref.ensures.value at c.in-Some.ensures.some.0) in
    found_lone c.args.store.now.network c.in_ok-found-in-Some.found (some_terminal c.args.store.now.network c.in-Some.first terminal)

pub returns-clause-tree : goal.returns-clause-tree
returns-clause-tree c =
    lone_found_tree c.args.store.now c.vertices.ensures.graph (none_listed c.args.store.now.network c.in_ok-terminals.terminals.items c.in_ok-nothing.nothing.members c.in_ok-terminals.ensures c.in_ok-nothing.ensures.empty (rw c.deref.ensures.value at c.in-None.ensures.none)) c.lone_tree.result c.lone_tree.ensures.present c.lone_tree.ensures.lone

pub returns-clause-twice : goal.returns-clause-twice
returns-clause-twice c =
    lone_found_twice c.args.store.now c.vertices.ensures.graph (none_listed c.args.store.now.network c.in_ok-terminals.terminals.items c.in_ok-nothing.nothing.members c.in_ok-terminals.ensures c.in_ok-nothing.ensures.empty (rw c.deref.ensures.value at c.in-None.ensures.none)) c.lone_tree.result
