use Rattle.arborescence.proofs.DiTrees.{all_open, walked_tree, walked_wall}
use Rattle.arborescence.specs.DiNetwork.{di_ground}
use Rattle.arborescence.proofs.walls.walled.Goals as goal

pub returns-in-None-clause-none : goal.returns-in-None-clause-none
returns-in-None-clause-none c =
    let D = c.args.instance.now in
    let heads = c.in_ok-heads.heads in
    let s = c.in_ok-spread.spread in
    let led = rw c.root.ensures.root at c.in_ok-spread.ensures.led in
    let spread = rw c.root.ensures.root at c.in_ok-spread.ensures.spread in
    (record { start = D.root; arcs = s.arcs.items }, walked_tree D c.args.branch.now heads s c.root.ensures.instance (all_open (di_ground D) c.args.branch.now heads c.in_ok-heads.ensures) led spread c.in-None.ensures.none)

pub returns-clause-some : goal.returns-clause-some
returns-clause-some c =
    let D = c.args.instance.now in
    let s = c.in_ok-spread.spread in
    let led = rw c.root.ensures.root at c.in_ok-spread.ensures.led in
    let open_ = rw c.requires at c.in_ok-heads.ensures in
    let found = rw c.requires at c.in-Some.ensures.found in
    walked_wall D c.in_ok-heads.heads s.reached.members c.in_ok-ascending-in-Some.field-0.items c.in-Some.field-0 c.root.ensures.instance open_ led c.in_ok-ascending-in-Some.ensures.members found.1 found.2

pub returns-clause-set : goal.returns-clause-set
returns-clause-set c =
    let D = c.args.instance.now in
    let s = c.in_ok-spread.spread in
    let led = rw c.root.ensures.root at c.in_ok-spread.ensures.led in
    let open_ = rw c.requires at c.in_ok-heads.ensures in
    let found = rw c.requires at c.in-Some.ensures.found in
    let wall = walked_wall D c.in_ok-heads.heads s.reached.members c.in_ok-ascending-in-Some.field-0.items c.in-Some.field-0 c.root.ensures.instance open_ led c.in_ok-ascending-in-Some.ensures.members found.1 found.2 in
    record { ascending = c.in_ok-ascending-in-Some.ensures.ascending; in_range = wall.in_range }
