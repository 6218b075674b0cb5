use Rattle.std.proofs.Common.{sym, ap, ◌∙◌, not}
use Rattle.arborescence.proofs.DiTrees.{all_open, walked_tree, walked_belongs, missed_shows, outside_shows}
use Rattle.arborescence.specs.DiNetwork.{di_ground}
use Rattle.arborescence.proofs.first.di_first_tree.Goals as goal

pub returns-then-is_outside-clause-none : goal.returns-then-is_outside-clause-none
returns-then-is_outside-clause-none c =
    outside_shows c.args.instance.now c.args.branch.now c.root-root.ensures.instance (rw c.root-root.ensures.root at (sym c.is_outside.ensures ∙ c.if-is_outside.true))

pub returns-in-Some-clause-none : goal.returns-in-Some-clause-none
returns-in-Some-clause-none c =
    let D = c.args.instance.now in
    let led = rw c.root-root.ensures.root at c.in_ok-spread.ensures.led in
    let found = c.in-Some.ensures.found in
    missed_shows D c.args.branch.now c.in_ok-heads.heads c.in_ok-spread.spread.reached.members c.in-Some.field-0 c.root-root.ensures.instance c.in_ok-heads.ensures led found.0 found.1 found.2

pub returns-clause-tree : goal.returns-clause-tree
returns-clause-tree c =
    let D = c.args.instance.now in
    let led = rw c.root-root.ensures.root at c.in_ok-spread.ensures.led in
    let spread = rw c.root-root.ensures.root at c.in_ok-spread.ensures.spread in
    rw (c.root-root.ensures.root, c.of.ensures) (walked_tree D c.args.branch.now c.in_ok-heads.heads c.in_ok-spread.spread c.root-root.ensures.instance (all_open (di_ground D) c.args.branch.now c.in_ok-heads.heads c.in_ok-heads.ensures) led spread c.in-None.ensures.none)

pub returns-clause-belongs : goal.returns-clause-belongs
returns-clause-belongs c =
    let D = c.args.instance.now in
    let led = rw c.root-root.ensures.root at c.in_ok-spread.ensures.led in
    let spread = rw c.root-root.ensures.root at c.in_ok-spread.ensures.spread in
    let present = ap not (rw c.root-root.ensures.root at (sym c.is_outside.ensures ∙ c.if-is_outside.false)) in
    rw (c.root-root.ensures.root, c.of.ensures) (walked_belongs D c.args.branch.now c.in_ok-heads.heads c.in_ok-spread.spread c.root-root.ensures.instance (all_open (di_ground D) c.args.branch.now c.in_ok-heads.heads c.in_ok-heads.ensures) led spread c.in-None.ensures.none c.requires.branch c.requires.no_must present)
