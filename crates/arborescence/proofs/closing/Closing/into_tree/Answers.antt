use Rattle.std.proofs.lemmas.List.{append-nil}
use Rattle.arborescence.proofs.ClosedTrees.{chosen_within, closed_by, kept_within}
use Rattle.arborescence.proofs.closing.Closing.into_tree.Goals as goal

pub pruned-requires-clause-within : goal.pruned-requires-clause-within
pruned-requires-clause-within c = rw c.deref.ensures.value (chosen_within c.args.instance.now c.args.branch.now c.args.self c.requires.closing)

pub pruned-requires-clause-spans : goal.pruned-requires-clause-spans
pruned-requires-clause-spans c = rw c.deref.ensures.value c.requires.spans

pub heads_of_both-requires-clause-left : goal.heads_of_both-requires-clause-left
heads_of_both-requires-clause-left c =
    let D = c.args.instance.now in
    let pruned = rw c.deref.ensures.value at c.in_ok-kept.ensures in
    rw (c.deref-2.ensures.value, c.vertices.ensures.count) (kept_within D.n D.root c.args.branch.now c.args.self.chosen.items c.in_ok-kept.kept.items (chosen_within D c.args.branch.now c.args.self c.requires.closing) pruned)

pub returns : goal.returns
returns c =
    let D = c.args.instance.now in
    let kept = c.in_ok-kept.kept.items in
    let pruned = rw c.deref.ensures.value at c.in_ok-kept.ensures in
    let heads = rw (c.vertices.ensures.count, c.deref-2.ensures.value, append-nil kept) at c.in_ok-heads.ensures in
    let led = rw c.root-root.ensures.root at c.in_ok-spread.ensures.led in
    let grown = rw c.root-root.ensures.root at c.in_ok-spread.ensures.spread in
    rw (c.root-root.ensures.root, c.of.ensures, c.of-2.ensures) (closed_by D c.args.branch.now c.args.self kept c.in_ok-heads.heads c.in_ok-spread.spread c.root-root.ensures.instance c.requires.branch c.requires.required c.requires.no_must c.requires.certain c.requires.closing pruned heads led grown)
