use Rattle.arborescence.proofs.ClosedTrees.{first_held, walled_by}
use Rattle.arborescence.proofs.closing.walled.Goals as goal

pub returns : goal.returns
returns c =
    let held = first_held c.args.set.now.members c.member.result c.requires.source.holds c.member.ensures.member in
    let cut = c.in_ok-cut.ensures in
    rw (c.of.ensures, c.in_ok-vec.ensures.items, c.root.ensures.root) (walled_by c.args.instance.now c.args._branch.now c.args._closing.now c.args.set.now c.args.target c.in_ok-cut.cut c.root.ensures.instance c.requires.no_must c.requires.certain c.requires.closing c.requires.source c.requires.none (rw (cut.q, c.unwrap_or-q.ensures) held) cut.y cut.members cut.ascending)
