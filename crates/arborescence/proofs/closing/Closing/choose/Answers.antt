use Rattle.std.proofs.Common.{refl, arith}
use Rattle.arborescence.specs.Ascending.{rooted_packing}
use Rattle.arborescence.proofs.Chosen.{chosen_closing, fewer_apart}
use Rattle.arborescence.proofs.Sources.{saturated_ends}
use Rattle.arborescence.proofs.closing.Closing.choose.Goals as goal

pub add-requires : goal.add-requires
add-requires c =
    let D = c.args.instance.now in
    let ends = saturated_ends D c.args.branch.now (rooted_packing D c.raise.new.self.cuts.items) c.args.arc.tail c.args.arc.head c.requires.closing.net c.in_ok-raise.ensures.saturated in
    omega (arith, ends.0.0.1, c.in_ok-raise.ensures.closing.heads.count)

pub returns-clause-closing : goal.returns-clause-closing
returns-clause-closing c =
    chosen_closing c.args.instance.now c.args.branch.now c.raise.new.self _ c.args.arc.tail c.args.arc.head c.in_ok-raise.ensures.closing c.in_ok-raise.ensures.saturated refl refl c.in_ok-push.ensures.items c.in_ok-add.ensures.ok c.in_ok-add-2.ensures.ok

pub returns-clause-nearer : goal.returns-clause-nearer
returns-clause-nearer c =
    let D = c.args.instance.now in
    let arc = c.args.arc in
    let ends = saturated_ends D c.args.branch.now (rooted_packing D c.raise.new.self.cuts.items) arc.tail arc.head c.requires.closing.net c.in_ok-raise.ensures.saturated in
    rw (c.in_ok-push.ensures.items, c.in_ok-raise.ensures.chosen) (fewer_apart D.n c.args.self.now.chosen.items c.args.set.now.members arc.tail arc.head c.requires.source.unentered c.requires.entering.inside c.requires.entering.outside ends.0.0 ends.1.0)
