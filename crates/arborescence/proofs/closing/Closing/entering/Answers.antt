use Rattle.arborescence.proofs.LeastEntering.{least_enters, none_enters}
use Rattle.arborescence.proofs.OneCut.{all_bear}
use Rattle.arborescence.proofs.closing.Closing.entering.Goals as goal

pub least_entering-requires-clause-bears : goal.least_entering-requires-clause-bears
least_entering-requires-clause-bears c = all_bear c.args._instance.now c.args._branch.now c.args.self.now.cuts.items c.args.self.now.arcs c.requires.closing.loaded c.requires.closing.fits

pub returns-clause-some : goal.returns-clause-some
returns-clause-some c =
    let D = c.args._instance.now in
    let s = c.args.self.now in
    least_enters D c.args._branch.now s.cuts.items s.arcs c.args.set.now.members c.requires.closing.loaded (all_bear D c.args._branch.now s.cuts.items s.arcs c.requires.closing.loaded c.requires.closing.fits) c.least_entering.result c.least_entering.ensures

pub returns-clause-none : goal.returns-clause-none
returns-clause-none c =
    let D = c.args._instance.now in
    let s = c.args.self.now in
    none_enters D c.args._branch.now s.cuts.items s.arcs c.args.set.now.members c.requires.closing.loaded (all_bear D c.args._branch.now s.cuts.items s.arcs c.requires.closing.loaded c.requires.closing.fits) c.least_entering.result c.least_entering.ensures
