use Rattle.std.proofs.Common.{refl, sym, ◌∙◌, arith}
use Rattle.arborescence.proofs.OneCut.{all_bear, room_left}
use Rattle.arborescence.proofs.Raised.{raised_once}
use Rattle.arborescence.proofs.Used.{entering_left}
use Rattle.arborescence.proofs.raising.Raising.raise.Goals as goal

pub least_left-value-requires-clause-bears : goal.least_left-value-requires-clause-bears
least_left-value-requires-clause-bears c = all_bear c.args.instance.now c.args.branch.now c.args.self.now.cuts.items c.args.self.now.arcs c.requires.raising.loaded c.requires.raising.fits

pub least_left-value-requires-clause-count : goal.least_left-value-requires-clause-count
least_left-value-requires-clause-count c = c.requires.raising.count ∙ sym c.requires.raising.loaded.count

pub lay-requires-clause-count : goal.lay-requires-clause-count
lay-requires-clause-count c = c.requires.raising.count ∙ sym c.requires.raising.loaded.count

pub lay-requires-clause-room : goal.lay-requires-clause-room
lay-requires-clause-room c = λ v. room_left c.args.instance.now c.args.branch.now c.args.self.now.cuts.items c.args.self.now.arcs c.requires.raising.loaded c.requires.raising.fits c.least_left-value.result v c.vertices.ensures.instance (omega arith)

pub overflow_sub-self : goal.overflow_sub-self
overflow_sub-self c = c.least_left-value.ensures.most

pub returns-clause-raised : goal.returns-clause-raised
returns-clause-raised c =
    let most = c.least_left-value.ensures.most in
    raised_once c.args.instance.now c.args.branch.now c.args.self.now _ c.args.vertex c.least_left-value.result c.in_ok-cut.cut c.vertices.ensures.instance c.requires.raising c.requires.vertex c.requires.present c.requires.certain c.requires.gathered c.requires.away c.least_left-value.ensures.borne c.in_ok-cut.ensures.q c.in_ok-cut.ensures.y c.in_ok-cut.ensures.members c.in_ok-cut.ensures.ascending c.in_ok-push.ensures.items c.lay.ensures.count c.lay.ensures.laid (omega arith) refl

pub returns-clause-less : goal.returns-clause-less
returns-clause-less c =
    let left = entering_left c.args.self.now.arcs c.args.vertex c.args.self.now.set.members c.requires.gathered (all_bear c.args.instance.now c.args.branch.now c.args.self.now.cuts.items c.args.self.now.arcs c.requires.raising.loaded c.requires.raising.fits) in
    let some = c.least_left-value.ensures.positive c.requires.room left in
    let most = c.least_left-value.ensures.most in
    omega arith
