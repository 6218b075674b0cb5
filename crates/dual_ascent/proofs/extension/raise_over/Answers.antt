use Rattle.dual_ascent.proofs.Extended.{charged_by, ends_by, extended_by}
use Rattle.dual_ascent.proofs.extension.raise_over.Goals as goal

pub returns-clause-extended : goal.returns-clause-extended
returns-clause-extended c =
    let h = c.requires.charged in
    let vertex = rw h.left.count at c.vertices.ensures.digraph.root in
    extended_by c.args.store.now c.args.branch.now c.args.packing c.args.left.arcs c.ascend.new.arcs c.args.left.twins c.ascend.new.twins c.args.target c.vertices-2.ensures.graph vertex h
    c.in_ok-found.found c.in_ok-ascent.ascent c.requires.sets c.in_ok-found.ensures.ascent c.in_ok-found.ensures.fits c.in_ok-ascent.ensures.joined c.in_ok-ascent.ensures.few

pub returns-clause-charged : goal.returns-clause-charged
returns-clause-charged c =
    let h = c.requires.charged in
    let vertex = rw h.left.count at c.vertices.ensures.digraph.root in
    charged_by c.args.store.now c.args.branch.now c.args.packing c.args.left.arcs c.ascend.new.arcs c.args.left.twins c.ascend.new.twins c.args.target c.vertices-2.ensures.graph vertex h
    c.in_ok-found.found c.in_ok-ascent.ascent c.in_ok-found.ensures.ascent c.in_ok-found.ensures.fits c.in_ok-ascent.ensures.joined

pub returns-clause-ends : goal.returns-clause-ends
returns-clause-ends c =
    let h = c.requires.charged in
    let vertex = rw h.left.count at c.vertices.ensures.digraph.root in
    ends_by c.args.store.now c.args.branch.now c.args.packing c.args.left.arcs c.ascend.new.arcs c.args.left.twins c.ascend.new.twins c.args.target c.vertices-2.ensures.graph vertex h
    c.in_ok-found.found c.in_ok-found.ensures.ascent c.requires.ends
