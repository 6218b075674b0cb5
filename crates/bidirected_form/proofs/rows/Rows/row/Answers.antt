use Rattle.bidirected_form.proofs.RowLemmas.{in_ends, bounds_are}
use Rattle.bidirected_form.proofs.rows.Rows.row.Goals as goal

pub bounds-begin-requires-clause-few : goal.bounds-begin-requires-clause-few
bounds-begin-requires-clause-few c = rw c.deref.ensures.value (in_ends c.self.inside.ends.items c.self.inside.arcs.items c.args.self.now c.args.vertex c.self.view_is c.requires.few)

pub part-requires-clause-rise : goal.part-requires-clause-rise
part-requires-clause-rise c =
    let known = bounds_are c.self.inside.ends.items c.self.inside.arcs.items c.args.self.now c.args.vertex c.bounds-begin.result.0 c.bounds-begin.result.1 c.self.view_is c.self.invariant.0 c.requires.some c.requires.few (rw c.deref.ensures.value at c.bounds-begin.ensures.begin) (rw c.deref.ensures.value at c.bounds-begin.ensures.end) in
    known.rise

pub part-requires-clause-within : goal.part-requires-clause-within
part-requires-clause-within c =
    let known = bounds_are c.self.inside.ends.items c.self.inside.arcs.items c.args.self.now c.args.vertex c.bounds-begin.result.0 c.bounds-begin.result.1 c.self.view_is c.self.invariant.0 c.requires.some c.requires.few (rw c.deref.ensures.value at c.bounds-begin.ensures.begin) (rw c.deref.ensures.value at c.bounds-begin.ensures.end) in
    rw c.deref-2.ensures.value known.within

pub returns : goal.returns
returns c =
    let known = bounds_are c.self.inside.ends.items c.self.inside.arcs.items c.args.self.now c.args.vertex c.bounds-begin.result.0 c.bounds-begin.result.1 c.self.view_is c.self.invariant.0 c.requires.some c.requires.few (rw c.deref.ensures.value at c.bounds-begin.ensures.begin) (rw c.deref.ensures.value at c.bounds-begin.ensures.end) in
    rw (c.part.ensures, c.deref-2.ensures.value) known.row
