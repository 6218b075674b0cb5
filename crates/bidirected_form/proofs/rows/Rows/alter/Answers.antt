use Rattle.std.proofs.Common.{◌≡◌, length, ◌-◌, ◌∙◌, sym, map}
use Rattle.std.specs.Prelude.{slice_range}
use Rattle.bidirected_form.proofs.RowLemmas.{in_ends, bounds_are, row_written, written_length, written_tails, altered_tail}
use Rattle.std.proofs.lemmas.List.{length-map}
use Rattle.std.proofs.lemmas.List.Edits.{length-between}
use Rattle.bidirected_form.specs.Rows.{altered}
use Rattle.bidirected_form.proofs.rows.Rows.alter.Goals as goal

pub bounds-begin-requires-clause-few : goal.bounds-begin-requires-clause-few
bounds-begin-requires-clause-few c = rw c.deref.ensures.value (in_ends c.self.inside.ends.items c.self.inside.arcs.items c.args.self.now c.args.vertex c.self.view_is c.requires.few)

pub alter_part-requires-clause-rise : goal.alter_part-requires-clause-rise
alter_part-requires-clause-rise c =
    let known = bounds_are c.self.inside.ends.items c.self.inside.arcs.items c.args.self.now c.args.vertex c.bounds-begin.result.0 c.bounds-begin.result.1 c.self.view_is c.self.invariant.0 c.requires.some c.requires.few (rw c.deref.ensures.value at c.bounds-begin.ensures.begin) (rw c.deref.ensures.value at c.bounds-begin.ensures.end) in
    known.rise

pub alter_part-requires-clause-within : goal.alter_part-requires-clause-within
alter_part-requires-clause-within c =
    let known = bounds_are c.self.inside.ends.items c.self.inside.arcs.items c.args.self.now c.args.vertex c.bounds-begin.result.0 c.bounds-begin.result.1 c.self.view_is c.self.invariant.0 c.requires.some c.requires.few (rw c.deref.ensures.value at c.bounds-begin.ensures.begin) (rw c.deref.ensures.value at c.bounds-begin.ensures.end) in
    known.within

pub alter_part-requires-clause-allowed : goal.alter_part-requires-clause-allowed
alter_part-requires-clause-allowed c =
    let known = bounds_are c.self.inside.ends.items c.self.inside.arcs.items c.args.self.now c.args.vertex c.bounds-begin.result.0 c.bounds-begin.result.1 c.self.view_is c.self.invariant.0 c.requires.some c.requires.few (rw c.deref.ensures.value at c.bounds-begin.ensures.begin) (rw c.deref.ensures.value at c.bounds-begin.ensures.end) in
    rw known.row c.requires.allowed

pub invariant_of-self : goal.invariant_of-self
invariant_of-self c =
    let known = bounds_are c.self.inside.ends.items c.self.inside.arcs.items c.args.self.now c.args.vertex c.bounds-begin.result.0 c.bounds-begin.result.1 c.self.view_is c.self.invariant.0 c.requires.some c.requires.few (rw c.deref.ensures.value at c.bounds-begin.ensures.begin) (rw c.deref.ensures.value at c.bounds-begin.ensures.end) in
    let part = slice_range c.self.inside.arcs.items c.bounds-begin.result.0 c.bounds-begin.result.1 in
    let long : length (map (altered c.args.marks.now c.args.change) part) ≡ c.bounds-begin.result.1 - c.bounds-begin.result.0 = length-map _ _ ∙ length-between _ _ _ known.within in
    rw c.alter_part.ensures (rw (written_length _ _ _ _ known.rise known.within long) c.self.invariant.0, c.self.invariant.1 ∙ sym (written_tails _ _ _ _ (altered_tail c.args.marks.now c.args.change) known.rise))

pub returns : goal.returns
returns c =
    let known = bounds_are c.self.inside.ends.items c.self.inside.arcs.items c.args.self.now c.args.vertex c.bounds-begin.result.0 c.bounds-begin.result.1 c.self.view_is c.self.invariant.0 c.requires.some c.requires.few (rw c.deref.ensures.value at c.bounds-begin.ensures.begin) (rw c.deref.ensures.value at c.bounds-begin.ensures.end) in
    let part = slice_range c.self.inside.arcs.items c.bounds-begin.result.0 c.bounds-begin.result.1 in
    let new = map (altered c.args.marks.now c.args.change) part in
    let long : length new ≡ c.bounds-begin.result.1 - c.bounds-begin.result.0 = length-map _ _ ∙ length-between _ _ _ known.within in
    rw (c.alter_part.ensures, ← known.row) (row_written c.self.inside.ends.items c.self.inside.arcs.items c.args.self.now c.args.vertex c.bounds-begin.result.0 c.bounds-begin.result.1 new c.self.view_is c.self.invariant.0 c.requires.some c.requires.few (rw c.deref.ensures.value at c.bounds-begin.ensures.begin) (rw c.deref.ensures.value at c.bounds-begin.ensures.end) long)
