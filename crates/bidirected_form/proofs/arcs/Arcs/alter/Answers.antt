use Rattle.std.proofs.Common.{◌∙◌, sym, subst}
use Rattle.bidirected_form.specs.Digraph.{Digraph}
use Rattle.bidirected_form.specs.Rows.{CanAlter}
use Rattle.bidirected_form.proofs.Altered.{allowed_left, still_digraph, alters, marks_set, marks_gone}
use Rattle.bidirected_form.proofs.arcs.Arcs.alter.Goals as goal

pub alter_entering-requires-clause-allowed : goal.alter_entering-requires-clause-allowed
alter_entering-requires-clause-allowed c =
    let marked = marks_set c.self.inside.marks.items c.mark.new.marks.items c.args.set.now c.self.invariant.2 c.mark.ensures.marks in
    rw c.deref.ensures.value (allowed_left _ c.mark.new.marks.items c.args.change c.args.set.now c.self.invariant.0 (subst (λ (D : Digraph). CanAlter D c.args.set.now c.args.change) (sym c.self.view_is) c.requires.allowed) marked)

pub invariant_of-self : goal.invariant_of-self
invariant_of-self c =
    let marked = marks_set c.self.inside.marks.items c.mark.new.marks.items c.args.set.now c.self.invariant.2 c.mark.ensures.marks in
    let altered = rw c.deref.ensures.value at c.alter_entering.ensures.altered in (
      still_digraph _ c.mark.new.marks.items c.args.change c.args.set.now c.alter_entering.new.rows c.self.invariant.0 c.alter_entering.ensures.length marked altered,
      c.unmark.ensures.length ∙ c.mark.ensures.length ∙ c.self.invariant.1,
      marks_gone c.self.inside.marks.items c.mark.new.marks.items c.unmark.new.marks.items c.args.set.now c.self.invariant.2 c.mark.ensures.marks c.unmark.ensures.marks,
    )

pub returns : goal.returns
returns c =
    let marked = marks_set c.self.inside.marks.items c.mark.new.marks.items c.args.set.now c.self.invariant.2 c.mark.ensures.marks in
    let altered = rw c.deref.ensures.value at c.alter_entering.ensures.altered in
    rw (← c.self.view_is) (alters _ c.mark.new.marks.items c.args.change c.args.set.now c.alter_entering.new.rows marked altered)
