use Rattle.std.proofs.Common.{◌∙◌, ℕ, get_or, false}
use Rattle.std.specs.Prelude.{Contains, IsTrue, IsFalse, IsSome, ◌↔◌}
use Rattle.std.specs.declared.alloc.Global.{Global}
use Rattle.std.specs.declared.vec.Vec.{Vec}
use Rattle.std.proofs.lemmas.Result.{IfOk-weaker}
use Rattle.st_model.specs.Lists.{has}
use Rattle.bidirected_form.specs.Digraph.{left_from}
use Rattle.bidirected_form.specs.Entering.{IsEntering}
use Rattle.bidirected_form.specs.Rows.{row_of}
use Rattle.bidirected_form.proofs.Altered.{marks_set, marks_gone, entering_is}
use Rattle.bidirected_form.proofs.arcs.Arcs.entering.Goals as goal

pub entering_arcs-found-requires-clause-ascending : goal.entering_arcs-found-requires-clause-ascending
entering_arcs-found-requires-clause-ascending c v = (c.self.invariant.0.arcs v).ascending

pub invariant_of-self : goal.invariant_of-self
invariant_of-self c = (
  c.self.invariant.0,
  c.unmark.ensures.length ∙ c.mark.ensures.length ∙ c.self.invariant.1,
  marks_gone c.self.inside.marks.items c.mark.new.marks.items c.unmark.new.marks.items c.args.set.now c.self.invariant.2 c.mark.ensures.marks c.unmark.ensures.marks,
)

pub returns-clause-arcs : goal.returns-clause-arcs
returns-clause-arcs c =
    let marks = c.mark.new.marks.items in
    let rows = c.self.inside.rows in
    let members = c.args.set.now in
    let marked = marks_set c.self.inside.marks.items marks members c.self.invariant.2 c.mark.ensures.marks in
    IfOk-weaker c.entering_arcs-found.result (λ (arcs : Vec (ℕ × ℕ) Global). (u v : ℕ) → Contains arcs.items (u, v) ↔ (IsTrue (has members v) × IsFalse (get_or marks u false) × IsSome (left_from (row_of rows v) u))) (λ (arcs : Vec (ℕ × ℕ) Global). (u v : ℕ) → Contains arcs.items (u, v) ↔ IsEntering c.args.self.now members (u, v)) (λ found h u v. let is = entering_is (record { root = c.self.inside.root; n = c.self.inside.vertices; kinds = c.self.inside.kinds.items; arcs = rows }) marks members u v (marked u) in rw (← c.self.view_is) (λ there. is.0 ((h u v).0 there), λ entering. (h u v).1 (is.1 entering))) (rw c.deref.ensures.value at c.entering_arcs-found.ensures.arcs)
