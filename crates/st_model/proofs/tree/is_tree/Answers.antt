use Rattle.std.proofs.Common.{refl, subst, arith, [], ◌∷◌}
use Rattle.st_model.specs.Arborescence.{reached_from}
use Rattle.st_model.specs.Marks.{AreMarks}
use Rattle.st_model.proofs.tree.is_tree.Goals as goal
use Rattle.st_model.proofs.tree.is_tree.Goals.{Else-not-grows}

-- the start alone is marked at first
start_marked : (c : Else-not-grows) → AreMarks c.args.instance.now.n c.in_ok-marks.marks.items (c.args.tree.now.start ∷ [])
start_marked c = subst (λ n. AreMarks n c.in_ok-marks.marks.items (c.args.tree.now.start ∷ [])) c.vertices-2.ensures.count c.in_ok-marks.ensures

-- and all that the arcs reach in the end
all_marked : (c : Else-not-grows) → AreMarks c.args.instance.now.n c.grows.new.marks.items (reached_from (c.args.tree.now.start ∷ []) c.args.tree.now.arcs)
all_marked c = subst (λ arcs. AreMarks c.args.instance.now.n c.grows.new.marks.items (reached_from (c.args.tree.now.start ∷ []) arcs)) c.as_slice.ensures (c.if-not-grows.ensures.marked (c.args.tree.now.start ∷ []) (start_marked c))

pub reaches_required-requires : goal.reaches_required-requires
reaches_required-requires c =
    let marked = all_marked (goal.at.reaches_required-requires c).Else-not-grows in
    rw c.deref.ensures.value marked.long

pub returns : goal.returns
returns c =
    let path = (goal.at.returns c).Else-not-grows in
    let marked = all_marked path in
    let judged = c.reaches_required.ensures (reached_from (c.args.tree.now.start ∷ []) c.args.tree.now.arcs) (rw c.deref.ensures.value marked) in
    let grew = (c.if-not-grows.ensures.answer (c.args.tree.now.start ∷ []) (start_marked path)).0 refl in (
      λ yes. record {
        arborescence = record { start = (omega arith, omega (arith, c.vertices.ensures.count)); grows = rw c.as_slice.ensures at grew };
        required = λ v vertex needed. judged.0 yes v vertex needed;
      },
      λ tree. judged.1 (λ v vertex needed. tree.required v vertex needed),
    )
