use Rattle.std.proofs.Common.{ℕ, ◌+◌, List, sym, subst}
use Rattle.st_model.specs.declared.tree.Tree.{Tree}
use Rattle.lift_back.specs.declared.undo.Undo.{Undo}
use Rattle.lift_back.specs.Chains.{AreLed}
use Rattle.lift_back.specs.Keeping.{state_of}
use Rattle.lift_back.specs.Reduction.{Reduction}
use Rattle.lift_back.specs.State.{IsTreeOf}
use Rattle.lift_back.specs.Undoing.{arcs_at_first, tree_at_first}
use Rattle.lift_back.proofs.Unchaining.{tree_led}
use Rattle.lift_back.proofs.reduced.Reduced.lift.Goals as goal

pub lifted-requires : goal.lifted-requires
lifted-requires c =
    let kept = c.self.inside in
    let t : Tree = c.args.tree.now in
    let tree : IsTreeOf (state_of kept.rest) t = subst (λ (r : Reduction). IsTreeOf r.state t) (sym c.self.view_is) c.requires in
    let led : AreLed (kept.first.n + 1) t.start (arcs_at_first kept.undos.items t.arcs) = tree_led kept.first (tree_at_first kept.undos.items t) c.vertices.ensures.instance (c.self.invariant.1 t tree).0 in
    let counted : AreLed (c.vertices.result + 1) t.start (arcs_at_first kept.undos.items t.arcs) = subst (λ (n : ℕ). AreLed (n + 1) t.start (arcs_at_first kept.undos.items t.arcs)) (sym c.vertices.ensures.count) led in
    subst (λ (arcs : List (ℕ × ℕ)). AreLed (c.vertices.result + 1) t.start (arcs_at_first c.deref.result.now arcs)) (sym c.as_slice.ensures) (subst (λ (undos : List Undo). AreLed (c.vertices.result + 1) t.start (arcs_at_first undos t.arcs)) (sym c.deref.ensures.value) counted)
