use Rattle.std.proofs.Common.{◌∙◌, List, [], ◌∷◌, ◌++◌, get_or, take, ap, sym, subst}
use Rattle.std.proofs.lemmas.List.{take_more}
use Rattle.bidirected_form.specs.declared.arc.Arc.{Arc}
use Rattle.dual_ascent.specs.declared.border.Border.{Border}
use Rattle.dual_ascent.specs.Turns.{IsLeastOf}
use Rattle.dual_ascent.proofs.Bordering.{least_past, least_with}
use Rattle.dual_ascent.proofs.border.Border.pass.Goals as goal
use Rattle.dual_ascent.proofs.border.Border.pass.Goals.{then-not-contains, else-not-contains}

pub loop-arc-preserved : goal.loop-arc-preserved
loop-arc-preserved c =
    let arcs = c.args.arcs.now in
    let i = c.loop-arc.arc-index in
    let set = c.args.set.now.members in
    let limit = c.args.self.now.least in
    let nothing : Arc = record { tail = 0; remaining = 0 } in
    let a : Arc = get_or arcs i nothing in
    subst (λ (l : List Arc). IsLeastOf set l limit c.if-not-contains.self.least) (sym (take_more arcs i nothing c.loop-arc-test.true)) (elim c.if-not-contains.branch [
      | then-not-contains w ↦ subst (IsLeastOf set (take i arcs ++ a ∷ []) limit) (sym (ap (λ (b : Border). b.least) w.self-is ∙ w.min-self.ensures)) (least_with set (take i arcs) a limit c.loop-arc.self.least (sym c.contains.ensures ∙ w.if-not-contains.true) c.loop-arc.invariant)
      | else-not-contains w ↦ subst (IsLeastOf set (take i arcs ++ a ∷ []) limit) (sym (ap (λ (b : Border). b.least) w.self-is)) (least_past set (take i arcs) a limit c.loop-arc.self.least (sym c.contains.ensures ∙ w.if-not-contains.false) c.loop-arc.invariant)
    ])
