use Rattle.std.proofs.Common.{[], get_or, ap, subst, sym}
use Rattle.std.specs.Prelude.{is_some}
use Rattle.std.proofs.lemmas.List.Elements.{Contains-get_or}
use Rattle.graph_store.specs.declared.half.Half.{Half}
use Rattle.tree_heuristic.specs.declared.spread.Spread.{Spread}
use Rattle.tree_heuristic.specs.Spreading.{HasGoneOn}
use Rattle.tree_heuristic.proofs.Spreads.{gone_on_also}
use Rattle.tree_heuristic.proofs.spread.Spread.reach_along.Goals.{then-leads+in_ok-follow, else-leads}
use Rattle.tree_heuristic.proofs.spread.Spread.reach_along.Goals as goal

nothing : Half
nothing = record { to = 0; cost = 0 }

pub loop-half-preserved : goal.loop-half-preserved
unfolding nothing
loop-half-preserved c =
    let g = c.args.store.now in
    let out = c.args.branch.now.outside in
    let halves = c.neighbours-half-items.result.now in
    let i = c.loop-half.half-index in
    let are = c.neighbours-half-items.ensures.halves in
    let half : Half = get_or halves i nothing in
    let linked = (are.linked half.to half.cost).0 (Contains-get_or halves i nothing c.loop-half-test.true) in
    elim c.if-leads.branch [
      | then-leads+in_ok-follow w ↦ subst (λ (s : Spread). HasGoneOn g out c.args.self.now [] s) (sym w.self-is) (gone_on_also g out c.args.self.now c.loop-half.self w.follow.new.self half c.args.tail c.neighbours-half-items.ensures.graph c.loop-half.invariant c.requires.tail (ap is_some linked) w.in_ok-follow.ensures)
      | else-leads w ↦ subst (λ (s : Spread). HasGoneOn g out c.args.self.now [] s) (sym w.self-is) c.loop-half.invariant
    ]
