use Rattle.std.proofs.Common.{◌∙◌, List, get_or, take, refl, sym, subst}
use Rattle.std.proofs.lemmas.List.{take_more}
use Rattle.st_model.specs.VertexSet.{Extends}
use Rattle.st_model.proofs.Extending.{Extends-none}
use Rattle.bidirected_form.specs.declared.arc.Arc.{Arc}
use Rattle.dual_ascent.specs.Turns.{free_tails}
use Rattle.dual_ascent.proofs.Reaching.{tails_with, tails_past}
use Rattle.dual_ascent.proofs.growing.add_tails.Goals as goal
use Rattle.dual_ascent.proofs.growing.add_tails.Goals.{then-arc-eq0+in_ok-insert, else-arc-eq0}

pub loop-arc-init : goal.loop-arc-init
loop-arc-init c = record { count = refl; extends = Extends-none _ }

pub loop-arc-preserved : goal.loop-arc-preserved
loop-arc-preserved c =
    let arcs = c.args.arcs.now in
    let i = c.loop-arc.arc-index in
    let nothing : Arc = record { tail = 0; remaining = 0 } in
    let a : Arc = get_or arcs i nothing in
    let is = sym (take_more arcs i nothing c.loop-arc-test.true) in
    let old = c.args.set.now.members in
    elim c.if-arc-eq0.branch [
      | then-arc-eq0+in_ok-insert w ↦ rw w.set-is (record {
        count = w.in_ok-insert.ensures.count ∙ c.loop-arc.invariant.count;
        extends = subst (λ (l : List Arc). Extends old w.insert.new.self.members (free_tails l)) is (tails_with old c.loop-arc.set.members w.insert.new.self.members (take i arcs) a w.if-arc-eq0.true w.in_ok-insert.ensures.members c.loop-arc.invariant.extends);
      })
      | else-arc-eq0 w ↦ rw w.set-is (record {
        count = c.loop-arc.invariant.count;
        extends = subst (λ (l : List Arc). Extends old c.loop-arc.set.members (free_tails l)) is (tails_past old c.loop-arc.set.members (take i arcs) a w.if-arc-eq0.false c.loop-arc.invariant.extends);
      })
    ]
