use Rattle.std.proofs.Common.{◌∙◌, List, get_or, take, refl, sym, subst, arith}
use Rattle.std.proofs.lemmas.List.{take_more}
use Rattle.st_model.specs.VertexSet.{Extends}
use Rattle.st_model.proofs.Extending.{Extends-none}
use Rattle.cut_packing.specs.declared.arcs.LoadedArc.{LoadedArc}
use Rattle.arborescence.specs.Gathering.{used_tails}
use Rattle.arborescence.proofs.Used.{tails_with, tails_past}
use Rattle.arborescence.proofs.gathering.add_tails.Goals as goal
use Rattle.arborescence.proofs.gathering.add_tails.Goals.{then-arc-from+in_ok-insert, else-arc-from}

pub loop-arc-init : goal.loop-arc-init
loop-arc-init c = record { count = refl; extends = Extends-none _ }

pub loop-arc-preserved : goal.loop-arc-preserved
loop-arc-preserved c =
    let arcs = c.args.arcs.now in
    let i = c.loop-arc.arc-index in
    let nothing : LoadedArc = record { tail = 0; cost = 0; load = 0 } in
    let a : LoadedArc = get_or arcs i nothing in
    let is = sym (take_more arcs i nothing c.loop-arc-test.true) in
    let old = c.args.set.now.members in
    elim c.if-arc-from.branch [
      | then-arc-from+in_ok-insert w ↦ rw w.set-is (record {
        count = w.in_ok-insert.ensures.count ∙ c.loop-arc.invariant.count;
        extends = subst (λ (l : List LoadedArc). Extends old w.insert.new.self.members (used_tails l)) is (tails_with old c.loop-arc.set.members w.insert.new.self.members (take i arcs) a (omega (arith, w.if-arc-from.true, c.from.ensures)) w.in_ok-insert.ensures.members c.loop-arc.invariant.extends);
      })
      | else-arc-from w ↦ rw w.set-is (record {
        count = c.loop-arc.invariant.count;
        extends = subst (λ (l : List LoadedArc). Extends old c.loop-arc.set.members (used_tails l)) is (tails_past old c.loop-arc.set.members (take i arcs) a (λ same. absurd (omega (arith, w.if-arc-from.false, c.from.ensures))) c.loop-arc.invariant.extends);
      })
    ]
