use Rattle.std.proofs.Common.{[], ◌∷◌, take, get_or, refl, sym, ◌∙◌, arith}
use Rattle.std.specs.Prelude.{◌==◌}
use Rattle.std.proofs.Math.Bool.{or_comm}
use Rattle.std.proofs.lemmas.Bool.{false≢true}
use Rattle.std.proofs.lemmas.List.{take_all}
use Rattle.st_model.specs.Arborescence.{reached_from}
use Rattle.st_model.specs.Lists.{has}
use Rattle.st_model.proofs.Judging.{reached_next}
use Rattle.st_model.proofs.Marked.{has-push}
use Rattle.arborescence.specs.DiNetwork.{di_ground}
use Rattle.arborescence.proofs.DiTrees.{grows_next, away_between}
use Rattle.arborescence.proofs.judge.grown.Goals as goal

pub loop-tail-init : goal.loop-tail-init
loop-tail-init c = record {
  count = omega (arith, c.in_ok-insert.ensures.count, c.in_ok-reached.ensures.count, c.vertices.ensures.count);
  decides = (λ g. g, λ g. g);
  same = λ v. rw (c.in_ok-insert.ensures.members, c.in_ok-reached.ensures.empty, c.root.ensures.root) refl;
}

pub returns-then-not-is_new_arc-clause-grows : goal.returns-then-not-is_new_arc-clause-grows
returns-then-not-is_new_arc-clause-grows c =
    let D = c.args.instance.now in
    let next = grows_next (di_ground D) (D.root ∷ []) c.args.arcs.now c.loop-tail.tail-index (0, 0) c.loop-tail-test.true in (
      λ never. absurd (false≢true never),
      λ g.
          let first = (next.0 (c.loop-tail.invariant.decides.0 g)).0 in
          sym c.if-not-is_new_arc.true ∙ c.is_new_arc.ensures.1 (first.0, c.loop-tail.invariant.same _ ∙ first.1, c.loop-tail.invariant.same _ ∙ first.2),
    )

pub insert-requires-in-loop-tail : goal.insert-requires-in-loop-tail
insert-requires-in-loop-tail c =
    let arc = get_or c.args.arcs.now c.loop-tail.tail-index (0, 0) in
    let new = c.is_new_arc.ensures.0 c.if-not-is_new_arc.false in
    let ends = away_between c.args.instance.now arc.0 arc.1 c.vertices.ensures.instance new.0 in
    omega (arith, ends.1.1, c.loop-tail.invariant.count)

pub loop-tail-preserved : goal.loop-tail-preserved
loop-tail-preserved c =
    let D = c.args.instance.now in
    let arcs = c.args.arcs.now in
    let i = c.loop-tail.tail-index in
    let arc = get_or arcs i (0, 0) in
    let before = c.loop-tail.invariant in
    let next = grows_next (di_ground D) (D.root ∷ []) arcs i (0, 0) c.loop-tail-test.true in
    let new = c.is_new_arc.ensures.0 c.if-not-is_new_arc.false in
    record {
      count = c.in_ok-insert-2.ensures.count ∙ before.count;
      decides = (λ g. (next.0 (before.decides.0 g)).1, λ rest. before.decides.1 (next.1 ((new.0, sym (before.same arc.0) ∙ new.1, sym (before.same arc.1) ∙ new.2), rest)));
      same = λ v. rw (c.in_ok-insert-2.ensures.members, new.2, has-push c.loop-tail.reached.members arc.1 v, reached_next (D.root ∷ []) arcs i (0, 0) c.loop-tail-test.true, before.same v) (or_comm (has (reached_from (D.root ∷ []) (take i arcs)) v) (arc.1 == v));
    }

pub returns-clause-reached : goal.returns-clause-reached
returns-clause-reached c = λ v. rw (take_all c.loop-tail.tail-index c.args.arcs.now c.loop-tail-test.false) at (c.loop-tail.invariant.same v)
