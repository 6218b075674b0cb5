use Rattle.std.proofs.Common.{◌∙◌, ap, sym, cond, None}
use Rattle.std.specs.Prelude.{min, max}
use Rattle.graph_store.specs.Joined.{joint_of}
use Rattle.graph_store.proofs.Pairs.{ends_are}
use Rattle.graph_store.proofs.JointLemmas.{take_moves, take_ordered}
use Rattle.graph_store.proofs.joints.take_joint.Goals as goal

pub returns-clause-others : goal.returns-clause-others
returns-clause-others c x y =
    let updates = rw (c.min.ensures, c.max.ensures) at c.swap_remove.ensures.updates in
    updates.0 (min x y, max x y) ∙ ap (λ b. cond b None (joint_of c.args.joints.now.entries x y)) (sym (ends_are c.args.u c.args.w x y))

pub returns-clause-moved : goal.returns-clause-moved
returns-clause-moved c = take_moves _ _ c.args.joints.now.entries _ c.swap_remove.result (rw (c.min.ensures, c.max.ensures) at c.swap_remove.ensures.value) (rw (c.min.ensures, c.max.ensures) at c.swap_remove.ensures.entries)

pub returns-clause-pairs : goal.returns-clause-pairs
returns-clause-pairs c = record {
  ordered = take_ordered (min c.args.u c.args.w) (max c.args.u c.args.w) c.args.joints.now.entries _ c.swap_remove.result (returns-clause-moved c) c.swap_remove.ensures.unchanged c.requires.ordered;
  once = c.swap_remove.ensures.unique;
}
