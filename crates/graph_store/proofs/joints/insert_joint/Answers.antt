use Rattle.std.proofs.Common.{◌∙◌, sym}
use Rattle.indexmap.proofs.CallerLemmas.{insert_entry-new}
use Rattle.graph_store.proofs.Pairs.{same_pair}
use Rattle.graph_store.proofs.JointLemmas.{joint_of-ordered, ArePairs-push}
use Rattle.graph_store.proofs.joints.insert_joint.Goals as goal

pub returns-clause-ok : goal.returns-clause-ok
returns-clause-ok c =
    c.in_ok-insert.ensures.entries ∙ insert_entry-new same_pair c.args.joints.now (c.args.low, c.args.high) c.args.joint (sym (joint_of-ordered c.args.low c.args.high c.args.joints.now.entries c.requires.ordered) ∙ c.requires.absent)

pub returns-clause-pairs : goal.returns-clause-pairs
returns-clause-pairs c = record {
  ordered = ArePairs-push c.args.joints.now.entries _ c.args.low c.args.high c.args.joint (returns-clause-ok c) c.requires.ordered c.requires.pairs.ordered;
  once = c.in_ok-insert.ensures.unique;
}
