use Rattle.std.proofs.Common.{arith}
use Rattle.node_work.specs.Raising.{IsExtendable}
use Rattle.node_work.proofs.Found.{fitting_root, reached_closes}
use Rattle.node_work.proofs.repairing.repaired.Goals as goal

pub returns : goal.returns
returns g c =
    let t = c.args.target.now in
    let I = t.place.whole.now.instance in
    let B = t.place.branch.now in
    let P = c.in_ok-borne.borne in
    let started = rw c.if-not-branch.false at c.in_ok-is_start.ensures in
    let able : IsExtendable I B P t.root t.least = record {
      start = record { branch = t.place.branched; required = c.requires.required; fits = started.0; sets = c.in_ok-borne.ensures.sets };
      rooted = fitting_root I B P t.root started.0 c.in_ok-borne.ensures.root;
      light = started.1;
    } in
    let refined = c.in_ok-refined.ensures.extends P able c.in_ok-raised.ensures in
    reached_closes I B P t.root t.least c.in_ok-refined.refined.ascent c.reached.result c.requires.instance started.1 (omega (arith, c.if-prove.false)) refined.extended c.reached.ensures
