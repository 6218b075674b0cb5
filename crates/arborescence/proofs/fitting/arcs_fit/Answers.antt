use Rattle.arborescence.specs.DiNetwork.{di_ground}
use Rattle.cut_packing.proofs.Judged.{arcs_fit_iff}
use Rattle.arborescence.proofs.fitting.arcs_fit.Goals as goal

pub returns : goal.returns
returns c =
    let iff = arcs_fit_iff (di_ground c.args.instance.now) c.args.branch.now c.args.packing.now.cuts c.in_ok-arcs.arcs (rw c.as_slice.ensures at c.in_ok-arcs.ensures) in
    (λ yes. iff.0 (c.can_bear.ensures.0 yes), λ all. c.can_bear.ensures.1 (iff.1 all))
