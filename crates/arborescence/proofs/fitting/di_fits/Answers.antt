use Rattle.std.proofs.lemmas.Result.{IfOk-weaker}
use Rattle.arborescence.proofs.DiWeights.{certain_prizes}
use Rattle.arborescence.proofs.fitting.di_fits.Goals as goal

pub returns : goal.returns
returns c =
    let root = c.root_fits.ensures.0 c.if-not-root_fits.false in
    let cuts = rw c.as_slice.ensures at (c.cuts_fit.ensures.0 c.if-not-cuts_fit.false) in
    IfOk-weaker c.arcs_fit.result _ _ (λ fit iff. (
      λ h. record { root = root; cuts = cuts; arcs = iff.0 h; prizes = certain_prizes c.args.instance.now c.args.branch.now c.args.packing.now.cuts cuts },
      λ fits. iff.1 fits.arcs,
    )) c.arcs_fit.ensures
