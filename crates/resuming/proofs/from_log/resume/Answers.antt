use Rattle.std.proofs.Common.{◌+◌, ◌≤◌, ◌^◌, ◌<◌, List, arith, subst}
use Rattle.lift_back.specs.declared.step.Step.{Step}
use Rattle.lift_back.specs.State.{whole}
use Rattle.lift_back.specs.Steps.{Applies}
use Rattle.resuming.proofs.Concluding.{claimed_found, concluded, lines_writable, no_more, old_proof_of, primal_fits, proves_some, ready_of, searches_are, searches_at, tree_within}
use Rattle.resuming.proofs.Firsts.{offset_within}
use Rattle.resuming.proofs.from_log.resume.Goals as goal

pub searched-requires-clause-tree : goal.searched-requires-clause-tree
searched-requires-clause-tree g c κs within =
    let f = c.in-Found in
    let I = c.args.instance.now in
    let s = c.in_ok-reduced.reduced.state in
    let is = claimed_found I c.args.log f.primal f.dual f.tree f.steps f.proof c.vertices.ensures.instance f.is c.requires.accepted in
    let applies = subst (λ (ss : List Step). Applies ss (whole I) s) c.as_slice.ensures c.in_ok-reduced.ensures.applies in
    tree_within I c.args.log f.primal f.dual f.tree f.steps f.proof is s c.steps_keep_the_best.ensures.least applies

pub searched-requires-clause-proves : goal.searched-requires-clause-proves
searched-requires-clause-proves g c κs within =
    let f = c.in-Found in
    let I = c.args.instance.now in
    let s = c.in_ok-reduced.reduced.state in
    let is = claimed_found I c.args.log f.primal f.dual f.tree f.steps f.proof c.vertices.ensures.instance f.is c.requires.accepted in
    let applies = subst (λ (ss : List Step). Applies ss (whole I) s) c.as_slice.ensures c.in_ok-reduced.ensures.applies in
    proves_some I c.args.log f.primal f.dual f.tree f.steps f.proof is s applies

pub searched-requires-clause-writable : goal.searched-requires-clause-writable
searched-requires-clause-writable g c κs within =
    let f = c.in-Found in
    lines_writable c.args.log f.primal f.dual f.tree f.steps f.proof f.is c.requires.log

pub overflow_add-primal : goal.overflow_add-primal
overflow_add-primal g c =
    let f = c.in-Found in
    let I = c.args.instance.now in
    let s = c.in_ok-reduced.reduced.state in
    let gone = c.in_ok-gone.gone in
    let (p, ready) = ready_of I c.args.limits.budget f.primal f.dual f.tree c.as_slice.result.now f.steps f.proof s gone c.args.log c.vertices.ensures.instance f.is c.requires.accepted c.as_slice.ensures c.in_ok-reduced.ensures.applies c.in_ok-gone.ensures in
    let tree = tree_within I c.args.log f.primal f.dual f.tree f.steps f.proof ready.claimed s c.steps_keep_the_best.ensures.least ready.applies in
    let low : gone.known.least + s.offset ≤ f.primal = no_more I c.args.limits.budget f.primal f.dual f.tree f.steps f.proof s p gone c.args.log ready (offset_within s f.primal tree) in
    let fits : f.primal < 2 ^ 64 = primal_fits c.args.log f.primal f.dual f.tree f.steps f.proof f.is c.requires.log in
    omega (arith, low, fits, c.offset.ensures.offset)

pub graft-requires-clause-proof : goal.graft-requires-clause-proof
graft-requires-clause-proof g c =
    let f = c.in-Found in
    let I = c.args.instance.now in
    let s = c.in_ok-reduced.reduced.state in
    let gone = c.in_ok-gone.gone in
    let (p, ready) = ready_of I c.args.limits.budget f.primal f.dual f.tree c.as_slice.result.now f.steps f.proof s gone c.args.log c.vertices.ensures.instance f.is c.requires.accepted c.as_slice.ensures c.in_ok-reduced.ensures.applies c.in_ok-gone.ensures in
    old_proof_of I c.args.limits.budget f.primal f.dual f.tree f.steps f.proof s p gone c.args.log ready c.in_ok-reduced.reduced.first c.in_ok-reduced.ensures.first

pub graft-requires-clause-searches : goal.graft-requires-clause-searches
graft-requires-clause-searches g c =
    let f = c.in-Found in
    let I = c.args.instance.now in
    let s = c.in_ok-reduced.reduced.state in
    let gone = c.in_ok-gone.gone in
    let (p, ready) = ready_of I c.args.limits.budget f.primal f.dual f.tree c.as_slice.result.now f.steps f.proof s gone c.args.log c.vertices.ensures.instance f.is c.requires.accepted c.as_slice.ensures c.in_ok-reduced.ensures.applies c.in_ok-gone.ensures in
    searches_are I c.args.limits.budget f.primal f.dual f.tree f.steps f.proof s p gone c.args.log ready c.deref.result.now c.deref.ensures.value

pub graft-requires-clause-sites : goal.graft-requires-clause-sites
graft-requires-clause-sites g c one =
    let f = c.in-Found in
    let I = c.args.instance.now in
    let s = c.in_ok-reduced.reduced.state in
    let gone = c.in_ok-gone.gone in
    let (p, ready) = ready_of I c.args.limits.budget f.primal f.dual f.tree c.as_slice.result.now f.steps f.proof s gone c.args.log c.vertices.ensures.instance f.is c.requires.accepted c.as_slice.ensures c.in_ok-reduced.ensures.applies c.in_ok-gone.ensures in
    searches_at I c.args.limits.budget f.primal f.dual f.tree f.steps f.proof s p gone c.args.log ready c.deref.result.now c.deref.ensures.value

pub returns : goal.returns
returns g c =
    let f = c.in-Found in
    let I = c.args.instance.now in
    let s = c.in_ok-reduced.reduced.state in
    let gone = c.in_ok-gone.gone in
    let (p, ready) = ready_of I c.args.limits.budget f.primal f.dual f.tree c.as_slice.result.now f.steps f.proof s gone c.args.log c.vertices.ensures.instance f.is c.requires.accepted c.as_slice.ensures c.in_ok-reduced.ensures.applies c.in_ok-gone.ensures in
    let tree = tree_within I c.args.log f.primal f.dual f.tree f.steps f.proof ready.claimed s c.steps_keep_the_best.ensures.least ready.applies in
    concluded I c.args.limits.budget f.primal f.dual f.tree f.steps f.proof s p gone c.in_ok-tree.tree c.args.log c.in_ok-certificate.certificate c.in_ok-reduced.reduced.first c.offset.result c.deref.result.now ready
    (offset_within s f.primal tree) c.in_ok-reduced.ensures.first c.offset.ensures.offset c.deref.ensures.value c.in_ok-tree.ensures.tree c.in_ok-tree.ensures.cost c.in_ok-certificate.ensures c.accepted_holds.ensures c.requires.accepted c.grafted_weighs.ensures
