use Rattle.std.proofs.Common.{◌∙◌, subst}
use Rattle.std.specs.Prelude.{IfSome}
use Rattle.st_model.specs.Network.{Network}
use Rattle.resuming.specs.GoingOn.{GoOn, IsKnown}
use Rattle.resuming.proofs.Firsts.{gone_in}
use Rattle.resuming.proofs.from_log.searched.Goals as goal

pub returns : goal.returns
returns g c =
    let s = c.args.reduced.now.state in
    let (p, x, written, proves) = c.requires.proves in
    let whole_is = c.in_ok-whole.ensures ∙ c.in_ok-rest.ensures.instance in
    let known = c.in_ok-known.known in
    let closes = c.in_ok-closes.closes.nodes in
    let gone = c.in_ok-gone.gone in
    let gone_on = subst (λ (N : Network). GoOn N closes known.least c.args.limits.budget gone.searches.items gone.known.least) whole_is c.in_ok-gone.ensures.searches in
    let tree = subst (λ (N : Network). IfSome gone.known.tree (IsKnown N known.tree closes gone.known.least)) whole_is c.in_ok-gone.ensures.tree in
    gone_in s c.args.best.now.cost c.args.limits.budget p c.args.proof.now known closes gone c.in_ok-known.ensures written c.in_ok-closes.ensures.nodes gone_on tree c.in_ok-gone.ensures.none
