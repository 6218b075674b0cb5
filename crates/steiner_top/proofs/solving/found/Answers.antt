use Rattle.std.proofs.Common.{rules, ◌≡◌, List, [], ◌∷◌, subst}
use Rattle.st_model.specs.Network.{Network}
use Rattle.search_core.specs.declared.gathered.Searched.{Searched}
use Rattle.certificate_log.specs.Assembled.{IsAssembled}
use Rattle.steiner_top.specs.Left.{IsShownBy}
use Rattle.steiner_top.proofs.Certifying.{IsLed, shown_outcome}
use Rattle.steiner_top.proofs.WritableSteps.{steps_are_writable}
use Rattle.steiner_top.proofs.solving.found.Goals as goal

pub assemble-requires-clause-steps : goal.assemble-requires-clause-steps
assemble-requires-clause-steps c =
    let counted = rw c.deref.ensures.value at c.count_steps.ensures.vertices in
    steps_are_writable c.args.reading.now.instance c.args.left.steps.items c.args.left.reduced.state c.vertices.ensures.instance c.requires.left.applies counted

pub returns : goal.returns
returns c =
    let I = c.args.reading.now.instance in
    let steps = c.args.left.steps.items in
    let s = c.args.left.reduced.state in
    let log = c.in_ok-certificate.certificate in
    let led : IsLed c.args.wanted.nodes c.args.wanted.plain c.args.wanted.links I steps s c.args.best log = record {
      instance = c.vertices.ensures.instance;
      applies = c.requires.left.applies;
      taken = c.requires.left.steps;
      best = c.requires.best;
      assembled = subst (λ (J : Network). IsAssembled steps J s c.args.best.search.gathered log) c.requires.left.first c.in_ok-certificate.ensures;
    } in
    let one = c.args.best.search in
    let same : c.in_ok-searches.searches.items ≡ one ∷ [] = search rules in
    let o = c.in_ok-outcome.outcome in
    let listed = subst (λ (ss : List Searched). IsShownBy one.gathered.claimed ss log c.args.reading.now.scale o) same c.in_ok-outcome.ensures in
    shown_outcome c.args.wanted.nodes c.args.wanted.plain c.args.wanted.links I steps s c.args.best log led c.args.reading.now.scale o c.accepted_holds.ensures listed
