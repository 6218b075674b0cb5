use Rattle.std.proofs.Common.{List, ℕ, ◌++◌, ap, ◌∙◌}
use Rattle.cert_checker.proofs.Answering.{fed_answers, concludes_fed}
use Rattle.cert_checker.proofs.checking.answer.Goals as goal

pub returns-clause-exact : goal.returns-clause-exact
returns-clause-exact c =
    let log = c.args.log.now in
    let first = c.in_ok-checker.checker in
    let fed = c.in_ok-checker-2.checker in
    let found = c.in_ok-checker.ensures.found in
    fed_answers c.args.stp.now log found.0 first fed c.finish.result found.1 found.2 c.in_ok-checker-2.ensures.problem c.in_ok-checker-2.ensures.scale (c.in_ok-checker-2.ensures.text ∙ ap (λ (r : List ℕ). r ++ log) found.3) c.finish.ensures.exact

pub returns-clause-concludes : goal.returns-clause-concludes
returns-clause-concludes c = λ I scale reads. concludes_fed I scale c.in_ok-checker.checker c.in_ok-checker-2.checker c.finish.result (c.in_ok-checker.ensures.only I scale reads) c.in_ok-checker-2.ensures.problem c.finish.ensures.concludes
