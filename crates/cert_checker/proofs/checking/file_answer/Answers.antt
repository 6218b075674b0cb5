use Rattle.std.proofs.Common.{List, ℕ, ◌++◌, ap, ◌∙◌}
use Rattle.cert_checker.proofs.Answering.{fed_file_answers, concludes_file}
use Rattle.cert_checker.proofs.checking.file_answer.Goals as goal

pub returns-clause-exact : goal.returns-clause-exact
returns-clause-exact c =
    let log = c.args.log.now in
    let first = c.in_ok-checker.checker in
    let fed = c.in_ok-checker-2.checker in
    let found = c.in_ok-checker.ensures.found in
    fed_file_answers c.args.stp.now log first fed c.finish.result found.0 c.in_ok-checker-2.ensures.problem c.in_ok-checker-2.ensures.scale (c.in_ok-checker-2.ensures.text ∙ ap (λ (r : List ℕ). r ++ log) found.1) c.finish.ensures.exact

pub returns-clause-concludes : goal.returns-clause-concludes
returns-clause-concludes c = λ p scale reads. concludes_file p scale c.in_ok-checker.checker c.in_ok-checker-2.checker c.finish.result (c.in_ok-checker.ensures.only p scale reads) c.in_ok-checker-2.ensures.problem c.finish.ensures.concludes
