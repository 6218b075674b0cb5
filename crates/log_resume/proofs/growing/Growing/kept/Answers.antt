use Rattle.std.proofs.Common.{ap, ◌∙◌}
use Rattle.log_resume.specs.Growing.{growth, passed}
use Rattle.log_resume.specs.Lines.{Lines}
use Rattle.log_resume.specs.Open.{Opened}
use Rattle.log_resume.proofs.Stands.{kept}
use Rattle.log_resume.proofs.growing.Growing.kept.Goals as goal

pub returns-clause-goes : goal.returns-clause-goes
returns-clause-goes c =
    let (path, ready) = c.requires.ready in
    let w = c.in_ok-written.written in
    kept (growth c.args.self) c.args.packing.now path c.in_ok-walk.walk.instance c.in_ok-walk.walk.path w.lines c.weighed-weight.result w.least ready.path c.requires.due c.weighed-weight.ensures
    (ap (λ (o : Opened). o.instance) c.in_ok-walk.ensures) (ap (λ (o : Opened). o.path) c.in_ok-walk.ensures ∙ ap (passed c.args.self.walk.path) c.requires.line) (ap (λ (l : Lines). l.lines) c.in_ok-written.ensures) (ap (λ (l : Lines). l.least) c.in_ok-written.ensures)
