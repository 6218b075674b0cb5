use Rattle.std.proofs.Common.{◌≡◌, None, Some, Bool, sym, ap, subst, ◌∙◌}
use Rattle.std.proofs.lemmas.Result.{err_from_is_err_and}
use Rattle.log_format.specs.declared.fault.LineError.{LineError}
use Rattle.log_format.specs.declared.fault.LineError.TheVariants.{BadLine}
use Rattle.log_format.specs.declared.stage.Stage.{Stage}
use Rattle.log_format.specs.Reading.{Fails, version_with, step}
use Rattle.log_format.proofs.Finishing.{next_version, read_none, read_next, read_begins, refused_stops}
use Rattle.log_format.proofs.gathering.Gathering.line.Goals as goal

pub invariant_of-self : goal.invariant_of-self
invariant_of-self c = rw c.replace-stage.ensures.after (read_none c.self.inside.version)

pub returns-in_err-self-inside-clause-refused : goal.returns-in_err-self-inside-clause-refused
returns-in_err-self-inside-clause-refused c = λ is begins.
    let p = err_from_is_err_and c.from_residual.result c.from_residual.ensures.1 in
    let bad : c.in_err-self-inside.field-0.0 ≡ BadLine = cc in
    let next : c.version_with-version.result ≡ next_version c.self.inside.version c.self.inside.stage c.args.line.now = c.version_with-version.ensures ∙ ap (λ (b : Bool). version_with c.self.inside.version b c.args.line.now) c.is_at_header.ensures in
    let fails : Fails BadLine (step c.version_with-version.result c.replace-stage.result c.args.line.now) = subst (λ (e : LineError). Fails e (step c.version_with-version.result c.replace-stage.result c.args.line.now)) bad c.in_err-self-inside.ensures in
    let none : step c.version_with-version.result c.self.inside.stage c.args.line.now ≡ None = ap (λ (s : Stage). step c.version_with-version.result s c.args.line.now) (sym c.replace-stage.ensures.value) ∙ fails in
    refused_stops c.self.inside.version c.version_with-version.result c.self.inside.stage c.args.line.now next c.self.invariant none (rw c.self.view_is begins)

pub invariant_of-self-2 : goal.invariant_of-self-2
invariant_of-self-2 c =
    let next : c.version_with-version.result ≡ next_version c.self.inside.version c.self.inside.stage c.args.line.now = c.version_with-version.ensures ∙ ap (λ (b : Bool). version_with c.self.inside.version b c.args.line.now) c.is_at_header.ensures in
    let stepped : step c.version_with-version.result c.self.inside.stage c.args.line.now ≡ Some c.in_ok-self-inside.field-0 = ap (λ (s : Stage). step c.version_with-version.result s c.args.line.now) (sym c.replace-stage.ensures.value) ∙ c.in_ok-self-inside.ensures in
    (read_next c.self.inside.version c.version_with-version.result c.self.inside.stage c.in_ok-self-inside.field-0 c.args.line.now next c.self.invariant stepped).0

pub returns-clause-ok : goal.returns-clause-ok
returns-clause-ok c =
    let next : c.version_with-version.result ≡ next_version c.self.inside.version c.self.inside.stage c.args.line.now = c.version_with-version.ensures ∙ ap (λ (b : Bool). version_with c.self.inside.version b c.args.line.now) c.is_at_header.ensures in
    let stepped : step c.version_with-version.result c.self.inside.stage c.args.line.now ≡ Some c.in_ok-self-inside.field-0 = ap (λ (s : Stage). step c.version_with-version.result s c.args.line.now) (sym c.replace-stage.ensures.value) ∙ c.in_ok-self-inside.ensures in
    rw (← c.self.view_is) ((read_next c.self.inside.version c.version_with-version.result c.self.inside.stage c.in_ok-self-inside.field-0 c.args.line.now next c.self.invariant stepped).1)

pub returns-clause-begins : goal.returns-clause-begins
returns-clause-begins c = read_begins c.version_with-version.result c.in_ok-self-inside.field-0 (invariant_of-self-2 c)
