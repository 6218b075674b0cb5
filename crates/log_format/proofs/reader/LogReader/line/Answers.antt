use Rattle.std.proofs.Common.{◌≡◌, None, Bool, ap, subst, ◌∙◌}
use Rattle.std.proofs.lemmas.Result.{err_from_is_err_and}
use Rattle.log_format.specs.declared.fault.LineError.{LineError}
use Rattle.log_format.specs.declared.fault.LineError.TheVariants.{BadLine}
use Rattle.log_format.specs.Reading.{Fails, version_with}
use Rattle.log_format.specs.Places.{before_header, said}
use Rattle.log_format.proofs.PlaceLaws.{said_takes, after_is_place, after_more, after_begins, after_stops}
use Rattle.log_format.proofs.reader.LogReader.line.Goals as goal

pub said-requires : goal.said-requires
said-requires c = after_is_place c.self.inside.past.pieces c.self.inside.version c.self.inside.place c.self.invariant

pub returns-in_err-item-clause-refused : goal.returns-in_err-item-clause-refused
returns-in_err-item-clause-refused c = λ is begins.
    let p = err_from_is_err_and c.from_residual.result c.from_residual.ensures.1 in
    let bad : c.in_err-item.field-0.0 ≡ BadLine = cc in
    let next : c.version_with-version.result ≡ version_with c.self.inside.version (before_header c.self.inside.place) c.args.line.now = c.version_with-version.ensures ∙ ap (λ (b : Bool). version_with c.self.inside.version b c.args.line.now) c.is_before_header.ensures in
    let none : said c.version_with-version.result c.self.inside.place c.args.line.now ≡ None = subst (λ (e : LineError). Fails e (said c.version_with-version.result c.self.inside.place c.args.line.now)) bad c.in_err-item.ensures in
    after_stops c.self.inside.past.pieces c.self.inside.version c.version_with-version.result c.self.inside.place c.args.line.now next c.self.invariant none (rw c.self.view_is begins)

pub invariant_of-self : goal.invariant_of-self
invariant_of-self c =
    let next : c.version_with-version.result ≡ version_with c.self.inside.version (before_header c.self.inside.place) c.args.line.now = c.version_with-version.ensures ∙ ap (λ (b : Bool). version_with c.self.inside.version b c.args.line.now) c.is_before_header.ensures in
    rw c.note.ensures (after_more c.self.inside.past.pieces c.self.inside.version c.version_with-version.result c.self.inside.place c.args.line.now (c.in_ok-item.item, c.in_ok-item.place) next c.self.invariant c.in_ok-item.ensures)

pub returns-clause-begins : goal.returns-clause-begins
returns-clause-begins c = after_begins c.note.new.self.pieces c.version_with-version.result c.in_ok-item.place (invariant_of-self c)

pub returns-clause-item : goal.returns-clause-item
returns-clause-item c = said_takes c.version_with-version.result c.self.inside.place c.args.line.now (c.in_ok-item.item, c.in_ok-item.place) c.in_ok-item.ensures
