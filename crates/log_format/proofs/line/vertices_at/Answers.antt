use Rattle.std.proofs.Common.{◌≡◌, ◌++◌, ◌∷◌, [], sym, ◌∙◌}
use Rattle.std.proofs.lemmas.Result.{err_from_is_err_and}
use Rattle.log_format.specs.Reading.{vertices_at}
use Rattle.log_format.proofs.Loop.{goes_on, ends, too_long, all_read}
use Rattle.log_format.proofs.line.vertices_at.Goals as goal

pub returns-in_err-vertex : goal.returns-in_err-vertex
returns-in_err-vertex c =
    let p = err_from_is_err_and c.from_residual.result c.from_residual.ensures.1 in
    let all = vertices_at c.args.count c.args.bytes.now in
    rw (p.1, p.2) (ends c.in_err-vertex.field-0.0 c.loop.vertices.items c.args.count c.loop.counter c.loop.rest.now all c.loop-test.true c.in_err-vertex.ensures c.loop.invariant)

pub loop-preserved : goal.loop-preserved
loop-preserved c =
    let e : c.push.new.self.items ≡ c.loop.vertices.items ++ c.in_ok-vertex.vertex ∷ [] = c.in_ok-push.ensures.items in
    let all = vertices_at c.args.count c.args.bytes.now in
    rw e (goes_on c.loop.vertices.items c.args.count c.loop.counter c.loop.rest.now c.in_ok-vertex.vertex c.in_ok-vertex.others.now all c.loop-test.true c.in_ok-vertex.ensures c.loop.invariant)

pub returns-then-not-is_empty : goal.returns-then-not-is_empty
returns-then-not-is_empty c =
    let all = vertices_at c.args.count c.args.bytes.now in
    too_long c.loop.vertices.items c.args.count c.loop.counter c.loop.rest.now all c.loop-test.false (sym c.is_empty.ensures ∙ c.if-not-is_empty.true) c.loop.invariant

pub returns : goal.returns
returns c =
    let all = vertices_at c.args.count c.args.bytes.now in
    all_read c.loop.vertices.items c.args.count c.loop.counter c.loop.rest.now all c.loop-test.false (sym c.is_empty.ensures ∙ c.if-not-is_empty.false) c.loop.invariant
