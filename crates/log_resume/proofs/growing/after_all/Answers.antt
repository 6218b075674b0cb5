use Rattle.std.proofs.Common.{List, ◌∷◌, ◌+◌, drop, refl, subst}
use Rattle.log_format.specs.declared.proof_line.ProofLine.{ProofLine}
use Rattle.log_resume.proofs.Weighing.{IsWalking, may_split, next_line, walking_ends, walking_on}
use Rattle.log_resume.proofs.growing.after_all.Goals as goal

pub loop-line-init : goal.loop-line-init
loop-line-init c = record { same = refl; may = c.requires; ends = refl }

pub after-requires : goal.after-requires
after-requires c = λ p at was is.
    let o = c.loop-line.walk in
    let lines = c.args.lines.now in
    let i = c.loop-line.line-index in
    let l = c.line-item.result in
    let walking : IsWalking c.args.walk.instance c.args.walk.path c.args.top lines o c.loop-line.least (l ∷ drop (i + 1) lines) =
    subst (λ (rest : List ProofLine). IsWalking c.args.walk.instance c.args.walk.path c.args.top lines o c.loop-line.least rest) (next_line lines i l c.loop-line-test.true c.line-item.is) c.loop-line.invariant in
    may_split o.instance o.path l p at walking.may.0 was is

pub loop-line-preserved : goal.loop-line-preserved
loop-line-preserved c =
    let o = c.loop-line.walk in
    let lines = c.args.lines.now in
    let i = c.loop-line.line-index in
    let l = c.line-item.result in
    let walking : IsWalking c.args.walk.instance c.args.walk.path c.args.top lines o c.loop-line.least (l ∷ drop (i + 1) lines) =
    subst (λ (rest : List ProofLine). IsWalking c.args.walk.instance c.args.walk.path c.args.top lines o c.loop-line.least rest) (next_line lines i l c.loop-line-test.true c.line-item.is) c.loop-line.invariant in
    walking_on c.args.walk.instance c.args.walk.path c.args.top lines o c.in_ok-walk.walk c.loop-line.least c.least_of-least.result l (drop (i + 1) lines) walking c.in_ok-walk.ensures c.least_of-least.ensures

pub returns-clause-same : goal.returns-clause-same
returns-clause-same c = c.loop-line.invariant.same

pub returns-clause-end : goal.returns-clause-end
returns-clause-end c =
    walking_ends c.args.walk.instance c.args.walk.path c.args.top c.args.lines.now c.loop-line.walk c.loop-line.least c.loop-line.line-index c.loop-line.invariant c.loop-line-test.false
