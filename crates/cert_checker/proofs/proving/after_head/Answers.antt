use Rattle.std.proofs.Common.{◌≡◌, List, [], subst, ◌∙◌}
use Rattle.cut_packing.specs.declared.cut.Cut.{Cut}
use Rattle.cert_checker.specs.Posed.{problem_of}
use Rattle.cert_checker.specs.Following.{IsAfterCuts}
use Rattle.cert_checker.specs.Following.{IsJudged}
use Rattle.cert_checker.proofs.Halves.{close_next}
use Rattle.cert_checker.proofs.Unsaid.{no_close}
use Rattle.cert_checker.proofs.proving.after_head.Goals as goal

pub returns-in_ok-next-in-BeforeHalf : goal.returns-in_ok-next-in-BeforeHalf
returns-in_ok-next-in-BeforeHalf c = λ count s below judged.
    let K = problem_of c.args.posed.now in
    let h = c.in-BeforeHalf.proving in
    let next = c.in_ok-next-in-BeforeHalf.next in
    let none : c.of-none.result ≡ [] = c.of-none.ensures ∙ c.new.ensures.items in
    close_next K count c.args.count c.args.root h next s below (subst (λ (cuts : List Cut). IsAfterCuts K h c.args.root cuts c.args.count next) none c.in_ok-next-in-BeforeHalf.ensures) (subst (IsJudged K count s) c.in-BeforeHalf.is judged)

pub returns-in_default : goal.returns-in_default
returns-in_default c = λ count s below judged. no_close (problem_of c.args.posed.now) count c.args.stage c.in_default.not-BeforeHalf c.args.root c.args.count s judged
