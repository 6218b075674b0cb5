use Rattle.std.proofs.Common.{ℕ, List, [], sym, subst}
use Rattle.cert_checker.specs.Posed.{problem_of}
use Rattle.cert_checker.specs.declared.stage.Stage.TheVariants.{BeforeHeader}
use Rattle.cert_checker.specs.Held.{Open}
use Rattle.cert_checker.specs.Hearing.{IsHearing}
use Rattle.cert_checker.proofs.Hears.{hears_none}
use Rattle.cert_checker.proofs.hearing.Hearing.new.Goals as goal

pub invariant_of-result : goal.invariant_of-result
invariant_of-result c =
    let K = problem_of c.args.posed in
    subst (λ (lines : List (List ℕ)). IsHearing K lines BeforeHeader c.new.result 0) (sym c.begin.ensures.none) (subst (λ (o : Open). IsHearing K [] BeforeHeader o 0) (sym c.new.ensures) (hears_none K))
