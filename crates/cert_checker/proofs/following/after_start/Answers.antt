use Rattle.std.proofs.Common.{◌≡◌, ℕ, ◌+◌, List, [], sym, subst, ◌∙◌}
use Rattle.log_format.specs.declared.item.Item.TheVariants.{TreeHead}
use Rattle.log_format.specs.Places.{taken}
use Rattle.cert_checker.specs.declared.stage.Stage.TheVariants.{AmongArcs}
use Rattle.cert_checker.specs.Following.{IsJudged}
use Rattle.cert_checker.proofs.Nexts.{tree_next}
use Rattle.cert_checker.proofs.Unsaid.{no_tree}
use Rattle.cert_checker.proofs.following.after_start.Goals as goal

pub returns-in-BeforeTree : goal.returns-in-BeforeTree
returns-in-BeforeTree c = λ I arcs count s below judged.
    let none : c.of.result ≡ [] = c.of.ensures ∙ c.new.ensures.items in
    subst (λ (r : List (ℕ × ℕ)). IsJudged I (count + 1) (taken s (TreeHead c.args.start arcs)) (AmongArcs c.in-BeforeTree.primal c.in-BeforeTree.dual c.args.start r)) (sym none) (tree_next I count c.in-BeforeTree.primal c.in-BeforeTree.dual c.args.start arcs s (subst (IsJudged I count s) c.in-BeforeTree.is judged))

pub returns-in_default : goal.returns-in_default
returns-in_default c = λ I arcs count s below judged. no_tree I count c.args.stage c.in_default.not-BeforeTree c.args.start arcs s judged
