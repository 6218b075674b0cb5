use Rattle.std.proofs.Common.{◌≡◌, ℕ, ◌+◌, List, [], ◌∷◌, ◌++◌, sym, subst}
use Rattle.log_format.specs.declared.item.Item.TheVariants.{Arc}
use Rattle.log_format.specs.Places.{taken}
use Rattle.cert_checker.specs.declared.stage.Stage.TheVariants.{AmongArcs}
use Rattle.cert_checker.specs.Following.{IsJudged}
use Rattle.cert_checker.proofs.Nexts.{arc_next}
use Rattle.cert_checker.proofs.Unsaid.{no_arc}
use Rattle.cert_checker.proofs.following.after_arc.Goals as goal

pub returns-in_ok-push-in-AmongArcs : goal.returns-in_ok-push-in-AmongArcs
returns-in_ok-push-in-AmongArcs c = λ I count s below judged.
    let a = c.in-AmongArcs in
    let more : c.of.result ≡ a.arcs ++ (c.args.tail, c.args.head) ∷ [] = cc (c.of.ensures, c.in_ok-push-in-AmongArcs.ensures.items, c.into_vec-arcs.ensures) in
    subst (λ (r : List (ℕ × ℕ)). IsJudged I (count + 1) (taken s (Arc c.args.tail c.args.head)) (AmongArcs a.primal a.dual a.start r)) (sym more) (arc_next I count a.primal a.dual a.start c.args.tail c.args.head a.arcs s (subst (IsJudged I count s) c.in-AmongArcs.is judged))

pub returns-in_default : goal.returns-in_default
returns-in_default c = λ I count s below judged. no_arc I count c.args.stage c.in_default.not-AmongArcs c.args.tail c.args.head s judged
