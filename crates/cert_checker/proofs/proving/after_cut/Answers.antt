use Rattle.std.proofs.Common.{◌≡◌, ℕ, List, [], ◌∷◌, ◌++◌, subst}
use Rattle.cut_packing.specs.declared.cut.Cut.{Cut}
use Rattle.cert_checker.specs.Posed.{problem_of}
use Rattle.cert_checker.specs.Following.{IsAfterCuts}
use Rattle.cert_checker.specs.Following.{IsJudged}
use Rattle.cert_checker.proofs.Halves.{cut_next}
use Rattle.cert_checker.proofs.Unsaid.{no_cut}
use Rattle.cert_checker.proofs.proving.after_cut.Goals as goal

pub returns-in_ok-next-in-AmongCuts : goal.returns-in_ok-next-in-AmongCuts
returns-in_ok-next-in-AmongCuts c = λ count s below judged.
    let K = problem_of c.args.posed.now in
    let a = c.in-AmongCuts in
    let next = c.in_ok-next-in-AmongCuts.next in
    let more : c.of-cuts.result ≡ a.cuts ++ c.args.cut ∷ [] = cc (c.of-cuts.ensures, c.in_ok-push-in-AmongCuts.ensures.items, c.into_vec-cuts.ensures) in
    let after = subst (λ (left : ℕ). IsAfterCuts K a.proving a.root (a.cuts ++ c.args.cut ∷ []) left next) c.saturating_sub.ensures (subst (λ (cuts : List Cut). IsAfterCuts K a.proving a.root cuts c.saturating_sub.result next) more c.in_ok-next-in-AmongCuts.ensures) in
    cut_next K count a.left a.root a.cuts c.args.cut a.proving next s below after (subst (IsJudged K count s) c.in-AmongCuts.is judged)

pub returns-in_default : goal.returns-in_default
returns-in_default c = λ count s below judged. no_cut (problem_of c.args.posed.now) count c.args.stage c.in_default.not-AmongCuts c.args.cut s judged
