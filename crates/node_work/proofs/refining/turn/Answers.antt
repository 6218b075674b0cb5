use Rattle.std.proofs.Common.{rules, ◌≡◌, ◌∷◌, ◌++◌, drop, length, take, subst, sym, ◌∙◌}
use Rattle.std.specs.Prelude.{All, IfOk, IfSome}
use Rattle.std.proofs.lemmas.List.Elements.{All-head, All-tail}
use Rattle.better_trees.proofs.Written.{written}
use Rattle.node_work.specs.Target.{IsRefinedFor}
use Rattle.node_work.specs.Trying.{IsTriedFor}
use Rattle.node_work.proofs.Refined.{either_of, or_first, refined_itself}
use Rattle.node_work.proofs.refining.turn.Goals as goal

pub loop-attempt-init : goal.loop-attempt-init
loop-attempt-init g c =
    let P = IsTriedFor c.args.site.now.target c.args.extension in
    let attempts = c.in_ok-attempts.attempts in
    let after = c.make_all.new.attempts in
    let long : length after ≡ length c.as_mut_slice.result.now = search rules in
    let all : take attempts.len (after ++ drop (length after) attempts.items) ≡ after = written after (drop (length after) attempts.items) attempts.len (sym (long ∙ c.as_mut_slice.ensures.len)) in
    let given : c.into_iter-attempt-iterator.result.rest.items ≡ take attempts.len (after ++ drop (length after) attempts.items) = search rules in
    (tt, tt, subst (All P) (sym (given ∙ all)) c.make_all.ensures, tt)

pub loop-attempt-preserved : goal.loop-attempt-preserved
loop-attempt-preserved g c =
    let P = IsTriedFor c.args.site.now.target c.args.extension in
    let R = IsRefinedFor c.args.site.now.target c.args.extension in
    let is : c.loop-attempt.attempt-iterator.rest.items ≡ c.in-Some.attempt ∷ c.next.new.self.rest.items = search rules in
    let all = subst (All P) is c.loop-attempt.invariant.2 in
    let tried : P c.in-Some.attempt = All-head P c.in-Some.attempt c.next.new.self.rest.items all in
    let raised : IfSome c.in_ok-attempt.field-0 R = subst (λ r. IfOk r (λ found. IfSome found R)) c.in_ok-attempt.was tried in
    (tt, tt, All-tail P c.in-Some.attempt c.next.new.self.rest.items all, either_of R c.loop-attempt.best c.in_ok-attempt.field-0 c.heaviest-best.result c.loop-attempt.invariant.3 raised c.heaviest-best.ensures)

pub returns : goal.returns
returns g c =
    let R = IsRefinedFor c.args.site.now.target c.args.extension in
    let t = c.args.site.now.target in
    let itself = refined_itself t.place.whole.now.instance t.place.whole.now.store t.place.branch.now t.root t.least c.args.extension c.requires.raised in
    rw c.unwrap_or.ensures (or_first R c.loop-attempt.best c.args.extension c.loop-attempt.invariant.3 itself)
