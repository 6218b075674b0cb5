use Rattle.std.proofs.Common.{rules, arith, ◌≡◌, ◌∷◌, ◌++◌, [], ap, sym, subst, ◌∙◌, append-nil}
use Rattle.std.specs.Prelude.{All}
use Rattle.std.specs.List.{sum_by}
use Rattle.branching.specs.declared.node.Node.{Node}
use Rattle.node_pool.specs.declared.rule.Hand.{Hand}
use Rattle.node_pool.proofs.Drained.{alone_found, drained, drained_on, none_left, weighed_on}
use Rattle.node_pool.proofs.Lists.{all_push}
use Rattle.node_pool.proofs.lane.Owner.drain.Goals as goal

pub loop-preserved : goal.loop-preserved
loop-preserved g c =
    let i = c.loop.invariant in
    let first = c.args.self.now.hand in
    let v = c.loop.self.hand in
    let w = c.take.new.self.hand in
    let left = c.loop.left.items in
    let x = c.in-Some.node in
    let H : Node → Type 0 = λ node. g.S.Sound.sound node in
    let grown : c.push.new.self.items ≡ left ++ x ∷ [] = search rules in
    let is = c.in-Some.ensures.took in (
      ap (λ (u : Hand). u.parts) is ∙ i.0,
      ap (λ (u : Hand). u.put) is ∙ i.1,
      weighed_on first v w left c.push.new.self.items x is grown i.2,
      subst (All H) (sym grown) (all_push H left x i.3 c.in-Some.ensures.sound),
      drained_on first v w left c.push.new.self.items x is grown i.0 c.in-Some.ensures.next i.4,
    )

pub returns-in_default-clause-left : goal.returns-in_default-clause-left
returns-in_default-clause-left g c h = let i = c.loop.invariant in let e = drained c.loop.self.hand (c.in_default.ensures.none i.0) h in let p = ap (sum_by h) i.1 in let q = i.2 h in omega arith

pub returns-in_default-clause-last : goal.returns-in_default-clause-last
returns-in_default-clause-last g c =
    let i = c.loop.invariant in
    let none = none_left c.loop.self.hand (alone_found c.loop.self.hand (c.in_default.ensures.none i.0)) in
    sym (i.4 ∙ ap (λ l. c.loop.left.items ++ l) none ∙ append-nil c.loop.left.items)
