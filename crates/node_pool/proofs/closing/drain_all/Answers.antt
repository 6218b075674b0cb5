use Rattle.std.proofs.Common.{rules, ◌≡◌, ◌∷◌, ◌++◌, length, subst, sym}
use Rattle.std.specs.Prelude.{All, flat_map}
use Rattle.node_pool.specs.Ends.{End, rest_of}
use Rattle.node_pool.proofs.Rejoining.{drains}
use Rattle.node_pool.proofs.Lists.{all_tail, all_join, flat_on, flat_whole}
use Rattle.node_pool.proofs.closing.drain_all.Goals as goal

pub loop-owner-preserved : goal.loop-owner-preserved
loop-owner-preserved g c =
    let i = c.loop-owner.invariant in
    let is : c.loop-owner.owner-iterator.rest.items ≡ c.in-Some.owner ∷ c.next.new.self.rest.items = search rules in
    let grown : c.append.new.self.items ≡ c.loop-owner.left.items ++ c.in_ok-more.more.items = search rules in (
      tt,
      tt,
      all_tail (λ (o : End). o.hand.parts ≡ 65) c.in-Some.owner c.next.new.self.rest.items (subst (All (λ (o : End). o.hand.parts ≡ 65)) is i.2),
      drains c.loop-owner.owner-iterator.rest.items c.next.new.self.rest.items c.in-Some.owner c.args.owners.items c.loop-owner.left.items c.in_ok-more.more.items c.append.new.self.items is grown c.in_ok-more.ensures.left i.3,
      subst (All (λ node. g.S.Sound.sound node)) (sym grown) (all_join (λ node. g.S.Sound.sound node) c.loop-owner.left.items c.in_ok-more.more.items i.4 c.in_ok-more.ensures.sound),
      flat_on rest_of (flat_map rest_of c.args.owners.items) c.loop-owner.left.items c.append.new.self.items c.in_ok-more.more.items c.loop-owner.owner-iterator.rest.items c.next.new.self.rest.items c.in-Some.owner is grown c.in_ok-more.ensures.last i.5,
    )

pub returns-clause-last : goal.returns-clause-last
returns-clause-last g c = let none : length c.loop-owner.owner-iterator.rest.items ≡ 0 = search rules in
    flat_whole rest_of (flat_map rest_of c.args.owners.items) c.loop-owner.left.items c.loop-owner.owner-iterator.rest.items none c.loop-owner.invariant.5
