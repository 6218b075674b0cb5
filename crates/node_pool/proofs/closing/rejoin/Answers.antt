use Rattle.std.proofs.Common.{rules, arith, ◌≡◌, ◌∷◌, [], length, subst, sym}
use Rattle.std.specs.Prelude.{All}
use Rattle.node_pool.specs.Ends.{End}
use Rattle.node_pool.proofs.Rejoining.{lengths, extends}
use Rattle.node_pool.proofs.Lists.{all_cons}
use Rattle.node_pool.proofs.closing.rejoin.Goals as goal

pub loop-owner-preserved : goal.loop-owner-preserved
loop-owner-preserved g c =
    let i = c.loop-owner.invariant in
    let is : c.loop-owner.ends.rest.items ≡ c.in-Some-next.end ∷ c.next-in-loop-owner.new.self.rest.items = search rules in (
      tt,
      tt,
      search rules,
      extends c.loop-owner.all.items c.push.new.self.items c.loop-owner.owner-iterator.rest.items c.next.new.self.rest.items c.loop-owner.ends.rest.items c.next-in-loop-owner.new.self.rest.items c.in-Some.owner c.in-Some-next.end c.take_in.new.self _
          (search rules) is (search rules) c.take_in.ensures.same c.take_in.ensures.both c.take_in.ensures.looks i.3,
      λ ones. i.4 (subst (All (λ (t : End). (t.hand.parts ≡ 1) × (t.hand.put ≡ []))) (sym is) (all_cons (λ (t : End). (t.hand.parts ≡ 1) × (t.hand.put ≡ [])) c.in-Some-next.end c.next-in-loop-owner.new.self.rest.items c.take_in.ensures.part ones)),
    )

pub returns-clause-ones : goal.returns-clause-ones
returns-clause-ones g c =
    let i = c.loop-owner.invariant in
    let none : length c.loop-owner.owner-iterator.rest.items ≡ 0 = search rules in
    let same = lengths c.loop-owner.owner-iterator.rest.items c.loop-owner.ends.rest.items i.2 in
    i.4 (λ k d lt. absurd (omega arith))
