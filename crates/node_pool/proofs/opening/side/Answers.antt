use Rattle.std.proofs.Common.{rules, ◌≡◌, ◌+◌, ◌∷◌, ◌++◌, [], subst, sym}
use Rattle.std.specs.Prelude.{All}
use Rattle.node_pool.specs.Ends.{End}
use Rattle.node_pool.specs.Lane.{hand}
use Rattle.node_pool.proofs.Lists.{all_push, moves_on, all_head, all_tail, one_less}
use Rattle.node_pool.proofs.opening.side.Goals as goal

pub loop-owner-preserved : goal.loop-owner-preserved
loop-owner-preserved g c =
    let i = c.loop-owner.invariant in
    let os = c.loop-owner.owner-iterator.rest.items in
    let now = c.next.new.self.rest.items in
    let is : os ≡ c.in-Some.owner ∷ now = search rules in
    let made : c.push-in-loop-owner.new.self.items ≡ c.loop-owner.all.items ++ c.thief.new.self ∷ [] = search rules in
    let more : c.push.new.self.items ≡ c.loop-owner.ends.items ++ c.in_ok-thief.field-0 ∷ [] = search rules in
    let F : End → Type 0 = λ w. w.hand ≡ hand c.args.parts [] [] in
    let G : End → Type 0 = λ w. w.hand ≡ hand (c.args.parts + 1) [] [] in
    let H : End → Type 0 = λ w. w.hand ≡ hand 1 [] [] in
    let fresh = subst (All G) is i.5 in
    let here : F c.thief.new.self = one_less c.args.parts c.in-Some.owner.hand c.thief.new.self.hand (all_head G c.in-Some.owner now fresh) c.in_ok-thief.ensures.kept in (
      tt,
      tt,
      moves_on c.loop-owner.all.items c.push-in-loop-owner.new.self.items os now c.in-Some.owner c.thief.new.self _ is made c.thief.ensures.same i.2,
      moves_on c.loop-owner.ends.items c.push.new.self.items os now c.in-Some.owner c.in_ok-thief.field-0 _ is more c.in_ok-thief.ensures.new.0 i.3,
      subst (All F) (sym made) (all_push F c.loop-owner.all.items c.thief.new.self i.4 here),
      all_tail G c.in-Some.owner now fresh,
      subst (All H) (sym more) (all_push H c.loop-owner.ends.items c.in_ok-thief.field-0 i.6 c.in_ok-thief.ensures.new.1),
    )
