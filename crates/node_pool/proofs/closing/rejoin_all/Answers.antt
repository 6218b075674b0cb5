use Rattle.std.proofs.Common.{rules, arith, ◌≡◌, ◌∷◌, ◌+◌, List, map, length, subst, ap, ◌∙◌}
use Rattle.std.specs.Prelude.{All}
use Rattle.std.proofs.lemmas.List.Sums.{sum_by-cons}
use Rattle.node_pool.specs.Ends.{End, queue_of}
use Rattle.node_pool.specs.Pool.{puts, takes}
use Rattle.node_pool.specs.Sides.{AreSides, all_puts, all_takes}
use Rattle.node_pool.proofs.Rejoining.{joins}
use Rattle.node_pool.proofs.Lists.{all_head, empty}
use Rattle.node_pool.proofs.closing.rejoin_all.Goals as goal

pub loop-side-preserved : goal.loop-side-preserved
loop-side-preserved g c =
    let i = c.loop-side.invariant in
    let now : List (List End) = c.next.new.self.rest.items in
    let side : List End = c.into_vec.result.items in
    let is : c.loop-side.side-iterator.rest.items ≡ side ∷ now = search rules in
    let sides = subst (AreSides (map queue_of c.loop-side.all.items)) is i.2 in
    let parts = subst (λ (l : List (List End)). All (λ (o : End). o.hand.parts + length l ≡ 65) c.loop-side.all.items) is i.3 in
    let j = joins c.loop-side.all.items c.in_ok-all.all.items side now c.in_ok-all.ensures.all c.in_ok-all.ensures.ones sides parts in (
      tt,
      tt,
      j.sides,
      j.parts,
      (λ h. let a = i.4 h in let b = j.put h in let d = ap (all_puts h) is in let e = sum_by-cons (puts h) side now in omega arith),
      (λ h. let a = i.5 h in let b = j.taken h in let d = ap (all_takes h) is in let e = sum_by-cons (takes h) side now in omega arith),
      j.same_put ∙ i.6,
    )

pub rejoin-requires : goal.rejoin-requires
rejoin-requires g c =
    let side : List End = c.into_vec.result.items in
    let is : c.loop-side.side-iterator.rest.items ≡ side ∷ c.next.new.self.rest.items = search rules in
    all_head (λ s. map queue_of s ≡ map queue_of c.loop-side.all.items) side c.next.new.self.rest.items (subst (AreSides (map queue_of c.loop-side.all.items)) is c.loop-side.invariant.2)

pub returns-clause-puts : goal.returns-clause-puts
returns-clause-puts g c = λ h.
    let count : length c.loop-side.side-iterator.rest.items ≡ 0 = search rules in
    let none = empty c.loop-side.side-iterator.rest.items count in
    let z : all_puts h c.loop-side.side-iterator.rest.items ≡ 0 = ap (all_puts h) none in let e = c.loop-side.invariant.4 h in omega arith

pub returns-clause-takes : goal.returns-clause-takes
returns-clause-takes g c = λ h.
    let count : length c.loop-side.side-iterator.rest.items ≡ 0 = search rules in
    let none = empty c.loop-side.side-iterator.rest.items count in
    let z : all_takes h c.loop-side.side-iterator.rest.items ≡ 0 = ap (all_takes h) none in let e = c.loop-side.invariant.5 h in omega arith
