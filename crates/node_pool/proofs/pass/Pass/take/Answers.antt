use Rattle.std.proofs.Common.{rules, arith, ℕ, List, length, ◌+◌, ◌≡◌, ap, []}
use Rattle.node_pool.specs.Lane.{IsLeft}
use Rattle.node_pool.specs.Ends.{End}
use Rattle.node_pool.proofs.Passes.{finishes, if_none, none_stolen}
use Rattle.node_pool.proofs.Drained.{alone_found, next_got}
use Rattle.node_pool.proofs.pass.Pass.take.Goals as goal

pub returns-clause-took : goal.returns-clause-took
returns-clause-took g c = rw (← c.self.view_is) (finishes c.steal.result c.self.inside.own c.take.new.self c.self.inside.others.items c.steal.new.ends.items c.self.inside.list.items c.pop_back.new.self.items
    c.take.ensures.same (search rules) (search rules) (search rules) (search rules) c.steal.ensures.none c.steal.ensures.some c.steal.ensures.puts)

-- without other ends the owner has every part
every : (parts : ℕ) (others : List End) → others ≡ [] → parts + length others ≡ 65 → parts ≡ 65
every parts others none sum = let e : length others ≡ 0 = ap (λ (xs : List End). length xs) none in omega arith

pub returns-clause-alone : goal.returns-clause-alone
returns-clause-alone g c = rw (← c.self.view_is) (λ none.
    let known : c.self.inside.own.hand.parts ≡ 65 → IsLeft c.self.inside.own.hand [] = search rules in
    if_none c.steal.result (alone_found c.self.inside.own.hand (known (every c.self.inside.own.hand.parts c.self.inside.others.items none c.self.invariant.0))))

pub returns-clause-left : goal.returns-clause-left
returns-clause-left g c = rw (← c.self.view_is) (λ none _. none_stolen _ c.steal.result c.self.inside.others.items c.steal.new.ends.items none c.steal.ensures.queues c.steal.ensures.some)

pub returns-clause-next : goal.returns-clause-next
returns-clause-next g c = rw (← c.self.view_is) (λ none _. none_stolen _ c.steal.result c.self.inside.others.items c.steal.new.ends.items none c.steal.ensures.queues c.steal.ensures.some)

pub returns-in-Some-take-clause-next : goal.returns-in-Some-take-clause-next
returns-in-Some-take-clause-next g c = rw (← c.self.view_is) (λ none _.
    next_got c.self.inside.own.hand c.in-Some-take.node (every c.self.inside.own.hand.parts c.self.inside.others.items none c.self.invariant.0) c.in-Some-take.ensures.next)
