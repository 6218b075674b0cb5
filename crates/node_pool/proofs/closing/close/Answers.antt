use Rattle.std.proofs.Common.{rules, arith, ◌≡◌, ◌++◌, subst, sym, ap, ◌∙◌}
use Rattle.std.specs.Prelude.{All}
use Rattle.std.specs.List.{sum_by}
use Rattle.std.proofs.lemmas.List.Sums.{sum_by-append}
use Rattle.branching.specs.declared.node.Node.{Node}
use Rattle.node_pool.proofs.Lists.{all_join}
use Rattle.node_pool.proofs.Rejoining.{left_in_order}
use Rattle.node_pool.proofs.closing.close.Goals as goal

pub returns-clause-left : goal.returns-clause-left
returns-clause-left g c = λ h.
    let le : c.append.new.self.items ≡ c.in_ok-parts.parts.left.items ++ c.in_ok-more.more.items = search rules in
    let a : sum_by h c.append.new.self.items ≡ sum_by h (c.in_ok-parts.parts.left.items ++ c.in_ok-more.more.items) = ap (sum_by h) le in
    let b = sum_by-append h c.in_ok-parts.parts.left.items c.in_ok-more.more.items in
    let d = c.in_ok-parts.ensures.gave h in let e = c.in_ok-parts.ensures.took h in
    let f = c.in_ok-owners.ensures.puts h in let i = c.in_ok-owners.ensures.takes h in let j = c.in_ok-more.ensures.left h in omega arith

pub returns-clause-sound : goal.returns-clause-sound
returns-clause-sound g c =
    let H : Node → Type 0 = λ node. g.S.Sound.sound node in
    let le : c.append.new.self.items ≡ c.in_ok-parts.parts.left.items ++ c.in_ok-more.more.items = search rules in
    subst (All H) (sym le) (all_join H c.in_ok-parts.parts.left.items c.in_ok-more.more.items c.in_ok-parts.ensures.sound c.in_ok-more.ensures.sound)

pub returns-clause-order : goal.returns-clause-order
returns-clause-order g c =
    let le : c.append.new.self.items ≡ c.in_ok-parts.parts.left.items ++ c.in_ok-more.more.items = search rules in
    left_in_order c.args.passes.items c.in_ok-owners.owners.items c.append.new.self.items c.in_ok-parts.parts.left.items c.in_ok-more.more.items le c.in_ok-parts.ensures.lists c.in_ok-more.ensures.last
    (c.in_ok-owners.ensures.put ∙ c.in_ok-parts.ensures.put)
