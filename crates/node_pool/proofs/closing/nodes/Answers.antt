use Rattle.std.proofs.Common.{rules, ◌≡◌, ◌∷◌, ◌++◌, [], subst, sym, ap, ◌∙◌, append_assoc}
use Rattle.std.specs.Prelude.{All}
use Rattle.branching.specs.declared.node.Node.{Node}
use Rattle.node_pool.proofs.Lists.{all_push}
use Rattle.node_pool.proofs.closing.nodes.Goals as goal

pub loop-kept-preserved : goal.loop-kept-preserved
loop-kept-preserved g c =
    let i = c.loop-kept.invariant in
    let nodes = c.loop-kept.nodes.items in
    let node = c.into_node.result in
    let now = c.next.new.self.rest.items in
    let F : Node → Type 0 = λ node. g.S.Sound.sound node in
    let is : c.loop-kept.kept-iterator.rest.items ≡ node ∷ now = search rules in
    let more : c.push.new.self.items ≡ nodes ++ node ∷ [] = search rules in
    (tt, tt, ap (λ xs. xs ++ now) more ∙ append_assoc nodes (node ∷ []) now ∙ ap (λ xs. nodes ++ xs) (sym is) ∙ i.2, subst (All F) (sym more) (all_push F nodes node i.3 c.into_node.ensures.sound))
