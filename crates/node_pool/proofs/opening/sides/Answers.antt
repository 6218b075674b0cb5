use Rattle.std.proofs.Common.{rules, arith, ◌≡◌, ◌+◌, ◌-◌, ◌∷◌, ◌++◌, [], List, map, subst, sym, ◌∙◌}
use Rattle.std.specs.Prelude.{All}
use Rattle.node_pool.specs.Lane.{hand}
use Rattle.node_pool.specs.Ends.{End, queue_of}
use Rattle.node_pool.proofs.Lists.{all_push}
use Rattle.node_pool.proofs.opening.sides.Goals as goal

pub loop-made-preserved : goal.loop-made-preserved
loop-made-preserved g c =
    let i = c.loop-made.invariant in
    let Q = map queue_of c.args.owners.items in
    let made = c.loop-made.made in
    let F : List End → Type 0 = λ side. map queue_of side ≡ Q in
    let G : List End → Type 0 = λ side. All (λ (t : End). t.hand ≡ hand 1 [] []) side in
    let more : c.push.new.self.items ≡ c.loop-made.sides.items ++ c.in_ok-same.side.items ∷ [] = search rules in
    let less : 64 - made ≡ 65 - (made + 1) = omega arith in (
      c.in_ok-same.ensures.owners ∙ i.0,
      search rules,
      subst (All F) (sym more) (all_push F c.loop-made.sides.items c.in_ok-same.side.items i.2 (c.in_ok-same.ensures.side ∙ i.0)),
      subst (λ n. All (λ (w : End). w.hand ≡ hand n [] []) c.in_ok-same.same.items) less c.in_ok-same.ensures.fresh,
      subst (All G) (sym more) (all_push G c.loop-made.sides.items c.in_ok-same.side.items i.4 c.in_ok-same.ensures.unused),
    )
