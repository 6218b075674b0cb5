use Rattle.std.proofs.Common.{rules}
use Rattle.std.proofs.lemmas.List.Sorted.{IsNonDecreasingBy-from_sort, answers_always}
use Rattle.dual_ascent.specs.declared.levels.Near.{Near}
use Rattle.dual_ascent.proofs.Levelled.{below_moved}
use Rattle.dual_ascent.proofs.levels.nearer.Goals as goal

pub returns : goal.returns
returns c = record {
  below = below_moved c.args.vertices c.args.limit c.args.least.now c.args.vertices c.in_ok-near.near.items c.sort_by_key.new.self.items c.in_ok-sort_by_key.ensures.permutation c.in_ok-near.ensures;
  ascending = IsNonDecreasingBy-from_sort (λ (m : Near). m.distance) _ (c.in_ok-sort_by_key.ensures.sorted (λ (m : Near). m.distance) (answers_always _ _ _ (λ f a r g h. search rules)));
}
