use Rattle.std.proofs.Common.{rules, ◌≡◌, ◌∷◌, subst}
use Rattle.std.specs.Prelude.{All}
use Rattle.std.proofs.lemmas.List.Elements.{All-head, All-tail}
use Rattle.better_trees.specs.Grown.{IsGrown}
use Rattle.better_trees.proofs.sampling.best_grown.Goals as goal

pub or_grown-requires-clause-grown : goal.or_grown-requires-clause-grown
or_grown-requires-clause-grown g c =
    let P = IsGrown c.args.place.now in
    let is : c.loop-candidate.candidate-iterator.rest.items ≡ c.in-Some.candidate ∷ c.next.new.self.rest.items = search rules in
    All-head P c.in-Some.candidate c.next.new.self.rest.items (subst (All P) is c.loop-candidate.invariant.2)

pub loop-candidate-preserved : goal.loop-candidate-preserved
loop-candidate-preserved g c =
    let P = IsGrown c.args.place.now in
    let is : c.loop-candidate.candidate-iterator.rest.items ≡ c.in-Some.candidate ∷ c.next.new.self.rest.items = search rules in
    (tt, tt, All-tail P c.in-Some.candidate c.next.new.self.rest.items (subst (All P) is c.loop-candidate.invariant.2), c.in_ok-best.ensures)
