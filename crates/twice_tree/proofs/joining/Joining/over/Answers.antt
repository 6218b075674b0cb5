use Rattle.std.proofs.Common.{◌≤◌, ◌∷◌, subst, sym, ◌∙◌}
use Rattle.std.specs.Prelude.{IsPermutation}
use Rattle.std.specs.declared.cmp.Reverse.{Reverse}
use Rattle.std.proofs.lemmas.List.Elements.{All-tail}
use Rattle.std.proofs.lemmas.List.Sorted.{All-permutation, IsPermutation-refl}
use Rattle.twice_tree.specs.declared.offers.Offer.{Offer}
use Rattle.twice_tree.proofs.Joined.{joining_moved}
use Rattle.twice_tree.proofs.joining.Joining.over.Goals as goal

pub take-requires-clause-taking : goal.take-requires-clause-taking
take-requires-clause-taking c =
    let offer = c.in-Some.offer in
    let old = c.loop-alloc.joining.opening.offers in
    let new = c.next.new.self in
    record {
      joining = joining_moved c.args.store.now.network c.args.cells.now c.loop-alloc.joining old (record { 0 = offer } ∷ new) new c.loop-alloc.invariant c.in-Some.ensures.moved;
      cheapest = All-tail (λ (other : Reverse Offer). offer.cost ≤ other.0.cost) (record { 0 = offer }) new (All-permutation (λ (other : Reverse Offer). offer.cost ≤ other.0.cost) old (record { 0 = offer } ∷ new) c.in-Some.ensures.moved c.in-Some.ensures.cheapest);
    }

pub returns-in_default-clause-joining : goal.returns-in_default-clause-joining
returns-in_default-clause-joining c =
    let old = c.loop-alloc.joining.opening.offers in
    let new = c.next.new.self in
    let moved = subst (IsPermutation old) (c.in_default.ensures.empty ∙ sym c.in_default.ensures.none) (IsPermutation-refl old) in
    joining_moved c.args.store.now.network c.args.cells.now c.loop-alloc.joining old new new c.loop-alloc.invariant moved
