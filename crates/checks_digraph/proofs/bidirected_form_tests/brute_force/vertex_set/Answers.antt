use Rattle.std.proofs.Common.{ℕ, zero, suc, Bool, false, List, [], ◌∷◌, filter, get_or, sym, subst, arith, rules}
use Rattle.std.specs.List.Sorted.{IsStrictlyIncreasing}
use Rattle.std.proofs.lemmas.List.Elements.{All-filter, All-from_recursion}
use Rattle.std.proofs.lemmas.List.Kept.{IsStrictlyIncreasing-filter}
use Rattle.st_model.specs.Branch.{IsVertexSet}
use Rattle.st_model.specs.Network.{IsVertex}
use Rattle.checks_digraph.proofs.bidirected_form_tests.brute_force.vertex_set.Goals as goal

abbrev six : List ℕ
six = 1 ∷ 2 ∷ 3 ∷ 4 ∷ 5 ∷ 6 ∷ []

six_rise : IsStrictlyIncreasing six
six_rise zero below = omega arith
six_rise (suc zero) below = omega arith
six_rise (suc (suc zero)) below = omega arith
six_rise (suc (suc (suc zero))) below = omega arith
six_rise (suc (suc (suc (suc zero)))) below = omega arith
six_rise (suc (suc (suc (suc (suc k))))) below = absurd (omega (arith, below))

some_of_six : (p : ℕ → Bool) → IsVertexSet 6 (filter p six)
some_of_six p = record {
  ascending = IsStrictlyIncreasing-filter p six six_rise;
  in_range = All-filter p (IsVertex 6) six (All-from_recursion (IsVertex 6) six (search rules));
}

pub returns : goal.returns
returns c = subst (IsVertexSet 6) (sym c.in_ok-members.ensures) (some_of_six (λ v. get_or c.args.set.now v false))
