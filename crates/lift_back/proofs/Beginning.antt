-- What is kept of a whole instance.
use Rattle.std.proofs.Common.{◌≡◌, ◌-◌, not, [], length, get_or, sym, ap, subst, ◌∙◌, arith}
use Rattle.std.proofs.lemmas.Bool.{false≢true}
use Rattle.st_model.specs.declared.need.Need.TheVariants.{Required}
use Rattle.st_model.specs.Network.{Network, IsInstance, is_needed, is_required}
use Rattle.st_model.proofs.Branches.{IsVertexSet-nil}
use Rattle.graph_store.specs.Graph.{Graph, is_in}
use Rattle.graph_store.proofs.AllPresent.{all_present, present_in}
use Rattle.lift_back.specs.declared.rest.Rest.{Rest}
use Rattle.lift_back.specs.State.{IsState, whole}
use Rattle.lift_back.specs.Keeping.{absent, count_to, state_of, IsKept}
use Rattle.lift_back.proofs.Counting.{all_counted, none_pass}

-- the state of a whole instance
pub whole_state : (I : Network) → IsInstance I → IsState (whole I)
whole_state I instance = record {
  instance = instance;
  gone = IsVertexSet-nil I.n;
  alone = λ v w gone. absurd (false≢true gone);
  idle = λ v gone. absurd (false≢true gone);
  amount = let all = instance.amount in omega arith;
}

-- what is kept where every vertex is present
pub whole_is : (I : Network) (r : Rest) → r.store ≡ all_present I → r.offset ≡ 0 → state_of r ≡ whole I
whole_is I r same offset =
    let none : absent (all_present I) ≡ [] = none_pass (λ v. not (is_in (all_present I) v)) I.n (λ v vertex. ap not (present_in I v vertex)) in
    let gone : absent r.store ≡ [] = ap absent same ∙ none in
    λ j. record { instance = (same j).network; gone = gone j; offset = offset j }

pub kept_whole : (I : Network) (r : Rest) → IsInstance I → r.store ≡ all_present I → r.offset ≡ 0 → r.left ≡ I.n → r.required ≡ count_to (λ v. is_needed (get_or I.needs (v - 1) Required)) (length I.needs) → IsKept r
kept_whole I r instance same offset left required = record {
  state = subst IsState (sym (whole_is I r same offset)) (whole_state I instance);
  left = left ∙ (sym (all_counted (is_in (all_present I)) I.n (present_in I)) ∙ ap (λ (g : Graph). count_to (is_in g) g.network.n) (sym same));
  required = required ∙ (ap (count_to (is_required I)) instance.needs ∙ ap (λ (g : Graph). count_to (is_required g.network) g.network.n) (sym same));
}
