-- A vertex that needs nothing goes with its links: what is kept then.
use Rattle.std.proofs.Common.{◌≡◌, ◌≢◌, ℕ, ◌+◌, ◌<◌, ◌≤◌, ◌-◌, false, cond, not, List, get_or, set, Option, sym, ap, ◌∙◌, arith, inl, inr}
use Rattle.std.specs.Prelude.{IsFalse, ◌==◌}
use Rattle.std.proofs.lemmas.Bool.{or_cases, eqb-true}
use Rattle.st_model.specs.declared.need.Need.{Need}
use Rattle.st_model.specs.declared.need.Need.TheVariants.{Required}
use Rattle.st_model.specs.Lists.{has}
use Rattle.st_model.specs.Network.{IsVertex, amount, link, need_of, is_needed, is_required}
use Rattle.st_model.proofs.Sums.{sum_to_same}
use Rattle.graph_store.specs.Graph.{IsGraph, is_in}
use Rattle.lift_back.specs.declared.rest.Rest.{Rest}
use Rattle.lift_back.specs.Steps.{IsIdle, IsPendant, Becomes, gone_with}
use Rattle.lift_back.specs.Keeping.{state_of, IsKept}
use Rattle.lift_back.proofs.Counting.{another_counted, two_counted, some_counted}
use Rattle.lift_back.proofs.KeptAfter.{Leaves, gone_after, has_absent, present_in}

-- v isn't present any more, and the needs are as before
pub record GoesIdle (old new : Rest) (v : ℕ) : Type 0 where
  pub graph : IsGraph new.store
  pub count : new.store.network.n ≡ old.store.network.n
  pub needs : new.store.network.needs ≡ old.store.network.needs
  pub present : new.store.present ≡ set old.store.present (v - 1) false
  pub left : new.left + 1 ≡ old.left
  pub required : new.required ≡ old.required
  pub offset : new.offset ≡ old.offset
  pub amount : amount new.store.network ≤ amount old.store.network

-- then all fits
pub leaves_idle : (old new : Rest) (v : ℕ) → IsKept old → IsIdle (state_of old) v → GoesIdle old new v → Leaves old new v
leaves_idle old new v kept idle goes = record {
  vertex = idle.vertex;
  here = idle.present;
  graph = goes.graph;
  count = goes.count;
  present = goes.present;
  left = goes.left;
  idle = λ w gone. same_need w ∙ elim (or_cases (v == w) (has (state_of old).gone w) gone) [
    | inl same ↦ ap (need_of old.store.network) (sym (eqb-true v w same)) ∙ idle.need
    | inr before ↦ kept.state.idle w before
  ];
  required = goes.required ∙ (kept.required ∙ sum_to_same (λ w. cond (is_required old.store.network w) 1 0) (λ w. cond (is_required new.store.network w) 1 0) old.store.network.n (λ w low high. ap (λ need. cond (is_needed need) 1 0) (sym (same_need w))));
  amount = let all = kept.state.amount in let less = goes.amount in let same = goes.offset in omega arith;
}
  where
    same_need : (w : ℕ) → need_of new.store.network w ≡ need_of old.store.network w
    same_need w = ap (λ (l : List Need). get_or l (w - 1) Required) goes.needs

-- what the state has become
pub becomes_idle : (old new : Rest) (v : ℕ) (links : ℕ → ℕ → Option ℕ) → IsKept old → IsIdle (state_of old) v → GoesIdle old new v → ((u w : ℕ) → link new.store.network.links u w ≡ links u w) → Becomes (state_of old) (state_of new) links (need_of old.store.network) (gone_with (state_of old) v) old.offset
becomes_idle old new v links kept idle goes linked = record {
  count = goes.count;
  linked = linked;
  needed = λ w vertex. ap (λ (l : List Need). get_or l (w - 1) Required) goes.needs;
  left_out = λ w. gone_after old new v w (leaves_idle old new v kept idle goes);
  paid = goes.offset;
}

-- one vertex alone is left
pub none_other : (r : Rest) (v : ℕ) → IsKept r → r.left < 2 → IsPendant (state_of r) v → ⊥
none_other r v kept few pendant =
    let (w, vertex, here, apart) = pendant.other in
    let two = two_counted (is_in r.store) r.store.network.n v w pendant.idle.vertex (present_in r.store v pendant.idle.vertex pendant.idle.present) vertex (present_in r.store w vertex here) apart in
    let left = kept.left in
    omega arith

-- another one is left
pub some_other : (r : Rest) (v : ℕ) → IsKept r → 2 ≤ r.left → IsIdle (state_of r) v → (w : ℕ) × IsVertex r.store.network.n w × IsFalse (has (state_of r).gone w) × (w ≢ v)
some_other r v kept two idle =
    let left = kept.left in
    let (w, vertex, here, apart) = another_counted (is_in r.store) r.store.network.n v idle.vertex (present_in r.store v idle.vertex idle.present) (omega arith) in
    (w, vertex, has_absent r.store w vertex ∙ ap not here, apart)

-- some vertex is left while v is
pub one_left : (r : Rest) (v : ℕ) → IsKept r → IsVertex r.store.network.n v → IsFalse (has (state_of r).gone v) → 1 ≤ r.left
one_left r v kept vertex here =
    let one = some_counted (is_in r.store) r.store.network.n v vertex (present_in r.store v vertex here) in
    let left = kept.left in
    omega arith
