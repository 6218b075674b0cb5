-- A required vertex goes with its only link: what is kept then.
use Rattle.std.proofs.Common.{◌≡◌, ◌≢◌, ℕ, ◌+◌, ◌<◌, ◌≤◌, ◌-◌, Bool, true, false, cond, ◌||◌, None, List, length, get_or, set, IsSome, refl, sym, ap, subst, ◌∙◌, arith, inl, inr, ◌⊎◌, eq-eqb}
use Rattle.std.specs.Prelude.{IsTrue, IsFalse, ◌==◌, unwrap_or}
use Rattle.std.proofs.lemmas.Bool.{or_cases, eqb-true, false≢true, ne_eqb, false_from_ne_true}
use Rattle.std.proofs.lemmas.Bool.Decides.{eqb_tells}
use Rattle.std.proofs.lemmas.List.{get_or-set_same, get_or-set_other, length-set}
use Rattle.st_model.specs.declared.need.Need.{Need}
use Rattle.st_model.specs.declared.need.Need.TheVariants.{Pays, Required}
use Rattle.st_model.specs.Lists.{has}
use Rattle.st_model.specs.Network.{IsVertex, amount, link, need_of, is_needed, is_required, pays}
use Rattle.st_model.proofs.Branches.{IsVertexSet-member}
use Rattle.st_model.proofs.ThinGrowth.{linked-vertices}
use Rattle.graph_store.specs.Changes.{RemovesVertex, with_need}
use Rattle.graph_store.specs.Graph.{Graph, IsGraph}
use Rattle.lift_back.specs.declared.rest.Rest.{Rest}
use Rattle.lift_back.specs.State.{State, IsState}
use Rattle.lift_back.specs.Steps.{IsForced, TakesForced}
use Rattle.lift_back.specs.Keeping.{count_to, state_of, IsKept}
use Rattle.lift_back.proofs.Counting.{count_less, sum_to_but, another_counted, two_counted, some_counted, but_v, but_at, but_others}
use Rattle.lift_back.proofs.KeptAfter.{Leaves, gone_after}
use Rattle.lift_back.proofs.ThroughTrees.{neighbour_stays}

-- the neighbour is another vertex, and isn't gone
pub forced_neighbour : (s : State) (v u c : ℕ) → IsState s → IsForced s v u c → ((u == v) ≡ false) × IsFalse (has s.gone u) × IsVertex s.instance.n u
forced_neighbour s v u c state forced =
    let linked : IsSome (link s.instance.links v u) = rw forced.linked refl in
    let other = neighbour_stays s v u state linked in
    (other.0, other.1, (linked-vertices s.instance v u state.instance linked).1)

-- a required vertex isn't gone
pub forced_present : (s : State) (v u c : ℕ) → IsState s → IsForced s v u c → IsFalse (has s.gone v)
forced_present s v u c state forced = false_from_ne_true (has s.gone v) (λ gone. false≢true (sym (ap is_needed (state.idle v gone)) ∙ forced.required))

-- what each vertex needs then
pub needs_written : (n v u w : ℕ) (needs : List Need) → length needs ≡ n → IsVertex n v → IsVertex n u → IsVertex n w → (u == v) ≡ false → get_or (set (set needs (v - 1) (Pays 0)) (u - 1) Required) (w - 1) Required ≡ cond (w == v) (Pays 0) (cond (w == u) Required (get_or needs (w - 1) Required))
needs_written n v u w needs long v_vertex u_vertex w_vertex apart = by_test (w == v) (w == u) refl refl
  where
    v_low : 1 ≤ v
    v_low = v_vertex.0

    u_low : 1 ≤ u
    u_low = u_vertex.0

    w_low : 1 ≤ w
    w_low = w_vertex.0

    by_test : (p q : Bool) → (w == v) ≡ p → (w == u) ≡ q → get_or (set (set needs (v - 1) (Pays 0)) (u - 1) Required) (w - 1) Required ≡ cond p (Pays 0) (cond q Required (get_or needs (w - 1) Required))
    by_test true q p_is q_is =
        let e : w ≡ v = eqb-true w v p_is in
        let other : w - 1 ≢ u - 1 = λ same. (let w_is : w ≡ u = omega arith in false≢true (sym apart ∙ eq-eqb u v (sym w_is ∙ e))) in
        get_or-set_other (set needs (v - 1) (Pays 0)) (u - 1) (w - 1) Required Required other ∙ (ap (λ k. get_or (set needs (v - 1) (Pays 0)) (k - 1) Required) e ∙ get_or-set_same needs (v - 1) (Pays 0) Required (let high = v_vertex.1 in omega arith))
    by_test false true p_is q_is =
        let e : w ≡ u = eqb-true w u q_is in
        ap (λ k. get_or (set (set needs (v - 1) (Pays 0)) (u - 1) Required) (k - 1) Required) e ∙ get_or-set_same (set needs (v - 1) (Pays 0)) (u - 1) Required Required (let high = u_vertex.1 in let len = length-set needs (v - 1) (Pays 0) in omega arith)
    by_test false false p_is q_is =
        let not_u : w - 1 ≢ u - 1 = λ same. (let w_is : w ≡ u = omega arith in false≢true (sym q_is ∙ eq-eqb w u w_is)) in
        let not_v : w - 1 ≢ v - 1 = λ same. (let w_is : w ≡ v = omega arith in false≢true (sym p_is ∙ eq-eqb w v w_is)) in
        get_or-set_other (set needs (v - 1) (Pays 0)) (u - 1) (w - 1) Required Required not_u ∙ get_or-set_other needs (v - 1) (w - 1) (Pays 0) Required not_v

-- how many are required then
count_forced : (p q : ℕ → Bool) (n v u : ℕ) → IsVertex n v → IsVertex n u → (u == v) ≡ false → p v ≡ true → q v ≡ false → q u ≡ true → ((w : ℕ) → IsVertex n w → w ≢ v → w ≢ u → q w ≡ p w) → count_to q n + cond (p u) 1 0 ≡ count_to p n
count_forced p q n v u v_vertex u_vertex apart was now there same =
    let u_other : u ≢ v = λ e. false≢true (sym apart ∙ eq-eqb u v e) in
    let less = count_less p (but_v p v) n v v_vertex was (but_at p v) (λ w is other. but_others p v w other) in
    let but : count_to q n + cond (but_v p v u) 1 0 ≡ count_to (but_v p v) n + cond (q u) 1 0 = sum_to_but (λ w. cond (q w) 1 0) (λ w. cond (but_v p v w) 1 0) u n u_vertex (λ w is other. ap (λ b. cond b 1 0) (by_v w is other (eqb_tells w v))) in
    let at_u : ◌≡◌ {A = ℕ} (cond (but_v p v u) 1 0) (cond (p u) 1 0) = ap (λ b. cond b 1 0) (but_others p v u u_other) in
    let new_u : ◌≡◌ {A = ℕ} (cond (q u) 1 0) 1 = ap (λ b. cond b 1 0) there in
    omega arith
  where
    by_v : (w : ℕ) → IsVertex n w → w ≢ u → (((w == v) ≡ true) × (w ≡ v)) ⊎ (((w == v) ≡ false) × (w ≢ v)) → q w ≡ but_v p v w
    by_v w is other (inl e) = (ap q e.1 ∙ now) ∙ sym (ap (but_v p v) e.1 ∙ but_at p v)
    by_v w is other (inr e) = same w is e.1 other ∙ sym (but_others p v w e.1)

-- v went with its link to u, which has to be reached then
pub record Forces (old new : Rest) (v u c : ℕ) : Type 0 where
  pub graph : IsGraph new.store
  pub count : new.store.network.n ≡ old.store.network.n
  pub links : (x w : ℕ) → link new.store.network.links x w ≡ cond ((x == v) || (w == v)) None (link old.store.network.links x w)
  pub needs : new.store.network.needs ≡ set (set old.store.network.needs (v - 1) (Pays 0)) (u - 1) Required
  pub present : new.store.present ≡ set old.store.present (v - 1) false
  pub left : new.left + 1 ≡ old.left
  pub required : new.required + cond (is_required old.store.network u) 1 0 ≡ old.required
  pub offset : new.offset ≡ old.offset + c
  pub amount : amount new.store.network + c ≤ amount old.store.network

-- the same by what was done: v is removed (g), needs nothing (h), and u is required then
pub record Hands (old new : Rest) (g h : Graph) (v u c : ℕ) : Type 0 where
  pub removes : RemovesVertex old.store g v
  pub removed_amount : amount g.network + unwrap_or (link old.store.network.links v u) 0 ≤ amount old.store.network
  pub frees : h ≡ with_need g v (Pays 0)
  pub freed_amount : amount h.network + pays g.network v ≡ amount g.network + 0
  pub needs : new.store ≡ with_need h u Required
  pub needs_amount : amount new.store.network + pays h.network u ≡ amount h.network + 0
  pub graph : IsGraph new.store
  pub left : new.left + 1 ≡ old.left
  pub required : new.required + cond (is_required old.store.network u) 1 0 ≡ old.required
  pub offset : new.offset ≡ old.offset + c

pub forces_by : (old new : Rest) (g h : Graph) (v u c : ℕ) → IsForced (state_of old) v u c → Hands old new g h v u c → Forces old new v u c
forces_by old new g h v u c forced hands = record {
  graph = hands.graph;
  count = ap (λ (k : Graph). k.network.n) hands.needs ∙ (ap (λ (k : Graph). k.network.n) hands.frees ∙ hands.removes.count);
  links = λ x w. ap (λ (k : Graph). link k.network.links x w) hands.needs ∙ (ap (λ (k : Graph). link k.network.links x w) hands.frees ∙ hands.removes.links x w);
  needs = ap (λ (k : Graph). k.network.needs) hands.needs ∙ (ap (λ (k : Graph). set k.network.needs (u - 1) Required) hands.frees ∙ ap (λ (l : List Need). set (set l (v - 1) (Pays 0)) (u - 1) Required) hands.removes.needs);
  present = ap (λ (k : Graph). k.present) hands.needs ∙ (ap (λ (k : Graph). k.present) hands.frees ∙ hands.removes.present);
  left = hands.left;
  required = hands.required;
  offset = hands.offset;
  amount =
      let cost : unwrap_or (link old.store.network.links v u) 0 ≡ c = ap (λ o. unwrap_or o 0) forced.linked in
      let one = hands.removed_amount in
      let two = hands.freed_amount in
      let three = hands.needs_amount in
      omega arith;
}

pub leaves_forced : (old new : Rest) (v u c : ℕ) → IsKept old → IsForced (state_of old) v u c → Forces old new v u c → Leaves old new v
leaves_forced old new v u c kept forced forces = record {
  vertex = forced.vertex;
  here = forced_present (state_of old) v u c kept.state forced;
  graph = forces.graph;
  count = forces.count;
  present = forces.present;
  left = forces.left;
  idle = λ w gone. elim (or_cases (v == w) (has (state_of old).gone w) gone) [
    | inl same ↦ let e = eqb-true v w same in subst (λ (x : ℕ). need_of new.store.network x ≡ Pays 0) e (needed v forced.vertex ∙ rw (eq-eqb v v refl) refl)
    | inr before ↦
        let vertex = IsVertexSet-member old.store.network.n (state_of old).gone w kept.state.gone before in
        let not_v : (w == v) ≡ false = ne_eqb w v (λ e. false≢true (sym (forced_present (state_of old) v u c kept.state forced) ∙ (ap (has (state_of old).gone) (sym e) ∙ before))) in
        let not_u : (w == u) ≡ false = ne_eqb w u (λ e. false≢true (sym neighbour.1 ∙ (ap (has (state_of old).gone) (sym e) ∙ before))) in
        (let same_need : need_of new.store.network w ≡ need_of old.store.network w = needed w vertex ∙ rw (not_v, not_u) refl in same_need ∙ kept.state.idle w before)
  ];
  required =
      let counted = count_forced (is_required old.store.network) (is_required new.store.network) old.store.network.n v u forced.vertex neighbour.2 neighbour.0 forced.required
      (let at_v : need_of new.store.network v ≡ Pays 0 = needed v forced.vertex ∙ rw (eq-eqb v v refl) refl in ap is_needed at_v)
      (let at_u : need_of new.store.network u ≡ Required = needed u neighbour.2 ∙ rw (neighbour.0, eq-eqb u u refl) refl in ap is_needed at_u)
      (λ w is not_v not_u. (let first = ne_eqb w v not_v in let second = ne_eqb w u not_u in let kept_need : need_of new.store.network w ≡ need_of old.store.network w = needed w is ∙ rw (first, second) refl in ap is_needed kept_need)) in
      let before = kept.required in
      let now = forces.required in
      omega arith;
  amount = let all = kept.state.amount in let less = forces.amount in let more = forces.offset in omega arith;
}
  where
    neighbour : ((u == v) ≡ false) × IsFalse (has (state_of old).gone u) × IsVertex old.store.network.n u
    neighbour = forced_neighbour (state_of old) v u c kept.state forced

    needed : (w : ℕ) → IsVertex old.store.network.n w → need_of new.store.network w ≡ cond (w == v) (Pays 0) (cond (w == u) Required (need_of old.store.network w))
    needed w vertex = ap (λ (l : List Need). get_or l (w - 1) Required) forces.needs ∙ needs_written old.store.network.n v u w old.store.network.needs kept.state.instance.needs forced.vertex neighbour.2 vertex neighbour.0

pub takes_forced : (old new : Rest) (v u c : ℕ) → IsKept old → IsForced (state_of old) v u c → Forces old new v u c → TakesForced (state_of old) (state_of new) v u c
takes_forced old new v u c kept forced forces =
    let leaves = leaves_forced old new v u c kept forced forces in
    let neighbour = forced_neighbour (state_of old) v u c kept.state forced in
    record {
      allowed = forced;
      becomes = record {
        count = leaves.count;
        linked = forces.links;
        needed = λ w vertex. ap (λ (l : List Need). get_or l (w - 1) Required) forces.needs ∙ needs_written old.store.network.n v u w old.store.network.needs kept.state.instance.needs forced.vertex neighbour.2 vertex neighbour.0;
        left_out = λ w. gone_after old new v w leaves;
        paid = forces.offset;
      };
    }

-- another one is required just where two are
pub some_required : (r : Rest) (v : ℕ) → IsKept r → IsVertex r.store.network.n v → IsTrue (is_required r.store.network v) → 2 ≤ r.required → (w : ℕ) × IsVertex r.store.network.n w × IsTrue (is_required r.store.network w) × (w ≢ v)
some_required r v kept vertex needed two = let count = kept.required in another_counted (is_required r.store.network) r.store.network.n v vertex needed (omega arith)

pub two_required : (r : Rest) (v u c : ℕ) → IsKept r → r.required < 2 → IsForced (state_of r) v u c → ⊥
two_required r v u c kept few forced =
    let (w, vertex, needed, apart) = forced.other in
    let two = two_counted (is_required r.store.network) r.store.network.n v w forced.vertex forced.required vertex needed apart in
    let count = kept.required in
    omega arith

pub one_required : (r : Rest) (v : ℕ) → IsKept r → IsVertex r.store.network.n v → IsTrue (is_required r.store.network v) → 1 ≤ r.required
one_required r v kept vertex needed = let one = some_counted (is_required r.store.network) r.store.network.n v vertex needed in let count = kept.required in omega arith
