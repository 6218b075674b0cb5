-- A link put in with its halves, and a link that costs less, step by step.
use Rattle.std.proofs.Common.{◌≡◌, ℕ, ◌-◌, ◌<◌, Bool, true, false, cond, eqb, List, [], ◌∷◌, ◌++◌, length, take, slice_get, Some, None, option_map, Result, Ok, Err, OnOk, OnErr, is_err, refl, ap, ◌∙◌, arith}
use Rattle.std.proofs.lemmas.Bool.Decides.{nat_tests}
use Rattle.std.specs.Map.{lookup, set_value}
use Rattle.graph_store.specs.declared.half.Half.{Half}
use Rattle.graph_store.specs.declared.joints.Joint.{Joint}
use Rattle.graph_store.specs.Changes.{are_ends}
use Rattle.graph_store.specs.Joined.{Entry, is_pair, joint_of, place_of, place_in, AreHalves, with_cost}
use Rattle.graph_store.proofs.ListLemmas.{slice_get-push, take-push}
use Rattle.graph_store.proofs.Halves.{AreHalves-same, AreHalves-push, AreHalves-cost}
use Rattle.graph_store.proofs.JointLemmas.{place_of-set_cost}
use Rattle.graph_store.proofs.LinkLemmas.{IsTold, joint_of-turned, place_of-pushed, place_of-pushed_high, place_of-pushed_others}

-- what holds on Ok, where there is no error
pub on_ok : {X E : Type 0} (r : Result X E) (P : Type 0) → is_err r ≡ false → OnOk r P → P
on_ok (Ok x) P test h = h
on_ok (Err e) P test h = absurd (let clash : ⊥ = cc in clash)

pub on_err : {X E : Type 0} (r : Result X E) (P : Type 0) → is_err r ≡ true → OnErr r P → P
on_err (Ok x) P test h = absurd (let clash : ⊥ = cc in clash)
on_err (Err e) P test h = h

-- what was put at the end and taken off again leaves the lists
pub popped : (at : ℕ) (half : Half) (F G K : ℕ → List Half) → ((v : ℕ) → G v ≡ cond (eqb v at) (F at ++ half ∷ []) (F v)) → ((v : ℕ) → K v ≡ cond (eqb v at) (take (length (G at) - 1) (G at)) (G v)) → (v : ℕ) → K v ≡ F v
popped at half F G K pushed taken v = taken v ∙ by_case (eqb v at) refl
  where
    by_case : (b : Bool) → eqb v at ≡ b → cond b (take (length (G at) - 1) (G at)) (G v) ≡ F v
    by_case true is =
        let is' : at ≡ v = grind (arith, nat_tests) in
        let yes : eqb at at ≡ true = grind (arith, nat_tests) in
        let here : G at ≡ F at ++ half ∷ [] = pushed at ∙ rw yes refl in
        ap (λ (hs : List Half). take (length hs - 1) hs) here ∙ take-push (F at) half ∙ ap F is'
    by_case false is = pushed v ∙ rw is refl

module _ (es new : List Entry) (low high : ℕ) (before : low < high) (H : ℕ → List Half) (halves : (v : ℕ) → AreHalves (H v) (place_of es v)) where
  -- the lists once both halves of a new link are put in
  pub attached : (joint : Joint) (H1 H2 : ℕ → List Half) → joint.low ≡ length (H low) → joint.high ≡ length (H high)
      → ((v : ℕ) → H1 v ≡ cond (eqb v low) (H low ++ record { to = high; cost = joint.cost } ∷ []) (H v))
      → ((v : ℕ) → H2 v ≡ cond (eqb v high) (H1 high ++ record { to = low; cost = joint.cost } ∷ []) (H1 v))
      → joint_of es low high ≡ None → ((x y : ℕ) → joint_of new x y ≡ cond (are_ends low high x y) (Some joint) (joint_of es x y))
      → (v : ℕ) → AreHalves (H2 v) (place_of new v)
  attached joint H1 H2 low_len high_len first second absent put v = by_case (eqb v low) (eqb v high) refl refl
    where
      by_case : (s t : Bool) → eqb v low ≡ s → eqb v high ≡ t → AreHalves (H2 v) (place_of new v)
      by_case true t is other =
          let is' : v ≡ low = grind (arith, nat_tests) in
          let yes : eqb low low ≡ true = grind (arith, nat_tests) in
          let no : eqb low high ≡ false = grind (arith, nat_tests) in
          let list : H2 low ≡ H low ++ record { to = high; cost = joint.cost } ∷ [] = second low ∙ rw no (first low ∙ rw yes refl) in
          let here = AreHalves-push (H low) (H2 low) (place_of es low) (place_of new low) high joint.cost (λ k. ap (λ (hs : List Half). slice_get hs k) list ∙ slice_get-push (H low) (record { to = high; cost = joint.cost }) k) (halves low) (ap (option_map (place_in low high)) absent)
          (λ w. place_of-pushed es new low high joint before put w ∙ ap (λ n. cond (eqb w high) (Some (n, joint.cost)) (place_of es low w)) low_len) in
          AreHalves-same (H2 low) (H2 v) (place_of new low) (place_of new v) (ap H2 is') (λ w. ap (λ x. place_of new x w) is') here
      by_case false true other is =
          let is' : v ≡ high = grind (arith, nat_tests) in
          let yes : eqb high high ≡ true = grind (arith, nat_tests) in
          let no : eqb high low ≡ false = grind (arith, nat_tests) in
          let list : H2 high ≡ H high ++ record { to = low; cost = joint.cost } ∷ [] = second high ∙ rw yes (ap (λ (hs : List Half). hs ++ record { to = low; cost = joint.cost } ∷ []) (first high ∙ rw no refl)) in
          let here = AreHalves-push (H high) (H2 high) (place_of es high) (place_of new high) low joint.cost (λ k. ap (λ (hs : List Half). slice_get hs k) list ∙ slice_get-push (H high) (record { to = low; cost = joint.cost }) k) (halves high) (ap (option_map (place_in high low)) (joint_of-turned es high low ∙ absent))
          (λ w. place_of-pushed_high es new low high joint before put w ∙ ap (λ n. cond (eqb w low) (Some (n, joint.cost)) (place_of es high w)) high_len) in
          AreHalves-same (H2 high) (H2 v) (place_of new high) (place_of new v) (ap H2 is') (λ w. ap (λ x. place_of new x w) is') here
      by_case false false not_low not_high =
          let low' : v ≡ low → ⊥ = λ e. grind (arith, nat_tests) in
          let high' : v ≡ high → ⊥ = λ e. grind (arith, nat_tests) in
          AreHalves-same (H v) (H2 v) (place_of es v) (place_of new v) (second v ∙ rw not_high (first v ∙ rw not_low refl)) (λ w. place_of-pushed_others es new low high joint put v w low' high') (halves v)

  -- the lists once both halves of a link cost something else
  pub cheapened : (joint : Joint) (cost : ℕ) (H1 H2 : ℕ → List Half) → lookup (is_pair low high) es ≡ Some joint → new ≡ set_value (is_pair low high) es (record { cost = cost; low = joint.low; high = joint.high }) → IsTold es low high joint
      → ((k : ℕ) → slice_get (H1 low) k ≡ cond (eqb k joint.low) (option_map (with_cost cost) (slice_get (H low) k)) (slice_get (H low) k)) → ((v : ℕ) → (v ≡ low → ⊥) → H1 v ≡ H v)
      → ((k : ℕ) → slice_get (H2 high) k ≡ cond (eqb k joint.high) (option_map (with_cost cost) (slice_get (H1 high) k)) (slice_get (H1 high) k)) → ((v : ℕ) → (v ≡ high → ⊥) → H2 v ≡ H1 v)
      → (v : ℕ) → AreHalves (H2 v) (place_of new v)
  cheapened joint cost H1 H2 at is known first others1 second others2 v = by_case (eqb v low) (eqb v high) refl refl
    where
      places : (x y : ℕ) → place_of new x y ≡ cond (are_ends low high x y) (option_map (λ p. (p.0, cost)) (place_of es x y)) (place_of es x y)
      places x y = ap (λ (es : List Entry). place_of es x y) is ∙ place_of-set_cost low high cost es joint (record { cost = cost; low = joint.low; high = joint.high }) x y before at refl

      by_case : (s t : Bool) → eqb v low ≡ s → eqb v high ≡ t → AreHalves (H2 v) (place_of new v)
      by_case true t is other =
          let is' : v ≡ low = grind (arith, nat_tests) in
          let apart : low ≡ high → ⊥ = λ e. omega arith in
          let here = AreHalves-cost (H low) (H2 low) (place_of es low) (place_of new low) high joint.low joint.cost cost (λ k. ap (λ (hs : List Half). slice_get hs k) (others2 low apart) ∙ first k) (halves low) known.low_place
          (λ w. places low w ∙ (let same : are_ends low high low w ≡ eqb w high = grind (arith, nat_tests) in ap (λ b. cond b (option_map (λ (p : ℕ × ℕ). (p.0, cost)) (place_of es low w)) (place_of es low w)) same)) in
          AreHalves-same (H2 low) (H2 v) (place_of new low) (place_of new v) (ap H2 is') (λ w. ap (λ x. place_of new x w) is') here
      by_case false true other is =
          let is' : v ≡ high = grind (arith, nat_tests) in
          let apart : high ≡ low → ⊥ = λ e. omega arith in
          let here = AreHalves-cost (H high) (H2 high) (place_of es high) (place_of new high) low joint.high joint.cost cost (λ k. second k ∙ ap (λ (hs : List Half). cond (eqb k joint.high) (option_map (with_cost cost) (slice_get hs k)) (slice_get hs k)) (others1 high apart)) (halves high) known.high_place
          (λ w. places high w ∙ (let same : are_ends low high high w ≡ eqb w low = grind (arith, nat_tests) in ap (λ b. cond b (option_map (λ (p : ℕ × ℕ). (p.0, cost)) (place_of es high w)) (place_of es high w)) same)) in
          AreHalves-same (H2 high) (H2 v) (place_of new high) (place_of new v) (ap H2 is') (λ w. ap (λ x. place_of new x w) is') here
      by_case false false not_low not_high =
          let low' : v ≡ low → ⊥ = λ e. grind (arith, nat_tests) in
          let high' : v ≡ high → ⊥ = λ e. grind (arith, nat_tests) in
          AreHalves-same (H v) (H2 v) (place_of es v) (place_of new v) (others2 v high' ∙ others1 v low') (λ w. places v w ∙ (let other : are_ends low high v w ≡ false = grind (arith, nat_tests) in ap (λ b. cond b (option_map (λ (p : ℕ × ℕ). (p.0, cost)) (place_of es v w)) (place_of es v w)) other)) (halves v)
