-- A link taken out with its halves, step by step.
use Rattle.std.proofs.Common.{◌≡◌, ℕ, ◌<◌, min, max, Bool, true, false, cond, eqb, List, length, None, refl, ap, ◌∙◌, arith}
use Rattle.std.proofs.lemmas.Bool.Decides.{nat_tests}
use Rattle.std.proofs.lemmas.Option.{slice_get_within}
use Rattle.graph_store.specs.declared.half.Half.{Half}
use Rattle.graph_store.specs.declared.joints.Joint.{Joint}
use Rattle.graph_store.specs.Changes.{are_ends}
use Rattle.graph_store.specs.Joined.{Entry, joint_of, place_of, AreHalves, AreHalvesBut}
use Rattle.graph_store.proofs.Halves.{AreHalves-same, AreHalves-without}
use Rattle.graph_store.proofs.LinkLemmas.{IsTold, place_of-gone, place_of-gone_high, place_of-gone_others}

module _ (es e1 : List Entry) (a b low high : ℕ) (joint : Joint) (low_is : low ≡ min a b) (high_is : high ≡ max a b) (known : IsTold es low high joint)
    (gone : (x y : ℕ) → joint_of e1 x y ≡ cond (are_ends a b x y) None (joint_of es x y))
    (H : ℕ → List Half) (halves : (v : ℕ) → AreHalves (H v) (place_of es v)) where
  -- both halves are in the lists
  pub low_within : joint.low < length (H low)
  low_within = slice_get_within (H low) joint.low _ ((halves low).found high joint.low joint.cost known.low_place)

  pub high_within : joint.high < length (H high)
  high_within = slice_get_within (H high) joint.high _ ((halves high).found low joint.high joint.cost known.high_place)

  -- the lower end's, where its link is gone
  pub low_but : AreHalvesBut joint.low (H low) (place_of e1 low)
  low_but = AreHalves-without (H low) (place_of es low) (place_of e1 low) high joint.low joint.cost (halves low) known.low_place (place_of-gone es e1 a b low high low_is high_is gone)

  pub high_but : AreHalvesBut joint.high (H high) (place_of e1 high)
  high_but = AreHalves-without (H high) (place_of es high) (place_of e1 high) low joint.high joint.cost (halves high) known.high_place (place_of-gone_high es e1 a b low high low_is high_is gone)

  -- and once both are taken out, all lists are as their links say
  pub all_halves : (e2 e3 : List Entry) (H2 H3 : ℕ → List Half)
      → AreHalves (H2 low) (place_of e2 low) → AreHalves (H3 high) (place_of e3 high)
      → ((v : ℕ) → (v ≡ low → ⊥) → H2 v ≡ H v) → ((v : ℕ) → (v ≡ high → ⊥) → H3 v ≡ H2 v)
      → ((v w : ℕ) → (v ≡ low → ⊥) → place_of e2 v w ≡ place_of e1 v w) → ((v w : ℕ) → (v ≡ high → ⊥) → place_of e3 v w ≡ place_of e2 v w)
      → (v : ℕ) → AreHalves (H3 v) (place_of e3 v)
  all_halves e2 e3 H2 H3 low_done high_done lists2 lists3 places2 places3 v = by_case (eqb v low) (eqb v high) refl refl
    where
      by_case : (s t : Bool) → eqb v low ≡ s → eqb v high ≡ t → AreHalves (H3 v) (place_of e3 v)
      by_case true t is other =
          let is' : v ≡ low = grind (arith, nat_tests) in
          let before = known.ordered in
          let apart : v ≡ high → ⊥ = λ e. omega arith in
          AreHalves-same (H2 low) (H3 v) (place_of e2 low) (place_of e3 v) (lists3 v apart ∙ ap H2 is') (λ w. places3 v w apart ∙ ap (λ x. place_of e2 x w) is') low_done
      by_case false true other is =
          let is' : v ≡ high = grind (arith, nat_tests) in
          AreHalves-same (H3 high) (H3 v) (place_of e3 high) (place_of e3 v) (ap H3 is') (λ w. ap (λ x. place_of e3 x w) is') high_done
      by_case false false not_low not_high =
          let low' : v ≡ low → ⊥ = λ e. grind (arith, nat_tests) in
          let high' : v ≡ high → ⊥ = λ e. grind (arith, nat_tests) in
          AreHalves-same (H v) (H3 v) (place_of es v) (place_of e3 v) (lists3 v high' ∙ lists2 v low') (λ w. places3 v w high' ∙ places2 v w low' ∙ place_of-gone_others es e1 a b low high low_is high_is gone v w low' high') (halves v)
