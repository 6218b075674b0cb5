-- Where the halves of a vertex's links lead.
use Rattle.std.proofs.Common.{◌≡◌, ◌≢◌, ℕ, zero, suc, ◌<◌, ◌≤◌, List, [], ◌∷◌, length, map, get_or, Option, Some, None, IsSome, refl, ap, arith, eq-eqb}
use Rattle.std.specs.Prelude.{IsTrue, ◌==◌}
use Rattle.std.proofs.lemmas.Bool.{or_left, or_right}
use Rattle.st_model.specs.Lists.{has}
use Rattle.st_model.specs.Network.{Network, link}
use Rattle.graph_store.specs.declared.half.Half.{Half}
use Rattle.graph_store.specs.Neighbours.{AreNeighbours}
use Rattle.graph_store.proofs.Vertices.{half_linked}
use Rattle.lift_back.specs.Ends.{AreCovered, HasThree}

-- the other end of a half at some place is among those of all
has_at : (halves : List Half) (k w : ℕ) (d : Half) → k < length halves → (get_or halves k d).to ≡ w → IsTrue (has (map (λ h. h.to) halves) w)
has_at [] k w d within is = absurd (omega arith)
has_at (h ∷ hs) zero w d within is = or_left (h.to == w) (has (map (λ h. h.to) hs) w) (eq-eqb h.to w is)
has_at (h ∷ hs) (suc k) w d within is = or_right (h.to == w) (has (map (λ h. h.to) hs) w) (has_at hs k w d (omega arith) is)

-- whoever is linked with v is among them
pub covered : (I : Network) (v : ℕ) (halves : List Half) → AreNeighbours I v halves → AreCovered I.links v (map (λ h. h.to) halves)
covered I v halves are w linked = by_case (link I.links v w) refl linked
  where
    by_case : (o : Option ℕ) → link I.links v w ≡ o → IsSome o → IsTrue (has (map (λ h. h.to) halves) w)
    by_case None is some = absurd cc
    by_case (Some cost) is some =
        let there = (are.linked w cost).1 is in
        has_at halves there.0 w (record { to = w; cost = cost }) there.1 (ap (λ (h : Half). h.to) there.2)

-- no half, one, and two
pub no_end : (I : Network) (v : ℕ) (halves : List Half) → AreNeighbours I v halves → length halves < 1 → AreCovered I.links v []
no_end I v [] are short = covered I v [] are
no_end I v (h ∷ rest) are short = absurd (omega arith)

pub one_end : (I : Network) (v : ℕ) (halves : List Half) (d : Half) → AreNeighbours I v halves → 1 ≤ length halves → length halves < 2 → IsSome (link I.links v (get_or halves 0 d).to) × AreCovered I.links v ((get_or halves 0 d).to ∷ [])
one_end I v [] d are long short = absurd (omega arith)
one_end I v (h ∷ []) d are long short = ((half_linked I v (h ∷ []) 0 h are refl).0, covered I v (h ∷ []) are)
one_end I v (h ∷ k ∷ rest) d are long short = absurd (omega arith)

pub two_ends : (I : Network) (v : ℕ) (halves : List Half) (d : Half) → AreNeighbours I v halves → 2 ≤ length halves → length halves < 3
    → ((get_or halves 0 d).to ≢ (get_or halves 1 d).to) × IsSome (link I.links v (get_or halves 0 d).to) × IsSome (link I.links v (get_or halves 1 d).to) × AreCovered I.links v ((get_or halves 0 d).to ∷ (get_or halves 1 d).to ∷ [])
two_ends I v [] d are long short = absurd (omega arith)
two_ends I v (h ∷ []) d are long short = absurd (omega arith)
two_ends I v (h ∷ k ∷ []) d are long short = (are.once 0 1 h (omega arith) (omega arith), (half_linked I v (h ∷ k ∷ []) 0 h are refl).0, (half_linked I v (h ∷ k ∷ []) 1 k are refl).0, covered I v (h ∷ k ∷ []) are)
two_ends I v (h ∷ k ∷ l ∷ rest) d are long short = absurd (omega arith)

-- three or more
pub three_ends : (I : Network) (v : ℕ) (halves : List Half) → AreNeighbours I v halves → 3 ≤ length halves → (a : ℕ) × (b : ℕ) × (c : ℕ) × HasThree I.links v a b c
three_ends I v [] are long = absurd (omega arith)
three_ends I v (h ∷ []) are long = absurd (omega arith)
three_ends I v (h ∷ k ∷ []) are long = absurd (omega arith)
three_ends I v (h ∷ k ∷ l ∷ rest) are long = (
  h.to,
  k.to,
  l.to,
  record {
    first = (half_linked I v (h ∷ k ∷ l ∷ rest) 0 h are refl).0;
    second = (half_linked I v (h ∷ k ∷ l ∷ rest) 1 k are refl).0;
    third = (half_linked I v (h ∷ k ∷ l ∷ rest) 2 l are refl).0;
    apart = (are.once 0 1 h (omega arith) (omega arith), are.once 0 2 h (omega arith) (omega arith), are.once 1 2 h (omega arith) (omega arith));
  },
)
