-- When nothing that is reached has a neighbour that isn't, all ends of connected pairs are reached.
use Rattle.std.proofs.Common.{◌≡◌, ℕ, zero, suc, ◌+◌, ◌<◌, true, false, ◌||◌, inl, inr, List, [], ◌∷◌, ◌++◌, length, get_or, take, drop, refl, sym, ap, ◌∙◌, arith, eq-eqb}
use Rattle.std.specs.Prelude.{IsTrue, All}
use Rattle.std.proofs.lemmas.Bool.Decides.{eqb_tells}
use Rattle.std.proofs.lemmas.List.Elements.{recursion_from_All}
use Rattle.std.proofs.lemmas.List.{take-append-drop, take-append-le}
use Rattle.std.proofs.Math.Seq.{take-length}
use Rattle.std.proofs.Math.Bool.{or_comm}
use Rattle.std.proofs.lemmas.List.Folds.{list_any_at}
use Rattle.st_model.specs.Lists.{has}
use Rattle.st_model.specs.Arborescence.{reached_from}
use Rattle.st_model.specs.Made.{is_between, has_pair, AreConnectedFrom}
use Rattle.st_model.specs.Growth.{neighbours, reaches, AreSettled}
use Rattle.st_model.proofs.Booleans.{same_test}
use Rattle.st_model.proofs.Distinct.{has-cons_head}
use Rattle.st_model.proofs.Marked.{at_member}
use Rattle.st_model.proofs.Judging.{reached_next}
use Rattle.st_model.proofs.ThinGrowth.{has-neighbours, has-reached_from, has-reached_from_take}

-- the head of each arc is reached
pub reaches-head : (r : List ℕ) (arcs : List (ℕ × ℕ)) (i : ℕ) (d : ℕ × ℕ) → i < length arcs → IsTrue (has (reached_from r arcs) (get_or arcs i d).1)
reaches-head r [] i d in_range = absurd (omega arith)
reaches-head r (arc ∷ arcs) zero d in_range = has-reached_from (arc.1 ∷ r) arcs arc.1 (has-cons_head r arc.1 arc.1 refl)
reaches-head r (arc ∷ arcs) (suc i) d in_range = reaches-head (arc.1 ∷ r) arcs i d (omega arith)

-- the neighbours of v are reached where those in its list are
settled-one : (pairs : List (ℕ × ℕ)) (start : ℕ) (arcs : List (ℕ × ℕ)) (heads : List ℕ) (v w : ℕ) → All (λ head. IsTrue (reaches start arcs head)) heads → heads ≡ neighbours pairs v → IsTrue (has_pair pairs v w) → IsTrue (reaches start arcs w)
settled-one pairs start arcs heads v w reached are pair =
    at_member (λ head. IsTrue (reaches start arcs head)) heads w (recursion_from_All _ heads reached) (ap (λ hs. has hs w) are ∙ (has-neighbours pairs v w ∙ pair))

-- at first, once those of the start are
pub AreSettled-start : (pairs : List (ℕ × ℕ)) (start : ℕ) (arcs : List (ℕ × ℕ)) (heads : List ℕ) → All (λ head. IsTrue (reaches start arcs head)) heads → heads ≡ neighbours pairs start → AreSettled pairs start arcs 0
AreSettled-start pairs start arcs heads reached are v w first pair = elim (eqb_tells start v) [
  | inl e ↦ settled-one pairs start arcs heads v w reached (are ∙ ap (neighbours pairs) e.1) pair
  | inr e ↦ let none : (false || false) ≡ true = rw e.0 at first in cc
]

-- with the head of the next arc, once its neighbours are reached
pub AreSettled-more : (pairs : List (ℕ × ℕ)) (start : ℕ) (old new : List (ℕ × ℕ)) (next : ℕ) (heads : List ℕ) (tail : ℕ) (d : ℕ × ℕ) → AreSettled pairs start old next → next < length old → take (length old) new ≡ old → tail ≡ (get_or old next d).1 → All (λ head. IsTrue (reaches start new head)) heads → heads ≡ neighbours pairs tail → AreSettled pairs start new (next + 1)
AreSettled-more pairs start old new next heads tail d settled in_range extends tail_is reached are v w first pair =
    let arc = get_or old next d in
    let r = start ∷ [] in
    let new_is : new ≡ old ++ drop (length old) new = sym (take-append-drop (length old) new) ∙ ap (λ l. l ++ drop (length old) new) extends in
    let first_are : take (next + 1) new ≡ take (next + 1) old = ap (take (next + 1)) new_is ∙ take-append-le (next + 1) old (drop (length old) new) (omega arith) in
    let reached_first : IsTrue (has (arc.1 ∷ reached_from r (take next old)) v) = sym (ap (λ l. has l v) (ap (reached_from r) first_are ∙ reached_next r old next d in_range)) ∙ first in
    elim (eqb_tells arc.1 v) [
      | inl e ↦ settled-one pairs start new heads v w reached (are ∙ ap (neighbours pairs) (tail_is ∙ e.1)) pair
      | inr e ↦
          let before : IsTrue (has (reached_from r (take next old)) v) = rw e.0 at reached_first in
          has-reached_from_take r new (length old) w (rw extends (settled v w before pair))
    ]

-- at the end
pub all-reached : (pairs : List (ℕ × ℕ)) (start : ℕ) (arcs : List (ℕ × ℕ)) → AreSettled pairs start arcs (length arcs) → AreConnectedFrom start pairs → All (λ pair. IsTrue (reaches start arcs pair.0) × IsTrue (reaches start arcs pair.1)) pairs
all-reached pairs start arcs settled connected =
    let same : All (λ pair. reaches start arcs pair.0 ≡ reaches start arcs pair.1) pairs = λ k d in_range.
    let pair = get_or pairs k d in
    same_test (reaches start arcs pair.0) (reaches start arcs pair.1)
    (λ h. settled pair.0 pair.1 (rw take-length h) (pair-there pairs k d pair.0 pair.1 in_range (itself pair)))
    (λ h. settled pair.1 pair.0 (rw take-length h) (pair-there pairs k d pair.1 pair.0 in_range (itself_turned pair))) in
    let firsts = connected (reaches start arcs) (has-reached_from (start ∷ []) arcs start (has-cons_head [] start start refl)) same in
    λ k d in_range. (firsts k d in_range, sym (same k d in_range) ∙ firsts k d in_range)
  where
    pair-there : (ps : List (ℕ × ℕ)) (k : ℕ) (d : ℕ × ℕ) (u v : ℕ) → k < length ps → IsTrue (is_between (get_or ps k d) u v) → IsTrue (has_pair ps u v)
    pair-there ps k d u v in_range h = list_any_at (λ pair. is_between pair u v) ps k d in_range h

    itself : (pair : ℕ × ℕ) → IsTrue (is_between pair pair.0 pair.1)
    itself pair = rw (eq-eqb pair.0 pair.0 refl, eq-eqb pair.1 pair.1 refl) refl

    itself_turned : (pair : ℕ × ℕ) → IsTrue (is_between pair pair.1 pair.0)
    itself_turned pair = rw (or_comm, eq-eqb pair.0 pair.0 refl, eq-eqb pair.1 pair.1 refl) refl
