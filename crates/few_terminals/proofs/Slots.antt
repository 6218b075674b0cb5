-- Where vertices stand in a list, each of which stands there once.
use Rattle.std.proofs.Common.{◌≡◌, ℕ, ◌<◌, ◌≤◌, false, List, length, take, get_or, inl, inr, refl, sym, subst, ◌∙◌, arith}
use Rattle.std.specs.Prelude.{◌==◌, IsTrue, IsFalse}
use Rattle.std.proofs.lemmas.Bool.{cases_lt, eq-eqb, eqb-true, false≢true, false_from_ne_true}
use Rattle.std.proofs.lemmas.List.{get_or-take, length-take}
use Rattle.std.proofs.lemmas.List.Sums.{fails_before_first, passes_at_first, position_or_len_is}
use Rattle.st_model.specs.Lists.{has}
use Rattle.st_model.specs.VertexSet.{AllApart}
use Rattle.st_model.proofs.Marked.{has_at, place_of, AllApart-at}
use Rattle.few_terminals.specs.Reach.{slot_of}

-- who is listed has a slot
pub slot_within : (vs : List ℕ) (v : ℕ) → IsTrue (has vs v) → slot_of vs v < length vs
slot_within vs v there = elim (cases_lt (slot_of vs v) (length vs)) [
  | inl within ↦ within
  | inr past ↦
      let place = place_of vs v there in
      let low = place.1 in
      absurd (false≢true (sym (fails_before_first (λ (x : ℕ). x == v) vs place.0 0 (omega (arith, low, past))) ∙ eq-eqb (get_or vs place.0 0) v place.2))
]

-- at which it stands
pub at_slot : (vs : List ℕ) (v : ℕ) → slot_of vs v < length vs → get_or vs (slot_of vs v) 0 ≡ v
at_slot vs v within = eqb-true (get_or vs (slot_of vs v) 0) v (passes_at_first (λ (x : ℕ). x == v) vs 0 within)

pub has_slot : (vs : List ℕ) (v : ℕ) → slot_of vs v < length vs → IsTrue (has vs v)
has_slot vs v within = subst (λ (x : ℕ). IsTrue (has vs x)) (at_slot vs v within) (has_at vs (slot_of vs v) 0 within)

-- and who isn't has none
pub slot_past : (vs : List ℕ) (v : ℕ) → IsFalse (has vs v) → length vs ≤ slot_of vs v
slot_past vs v out = elim (cases_lt (slot_of vs v) (length vs)) [
  | inl within ↦ absurd (false≢true (sym out ∙ has_slot vs v within))
  | inr past ↦ past
]

-- the slot of what stands at a place is that place
pub slot_at : (vs : List ℕ) (i : ℕ) → AllApart vs → i < length vs → slot_of vs (get_or vs i 0) ≡ i
slot_at vs i once within = position_or_len_is (λ (x : ℕ). x == get_or vs i 0) vs i 0 (omega (arith, within)) earlier (λ _. eq-eqb (get_or vs i 0) (get_or vs i 0) refl)
  where
    earlier : (k : ℕ) → k < i → (get_or vs k 0 == get_or vs i 0) ≡ false
    earlier k low = false_from_ne_true (get_or vs k 0 == get_or vs i 0) (λ same.
        let long = length-take i vs in
        let there = has_at (take i vs) k 0 (omega (arith, long, low, within)) in
        let is : get_or (take i vs) k 0 ≡ get_or vs i 0 = get_or-take i vs k 0 low ∙ eqb-true (get_or vs k 0) (get_or vs i 0) same in
        false≢true (sym (AllApart-at vs i once within) ∙ subst (λ (x : ℕ). IsTrue (has (take i vs) x)) is there))
