-- A tree of which one arc alone enters each cut costs at most what the cuts are worth, where each arc bears what it costs.
use Rattle.std.proofs.Common.{◌≡◌, ◌≢◌, ℕ, ◌≤◌, List, [], ◌∷◌, inl, inr, refl, sym, ap, ◌∙◌, arith}
use Rattle.std.specs.Prelude.{◌==◌, IsTrue, IsFalse, if◌then◌else◌, ⊤}
use Rattle.std.specs.List.{AllByRecursion}
use Rattle.std.proofs.lemmas.Bool.{both_ways, cases_Bool, eq-eqb, or_left, or_right}
use Rattle.st_model.specs.Lists.{has, total}
use Rattle.cut_packing.specs.declared.cut.Cut.{Cut}
use Rattle.cut_packing.specs.Packing.{load}
use Rattle.cut_packing.proofs.Sums.{total-add}
use Rattle.cut_packing.proofs.Turned.{enters}

-- no head is reached before its arc
abbrev pub HaveNewHeads : List ℕ → List (ℕ × ℕ) → Type 0
HaveNewHeads r [] = ⊤
HaveNewHeads r (arc ∷ arcs) = IsFalse (has r arc.1) × HaveNewHeads (arc.1 ∷ r) arcs

-- so an arc to what is reached isn't one of them
other_heads : (r : List ℕ) (v : ℕ) (arcs : List (ℕ × ℕ)) → IsTrue (has r v) → HaveNewHeads r arcs → AllByRecursion (λ b. b.1 ≢ v) arcs
other_heads r v [] held new = tt
other_heads r v (b ∷ arcs) held new = (λ same. absurd (both_ways (has r v) (ap (has r) (sym same) ∙ new.0) held), other_heads (b.1 ∷ r) v arcs (or_right (b.1 == v) _ held) new.1)

-- where only arcs to v could enter, and none leads there, none enters
none_enters : (set : List ℕ) (y : ℕ) (a : ℕ × ℕ) (arcs : List (ℕ × ℕ)) → AllByRecursion (λ b. b.1 ≢ a.1) arcs → AllByRecursion (λ b. IsTrue (enters set b) → b ≡ a) arcs → total (λ b. if enters set b then y else 0) arcs ≡ 0
none_enters set y a [] heads alone = refl
none_enters set y a (b ∷ arcs) heads alone = elim (cases_Bool (enters set b)) [
  | inl in_ ↦ absurd (heads.0 (ap (λ (p : ℕ × ℕ). p.1) (alone.0 in_)))
  | inr out ↦ let rest = none_enters set y a arcs heads.1 alone.1 in rw out (omega arith)
]

-- one arc at most enters
abbrev pub EntersOnce : List ℕ → List (ℕ × ℕ) → Type 0
EntersOnce set [] = ⊤
EntersOnce set (a ∷ arcs) = (IsTrue (enters set a) → AllByRecursion (λ b. IsTrue (enters set b) → b ≡ a) arcs) × EntersOnce set arcs

pub once_bears : (r : List ℕ) (set : List ℕ) (y : ℕ) (arcs : List (ℕ × ℕ)) → HaveNewHeads r arcs → EntersOnce set arcs → total (λ a. if enters set a then y else 0) arcs ≤ y
once_bears r set y [] new once = omega arith
once_bears r set y (a ∷ arcs) new once = elim (cases_Bool (enters set a)) [
  | inl in_ ↦ let rest = none_enters set y a arcs (other_heads (a.1 ∷ r) a.1 arcs (or_left (a.1 == a.1) _ (eq-eqb a.1 a.1 refl)) new.1) (once.0 in_) in rw in_ (omega arith)
  | inr out ↦ let rest = once_bears (a.1 ∷ r) set y arcs new.1 once.1 in rw out (omega arith)
]

-- all cuts together
pub cuts_bear : (r : List ℕ) (arcs : List (ℕ × ℕ)) (cuts : List Cut) → HaveNewHeads r arcs → AllByRecursion (λ c. EntersOnce c.set arcs) cuts → total (load cuts) arcs ≤ total (λ c. c.y) cuts
cuts_bear r arcs [] new once = none arcs
  where
    none : (others : List (ℕ × ℕ)) → total (load []) others ≤ 0
    none [] = omega arith
    none (other ∷ others) = let rest = none others in omega arith
cuts_bear r arcs (c ∷ cuts) new once =
    let here = once_bears r c.set c.y arcs new once.0 in
    let rest = cuts_bear r arcs cuts new once.1 in
    rw (total-add (λ arc. if enters c.set arc then c.y else 0) (load cuts) arcs) (omega arith)
