-- The branch of the trees that reach the first five of six vertices, and not the last.
use Rattle.std.proofs.Common.{◌≡◌, ℕ, zero, suc, ◌≤◌, [], ◌∷◌, inl, inr, refl, sym, subst, ◌∙◌, arith}
use Rattle.std.specs.Prelude.{◌==◌, IsTrue, IsFalse}
use Rattle.std.specs.List.Sorted.{IsStrictlyIncreasing}
use Rattle.std.proofs.lemmas.Bool.{cases_eq, eq-eqb, false≢true, or_left, or_right}
use Rattle.std.proofs.lemmas.List.Elements.{All-from_recursion}
use Rattle.st_model.specs.declared.branch.Branch.{Branch}
use Rattle.st_model.specs.Branch.{IsBranchIn, LeavesRequiredIn, certain_in, deciding, is_present}
use Rattle.st_model.specs.Ground.{Ground}
use Rattle.st_model.specs.Lists.{has}
use Rattle.st_model.specs.Network.{IsVertex}
use Rattle.st_model.proofs.Branches.{IsBranch-deciding}
use Rattle.st_model.proofs.Marked.{at_member}
use Rattle.st_model.proofs.Members.{has-one}
use Rattle.arborescence.specs.DiNetwork.{DiNetwork, di_ground, is_sought}

abbrev pub first_five : Branch
first_five = deciding (2 ∷ 3 ∷ 4 ∷ 5 ∷ []) (6 ∷ [])

rising : IsStrictlyIncreasing (2 ∷ 3 ∷ 4 ∷ 5 ∷ [])
rising zero below = omega arith
rising (suc zero) below = omega arith
rising (suc (suc zero)) below = omega arith
rising (suc (suc (suc k))) below = absurd (omega arith)

alone : IsStrictlyIncreasing (6 ∷ [])
alone k below = absurd (omega arith)

pub five_branch : (G : Ground) → G.n ≡ 6 → IsBranchIn G first_five
five_branch G six = IsBranch-deciding G (2 ∷ 3 ∷ 4 ∷ 5 ∷ []) (6 ∷ [])
    (record { ascending = rising; in_range = All-from_recursion (IsVertex G.n) (2 ∷ 3 ∷ 4 ∷ 5 ∷ []) (here 2 (omega arith) (omega arith), (here 3 (omega arith) (omega arith), (here 4 (omega arith) (omega arith), (here 5 (omega arith) (omega arith), tt)))) })
    (record { ascending = alone; in_range = All-from_recursion (IsVertex G.n) (6 ∷ []) (here 6 (omega arith) (omega arith), tt) })
    (λ v inside. at_member (λ w. IsFalse (has (6 ∷ []) w)) (2 ∷ 3 ∷ 4 ∷ 5 ∷ []) v (refl, (refl, (refl, (refl, tt)))) inside)
  where
    here : (v : ℕ) → 1 ≤ v → v ≤ 6 → IsVertex G.n v
    here v low high = (low, rw six high)

pub five_required : (D : DiNetwork) → D.root ≡ 1 → IsFalse (has D.terminals 6) → LeavesRequiredIn (di_ground D) first_five
five_required D root free = λ v outside. subst (λ w. IsFalse (is_sought D w)) (has-one 6 v outside) (rw (root, free) refl)

pub five_certain : (D : DiNetwork) → D.n ≡ 6 → D.root ≡ 1 → (v : ℕ) → IsVertex D.n v → IsTrue (is_present first_five v) → IsTrue (certain_in (di_ground D) first_five v)
five_certain D six root v vertex present = elim (cases_eq v 1) [
  | inl first ↦ or_left (is_sought D v) _ (or_left (v == D.root) _ (eq-eqb v D.root (first ∙ sym root)))
  | inr later ↦ or_right (is_sought D v) (has (2 ∷ 3 ∷ 4 ∷ 5 ∷ []) v) (among v vertex.0 (rw six at vertex.1) present later)
]
  where
    among : (w : ℕ) → 1 ≤ w → w ≤ 6 → IsTrue (is_present first_five w) → (w ≡ 1 → ⊥) → IsTrue (has (2 ∷ 3 ∷ 4 ∷ 5 ∷ []) w)
    among w low high there later = elim (cases_eq w 2) [
      | inl second ↦ rw second refl
      | inr past_2 ↦ elim (cases_eq w 3) [
        | inl third ↦ rw third refl
        | inr past_3 ↦ elim (cases_eq w 4) [
          | inl fourth ↦ rw fourth refl
          | inr past_4 ↦ elim (cases_eq w 5) [
            | inl fifth ↦ rw fifth refl
            | inr past_5 ↦ let last : w ≡ 6 = omega arith in absurd (false≢true (rw last at there))
          ]
        ]
      ]
    ]
