-- What was made stays made where more is recorded, and lists of records grow by one.
use Rattle.std.proofs.Common.{◌≡◌, ℕ, zero, suc, ◌+◌, ◌<◌, List, [], ◌∷◌, ◌++◌, length, refl, ap, ◌∙◌, arith, inl, inr}
use Rattle.std.specs.Prelude.{Contains}
use Rattle.std.proofs.lemmas.List.Elements.{Contains-append_cases, Contains-append_left, Contains-append_right}
use Rattle.st_model.specs.declared.branch.Branch.{Branch}
use Rattle.st_model.specs.Lists.{total}
use Rattle.st_model.specs.Network.{Network}
use Rattle.st_model.proofs.Sums.{total-append}
use Rattle.cut_packing.specs.declared.packing.Packing.{Packing}
use Rattle.branching.specs.declared.node.Node.{Node}
use Rattle.search_core.specs.declared.done.Done.{Done}
use Rattle.search_core.specs.declared.worker.Worker.{Worker}
use Rattle.search_core.specs.Complete.{IsHalf, IsMade, KeepsWeight, root, inside_of, outside_of, inside, outside}
use Rattle.search_core.specs.Kept.{IsRecordedNode, all_done}
use Rattle.search_core.specs.State.{changed_at}

-- what was recorded before is among what is recorded after
abbrev pub AreMoreRecords : List Done → List Done → Type 0
AreMoreRecords done more = (d : Done) → Contains done d → Contains more d

pub made-more : (R : Branch) (done more : List Done) → AreMoreRecords done more → (id : ℕ) (B : Branch) → IsMade R done id B → IsMade R more id B
made-more R done more grown id B root = root
made-more R done more grown id B (inside_of {id = a} {B = C} c m) = inside_of (grown _ c) (made-more R done more grown a C m)
made-more R done more grown id B (outside_of {id = a} {B = C} c m) = outside_of (grown _ c) (made-more R done more grown a C m)

half-more : (done more : List Done) → AreMoreRecords done more → (id : ℕ) (P : Packing) (half : ℕ) → IsHalf done id P half → IsHalf more id P half
half-more done more grown id P half (inside c) = inside (grown _ c)
half-more done more grown id P half (outside c) = outside (grown _ c)

keeps-more : (I : Network) (R : Branch) (done more : List Done) → AreMoreRecords done more → (N : Node) → KeepsWeight I R done N → KeepsWeight I R more N
keeps-more I R done more grown N (inl first) = inl first
keeps-more I R done more grown N (inr (id, P, B, h)) =
    inr (id, P, B, record { half = half-more done more grown id P N.id h.half; made = made-more R done more grown id B h.made; weight = h.weight })

pub node-more : (I : Network) (R : Branch) (done more : List Done) → AreMoreRecords done more → (N : Node) → IsRecordedNode I R done N → IsRecordedNode I R more N
node-more I R done more grown N h = record { made = made-more R done more grown N.id N.branch h.made; keeps = keeps-more I R done more grown N h.keeps }

-- no worker joins or goes
pub length-changed : {X : Type 0} (xs : List X) (k : ℕ) (f : X → X) → length (changed_at xs k f) ≡ length xs
length-changed [] k f = refl
length-changed (x ∷ xs) zero f = refl
length-changed (x ∷ xs) (suc k) f = ap (λ n. suc n) (length-changed xs k f)

-- a change that records nothing
pub all_done-same : (xs : List Worker) (k : ℕ) (f : Worker → Worker) → ((x : Worker) → (f x).done ≡ x.done) → all_done (changed_at xs k f) ≡ all_done xs
all_done-same [] k f same = refl
all_done-same (x ∷ xs) zero f same = ap (λ (ds : List Done). ds ++ all_done xs) (same x)
all_done-same (x ∷ xs) (suc k) f same = ap (λ (ds : List Done). x.done ++ ds) (all_done-same xs k f same)

-- a change that records one thing more
abbrev pub Records : (Worker → Worker) → Done → Type 0
Records f d = (x : Worker) → (f x).done ≡ x.done ++ d ∷ []

-- keeps what was recorded
pub all_done-more : (xs : List Worker) (k : ℕ) (f : Worker → Worker) (d : Done) → Records f d → AreMoreRecords (all_done xs) (all_done (changed_at xs k f))
all_done-more [] k f d grows e h = h
all_done-more (x ∷ xs) zero f d grows e h =
    elim (Contains-append_cases x.done (all_done xs) e h) [
      | inl a ↦ Contains-append_left (f x).done (all_done xs) e (rw (grows x) (Contains-append_left x.done (d ∷ []) e a))
      | inr b ↦ Contains-append_right (f x).done (all_done xs) e b
    ]
all_done-more (x ∷ xs) (suc k) f d grows e h =
    elim (Contains-append_cases x.done (all_done xs) e h) [
      | inl a ↦ Contains-append_left x.done (all_done (changed_at xs k f)) e a
      | inr b ↦ Contains-append_right x.done (all_done (changed_at xs k f)) e (all_done-more xs k f d grows e b)
    ]

-- has what is recorded
pub all_done-new : (xs : List Worker) (k : ℕ) (f : Worker → Worker) (d : Done) → Records f d → k < length xs → Contains (all_done (changed_at xs k f)) d
all_done-new [] k f d grows below = absurd (no_place k below)
  where
    no_place : (k : ℕ) → k < 0 → ⊥
    no_place k h = omega arith
all_done-new (x ∷ xs) zero f d grows below = Contains-append_left (f x).done (all_done xs) d (rw (grows x) (Contains-append_right x.done (d ∷ []) d (0, omega arith, refl)))
all_done-new (x ∷ xs) (suc k) f d grows below = Contains-append_right x.done (all_done (changed_at xs k f)) d (all_done-new xs k f d grows (omega arith))

-- and adds its term to each sum
pub total-all_done : (h : Done → ℕ) (xs : List Worker) (k : ℕ) (f : Worker → Worker) (d : Done) → Records f d → k < length xs → total h (all_done (changed_at xs k f)) ≡ total h (all_done xs) + h d
total-all_done h [] k f d grows below = absurd (no_place k below)
  where
    no_place : (k : ℕ) → k < 0 → ⊥
    no_place k h = omega arith
total-all_done h (x ∷ xs) zero f d grows below =
    let longer : total h (f x).done ≡ total h x.done + (h d + 0) = ap (λ (ds : List Done). total h ds) (grows x) ∙ total-append h x.done (d ∷ []) in
    by_parts _ _ _ _ _ _ (total-append h (f x).done (all_done xs)) longer (total-append h x.done (all_done xs))
  where
    by_parts : (l a b t r n : ℕ) → l ≡ b + t → b ≡ a + (n + 0) → r ≡ a + t → l ≡ r + n
    by_parts l a b t r n e g k = omega arith
total-all_done h (x ∷ xs) (suc k) f d grows below =
    by_parts _ _ _ _ _ _ (total-append h x.done (all_done (changed_at xs k f))) (total-append h x.done (all_done xs)) (total-all_done h xs k f d grows (omega arith))
  where
    by_parts : (l a t r s n : ℕ) → l ≡ a + t → r ≡ a + s → t ≡ s + n → l ≡ r + n
    by_parts l a t r s n e g k = omega arith
