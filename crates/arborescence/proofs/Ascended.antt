-- An ascent over all vertices that have to be reached, and how it ends.
use Rattle.std.proofs.Common.{◌≡◌, ℕ, ◌+◌, ◌<◌, ◌≤◌, ◌⊎◌, [], Option, Some, None, inl, inr, refl, sym, ap, subst, arith}
use Rattle.std.specs.Prelude.{IsTrue, IsFalse, MatchOption, ◌==◌}
use Rattle.std.proofs.lemmas.Bool.{cases_eq, or_cases, or_left, both_ways, false_from_ne_true, eq-eqb}
use Rattle.std.proofs.lemmas.List.{append-nil}
use Rattle.std.proofs.lemmas.List.Elements.{All-nil}
use Rattle.st_model.specs.declared.branch.Branch.{Branch}
use Rattle.st_model.specs.Branch.{IsVertexSet, IsBranchIn, LeavesRequiredIn, certain_in, is_present}
use Rattle.st_model.specs.Lists.{has, total}
use Rattle.st_model.specs.Network.{IsVertex}
use Rattle.st_model.proofs.Sums.{total-append}
use Rattle.cut_packing.specs.declared.cut.Cut.{Cut}
use Rattle.cut_packing.specs.declared.packing.Packing.{Packing}
use Rattle.cut_packing.specs.Full.{IsFullIn, IsReachedIn}
use Rattle.cut_packing.specs.Packing.{FitsIn, IsRootIn, weight_in}
use Rattle.arborescence.specs.declared.raising.Raising.{Raising}
use Rattle.arborescence.specs.Ascending.{IsDiExtended, HasRaised, raised_packing}
use Rattle.arborescence.specs.DiNetwork.{DiNetwork, IsDiNetwork, di_ground, is_sought}
use Rattle.arborescence.proofs.DiWeights.{weighs_cuts}

-- what fits does so with the root
pub rooted_fits : (D : DiNetwork) (B : Branch) (P : Packing) → IsDiNetwork D → FitsIn (di_ground D) B P → FitsIn (di_ground D) B (record { root = Some D.root; cuts = P.cuts })
rooted_fits D B P net fits = record { root = root P.root fits.root; cuts = fits.cuts; arcs = fits.arcs; prizes = fits.prizes }
  where
    root : (r : Option ℕ) → MatchOption r (P.cuts ≡ []) (IsRootIn (di_ground D) B P.cuts) → IsRootIn (di_ground D) B P.cuts D.root
    root None none = record {
      vertex = net.root;
      certain = or_left (is_sought D D.root) (has B.inside D.root) (or_left (D.root == D.root) _ (eq-eqb D.root D.root refl));
      same = refl;
      apart = rw none (All-nil (λ c. IsFalse (has c.set D.root)));
    }
    root (Some r) is = subst (IsRootIn (di_ground D) B P.cuts) is.same is

-- who has to be reached is present
pub certain_present : (D : DiNetwork) (B : Branch) (v : ℕ) → IsBranchIn (di_ground D) B → LeavesRequiredIn (di_ground D) B → IsTrue (certain_in (di_ground D) B v) → IsTrue (is_present B v)
certain_present D B v branch required certain = rw (false_from_ne_true (has B.outside v) outside) refl
  where
    outside : IsTrue (has B.outside v) → ⊥
    outside out = elim (or_cases (is_sought D v) (has B.inside v) certain) [
      | inl sought ↦ both_ways (is_sought D v) (required v out) sought
      | inr inside ↦ both_ways (has B.outside v) (branch.apart v inside) out
    ]

-- no room is left, or all that have to be reached, up to a vertex, are
abbrev pub AreReached : DiNetwork → Branch → Raising → ℕ → Type 0
AreReached D B s last = (s.room ≡ 0) ⊎ ((v : ℕ) → 1 ≤ v → v ≤ last → IsTrue (certain_in (di_ground D) B v) → IsReachedIn (di_ground D) B (raised_packing D s) D.root v)

-- the next one has to be reached, and is
pub reached_more : (D : DiNetwork) (B : Branch) (s t : Raising) (k : ℕ) → HasRaised D B s t → AreReached D B s k → (t.room ≡ 0) ⊎ IsReachedIn (di_ground D) B (raised_packing D t) D.root (k + 1) → AreReached D B t (k + 1)
reached_more D B s t k raised (inl none) now =
    let more = total-append (λ (c : Cut). c.y) s.cuts.items raised.holds.0 in
    let grown = ap (total (λ (c : Cut). c.y)) raised.holds.1 in
    let room = raised.room in
    inl (omega arith)
reached_more D B s t k raised (inr before) (inl none) = inl none
reached_more D B s t k raised (inr before) (inr now) = inr (λ v low high certain. elim (cases_eq v (k + 1)) [
  | inl same ↦ rw same now
  | inr other ↦ raised.reached v (before v low (omega arith) certain)
])

-- the next one doesn't have to be
pub reached_past : (D : DiNetwork) (B : Branch) (s : Raising) (k : ℕ) → IsFalse (certain_in (di_ground D) B (k + 1)) → AreReached D B s k → AreReached D B s (k + 1)
reached_past D B s k free (inl none) = inl none
reached_past D B s k free (inr before) = inr (λ v low high certain. elim (cases_eq v (k + 1)) [
  | inl same ↦ absurd (both_ways (certain_in (di_ground D) B (k + 1)) free (rw same at certain))
  | inr other ↦ before v low (omega arith) certain
])

-- all vertices were asked
pub all_reached : (D : DiNetwork) (B : Branch) (s : Raising) (last : ℕ) → D.n ≤ last → AreReached D B s last → (s.room ≡ 0) ⊎ ((v : ℕ) → IsVertex D.n v → IsTrue (certain_in (di_ground D) B v) → IsReachedIn (di_ground D) B (raised_packing D s) D.root v)
all_reached D B s last past (inl none) = inl none
all_reached D B s last past (inr all) = inr (λ v vertex certain. let high = vertex.1 in all v vertex.0 (omega arith) certain)

-- the packing that was raised
pub extended : (D : DiNetwork) (B : Branch) (P : Packing) (s t : Raising) → s.cuts.items ≡ P.cuts → HasRaised D B s t → IsDiExtended D B P (raised_packing D t)
extended D B P s t cuts raised = record { rooted = refl; fits = raised.raising.fits; holds = (raised.holds.0, rw cuts at raised.holds.1, raised.holds.2) }

-- nothing was raised
pub unextended : (D : DiNetwork) (B : Branch) (P : Packing) → IsDiNetwork D → FitsIn (di_ground D) B P → IsDiExtended D B P (record { root = Some D.root; cuts = P.cuts })
unextended D B P net fits = record { rooted = refl; fits = rooted_fits D B P net fits; holds = ([], sym (append-nil P.cuts), All-nil (λ c. IsVertexSet D.n c.set)) }

-- it weighs what the target leaves less
pub raised_weight : (D : DiNetwork) (B : Branch) (P : Packing) (s t : Raising) (weight target : ℕ) → B.must ≡ [] → s.cuts.items ≡ P.cuts → weight ≡ total (λ c. c.y) P.cuts → weight + s.room ≡ target → HasRaised D B s t → weight_in (di_ground D) B (raised_packing D t) + t.room ≡ target
raised_weight D B P s t weight target none cuts is room raised =
    let whole = weighs_cuts D B (raised_packing D t) none in
    let before = ap (total (λ (c : Cut). c.y)) cuts in
    let after = raised.room in
    omega arith

-- where there is room all is reached, so the packing is full
pub raised_full : (D : DiNetwork) (B : Branch) (t : Raising) → 0 < t.room → (t.room ≡ 0) ⊎ ((v : ℕ) → IsVertex D.n v → IsTrue (certain_in (di_ground D) B v) → IsReachedIn (di_ground D) B (raised_packing D t) D.root v) → IsFullIn (di_ground D) B (raised_packing D t)
raised_full D B t room (inl none) = absurd (omega arith)
raised_full D B t room (inr all) = (D.root, refl, record { certain = all; undecided = λ v vertex undecided named. absurd (omega arith) })
