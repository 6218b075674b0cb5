-- What a walk along the edges from one vertex tells.
use Rattle.std.proofs.Common.{◌≡◌, ℕ, ◌+◌, ◌<◌, ◌≤◌, Bool, true, false, ◌&&◌, List, [], ◌∷◌, length, get_or, inl, inr, refl, sym, ap, subst, ◌∙◌, arith}
use Rattle.std.specs.Prelude.{◌==◌, IsTrue, IsFalse, All}
use Rattle.std.specs.List.{AllByRecursion, list_all}
use Rattle.std.proofs.lemmas.Bool.{or_cases, or_left, or_right, and_parts, cases_lt, false≢true, eq-eqb}
use Rattle.std.proofs.lemmas.Bool.Decides.{nat_tests}
use Rattle.std.proofs.lemmas.List.{get_or_past}
use Rattle.std.proofs.lemmas.List.Elements.{recursion_from_All}
use Rattle.std.proofs.lemmas.List.Folds.{list_any_at}
use Rattle.st_model.specs.Growth.{neighbours}
use Rattle.st_model.specs.Led.{heads_at, IsLed, start, along, AreLed}
use Rattle.st_model.specs.Lists.{has}
use Rattle.st_model.specs.Made.{is_between, has_pair}
use Rattle.st_model.proofs.Booleans.{same_test}
use Rattle.st_model.proofs.Distinct.{between-ends}
use Rattle.st_model.proofs.Marked.{at_member, has_at}
use Rattle.st_model.proofs.ThinGrowth.{has-neighbours}
use Rattle.solution_reader.specs.Claim.{Claim, IsClaim}
use Rattle.solution_reader.specs.Stated.{IsApart}

-- the ends of edges are among the vertices, so they are as small
pub small_ends : (last : ℕ) (claim : Claim) → IsClaim claim → All (λ v. v ≤ last) claim.vertices → All (λ edge. (edge.0 ≤ last) × (edge.1 ≤ last)) claim.edges
small_ends last claim is small k d within =
    let all = recursion_from_All (λ v. v ≤ last) claim.vertices small in
    (at_member (λ v. v ≤ last) claim.vertices (get_or claim.edges k d).0 all (is.ends k d within).0, at_member (λ v. v ≤ last) claim.vertices (get_or claim.edges k d).1 all (is.ends k d within).1)

-- sides that agree along edges agree at the ends of each
agree : (S : ℕ → Bool) (edges : List (ℕ × ℕ)) (u v : ℕ) → AllByRecursion (λ edge. S edge.0 ≡ S edge.1) edges → has_pair edges u v ≡ true → S u ≡ S v
agree S [] u v same h = absurd (false≢true h)
agree S (e ∷ es) u v same h = elim (or_cases (is_between e u v) (has_pair es u v) h) [
  | inl here ↦ elim (between-ends e u v here) [
    | inl p ↦ ap S (sym p.0) ∙ (same.0 ∙ ap S p.1)
    | inr p ↦ ap S (sym p.1) ∙ (sym same.0 ∙ ap S p.0)
  ]
  | inr there ↦ agree S es u v same.1 there
]

-- neighbours by edges, listed for each vertex up to the last
pub record AreNeighbours (edges : List (ℕ × ℕ)) (last : ℕ) (lists : List (List ℕ)) : Type 0 where
  pub long : length lists ≡ last + 1
  pub same : (v : ℕ) → v ≤ last → heads_at lists v ≡ neighbours edges v

pair_of : (edges : List (ℕ × ℕ)) (last : ℕ) (lists : List (List ℕ)) (u v : ℕ) → AreNeighbours edges last lists → IsTrue (has (heads_at lists u) v) → has_pair edges u v ≡ true
pair_of edges last lists u v n there = elim (cases_lt last u) [
  | inl above ↦
      let long = n.long in
      let none : heads_at lists u ≡ [] = get_or_past lists u [] (omega (arith, long)) in
      absurd (false≢true (ap (λ (xs : List ℕ). has xs v) (sym none) ∙ there))
  | inr within ↦ sym (has-neighbours edges u v) ∙ (ap (λ (xs : List ℕ). has xs v) (sym (n.same u within)) ∙ there)
]

led_agrees : (S : ℕ → Bool) (edges : List (ℕ × ℕ)) (last : ℕ) (lists : List (List ℕ)) (root v : ℕ) → AreNeighbours edges last lists → AllByRecursion (λ edge. S edge.0 ≡ S edge.1) edges
    → IsLed lists root v → S v ≡ S root
led_agrees S edges last lists root v n same start = refl
led_agrees S edges last lists root v n same (along {u} before listed) = sym (agree S edges u v same (pair_of edges last lists u v n listed)) ∙ led_agrees S edges last lists root u n same before

-- all are led to: the edges join them
pub all_led : (claim : Claim) (last : ℕ) (lists : List (List ℕ)) (root : ℕ) (members : List ℕ) → AreNeighbours claim.edges last lists → AreLed lists root members
    → list_all (λ v. has members v) claim.vertices ≡ true → IsApart claim → ⊥
all_led claim last lists root members n led all a = false≢true (sym a.other_side ∙ (side a.other a.other_there ∙ (sym (side a.one a.one_there) ∙ a.one_side)))
  where
    each : (vs : List ℕ) → list_all (λ v. has members v) vs ≡ true → AllByRecursion (λ v. IsTrue (has members v)) vs
    each [] h = tt
    each (v ∷ vs) h = let p = and_parts (has members v) (list_all (λ v. has members v) vs) h in (p.0, each vs p.1)

    side : (v : ℕ) → IsTrue (has claim.vertices v) → a.side v ≡ a.side root
    side v there =
        let member = at_member (λ w. IsTrue (has members w)) claim.vertices v (each claim.vertices all) there in
        let way = at_member (IsLed lists root) members v (recursion_from_All (IsLed lists root) members led.sound) member in
        led_agrees a.side claim.edges last lists root v n (recursion_from_All (λ edge. a.side edge.0 ≡ a.side edge.1) claim.edges a.along) way

-- one isn't led to: it is apart from the root
pub not_all_led : (claim : Claim) (last : ℕ) (lists : List (List ℕ)) (root : ℕ) (members : List ℕ) → IsTrue (has claim.vertices root)
    → All (λ edge. (edge.0 ≤ last) × (edge.1 ≤ last)) claim.edges → AreNeighbours claim.edges last lists → AreLed lists root members → list_all (λ v. has members v) claim.vertices ≡ false
    → IsApart claim
not_all_led claim last lists root members there small n led some =
    let other = missing claim.vertices some in
    record { side = has members; along = same; one = root; one_there = there; one_side = led.root; other = other.0; other_there = other.1; other_side = other.2 }
  where
    missing : (vs : List ℕ) → list_all (λ v. has members v) vs ≡ false → (v : ℕ) × IsTrue (has vs v) × IsFalse (has members v)
    missing [] h = absurd (false≢true (sym h))
    missing (v ∷ vs) h = by_case (has members v) refl h (missing vs)
      where
        by_case : (b : Bool) → has members v ≡ b → (b && list_all (λ v. has members v) vs) ≡ false → (list_all (λ v. has members v) vs ≡ false
            → (w : ℕ) × IsTrue (has vs w) × IsFalse (has members w)) → (w : ℕ) × IsTrue (has (v ∷ vs) w) × IsFalse (has members w)
        by_case false is h rest = (v, or_left (v == v) (has vs v) (eq-eqb v v refl), is)
        by_case true is h rest = let found = rest h in (found.0, or_right (v == found.0) (has vs found.0) found.1, found.2)

    between-own : (x : ℕ × ℕ) → is_between x x.0 x.1 ≡ true
    between-own x = grind (arith, nat_tests)

    between-other : (x : ℕ × ℕ) → is_between x x.1 x.0 ≡ true
    between-other x = grind (arith, nat_tests)

    listed : (u v : ℕ) → u ≤ last → has_pair claim.edges u v ≡ true → IsTrue (has (heads_at lists u) v)
    listed u v within h = ap (λ (xs : List ℕ). has xs v) (n.same u within) ∙ (has-neighbours claim.edges u v ∙ h)

    same : All (λ edge. has members edge.0 ≡ has members edge.1) claim.edges
    same k d within =
        let e = get_or claim.edges k d in
        let forth : has_pair claim.edges e.0 e.1 ≡ true = list_any_at (λ pair. is_between pair e.0 e.1) claim.edges k d within (between-own e) in
        let back : has_pair claim.edges e.1 e.0 ≡ true = list_any_at (λ pair. is_between pair e.1 e.0) claim.edges k d within (between-other e) in
        same_test (has members e.0) (has members e.1)
        (λ h. led.closed e.0 e.1 h (listed e.0 e.1 (small k d within).0 forth))
        (λ h. led.closed e.1 e.0 h (listed e.1 e.0 (small k d within).1 back))

-- both ends of an edge are small
small_pair : (last : ℕ) (edges : List (ℕ × ℕ)) (u v : ℕ) → AllByRecursion (λ edge. (edge.0 ≤ last) × (edge.1 ≤ last)) edges → has_pair edges u v ≡ true → v ≤ last
small_pair last [] u v small h = absurd (false≢true h)
small_pair last (e ∷ es) u v small h = elim (or_cases (is_between e u v) (has_pair es u v) h) [
  | inl here ↦ elim (between-ends e u v here) [
    | inl p ↦ subst (λ (w : ℕ). w ≤ last) p.1 small.0.1
    | inr p ↦ subst (λ (w : ℕ). w ≤ last) p.0 small.0.0
  ]
  | inr there ↦ small_pair last es u v small.1 there
]

-- so no list of heads has a vertex that has no list
pub heads_small : (edges : List (ℕ × ℕ)) (last : ℕ) (lists : List (List ℕ)) → All (λ edge. (edge.0 ≤ last) × (edge.1 ≤ last)) edges → AreNeighbours edges last lists → (u : ℕ)
    → All (λ v. v < length lists) (heads_at lists u)
heads_small edges last lists small n u k d within =
    let there = has_at (heads_at lists u) k d within in
    let pair = pair_of edges last lists u (get_or (heads_at lists u) k d) n there in
    let low = small_pair last edges u (get_or (heads_at lists u) k d) (recursion_from_All (λ edge. (edge.0 ≤ last) × (edge.1 ≤ last)) edges small) pair in
    let long = n.long in
    omega (arith, low, long)

-- a vertex of the claim is small
pub small_vertex : (last : ℕ) (vs : List ℕ) (v : ℕ) → All (λ w. w ≤ last) vs → IsTrue (has vs v) → v ≤ last
small_vertex last vs v small there = at_member (λ w. w ≤ last) vs v (recursion_from_All (λ w. w ≤ last) vs small) there
