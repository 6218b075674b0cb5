-- A tree of a branch that is split belongs to one half.
use Rattle.std.proofs.Common.{◌≡◌, ℕ, Bool, true, false, ◌||◌, List, [], ◌∷◌, ◌++◌, ◌⊎◌, inl, inr, ◌↔◌, refl, sym, ap, ◌∙◌}
use Rattle.std.specs.Prelude.{◌==◌, nat_lt, if◌then◌else◌, IsTrue, IsFalse}
use Rattle.std.proofs.lemmas.Bool.{or_left, or_right, or_cases, eqb-true, eq-eqb, cases_Bool, both_ways, false≢true}
use Rattle.st_model.specs.declared.branch.Branch.{Branch}
use Rattle.st_model.specs.declared.split_at.SplitAt.{SplitAt}
use Rattle.st_model.specs.declared.split_at.SplitAt.TheVariants.{Vertex, Link}
use Rattle.st_model.specs.declared.tree.Tree.{Tree}
use Rattle.st_model.specs.Lists.{has}
use Rattle.st_model.specs.Ground.{Ground}
use Rattle.st_model.specs.Made.{is_between, has_pair}
use Rattle.st_model.specs.Arborescence.{GrowsIn, IsArborescenceIn, reached, reached_from}
use Rattle.st_model.specs.Branch.{Belongs, joined, with_vertex, with_inside, with_outside, with_must, with_barred, yes_half, no_half}
use Rattle.st_model.proofs.Booleans.{or_left_comm}
use Rattle.st_model.proofs.Distinct.{between-ends}
use Rattle.st_model.proofs.Pairs.{has_pair-comm, has_pair-push, own}
use Rattle.st_model.proofs.ThinGrowth.{has-reached_from}

-- the set with v holds v and what it held
pub has-with_vertex : (xs : List ℕ) (v w : ℕ) → has (with_vertex xs v) w ≡ ((v == w) || has xs w)
has-with_vertex [] v w = refl
has-with_vertex (x ∷ xs) v w = step (nat_lt x v) (has-with_vertex xs v w)
  where
    step : (b : Bool) → has (with_vertex xs v) w ≡ ((v == w) || has xs w) → has (if b then x ∷ with_vertex xs v else v ∷ x ∷ xs) w ≡ ((v == w) || ((x == w) || has xs w))
    step true before = rw before (or_left_comm (x == w) (v == w) (has xs w))
    step false before = refl

-- v itself is in the set with v
here : (xs : List ℕ) (v : ℕ) → IsTrue (has (with_vertex xs v) v)
here xs v = rw (has-with_vertex xs v v) (or_left (v == v) (has xs v) (eq-eqb v v refl))

-- and so is what the set held
kept : (xs : List ℕ) (v w : ℕ) → IsTrue (has xs w) → IsTrue (has (with_vertex xs v) w)
kept xs v w member = rw (has-with_vertex xs v w) (or_right (v == w) (has xs w) member)

-- what holds of v and of the set's members holds of the members with v
pub at_either : (P : ℕ → Type 0) (xs : List ℕ) (v : ℕ) → P v → ((w : ℕ) → IsTrue (has xs w) → P w) → (w : ℕ) → IsTrue (has (with_vertex xs v) w) → P w
at_either P xs v at_v at_old w member =
    elim (or_cases (v == w) (has xs w) (rw (has-with_vertex xs v w) at member)) [
      | inl same ↦ rw (← eqb-true v w same) at_v
      | inr old ↦ at_old w old
    ]

-- the set with v, once, holds the same
pub has-joined : (xs : List ℕ) (v w : ℕ) → has (joined xs v) w ≡ ((v == w) || has xs w)
has-joined xs v w = step (has xs v) refl
  where
    step : (b : Bool) → has xs v ≡ b → has (if b then xs else with_vertex xs v) w ≡ ((v == w) || has xs w)
    step true there = by_case (v == w) refl
      where
        by_case : (c : Bool) → (v == w) ≡ c → has xs w ≡ (c || has xs w)
        by_case true same = rw (← eqb-true v w same) there
        by_case false other = refl
    step false new = has-with_vertex xs v w

-- and so with two
pub has-both : (xs : List ℕ) (a b w : ℕ) → has (joined (joined xs a) b) w ≡ ((b == w) || ((a == w) || has xs w))
has-both xs a b w = has-joined (joined xs a) b w ∙ ap (λ h. (b == w) || h) (has-joined xs a w)

pub belongs_inside : (B : Branch) (t : Tree) (v : ℕ) → Belongs (with_inside B v) t ↔ (Belongs B t × IsTrue (has (reached t) v))
belongs_inside B t v = (
  λ half. (record { reaches = record { inside = λ w member. half.reaches.inside w (kept B.inside v w member); outside = half.reaches.outside }; uses = record { must = half.uses.must; barred = half.uses.barred } }, half.reaches.inside v (here B.inside v)),
  λ whole. record { reaches = record { inside = at_either (λ w. IsTrue (has (reached t) w)) B.inside v whole.1 whole.0.reaches.inside; outside = whole.0.reaches.outside }; uses = record { must = whole.0.uses.must; barred = whole.0.uses.barred } },
)

pub belongs_outside : (B : Branch) (t : Tree) (v : ℕ) → Belongs (with_outside B v) t ↔ (Belongs B t × IsFalse (has (reached t) v))
belongs_outside B t v = (
  λ half. (record { reaches = record { inside = half.reaches.inside; outside = λ w member. half.reaches.outside w (kept B.outside v w member) }; uses = record { must = half.uses.must; barred = half.uses.barred } }, half.reaches.outside v (here B.outside v)),
  λ whole. record { reaches = record { inside = whole.0.reaches.inside; outside = at_either (λ w. IsFalse (has (reached t) w)) B.outside v whole.1 whole.0.reaches.outside }; uses = record { must = whole.0.uses.must; barred = whole.0.uses.barred } },
)

-- both ends of an arc are reached
ends_reached : (G : Ground) (R : List ℕ) (arcs : List (ℕ × ℕ)) (a b : ℕ) → GrowsIn G R arcs → IsTrue (has_pair arcs a b) → IsTrue (has (reached_from R arcs) a) × IsTrue (has (reached_from R arcs) b)
ends_reached G R [] a b g used = absurd (false≢true used)
ends_reached G R ((u, v) ∷ arcs) a b g used = elim (or_cases (is_between (u, v) a b) (has_pair arcs a b) used) [
  | inl now ↦ elim (between-ends (u, v) a b now) [
    | inl e ↦ (rw (← e.0) tail, rw (← e.1) head)
    | inr e ↦ (rw (← e.1) head, rw (← e.0) tail)
  ]
  | inr later ↦ ends_reached G (v ∷ R) arcs a b g.3 later
]
  where
    tail : IsTrue (has (reached_from (v ∷ R) arcs) u)
    tail = has-reached_from (v ∷ R) arcs u (or_right (v == u) _ g.1)

    head : IsTrue (has (reached_from (v ∷ R) arcs) v)
    head = has-reached_from (v ∷ R) arcs v (or_left (v == v) _ (eq-eqb v v refl))

-- what holds of the pair a and b, in either order, and of some holds of them with it
at_either_pair : (P : ℕ → ℕ → Type 0) (ps : List (ℕ × ℕ)) (a b : ℕ) → P a b → P b a → ((u v : ℕ) → IsTrue (has_pair ps u v) → P u v) → (u v : ℕ) → IsTrue (has_pair (ps ++ (a, b) ∷ []) u v) → P u v
at_either_pair P ps a b forth back old u v there = elim (or_cases (has_pair ps u v) (is_between (a, b) u v) (sym (has_pair-push ps (a, b) u v) ∙ there)) [
  | inl before ↦ old u v before
  | inr now ↦ elim (between-ends (a, b) u v now) [
    | inl e ↦ rw (← e.0, ← e.1) forth
    | inr e ↦ rw (← e.0, ← e.1) back
  ]
]

-- some with the pair a and b have it, and what they had
kept_pair : (ps : List (ℕ × ℕ)) (a b u v : ℕ) → IsTrue (has_pair ps u v) → IsTrue (has_pair (ps ++ (a, b) ∷ []) u v)
kept_pair ps a b u v old = has_pair-push ps (a, b) u v ∙ or_left (has_pair ps u v) (is_between (a, b) u v) old

last_pair : (ps : List (ℕ × ℕ)) (a b : ℕ) → IsTrue (has_pair (ps ++ (a, b) ∷ []) a b)
last_pair ps a b = has_pair-push ps (a, b) a b ∙ or_right (has_pair ps a b) (is_between (a, b) a b) (own (a, b))

pub belongs_must : (G : Ground) (B : Branch) (t : Tree) (a b : ℕ) → IsArborescenceIn G t → Belongs (with_must B a b) t ↔ (Belongs B t × IsTrue (has_pair t.arcs a b))
belongs_must G B t a b grown = (
  λ half. (
    record {
      reaches = record { inside = λ w member. half.reaches.inside w (has-both B.inside a b w ∙ or_right (b == w) _ (or_right (a == w) _ member)); outside = half.reaches.outside };
      uses = record { must = λ u v old. half.uses.must u v (kept_pair B.must a b u v old); barred = half.uses.barred };
    },
    half.uses.must a b (last_pair B.must a b),
  ),
  λ whole. record {
    reaches = record { inside = inside whole.0 whole.1; outside = whole.0.reaches.outside };
    uses = record { must = at_either_pair (λ u v. IsTrue (has_pair t.arcs u v)) B.must a b whole.1 (has_pair-comm t.arcs b a ∙ whole.1) whole.0.uses.must; barred = whole.0.uses.barred };
  },
)
  where
    inside : Belongs B t → IsTrue (has_pair t.arcs a b) → (w : ℕ) → IsTrue (has (joined (joined B.inside a) b) w) → IsTrue (has (reached t) w)
    inside belongs used w there =
        let ends = ends_reached G (t.start ∷ []) t.arcs a b grown.grows used in
        elim (or_cases (b == w) ((a == w) || has B.inside w) (sym (has-both B.inside a b w) ∙ there)) [
          | inl same ↦ rw (← eqb-true b w same) ends.1
          | inr rest ↦ elim (or_cases (a == w) (has B.inside w) rest) [
            | inl same ↦ rw (← eqb-true a w same) ends.0
            | inr old ↦ belongs.reaches.inside w old
          ]
        ]

pub belongs_barred : (B : Branch) (t : Tree) (a b : ℕ) → Belongs (with_barred B a b) t ↔ (Belongs B t × IsFalse (has_pair t.arcs a b))
belongs_barred B t a b = (
  λ half. (
    record {
      reaches = record { inside = half.reaches.inside; outside = half.reaches.outside };
      uses = record { must = half.uses.must; barred = λ u v old. half.uses.barred u v (kept_pair B.barred a b u v old) };
    },
    half.uses.barred a b (last_pair B.barred a b),
  ),
  λ whole. record {
    reaches = record { inside = whole.0.reaches.inside; outside = whole.0.reaches.outside };
    uses = record { must = whole.0.uses.must; barred = at_either_pair (λ u v. IsFalse (has_pair t.arcs u v)) B.barred a b whole.1 (has_pair-comm t.arcs b a ∙ whole.1) whole.0.uses.barred };
  },
)

pub in_a_half : (G : Ground) (B : Branch) (t : Tree) (at : SplitAt) → IsArborescenceIn G t → Belongs B t → Belongs (yes_half B at) t ⊎ Belongs (no_half B at) t
in_a_half G B t (Vertex v) grown belongs =
    elim (cases_Bool (has (reached t) v)) [
      | inl reaches ↦ inl ((belongs_inside B t v).1 (belongs, reaches))
      | inr misses ↦ inr ((belongs_outside B t v).1 (belongs, misses))
    ]
in_a_half G B t (Link a b) grown belongs =
    elim (cases_Bool (has_pair t.arcs a b)) [
      | inl uses ↦ inl ((belongs_must G B t a b grown).1 (belongs, uses))
      | inr misses ↦ inr ((belongs_barred B t a b).1 (belongs, misses))
    ]

pub in_one_half : (G : Ground) (B : Branch) (t : Tree) (at : SplitAt) → IsArborescenceIn G t → Belongs (yes_half B at) t → Belongs (no_half B at) t → ⊥
in_one_half G B t (Vertex v) grown said_yes said_no = both_ways (has (reached t) v) ((belongs_outside B t v).0 said_no).1 ((belongs_inside B t v).0 said_yes).1
in_one_half G B t (Link a b) grown said_yes said_no = both_ways (has_pair t.arcs a b) ((belongs_barred B t a b).0 said_no).1 ((belongs_must G B t a b grown).0 said_yes).1
