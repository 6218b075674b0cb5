-- One text makes one claim.
use Rattle.std.proofs.Common.{◌≡◌, ℕ, cond, eqb, ltb, zero, suc, List, [], ◌∷◌, ◌++◌, inl, inr, refl, sym, ap, ◌∙◌, subst, arith}
use native.Mathlib.Numerals.{unary_clauses}
use Rattle.std.specs.Prelude.{◌==◌, ◌||◌, ◌<◌, IsTrue, IsFalse, AllPairs, Option, Bool, true, false}
use Rattle.std.specs.List.{AllByRecursion}
use Rattle.std.specs.List.Sorted.{IsStrictlyIncreasing}
use Rattle.std.proofs.lemmas.Bool.{or_cases, or_left, or_right, eqb-true, eq-eqb, false≢true, false_from_ne_true}
use Rattle.std.proofs.lemmas.Bool.Decides.{nat_tests}
use Rattle.std.proofs.lemmas.List.Elements.{recursion_from_All, All-from_recursion}
use Rattle.std.proofs.lemmas.List.Kept.{AllPairs-from_increasing}
use Rattle.st_model.specs.Lists.{has}
use Rattle.st_model.proofs.Marked.{at_member}
use Rattle.st_model.proofs.Members.{has-append}
use Rattle.st_model.proofs.Booleans.{or_left_comm}
use Rattle.solution_reader.specs.Place.{Whole}
use Rattle.solution_reader.specs.Claim.{Claim, IsClaim, IsClaimOf, ends_of}

-- each number is below all later ones
abbrev Rises : List ℕ → Type 0
Rises [] = Unit {0}
Rises (x ∷ xs) = AllByRecursion (λ y. x < y) xs × Rises xs

rises : (xs : List ℕ) → AllPairs (λ x y. x < y) xs → Rises xs
rises [] h = tt
rises (x ∷ xs) h = (recursion_from_All (λ y. x < y) xs (λ k d below. h 0 (suc k) d (omega arith) (omega arith)), rises xs (λ i j d before below. h (suc i) (suc j) d (omega arith) (omega arith)))

-- none of the later ones is the first
not_later : (x : ℕ) (xs : List ℕ) → AllByRecursion (λ y. x < y) xs → IsFalse (has xs x)
not_later x xs above = false_from_ne_true (has xs x) (λ there. let below : x < x = at_member (λ y. x < y) xs x above there in omega arith)

-- where the first is the same, so are the members of the rest
rest_same : (b c d e : Bool) → (b ≡ true → c ≡ false) → (b ≡ true → d ≡ false) → (b || c) ≡ (b || d) → c ≡ d
rest_same true c d e left right same = left refl ∙ sym (right refl)
rest_same false c d e left right same = same

-- numbers that rise and have the same members are the same list
same_rising : (xs ys : List ℕ) → Rises xs → Rises ys → ((v : ℕ) → has xs v ≡ has ys v) → xs ≡ ys
same_rising [] [] up vp same = refl
same_rising [] (y ∷ ys) up vp same = absurd (false≢true (same y ∙ or_left (y == y) (has ys y) (eq-eqb y y refl)))
same_rising (x ∷ xs) [] up vp same = absurd (false≢true (sym (same x) ∙ or_left (x == x) (has xs x) (eq-eqb x x refl)))
same_rising (x ∷ xs) (y ∷ ys) up vp same = cc (heads, same_rising xs ys up.1 vp.1 tails)
  where
    in_ys : has (y ∷ ys) x ≡ true
    in_ys = sym (same x) ∙ or_left (x == x) (has xs x) (eq-eqb x x refl)

    in_xs : has (x ∷ xs) y ≡ true
    in_xs = same y ∙ or_left (y == y) (has ys y) (eq-eqb y y refl)

    heads : x ≡ y
    heads = elim (or_cases (y == x) (has ys x) in_ys) [
      | inl here ↦ sym (eqb-true y x here)
      | inr later ↦ elim (or_cases (x == y) (has xs y) in_xs) [
        | inl here ↦ eqb-true x y here
        | inr too ↦
            let above : y < x = at_member (λ z. y < z) ys x vp.0 later in
            let below : x < y = at_member (λ z. x < z) xs y up.0 too in
            absurd (omega arith)
      ]
    ]

    tails : (v : ℕ) → has xs v ≡ has ys v
    tails v = rest_same (x == v) (has xs v) (has ys v) true
        (λ here. subst (λ (w : ℕ). IsFalse (has xs w)) (eqb-true x v here) (not_later x xs up.0))
        (λ here. subst (λ (w : ℕ). IsFalse (has ys w)) (sym heads ∙ eqb-true x v here) (not_later y ys vp.0))
        (same v ∙ ap (λ (w : ℕ). (w == v) || has ys v) (sym heads))

pub same_ascending : (xs ys : List ℕ) → IsStrictlyIncreasing xs → IsStrictlyIncreasing ys → ((v : ℕ) → has xs v ≡ has ys v) → xs ≡ ys
same_ascending xs ys up vp same = same_rising xs ys (rises xs (AllPairs-from_increasing xs up)) (rises ys (AllPairs-from_increasing ys vp)) same

-- a whole text makes one claim
pub one_claim_of : (w : Whole) (claim other : Claim) → IsClaimOf w claim → IsClaimOf w other → claim ≡ other
one_claim_of w claim other c o =
    let vertices = same_ascending claim.vertices other.vertices c.ascending o.ascending (λ v. c.same v ∙ sym (o.same v)) in
    let edges = c.edges ∙ sym o.edges in
    let primal = c.primal ∙ sym o.primal in
    made vertices edges primal
  where
    claim_of : List ℕ → List (ℕ × ℕ) → Option ℕ → Claim
    claim_of vertices edges primal = record { vertices = vertices; edges = edges; primal = primal }

    made : claim.vertices ≡ other.vertices → claim.edges ≡ other.edges → claim.primal ≡ other.primal → claim ≡ other
    made v e p = ap (λ (x : List ℕ). claim_of x claim.edges claim.primal) v ∙ ap (λ (x : List (ℕ × ℕ)). claim_of other.vertices x claim.primal) e
        ∙ ap (λ (x : Option ℕ). claim_of other.vertices other.edges x) p

-- ---- what is made of a text is a claim

-- the ends of edges are among them
each_end : (vs : List ℕ) (edges : List (ℕ × ℕ)) → ((v : ℕ) → IsTrue (has (ends_of edges) v) → IsTrue (has vs v)) → AllByRecursion (λ edge. IsTrue (has vs edge.0) × IsTrue (has vs edge.1)) edges
each_end vs [] among = tt
each_end vs (edge ∷ edges) among = (
  (among edge.0 (or_left (edge.0 == edge.0) _ (eq-eqb edge.0 edge.0 refl)), among edge.1 (or_right (edge.0 == edge.1) _ (or_left (edge.1 == edge.1) _ (eq-eqb edge.1 edge.1 refl)))),
  each_end vs edges (λ v there. among v (or_right (edge.0 == v) _ (or_right (edge.1 == v) (has (ends_of edges) v) there))),
)

pub is_claim : (w : Whole) (claim : Claim) → IsClaimOf w claim → IsClaim claim
is_claim w claim c = record {
  ascending = c.ascending;
  ends = rw c.edges (All-from_recursion _ w.final.edges (each_end claim.vertices w.final.edges (λ v there. c.same v ∙ (has-append w.final.vertices (ends_of w.final.edges) v
      ∙ or_right (has w.final.vertices v) _ there))));
}

-- ---- each whole text makes a claim

-- one more number in its place, unless it stands there
abbrev pub insert : ℕ → List ℕ → List ℕ
insert v [] = v ∷ []
insert v (x ∷ xs) = cond (eqb v x) (x ∷ xs) (cond (ltb v x) (v ∷ x ∷ xs) (x ∷ insert v xs))

abbrev pub sorted : List ℕ → List ℕ
sorted [] = []
sorted (v ∷ vs) = insert v (sorted vs)

twice : (b c : Bool) → b || c ≡ b || (b || c)
twice true c = refl
twice false c = refl

has-insert : (v : ℕ) (xs : List ℕ) (w : ℕ) → has (insert v xs) w ≡ ((v == w) || has xs w)
has-insert v [] w = refl
has-insert v (x ∷ xs) w = by_case (eqb v x) (ltb v x) refl (has-insert v xs w)
  where
    by_case : (e l : Bool) → eqb v x ≡ e → has (insert v xs) w ≡ ((v == w) || has xs w)
        → has (cond e (x ∷ xs) (cond l (v ∷ x ∷ xs) (x ∷ insert v xs))) w ≡ ((v == w) || ((x == w) || has xs w))
    by_case true l is rest = let same : v ≡ x = grind (arith, nat_tests) in rw same (twice (x == w) (has xs w))
    by_case false true is rest = refl
    by_case false false is rest = rw rest (or_left_comm (x == w) (v == w) (has xs w))

pub has-sorted : (vs : List ℕ) (w : ℕ) → has (sorted vs) w ≡ has vs w
has-sorted [] w = refl
has-sorted (v ∷ vs) w = has-insert v (sorted vs) w ∙ ap (λ b. (v == w) || b) (has-sorted vs w)

all-insert : (P : ℕ → Type 0) (v : ℕ) (xs : List ℕ) → P v → AllByRecursion P xs → AllByRecursion P (insert v xs)
all-insert P v [] here h = (here, tt)
all-insert P v (x ∷ xs) here h = by_case (eqb v x) (ltb v x) (all-insert P v xs here h.1)
  where
    by_case : (e l : Bool) → AllByRecursion P (insert v xs) → AllByRecursion P (cond e (x ∷ xs) (cond l (v ∷ x ∷ xs) (x ∷ insert v xs)))
    by_case true l rest = h
    by_case false true rest = (here, h)
    by_case false false rest = (h.0, rest)

all-above : (v x : ℕ) (xs : List ℕ) → v < x → AllByRecursion (λ y. x < y) xs → AllByRecursion (λ y. v < y) xs
all-above v x [] below h = tt
all-above v x (y ∷ ys) below h = let first = h.0 in (omega arith, all-above v x ys below h.1)

Rises-insert : (v : ℕ) (xs : List ℕ) → Rises xs → Rises (insert v xs)
Rises-insert v [] h = (tt, tt)
Rises-insert v (x ∷ xs) h = by_case (eqb v x) (ltb v x) refl refl (Rises-insert v xs h.1)
  where
    by_case : (e l : Bool) → eqb v x ≡ e → ltb v x ≡ l → Rises (insert v xs) → Rises (cond e (x ∷ xs) (cond l (v ∷ x ∷ xs) (x ∷ insert v xs)))
    by_case true l is at rest = h
    by_case false true is at rest = let below : v < x = grind (arith, nat_tests) in ((below, all-above v x xs below h.0), h)
    by_case false false is at rest = let above : x < v = grind (arith, nat_tests) in (all-insert (λ y. x < y) v xs above h.0, rest)

Rises-sorted : (vs : List ℕ) → Rises (sorted vs)
Rises-sorted [] = tt
Rises-sorted (v ∷ vs) = Rises-insert v (sorted vs) (Rises-sorted vs)

ascending : (xs : List ℕ) → Rises xs → IsStrictlyIncreasing xs
ascending [] h k within = absurd (omega arith)
ascending (x ∷ []) h k within = absurd (omega arith)
ascending (x ∷ y ∷ ys) h zero within = h.0.0
ascending (x ∷ y ∷ ys) h (suc k) within = let rest = ascending (y ∷ ys) h.1 k (omega arith) in simp unary_clauses (simp unary_clauses at rest)

pub sorted_ascending : (vs : List ℕ) → IsStrictlyIncreasing (sorted vs)
sorted_ascending vs = ascending (sorted vs) (Rises-sorted vs)

pub claim_of_whole : (w : Whole) → (claim : Claim) × IsClaimOf w claim
claim_of_whole w =
    let all = w.final.vertices ++ ends_of w.final.edges in
    (record { vertices = sorted all; edges = w.final.edges; primal = w.primal }, record { ascending = sorted_ascending all; same = has-sorted all; edges = refl; primal = refl })
