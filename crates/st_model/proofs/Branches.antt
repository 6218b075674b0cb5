-- Sets of vertices as they are written, and the halves of a branch.
use Rattle.std.proofs.Common.{◌≡◌, ℕ, zero, suc, ◌+◌, ◌<◌, Bool, true, false, cond, not, ◌||◌, List, [], ◌∷◌, ◌++◌, length, inl, inr, refl, sym, ◌∙◌, subst, arith}
use Rattle.std.specs.Prelude.{◌==◌, nat_lt, slice_index, IsTrue, IsFalse, IsSome, All}
use Rattle.std.specs.List.{AllByRecursion}
use Rattle.std.specs.List.Sorted.{IsStrictlyIncreasing}
use Rattle.std.proofs.lemmas.Bool.{or_cases, or_left, or_right, or_parts, and_parts, eq-eqb, eqb-true, not-true, both_ways, false_from_ne_true}
use Rattle.std.proofs.lemmas.Bool.Decides.{nat_tests}
use Rattle.std.proofs.lemmas.List.Elements.{recursion_from_All, All-from_recursion, All-nil, All-push, All-weaker}
use Rattle.st_model.specs.declared.branch.Branch.{Branch}
use Rattle.st_model.specs.declared.tree.Tree.{Tree}
use Rattle.st_model.specs.Lists.{has}
use Rattle.st_model.specs.Network.{IsVertex}
use Rattle.st_model.specs.Ground.{Ground}
use Rattle.st_model.specs.Made.{is_between, has_pair}
use Rattle.st_model.specs.Arborescence.{IsTreeIn, reached}
use Rattle.st_model.specs.Branch.{IsVertexSet, IsBranchIn, ReachesAsTold, certain_in, deciding, is_present, is_undecided, joined, with_vertex, with_inside, with_outside, with_must, with_barred}
use Rattle.st_model.proofs.Halves.{at_either, has-with_vertex, has-both}
use Rattle.st_model.proofs.Marked.{at_member}
use Rattle.st_model.proofs.Pairs.{AreLinks-nil, AreLinks-push, between-turned, has_pair-push}

-- a set without vertices
pub IsVertexSet-nil : (n : ℕ) → IsVertexSet n []
IsVertexSet-nil n = record { ascending = λ k h. absurd (omega arith); in_range = All-nil (IsVertex n) }

-- a member is a vertex
pub IsVertexSet-member : (n : ℕ) (set : List ℕ) (v : ℕ) → IsVertexSet n set → IsTrue (has set v) → IsVertex n v
IsVertexSet-member n set v is there = at_member (IsVertex n) set v (recursion_from_All (IsVertex n) set is.in_range) there

-- a list rises where the rest rises from above the first
rises-cons : (x : ℕ) (xs : List ℕ) → (0 < length xs → x < slice_index xs 0) → IsStrictlyIncreasing xs → IsStrictlyIncreasing (x ∷ xs)
rises-cons x [] first rest k lt = absurd (omega arith)
rises-cons x (y ∷ ys) first rest zero lt = first (omega arith)
rises-cons x (y ∷ ys) first rest (suc k) lt =
    let e : suc (k + 1) ≡ suc k + 1 = omega arith in
    subst (λ (j : ℕ). slice_index (y ∷ ys) k < slice_index (x ∷ y ∷ ys) j) e (rest k (omega arith))

-- what stands after the first rises too
rises-tail : (x : ℕ) (xs : List ℕ) → IsStrictlyIncreasing (x ∷ xs) → IsStrictlyIncreasing xs
rises-tail x xs h k lt =
    let e : suc k + 1 ≡ suc (k + 1) = omega arith in
    subst (λ (j : ℕ). slice_index xs k < slice_index (x ∷ xs) j) e (h (suc k) (omega arith))

-- the first with a vertex is above what both are above
first_above : (x : ℕ) (xs : List ℕ) (v : ℕ) → x < v → (0 < length xs → x < slice_index xs 0) → x < slice_index (with_vertex xs v) 0
first_above x [] v low first = low
first_above x (y ∷ ys) v low first = at (nat_lt y v) (first (omega arith))
  where
    at : (b : Bool) → x < y → x < slice_index (cond b (y ∷ with_vertex ys v) (v ∷ y ∷ ys)) 0
    at true h = h
    at false h = low

-- what rises does so with a vertex that it hasn't
rises-with_vertex : (xs : List ℕ) (v : ℕ) → IsFalse (has xs v) → IsStrictlyIncreasing xs → IsStrictlyIncreasing (with_vertex xs v)
rises-with_vertex [] v new h = rises-cons v [] (λ some. absurd (omega arith)) h
rises-with_vertex (x ∷ xs) v new h = at (nat_lt x v) refl (rises-with_vertex xs v parts.1 (rises-tail x xs h))
  where
    parts : IsFalse (x == v) × IsFalse (has xs v)
    parts = or_parts (x == v) (has xs v) new

    at : (b : Bool) → nat_lt x v ≡ b → IsStrictlyIncreasing (with_vertex xs v) → IsStrictlyIncreasing (cond b (x ∷ with_vertex xs v) (v ∷ x ∷ xs))
    at true e rest = rises-cons x (with_vertex xs v) (λ some. first_above x xs v (grind (arith, nat_tests, e)) (λ more. h 0 (omega arith))) rest
    at false e rest = let other = parts.0 in rises-cons v (x ∷ xs) (λ some. grind (arith, nat_tests, e, other)) h

-- what holds of all holds of them with a vertex of which it holds
pub all-with_vertex : (P : ℕ → Type 0) (xs : List ℕ) (v : ℕ) → P v → AllByRecursion P xs → AllByRecursion P (with_vertex xs v)
all-with_vertex P [] v here h = (here, tt)
all-with_vertex P (x ∷ xs) v here h = at (nat_lt x v) (all-with_vertex P xs v here h.1)
  where
    at : (b : Bool) → AllByRecursion P (with_vertex xs v) → AllByRecursion P (cond b (x ∷ with_vertex xs v) (v ∷ x ∷ xs))
    at true rest = (h.0, rest)
    at false rest = (here, h)

-- a set with a vertex that it hasn't is a set
IsVertexSet-with_vertex : (n : ℕ) (set : List ℕ) (v : ℕ) → IsVertex n v → IsFalse (has set v) → IsVertexSet n set → IsVertexSet n (with_vertex set v)
IsVertexSet-with_vertex n set v vertex new is = record {
  ascending = rises-with_vertex set v new is.ascending;
  in_range = All-from_recursion (IsVertex n) (with_vertex set v) (all-with_vertex (IsVertex n) set v vertex (recursion_from_All (IsVertex n) set is.in_range));
}

-- an undecided vertex is neither inside nor outside
pub undecided_parts : (B : Branch) (v : ℕ) → IsTrue (is_undecided B v) → IsFalse (has B.inside v) × IsFalse (has B.outside v)
undecided_parts B v h =
    let parts = and_parts (not (has B.inside v)) (not (has B.outside v)) h in
    (not-true (has B.inside v) parts.0, not-true (has B.outside v) parts.1)

-- a set with a vertex, once, is a set
IsVertexSet-joined : (n : ℕ) (set : List ℕ) (v : ℕ) → IsVertex n v → IsVertexSet n set → IsVertexSet n (joined set v)
IsVertexSet-joined n set v vertex is = step (has set v) refl
  where
    step : (b : Bool) → has set v ≡ b → IsVertexSet n (cond b set (with_vertex set v))
    step true there = is
    step false new = IsVertexSet-with_vertex n set v vertex new is

-- a branch of vertices alone
pub IsBranch-deciding : (G : Ground) (inside outside : List ℕ) → IsVertexSet G.n inside → IsVertexSet G.n outside → ((v : ℕ) → IsTrue (has inside v) → IsFalse (has outside v)) → IsBranchIn G (deciding inside outside)
IsBranch-deciding G inside outside ins outs apart = record {
  inside = ins;
  outside = outs;
  apart = apart;
  must = AreLinks-nil G;
  barred = AreLinks-nil G;
  unbarred = All-nil (λ pair. IsFalse (has_pair [] pair.0 pair.1));
  ends = All-nil (λ pair. IsTrue (has inside pair.0) × IsTrue (has inside pair.1));
}

-- pairs of members of a set are pairs of members of a greater one
ends_still : (xs ys : List ℕ) (pairs : List (ℕ × ℕ)) → ((w : ℕ) → IsTrue (has xs w) → IsTrue (has ys w)) → All (λ pair. IsTrue (has xs pair.0) × IsTrue (has xs pair.1)) pairs → All (λ pair. IsTrue (has ys pair.0) × IsTrue (has ys pair.1)) pairs
ends_still xs ys pairs more = All-weaker (λ pair. IsTrue (has xs pair.0) × IsTrue (has xs pair.1)) (λ pair. IsTrue (has ys pair.0) × IsTrue (has ys pair.1)) (λ pair both. (more pair.0 both.0, more pair.1 both.1)) pairs

-- the halves of a branch are branches
pub IsBranch-with_inside : (G : Ground) (B : Branch) (v : ℕ) → IsVertex G.n v → IsTrue (is_undecided B v) → IsBranchIn G B → IsBranchIn G (with_inside B v)
IsBranch-with_inside G B v vertex undecided is =
    let parts = undecided_parts B v undecided in
    record {
      inside = IsVertexSet-with_vertex G.n B.inside v vertex parts.0 is.inside;
      outside = is.outside;
      apart = at_either (λ w. IsFalse (has B.outside w)) B.inside v parts.1 is.apart;
      must = is.must;
      barred = is.barred;
      unbarred = is.unbarred;
      ends = ends_still B.inside (with_vertex B.inside v) B.must (λ w old. has-with_vertex B.inside v w ∙ or_right (v == w) _ old) is.ends;
    }

pub IsBranch-with_outside : (G : Ground) (B : Branch) (v : ℕ) → IsVertex G.n v → IsTrue (is_undecided B v) → IsBranchIn G B → IsBranchIn G (with_outside B v)
IsBranch-with_outside G B v vertex undecided is =
    let parts = undecided_parts B v undecided in
    record {
      inside = is.inside;
      outside = IsVertexSet-with_vertex G.n B.outside v vertex parts.1 is.outside;
      apart = λ w inside. false_from_ne_true (has (with_vertex B.outside v) w) (λ outside. both_ways (has B.inside w) (at_either (λ x. IsFalse (has B.inside x)) B.outside v parts.0 out_not_in w outside) inside);
      must = is.must;
      barred = is.barred;
      unbarred = is.unbarred;
      ends = is.ends;
    }
  where
    out_not_in : (x : ℕ) → IsTrue (has B.outside x) → IsFalse (has B.inside x)
    out_not_in x out = false_from_ne_true (has B.inside x) (λ inside. both_ways (has B.outside x) (is.apart x inside) out)

pub IsBranch-with_must : (G : Ground) (B : Branch) (a b : ℕ) → IsVertex G.n a → IsVertex G.n b → a < b → IsSome (G.price a b) → IsTrue (is_present B a) → IsTrue (is_present B b) → IsFalse (has_pair B.must a b) → IsFalse (has_pair B.barred a b) → IsBranchIn G B → IsBranchIn G (with_must B a b)
IsBranch-with_must G B a b low high ordered some tail head new unbarred is = record {
  inside = IsVertexSet-joined G.n (joined B.inside a) b high (IsVertexSet-joined G.n B.inside a low is.inside);
  outside = is.outside;
  apart = apart;
  must = AreLinks-push G B.must a b ordered some new is.must;
  barred = is.barred;
  unbarred = All-push (λ pair. IsFalse (has_pair B.barred pair.0 pair.1)) B.must (a, b) is.unbarred unbarred;
  ends = All-push (λ pair. IsTrue (has more pair.0) × IsTrue (has more pair.1)) B.must (a, b) (ends_still B.inside more B.must old is.ends) (first, second);
}
  where
    more : List ℕ
    more = joined (joined B.inside a) b

    old : (w : ℕ) → IsTrue (has B.inside w) → IsTrue (has more w)
    old w h = has-both B.inside a b w ∙ or_right (b == w) _ (or_right (a == w) _ h)

    first : IsTrue (has more a)
    first = has-both B.inside a b a ∙ or_right (b == a) _ (or_left (a == a) _ (eq-eqb a a refl))

    second : IsTrue (has more b)
    second = has-both B.inside a b b ∙ or_left (b == b) _ (eq-eqb b b refl)

    apart : (w : ℕ) → IsTrue (has more w) → IsFalse (has B.outside w)
    apart w there = elim (or_cases (b == w) ((a == w) || has B.inside w) (sym (has-both B.inside a b w) ∙ there)) [
      | inl same ↦ rw (← eqb-true b w same) (not-true (has B.outside b) head)
      | inr rest ↦ elim (or_cases (a == w) (has B.inside w) rest) [
        | inl same ↦ rw (← eqb-true a w same) (not-true (has B.outside a) tail)
        | inr before ↦ is.apart w before
      ]
    ]

pub IsBranch-with_barred : (G : Ground) (B : Branch) (a b : ℕ) → a < b → IsSome (G.price a b) → IsFalse (has_pair B.must a b) → IsFalse (has_pair B.barred a b) → IsBranchIn G B → IsBranchIn G (with_barred B a b)
IsBranch-with_barred G B a b ordered some free new is = record {
  inside = is.inside;
  outside = is.outside;
  apart = is.apart;
  must = is.must;
  barred = AreLinks-push G B.barred a b ordered some new is.barred;
  unbarred = All-from_recursion (λ pair. IsFalse (has_pair (B.barred ++ (a, b) ∷ []) pair.0 pair.1)) B.must (each B.must free (recursion_from_All (λ pair. IsFalse (has_pair B.barred pair.0 pair.1)) B.must is.unbarred));
  ends = is.ends;
}
  where
    each : (pairs : List (ℕ × ℕ)) → IsFalse (has_pair pairs a b) → AllByRecursion (λ pair. IsFalse (has_pair B.barred pair.0 pair.1)) pairs → AllByRecursion (λ pair. IsFalse (has_pair (B.barred ++ (a, b) ∷ []) pair.0 pair.1)) pairs
    each [] out h = tt
    each (pair ∷ pairs) out h =
        let parts = or_parts (is_between pair a b) (has_pair pairs a b) out in
        (rw (has_pair-push B.barred (a, b) pair.0 pair.1, h.0) (false_from_ne_true (is_between (a, b) pair.0 pair.1) (λ same. both_ways (is_between pair a b) parts.0 (between-turned (a, b) pair same))), each pairs parts.1 h.1)

-- a tree that reaches what it is told to reaches each vertex that is required or inside
pub certain_reached : (G : Ground) (B : Branch) (t : Tree) (v : ℕ) → IsTreeIn G t → ReachesAsTold B t → IsVertex G.n v → IsTrue (certain_in G B v) → IsTrue (has (reached t) v)
certain_reached G B t v tree reaches vertex certain = elim (or_cases (G.required v) (has B.inside v) certain) [
  | inl required ↦ tree.required v vertex required
  | inr inside ↦ reaches.inside v inside
]
