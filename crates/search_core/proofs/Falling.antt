-- Each half of a split leaves less to split: at a vertex one free vertex less, at a link one open link less.
use Rattle.std.proofs.Common.{◌≡◌, ℕ, zero, suc, ◌+◌, ◌≤◌, Bool, true, false, cond, not, ◌&&◌, ◌||◌, List, [], ◌∷◌, Some, refl, ap, ◌∙◌, subst, arith}
use Rattle.std.specs.Prelude.{◌==◌, nat_lt, is_some, IsTrue, IsSome}
use Rattle.std.proofs.lemmas.Bool.{and_from, false≢true}
use Rattle.std.proofs.lemmas.Bool.Decides.{nat_tests}
use Rattle.st_model.specs.declared.branch.Branch.{Branch}
use Rattle.st_model.specs.declared.link.Link.{Link as LinkOf}
use Rattle.st_model.specs.declared.split_at.SplitAt.{SplitAt}
use Rattle.st_model.specs.declared.split_at.SplitAt.TheVariants.{Vertex, Link}
use Rattle.st_model.specs.Branch.{is_free, is_undecided, with_inside, with_outside, with_must, with_barred, yes_half, no_half}
use Rattle.st_model.specs.Linked.{open_pairs}
use Rattle.st_model.specs.Lists.{has, total, sum_to}
use Rattle.st_model.specs.Made.{is_between, has_pair}
use Rattle.st_model.specs.Network.{Network, IsInstance, is_required, joins, link}
use Rattle.st_model.proofs.Halves.{has-both, has-with_vertex}
use Rattle.st_model.proofs.Pairs.{apart_from, between-turned, has_pair-push, own}
use Rattle.st_model.proofs.Sums.{sum_to_le}
use Rattle.st_model.proofs.ThinGrowth.{linked-vertices}
use Rattle.cut_packing.specs.ProofTree.{IsSplit, IsSplitAt, IsLinkSplit}
use Rattle.search_core.specs.FreeVertices.{free_count}
use Rattle.search_core.proofs.Look.{same_number}

-- a sum falls where no term rises and one falls
sum_falls : (f g : ℕ → ℕ) (n v : ℕ) → ((w : ℕ) → g w ≤ f w) → g v + 1 ≤ f v → 1 ≤ v → v ≤ n → sum_to g n + 1 ≤ sum_to f n
sum_falls f g zero v all here low high = absurd (omega arith)
sum_falls f g (suc n) v all here low high = by_case (v == suc n) refl (sum_falls f g n v all here low)
  where
    by_case : (b : Bool) → (v == suc n) ≡ b → (v ≤ n → sum_to g n + 1 ≤ sum_to f n) → sum_to g (suc n) + 1 ≤ sum_to f (suc n)
    by_case true is rest =
        let last : g (suc n) + 1 ≤ f (suc n) = subst (λ (k : ℕ). g k + 1 ≤ f k) (same_number v (suc n) is) here in
        omega (arith, last, sum_to_le g f n (λ w l h. all w))
    by_case false is rest =
        let below : v ≤ n = grind (arith, nat_tests) in
        omega (arith, rest below, all (suc n))

-- and so does one over links, where it falls at those between two vertices that are linked
total_falls : (f g : LinkOf → ℕ) (ls : List LinkOf) (a b : ℕ) → ((l : LinkOf) → g l ≤ f l) → ((l : LinkOf) → joins l a b ≡ true → g l + 1 ≤ f l) → IsSome (link ls a b) → total g ls + 1 ≤ total f ls
total_falls f g [] a b all here some = absurd (false≢true some)
total_falls f g (l ∷ ls) a b all here some = by_case (joins l a b) refl some (total_falls f g ls a b all here)
  where
    no_more : (ls : List LinkOf) → total g ls ≤ total f ls
    no_more [] = omega arith
    no_more (m ∷ ms) = omega (arith, all m, no_more ms)

    by_case : (c : Bool) → joins l a b ≡ c → IsSome (cond c (Some l.cost) (link ls a b)) → (IsSome (link ls a b) → total g ls + 1 ≤ total f ls) → total g (l ∷ ls) + 1 ≤ total f (l ∷ ls)
    by_case true is some rest = omega (arith, here l is, no_more ls)
    by_case false is some rest = omega (arith, rest some, all l)

abbrev one_of : Bool → ℕ
one_of b = cond b 1 0

-- who isn't free in a half where no one else came free is one less
fewer_free : (I : Network) (B half : Branch) (v : ℕ) → IsSplit I B v → ((w : ℕ) → is_free I half w ≡ (not (v == w) && is_free I B w)) → free_count I half + 1 ≤ free_count I B
fewer_free I B half v may same =
    sum_falls (λ w. one_of (is_free I B w)) (λ w. one_of (is_free I half w)) I.n v
    (λ w. rw (same w) (at_most (v == w) (is_free I B w)))
    (rw (same v, itself v, free) (omega arith)) may.vertex.0 may.vertex.1
  where
    free : IsTrue (is_free I B v)
    free = and_from (is_undecided B v) (not (is_required I v)) may.undecided (ap not may.free)

    itself : (a : ℕ) → (a == a) ≡ true
    itself a = grind (arith, nat_tests)

    at_most : (a b : Bool) → one_of (not a && b) ≤ one_of b
    at_most true b = omega arith
    at_most false b = omega arith

fewer_inside : (I : Network) (B : Branch) (v : ℕ) → IsSplit I B v → free_count I (with_inside B v) + 1 ≤ free_count I B
fewer_inside I B v may = fewer_free I B (with_inside B v) v may (λ w.
    ap (λ b. (not b && not (has B.outside w)) && not (is_required I w)) (has-with_vertex B.inside v w)
    ∙ by_case (v == w) (has B.inside w) (has B.outside w) (is_required I w))
  where
    by_case : (here i o r : Bool) → ((not (here || i) && not o) && not r) ≡ (not here && ((not i && not o) && not r))
    by_case true i o r = refl
    by_case false i o r = refl

fewer_outside : (I : Network) (B : Branch) (v : ℕ) → IsSplit I B v → free_count I (with_outside B v) + 1 ≤ free_count I B
fewer_outside I B v may = fewer_free I B (with_outside B v) v may (λ w.
    ap (λ b. (not (has B.inside w) && not b) && not (is_required I w)) (has-with_vertex B.outside v w)
    ∙ by_case (v == w) (has B.inside w) (has B.outside w) (is_required I w))
  where
    by_case : (here i o r : Bool) → ((not i && not (here || o)) && not r) ≡ (not here && ((not i && not o) && not r))
    by_case true true o r = refl
    by_case true false o r = refl
    by_case false i o r = refl

-- where a link is a must, its ends aren't free any more
no_freer : (I : Network) (B : Branch) (a b : ℕ) → free_count I (with_must B a b) ≤ free_count I B
no_freer I B a b = sum_to_le (λ w. one_of (is_free I (with_must B a b) w)) (λ w. one_of (is_free I B w)) I.n (λ w low high. rw (has-both B.inside a b w) (at_most (b == w) (a == w) (has B.inside w) (has B.outside w) (is_required I w)))
  where
    at_most : (j k i o r : Bool) → one_of ((not (j || (k || i)) && not o) && not r) ≤ one_of ((not i && not o) && not r)
    at_most true k i o r = omega arith
    at_most false true i o r = omega arith
    at_most false false i o r = omega arith

-- whether the link between two vertices is neither a must nor barred
abbrev is_open : Branch → ℕ → ℕ → Bool
is_open B u v = not (has_pair B.must u v) && not (has_pair B.barred u v)

-- in a half the link of the split isn't open, and no other one came open
record Shuts (B half : Branch) (a b : ℕ) : Type 0 where
  pub free : (I : Network) → free_count I half ≤ free_count I B
  pub others : (u v : ℕ) → is_open half u v ≡ (not (is_between (a, b) u v) && is_open B u v)

must_shuts : (B : Branch) (a b : ℕ) → Shuts B (with_must B a b) a b
must_shuts B a b = record {
  free = λ I. no_freer I B a b;
  others = λ u v. ap (λ m. not m && not (has_pair B.barred u v)) (has_pair-push B.must (a, b) u v) ∙ by_case (is_between (a, b) u v) (has_pair B.must u v) (has_pair B.barred u v);
}
  where
    by_case : (here m k : Bool) → (not (m || here) && not k) ≡ (not here && (not m && not k))
    by_case true true k = refl
    by_case true false k = refl
    by_case false true k = refl
    by_case false false k = refl

barred_shuts : (B : Branch) (a b : ℕ) → Shuts B (with_barred B a b) a b
barred_shuts B a b = record {
  free = λ I. omega arith;
  others = λ u v. ap (λ m. not (has_pair B.must u v) && not m) (has_pair-push B.barred (a, b) u v) ∙ by_case (is_between (a, b) u v) (has_pair B.must u v) (has_pair B.barred u v);
}
  where
    by_case : (here m k : Bool) → (not m && not (k || here)) ≡ (not here && (not m && not k))
    by_case true true k = refl
    by_case true false true = refl
    by_case true false false = refl
    by_case false true k = refl
    by_case false false true = refl
    by_case false false false = refl

-- how many links are open
abbrev open_links : Network → Branch → ℕ
open_links I B = total (λ l. one_of (is_open B l.a l.b)) I.links

fewer_links : (I : Network) (B half : Branch) (a b : ℕ) → IsLinkSplit I B a b → Shuts B half a b → open_links I half + 1 ≤ open_links I B
fewer_links I B half a b may shuts =
    total_falls (λ l. one_of (is_open B l.a l.b)) (λ l. one_of (is_open half l.a l.b)) I.links a b
    (λ l. rw (shuts.others l.a l.b) (at_most (is_between (a, b) l.a l.b) (is_open B l.a l.b)))
    (λ l is. let turned : is_between (a, b) l.a l.b ≡ true = between-turned (l.a, l.b) (a, b) is in rw (shuts.others l.a l.b, apart_from (a, b) (l.a, l.b) B.must may.no_must turned, apart_from (a, b) (l.a, l.b) B.barred may.unbarred turned, turned) (omega arith))
    may.linked
  where
    at_most : (c d : Bool) → one_of (not c && d) ≤ one_of d
    at_most true d = omega arith
    at_most false d = omega arith

fewer_pairs : (I : Network) (B half : Branch) (a b : ℕ) → IsInstance I → IsLinkSplit I B a b → Shuts B half a b → open_pairs I half + 1 ≤ open_pairs I B
fewer_pairs I B half a b instance may shuts =
    let ends = linked-vertices I a b instance may.linked in
    sum_falls (λ u. sum_to (term B u) I.n) (λ u. sum_to (term half u) I.n) I.n a
    (λ u. sum_to_le (term half u) (term B u) I.n (λ v low high. no_more u v))
    (sum_falls (term B a) (term half a) I.n b (no_more a) here ends.1.0 ends.1.1) ends.0.0 ends.0.1
  where
    term : Branch → ℕ → ℕ → ℕ
    term C u v = one_of ((nat_lt u v && is_some (link I.links u v)) && is_open C u v)

    at_most : (there c d : Bool) → one_of (there && (not c && d)) ≤ one_of (there && d)
    at_most true true d = omega arith
    at_most true false d = omega arith
    at_most false c d = omega arith

    no_more : (u v : ℕ) → term half u v ≤ term B u v
    no_more u v = rw (shuts.others u v) (at_most (nat_lt u v && is_some (link I.links u v)) (is_between (a, b) u v) (is_open B u v))

    none : (there c : Bool) → one_of (there && (false && c)) + 1 ≤ 1
    none true c = omega arith
    none false c = omega arith

    lower : nat_lt a b ≡ true
    lower = let low = may.ordered in grind (arith, nat_tests)

    here : term half a b + 1 ≤ term B a b
    here = rw (shuts.others a b, own (a, b), may.no_must, may.unbarred, lower, may.linked) (omega arith)

-- each half of a split has less of a measure
pub record Falls (measure : Branch → ℕ) (B : Branch) (at : SplitAt) : Type 0 where
  pub says_yes : measure (yes_half B at) + 1 ≤ measure B
  pub says_no : measure (no_half B at) + 1 ≤ measure B

-- of the free vertices, at a vertex
pub free_falls : (I : Network) (B : Branch) (v : ℕ) → IsSplit I B v → Falls (free_count I) B (Vertex v)
free_falls I B v may = record { says_yes = fewer_inside I B v may; says_no = fewer_outside I B v may }

-- of the free vertices together with a count of links of which no split at a vertex changes any
falls_with : (I : Network) (count : Branch → ℕ) → ((B : Branch) (v : ℕ) → (count (with_inside B v) ≡ count B) × (count (with_outside B v) ≡ count B)) → ((B half : Branch) (a b : ℕ) → IsLinkSplit I B a b → Shuts B half a b → count half + 1 ≤ count B) → (B : Branch) (at : SplitAt) → IsSplitAt I B at → Falls (λ C. free_count I C + count C) B at
falls_with I count same fewer B (Vertex v) may =
    let free = free_falls I B v may in
    record { says_yes = one_less _ _ _ _ free.says_yes (same B v).0; says_no = one_less _ _ _ _ free.says_no (same B v).1 }
  where
    one_less : (m n k l : ℕ) → m + 1 ≤ n → k ≡ l → m + k + 1 ≤ n + l
    one_less m n k l h e = omega arith
falls_with I count same fewer B (Link a b) may =
    let must = must_shuts B a b in
    let barred = barred_shuts B a b in
    record {
      says_yes = one_less _ _ _ _ (must.free I) (fewer B (with_must B a b) a b may must);
      says_no = one_less _ _ _ _ (barred.free I) (fewer B (with_barred B a b) a b may barred);
    }
  where
    one_less : (m n k l : ℕ) → m ≤ n → k + 1 ≤ l → m + k + 1 ≤ n + l
    one_less m n k l h e = omega arith

-- how much is left to split: the free vertices and the open links
abbrev pub left : Network → Branch → ℕ
left I B = free_count I B + open_links I B

pub left_falls : (I : Network) (B : Branch) (at : SplitAt) → IsSplitAt I B at → Falls (left I) B at
left_falls I = falls_with I (open_links I) (λ B v. (refl, refl)) (fewer_links I)

-- the same of an instance, by pairs
pub pairs_fall : (I : Network) → IsInstance I → (B : Branch) (at : SplitAt) → IsSplitAt I B at → Falls (λ C. free_count I C + open_pairs I C) B at
pairs_fall I instance = falls_with I (open_pairs I) (λ B v. (refl, refl)) (λ B half a b. fewer_pairs I B half a b instance)
