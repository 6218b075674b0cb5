-- What a link that is put or taken out does to the graph.
use Rattle.std.proofs.Common.{◌≡◌, ℕ, ◌+◌, ◌-◌, ◌^◌, ◌<◌, ◌≤◌, min, max, Bool, true, false, cond, eqb, List, [], ◌∷◌, ◌++◌, zero, suc, length, get_or, Option, Some, None, unwrap_or, IsSome, IfSome, Result, Ok, Err, OnOk, OnErr, IsPermutation, refl, sym, ap, subst, ◌∙◌, arith}
use Rattle.std.proofs.lemmas.Bool.Decides.{nat_tests}
use Rattle.std.proofs.lemmas.List.Elements.{All-tail, All-from_recursion, recursion_from_All}
use Rattle.std.proofs.lemmas.List.Sorted.{length_permutation, All-permutation}
use Rattle.std.specs.List.{AllByRecursion}
use Rattle.std.specs.Prelude.{All, IsTrue}
use Rattle.st_model.specs.declared.link.Link.{Link}
use Rattle.st_model.specs.declared.need.Need.{Need}
use Rattle.st_model.specs.Lists.{total}
use Rattle.st_model.specs.Network.{IsVertex, IsLinkBetween, joins, link, amount}
use Rattle.st_model.specs.Steps.{ordered, cheaper, put_link}
use Rattle.st_model.proofs.RegrowAlike.{total-IsPermutation}
use Rattle.graph_store.specs.Graph.{Graph, IsGraph, is_in}
use Rattle.graph_store.specs.Joined.{Linked, TakesOut, AreOnce, graph_of}

-- a vertex that is present is in range
pub in_range : (g : Graph) (v : ℕ) → IsGraph g → IsTrue (is_in g v) → IsVertex g.network.n v
in_range g v graph here = by_zero (eqb v 0) refl here
  where
    by_zero : (b : Bool) → eqb v 0 ≡ b → cond b false (get_or g.present (v - 1) false) ≡ true → IsVertex g.network.n v
    by_zero true is h = absurd (let clash : ⊥ = cc in clash)
    by_zero false other h = by_length (v - 1) refl h
      where
        by_length : (k : ℕ) → k ≡ v - 1 → get_or g.present k false ≡ true → IsVertex g.network.n v
        by_length k is h =
            let some : 1 ≤ v = grind (arith, nat_tests) in
            let long = graph.here in
            let inside : k < length g.present = within g.present k h in
            (some, omega arith)
          where
            within : (xs : List Bool) (k : ℕ) → get_or xs k false ≡ true → k < length xs
            within [] zero h = absurd (let clash : ⊥ = cc in clash)
            within [] (suc k) h = absurd (let clash : ⊥ = cc in clash)
            within (x ∷ xs) zero h = omega arith
            within (x ∷ xs) (suc k) h = let rest = within xs k h in omega arith

-- the order of the ends doesn't matter
pub put_link-ends : (ls : List Link) (a b low high cost : ℕ) → low ≡ min a b → high ≡ max a b → put_link ls (record { a = low; b = high; cost = cost }) ≡ put_link ls (record { a = a; b = b; cost = cost })
put_link-ends [] a b low high cost low_is high_is =
    let first : min low high ≡ min a b = omega arith in
    let last : max low high ≡ max a b = omega arith in
    λ j. record { a = first j; b = last j; cost = cost } ∷ []
put_link-ends (m ∷ ms) a b low high cost low_is high_is =
    let same : joins m low high ≡ joins m a b = grind (arith, nat_tests) in
    rw (same, put_link-ends ms a b low high cost low_is high_is) refl

-- a new link stands last
pub put_link-new : (ls : List Link) (l : Link) → link ls l.a l.b ≡ None → put_link ls l ≡ ls ++ ordered l l.cost ∷ []
put_link-new [] l none = refl
put_link-new (m ∷ ms) l none = by_case (joins m l.a l.b) refl none (put_link-new ms l)
  where
    by_case : (b : Bool) → joins m l.a l.b ≡ b → cond b (Some m.cost) (link ms l.a l.b) ≡ None → (link ms l.a l.b ≡ None → put_link ms l ≡ ms ++ ordered l l.cost ∷ []) → cond b (cheaper m l ∷ ms) (m ∷ put_link ms l) ≡ m ∷ (ms ++ ordered l l.cost ∷ [])
    by_case true is none rest = absurd (let clash : ⊥ = cc in clash)
    by_case false is none rest = ap (λ x. m ∷ x) (rest none)

-- where a link costs no more, all stays
pub put_link-kept : (ls : List Link) (l : Link) (was : ℕ) → link ls l.a l.b ≡ Some was → was ≤ l.cost → put_link ls l ≡ ls
put_link-kept [] l was some less = absurd (let clash : ⊥ = cc in clash)
put_link-kept (m ∷ ms) l was some less = by_case (joins m l.a l.b) refl some (put_link-kept ms l was)
  where
    by_case : (b : Bool) → joins m l.a l.b ≡ b → cond b (Some m.cost) (link ms l.a l.b) ≡ Some was → (link ms l.a l.b ≡ Some was → was ≤ l.cost → put_link ms l ≡ ms) → cond b (cheaper m l ∷ ms) (m ∷ put_link ms l) ≡ m ∷ ms
    by_case true is some rest = let value : m.cost ≡ was = cc in let cost : min m.cost l.cost ≡ m.cost = omega arith in λ j. record { a = m.a; b = m.b; cost = cost j } ∷ ms
    by_case false is some rest = ap (λ x. m ∷ x) (rest some less)

-- all links cost at most the new cost more
pub total-put_link : (ls : List Link) (l : Link) → total (λ m. m.cost) (put_link ls l) ≤ total (λ m. m.cost) ls + l.cost
total-put_link [] l = omega arith
total-put_link (m ∷ ms) l = by_case (joins m l.a l.b) (total-put_link ms l)
  where
    by_case : (b : Bool) → total (λ m. m.cost) (put_link ms l) ≤ total (λ m. m.cost) ms + l.cost → total (λ m. m.cost) (cond b (cheaper m l ∷ ms) (m ∷ put_link ms l)) ≤ m.cost + total (λ m. m.cost) ms + l.cost
    by_case true rest = omega arith
    by_case false rest = omega arith

-- what holds of links by their ends holds of them once one is put
All-put_link : (Q : Link → Type 0) → ((m l : Link) → Q m → Q (cheaper m l)) → (ls : List Link) (l : Link) → Q (ordered l l.cost) → AllByRecursion Q ls → AllByRecursion Q (put_link ls l)
All-put_link Q turn [] l new h = (new, tt)
All-put_link Q turn (m ∷ ms) l new h = by_case (joins m l.a l.b) (All-put_link Q turn ms l new h.1)
  where
    by_case : (b : Bool) → AllByRecursion Q (put_link ms l) → AllByRecursion Q (cond b (cheaper m l ∷ ms) (m ∷ put_link ms l))
    by_case true rest = (turn m l h.0, h.1)
    by_case false rest = (h.0, rest)

-- both ends are present
abbrev AreHere : Graph → Link → Type 0
AreHere g l = IsTrue (is_in g l.a) × IsTrue (is_in g l.b)

-- the graph once a link is put
pub graph_put : (x : Linked) (needs : List Need) (present : List Bool) (a b cost : ℕ) → (a ≡ b → ⊥) → AreOnce (put_link x.links (record { a = a; b = b; cost = cost })) → IsTrue (is_in (graph_of x needs present) a) → IsTrue (is_in (graph_of x needs present) b)
    → amount (graph_of (record { n = x.n; links = put_link x.links (record { a = a; b = b; cost = cost }) }) needs present).network < 2 ^ 63 → IsGraph (graph_of x needs present) → IsGraph (graph_of (record { n = x.n; links = put_link x.links (record { a = a; b = b; cost = cost }) }) needs present)
graph_put x needs present a b cost different once a_in b_in fits graph = record {
  instance = record {
    some_vertex = graph.instance.some_vertex;
    few_vertices = graph.instance.few_vertices;
    ends = All-from_recursion (IsLinkBetween x.n) _ (All-put_link (IsLinkBetween x.n) (λ m l h. record { low = h.low; ordered = h.ordered; high = h.high }) x.links (record { a = a; b = b; cost = cost }) between (recursion_from_All (IsLinkBetween x.n) x.links graph.instance.ends));
    one_each = once;
    needs = graph.instance.needs;
    amount = fits;
  };
  here = graph.here;
  ends = All-from_recursion (AreHere (graph_of x needs present)) _ (All-put_link (AreHere (graph_of x needs present)) (λ m l h. h) x.links (record { a = a; b = b; cost = cost }) (either (eqb (min a b) a) refl) (recursion_from_All (AreHere (graph_of x needs present)) x.links graph.ends));
}
  where
    between : IsLinkBetween x.n (ordered (record { a = a; b = b; cost = cost }) cost)
    between =
        let a_range = in_range (graph_of x needs present) a graph a_in in
        let b_range = in_range (graph_of x needs present) b graph b_in in
        record { low = omega (arith, a_range.0, b_range.0); ordered = omega arith; high = omega (arith, a_range.1, b_range.1) }

    either : (t : Bool) → eqb (min a b) a ≡ t → IsTrue (is_in (graph_of x needs present) (min a b)) × IsTrue (is_in (graph_of x needs present) (max a b))
    either true same = let low : a ≡ min a b = grind (arith, nat_tests) in let high : b ≡ max a b = omega arith in (subst (λ v. IsTrue (is_in (graph_of x needs present) v)) low a_in, subst (λ v. IsTrue (is_in (graph_of x needs present) v)) high b_in)
    either false other = let apart : min a b ≡ a → ⊥ = λ e. grind (arith, nat_tests) in let low : b ≡ min a b = omega arith in let high : a ≡ max a b = omega arith in (subst (λ v. IsTrue (is_in (graph_of x needs present) v)) low b_in, subst (λ v. IsTrue (is_in (graph_of x needs present) v)) high a_in)

-- the links once one is put, by the lower and the higher end
pub links_put : (x y : Linked) (a b low high cost : ℕ) → low ≡ min a b → high ≡ max a b → y ≡ (record { n = x.n; links = put_link x.links (record { a = low; b = high; cost = cost }) }) → y ≡ (record { n = x.n; links = put_link x.links (record { a = a; b = b; cost = cost }) })
links_put x y a b low high cost low_is high_is is = is ∙ (λ j. record { n = x.n; links = put_link-ends x.links a b low high cost low_is high_is j })

-- the same where there was none
pub links_attached : (x y : Linked) (a b low high cost : ℕ) → low ≡ min a b → high ≡ max a b → low < high → link x.links low high ≡ None → y ≡ (record { n = x.n; links = x.links ++ record { a = low; b = high; cost = cost } ∷ [] }) → y ≡ (record { n = x.n; links = put_link x.links (record { a = a; b = b; cost = cost }) })
links_attached x y a b low high cost low_is high_is before none is =
    let first : low ≡ min low high = omega arith in
    let last : high ≡ max low high = omega arith in
    let new : x.links ++ record { a = low; b = high; cost = cost } ∷ [] ≡ put_link x.links (record { a = low; b = high; cost = cost }) = (λ j. x.links ++ record { a = first j; b = last j; cost = cost } ∷ []) ∙ sym (put_link-new x.links (record { a = low; b = high; cost = cost }) none) in
    links_put x y a b low high cost low_is high_is (is ∙ (λ j. record { n = x.n; links = new j }))

pub AreOnce-same : (x y : Linked) → x ≡ y → AreOnce x.links → AreOnce y.links
AreOnce-same x y is once = subst (λ (z : Linked). AreOnce z.links) is once

-- what was attached after nothing was found
pub attached_after : {E : Type 0} (x0 x y : Linked) (a b low high cost : ℕ) (r : Result (Unit {0}) E) → low ≡ min a b → high ≡ max a b → low < high → (x ≡ x0) × (link x0.links low high ≡ None) → OnOk r (y ≡ (record { n = x.n; links = x.links ++ record { a = low; b = high; cost = cost } ∷ [] })) → OnErr r (y ≡ x)
    → OnOk r (y ≡ (record { n = x0.n; links = put_link x0.links (record { a = a; b = b; cost = cost }) })) × OnErr r (y ≡ x0)
attached_after x0 x y a b low high cost (Ok u) low_is high_is before found ok err =
    (links_attached x0 y a b low high cost low_is high_is before found.1 (ok ∙ (λ j. record { n = (found.0 j).n; links = (found.0 j).links ++ record { a = low; b = high; cost = cost } ∷ [] })), tt)
attached_after x0 x y a b low high cost (Err e) low_is high_is before found ok err = (tt, err ∙ found.0)

-- the graph once a link was put where there was none, or where there was no memory
pub graph_attached : {E : Type 0} (x y : Linked) (needs : List Need) (present : List Bool) (a b cost : ℕ) (r : Result (Unit {0}) E) → (a ≡ b → ⊥) → OnOk r (y ≡ (record { n = x.n; links = put_link x.links (record { a = a; b = b; cost = cost }) })) → OnErr r (y ≡ x) → AreOnce y.links
    → IsTrue (is_in (graph_of x needs present) a) → IsTrue (is_in (graph_of x needs present) b) → amount (graph_of (record { n = x.n; links = put_link x.links (record { a = a; b = b; cost = cost }) }) needs present).network < 2 ^ 63 → IsGraph (graph_of x needs present) → IsGraph (graph_of y needs present)
graph_attached x y needs present a b cost (Err e) different ok err once a_in b_in fits graph = subst (λ (z : Linked). IsGraph (graph_of z needs present)) (sym err) graph
graph_attached x y needs present a b cost (Ok u) different ok err once a_in b_in fits graph =
    subst (λ (z : Linked). IsGraph (graph_of z needs present)) (sym ok) (graph_put x needs present a b cost different (subst (λ (z : Linked). AreOnce z.links) ok once) a_in b_in fits graph)

-- where a link was taken out, there is one fewer, and what they cost together is less by its cost
pub fewer : (x y : Linked) (a b : ℕ) → TakesOut x y a b → IsSome (link x.links a b) → length y.links + 1 ≡ length x.links
fewer x y a b out some = by_case (link x.links a b) some out.moved
  where
    by_case : (o : Option ℕ) → IsSome o → IfSome o (λ cost. IsPermutation x.links (record { a = min a b; b = max a b; cost = cost } ∷ y.links)) → length y.links + 1 ≡ length x.links
    by_case None h moved = absurd (let clash : ⊥ = cc in clash)
    by_case (Some cost) h moved = let same = length_permutation _ _ moved in omega arith

pub total-removed : (x y : Linked) (a b : ℕ) → TakesOut x y a b → total (λ l. l.cost) y.links + unwrap_or (link x.links a b) 0 ≡ total (λ l. l.cost) x.links
total-removed x y a b out = by_case (link x.links a b) out.moved out.unchanged
  where
    by_case : (o : Option ℕ) → IfSome o (λ cost. IsPermutation x.links (record { a = min a b; b = max a b; cost = cost } ∷ y.links)) → (o ≡ None → y ≡ x) → total (λ l. l.cost) y.links + unwrap_or o 0 ≡ total (λ l. l.cost) x.links
    by_case None moved same = let all = ap (λ (z : Linked). total (λ (l : Link). l.cost) z.links) (same refl) in omega arith
    by_case (Some cost) moved same = let all : total (λ l. l.cost) x.links ≡ cost + total (λ (l : Link). l.cost) y.links = total-IsPermutation (λ (l : Link). l.cost) x.links _ moved in omega arith

-- the graph once a link was taken out, whether there was one or not
pub graph_removed : (x y : Linked) (needs : List Need) (present : List Bool) (a b : ℕ) → TakesOut x y a b → AreOnce y.links → IsGraph (graph_of x needs present) → IsGraph (graph_of y needs present)
graph_removed x y needs present a b out once graph = by_case (link x.links a b) out.moved out.unchanged
  where
    still : (Q : Link → Type 0) (l : Link) → IsPermutation x.links (l ∷ y.links) → All Q x.links → All Q y.links
    still Q l moved all = All-tail Q l y.links (All-permutation Q x.links (l ∷ y.links) moved all)

    by_case : (o : Option ℕ) → IfSome o (λ cost. IsPermutation x.links (record { a = min a b; b = max a b; cost = cost } ∷ y.links)) → (o ≡ None → y ≡ x) → IsGraph (graph_of y needs present)
    by_case None moved same = subst (λ (z : Linked). IsGraph (graph_of z needs present)) (sym (same refl)) graph
    by_case (Some cost) moved same = subst (λ n. IsGraph (graph_of (record { n = n; links = y.links }) needs present)) (sym out.count) (record {
      instance = record {
        some_vertex = graph.instance.some_vertex;
        few_vertices = graph.instance.few_vertices;
        ends = still (IsLinkBetween x.n) _ moved graph.instance.ends;
        one_each = once;
        needs = graph.instance.needs;
        amount =
            let costs : total (λ l. l.cost) x.links ≡ cost + total (λ (l : Link). l.cost) y.links = total-IsPermutation (λ (l : Link). l.cost) x.links _ moved in
            let before = graph.instance.amount in
            omega arith;
      };
      here = graph.here;
      ends = still (AreHere (graph_of x needs present)) _ moved graph.ends;
    })

-- what follows from a fact on Ok
pub on_ok_then : {X E : Type 0} (r : Result X E) (P Q : Type 0) → OnOk r P → (P → Q) → OnOk r Q
on_ok_then (Ok x) P Q h f = f h
on_ok_then (Err e) P Q h f = tt
