-- A link that gets another cost: what that makes of all links.
use Rattle.std.proofs.Common.{◌≡◌, ℕ, ◌+◌, ◌^◌, ◌<◌, min, max, Bool, true, false, cond, List, [], ◌∷◌, Option, Some, None, unwrap_or, IsSome, refl, ap, arith}
use Rattle.std.proofs.lemmas.Bool.Decides.{nat_tests}
use Rattle.std.proofs.lemmas.List.Elements.{All-from_recursion, recursion_from_All}
use Rattle.std.specs.List.{AllByRecursion}
use Rattle.std.specs.Map.{keys_of, set_value}
use Rattle.std.specs.Prelude.{All, IsTrue}
use Rattle.st_model.specs.declared.link.Link.{Link}
use Rattle.st_model.specs.declared.need.Need.{Need}
use Rattle.st_model.specs.Lists.{total}
use Rattle.st_model.specs.Network.{IsLinkBetween, joins, link, amount}
use Rattle.st_model.specs.Steps.{cheaper, put_link}
use Rattle.graph_store.specs.declared.joints.Joint.{Joint}
use Rattle.graph_store.specs.Changes.{are_ends, set_cost}
use Rattle.graph_store.specs.Graph.{IsGraph, is_in}
use Rattle.graph_store.specs.Joined.{Entry, Linked, AreOnce, IsOrdered, is_pair, link_of, links_of, graph_of}

-- the order of the ends doesn't matter
pub set_cost-ends : (ls : List Link) (a b low high cost : ℕ) → low ≡ min a b → high ≡ max a b → set_cost ls low high cost ≡ set_cost ls a b cost
set_cost-ends [] a b low high cost low_is high_is = refl
set_cost-ends (m ∷ ms) a b low high cost low_is high_is =
    let same : joins m low high ≡ joins m a b = grind (arith, nat_tests) in
    rw (same, set_cost-ends ms a b low high cost low_is high_is) refl

-- the entry of the link has the new cost
pub set_cost-entry : (es : List Entry) (low high : ℕ) (joint : Joint) → low < high → All IsOrdered (keys_of es) → links_of (set_value (is_pair low high) es joint) ≡ set_cost (links_of es) low high joint.cost
set_cost-entry es low high joint before all = by_recursion es (recursion_from_All IsOrdered (keys_of es) all)
  where
    by_recursion : (es : List Entry) → AllByRecursion IsOrdered (keys_of es) → links_of (set_value (is_pair low high) es joint) ≡ set_cost (links_of es) low high joint.cost
    by_recursion [] h = refl
    by_recursion (e ∷ es) h =
        let first : e.0.0 < e.0.1 = h.0 in
        let same : joins (link_of e) low high ≡ is_pair low high e.0 = grind (arith, nat_tests) in
        rw same (by_case (is_pair low high e.0) (by_recursion es h.1))
      where
        by_case : (b : Bool) → links_of (set_value (is_pair low high) es joint) ≡ set_cost (links_of es) low high joint.cost
            → links_of (cond b ((e.0, joint) ∷ es) (e ∷ set_value (is_pair low high) es joint)) ≡ cond b (record { a = e.0.0; b = e.0.1; cost = joint.cost } ∷ links_of es) (link_of e ∷ set_cost (links_of es) low high joint.cost)
        by_case true rest = refl
        by_case false rest = ap (λ x. link_of e ∷ x) rest

-- where there is no link, all stays
pub set_cost-none : (ls : List Link) (a b cost : ℕ) → link ls a b ≡ None → set_cost ls a b cost ≡ ls
set_cost-none [] a b cost none = refl
set_cost-none (m ∷ ms) a b cost none = by_case (joins m a b) none (set_cost-none ms a b cost)
  where
    by_case : (t : Bool) → cond t (Some m.cost) (link ms a b) ≡ None → (link ms a b ≡ None → set_cost ms a b cost ≡ ms) → cond t (record m { cost = cost } ∷ ms) (m ∷ set_cost ms a b cost) ≡ m ∷ ms
    by_case true none rest = absurd (let clash : ⊥ = cc in clash)
    by_case false none rest = ap (λ x. m ∷ x) (rest none)

-- a lower cost is what a put link makes of it
pub set_cost-put : (ls : List Link) (a b cost was : ℕ) → link ls a b ≡ Some was → cost < was → set_cost ls a b cost ≡ put_link ls (record { a = a; b = b; cost = cost })
set_cost-put [] a b cost was some less = absurd (let clash : ⊥ = cc in clash)
set_cost-put (m ∷ ms) a b cost was some less = by_case (joins m a b) some (set_cost-put ms a b cost was)
  where
    by_case : (t : Bool) → cond t (Some m.cost) (link ms a b) ≡ Some was → (link ms a b ≡ Some was → cost < was → set_cost ms a b cost ≡ put_link ms (record { a = a; b = b; cost = cost }))
        → cond t (record m { cost = cost } ∷ ms) (m ∷ set_cost ms a b cost) ≡ cond t (cheaper m (record { a = a; b = b; cost = cost }) ∷ ms) (m ∷ put_link ms (record { a = a; b = b; cost = cost }))
    by_case true some rest = let value : m.cost ≡ was = cc in let least : cost ≡ min m.cost cost = omega arith in λ j. record { a = m.a; b = m.b; cost = least j } ∷ ms
    by_case false some rest = ap (λ x. m ∷ x) (rest some less)

-- what all links cost then
pub total-set_cost : (ls : List Link) (a b cost : ℕ) → IsSome (link ls a b) → total (λ l. l.cost) (set_cost ls a b cost) + unwrap_or (link ls a b) 0 ≡ total (λ l. l.cost) ls + cost
total-set_cost [] a b cost linked = absurd (let clash : ⊥ = cc in clash)
total-set_cost (m ∷ ms) a b cost linked = by_case (joins m a b) linked (total-set_cost ms a b cost)
  where
    by_case : (t : Bool) → IsSome (cond t (Some m.cost) (link ms a b)) → (IsSome (link ms a b) → total (λ l. l.cost) (set_cost ms a b cost) + unwrap_or (link ms a b) 0 ≡ total (λ l. l.cost) ms + cost)
        → total (λ l. l.cost) (cond t (record m { cost = cost } ∷ ms) (m ∷ set_cost ms a b cost)) + unwrap_or (cond t (Some m.cost) (link ms a b)) 0 ≡ m.cost + total (λ l. l.cost) ms + cost
    by_case true linked rest = omega arith
    by_case false linked rest = let more = rest linked in omega arith

-- of two pairs that a link joins each is the other, and of two of which it joins one they differ
same_ends : (m : Link) (a b u w : ℕ) → joins m a b ≡ true → joins m u w ≡ are_ends a b u w
same_ends m a b u w h = grind (arith, nat_tests)

other_ends : (m : Link) (a b u w : ℕ) → joins m a b ≡ false → joins m u w ≡ true → are_ends a b u w ≡ false
other_ends m a b u w h other = grind (arith, nat_tests)

-- a link at another cost among the others, where the rest is given
found_at : (m : Link) (a b cost u w : ℕ) (rest new old : Option ℕ) → (joins m a b ≡ false → new ≡ cond (are_ends a b u w) (Some cost) old)
    → cond (joins m a b) (cond (joins m u w) (Some cost) rest) (cond (joins m u w) (Some m.cost) new) ≡ cond (are_ends a b u w) (Some cost) (cond (joins m u w) (Some m.cost) (cond (joins m a b) rest old))
found_at m a b cost u w rest new old later = by_case (joins m a b) (joins m u w) (are_ends a b u w) refl refl refl later
  where
    by_case : (p q r : Bool) → joins m a b ≡ p → joins m u w ≡ q → are_ends a b u w ≡ r → (p ≡ false → new ≡ cond r (Some cost) old)
        → cond p (cond q (Some cost) rest) (cond q (Some m.cost) new) ≡ cond r (Some cost) (cond q (Some m.cost) (cond p rest old))
    by_case true true true p_is q_is r_is later = refl
    by_case true false false p_is q_is r_is later = refl
    by_case true true false p_is q_is r_is later = let same = same_ends m a b u w p_is in absurd (let clash : ⊥ = cc in clash)
    by_case true false true p_is q_is r_is later = let same = same_ends m a b u w p_is in absurd (let clash : ⊥ = cc in clash)
    by_case false true true p_is q_is r_is later = let other = other_ends m a b u w p_is q_is in absurd (let clash : ⊥ = cc in clash)
    by_case false true false p_is q_is r_is later = refl
    by_case false false r p_is q_is r_is later = later refl

-- what a look-up finds then
pub link-set_cost : (ls : List Link) (a b cost u w : ℕ) → IsSome (link ls a b) → link (set_cost ls a b cost) u w ≡ cond (are_ends a b u w) (Some cost) (link ls u w)
link-set_cost [] a b cost u w linked = absurd (let clash : ⊥ = cc in clash)
link-set_cost (m ∷ ms) a b cost u w linked = by_case (joins m a b) refl linked (link-set_cost ms a b cost u w)
  where
    by_case : (p : Bool) → joins m a b ≡ p → IsSome (cond p (Some m.cost) (link ms a b)) → (IsSome (link ms a b) → link (set_cost ms a b cost) u w ≡ cond (are_ends a b u w) (Some cost) (link ms u w))
        → link (cond p (record m { cost = cost } ∷ ms) (m ∷ set_cost ms a b cost)) u w ≡ cond (are_ends a b u w) (Some cost) (cond (joins m u w) (Some m.cost) (link ms u w))
    by_case true is linked rest = let found = found_at m a b cost u w (link ms u w) None None (λ no. absurd (let clash : ⊥ = cc in clash)) in rw is at found
    by_case false is linked rest = let found = found_at m a b cost u w None (link (set_cost ms a b cost) u w) (link ms u w) (λ no. rest linked) in rw is at found

-- what a look-up finds once a link is put
pub link-put_link : (ls : List Link) (a b cost u w : ℕ) → link (put_link ls (record { a = a; b = b; cost = cost })) u w ≡ cond (are_ends a b u w) (Some (min (unwrap_or (link ls a b) cost) cost)) (link ls u w)
link-put_link [] a b cost u w =
    let same : joins (record { a = min a b; b = max a b; cost = cost }) u w ≡ are_ends a b u w = grind (arith, nat_tests) in
    let least : cost ≡ min cost cost = omega arith in
    rw same (ap (λ c. cond (are_ends a b u w) (Some c) None) least)
link-put_link (m ∷ ms) a b cost u w = by_case (joins m a b) refl (link-put_link ms a b cost u w)
  where
    by_case : (p : Bool) → joins m a b ≡ p → link (put_link ms (record { a = a; b = b; cost = cost })) u w ≡ cond (are_ends a b u w) (Some (min (unwrap_or (link ms a b) cost) cost)) (link ms u w)
        → link (cond p (cheaper m (record { a = a; b = b; cost = cost }) ∷ ms) (m ∷ put_link ms (record { a = a; b = b; cost = cost }))) u w ≡ cond (are_ends a b u w) (Some (min (unwrap_or (cond p (Some m.cost) (link ms a b)) cost) cost)) (cond (joins m u w) (Some m.cost) (link ms u w))
    by_case true is rest = let found = found_at m a b (min m.cost cost) u w (link ms u w) None None (λ no. absurd (let clash : ⊥ = cc in clash)) in rw is at found
    by_case false is rest = let found = found_at m a b (min (unwrap_or (link ms a b) cost) cost) u w None (link (put_link ms (record { a = a; b = b; cost = cost })) u w) (link ms u w) (λ no. rest) in rw is at found

-- what holds of links by their ends still holds
All-set_cost : (Q : Link → Type 0) → ((m : Link) (c : ℕ) → Q m → Q (record m { cost = c })) → (ls : List Link) (a b cost : ℕ) → All Q ls → All Q (set_cost ls a b cost)
All-set_cost Q turn ls a b cost all = All-from_recursion Q (set_cost ls a b cost) (by_recursion ls (recursion_from_All Q ls all))
  where
    by_recursion : (ls : List Link) → AllByRecursion Q ls → AllByRecursion Q (set_cost ls a b cost)
    by_recursion [] h = tt
    by_recursion (m ∷ ms) h = by_case (joins m a b) (by_recursion ms h.1)
      where
        by_case : (t : Bool) → AllByRecursion Q (set_cost ms a b cost) → AllByRecursion Q (cond t (record m { cost = cost } ∷ ms) (m ∷ set_cost ms a b cost))
        by_case true rest = (turn m cost h.0, h.1)
        by_case false rest = (h.0, rest)

-- the graph then
pub graph_cost : (x : Linked) (needs : List Need) (present : List Bool) (a b cost : ℕ) → IsSome (link x.links a b) → AreOnce (set_cost x.links a b cost)
    → amount (graph_of x needs present).network + cost < 2 ^ 63 + unwrap_or (link x.links a b) 0 → IsGraph (graph_of x needs present) → IsGraph (graph_of (record { n = x.n; links = set_cost x.links a b cost }) needs present)
graph_cost x needs present a b cost linked once fits graph = record {
  instance = record {
    some_vertex = graph.instance.some_vertex;
    few_vertices = graph.instance.few_vertices;
    ends = All-set_cost (IsLinkBetween x.n) (λ m c h. record { low = h.low; ordered = h.ordered; high = h.high }) x.links a b cost graph.instance.ends;
    one_each = once;
    needs = graph.instance.needs;
    amount = let costs = total-set_cost x.links a b cost linked in omega arith;
  };
  here = graph.here;
  ends = All-set_cost (λ l. IsTrue (is_in (graph_of x needs present) l.a) × IsTrue (is_in (graph_of x needs present) l.b)) (λ m c h. h) x.links a b cost graph.ends;
}

joined_apart : (m : Link) (a b : ℕ) → m.a < m.b → joins m a b ≡ true → min a b < max a b
joined_apart m a b before is = grind (arith, nat_tests)

-- the ends of a link differ
pub ends_apart : (n : ℕ) (ls : List Link) (a b : ℕ) → All (IsLinkBetween n) ls → IsSome (link ls a b) → min a b < max a b
ends_apart n ls a b all linked = by_recursion ls (recursion_from_All (IsLinkBetween n) ls all) linked
  where
    by_recursion : (ls : List Link) → AllByRecursion (IsLinkBetween n) ls → IsSome (link ls a b) → min a b < max a b
    by_recursion [] h linked = absurd (let clash : ⊥ = cc in clash)
    by_recursion (m ∷ ms) h linked = by_case (joins m a b) refl linked (by_recursion ms h.1)
      where
        by_case : (t : Bool) → joins m a b ≡ t → IsSome (cond t (Some m.cost) (link ms a b)) → (IsSome (link ms a b) → min a b < max a b) → min a b < max a b
        by_case true is linked rest = joined_apart m a b h.0.ordered is
        by_case false is linked rest = rest linked
