-- The arcs of a tree that grows are different links, so they cost no more than all links do.
use Rattle.std.proofs.Common.{◌≡◌, ℕ, ◌+◌, ◌≤◌, Bool, true, false, cond, ◌&&◌, ◌||◌, eqb, List, [], ◌∷◌, map, Some, refl, ap, arith, ◌⊎◌, inl, inr, eq-eqb, ◌∙◌}
use Rattle.std.proofs.Math.Bool.{or_comm}
use Rattle.std.specs.Prelude.{◌==◌, IsTrue, unwrap_or, All}
use Rattle.std.proofs.lemmas.Bool.{or_right}
use Rattle.std.proofs.lemmas.Bool.Decides.{nat_tests}
use Rattle.st_model.specs.declared.link.Link.{Link}
use Rattle.st_model.specs.Lists.{has, total}
use Rattle.st_model.specs.Network.{Network, joins, link}
use Rattle.std.specs.List.{AllByRecursion}
use Rattle.std.proofs.lemmas.List.Elements.{recursion_from_All}
use Rattle.st_model.specs.Made.{is_between, has_pair}
use Rattle.st_model.specs.Arborescence.{Grows, arc_cost}

-- what a link costs, unless both its ends are reached
abbrev cost_left : List ℕ → Link → ℕ
cost_left r l = cond (has r l.a && has r l.b) 0 l.cost

-- a wider test leaves no more
fewer : (a b p q : Bool) (x : ℕ) → cond ((a || p) && (b || q)) 0 x ≤ cond (p && q) 0 x
fewer true true true true x = omega arith
fewer true true true false x = omega arith
fewer true true false q x = omega arith
fewer true false true true x = omega arith
fewer true false true false x = omega arith
fewer true false false true x = omega arith
fewer true false false false x = omega arith
fewer false true true true x = omega arith
fewer false true true false x = omega arith
fewer false true false q x = omega arith
fewer false false p q x = omega arith

-- another vertex reached leaves no link more
cost_left-cons : (r : List ℕ) (v : ℕ) (l : Link) → cost_left (v ∷ r) l ≤ cost_left r l
cost_left-cons r v l = fewer (eqb v l.a) (eqb v l.b) (has r l.a) (has r l.b) l.cost

-- a pair between two vertices is these two, in one order or the other
pub between-ends : (pair : ℕ × ℕ) (u v : ℕ) → is_between pair u v ≡ true → ((pair.0 ≡ u) × (pair.1 ≡ v)) ⊎ ((pair.0 ≡ v) × (pair.1 ≡ u))
between-ends pair u v h = grind (arith, nat_tests)

-- the same of a link
pub joins-ends : (l : Link) (u v : ℕ) → joins l u v ≡ true → ((l.a ≡ u) × (l.b ≡ v)) ⊎ ((l.a ≡ v) × (l.b ≡ u))
joins-ends l u v h = between-ends (l.a, l.b) u v h

-- a vertex added is there, and the others still are
pub has-cons_head : (r : List ℕ) (v a : ℕ) → a ≡ v → has (v ∷ r) a ≡ true
has-cons_head r v a e = rw (e, eq-eqb v v refl) refl

-- what was reached still is
pub has-cons_tail : (r : List ℕ) (v a : ℕ) → has r a ≡ true → has (v ∷ r) a ≡ true
has-cons_tail r v a h = or_right (eqb v a) (has r a) h

-- all of x is taken out where the test turns true
taken : (p q a b : Bool) (x : ℕ) → (p && q) ≡ false → a ≡ true → b ≡ true → x + cond (a && b) 0 x ≤ cond (p && q) 0 x
taken p q a b x one after_a after_b = rw (one, after_a, after_b) (omega arith)

-- a link from what is reached to a new vertex is left before and not after
cost_left-joins : (r : List ℕ) (u v : ℕ) (l : Link) → joins l u v ≡ true → has r u ≡ true → has r v ≡ false → l.cost + cost_left (v ∷ r) l ≤ cost_left r l
cost_left-joins r u v l here old new = elim (joins-ends l u v here) [
  | inl e ↦
      let a_old : has r l.a ≡ true = ap (has r) e.0 ∙ old in
      let b_new : has r l.b ≡ false = ap (has r) e.1 ∙ new in
      taken (has r l.a) (has r l.b) (has (v ∷ r) l.a) (has (v ∷ r) l.b) l.cost (rw (a_old, b_new) refl) (has-cons_tail r v l.a a_old) (has-cons_head r v l.b e.1)
  | inr e ↦
      let b_old : has r l.b ≡ true = ap (has r) e.1 ∙ old in
      let a_new : has r l.a ≡ false = ap (has r) e.0 ∙ new in
      taken (has r l.a) (has r l.b) (has (v ∷ r) l.a) (has (v ∷ r) l.b) l.cost (rw a_new refl) (has-cons_head r v l.a e.0) (has-cons_tail r v l.b b_old)
]

-- a vertex more leaves no more of all links, and takes away the one by which it was reached
total-cost_left : (ls : List Link) (r : List ℕ) (v : ℕ) → total (cost_left (v ∷ r)) ls ≤ total (cost_left r) ls
total-cost_left [] r v = omega arith
total-cost_left (l ∷ ls) r v = let here = cost_left-cons r v l in let rest = total-cost_left ls r v in omega arith

-- the link that a new arc uses is taken out of what is left
total-cost_left_link : (ls : List Link) (r : List ℕ) (u v : ℕ) → has r u ≡ true → has r v ≡ false → unwrap_or (link ls u v) 0 + total (cost_left (v ∷ r)) ls ≤ total (cost_left r) ls
total-cost_left_link [] r u v old new = omega arith
total-cost_left_link (l ∷ ls) r u v old new = by_test (joins l u v) refl (total-cost_left_link ls r u v old new)
  where
    by_test : (b : Bool) → joins l u v ≡ b → unwrap_or (link ls u v) 0 + total (cost_left (v ∷ r)) ls ≤ total (cost_left r) ls → unwrap_or (cond b (Some l.cost) (link ls u v)) 0 + (cost_left (v ∷ r) l + total (cost_left (v ∷ r)) ls) ≤ cost_left r l + total (cost_left r) ls
    by_test true is rest = let here = cost_left-joins r u v l is old new in let more = total-cost_left ls r v in omega arith
    by_test false is rest = let here = cost_left-cons r v l in omega arith

-- arcs that grow cost no more than was left before them
total-arc_cost_left : (I : Network) (r : List ℕ) (arcs : List (ℕ × ℕ)) → Grows I r arcs → total (arc_cost I) arcs ≤ total (cost_left r) I.links
total-arc_cost_left I r [] g = omega arith
total-arc_cost_left I r (arc ∷ arcs) g =
    let here = total-cost_left_link I.links r arc.0 arc.1 g.1 g.2 in
    let rest = total-arc_cost_left I (arc.1 ∷ r) arcs g.3 in
    omega arith

-- no more is left than all links cost
total-cost_left_all : (ls : List Link) (r : List ℕ) → total (cost_left r) ls ≤ total (λ l. l.cost) ls
total-cost_left_all [] r = omega arith
total-cost_left_all (l ∷ ls) r = let rest = total-cost_left_all ls r in let here = at_most (has r l.a && has r l.b) l.cost in omega arith
  where
    at_most : (b : Bool) (x : ℕ) → cond b 0 x ≤ x
    at_most true x = omega arith
    at_most false x = omega arith

-- the links of a tree are different, so together they cost no more than all links of the network
pub total-arc_cost : (I : Network) (r : List ℕ) (arcs : List (ℕ × ℕ)) → Grows I r arcs → total (arc_cost I) arcs ≤ total (λ l. l.cost) I.links
total-arc_cost I r arcs g = let left = total-arc_cost_left I r arcs g in let all = total-cost_left_all I.links r in omega arith

-- the link between two vertices is the same in either order
pub link-comm : (ls : List Link) (u v : ℕ) → link ls u v ≡ link ls v u
link-comm [] u v = refl
link-comm (l ∷ ls) u v = rw (or_comm ((l.a == u) && (l.b == v)) ((l.a == v) && (l.b == u)), link-comm ls u v) refl

-- the links that pairs stand for, each at its cost
abbrev link_of : Network → ℕ × ℕ → Link
link_of I pair = record { a = pair.0; b = pair.1; cost = arc_cost I pair }

-- the network of these links alone
abbrev given : Network → List (ℕ × ℕ) → Network
given I pairs = record { n = I.n; links = map (link_of I) pairs; needs = I.needs }

-- there the link of a pair costs what it costs in the network
link-given : (I : Network) (pairs : List (ℕ × ℕ)) (u v : ℕ) → has_pair pairs u v ≡ true → link (map (link_of I) pairs) u v ≡ Some (arc_cost I (u, v))
link-given I [] u v h = cc
link-given I (pair ∷ pairs) u v h = by_test (is_between pair u v) refl h (link-given I pairs u v)
  where
    same_cost : is_between pair u v ≡ true → arc_cost I pair ≡ arc_cost I (u, v)
    same_cost h = elim (between-ends pair u v h) [
      | inl e ↦ ap (λ o. unwrap_or o 0) (ap (λ x. link I.links x pair.1) e.0 ∙ ap (link I.links u) e.1)
      | inr e ↦ ap (λ o. unwrap_or o 0) ((ap (λ x. link I.links x pair.1) e.0 ∙ ap (link I.links v) e.1) ∙ link-comm I.links v u)
    ]

    by_test : (b : Bool) → is_between pair u v ≡ b → (b || has_pair pairs u v) ≡ true → (has_pair pairs u v ≡ true → link (map (link_of I) pairs) u v ≡ Some (arc_cost I (u, v))) → cond b (Some (arc_cost I pair)) (link (map (link_of I) pairs) u v) ≡ Some (arc_cost I (u, v))
    by_test true is h rest = ap Some (same_cost is)
    by_test false is h rest = rest h

-- arcs made of the pairs grow there too, at the same cost
total-arc_cost_given : (I : Network) (pairs : List (ℕ × ℕ)) (r : List ℕ) (arcs : List (ℕ × ℕ)) → Grows I r arcs → AllByRecursion (λ arc. IsTrue (has_pair pairs arc.0 arc.1)) arcs → Grows (given I pairs) r arcs × (total (arc_cost (given I pairs)) arcs ≡ total (arc_cost I) arcs)
total-arc_cost_given I pairs r [] g made = (tt, refl)
total-arc_cost_given I pairs r (arc ∷ arcs) g made =
    let here = link-given I pairs arc.0 arc.1 made.0 in
    let rest = total-arc_cost_given I pairs (arc.1 ∷ r) arcs g.3 made.1 in
    (((rw here refl), g.1, g.2, rest.0), rw (here, rest.1) refl)

-- and the links cost what the pairs do
total-given_links : (I : Network) (pairs : List (ℕ × ℕ)) → total (λ l. l.cost) (map (link_of I) pairs) ≡ total (arc_cost I) pairs
total-given_links I [] = refl
total-given_links I (pair ∷ pairs) = ap (λ x. arc_cost I pair + x) (total-given_links I pairs)

-- arcs that grow and are made of pairs cost no more than the pairs
pub total-arc_cost_made : (I : Network) (pairs : List (ℕ × ℕ)) (r : List ℕ) (arcs : List (ℕ × ℕ)) → Grows I r arcs → All (λ arc. IsTrue (has_pair pairs arc.0 arc.1)) arcs → total (arc_cost I) arcs ≤ total (arc_cost I) pairs
total-arc_cost_made I pairs r arcs g made =
    let given_too = total-arc_cost_given I pairs r arcs g (recursion_from_All _ arcs made) in
    let bound = total-arc_cost (given I pairs) r arcs given_too.0 in
    let same = total-given_links I pairs in
    omega (arith, given_too.1)
