-- The round along all links of a tree, each there and back, and the stops on it.
use Rattle.std.proofs.Common.{◌≡◌, ℕ, ◌+◌, ◌*◌, Bool, true, false, cond, ◌||◌, ◌&&◌, List, [], ◌∷◌, ◌++◌, Option, Some, None, refl, sym, ap, subst, ◌∙◌, arith}
use Rattle.std.specs.Prelude.{◌==◌, IsTrue, IsFalse, IsSome, unwrap_or}
use Rattle.std.proofs.lemmas.Bool.{eqb-true, false≢true, false_from_ne_true}
use Rattle.std.proofs.lemmas.List.{map-append}
use Rattle.st_model.specs.Lists.{has, total}
use Rattle.st_model.specs.Network.{Network, link}
use Rattle.st_model.specs.VertexSet.{AllApart}
use Rattle.st_model.specs.Arborescence.{Grows, arc_cost}
use Rattle.st_model.proofs.Distinct.{has-cons_head, has-cons_tail, link-comm}
use Rattle.st_model.proofs.Members.{has-append}
use Rattle.st_model.proofs.Sums.{total-append}
use Rattle.short_paths.specs.Walk.{IsWalk, stay, on}
use Rattle.short_paths.proofs.Below.{under, paid, apart}
use Rattle.twice_tree.proofs.Gaps.{gap, names}
use Rattle.twice_tree.proofs.Walks.{walks_on}

-- stops, the first of which is so much further away; and what is left after the last one
abbrev pub later_stops : ℕ → List (ℕ × ℕ) → List (ℕ × ℕ)
later_stops x [] = []
later_stops x (stop ∷ stops) = (x + stop.0, stop.1) ∷ stops

abbrev pub later_back : ℕ → List (ℕ × ℕ) → ℕ → ℕ
later_back x [] back = x + back
later_back x (stop ∷ stops) back = back

-- a round: its stops, and the way back from the last one
abbrev pub Round : Type 0
Round = List (ℕ × ℕ) × ℕ

-- one round, and then a second one that is so far away
abbrev pub both : ℕ → Round → Round → Round
both c first second = (first.0 ++ later_stops (first.1 + c) second.0, later_back (first.1 + c) second.0 (second.1 + c))

-- the round from v along all links below it, with a stop at each vertex of a kind
abbrev pub round : Network → (ℕ → Bool) → List (ℕ × ℕ) → ℕ → Round
round I S [] v = (cond (S v) ((0, v) ∷ []) [], 0)
round I S (arc ∷ arcs) v = cond (arc.0 == v) (both (arc_cost I arc) (round I S arcs v) (round I S arcs arc.1)) (round I S arcs v)

-- ---- how long it is

abbrev pub length_of : Round → ℕ
length_of r = total gap r.0 + r.1

later-length : (x : ℕ) (stops : List (ℕ × ℕ)) (back : ℕ) → total gap (later_stops x stops) + later_back x stops back ≡ x + (total gap stops + back)
later-length x [] back = omega arith
later-length x (stop ∷ stops) back = omega arith

both-length : (c : ℕ) (A B : Round) → length_of (both c A B) ≡ length_of A + (length_of B + 2 * c)
both-length c A B =
    let parts = total-append gap A.0 (later_stops (A.1 + c) B.0) in
    let later = later-length (A.1 + c) B.0 (B.1 + c) in
    omega (arith, parts, later)

pub round-length : (I : Network) (S : ℕ → Bool) (arcs : List (ℕ × ℕ)) (v : ℕ) → length_of (round I S arcs v) ≡ 2 * paid I arcs v
round-length I S [] v = at (S v)
  where
    at : (b : Bool) → total gap (cond b ((0, v) ∷ []) []) + 0 ≡ 0
    at true = refl
    at false = refl
round-length I S (arc ∷ arcs) v = at (arc.0 == v) (round-length I S arcs v) (round-length I S arcs arc.1)
  where
    at : (b : Bool) → length_of (round I S arcs v) ≡ 2 * paid I arcs v → length_of (round I S arcs arc.1) ≡ 2 * paid I arcs arc.1
        → length_of (cond b (both (arc_cost I arc) (round I S arcs v) (round I S arcs arc.1)) (round I S arcs v)) ≡ 2 * cond b (paid I arcs v + (arc_cost I arc + paid I arcs arc.1)) (paid I arcs v)
    at true own hung =
        let sum = both-length (arc_cost I arc) (round I S arcs v) (round I S arcs arc.1) in
        omega (arith, own, hung, sum)
    at false own hung = own

-- ---- where it stops

names-later : (x : ℕ) (stops : List (ℕ × ℕ)) → names (later_stops x stops) ≡ names stops
names-later x [] = refl
names-later x (stop ∷ stops) = refl

names-both : (c : ℕ) (A B : Round) → names (both c A B).0 ≡ names A.0 ++ names B.0
names-both c A B = map-append (λ stop. stop.1) A.0 (later_stops (A.1 + c) B.0) ∙ ap (λ xs. names A.0 ++ xs) (names-later (A.1 + c) B.0)

-- at those below v that are of the kind
pub stops_are : (I : Network) (S : ℕ → Bool) (arcs : List (ℕ × ℕ)) (v x : ℕ) → has (names (round I S arcs v).0) x ≡ (has (under arcs v) x && S x)
stops_are I S [] v x = at (S v) (S x) (v == x) refl (λ same. ap S (eqb-true v x same))
  where
    at : (a b c : Bool) → (v == x) ≡ c → (c ≡ true → a ≡ b) → has (names (cond a ((0, v) ∷ []) [])) x ≡ ((c || false) && b)
    at true true true is same = rw is refl
    at true false true is same = absurd (false≢true (sym (same refl)))
    at false true true is same = absurd (false≢true (same refl))
    at false false true is same = refl
    at true b false is same = rw is refl
    at false b false is same = refl
stops_are I S (arc ∷ arcs) v x = at (arc.0 == v) (stops_are I S arcs v x) (stops_are I S arcs arc.1 x)
  where
    either : (a b c : Bool) → ((a && c) || (b && c)) ≡ ((a || b) && c)
    either true b true = refl
    either true true false = refl
    either true false false = refl
    either false b c = refl

    at : (b : Bool) → has (names (round I S arcs v).0) x ≡ (has (under arcs v) x && S x) → has (names (round I S arcs arc.1).0) x ≡ (has (under arcs arc.1) x && S x)
        → has (names (cond b (both (arc_cost I arc) (round I S arcs v) (round I S arcs arc.1)) (round I S arcs v)).0) x ≡ (has (cond b (under arcs v ++ under arcs arc.1) (under arcs v)) x && S x)
    at true own hung =
        rw (names-both (arc_cost I arc) (round I S arcs v) (round I S arcs arc.1), has-append (under arcs v) (under arcs arc.1) x, has-append (names (round I S arcs v).0) (names (round I S arcs arc.1).0) x, own, hung)
        (either (has (under arcs v) x) (has (under arcs arc.1) x) (S x))
    at false own hung = own

-- lists that have nothing in common, each of which has nothing twice, have nothing twice together
AllApart-append : (xs ys : List ℕ) → AllApart xs → AllApart ys → ((x : ℕ) → IsTrue (has xs x) → IsTrue (has ys x) → ⊥) → AllApart (xs ++ ys)
AllApart-append [] ys a b none = b
AllApart-append (x ∷ xs) ys a b none =
    let out : IsFalse (has ys x) = false_from_ne_true (has ys x) (none x (has-cons_head xs x x refl)) in
    (has-append xs ys x ∙ rw (a.0, out) refl, AllApart-append xs ys a.1 b (λ y here there. none y (has-cons_tail xs x y here) there))

-- nowhere twice
pub stops_once : (I : Network) (S : ℕ → Bool) (r : List ℕ) (arcs : List (ℕ × ℕ)) → Grows I r arcs → (v : ℕ) → IsTrue (has r v) → AllApart (names (round I S arcs v).0)
stops_once I S r [] g v among = at (S v)
  where
    at : (b : Bool) → AllApart (names (cond b ((0, v) ∷ []) []))
    at true = (refl, tt)
    at false = tt
stops_once I S r (arc ∷ arcs) g v among = at (arc.0 == v) (stops_once I S (arc.1 ∷ r) arcs g.3)
  where
    old : IsTrue (has (arc.1 ∷ r) v)
    old = has-cons_tail r arc.1 v among

    new : IsTrue (has (arc.1 ∷ r) arc.1)
    new = has-cons_head r arc.1 arc.1 refl

    below : (w x : ℕ) → IsTrue (has (names (round I S arcs w).0) x) → IsTrue (has (under arcs w) x)
    below w x there = first (has (under arcs w) x) (S x) (sym (stops_are I S arcs w x) ∙ there)
      where
        first : (a b : Bool) → (a && b) ≡ true → a ≡ true
        first true b h = refl
        first false b h = absurd (false≢true h)

    at : (b : Bool) → ((w : ℕ) → IsTrue (has (arc.1 ∷ r) w) → AllApart (names (round I S arcs w).0)) → AllApart (names (cond b (both (arc_cost I arc) (round I S arcs v) (round I S arcs arc.1)) (round I S arcs v)).0)
    at true rest = subst AllApart (sym (names-both (arc_cost I arc) (round I S arcs v) (round I S arcs arc.1)))
        (AllApart-append (names (round I S arcs v).0) (names (round I S arcs arc.1).0) (rest v old) (rest arc.1 new)
        (λ x here there. apart I (arc.1 ∷ r) arcs g.3 v arc.1 old new (λ same. false≢true (sym g.2 ∙ subst (λ (w : ℕ). has r w ≡ true) same among)) x (below v x here) (below arc.1 x there)))
    at false rest = rest v old

-- it begins with the vertex itself, where that is of the kind
pub begins : (I : Network) (S : ℕ → Bool) (arcs : List (ℕ × ℕ)) (v : ℕ) → S v ≡ true → (rest : List (ℕ × ℕ)) × ((round I S arcs v).0 ≡ (0, v) ∷ rest)
begins I S [] v kind = ([], ap (λ b. cond b ((0, v) ∷ []) []) kind)
begins I S (arc ∷ arcs) v kind = at (arc.0 == v) (begins I S arcs v kind)
  where
    at : (b : Bool) → ((rest : List (ℕ × ℕ)) × ((round I S arcs v).0 ≡ (0, v) ∷ rest)) → (rest : List (ℕ × ℕ)) × ((cond b (both (arc_cost I arc) (round I S arcs v) (round I S arcs arc.1)) (round I S arcs v)).0 ≡ (0, v) ∷ rest)
    at true (rest, is) = (rest ++ later_stops ((round I S arcs v).1 + arc_cost I arc) (round I S arcs arc.1).0, ap (λ stops. stops ++ later_stops ((round I S arcs v).1 + arc_cost I arc) (round I S arcs arc.1).0) is)
    at false found = found

-- ---- it is a walk from stop to stop

abbrev pub Leads : Network → ℕ → List (ℕ × ℕ) → ℕ → ℕ → Type 0
Leads I p [] back q = IsWalk I.links p q back
Leads I p (stop ∷ stops) back q = IsWalk I.links p stop.1 stop.0 × Leads I stop.1 stops back q

-- one round, a way of c, and another round
goes_on : (I : Network) (p q u z c : ℕ) (stops : List (ℕ × ℕ)) (back : ℕ) (more : List (ℕ × ℕ)) (more_back : ℕ) → Leads I p stops back q → IsWalk I.links q u c → Leads I u more more_back z
    → Leads I p (stops ++ later_stops (back + c) more) (later_back (back + c) more more_back) z
goes_on I p q u z c [] back [] more_back first way second = walks_on I.links p u z (back + c) more_back (walks_on I.links p q u back c first way) second
goes_on I p q u z c [] back (stop ∷ more) more_back first way second = (walks_on I.links p u stop.1 (back + c) stop.0 (walks_on I.links p q u back c first way) second.0, second.1)
goes_on I p q u z c (stop ∷ stops) back more more_back first way second = (first.0, goes_on I stop.1 q u z c stops back more more_back first.1 way second)

-- a round with a way of c at its end
goes_further : (I : Network) (p q z c : ℕ) (stops : List (ℕ × ℕ)) (back : ℕ) → Leads I p stops back q → IsWalk I.links q z c → Leads I p stops (back + c) z
goes_further I p q z c [] back first way = walks_on I.links p q z back c first way
goes_further I p q z c (stop ∷ stops) back first way = (first.0, goes_further I stop.1 q z c stops back first.1 way)

pub round_leads : (I : Network) (S : ℕ → Bool) (r : List ℕ) (arcs : List (ℕ × ℕ)) → Grows I r arcs → (v : ℕ) → Leads I v (round I S arcs v).0 (round I S arcs v).1 v
round_leads I S r [] g v = at (S v)
  where
    at : (b : Bool) → Leads I v (cond b ((0, v) ∷ []) []) 0 v
    at true = (stay, stay)
    at false = stay
round_leads I S r (arc ∷ arcs) g v = at (arc.0 == v) refl (round_leads I S (arc.1 ∷ r) arcs g.3)
  where
    linked : (o : Option ℕ) → IsSome o → o ≡ Some (unwrap_or o 0)
    linked None some = cc
    linked (Some c) some = refl

    there : IsWalk I.links arc.0 arc.1 (arc_cost I arc)
    there = subst (IsWalk I.links arc.0 arc.1) (omega arith) (on stay (linked (link I.links arc.0 arc.1) g.0))

    again : IsWalk I.links arc.1 arc.0 (arc_cost I arc)
    again = subst (IsWalk I.links arc.1 arc.0) (omega arith) (on stay (link-comm I.links arc.1 arc.0 ∙ linked (link I.links arc.0 arc.1) g.0))

    at : (b : Bool) → (arc.0 == v) ≡ b → ((w : ℕ) → Leads I w (round I S arcs w).0 (round I S arcs w).1 w)
        → Leads I v (cond b (both (arc_cost I arc) (round I S arcs v) (round I S arcs arc.1)) (round I S arcs v)).0 (cond b (both (arc_cost I arc) (round I S arcs v) (round I S arcs arc.1)) (round I S arcs v)).1 v
    at true is rest =
        let here : arc.0 ≡ v = eqb-true arc.0 v is in
        let out = subst (λ (w : ℕ). IsWalk I.links w arc.1 (arc_cost I arc)) here there in
        let home = subst (λ (w : ℕ). IsWalk I.links arc.1 w (arc_cost I arc)) here again in
        goes_on I v v arc.1 v (arc_cost I arc) (round I S arcs v).0 (round I S arcs v).1 (round I S arcs arc.1).0 ((round I S arcs arc.1).1 + arc_cost I arc) (rest v) out
        (goes_further I arc.1 arc.1 v (arc_cost I arc) (round I S arcs arc.1).0 (round I S arcs arc.1).1 (rest arc.1) home)
    at false is rest = rest v
