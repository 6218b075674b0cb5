-- The arcs into a vertex, as they are put together of halves.
use Rattle.std.proofs.Common.{◌≡◌, ◌≢◌, ℕ, zero, suc, ◌+◌, ◌-◌, ◌<◌, ◌≤◌, Bool, true, false, ◌&&◌, ◌||◌, not, cond, eqb, List, [], ◌∷◌, ◌++◌, length, get_or, map, filter, Contains, Option, Some, None, inl, inr, refl, sym, ap, ◌∙◌, subst, arith}
use Rattle.std.specs.Prelude.{IsPermutation, if◌then◌else◌, slice_index_or, OnSome, replicate}
use Rattle.std.specs.Option.{is_some}
use Rattle.std.specs.List.{IsDistinct, AllByRecursion}
use Rattle.std.specs.List.Sorted.{IsNonDecreasingBy}
use Rattle.std.proofs.lemmas.Bool.{cases_eq, cases_lt, ne_eqb, eq-eqb, not-true, and_parts, false≢true}
use Rattle.std.proofs.lemmas.List.{get_or-map, length-map, get_or_past, get_or_append_left, get_or_push, get_or-replicate, length-replicate}
use Rattle.std.proofs.lemmas.List.Elements.{All-filter, All-map}
use Rattle.std.proofs.lemmas.List.Sorted.{All-permutation, Contains-permutation, IsPermutation-sym}
use Rattle.std.proofs.lemmas.Map.Keys.{IsDistinct-IsPermutation, IsDistinct-from_apart, IsDistinct-cons, IsDistinct-head, IsDistinct-tail, apart_from_distinct}
use Rattle.st_model.specs.declared.branch.Branch.{Branch}
use Rattle.st_model.specs.Ground.{ground}
use Rattle.st_model.specs.Lists.{has}
use Rattle.st_model.specs.Made.{has_pair}
use Rattle.st_model.specs.Branch.{open_link}
use Rattle.st_model.specs.Network.{Network, IsInstance, IsVertex, link, is_required, pays}
use Rattle.st_model.proofs.Distinct.{link-comm}
use Rattle.st_model.proofs.Links.{linked_in_range}
use Rattle.st_model.proofs.Pairs.{open_unbarred, open_parts, open-comm}
use Rattle.graph_store.specs.declared.half.Half.{Half}
use Rattle.graph_store.specs.Graph.{Graph, IsGraph, is_in}
use Rattle.graph_store.specs.Neighbours.{AreNeighbours}
use Rattle.bidirected_form.specs.declared.arc.Arc.{Arc}
use Rattle.bidirected_form.specs.declared.kind.VertexKind.{VertexKind}
use Rattle.bidirected_form.specs.declared.kind.VertexKind.TheVariants.{Outside, Must, May}
use Rattle.bidirected_form.specs.Bidirected.{is_open, kind_in, arc_cost}
use Rattle.bidirected_form.specs.Building.{is_off, is_out, is_arc, cost_by, arc_of}
use Rattle.bidirected_form.specs.Digraph.{IsDigraph, AreArcsInto, left_from}
use Rattle.bidirected_form.specs.Rows.{row_of, rows_from, IsLaidOut}
use Rattle.bidirected_form.proofs.RowLemmas.{tail_of, rows_push, length-rows_from}
use Rattle.bidirected_form.proofs.Lookups.{left_from-at, left_from-found}

-- the halves of v that are arcs
abbrev pub kept : Branch → List VertexKind → ℕ → List Half → List Half
kept B kinds v halves = filter (is_arc B kinds v) halves

-- a filter keeps what is there and passes
filter_keeps : {X : Type 0} (p : X → Bool) (xs : List X) (x : X) → Contains xs x → p x ≡ true → Contains (filter p xs) x
filter_keeps {X} p xs x h passes = go xs h.0 h.1 h.2
  where
    go : (xs : List X) (k : ℕ) → k < length xs → get_or xs k x ≡ x → Contains (filter p xs) x
    go [] k below is = absurd (omega arith)
    go (y ∷ ys) zero below is = let test : p y ≡ true = ap p is ∙ passes in rw test (zero, omega arith, is)
    go (y ∷ ys) (suc k) below is = by_case (p y) (go ys k (omega arith) is)
      where
        by_case : (b : Bool) → Contains (filter p ys) x → Contains (cond b (y ∷ filter p ys) (filter p ys)) x
        by_case true rest = (suc rest.0, omega (arith, rest.1), rest.2)
        by_case false rest = rest

-- and nothing else
filter_kept : {X : Type 0} (p : X → Bool) (xs : List X) (x : X) → Contains (filter p xs) x → Contains xs x × (p x ≡ true)
filter_kept {X} p [] x h = absurd (omega (arith, h.1))
filter_kept {X} p (y ∷ ys) x h = by_case (filter_kept p ys x) (p y) refl h
  where
    later : Contains ys x × (p x ≡ true) → Contains (y ∷ ys) x × (p x ≡ true)
    later r = ((suc r.0.0, omega (arith, r.0.1), r.0.2), r.1)

    at : (rest : Contains (filter p ys) x → Contains ys x × (p x ≡ true)) (k : ℕ) → p y ≡ true → k < length (y ∷ filter p ys) → get_or (y ∷ filter p ys) k x ≡ x → Contains (y ∷ ys) x × (p x ≡ true)
    at rest zero e below is = ((zero, omega arith, is), ap p (sym is) ∙ e)
    at rest (suc k) e below is = later (rest (k, omega arith, is))

    by_case : (rest : Contains (filter p ys) x → Contains ys x × (p x ≡ true)) (b : Bool) → p y ≡ b → Contains (cond b (y ∷ filter p ys) (filter p ys)) x → Contains (y ∷ ys) x × (p x ≡ true)
    by_case rest true e c = at rest c.0 e c.1 c.2
    by_case rest false e c = later (rest c)

-- each half is an arc, and the other way round
arcs_contain : (halves : List Half) (u r : ℕ) → Contains halves (record { to = u; cost = r }) → Contains (map arc_of halves) (record { tail = u; remaining = r })
arcs_contain halves u r h = (h.0, omega (arith, h.1, length-map halves arc_of), get_or-map arc_of halves h.0 (record { to = u; cost = r }) (record { tail = u; remaining = r }) h.1 ∙ ap arc_of h.2)

halves_contain : (halves : List Half) (u r : ℕ) → Contains (map arc_of halves) (record { tail = u; remaining = r }) → Contains halves (record { to = u; cost = r })
halves_contain halves u r h =
    let below : h.0 < length halves = omega (arith, h.1, length-map halves arc_of) in
    let d : Half = record { to = u; cost = r } in
    let same : arc_of (get_or halves h.0 d) ≡ record { tail = u; remaining = r } = sym (get_or-map arc_of halves h.0 d (record { tail = u; remaining = r }) below) ∙ h.2 in
    (h.0, below, λ i. record { to = (same i).tail; cost = (same i).remaining })

option_same : (a b : Option ℕ) → ((x : ℕ) → a ≡ Some x → b ≡ Some x) → ((x : ℕ) → b ≡ Some x → a ≡ Some x) → a ≡ b
option_same None None to from = refl
option_same None (Some x) to from = from x refl
option_same (Some x) b to from = sym (to x refl)

all_filter : {X : Type 0} (p : X → Bool) (P : X → Type 0) (xs : List X) → AllByRecursion P xs → AllByRecursion P (filter p xs)
all_filter p P [] h = tt
all_filter {X} p P (x ∷ xs) h = by_case (p x) (all_filter p P xs h.1)
  where
    by_case : (b : Bool) → AllByRecursion P (filter p xs) → AllByRecursion P (cond b (x ∷ filter p xs) (filter p xs))
    by_case true rest = (h.0, rest)
    by_case false rest = rest

-- a filter keeps halves apart
distinct_filter : (p : Half → Bool) (halves : List Half) → IsDistinct (λ (x y : Half). eqb x.to y.to) halves → IsDistinct (λ (x y : Half). eqb x.to y.to) (filter p halves)
unfolding IsDistinct
distinct_filter p [] h = tt
distinct_filter p (x ∷ xs) h = by_case (p x) (distinct_filter p xs h.1)
  where
    by_case : (b : Bool) → IsDistinct (λ (x y : Half). eqb x.to y.to) (filter p xs) → IsDistinct (λ (x y : Half). eqb x.to y.to) (cond b (x ∷ filter p xs) (filter p xs))
    by_case true rest = IsDistinct-cons _ x (filter p xs) (all_filter p (λ (y : Half). eqb x.to y.to ≡ false) xs (IsDistinct-head _ x xs h)) rest
    by_case false rest = rest

all_arcs : (t : ℕ) (halves : List Half) → AllByRecursion (λ (y : Half). eqb t y.to ≡ false) halves → AllByRecursion (λ (y : Arc). eqb t y.tail ≡ false) (map arc_of halves)
all_arcs t [] h = tt
all_arcs t (x ∷ xs) h = (h.0, all_arcs t xs h.1)

-- and so are their arcs
distinct_map : (halves : List Half) → IsDistinct (λ (x y : Half). eqb x.to y.to) halves → IsDistinct (λ (x y : Arc). eqb x.tail y.tail) (map arc_of halves)
unfolding IsDistinct
distinct_map [] h = tt
distinct_map (x ∷ xs) h = IsDistinct-cons _ (arc_of x) (map arc_of xs) (all_arcs x.to xs (IsDistinct-head _ x xs h)) (distinct_map xs (IsDistinct-tail _ x xs h))

-- what is known of the arcs that come of the halves of v, in any order
pub arcs_of_halves : (I : Network) (B : Branch) (kinds : List VertexKind) (v : ℕ) (halves : List Half) (row : List Arc) → AreNeighbours I v halves → IsPermutation (map arc_of (kept B kinds v halves)) row → IsNonDecreasingBy tail_of row → AreArcsInto I.n v row
arcs_of_halves I B kinds v halves row near moved up = record {
  ascending = λ i j d before below. strict i j d before below;
  tails = All-permutation (λ (a : Arc). IsVertex I.n a.tail × (a.tail ≢ v)) _ _ moved (All-map (λ (a : Arc). IsVertex I.n a.tail × (a.tail ≢ v)) arc_of (kept B kinds v halves) (All-filter (is_arc B kinds v) (λ h. IsVertex I.n h.to × (h.to ≢ v)) halves near.others));
}
  where
    same : Arc → Arc → Bool
    same a b = eqb a.tail b.tail

    flips : (x y : Arc) → eqb x.tail y.tail ≡ eqb y.tail x.tail
    flips x y = elim (cases_eq x.tail y.tail) [
      | inl e ↦ eq-eqb x.tail y.tail e ∙ sym (eq-eqb y.tail x.tail (sym e))
      | inr ne ↦ ne_eqb x.tail y.tail ne ∙ sym (ne_eqb y.tail x.tail (λ e. ne (sym e)))
    ]

    apart_halves : IsDistinct (λ (x y : Half). eqb x.to y.to) halves
    apart_halves = IsDistinct-from_apart (λ (x y : Half). eqb x.to y.to) halves (λ i j d before below. ne_eqb _ _ (near.once i j d before below))

    apart : IsDistinct (λ (x y : Arc). eqb x.tail y.tail) row
    apart = IsDistinct-IsPermutation (λ (x y : Arc). eqb x.tail y.tail) flips _ _ moved (distinct_map (kept B kinds v halves) (distinct_filter (is_arc B kinds v) halves apart_halves))

    strict : (i j : ℕ) (d : Arc) → i < j → j < length row → (get_or row i d).tail < (get_or row j d).tail
    strict i j d before below =
        let rise = up i j d (omega (arith, before)) below in
        let differ = apart_from_distinct (λ (x y : Arc). eqb x.tail y.tail) row i j d apart before below in
        elim (cases_eq (get_or row i d).tail (get_or row j d).tail) [
          | inl e ↦ absurd (false≢true (sym differ ∙ eq-eqb _ _ e))
          | inr ne ↦ omega (arith, ne, rise)
        ]

-- what remains of them is what their links cost
pub costs_of_halves : (g : Graph) (B : Branch) (kinds : List VertexKind) (v : ℕ) (halves : List Half) (row : List Arc) → AreNeighbours g.network v halves → IsPermutation (map arc_of (kept B kinds v halves)) row → AreArcsInto g.network.n v row → is_out kinds v ≡ false → (u : ℕ) → left_from row u ≡ cost_by g B kinds u v
costs_of_halves g B kinds v halves row near moved are here u = option_same (left_from row u) (cost_by g B kinds u v) to from
  where
    costs : (b a : Bool) (r : ℕ) (o : Option ℕ) → a ≡ false → (if not b && not a then o else None) ≡ Some r → (b ≡ false) × (o ≡ Some r)
    costs true a r o e h = absurd (let clash : ⊥ = cc in clash)
    costs false true r o e h = absurd (false≢true (sym e))
    costs false false r o e h = (refl, h)

    to : (r : ℕ) → left_from row u ≡ Some r → cost_by g B kinds u v ≡ Some r
    to r h =
        let found = left_from-found row u r h in
        let in_row : Contains row (record { tail = u; remaining = r }) = (found.0, found.1, found.2 (record { tail = u; remaining = r })) in
        let in_kept = halves_contain (kept B kinds v halves) u r (Contains-permutation row (map arc_of (kept B kinds v halves)) (record { tail = u; remaining = r }) (IsPermutation-sym (map arc_of (kept B kinds v halves)) row moved) in_row) in
        let both = filter_kept (is_arc B kinds v) halves (record { to = u; cost = r }) in_kept in
        let parts = and_parts (not (is_out kinds u)) (not (has_pair B.barred u v)) both.1 in
        let linked = (near.linked u r).0 both.0 in
        rw (not-true (is_out kinds u) parts.0, here, not-true (has_pair B.barred u v) parts.1) (link-comm g.network.links u v ∙ linked)

    from : (r : ℕ) → cost_by g B kinds u v ≡ Some r → left_from row u ≡ Some r
    from r h =
        let both = costs (is_out kinds u) (is_out kinds v) r (open_link g.network B u v) here h in
        let free = (open_parts (ground g.network) B u v (ap is_some both.1)).0 in
        let cost : link g.network.links u v ≡ Some r = sym (open_unbarred (ground g.network) B u v free) ∙ both.1 in
        let there = (near.linked u r).1 (link-comm g.network.links v u ∙ cost) in
        let test : (not (is_out kinds u) && not (has_pair B.barred u v)) ≡ true = rw (both.0, free) refl in
        let in_row = Contains-permutation (map arc_of (kept B kinds v halves)) row (record { tail = u; remaining = r }) moved (arcs_contain (kept B kinds v halves) u r (filter_keeps (is_arc B kinds v) halves (record { to = u; cost = r }) there test)) in
        let at = left_from-at row in_row.0 (record { tail = u; remaining = r }) are.ascending in_row.1 in
        subst (λ (a : Arc). left_from row a.tail ≡ Some a.remaining) in_row.2 at

-- an outside vertex has no arcs
pub no_arcs : (n v : ℕ) → AreArcsInto n v []
no_arcs n v = record { ascending = λ i j d before below. absurd (omega (arith, below)); tails = λ k d below. absurd (omega (arith, below)) }

pub no_costs : (g : Graph) (B : Branch) (kinds : List VertexKind) (u v : ℕ) → is_out kinds v ≡ true → None ≡ cost_by g B kinds u v
no_costs g B kinds u v out = rw out (by_case (is_out kinds u))
  where
    by_case : (b : Bool) → ◌≡◌ {A = Option ℕ} None (if not b && false then open_link g.network B u v else None)
    by_case true = refl
    by_case false = refl

-- no link ends in what isn't a vertex
pub unlinked : (I : Network) (u v : ℕ) → IsInstance I → (IsVertex I.n v → ⊥) → link I.links u v ≡ None
unlinked I u v h out = by_case (link I.links u v) refl (linked_in_range I.n I.links u v h.ends)
  where
    by_case : (o : Option ℕ) → link I.links u v ≡ o → OnSome o (IsVertex I.n u × IsVertex I.n v) → link I.links u v ≡ None
    by_case None e h = e
    by_case (Some x) e h = absurd (out h.1)

pub no_vertex_costs : (g : Graph) (B : Branch) (kinds : List VertexKind) (u v : ℕ) → IsInstance g.network → (IsVertex g.network.n v → ⊥) → None ≡ cost_by g B kinds u v
no_vertex_costs g B kinds u v h out = rw (unlinked g.network u v h out) (by_case (not (is_out kinds u) && not (is_out kinds v)) (has_pair B.barred u v))
  where
    by_case : (b c : Bool) → ◌≡◌ {A = Option ℕ} None (if b then (if c then None else None) else None)
    by_case true true = refl
    by_case true false = refl
    by_case false c = refl

-- a vertex that isn't outside is open
out_is : (g : Graph) (B : Branch) (v : ℕ) → is_off (kind_in g B v) ≡ not (is_open g B v)
out_is g B v = by_case (is_open g B v) (is_required g.network v) (has B.inside v)
  where
    by_case : (a b c : Bool) → is_off (if a then (if b || c then Must else May (pays g.network v)) else Outside) ≡ not a
    by_case true true c = refl
    by_case true false true = refl
    by_case true false false = refl
    by_case false b c = refl

-- the costs by kinds are those by the branch
pub cost_is : (g : Graph) (B : Branch) (kinds : List VertexKind) → ((v : ℕ) → slice_index_or kinds v Outside ≡ kind_in g B v) → (u v : ℕ) → cost_by g B kinds u v ≡ arc_cost g B u v
cost_is g B kinds same u v = rw (ap is_off (same u) ∙ out_is g B u, ap is_off (same v) ∙ out_is g B v) (by_case (is_open g B u) (is_open g B v))
  where
    by_case : (a b : Bool) → (if not (not a) && not (not b) then open_link g.network B u v else None) ≡ (if a && b then open_link g.network B u v else None)
    by_case true true = refl
    by_case true false = refl
    by_case false true = refl
    by_case false false = refl

-- a vertex out of range is outside
pub kind_past : (g : Graph) (B : Branch) (v : ℕ) → IsGraph g → g.network.n < v → Outside ≡ kind_in g B v
kind_past g B v h past = rw absent refl
  where
    gone : slice_index_or g.present (v - 1) false ≡ false
    gone = get_or_past g.present (v - 1) false (omega (arith, h.here, past))

    absent : is_in g v ≡ false
    absent = by_case (eqb v 0) gone
      where
        by_case : (b : Bool) → slice_index_or g.present (v - 1) false ≡ false → (if b then false else slice_index_or g.present (v - 1) false) ≡ false
        by_case true e = refl
        by_case false e = e

-- what is put together is a root with kinds and arcs
pub built_digraph : (g : Graph) (B : Branch) (kinds : List VertexKind) (rows : List (List Arc)) (root : ℕ) → slice_index_or kinds 0 Outside ≡ Outside → IsGraph g → IsVertex g.network.n root → length kinds ≡ g.network.n + 1 → length rows ≡ g.network.n + 1 → ((v : ℕ) → AreArcsInto g.network.n v (row_of rows v)) → ((u v : ℕ) → left_from (row_of rows v) u ≡ cost_by g B kinds u v) → IsDigraph (record { root = root; n = g.network.n; kinds = kinds; arcs = rows })
built_digraph g B kinds rows root nobody h in_range long many arcs costs = record {
  few_vertices = h.instance.few_vertices;
  root = in_range;
  kinds = long;
  rows = many;
  arcs = arcs;
  both = λ u v. ap is_some (costs u v ∙ turned u v ∙ sym (costs v u));
  nobody = nobody;
  outside = λ u v off. costs u v ∙ sym (no_costs g B kinds u v (ap is_off off));
}
  where
    turned : (u v : ℕ) → cost_by g B kinds u v ≡ cost_by g B kinds v u
    turned u v = by_case (is_out kinds u) (is_out kinds v) (open_link g.network B u v) (open_link g.network B v u) (open-comm (ground g.network) B (link-comm g.network.links) u v)
      where
        by_case : (a b : Bool) (x y : Option ℕ) → x ≡ y → (if not a && not b then x else None) ≡ (if not b && not a then y else None)
        by_case true true x y same = refl
        by_case true false x y same = refl
        by_case false true x y same = refl
        by_case false false x y same = same

-- what holds of each element up to a place, and of one more
pub pushed_all : {X : Type 0} (P : ℕ → X → Type 0) (xs : List X) (y d : X) (k : ℕ) → length xs ≡ k + 1 → ((v : ℕ) → v ≤ k → P v (get_or xs v d)) → P (k + 1) y → (v : ℕ) → v ≤ k + 1 → P v (get_or (xs ++ y ∷ []) v d)
pushed_all {X} P xs y d k long h last v within =
    elim (cases_lt v (k + 1)) [
      | inl before ↦ subst (P v) (sym (get_or_append_left xs (y ∷ []) d v (omega (arith, long, before)))) (h v (omega (arith, before)))
      | inr after ↦ let at : v ≡ k + 1 = omega (arith, within, after) in subst (λ (w : ℕ). P w (get_or (xs ++ y ∷ []) w d)) (sym at) (subst (P (k + 1)) (sym (get_or_push xs y d (k + 1) long)) last)
    ]

-- the rows with one more
pub rows_next : (P : ℕ → List Arc → Type 0) (es : List ℕ) (arcs row : List Arc) (k : ℕ) → IsLaidOut 0 es (length arcs) → length es ≡ k + 1 → ((v : ℕ) → v ≤ k → P v (row_of (rows_from 0 es arcs) v)) → P (k + 1) row → (v : ℕ) → v ≤ k + 1 → P v (row_of (rows_from 0 (es ++ length (arcs ++ row) ∷ []) (arcs ++ row)) v)
rows_next P es arcs row k laid long h last = rw (rows_push 0 es arcs row laid) (pushed_all P (rows_from 0 es arcs) row [] k (length-rows_from 0 es arcs ∙ long) h last)

-- all rows, also those past the end
pub rows_all : (P : ℕ → List Arc → Type 0) (rows : List (List Arc)) (n k : ℕ) → length rows ≡ k + 1 → k ≡ n → ((v : ℕ) → v ≤ k → P v (row_of rows v)) → ((v : ℕ) → n < v → P v []) → (v : ℕ) → P v (row_of rows v)
rows_all P rows n k long same h past v =
    elim (cases_lt n v) [
      | inl after ↦ subst (P v) (sym (get_or_past rows v [] (omega (arith, long, same, after)))) (past v after)
      | inr before ↦ h v (omega (arith, same, before))
    ]

pub none_marked : (n v : ℕ) → get_or (replicate n false) v false ≡ false
none_marked n v =
    elim (cases_lt v n) [
      | inl below ↦ get_or-replicate n v false false below
      | inr past ↦ get_or_past (replicate n false) v false (omega (arith, past, length-replicate n false))
    ]
