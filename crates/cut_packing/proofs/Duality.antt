-- Weak duality: a packing that fits a branch, and a proof tree of such packings, bound each tree of the branch.
use Rattle.std.proofs.Common.{◌≡◌, ℕ, ◌+◌, ◌-◌, ◌≤◌, max, Bool, true, false, cond, not, List, [], ◌∷◌, Option, Some, None, inl, inr, refl, sym, ap, ◌∙◌, arith}
use Rattle.std.specs.Prelude.{◌==◌, IsTrue, IsFalse, IsSome, IfSome, if◌then◌else◌, MatchOption, unwrap_or}
use Rattle.std.specs.List.{AllByRecursion}
use Rattle.std.proofs.lemmas.Bool.{or_left, or_right, and_parts, eqb-true, eq-eqb, cases_Bool, both_ways, false_from_ne_true, false≢true}
use Rattle.std.proofs.lemmas.Bool.Decides.{nat_tests}
use Rattle.std.proofs.lemmas.List.Elements.{recursion_from_All, All-weaker}
use Rattle.st_model.specs.declared.branch.Branch.{Branch}
use Rattle.st_model.specs.declared.split_at.SplitAt.TheVariants.{Vertex, Link}
use Rattle.st_model.specs.declared.tree.Tree.{Tree}
use Rattle.st_model.specs.Ground.{Ground, IsUndirected}
use Rattle.st_model.specs.Lists.{has, total, sum_to}
use Rattle.st_model.specs.Network.{IsVertex}
use Rattle.st_model.specs.Arborescence.{GrowsIn, IsTreeIn, reached, reached_from, missed_in, arc_cost_in, cost_in}
use Rattle.st_model.specs.Branch.{Belongs, is_present, certain_in, with_inside, with_outside, with_must, with_barred}
use Rattle.st_model.specs.Made.{is_between, has_pair, AreApart}
use Rattle.cut_packing.specs.declared.cut.Cut.{Cut}
use Rattle.cut_packing.specs.declared.packing.Packing.{Packing}
use Rattle.cut_packing.specs.Packing.{load, named, nameable_by, IsRootIn, CutFitsIn, FitsIn, outside_pays_in, spare_in}
use Rattle.cut_packing.specs.ProofTree.{close, split}
use Rattle.cut_packing.specs.Laws.{WeakDuality, ProofTreesBound}
use Rattle.st_model.proofs.Branches.{certain_reached}
use Rattle.st_model.proofs.Distinct.{between-ends}
use Rattle.st_model.proofs.Halves.{belongs_inside, belongs_outside, belongs_must, belongs_barred}
use Rattle.st_model.proofs.Marked.{at_member}
use Rattle.st_model.proofs.Pairs.{own, has_pair-comm, AreApart-push}
use Rattle.st_model.proofs.Sums.{sum_to-add, sum_to_le}
use Rattle.st_model.proofs.ThinGrowth.{has-reached_from}
use Rattle.cut_packing.proofs.Sums.{total-split, sum_to-one}
use Rattle.cut_packing.proofs.Charged.{charged}
use Rattle.cut_packing.proofs.Turned.{top, turned, entered}
use Rattle.cut_packing.proofs.Uses.{used_once, spared}

-- what a link bears is at most its cost
priced : (price : Option ℕ) (x : ℕ) → IsSome price → IfSome price (λ p. x ≤ p) → x ≤ unwrap_or price 0
priced None x some h = absurd (false≢true some)
priced (Some p) x some h = h

-- the values of the cuts whose vertex isn't reached are named at the vertices that aren't
unreached_named : (n : ℕ) (reach : ℕ → Bool) (cuts : List Cut) → AllByRecursion (λ c. IsVertex n c.q) cuts → total (λ c. if reach c.q then 0 else c.y) cuts ≤ sum_to (λ v. if reach v then 0 else named cuts v) n
unreached_named n reach [] h = omega arith
unreached_named n reach (c ∷ cuts) h =
    let here : ℕ → ℕ = λ v. if reach v then 0 else (if c.q == v then c.y else 0) in
    let later : ℕ → ℕ = λ v. if reach v then 0 else named cuts v in
    let at_q = one (reach c.q) (c.q == c.q) (eq-eqb c.q c.q refl) in
    omega (arith, at_q, sum_to-one here n c.q h.0, unreached_named n reach cuts h.1, sum_to-add here later n, sum_to_le (λ v. here v + later v) (λ v. if reach v then 0 else named (c ∷ cuts) v) n (λ v low high. both (reach v) (if c.q == v then c.y else 0) (named cuts v)))
  where
    one : (r same : Bool) → IsTrue same → cond r 0 c.y ≤ cond r 0 (cond same c.y 0)
    one true same e = omega arith
    one false true e = omega arith
    one false false e = absurd (false≢true e)

    both : (r : Bool) (x y : ℕ) → cond r 0 x + cond r 0 y ≤ cond r 0 (x + y)
    both true x y = omega arith
    both false x y = omega arith

-- of the arcs of a tree that grows, each has something that holds of arcs between reached vertices
pub each_arc : (G : Ground) (K : ℕ → ℕ → Type 0) (R : List ℕ) (arcs : List (ℕ × ℕ)) → GrowsIn G R arcs → ((u v : ℕ) → IsSome (G.price u v) → IsTrue (has (reached_from R arcs) u) → IsTrue (has (reached_from R arcs) v) → IsTrue (has_pair arcs u v) → K u v) → AllByRecursion (λ a. K a.0 a.1) arcs
each_arc G K R [] g h = tt
each_arc G K R ((u, v) ∷ arcs) g h = (
  h u v g.0 (has-reached_from (v ∷ R) arcs u (or_right (v == u) _ g.1)) (has-reached_from (v ∷ R) arcs v (or_left (v == v) _ (eq-eqb v v refl))) (or_left _ _ (own (u, v))),
  each_arc G K (v ∷ R) arcs g.3 (λ a b some tail head there. h a b some tail head (or_right _ _ there)),
)

-- an arc with what is laid on it either way, and what is spared of its link, are within its cost
abbrev Bears : Ground → (ℕ × ℕ → ℕ) → (ℕ × ℕ → ℕ) → ℕ → ℕ → Type 0
Bears G f h u v = (f (u, v) + h (u, v) ≤ arc_cost_in G (u, v)) × (f (v, u) + h (u, v) ≤ arc_cost_in G (u, v))

turned_pays : (G : Ground) (f h : ℕ × ℕ → ℕ) (r : ℕ) (arcs : List (ℕ × ℕ)) → AllByRecursion (λ a. Bears G f h a.0 a.1) arcs → total f (turned arcs r) + total h arcs ≤ total (arc_cost_in G) arcs
turned_pays G f h r [] all = omega arith
turned_pays G f h r ((u, v) ∷ arcs) all = step (v == top arcs r) (turned_pays G f h r arcs all.1)
  where
    step : (b : Bool) → total f (turned arcs r) + total h arcs ≤ total (arc_cost_in G) arcs → (f (cond b (v, u) (u, v)) + total f (turned arcs r)) + (h (u, v) + total h arcs) ≤ arc_cost_in G (u, v) + total (arc_cost_in G) arcs
    step true rest = let here = all.0.1 in omega arith
    step false rest = let here = all.0.0 in omega arith

-- where each arc between reached vertices bears at most its price, the turned tree bears at most what the tree costs
pub turned_bears : (G : Ground) (f : ℕ × ℕ → ℕ) (r : ℕ) (R : List ℕ) (arcs : List (ℕ × ℕ)) → IsUndirected G → GrowsIn G R arcs → ((u v : ℕ) → IsTrue (has (reached_from R arcs) u) → IsTrue (has (reached_from R arcs) v) → IfSome (G.price u v) (λ price. f (u, v) ≤ price)) → total f (turned arcs r) ≤ total (arc_cost_in G) arcs
turned_bears G f r R arcs undirected g h =
    let pays = turned_pays G f (λ _. 0) r arcs (each_arc G (Bears G f (λ _. 0)) R arcs g (λ u v some tail head there.
    let forth = priced (G.price u v) (f (u, v)) some (h u v tail head) in
    let back = priced (G.price u v) (f (v, u)) some (rw (undirected v u) at (h v u head tail)) in
    (omega (arith, forth), omega (arith, back)))) in
    omega (arith, pays)

pub reached_present : (B : Branch) (t : Tree) (v : ℕ) → Belongs B t → IsTrue (has (reached t) v) → IsTrue (is_present B v)
reached_present B t v belongs r =
    elim (cases_Bool (has B.outside v)) [
      | inl out ↦ absurd (both_ways (has (reached t) v) (belongs.reaches.outside v out) r)
      | inr present ↦ ap not present
    ]

-- what is counted of an arc: what its link costs beyond the greater load, where it is to be used
abbrev counted : Ground → List Cut → List (ℕ × ℕ) → ℕ × ℕ → ℕ
counted G cuts must a = if has_pair must a.0 a.1 then spare_in G cuts a else 0

spare_same : (G : Ground) (cuts : List Cut) → IsUndirected G → (m a : ℕ × ℕ) → IsTrue (is_between m a.0 a.1) → spare_in G cuts m ≡ spare_in G cuts a
spare_same G cuts undirected m a h = elim (between-ends m a.0 a.1 h) [
  | inl e ↦ rw (e.0, e.1) refl
  | inr e ↦ rw (e.0, e.1, undirected a.1 a.0) (ap (λ k. arc_cost_in G a - k) (max-comm (load cuts (a.1, a.0)) (load cuts a)))
]
  where
    max-comm : (x y : ℕ) → max x y ≡ max y x
    max-comm x y = grind (arith, nat_tests)

-- what a link of the tree bears in one direction
pub bears_one : (G : Ground) (B : Branch) (P : Packing) (u v : ℕ) → FitsIn G B P → IsTrue (is_present B u) → IsTrue (is_present B v) → IsSome (G.price u v) → IsFalse (has_pair B.barred u v) → load P.cuts (u, v) ≤ arc_cost_in G (u, v)
bears_one G B P u v fits tail head some free = priced (G.price u v) (load P.cuts (u, v)) some (unbarred (has_pair B.barred u v) free (fits.arcs u v tail head))
  where
    unbarred : (b : Bool) → IsFalse b → IfSome (cond b None (G.price u v)) (λ price. load P.cuts (u, v) ≤ price) → IfSome (G.price u v) (λ price. load P.cuts (u, v) ≤ price)
    unbarred true f h = absurd (false≢true (sym f))
    unbarred false f h = h

pub not_barred : (B : Branch) (t : Tree) (u v : ℕ) → Belongs B t → IsTrue (has_pair t.arcs u v) → IsFalse (has_pair B.barred u v)
not_barred B t u v belongs there = false_from_ne_true (has_pair B.barred u v) (λ barred. both_ways (has_pair t.arcs u v) (belongs.uses.barred u v barred) there)

bears : (G : Ground) (B : Branch) (P : Packing) (t : Tree) → IsUndirected G → FitsIn G B P → IsTreeIn G t → Belongs B t → AllByRecursion (λ a. Bears G (load P.cuts) (counted G P.cuts B.must) a.0 a.1) t.arcs
bears G B P t undirected fits tree belongs = each_arc G (Bears G (load P.cuts) (counted G P.cuts B.must)) (t.start ∷ []) t.arcs tree.arborescence.grows (λ u v some tail head there.
    let free = not_barred B t u v belongs there in
    let u_in = reached_present B t u belongs tail in
    let v_in = reached_present B t v belongs head in
    let forth = bears_one G B P u v fits u_in v_in some free in
    let back : load P.cuts (v, u) ≤ arc_cost_in G (u, v) = rw (undirected u v) (bears_one G B P v u fits v_in u_in (rw (undirected v u) some) (has_pair-comm B.barred v u ∙ free)) in
    both (has_pair B.must u v) (load P.cuts (u, v)) (load P.cuts (v, u)) (arc_cost_in G (u, v)) forth back)
  where
    both : (b : Bool) (x y c : ℕ) → x ≤ c → y ≤ c → (x + cond b (c - max x y) 0 ≤ c) × (y + cond b (c - max x y) 0 ≤ c)
    both true x y c low high = spared x y c low high
    both false x y c low high = (omega arith, omega arith)

must_used : (B : Branch) (t : Tree) (ms : List (ℕ × ℕ)) → ((u v : ℕ) → IsTrue (has_pair ms u v) → IsTrue (has_pair t.arcs u v)) → AllByRecursion (λ m. IsTrue (has_pair t.arcs m.0 m.1)) ms
must_used B t [] h = tt
must_used B t (m ∷ ms) h = (h m.0 m.1 (or_left _ _ (own m)), must_used B t ms (λ u v there. h u v (or_right _ _ there)))

-- the cuts whose vertex the tree reaches, and what is spared of the links that it has to use, are paid for by its links
links_pay : (G : Ground) (B : Branch) (P : Packing) (t : Tree) → IsUndirected G → AreApart B.must → FitsIn G B P → IsTreeIn G t → Belongs B t → total (λ c. if has (reached t) c.q then c.y else 0) P.cuts + total (spare_in G P.cuts) B.must ≤ total (arc_cost_in G) t.arcs
links_pay G B P t undirected apart fits tree belongs = by_root P.root fits.root
  where
    used : total (spare_in G P.cuts) B.must ≤ total (counted G P.cuts B.must) t.arcs
    used = used_once (spare_in G P.cuts) t.arcs B.must (spare_same G P.cuts undirected) apart (must_used B t B.must belongs.uses.must)

    pays_at : (r : ℕ) → total (load P.cuts) (turned t.arcs r) + total (counted G P.cuts B.must) t.arcs ≤ total (arc_cost_in G) t.arcs
    pays_at r = turned_pays G (load P.cuts) (counted G P.cuts B.must) r t.arcs (bears G B P t undirected fits tree belongs)

    by_root : (root : Option ℕ) → MatchOption root (P.cuts ≡ []) (IsRootIn G B P.cuts) → total (λ c. if has (reached t) c.q then c.y else 0) P.cuts + total (spare_in G P.cuts) B.must ≤ total (arc_cost_in G) t.arcs
    by_root None none =
        let no_cut : total (λ c. if has (reached t) c.q then c.y else 0) P.cuts ≡ 0 = rw none refl in
        let all = pays_at 0 in
        omega (arith, no_cut, used, all)
    by_root (Some r) root =
        let r_reached = certain_reached G B t r tree belongs.reaches root.vertex root.certain in
        let entries = charged (has (reached t)) (turned t.arcs r) P.cuts (recursion_from_All _ P.cuts (λ k d below. λ q_reached. entered G _ t.start r _ t.arcs tree.arborescence.grows r_reached (root.apart k d below) q_reached (fits.cuts k d below).member)) in
        let all = pays_at r in
        omega (arith, entries, used, all)

-- the vertex that a cut names is in range
pub named_vertex : (G : Ground) (B : Branch) (c : Cut) → CutFitsIn G B c → IsVertex G.n c.q
named_vertex G B c fits = at_member (IsVertex G.n) c.set c.q (recursion_from_All _ c.set fits.in_range) fits.member

-- who may be named isn't outside
named_present : (root : Option ℕ) (G : Ground) (B : Branch) (q : ℕ) → IsTrue (nameable_by root G B q) → IsTrue (is_present B q)
named_present None G B q h = h
named_present (Some r) G B q h = (and_parts (is_present B q) (certain_in G B q) h).0

outside_unnamed : (B : Branch) (v : ℕ) (cuts : List Cut) → IsTrue (has B.outside v) → AllByRecursion (λ c. IsTrue (is_present B c.q)) cuts → named cuts v ≡ 0
outside_unnamed B v [] out h = refl
outside_unnamed B v (c ∷ cuts) out h = step (c.q == v) refl (outside_unnamed B v cuts out h.1)
  where
    step : (b : Bool) → (c.q == v) ≡ b → named cuts v ≡ 0 → cond b c.y 0 + named cuts v ≡ 0
    step true same rest = absurd (false≢true (rw (eqb-true c.q v same, out) at h.0))
    step false other rest = omega (arith, rest)

prize_pays : (G : Ground) (B : Branch) (P : Packing) (t : Tree) (v : ℕ) → FitsIn G B P → IsTreeIn G t → Belongs B t → IsVertex G.n v → (if has (reached t) v then 0 else named P.cuts v) + outside_pays_in G B v ≤ missed_in G (reached t) v
prize_pays G B P t v fits tree belongs in_range = step (has (reached t) v) (has B.outside v) refl refl
  where
    step : (r o : Bool) → has (reached t) v ≡ r → has B.outside v ≡ o → cond r 0 (named P.cuts v) + cond o (G.pays v) 0 ≤ cond r 0 (G.pays v)
    step true true r o = absurd (both_ways (has (reached t) v) (belongs.reaches.outside v o) r)
    step true false r o = omega arith
    step false true r o =
        let none = outside_unnamed B v P.cuts o (recursion_from_All _ P.cuts (All-weaker (CutFitsIn G B) _ (λ c fit. named_present G.root G B c.q fit.present) P.cuts fits.cuts)) in
        omega (arith, none)
    step false false r o =
        let free : IsFalse (certain_in G B v) = false_from_ne_true (certain_in G B v) (λ certain. both_ways (has (reached t) v) r (certain_reached G B t v tree belongs.reaches in_range certain)) in
        omega (arith, fits.prizes v in_range free)

-- where links pay for the cuts that are reached and for something more, the whole tree pays for all cuts, the outside and that
pub whole_pays : (G : Ground) (B : Branch) (P : Packing) (t : Tree) (more : ℕ) → FitsIn G B P → IsTreeIn G t → Belongs B t → total (λ c. if has (reached t) c.q then c.y else 0) P.cuts + more ≤ total (arc_cost_in G) t.arcs → (sum_to (outside_pays_in G B) G.n + total (λ c. c.y) P.cuts) + more ≤ cost_in G t
whole_pays G B P t more fits tree belongs links =
    let reach : ℕ → Bool = has (reached t) in
    let unreached = unreached_named G.n reach P.cuts (recursion_from_All _ P.cuts (All-weaker (CutFitsIn G B) (λ c. IsVertex G.n c.q) (named_vertex G B) P.cuts fits.cuts)) in
    let here : ℕ → ℕ = λ v. if reach v then 0 else named P.cuts v in
    let prizes = sum_to_le (λ v. here v + outside_pays_in G B v) (missed_in G (reached t)) G.n (λ v low high. prize_pays G B P t v fits tree belongs (low, high)) in
    omega (arith, links, unreached, prizes, sum_to-add here (outside_pays_in G B) G.n, total-split (λ c. reach c.q) (λ c. c.y) P.cuts)

pub weak_duality_lem : WeakDuality
weak_duality_lem G B P t undirected apart fits tree belongs = whole_pays G B P t (total (spare_in G P.cuts) B.must) fits tree belongs (links_pay G B P t undirected apart fits tree belongs)

-- what a proof tree proves of a branch is at most what each tree of the branch costs
pub proof_tree_bounds_lem : ProofTreesBound
proof_tree_bounds_lem G B x (close P) t undirected apart closes tree belongs = omega (arith, closes.weighs, weak_duality_lem G B P t undirected apart closes.fits tree belongs)
proof_tree_bounds_lem G B x (split (Vertex v) inside outside) t undirected apart proves tree belongs =
    elim (cases_Bool (has (reached t) v)) [
      | inl r ↦ proof_tree_bounds_lem G (with_inside B v) x inside t undirected apart proves.1 tree ((belongs_inside B t v).1 (belongs, r))
      | inr r ↦ proof_tree_bounds_lem G (with_outside B v) x outside t undirected apart proves.2 tree ((belongs_outside B t v).1 (belongs, r))
    ]
proof_tree_bounds_lem G B x (split (Link a b) used unused) t undirected apart proves tree belongs =
    elim (cases_Bool (has_pair t.arcs a b)) [
      | inl r ↦ proof_tree_bounds_lem G (with_must B a b) x used t undirected (AreApart-push B.must (a, b) apart proves.0.no_must) proves.1 tree ((belongs_must G B t a b tree.arborescence).1 (belongs, r))
      | inr r ↦ proof_tree_bounds_lem G (with_barred B a b) x unused t undirected apart proves.2 tree ((belongs_barred B t a b).1 (belongs, r))
    ]
