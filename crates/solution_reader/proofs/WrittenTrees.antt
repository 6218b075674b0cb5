-- The vertices and pairs that are written of a tree are a claim of it.
use Rattle.std.proofs.Common.{◌≡◌, ℕ, ◌+◌, ◌*◌, ◌^◌, ◌<◌, ◌≤◌, min, max, Bool, true, false, List, [], ◌∷◌, ◌++◌, length, get_or, take, map, Option, Some, inl, inr, refl, sym, ap, subst, ◌∙◌, arith}
use Rattle.std.specs.Prelude.{◌==◌, ◌||◌, IsTrue, IsFalse, IfSome, All, Contains}
use Rattle.std.specs.List.{AllByRecursion}
use Rattle.std.specs.List.Sorted.{IsPermutation}
use Rattle.std.proofs.lemmas.Bool.{or_cases, or_left, or_right, false_from_ne_true, false≢true, eqb-true}
use Rattle.std.proofs.lemmas.List.{get_or_default, length-map}
use Rattle.std.proofs.Math.Seq.{take-length}
use Rattle.std.proofs.lemmas.List.Elements.{recursion_from_All, All-from_recursion, All-contains}
use Rattle.std.proofs.lemmas.List.Sorted.{length_permutation}
use Rattle.st_model.specs.declared.tree.Tree.{Tree}
use Rattle.st_model.specs.Arborescence.{GrowsIn, IsArborescenceIn, IsTree, IsTreeIn, arc_cost, arc_cost_in, cost, cost_in, reached, reached_from}
use Rattle.st_model.specs.Ground.{Ground, ground}
use Rattle.st_model.specs.Lists.{has, total}
use Rattle.st_model.proofs.Costs.{links_fit, missed_le_prizes}
use Rattle.st_model.specs.Made.{is_between, has_pair}
use Rattle.st_model.specs.Network.{Network, IsInstance, IsVertex}
use Rattle.st_model.specs.Regrown.{unordered}
use Rattle.st_model.proofs.Booleans.{same_test}
use Rattle.st_model.proofs.Distinct.{has-cons_head, has-cons_tail}
use Rattle.st_model.proofs.Members.{has-append, has-one}
use Rattle.st_model.proofs.Marked.{AllApart-few, AllApart-from_increasing, has_at}
use Rattle.st_model.proofs.Reaching.{tree-vertex}
use Rattle.st_model.proofs.ThinGrowth.{has-reached_from}
use Rattle.arborescence.specs.DiNetwork.{DiNetwork, IsDiNetwork, di_ground}
use Rattle.arborescence.specs.Problem.{Problem, IsProblem, ground_of}
use Rattle.arborescence.specs.Problem as kind
use Rattle.arborescence.proofs.DiTrees.{away_between, grown_in}
use Rattle.arborescence.proofs.DiWeights.{costs_arcs, first_arcs_cost}
use Rattle.amounts.specs.Laws.{unit}
use Rattle.dimacs_writer.specs.Solution.{AreVertices, AreEdgesIn, ends_written}
use Rattle.solution_reader.specs.Claim.{Claim, IsClaimOf, ends_of}
use Rattle.solution_reader.specs.Stated.{IsClaimedTree}
use Rattle.solution_reader.specs.Written.{WrittenIsRead, WrittenIsReadIn}
use Rattle.solution_reader.proofs.EdgesOnce.{not_again, between-from_unordered, between-self}
use Rattle.solution_reader.proofs.Lengths.{length-reached, apart-reached, same_length}
use Rattle.solution_reader.proofs.OneOrder.{AreApart, front_or_further, is_nowhere, one_order, sorted_apart}
use Rattle.solution_reader.proofs.WrittenLines.{AreFew, whole_said, written_reads}
use Rattle.solution_reader.proofs.TreeFits.{all_to}

-- ---- pairs as they are written

-- a pair with the lower end first stays as it is
unordered_again : (x : ℕ × ℕ) → unordered (unordered x) ≡ unordered x
unordered_again x =
    let low : min (min x.0 x.1) (max x.0 x.1) ≡ min x.0 x.1 = omega arith in
    let high : max (min x.0 x.1) (max x.0 x.1) ≡ max x.0 x.1 = omega arith in
    ap (λ (w : ℕ). made w (max (min x.0 x.1) (max x.0 x.1))) low ∙ ap (λ (w : ℕ). made (min x.0 x.1) w) high
  where
    made : ℕ → ℕ → ℕ × ℕ
    made a b = (a, b)

all_again : (xs : List (ℕ × ℕ)) → AllByRecursion (λ e. unordered e ≡ e) (map unordered xs)
all_again [] = tt
all_again (x ∷ xs) = (unordered_again x, all_again xs)

all_stay : (es : List (ℕ × ℕ)) → AllByRecursion (λ e. unordered e ≡ e) es → map unordered es ≡ es
all_stay [] low = refl
all_stay (e ∷ es) low = ap (λ (w : ℕ × ℕ). w ∷ map unordered es) low.0 ∙ ap (λ (ws : List (ℕ × ℕ)). e ∷ ws) (all_stay es low.1)

-- what holds of pairs in either direction holds of them as they are written
all_written : (directed : Bool) (P : ℕ → ℕ → Type 0) → ((a b : ℕ) → P a b → P b a) → (es : List (ℕ × ℕ)) → AllByRecursion (λ e. P e.0 e.1) es → AllByRecursion (λ e. P e.0 e.1) (map (ends_written directed) es)
all_written false P turned es h = all_to P turned es h
all_written true P turned [] h = tt
all_written true P turned (e ∷ es) h = (h.0, all_written true P turned es h.1)

-- arcs that are written alike are between the same vertices
written_between : (directed : Bool) (x y : ℕ × ℕ) → ends_written directed x ≡ ends_written directed y → is_between x y.0 y.1 ≡ true
written_between true x y same = ap (λ (w : ℕ × ℕ). is_between x w.0 w.1) (sym same) ∙ between-self x
written_between false x y same =
    sym (between-from_unordered x y.0 y.1) ∙ (ap (λ (w : ℕ × ℕ). is_between w y.0 y.1) same ∙ (between-from_unordered y y.0 y.1 ∙ between-self y))

pair_there : (directed : Bool) (arcs : List (ℕ × ℕ)) (x : ℕ × ℕ) → Contains (map (ends_written directed) arcs) (ends_written directed x) → has_pair arcs x.0 x.1 ≡ true
pair_there directed [] x there = absurd (is_nowhere (ends_written directed x) there)
pair_there directed (arc ∷ arcs) x there = elim (front_or_further (ends_written directed arc) (map (ends_written directed) arcs) (ends_written directed x) there) [
  | inl same ↦ or_left (is_between arc x.0 x.1) (has_pair arcs x.0 x.1) (written_between directed arc x same)
  | inr other ↦ or_right (is_between arc x.0 x.1) (has_pair arcs x.0 x.1) (pair_there directed arcs x other)
]

-- arcs that grow are written once each
written_apart : (directed : Bool) (G : Ground) (r : List ℕ) (arcs : List (ℕ × ℕ)) → GrowsIn G r arcs → AreApart (map (ends_written directed) arcs)
written_apart directed G r [] g = tt
written_apart directed G r (arc ∷ arcs) g = (
  λ there. false≢true (sym (not_again G (arc.1 ∷ r) arcs arc.0 arc.1 g.3 (has-cons_tail r arc.1 arc.0 g.1) (has-cons_head r arc.1 arc.1 refl)) ∙ pair_there directed arcs arc there),
  written_apart directed G (arc.1 ∷ r) arcs g.3,
)

-- an element of a list stands in it
element : (es : List (ℕ × ℕ)) (k : ℕ) (d : ℕ × ℕ) → k < length es → Contains es (get_or es k d)
element es k d within = (k, within, get_or_default es k (get_or es k d) d within)

-- the ends of arcs that grow are reached
arcs_reached : (G : Ground) (r : List ℕ) (arcs : List (ℕ × ℕ)) → GrowsIn G r arcs → AllByRecursion (λ arc. IsTrue (has (reached_from r arcs) arc.0) × IsTrue (has (reached_from r arcs) arc.1)) arcs
arcs_reached G r [] g = tt
arcs_reached G r (arc ∷ arcs) g = (
  (has-reached_from (arc.1 ∷ r) arcs arc.0 (has-cons_tail r arc.1 arc.0 g.1), has-reached_from (arc.1 ∷ r) arcs arc.1 (has-cons_head r arc.1 arc.1 refl)),
  arcs_reached G (arc.1 ∷ r) arcs g.3,
)

ends_among : (vs : List ℕ) (es : List (ℕ × ℕ)) (v : ℕ) → AllByRecursion (λ e. IsTrue (has vs e.0) × IsTrue (has vs e.1)) es → IsTrue (has (ends_of es) v) → IsTrue (has vs v)
ends_among vs [] v h there = absurd (false≢true there)
ends_among vs (e ∷ es) v h there = elim (or_cases (e.0 == v) ((e.1 == v) || has (ends_of es) v) there) [
  | inl first ↦ subst (λ (w : ℕ). IsTrue (has vs w)) (eqb-true e.0 v first) h.0.0
  | inr later ↦ elim (or_cases (e.1 == v) (has (ends_of es) v) later) [
    | inl second ↦ subst (λ (w : ℕ). IsTrue (has vs w)) (eqb-true e.1 v second) h.0.1
    | inr other ↦ ends_among vs es v h.1 other
  ]
]

-- of pairs with lower ends first, the written ones are a claimed tree's
claimed_tree : (I : Network) (t : Tree) (claim : Claim) → IsTree I t → AreVertices t claim.vertices → AreEdgesIn false t claim.edges → IsPermutation claim.edges (map unordered t.arcs) → IsClaimedTree I claim t
claimed_tree I t claim tree vertices edges each = record { tree = tree; vertices = vertices.same; edges = subst (λ (xs : List (ℕ × ℕ)). IsPermutation xs (map unordered t.arcs)) (sym (all_stay claim.edges low)) each }
  where
    low : AllByRecursion (λ e. unordered e ≡ e) claim.edges
    low = recursion_from_All (λ e. unordered e ≡ e) claim.edges (λ k d within.
        All-contains (λ e. unordered e ≡ e) (map unordered t.arcs) (get_or claim.edges k d) (All-from_recursion (λ e. unordered e ≡ e) (map unordered t.arcs) (all_again t.arcs)) ((edges.same (get_or claim.edges k d)).0 (element claim.edges k d within)))

module _ (directed : Bool) (G : Ground) (t : Tree) (vs : List ℕ) (es : List (ℕ × ℕ)) (limit : G.n ≤ 1000000) (grows : GrowsIn G (t.start ∷ []) t.arcs) (vertex : (v : ℕ) → IsTrue (has (reached t) v) → IsVertex G.n v)
    (vertices : AreVertices t vs) (edges : AreEdgesIn directed t es) where
  pub each_once : IsPermutation es (map (ends_written directed) t.arcs)
  each_once = one_order (map (ends_written directed) t.arcs) es (written_apart directed G (t.start ∷ []) t.arcs grows) (sorted_apart es edges.ascending) edges.same

  ends_there : AllByRecursion (λ e. IsTrue (has vs e.0) × IsTrue (has vs e.1)) es
  ends_there = recursion_from_All (λ e. IsTrue (has vs e.0) × IsTrue (has vs e.1)) es (λ k d within.
      let P : ℕ × ℕ → Type 0 = λ e. IsTrue (has (reached t) e.0) × IsTrue (has (reached t) e.1) in
      let e = get_or es k d in
      let all = all_written directed (λ u v. IsTrue (has (reached t) u) × IsTrue (has (reached t) v)) (λ u v h. (h.1, h.0)) t.arcs (arcs_reached G (t.start ∷ []) t.arcs grows) in
      let in_tree = All-contains P (map (ends_written directed) t.arcs) e (All-from_recursion P (map (ends_written directed) t.arcs) all) ((edges.same e).0 (element es k d within)) in
      (vertices.same e.0 ∙ in_tree.0, vertices.same e.1 ∙ in_tree.1))

  pub claim_of : (p : ℕ) → IsClaimOf (whole_said p vs es) (record { vertices = vs; edges = es; primal = Some p })
  claim_of p = record {
    ascending = vertices.ascending;
    same = λ v. same_test (has vs v) (has (vs ++ ends_of es) v)
        (λ h. has-append vs (ends_of es) v ∙ or_left (has vs v) (has (ends_of es) v) h)
        (λ h. elim (or_cases (has vs v) (has (ends_of es) v) (sym (has-append vs (ends_of es) v) ∙ h)) [
          | inl here ↦ here
          | inr there ↦ ends_among vs es v ends_there there
        ]);
    edges = refl;
    primal = refl;
  }

  a_vertex : (v : ℕ) → IsTrue (has vs v) → IsVertex G.n v
  a_vertex v there = vertex v (sym (vertices.same v) ∙ there)

  none_zero : IsFalse (has vs 0)
  none_zero = false_from_ne_true (has vs 0) (λ there. let low = (a_vertex 0 there).0 in omega arith)

  few_vertices : length vs ≤ G.n
  few_vertices =
      let below : All (λ v. v < G.n + 1) (0 ∷ vs) = All-from_recursion (λ v. v < G.n + 1) (0 ∷ vs) (
        omega arith,
        recursion_from_All (λ v. v < G.n + 1) vs (λ k d within. let high = (a_vertex
            (get_or vs k d) (has_at vs k d within)).1 in omega arith),
      ) in
      let few = AllApart-few (0 ∷ vs) (G.n + 1) (none_zero, AllApart-from_increasing vs vertices.ascending) below in
      omega (arith, few)

  pub are_few : AreFew vs es
  are_few =
      let long = same_length vs (reached t) vertices.ascending (apart-reached G (t.start ∷ []) t.arcs grows (refl, tt)) vertices.same in
      let arcs = length-reached (t.start ∷ []) t.arcs in
      let as_many = length_permutation es (map (ends_written directed) t.arcs) each_once in
      let mapped = length-map t.arcs (ends_written directed) in
      let some = few_vertices in
      record {
        vertices = omega (arith, limit, some);
        edges = omega (arith, limit, some, long, arcs, as_many, mapped);
        small = recursion_from_All (λ v. v ≤ 1000000) vs (λ k d within. let high = (a_vertex (get_or vs k d) (has_at vs k d within)).1 in omega (arith, high, limit));
        small_ends = small_pairs es ends_there;
      }
    where
      small_pairs : (fs : List (ℕ × ℕ)) → AllByRecursion (λ e. IsTrue (has vs e.0) × IsTrue (has vs e.1)) fs → AllByRecursion (λ e. (e.0 ≤ 1000000) × (e.1 ≤ 1000000)) fs
      small_pairs [] h = tt
      small_pairs (f ∷ fs) h =
          let first = (a_vertex f.0 h.0.0).1 in
          let second = (a_vertex f.1 h.0.1).1 in
          ((omega (arith, limit, first), omega (arith, limit, second)), small_pairs fs h.1)

-- ---- problems of both kinds

few_in : (P : Problem) → IsProblem P → (ground_of P).n ≤ 1000000
few_in (kind.plain I) instance = instance.few_vertices
few_in (kind.directed D) net = net.few_vertices

-- what a tree reaches are vertices
vertex_in : (P : Problem) (t : Tree) → IsProblem P → IsArborescenceIn (ground_of P) t → (v : ℕ) → IsTrue (has (reached t) v) → IsVertex (ground_of P).n v
vertex_in (kind.plain I) t instance tree v there = tree-vertex I t v instance tree there
vertex_in (kind.directed D) t net tree v there = grown_in (di_ground D) (IsVertex D.n) (t.start ∷ []) t.arcs tree.grows (λ w h. subst (λ (x : ℕ). IsVertex D.n x) (has-one t.start w h) tree.start) (λ u w some held pair before. (away_between D u w net some).1) v there

-- a tree costs less than 2^63
small_cost : (P : Problem) (t : Tree) → IsProblem P → IsTreeIn (ground_of P) t → cost_in (ground_of P) t < 2 ^ 64
small_cost (kind.plain I) t instance tree =
    let fit = links_fit I (t.start ∷ []) t.arcs (length t.arcs) instance tree.arborescence.grows in
    let all : total (arc_cost I) (take (length t.arcs) t.arcs) ≡ total (arc_cost I) t.arcs = ap (total (arc_cost I)) (take-length t.arcs) in
    let missed_few = missed_le_prizes I (reached t) in
    omega (arith, fit, all, missed_few)
small_cost (kind.directed D) t net tree =
    let fit = first_arcs_cost D (t.start ∷ []) t.arcs (length t.arcs) net tree.arborescence.grows in
    let all : total (arc_cost_in (di_ground D)) (take (length t.arcs) t.arcs) ≡ total (arc_cost_in (di_ground D)) t.arcs = ap (total (arc_cost_in (di_ground D))) (take-length t.arcs) in
    omega (arith, fit, all, costs_arcs D t, net.amount)

pub written_is_read_in : WrittenIsReadIn
written_is_read_in directed P t name workers dual scale bytes problem tree few low s =
    let G = ground_of P in
    let p = cost_in G t * unit scale in
    let limit = few_in P problem in
    let grows = tree.arborescence.grows in
    let vertex = vertex_in P t problem tree.arborescence in
    let are = are_few directed G t s.vertices s.edges limit grows vertex s.vertices_of_tree s.edges_of_tree in
    let read = written_reads name workers dual (cost_in G t) scale s.vertices s.edges few low (small_cost P t problem tree) are in
    record {
      claim = record { vertices = s.vertices; edges = s.edges; primal = Some p };
      reads = (whole_said p s.vertices s.edges, rw s.text read, claim_of directed G t s.vertices s.edges limit grows vertex s.vertices_of_tree s.edges_of_tree p);
      vertices = s.vertices_of_tree;
      edges = s.edges_of_tree;
      each = each_once directed G t s.vertices s.edges limit grows vertex s.vertices_of_tree s.edges_of_tree;
      primal_said = refl;
    }

pub written_is_read_lem : WrittenIsRead
written_is_read_lem I t name workers dual scale bytes instance tree few low s =
    let w = written_is_read_in false (kind.plain I) t name workers dual scale bytes instance tree few low s in
    let p = cost I t * unit scale in
    let claimed = claimed_tree I t w.claim tree w.vertices w.edges w.each in
    record {
      claim = w.claim;
      reads = w.reads;
      claimed = claimed;
      primal = w.primal_said;
      stated = record { tree = t; claimed = claimed; cost = refl; primal = subst (λ (o : Option ℕ). IfSome o (λ q. q ≡ p)) (sym w.primal_said) refl };
    }
