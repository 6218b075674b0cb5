-- What is known of a tree where links lead no further.
use Rattle.std.proofs.Common.{◌≡◌, ℕ, ◌≤◌, Bool, true, false, inl, inr, List, [], ◌∷◌, Option, IsSome, refl, sym, ap, subst, ◌∙◌, arith}
use Rattle.std.specs.Prelude.{IsTrue, IsFalse}
use Rattle.std.proofs.Math.Bool.{or_comm}
use Rattle.std.proofs.lemmas.Bool.{or_cases, false≢true, false_from_ne_true}
use Rattle.st_model.specs.declared.branch.Branch.{Branch}
use Rattle.st_model.specs.declared.tree.Tree.{Tree}
use Rattle.st_model.specs.Arborescence.{IsArborescence, IsTree, reached, cost}
use Rattle.st_model.specs.Ground.{ground}
use Rattle.st_model.specs.Branch.{IsBranch, IsVertexSet, ReachesAsTold, is_certain, NoneIsCertain}
use Rattle.st_model.specs.Laws.{LoneStartsMissTheRest}
use Rattle.st_model.specs.Lists.{has}
use Rattle.st_model.specs.Network.{Network, IsInstance, IsVertex, link, is_required, pays}
use Rattle.st_model.specs.Wall.{IsWall}
use Rattle.st_model.proofs.Distinct.{link-comm, has-cons_head}
use Rattle.st_model.proofs.Booleans.{same_test}
use Rattle.st_model.proofs.Branches.{IsVertexSet-member, certain_reached}
use Rattle.st_model.proofs.Members.{has-one}
use Rattle.st_model.proofs.Reaching.{one_side}
use Rattle.st_model.proofs.ThinGrowth.{has-reached_from, linked-vertices}
use Rattle.graph_store.specs.Graph.{Graph, IsGraph, is_in}
use Rattle.graph_store.proofs.PutLinks.{in_range}
use Rattle.tree_heuristic.specs.declared.spread.Spread.{Spread}
use Rattle.tree_heuristic.specs.Reaching.{IsTreeOf, ReachesPresent}
use Rattle.tree_heuristic.specs.Spreading.{MayJoin, IsSpread, IsClosed}

-- a test that holds is not refused
pub clash : {b : Bool} → b ≡ true → b ≡ false → ⊥
clash t f = false≢true (sym f ∙ t)

-- each required vertex is certain, and each that is inside
pub certain_inside : (I : Network) (B : Branch) (v : ℕ) → IsTrue (has B.inside v) → IsTrue (is_certain I B v)
certain_inside I B v h = rw (h, or_comm (is_required I v) true) refl

pub certain_required : (I : Network) (B : Branch) (v : ℕ) → IsTrue (is_required I v) → IsTrue (is_certain I B v)
certain_required I B v h = rw h refl

-- the tree that was grown
pub spread_arborescence : (g : Graph) (out : List ℕ) (s : Spread) (t : Tree) → IsGraph g → IsSpread g out s → t.start ≡ s.start → t.arcs ≡ s.arcs.items → IsArborescence g.network t
spread_arborescence g out s t graph is start arcs = record {
  start = rw start (in_range g s.start graph (is.only_joining s.start (is.same s.start ∙ has-reached_from (s.start ∷ []) s.arcs.items s.start (has-cons_head [] s.start s.start refl))).present);
  grows = rw (start, arcs) is.grows;
}

spread_reached : (g : Graph) (out : List ℕ) (s : Spread) (t : Tree) (v : ℕ) → IsSpread g out s → t.start ≡ s.start → t.arcs ≡ s.arcs.items → has (reached t) v ≡ has s.reached.members v
spread_reached g out s t v is start arcs = rw (start, arcs) (sym (is.same v))

pub spread_tree : (g : Graph) (B : Branch) (out : List ℕ) (s : Spread) (t : Tree) → IsGraph g → IsSpread g out s → t.start ≡ s.start → t.arcs ≡ s.arcs.items → ((v : ℕ) → IsVertex g.network.n v → IsTrue (is_certain g.network B v) → IsTrue (has s.reached.members v)) → IsTree g.network t
spread_tree g B out s t graph is start arcs all = record {
  arborescence = spread_arborescence g out s t graph is start arcs;
  required = λ v vertex h. spread_reached g out s t v is start arcs ∙ all v vertex (certain_required g.network B v h);
}

-- a tree that reaches only what may join, and all that is inside, reaches what the branch says
joining_reaches : (g : Graph) (B : Branch) (out : List ℕ) (t : Tree) → IsGraph g → IsBranch g.network B → ((v : ℕ) → IsVertex g.network.n v → has out v ≡ has B.outside v) → ((v : ℕ) → IsTrue (has (reached t) v) → MayJoin g out v) → ((v : ℕ) → IsVertex g.network.n v → IsTrue (is_certain g.network B v) → IsTrue (has (reached t) v)) → ReachesAsTold B t
joining_reaches g B out t graph branch same only_joining all = record {
  inside = λ v h. all v (IsVertexSet-member g.network.n B.inside v branch.inside h) (certain_inside g.network B v h);
  outside = λ v h. false_from_ne_true (has (reached t) v) (λ there. let here = only_joining v there in clash h (sym (same v (in_range g v graph here.present)) ∙ here.inside));
}

-- so it is a tree that reaches what the branch says
pub spread_tree_of : (g : Graph) (B : Branch) (out : List ℕ) (s : Spread) (t : Tree) → IsGraph g → IsBranch g.network B → ((v : ℕ) → IsVertex g.network.n v → has out v ≡ has B.outside v) → IsSpread g out s → t.start ≡ s.start → t.arcs ≡ s.arcs.items
    → ((v : ℕ) → IsVertex g.network.n v → IsTrue (is_certain g.network B v) → IsTrue (has s.reached.members v)) → IsTreeOf g B t
spread_tree_of g B out s t graph branch outside is start arcs all = record {
  tree = spread_tree g B out s t graph is start arcs all;
  reaches = joining_reaches g B out t graph branch outside only_joining (λ v vertex h. same v ∙ all v vertex h);
  present = λ v h. (only_joining v h).present;
}
  where
    same : (v : ℕ) → has (reached t) v ≡ has s.reached.members v
    same v = spread_reached g out s t v is start arcs

    only_joining : (v : ℕ) → IsTrue (has (reached t) v) → MayJoin g out v
    only_joining v h = is.only_joining v (sym (same v) ∙ h)

-- no tree of vertices that may join reaches one of such a set and one that isn't of it
pub no_tree_across : (g : Graph) (B : Branch) (out R : List ℕ) (c d : ℕ) → IsGraph g → ((v : ℕ) → IsVertex g.network.n v → has out v ≡ has B.outside v) → IsClosed g.network out R R → IsVertex g.network.n c → IsTrue (is_certain g.network B c) → IsTrue (has R c) → IsVertex g.network.n d → IsTrue (is_certain g.network B d) → IsFalse (has R d) → (t : Tree) → IsTree g.network t → ReachesAsTold B t → ⊥
no_tree_across g B out R c d graph outside closed c_vertex c_certain c_in d_vertex d_certain d_out t tree reaches =
    let all = one_side g.network (has R) (has R t.start) (t.start ∷ []) t.arcs same tree.arborescence.grows (λ w h. ap (has R) (sym (has-one t.start w h))) in
    let c_is = all c (certain_reached (ground g.network) B t c tree reaches c_vertex c_certain) in
    let d_is = all d (certain_reached (ground g.network) B t d tree reaches d_vertex d_certain) in
    clash c_in (c_is ∙ (sym d_is ∙ d_out))
  where
    off : (v : ℕ) → IsTrue (has (reached t) v) → IsVertex g.network.n v → IsFalse (has out v)
    off v h vertex = outside v vertex ∙ false_from_ne_true (has B.outside v) (λ o. clash h (reaches.outside v o))

    same : (u v : ℕ) → IsTrue (has (reached t) u) → IsTrue (has (reached t) v) → IsSome (link g.network.links u v) → has R u ≡ has R v
    same u v hu hv linked =
        let vertices = linked-vertices g.network u v graph.instance linked in
        same_test (has R u) (has R v) (λ h. closed u v h linked (off v hv vertices.1)) (λ h. closed v u h (subst (λ (o : Option ℕ). IsSome o) (link-comm g.network.links u v) linked) (off u hu vertices.0))

-- and such a set is a wall where nothing is outside
pub is_wall : (I : Network) (R wall : List ℕ) (c d : ℕ) → IsInstance I → IsClosed I [] R R → IsVertexSet I.n wall → ((v : ℕ) → IsVertex I.n v → has wall v ≡ has R v) → IsVertex I.n c → IsTrue (is_required I c) → IsTrue (has R c) → IsVertex I.n d → IsTrue (is_required I d) → IsFalse (has R d) → IsWall I wall
is_wall I R wall c d instance closed set same c_vertex c_required c_in d_vertex d_required d_out = record {
  in_range = set.in_range;
  inside = (c, c_vertex, c_required, same c c_vertex ∙ c_in);
  outside = (d, d_vertex, d_required, same d d_vertex ∙ d_out);
  uncrossed = λ u v linked.
      let vertices = linked-vertices I u v instance linked in
      same u vertices.0 ∙ (same_test (has R u) (has R v) (λ h. closed u v h linked refl) (λ h. closed v u h (subst (λ (o : Option ℕ). IsSome o) (link-comm I.links u v) linked) refl) ∙ sym (same v vertices.1));
}

-- a vertex alone is a tree where no vertex is required
pub first_alone : (I : Network) → IsInstance I → ((v : ℕ) → IsVertex I.n v → IsTrue (is_required I v) → ⊥) → IsTree I (record { start = 1; arcs = [] })
first_alone I instance free = record {
  arborescence = record { start = (omega arith, instance.some_vertex); grows = tt };
  required = λ v vertex h. absurd (free v vertex h);
}

-- a vertex alone that may join reaches what a branch says that holds no vertex for certain
alone_reaches : (g : Graph) (B : Branch) (out : List ℕ) (v : ℕ) → IsBranch g.network B → ((w : ℕ) → IsVertex g.network.n w → has out w ≡ has B.outside w) → NoneIsCertain g.network B → IsVertex g.network.n v → MayJoin g out v → ReachesAsTold B (record { start = v; arcs = [] })
alone_reaches g B out v branch same free vertex here = record {
  inside = λ w h. absurd (clash (certain_inside g.network B w h) (free w (IsVertexSet-member g.network.n B.inside w branch.inside h)));
  outside = λ w h. false_from_ne_true (has (v ∷ []) w) (λ there. clash (subst (λ x. IsTrue (has B.outside x)) (sym (has-one v w there)) h) (sym (same v vertex) ∙ here.inside));
}

-- so it is a tree that reaches what the branch says
pub alone_tree : (g : Graph) (B : Branch) (out : List ℕ) (v : ℕ) → IsGraph g → IsBranch g.network B → ((w : ℕ) → IsVertex g.network.n w → has out w ≡ has B.outside w) → NoneIsCertain g.network B → IsVertex g.network.n v → MayJoin g out v → IsTreeOf g B (record { start = v; arcs = [] })
alone_tree g B out v graph branch same free vertex here = record {
  tree = record {
    arborescence = record { start = vertex; grows = tt };
    required = λ w there h. absurd (clash (certain_required g.network B w h) (free w there));
  };
  reaches = alone_reaches g B out v branch same free vertex here;
  present = λ w h. subst (λ x. IsTrue (is_in g x)) (has-one v w h) here.present;
}

-- the start of a tree that reaches what the branch says may join
pub start_may_join : (g : Graph) (B : Branch) (out : List ℕ) (t : Tree) → IsGraph g → ((w : ℕ) → IsVertex g.network.n w → has out w ≡ has B.outside w) → ReachesAsTold B t → ReachesPresent g t → IsVertex g.network.n t.start × MayJoin g out t.start
start_may_join g B out t graph same reaches present =
    let there = has-reached_from (t.start ∷ []) t.arcs t.start (has-cons_head [] t.start t.start refl) in
    let vertex = in_range g t.start graph (present t.start there) in
    (vertex, record { present = present t.start there; inside = same t.start vertex ∙ false_from_ne_true (has B.outside t.start) (λ o. clash there (reaches.outside t.start o)) })

-- of two trees without arcs the one whose start pays more costs no more
pub dearer_alone : (I : Network) (s t : Tree) → LoneStartsMissTheRest → IsVertex I.n s.start → IsVertex I.n t.start → s.arcs ≡ [] → t.arcs ≡ [] → pays I s.start ≤ pays I t.start → cost I t ≤ cost I s
dearer_alone I s t law s_vertex t_vertex s_none t_none less =
    let s_cost = law I s s_vertex s_none in
    let t_cost = law I t t_vertex t_none in
    omega (arith, s_cost, t_cost, less)

-- the start is reached
pub start_in : (g : Graph) (out : List ℕ) (s : Spread) (start : ℕ) → IsSpread g out s → s.start ≡ start → IsTrue (has s.reached.members start)
start_in g out s start is at = subst (λ v. IsTrue (has s.reached.members v)) at (is.same s.start ∙ has-reached_from (s.start ∷ []) s.arcs.items s.start (has-cons_head [] s.start s.start refl))

-- where no vertex is missing in the empty set, a vertex alone is a tree
pub none_required : (I : Network) (g : Graph) (B : Branch) (set : List ℕ) → IsInstance I → g.network ≡ I → set ≡ [] → ((v : ℕ) → IsVertex g.network.n v → IsTrue (is_certain g.network B v) → IsTrue (has set v)) → IsTree I (record { start = 1; arcs = [] })
none_required I g B set instance network empty all = first_alone I instance (λ v vertex h.
    let vertex_there = subst (λ (J : Network). IsVertex J.n v) (sym network) vertex in
    let required_there = subst (λ (J : Network). IsTrue (is_required J v)) (sym network) h in
    clash (all v vertex_there (certain_required g.network B v required_there)) (ap (λ l. has l v) empty))

-- where nobody is inside, who is certain is required
only_required : (I : Network) (B : Branch) (v : ℕ) → B.inside ≡ [] → IsTrue (is_certain I B v) → IsTrue (is_required I v)
only_required I B v none h = elim (or_cases (is_required I v) (has B.inside v) h) [
  | inl required ↦ required
  | inr inside ↦ absurd (clash inside (ap (λ l. has l v) none))
]

-- the reached vertices are a wall
pub found_wall : (I : Network) (g : Graph) (B : Branch) (out R wall : List ℕ) (c d last : ℕ) → IsInstance I → g.network ≡ I → B.inside ≡ [] → out ≡ [] → IsClosed g.network out R R → last ≡ I.n → IsVertexSet last wall → ((v : ℕ) → IsVertex last v → has wall v ≡ has R v) → IsVertex g.network.n c → IsTrue (is_certain g.network B c) → IsTrue (has R c) → IsVertex g.network.n d → IsTrue (is_certain g.network B d) → IsFalse (has R d) → IsWall I wall
found_wall I g B out R wall c d last instance network none nothing closed count set same c_vertex c_certain c_in d_vertex d_certain d_out =
    let closed_here = subst (λ (J : Network). IsClosed J [] R R) network (subst (λ o. IsClosed g.network o R R) nothing closed) in
    let vertex : (v : ℕ) → IsVertex g.network.n v → IsVertex I.n v = λ v h. subst (λ (J : Network). IsVertex J.n v) network h in
    let required : (v : ℕ) → IsTrue (is_certain g.network B v) → IsTrue (is_required I v) = λ v h. subst (λ (J : Network). IsTrue (is_required J v)) network (only_required g.network B v none h) in
    is_wall I R wall c d instance closed_here (subst (λ n. IsVertexSet n wall) count set) (λ v h. same v (subst (λ n. IsVertex n v) (sym count) h)) (vertex c c_vertex) (required c c_certain) c_in (vertex d d_vertex) (required d d_certain) d_out
