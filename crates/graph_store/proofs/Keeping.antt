-- That the parts of a store stand for a graph, kept over each change.
use Rattle.std.proofs.Common.{◌≡◌, ℕ, zero, suc, ◌+◌, ◌-◌, ◌^◌, ◌<◌, ◌≤◌, Bool, true, false, eqb, List, length, get_or, set, refl, sym, ap, subst, ◌∙◌, arith}
use Rattle.std.proofs.lemmas.Bool.Decides.{nat_tests}
use Rattle.std.proofs.lemmas.List.{get_or-map, length-map, length-set, get_or-set_same, get_or-set_other}
use Rattle.std.proofs.lemmas.Map.Keys.{apart_from_distinct}
use Rattle.std.specs.Map.{keys_of}
use Rattle.std.specs.Prelude.{AllPairs, IsFalse}
use Rattle.st_model.specs.declared.link.Link.{Link}
use Rattle.st_model.specs.declared.need.Need.{Need}
use Rattle.st_model.specs.declared.need.Need.TheVariants.{Required}
use Rattle.st_model.specs.Lists.{sum_to}
use Rattle.st_model.specs.Network.{IsVertex, joins, pays, prize, amount}
use Rattle.graph_store.specs.Graph.{IsGraph}
use Rattle.graph_store.specs.Joined.{Entry, Linked, is_pair, link_of, links_of, graph_of, ArePairs, IsOrdered}
use Rattle.graph_store.proofs.Pairs.{same_pair}

-- links of pairs that stand once are each of another pair
pub one_each : (es : List Entry) → ArePairs es → AllPairs (λ l m. IsFalse (joins m l.a l.b)) (links_of es)
one_each es pairs i j d before within =
    let inside : j < length es = omega (arith, length-map es link_of) in
    let keys_inside : j < length (keys_of es) = omega (arith, length-map es (λ (e : Entry). e.0)) in
    let nothing : Entry = ((0, 0), record { cost = 0; low = 0; high = 0 }) in
    let x = get_or es i nothing in
    let y = get_or es j nothing in
    let first : get_or (links_of es) i d ≡ link_of x = get_or-map link_of es i nothing d (omega arith) in
    let last : get_or (links_of es) j d ≡ link_of y = get_or-map link_of es j nothing d inside in
    let first_key : get_or (keys_of es) i (0, 0) ≡ x.0 = get_or-map (λ (e : Entry). e.0) es i nothing (0, 0) (omega arith) in
    let last_key : get_or (keys_of es) j (0, 0) ≡ y.0 = get_or-map (λ (e : Entry). e.0) es j nothing (0, 0) inside in
    let x_ordered : IsOrdered x.0 = subst IsOrdered first_key (pairs.ordered i (0, 0) (omega arith)) in
    let y_ordered : IsOrdered y.0 = subst IsOrdered last_key (pairs.ordered j (0, 0) keys_inside) in
    let apart : same_pair x.0 y.0 ≡ false = ap (λ (p : (ℕ × ℕ) × (ℕ × ℕ)). same_pair p.0 p.1) (λ k. (sym first_key k, sym last_key k)) ∙ apart_from_distinct same_pair (keys_of es) i j (0, 0) pairs.once before keys_inside in
    ap (λ (p : Link × Link). joins p.1 p.0.a p.0.b) (λ k. (first k, last k)) ∙ unjoined x.0.0 x.0.1 y.0.0 y.0.1 y.1.cost x_ordered y_ordered apart
  where
    unjoined : (a b c d cost : ℕ) → a < b → c < d → is_pair a b (c, d) ≡ false → joins (record { a = c; b = d; cost = cost }) a b ≡ false
    unjoined a b c d cost first second apart = grind (arith, nat_tests)

-- a sum to n of which one part is another
sum_to_set : (f g : ℕ → ℕ) (v n : ℕ) → ((w : ℕ) → 1 ≤ w → (w ≡ v → ⊥) → g w ≡ f w) → (v ≤ n → 1 ≤ v → sum_to g n + f v ≡ sum_to f n + g v) × (n < v → sum_to g n ≡ sum_to f n)
sum_to_set f g v zero others = (λ a b. absurd (omega arith), λ h. refl)
sum_to_set f g v (suc n) others = let rest = sum_to_set f g v n others in (by_case rest (eqb (suc n) v) refl, λ h. let last = others (suc n) (omega arith) (λ e. omega arith) in let before : sum_to g n ≡ sum_to f n = rest.1 (omega arith) in omega arith)
  where
    by_case : ((v ≤ n → 1 ≤ v → sum_to g n + f v ≡ sum_to f n + g v) × (n < v → sum_to g n ≡ sum_to f n)) → (b : Bool) → eqb (suc n) v ≡ b → v ≤ suc n → 1 ≤ v → sum_to g n + g (suc n) + f v ≡ sum_to f n + f (suc n) + g v
    by_case rest true is within some =
        let is' : suc n ≡ v = grind (arith, nat_tests) in
        let before : sum_to g n ≡ sum_to f n = rest.1 (omega arith) in
        let g_here = ap g is' in
        let f_here = ap f is' in
        omega arith
    by_case rest false is within some =
        let apart : suc n ≡ v → ⊥ = λ e. grind (arith, nat_tests) in
        let last = others (suc n) (omega arith) apart in
        let before : sum_to g n + f v ≡ sum_to f n + g v = rest.0 (omega arith) some in
        omega arith

module _ (x : Linked) (needs : List Need) (present : List Bool) (v : ℕ) (need : Need) (vertex : IsVertex x.n v) (graph : IsGraph (graph_of x needs present)) where
  -- what can be paid where a vertex needs something else
  pub amount_put : amount (graph_of x (set needs (v - 1) need) present).network + pays (graph_of x needs present).network v ≡ amount (graph_of x needs present).network + prize need
  amount_put =
      let sums : sum_to (pays (graph_of x (set needs (v - 1) need) present).network) x.n + prize (get_or needs (v - 1) Required) ≡ sum_to (pays (graph_of x needs present).network) x.n + prize (get_or (set needs (v - 1) need) (v - 1) Required) = (sum_to_set (λ w. prize (get_or needs (w - 1) Required)) (λ w. prize (get_or (set needs (v - 1) need) (w - 1) Required)) v x.n others).0 vertex.1 vertex.0 in
      let inside : v - 1 < length needs = (let long = graph.instance.needs in omega (arith, vertex.0, vertex.1)) in
      let here : prize (get_or (set needs (v - 1) need) (v - 1) Required) ≡ prize need = ap prize (get_or-set_same needs (v - 1) need Required inside) in
      omega arith
    where
      others : (w : ℕ) → 1 ≤ w → (w ≡ v → ⊥) → prize (get_or (set needs (v - 1) need) (w - 1) Required) ≡ prize (get_or needs (w - 1) Required)
      others w some other = ap prize (get_or-set_other needs (v - 1) (w - 1) need Required (λ e. omega (arith, vertex.0)))

  -- the graph then
  pub needs_put : amount (graph_of x needs present).network + prize need < 2 ^ 63 + pays (graph_of x needs present).network v → IsGraph (graph_of x (set needs (v - 1) need) present)
  needs_put fits = record {
    instance = record {
      some_vertex = graph.instance.some_vertex;
      few_vertices = graph.instance.few_vertices;
      ends = graph.instance.ends;
      one_each = graph.instance.one_each;
      needs = length-set needs (v - 1) need ∙ graph.instance.needs;
      amount = let all = amount_put in omega arith;
    };
    here = graph.here;
    ends = graph.ends;
  }
